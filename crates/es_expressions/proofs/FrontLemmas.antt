-- What was read stands in front: a state has the tokens that led to it.
use Rattle.std.proofs.Common.{◌≡◌, ℕ, Bool, true, false, List, [], ◌∷◌, ◌++◌, Some, refl, sym, ◌∙◌, ap}
use Rattle.std.specs.Prelude.{nat_le, nat_lt}
use Rattle.std.proofs.lemmas.Option.{same_Some}
use Rattle.es_expressions.specs.Roles.{front, joint, is_name}
use Rattle.es_expressions.specs.Phrases.{Phrase, spelled}
use Rattle.es_expressions.specs.Phrases.Phrase.{Leaf, Group, Index, Member, CallEmpty, CallWith, NewPlain, NewEmpty, NewWith, Postfix, Signed, Stepped, Binary, Choice, Assign, Comma}
use Rattle.es_expressions.specs.Grammar.{level, is_target, takes_links}
use Rattle.es_expressions.specs.Machine.{Opening, edge, hole_of, if_target, closed, reach, Operand, operand, settled, State, behind, when, with_call, with_close, with_key_end, with_colon, join, with_empty, begin, move, run, opened, ahead, in_front}
use Rattle.es_expressions.specs.Machine.Opening.{InGroup, InKey, InCall, InNew, InNewCall, InSigned, InStepped, InBinary, InChosen, InOther, InAssign, InComma}
use Rattle.es_expressions.specs.Machine.State.{Before, Behind, Naming}
use Rattle.es_expressions.specs.declared.lexemes.Lexeme.{Lexeme}
use Rattle.es_expressions.specs.declared.roles.Front.{Front}
use Rattle.es_expressions.specs.declared.roles.Front.TheVariants.{Whole, Group as GroupFront, Creation, Sign, Step as StepFront, Nothing as NoFront}
use Rattle.es_expressions.specs.declared.roles.Joint.{Joint}
use Rattle.es_expressions.specs.declared.roles.Joint.TheVariants.{Dot, Key, Call, Step as StepJoint, Operator, Choice as ChoiceJoint, Assignment, Comma as CommaJoint, Close, KeyEnd, Colon, Nothing as NoJoint}
use Rattle.es_expressions.proofs.SettleLemmas.{settle-cases, run-cases, joined-cases}

same-spelled : (a b : Phrase) (rest : List Lexeme) → Some a ≡ Some b → spelled a rest ≡ spelled b rest
same-spelled a b rest h = ap (λ x. spelled x rest) (same_Some a b h)

target-front : (b : Bool) (a w : Phrase) (rest : List Lexeme) → if_target b a ≡ Some w → spelled a rest ≡ spelled w rest
target-front true a w rest h = same-spelled a w rest h
target-front false a w rest h = absurd (cc)

closed-front : (f : Opening) (e w : Phrase) (rest : List Lexeme) → closed f e ≡ Some w → opened f (spelled e rest) ≡ spelled w rest
closed-front (InNew n) e w rest h = same-spelled (NewPlain n e) w rest h
closed-front (InSigned k) e w rest h = same-spelled (Signed k e) w rest h
closed-front (InStepped k) e w rest h = target-front (is_target e) (Stepped k e) w rest h
closed-front (InBinary a k) e w rest h = same-spelled (Binary a k e) w rest h
closed-front (InOther a q b c) e w rest h = same-spelled (Choice a q b c e) w rest h
closed-front (InAssign a k) e w rest h = same-spelled (Assign a k e) w rest h
closed-front (InComma a k) e w rest h = same-spelled (Comma a k e) w rest h
closed-front _ e w rest h = absurd (cc)

same-operand : (a b : Operand) (rest : List Lexeme) → Some a ≡ Some b → in_front (behind b) rest ≡ in_front (behind a) rest
same-operand a b rest h = ap (λ x. in_front (behind x) rest) (sym (same_Some a b h))

pub settled-front : (fs : List Opening) (r : ℕ) (e : Phrase) (o : Operand) (rest : List Lexeme) → settled fs r e ≡ Some o → in_front (behind o) rest ≡ in_front (Behind e fs) rest
unfolding settled
settled-front [] r e o rest h = same-operand (operand e []) o rest h
settled-front (f ∷ fs) r e o rest h =
    settle-cases (nat_lt r (edge f)) (closed f e) (λ w. settled fs r w) (Some (operand e (f ∷ fs))) o h
    (λ w b c g. settled-front fs r w o rest g ∙ ap (ahead fs) (sym (closed-front f e w rest c)))
    (λ b s. same-operand (operand e (f ∷ fs)) o rest s)

some-front : (s n : State) (rest : List Lexeme) → Some s ≡ Some n → in_front n rest ≡ in_front s rest
some-front s n rest h = ap (λ x. in_front x rest) (sym (same_Some s n h))

when-front : (b : Bool) (s n : State) (rest : List Lexeme) → when b s ≡ Some n → in_front n rest ≡ in_front s rest
when-front true s n rest h = some-front s n rest h
when-front false s n rest h = absurd (cc)

call-front : (t : Lexeme) (e : Phrase) (fs : List Opening) (rest : List Lexeme) → ahead (with_call t e fs) rest ≡ ahead fs (spelled e (t ∷ rest))
call-front t e [] rest = refl
call-front t e (InNew n ∷ fs) rest = refl
call-front t e (_ ∷ fs) rest = refl

close-front : (t : Lexeme) (e : Phrase) (fs : List Opening) (n : State) (rest : List Lexeme) → with_close t e fs ≡ Some n → in_front n rest ≡ ahead fs (spelled e (t ∷ rest))
close-front t e (InGroup o ∷ fs) n rest h = some-front (Behind (Group o e t) fs) n rest h
close-front t e (InCall f o ∷ fs) n rest h = some-front (Behind (CallWith f o e t) fs) n rest h
close-front t e (InNewCall x f o ∷ fs) n rest h = some-front (Behind (NewWith x f o e t) fs) n rest h
close-front t e [] n rest h = absurd (cc)
close-front t e (_ ∷ fs) n rest h = absurd (cc)

key-front : (t : Lexeme) (e : Phrase) (fs : List Opening) (n : State) (rest : List Lexeme) → with_key_end t e fs ≡ Some n → in_front n rest ≡ ahead fs (spelled e (t ∷ rest))
key-front t e (InKey b o ∷ fs) n rest h = some-front (Behind (Index b o e t) fs) n rest h
key-front t e [] n rest h = absurd (cc)
key-front t e (_ ∷ fs) n rest h = absurd (cc)

colon-front : (t : Lexeme) (e : Phrase) (fs : List Opening) (n : State) (rest : List Lexeme) → with_colon t e fs ≡ Some n → in_front n rest ≡ ahead fs (spelled e (t ∷ rest))
colon-front t e (InChosen a q ∷ fs) n rest h = some-front (Before (InOther a q e t ∷ fs)) n rest h
colon-front t e [] n rest h = absurd (cc)
colon-front t e (_ ∷ fs) n rest h = absurd (cc)

join-front : (base : ℕ) (j : Joint) (t : Lexeme) (e : Phrase) (fs : List Opening) (n : State) (rest : List Lexeme) → join base j t e fs ≡ Some n → in_front n rest ≡ ahead fs (spelled e (t ∷ rest))
join-front base Dot t e fs n rest h = when-front (takes_links e) (Naming e t fs) n rest h
join-front base Key t e fs n rest h = when-front (takes_links e) (Before (InKey e t ∷ fs)) n rest h
join-front base Call t e fs n rest h = when-front (takes_links e) (Before (with_call t e fs)) n rest h ∙ call-front t e fs rest
join-front base StepJoint t e fs n rest h = when-front (is_target e) (Behind (Postfix e t) fs) n rest h
join-front base (Operator k) t e fs n rest h = when-front (nat_le k (level e)) (Before (InBinary e t ∷ fs)) n rest h
join-front base ChoiceJoint t e fs n rest h = when-front (nat_le 4 (level e)) (Before (InChosen e t ∷ fs)) n rest h
join-front base Assignment t e fs n rest h = when-front (is_target e) (Before (InAssign e t ∷ fs)) n rest h
join-front base CommaJoint t e fs n rest h = when-front (nat_le (hole_of base fs) 1) (Before (InComma e t ∷ fs)) n rest h
join-front base Close t e fs n rest h = close-front t e fs n rest h
join-front base KeyEnd t e fs n rest h = key-front t e fs n rest h
join-front base Colon t e fs n rest h = colon-front t e fs n rest h
join-front base NoJoint t e fs n rest h = absurd (cc)

empty-front : (j : Joint) (t : Lexeme) (fs : List Opening) (n : State) (rest : List Lexeme) → with_empty j t fs ≡ Some n → in_front n rest ≡ ahead fs (t ∷ rest)
empty-front Close t (InCall f o ∷ fs) n rest h = some-front (Behind (CallEmpty f o t) fs) n rest h
empty-front Close t (InNewCall x f o ∷ fs) n rest h = some-front (Behind (NewEmpty x f o t) fs) n rest h
empty-front Close t [] n rest h = absurd (cc)
empty-front Close t (_ ∷ fs) n rest h = absurd (cc)
empty-front _ t fs n rest h = absurd (cc)

begin-front : (base : ℕ) (f : Front) (t : Lexeme) (fs : List Opening) (n : State) (rest : List Lexeme) → begin base f t fs ≡ Some n → in_front n rest ≡ ahead fs (t ∷ rest)
begin-front base Whole t fs n rest h = some-front (Behind (Leaf t) fs) n rest h
begin-front base GroupFront t fs n rest h = some-front (Before (InGroup t ∷ fs)) n rest h
begin-front base Creation t fs n rest h = some-front (Before (InNew t ∷ fs)) n rest h
begin-front base Sign t fs n rest h = when-front (nat_le (hole_of base fs) 14) (Before (InSigned t ∷ fs)) n rest h
begin-front base StepFront t fs n rest h = when-front (nat_le (hole_of base fs) 14) (Before (InStepped t ∷ fs)) n rest h
begin-front base NoFront t fs n rest h = empty-front (joint t) t fs n rest h

pub move-front : (base : ℕ) (s : State) (t : Lexeme) (n : State) (rest : List Lexeme) → move base s t ≡ Some n → in_front n rest ≡ in_front s (t ∷ rest)
unfolding move
move-front base (Before fs) t n rest h = begin-front base (front t) t fs n rest h
move-front base (Behind e fs) t n rest h =
    joined-cases base t (settled fs (reach (joint t)) e) n h
    (λ p q g. join-front base (joint t) t p.phrase p.openings n rest g ∙ settled-front fs (reach (joint t)) e p (t ∷ rest) q)
move-front base (Naming e d fs) t n rest h = when-front (is_name t.symbol) (Behind (Member e d t) fs) n rest h

pub run-front : (base : ℕ) (ts : List Lexeme) (s n : State) (rest : List Lexeme) → run base ts s ≡ Some n → in_front n rest ≡ in_front s (ts ++ rest)
unfolding run
run-front base [] s n rest h = some-front s n rest h
run-front base (t ∷ ts) s n rest h =
    run-cases (move base s t) (λ next. run base ts next) n h
    (λ m q g. run-front base ts m n rest g ∙ move-front base s t m (ts ++ rest) q)
