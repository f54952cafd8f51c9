-- What stands in a state is right.
use Rattle.std.proofs.Common.{◌≡◌, ◌≢◌, ℕ, ◌≤◌, Bool, true, false, inl, inr, List, [], ◌∷◌, Some, refl, sym, ◌∙◌, ap, subst, arith}
use Rattle.std.specs.Prelude.{nat_le, nat_lt}
use Rattle.std.proofs.lemmas.Bool.{leb-true, ltb-false}
use Rattle.std.proofs.lemmas.Option.{same_Some}
use Rattle.es_expressions.specs.Roles.{front, joint, strength, is_name}
use Rattle.es_expressions.specs.Phrases.{Phrase}
use Rattle.es_expressions.specs.Phrases.Phrase.{Leaf, Group, Index, Member, CallEmpty, CallWith, NewPlain, NewEmpty, NewWith, Postfix, Signed, Stepped, Binary, Choice, Assign, Comma}
use Rattle.es_expressions.specs.Grammar.{IsExpression, level, is_target, takes_links}
use Rattle.es_expressions.specs.Machine.{Opening, hole, edge, made_level, hole_of, edge_of, if_target, closed, reach, Operand, operand, settled, State, when, with_call, with_close, with_key_end, with_colon, join, with_empty, begin, move, run, IsOpen, AreOpen, IsRight}
use Rattle.es_expressions.specs.Machine.Opening.{InGroup, InKey, InCall, InNew, InNewCall, InSigned, InStepped, InBinary, InChosen, InOther, InAssign, InComma}
use Rattle.es_expressions.specs.Machine.State.{Before, Behind, Naming}
use Rattle.es_expressions.specs.declared.lexemes.Lexeme.{Lexeme}
use Rattle.es_expressions.specs.declared.roles.Front.{Front}
use Rattle.es_expressions.specs.declared.roles.Front.TheVariants.{Whole, Group as GroupFront, Creation, Sign, Step as StepFront, Nothing as NoFront}
use Rattle.es_expressions.specs.declared.roles.Joint.{Joint}
use Rattle.es_expressions.specs.declared.roles.Joint.TheVariants.{Dot, Key, Call, Step as StepJoint, Operator, Choice as ChoiceJoint, Assignment, Comma as CommaJoint, Close, KeyEnd, Colon, Nothing as NoJoint}
use Rattle.es_expressions.specs.Roles.{strength_of}
use Rattle.es_expressions.proofs.RoleLemmas.{joint-bounds, strength-bound}
use Rattle.es_expressions.proofs.LevelLemmas.{takes-from, takes-min}
use Rattle.es_expressions.proofs.SettleLemmas.{settle-cases, run-cases, joined-cases, hole-bound, low-hole}

abbrev pub IsAtLeast : ℕ → Phrase → Type 0
IsAtLeast m w = IsExpression w × (m ≤ level w)

carried : (m : ℕ) (a w : Phrase) → Some a ≡ Some w → IsExpression a → m ≤ level a → IsAtLeast m w
carried m a w h g l = subst (λ x. IsAtLeast m x) (same_Some a w h) (g, l)

target-carried : (m : ℕ) (b : Bool) (a w : Phrase) → if_target b a ≡ Some w → (b ≡ true → IsExpression a) → m ≤ level a → IsAtLeast m w
target-carried m true a w h g l = carried m a w h (g refl) l
target-carried m false a w h g l = absurd (cc)

closed-right : (f : Opening) (e w : Phrase) → IsExpression e → IsOpen f → hole f ≤ level e → closed f e ≡ Some w → IsAtLeast (made_level f) w
closed-right (InNew n) e w g o l h = carried 17 (NewPlain n e) w h (o, g, l) (omega arith)
closed-right (InSigned k) e w g o l h = carried 14 (Signed k e) w h (o, g, l) (omega arith)
closed-right (InStepped k) e w g o l h = target-carried 14 (is_target e) (Stepped k e) w h (λ b. (o, g, b)) (omega arith)
closed-right (InBinary a k) e w g o l h = carried (strength k) (Binary a k e) w h (o.0, o.1, g, o.2, l) (omega arith)
closed-right (InOther a q b c) e w g o l h = carried 2 (Choice a q b c e) w h (o.0, o.1, o.2, o.3, o.4, o.5, g, l) (omega arith)
closed-right (InAssign a k) e w g o l h = carried 2 (Assign a k e) w h (o.0, o.1, o.2, g, l) (omega arith)
closed-right (InComma a k) e w g o l h = carried 1 (Comma a k e) w h (o.0, o.1, g, l) (omega arith)
closed-right _ e w g o l h = absurd (cc)

pub record IsSettled (base : ℕ) (r : ℕ) (o : Operand) : Type 0 where
  pub expression : IsExpression o.phrase
  pub are_open : AreOpen base o.openings
  pub fits : hole_of base o.openings ≤ level o.phrase
  pub low : edge_of o.openings ≤ r

stays-settled : (base r : ℕ) (a o : Operand) → Some a ≡ Some o → IsSettled base r a → IsSettled base r o
stays-settled base r a o h s = subst (λ x. IsSettled base r x) (same_Some a o h) s

pub settled-right : (base : ℕ) (fs : List Opening) (r : ℕ) (e : Phrase) (o : Operand) → IsExpression e → AreOpen base fs → hole_of base fs ≤ level e → settled fs r e ≡ Some o → IsSettled base r o
unfolding settled
settled-right base [] r e o g a l h = stays-settled base r (operand e []) o h (record { expression = g; are_open = tt; fits = l; low = omega arith })
settled-right base (f ∷ fs) r e o g a l h =
    settle-cases (nat_lt r (edge f)) (closed f e) (λ w. settled fs r w) (Some (operand e (f ∷ fs))) o h
    (λ w b c q. let made : IsAtLeast (made_level f) w = closed-right f e w g a.0 l c in
    settled-right base fs r w o made.0 a.2 (omega (arith, made.1, a.1)) q)
    (λ b s. stays-settled base r (operand e (f ∷ fs)) o s (record { expression = g; are_open = a; fits = l; low = ltb-false r (edge f) b }))

some-right : (base : ℕ) (s n : State) → Some s ≡ Some n → IsRight base s → IsRight base n
some-right base s n h r = subst (λ x. IsRight base x) (same_Some s n h) r

when-right : (base : ℕ) (b : Bool) (s n : State) → when b s ≡ Some n → (b ≡ true → IsRight base s) → IsRight base n
when-right base true s n h r = some-right base s n h (r refl)
when-right base false s n h r = absurd (cc)

highest : (n : ℕ) → 17 ≤ n → n ≢ 17 → 18 ≤ n
highest n a b = omega arith

call-right : (base : ℕ) → base ≤ 2 → (t : Lexeme) (e : Phrase) (fs : List Opening) → joint t ≡ Call → IsExpression e → AreOpen base fs → hole_of base fs ≤ level e → takes_links e ≡ true → AreOpen base (with_call t e fs)
call-right base b t e [] j g a l k = ((g, k, j), omega arith, tt)
call-right base b t e (InNew n ∷ fs) j g a l k = let s = takes-from (level e) k in ((a.0, g, highest (level e) l s.1, j), omega (arith, hole-bound base b fs), a.2)
call-right base b t e (InBinary x y ∷ fs) j g a l k = ((g, k, j), omega (arith, strength-bound y), a)
call-right base b t e (_ ∷ fs) j g a l k = ((g, k, j), omega arith, a)

close-right : (base : ℕ) → base ≤ 2 → (t : Lexeme) (e : Phrase) (fs : List Opening) (n : State) → joint t ≡ Close → IsExpression e → AreOpen base fs → with_close t e fs ≡ Some n → IsRight base n
close-right base b t e (InGroup o ∷ fs) n j g a h = some-right base (Behind (Group o e t) fs) n h ((a.0, g, j), a.2, omega (arith, hole-bound base b fs), inl refl)
close-right base b t e (InCall f o ∷ fs) n j g a h = some-right base (Behind (CallWith f o e t) fs) n h ((a.0.0, a.0.1, a.0.2, g, j), a.2, a.1, inl refl)
close-right base b t e (InNewCall x f o ∷ fs) n j g a h = some-right base (Behind (NewWith x f o e t) fs) n h ((a.0.0, a.0.1, a.0.2, a.0.3, g, j), a.2, a.1, inl refl)
close-right base b t e [] n j g a h = absurd (cc)
close-right base b t e (_ ∷ fs) n j g a h = absurd (cc)

key-right : (base : ℕ) (t : Lexeme) (e : Phrase) (fs : List Opening) (n : State) → joint t ≡ KeyEnd → IsExpression e → AreOpen base fs → with_key_end t e fs ≡ Some n → IsRight base n
key-right base t e (InKey x o ∷ fs) n j g a h = some-right base (Behind (Index x o e t) fs) n h ((a.0.0, a.0.1, a.0.2, g, j), a.2, a.1, inl (takes-min (level x) a.0.1))
key-right base t e [] n j g a h = absurd (cc)
key-right base t e (_ ∷ fs) n j g a h = absurd (cc)

colon-right : (base : ℕ) (t : Lexeme) (e : Phrase) (fs : List Opening) (n : State) → joint t ≡ Colon → IsExpression e → AreOpen base fs → hole_of base fs ≤ level e → with_colon t e fs ≡ Some n → IsRight base n
colon-right base t e (InChosen x q ∷ fs) n j g a l h = some-right base (Before (InOther x q e t ∷ fs)) n h ((a.0.0, a.0.1, a.0.2, g, l, j), a.1, a.2)
colon-right base t e [] n j g a l h = absurd (cc)
colon-right base t e (_ ∷ fs) n j g a l h = absurd (cc)

same-strength : (t : Lexeme) (k : ℕ) → joint t ≡ Operator k → strength t ≡ k
same-strength t k j = ap strength_of j

join-right : (base : ℕ) → base ≤ 2 → (j : Joint) (t : Lexeme) (e : Phrase) (fs : List Opening) (n : State) → joint t ≡ j → IsExpression e → AreOpen base fs → hole_of base fs ≤ level e → edge_of fs ≤ reach j → join base j t e fs ≡ Some n → IsRight base n
join-right base b Dot t e fs n q g a l w h = when-right base (takes_links e) (Naming e t fs) n h (λ k. (g, a, l, k, q))
join-right base b Key t e fs n q g a l w h = when-right base (takes_links e) (Before (InKey e t ∷ fs)) n h (λ k. ((g, k, q), omega (arith, hole-bound base b fs), a))
join-right base b Call t e fs n q g a l w h = when-right base (takes_links e) (Before (with_call t e fs)) n h (λ k. call-right base b t e fs q g a l k)
join-right base b StepJoint t e fs n q g a l w h =
    let low : hole_of base fs ≤ 15 = low-hole base b 15 (omega arith) fs w in
    when-right base (is_target e) (Behind (Postfix e t) fs) n h (λ k. ((g, k, q), a, low, inr low))
join-right base b (Operator k) t e fs n q g a l w h =
    let same : strength t ≡ k = same-strength t k q in
    let bounds = joint-bounds t k q in
    let low : hole_of base fs ≤ k = low-hole base b k (omega (arith, bounds.0)) fs w in
    when-right base (nat_le k (level e)) (Before (InBinary e t ∷ fs)) n h
    (λ x. ((g, q ∙ ap (λ y. Operator y) (sym same), omega (arith, leb-true k (level e) x)), omega arith, a))
join-right base b ChoiceJoint t e fs n q g a l w h =
    when-right base (nat_le 4 (level e)) (Before (InChosen e t ∷ fs)) n h
    (λ x. ((g, leb-true 4 (level e) x, q), low-hole base b 2 (omega arith) fs w, a))
join-right base b Assignment t e fs n q g a l w h =
    when-right base (is_target e) (Before (InAssign e t ∷ fs)) n h
    (λ x. ((g, x, q), low-hole base b 2 (omega arith) fs w, a))
join-right base b CommaJoint t e fs n q g a l w h =
    when-right base (nat_le (hole_of base fs) 1) (Before (InComma e t ∷ fs)) n h
    (λ x. ((g, q), leb-true (hole_of base fs) 1 x, a))
join-right base b Close t e fs n q g a l w h = close-right base b t e fs n q g a h
join-right base b KeyEnd t e fs n q g a l w h = key-right base t e fs n q g a h
join-right base b Colon t e fs n q g a l w h = colon-right base t e fs n q g a l h
join-right base b NoJoint t e fs n q g a l w h = absurd (cc)

empty-right : (base : ℕ) (j : Joint) (t : Lexeme) (fs : List Opening) (n : State) → joint t ≡ j → AreOpen base fs → with_empty j t fs ≡ Some n → IsRight base n
empty-right base Close t (InCall f o ∷ fs) n q a h = some-right base (Behind (CallEmpty f o t) fs) n h ((a.0.0, a.0.1, a.0.2, q), a.2, a.1, inl refl)
empty-right base Close t (InNewCall x f o ∷ fs) n q a h = some-right base (Behind (NewEmpty x f o t) fs) n h ((a.0.0, a.0.1, a.0.2, a.0.3, q), a.2, a.1, inl refl)
empty-right base Close t [] n q a h = absurd (cc)
empty-right base Close t (_ ∷ fs) n q a h = absurd (cc)
empty-right base _ t fs n q a h = absurd (cc)

begin-right : (base : ℕ) → base ≤ 2 → (f : Front) (t : Lexeme) (fs : List Opening) (n : State) → front t ≡ f → AreOpen base fs → begin base f t fs ≡ Some n → IsRight base n
begin-right base b Whole t fs n q a h = some-right base (Behind (Leaf t) fs) n h (q, a, omega (arith, hole-bound base b fs), inl refl)
begin-right base b GroupFront t fs n q a h = some-right base (Before (InGroup t ∷ fs)) n h (q, omega (arith, hole-bound base b fs), a)
begin-right base b Creation t fs n q a h = some-right base (Before (InNew t ∷ fs)) n h (q, hole-bound base b fs, a)
begin-right base b Sign t fs n q a h = when-right base (nat_le (hole_of base fs) 14) (Before (InSigned t ∷ fs)) n h (λ x. (q, leb-true (hole_of base fs) 14 x, a))
begin-right base b StepFront t fs n q a h = when-right base (nat_le (hole_of base fs) 14) (Before (InStepped t ∷ fs)) n h (λ x. (q, leb-true (hole_of base fs) 14 x, a))
begin-right base b NoFront t fs n q a h = empty-right base (joint t) t fs n refl a h

pub move-right : (base : ℕ) → base ≤ 2 → (s : State) (t : Lexeme) (n : State) → IsRight base s → move base s t ≡ Some n → IsRight base n
unfolding move
move-right base b (Before fs) t n r h = begin-right base b (front t) t fs n refl r h
move-right base b (Behind e fs) t n r h =
    joined-cases base t (settled fs (reach (joint t)) e) n h
    (λ p q g. let s = settled-right base fs (reach (joint t)) e p r.0 r.1 r.2 q in
    join-right base b (joint t) t p.phrase p.openings n refl s.expression s.are_open s.fits s.low g)
move-right base b (Naming e d fs) t n r h =
    when-right base (is_name t.symbol) (Behind (Member e d t) fs) n h
    (λ k. ((r.0, r.3, r.4, k), r.1, omega (arith, hole-bound base b fs, r.2), inl (takes-min (level e) r.3)))

pub run-right : (base : ℕ) → base ≤ 2 → (ts : List Lexeme) (s n : State) → IsRight base s → run base ts s ≡ Some n → IsRight base n
unfolding run
run-right base b [] s n r h = some-right base s n h r
run-right base b (t ∷ ts) s n r h =
    run-cases (move base s t) (λ next. run base ts next) n h
    (λ m q g. run-right base b ts m n (move-right base b s t m r q) g)
