-- What the reader's steps come to, in plain variables.
use Rattle.std.proofs.Common.{◌≡◌, ℕ, suc, ◌≤◌, ◌<◌, Bool, true, false, List, [], ◌∷◌, Option, Some, None, refl, sym, ◌∙◌, ap, subst, arith}
use Rattle.std.specs.Prelude.{not, nat_le, Result, Ok, Err, IfOk}
use Rattle.std.proofs.lemmas.Bool.{leb-true, le-leb}
use Rattle.es_expressions.specs.Roles.{joint, strength_of}
use Rattle.es_expressions.specs.Phrases.{Phrase}
use Rattle.es_expressions.specs.Phrases.Phrase.{Postfix}
use Rattle.es_expressions.specs.Grammar.{level, is_target, takes_links, takes_links_at}
use Rattle.es_expressions.specs.Nodes.{NodeRow}
use Rattle.es_expressions.specs.Machine.{Opening, hole, edge, hole_of, edge_of, State, when, with_call, join}
use Rattle.es_expressions.specs.Machine.Opening.{InGroup, InKey, InCall, InNew, InNewCall, InSigned, InStepped, InBinary, InChosen, InOther, InAssign, InComma}
use Rattle.es_expressions.specs.Machine.State.{Before as SpecBefore, Behind as SpecBehind, Naming as SpecNaming}
use Rattle.es_expressions.specs.Standings.{Grows, IsSingle, Stands, FrameStands, AreStanding, frame_hole, frame_edge, innermost_hole, innermost_edge, PlaceStands, EndsAs, IsTakenAs, held, Joins}
use Rattle.es_expressions.specs.declared.lexemes.Lexeme.{Lexeme}
use Rattle.es_expressions.specs.declared.lexemes.Symbol.{Symbol}
use Rattle.es_expressions.specs.declared.roles.Joint.{Joint}
use Rattle.es_expressions.specs.declared.roles.Joint.TheVariants.{Dot, Key as KeyJoint, Call as CallJoint, Step as StepJoint, Operator, Choice as ChoiceJoint, Assignment, Comma as CommaJoint}
use Rattle.es_expressions.specs.declared.operands.Single.{Single}
use Rattle.es_expressions.specs.declared.operands.Operand.{Operand}
use Rattle.es_expressions.specs.declared.frames.Frame.{Frame}
use Rattle.es_expressions.specs.declared.frames.Frame.TheVariants.{Group as GroupFrame, Key, Call, New, NewCall, Signed as SignedFrame, Stepped as SteppedFrame, Binary as BinaryFrame, Chosen, Other, Assign as AssignFrame, Comma as CommaFrame}
use Rattle.es_expressions.specs.declared.places.Place.{Place}
use Rattle.es_expressions.specs.declared.places.Place.TheVariants.{Before, Behind, Naming}
use Rattle.es_expressions.specs.declared.places.Step.{Step}
use Rattle.es_expressions.specs.declared.places.Step.TheVariants.{Taken, Left}
use Rattle.es_expressions.proofs.StandLemmas.{grows-refl, frames-grown}

pub taken-as : (place : Place) (rows : List NodeRow) (frames : List Frame) (s : State) (o : Option State) (n : State) → o ≡ Some n → PlaceStands place rows frames n → IsTakenAs (Taken place) rows frames s o
taken-as place rows frames s o n h p = subst (λ x. IsTakenAs (Taken place) rows frames s x) (sym h) p

pub left-as : (place : Place) (rows : List NodeRow) (frames : List Frame) (s : State) (o : Option State) → o ≡ None → EndsAs place rows frames s → IsTakenAs (Left place) rows frames s o
left-as place rows frames s o h p = subst (λ x. IsTakenAs (Left place) rows frames s x) (sym h) p

pub when-true : {A : Type 0} (b : Bool) (a : A) → b ≡ true → when b a ≡ Some a
when-true b a h = ap (λ x. when x a) h

pub when-false : {A : Type 0} (b : Bool) (a : A) → b ≡ false → when b a ≡ None
when-false b a h = ap (λ x. when x a) h

leb-by : (a b : ℕ) (x : Bool) → nat_le a b ≡ x → b < a → nat_le a b ≡ false
leb-by a b true p h = absurd (omega (arith, leb-true a b p))
leb-by a b false p h = p

leb-no : (a b : ℕ) → b < a → nat_le a b ≡ false
leb-no a b h = leb-by a b (nat_le a b) refl h

-- left as it stands

pub refused : (base : ℕ) (j : Joint) (t : Lexeme) (o : Operand) (rows : List NodeRow) (xs : List Frame) → ((e : Phrase) (fs : List Opening) → Stands rows o e → AreStanding xs rows fs → join base j t e fs ≡ None) → Joins base j t o (held rows xs) (held rows xs) (Left (Behind o))
refused base j t o rows xs none fs e q a k =
    left-as (Behind o) rows xs (SpecBehind e fs) (join base j t e fs) (none e fs k a)
    (record { state = SpecBehind e fs; stands = (k, a); same = refl })

-- taken, with a form opened

pub opened-as : (base : ℕ) (j : Joint) (t : Lexeme) (o : Operand) (rows after : List NodeRow) (xs ys : List Frame) (x : Frame) → ys ≡ (x ∷ xs) → Grows rows after → ((e : Phrase) (fs : List Opening) → joint t ≡ j → Stands rows o e → AreStanding xs rows fs → (f : Opening) × (join base j t e fs ≡ Some (SpecBefore (f ∷ fs))) × FrameStands x after f) → Joins base j t o (held rows xs) (held after ys) (Taken Before)
opened-as base j t o rows after xs ys x same g get fs e q a k =
    let r = get e fs q k a in
    taken-as Before after ys (SpecBehind e fs) (join base j t e fs) (SpecBefore (r.0 ∷ fs)) r.1
    (subst (λ z. AreStanding z after (r.0 ∷ fs)) (sym same) (r.2, frames-grown rows after xs fs g a))

links-as : (rows : List NodeRow) (o : Operand) (e : Phrase) (b : Bool) → takes_links_at o.level ≡ b → Stands rows o e → takes_links e ≡ b
links-as rows o e b h k = ap takes_links_at (sym k.level_is) ∙ h

target-as : (rows : List NodeRow) (o : Operand) (e : Phrase) (b : Bool) → o.is_target ≡ b → Stands rows o e → is_target e ≡ b
target-as rows o e b h k = sym k.target ∙ h

abbrev pub Singly : List NodeRow → List NodeRow → Operand → Single → Type 0
Singly rows after o s = (e : Phrase) → Stands rows o e → IsSingle after s e

pub dot-left : (o : Operand) (rows : List NodeRow) → takes_links_at o.level ≡ false → (base : ℕ) (t : Lexeme) (xs : List Frame) → Joins base Dot t o (held rows xs) (held rows xs) (Left (Behind o))
dot-left o rows h base t xs = refused base Dot t o rows xs (λ e fs k a. when-false (takes_links e) (SpecNaming e t fs) (links-as rows o e false h k))

pub dot-taken : (o : Operand) (rows after : List NodeRow) (s : Single) → takes_links_at o.level ≡ true → Grows rows after → Singly rows after o s → (base : ℕ) (t : Lexeme) (xs : List Frame) → Joins base Dot t o (held rows xs) (held after xs) (Taken (Naming s))
dot-taken o rows after s h g single base t xs fs e q a k =
    taken-as (Naming s) after xs (SpecBehind e fs) (join base Dot t e fs) (SpecNaming e t fs) (when-true (takes_links e) (SpecNaming e t fs) (links-as rows o e true h k))
    (single e k, frames-grown rows after xs fs g a)

pub key-left : (o : Operand) (rows : List NodeRow) (xs : List Frame) → takes_links_at o.level ≡ false → (base : ℕ) (t : Lexeme) → Joins base KeyJoint t o (held rows xs) (held rows xs) (Left (Behind o))
key-left o rows xs h base t = refused base KeyJoint t o rows xs (λ e fs k a. when-false (takes_links e) (SpecBefore (InKey e t ∷ fs)) (links-as rows o e false h k))

pub key-taken : (o : Operand) (rows after : List NodeRow) (xs ys : List Frame) (s : Single) → takes_links_at o.level ≡ true → Grows rows after → Singly rows after o s → ys ≡ (Key s ∷ xs) → (base : ℕ) (t : Lexeme) → Joins base KeyJoint t o (held rows xs) (held after ys) (Taken Before)
key-taken o rows after xs ys s h g single same base t =
    opened-as base KeyJoint t o rows after xs ys (Key s) same g
    (λ e fs q k a. (InKey e t, when-true (takes_links e) (SpecBefore (InKey e t ∷ fs)) (links-as rows o e true h k), single e k))

pub call-left : (o : Operand) (rows : List NodeRow) (xs : List Frame) → takes_links_at o.level ≡ false → (base : ℕ) (t : Lexeme) → Joins base CallJoint t o (held rows xs) (held rows xs) (Left (Behind o))
call-left o rows xs h base t = refused base CallJoint t o rows xs (λ e fs k a. when-false (takes_links e) (SpecBefore (with_call t e fs)) (links-as rows o e false h k))

-- the frames that a `(` leaves
abbrev pub called : Single → List Frame → List Frame
called s (New start ∷ xs) = NewCall start s ∷ xs
called s xs = Call s ∷ xs

called-stands : (s : Single) (after : List NodeRow) (t : Lexeme) (e : Phrase) (xs : List Frame) (fs : List Opening) → IsSingle after s e → AreStanding xs after fs → AreStanding (called s xs) after (with_call t e fs)
called-stands s after t e [] [] h a = (h, tt)
called-stands s after t e [] (f ∷ fs) h a = absurd a
called-stands s after t e (x ∷ xs) [] h a = absurd a
called-stands s after t e (New start ∷ xs) (InNew n ∷ fs) h a = ((a.0, h), a.1)
called-stands s after t e (New start ∷ xs) (_ ∷ fs) h a = absurd a.0
called-stands s after t e (_ ∷ xs) (InNew n ∷ fs) h a = absurd a.0
called-stands s after t e (_ ∷ xs) (_ ∷ fs) h a = (h, a)

pub call-taken : (o : Operand) (rows after : List NodeRow) (xs ys : List Frame) (s : Single) → takes_links_at o.level ≡ true → Grows rows after → Singly rows after o s → ys ≡ called s xs → (base : ℕ) (t : Lexeme) → Joins base CallJoint t o (held rows xs) (held after ys) (Taken Before)
call-taken o rows after xs ys s h g single same base t fs e q a k =
    taken-as Before after ys (SpecBehind e fs) (join base CallJoint t e fs) (SpecBefore (with_call t e fs)) (when-true (takes_links e) (SpecBefore (with_call t e fs)) (links-as rows o e true h k))
    (subst (λ z. AreStanding z after (with_call t e fs)) (sym same) (called-stands s after t e xs fs (single e k) (frames-grown rows after xs fs g a)))

pub step-left : (o : Operand) (rows : List NodeRow) (t : Lexeme) → o.is_target ≡ false → (base : ℕ) (xs : List Frame) → Joins base StepJoint t o (held rows xs) (held rows xs) (Left (Behind o))
step-left o rows t h base xs = refused base StepJoint t o rows xs (λ e fs k a. when-false (is_target e) (SpecBehind (Postfix e t) fs) (target-as rows o e false h k))

pub step-taken : (o w : Operand) (rows after : List NodeRow) (t : Lexeme) → o.is_target ≡ true → Grows rows after → ((e : Phrase) → Stands rows o e → Stands after w (Postfix e t)) → (base : ℕ) (xs : List Frame) → Joins base StepJoint t o (held rows xs) (held after xs) (Taken (Behind w))
step-taken o w rows after t h g whole base xs fs e q a k =
    taken-as (Behind w) after xs (SpecBehind e fs) (join base StepJoint t e fs) (SpecBehind (Postfix e t) fs) (when-true (is_target e) (SpecBehind (Postfix e t) fs) (target-as rows o e true h k))
    (whole e k, frames-grown rows after xs fs g a)

pub operator-left : (o : Operand) (rows : List NodeRow) (xs : List Frame) (n : ℕ) (t : Lexeme) → o.level < n → (base : ℕ) → Joins base (Operator n) t o (held rows xs) (held rows xs) (Left (Behind o))
operator-left o rows xs n t h base = refused base (Operator n) t o rows xs (λ e fs k a. when-false (nat_le n (level e)) (SpecBefore (InBinary e t ∷ fs)) (leb-no n (level e) (omega (arith, k.level_is))))

pub operator-taken : (o : Operand) (rows after : List NodeRow) (xs ys : List Frame) (s : Single) (n : ℕ) (t : Lexeme) (symbol : Symbol) → n ≤ o.level → symbol ≡ t.symbol → Grows rows after → Singly rows after o s → ys ≡ (BinaryFrame s symbol n ∷ xs) → (base : ℕ) → Joins base (Operator n) t o (held rows xs) (held after ys) (Taken Before)
operator-taken o rows after xs ys s n t symbol h y g single same base =
    opened-as base (Operator n) t o rows after xs ys (BinaryFrame s symbol n) same g
    (λ e fs q k a. (InBinary e t, when-true (nat_le n (level e)) (SpecBefore (InBinary e t ∷ fs)) (le-leb n (level e) (omega (arith, k.level_is))), (single e k, y, sym (ap strength_of q))))

pub question-left : (o : Operand) (rows : List NodeRow) (xs : List Frame) → o.level < 4 → (base : ℕ) (t : Lexeme) → Joins base ChoiceJoint t o (held rows xs) (held rows xs) (Left (Behind o))
question-left o rows xs h base t = refused base ChoiceJoint t o rows xs (λ e fs k a. when-false (nat_le 4 (level e)) (SpecBefore (InChosen e t ∷ fs)) (leb-no 4 (level e) (omega (arith, k.level_is))))

pub question-taken : (o : Operand) (rows after : List NodeRow) (xs ys : List Frame) (s : Single) → 4 ≤ o.level → Grows rows after → Singly rows after o s → ys ≡ (Chosen s ∷ xs) → (base : ℕ) (t : Lexeme) → Joins base ChoiceJoint t o (held rows xs) (held after ys) (Taken Before)
question-taken o rows after xs ys s h g single same base t =
    opened-as base ChoiceJoint t o rows after xs ys (Chosen s) same g
    (λ e fs q k a. (InChosen e t, when-true (nat_le 4 (level e)) (SpecBefore (InChosen e t ∷ fs)) (le-leb 4 (level e) (omega (arith, k.level_is))), single e k))

pub assign-left : (o : Operand) (rows : List NodeRow) (xs : List Frame) (t : Lexeme) → o.is_target ≡ false → (base : ℕ) → Joins base Assignment t o (held rows xs) (held rows xs) (Left (Behind o))
assign-left o rows xs t h base = refused base Assignment t o rows xs (λ e fs k a. when-false (is_target e) (SpecBefore (InAssign e t ∷ fs)) (target-as rows o e false h k))

pub assign-taken : (o : Operand) (rows after : List NodeRow) (xs ys : List Frame) (s : Single) (t : Lexeme) (symbol : Symbol) → o.is_target ≡ true → symbol ≡ t.symbol → Grows rows after → Singly rows after o s → ys ≡ (AssignFrame s symbol ∷ xs) → (base : ℕ) → Joins base Assignment t o (held rows xs) (held after ys) (Taken Before)
assign-taken o rows after xs ys s t symbol h y g single same base =
    opened-as base Assignment t o rows after xs ys (AssignFrame s symbol) same g
    (λ e fs q k a. (InAssign e t, when-true (is_target e) (SpecBefore (InAssign e t ∷ fs)) (target-as rows o e true h k), (single e k, y)))

-- holes and edges

pub hole-as : (x : Frame) (rows : List NodeRow) (f : Opening) → FrameStands x rows f → frame_hole x ≡ hole f
hole-as (GroupFrame s) rows (InGroup o) h = refl
hole-as (Key b) rows (InKey e o) h = refl
hole-as (Call b) rows (InCall e o) h = refl
hole-as (New s) rows (InNew n) h = refl
hole-as (NewCall s b) rows (InNewCall n e o) h = refl
hole-as (SignedFrame s k) rows (InSigned o) h = refl
hole-as (SteppedFrame s k) rows (InStepped o) h = refl
hole-as (BinaryFrame b k n) rows (InBinary e o) h = ap suc h.2
hole-as (Chosen b) rows (InChosen e q) h = refl
hole-as (Other a b) rows (InOther e q f c) h = refl
hole-as (AssignFrame b k) rows (InAssign e o) h = refl
hole-as (CommaFrame o) rows (InComma e k) h = refl
hole-as _ rows _ h = absurd h

pub edge-as : (x : Frame) (rows : List NodeRow) (f : Opening) → FrameStands x rows f → frame_edge x ≡ edge f
edge-as (GroupFrame s) rows (InGroup o) h = refl
edge-as (Key b) rows (InKey e o) h = refl
edge-as (Call b) rows (InCall e o) h = refl
edge-as (New s) rows (InNew n) h = refl
edge-as (NewCall s b) rows (InNewCall n e o) h = refl
edge-as (SignedFrame s k) rows (InSigned o) h = refl
edge-as (SteppedFrame s k) rows (InStepped o) h = refl
edge-as (BinaryFrame b k n) rows (InBinary e o) h = ap suc h.2
edge-as (Chosen b) rows (InChosen e q) h = refl
edge-as (Other a b) rows (InOther e q f c) h = refl
edge-as (AssignFrame b k) rows (InAssign e o) h = refl
edge-as (CommaFrame o) rows (InComma e k) h = refl
edge-as _ rows _ h = absurd h

pub holes-as : (base : ℕ) (xs : List Frame) (rows : List NodeRow) (fs : List Opening) → AreStanding xs rows fs → innermost_hole base xs ≡ hole_of base fs
holes-as base [] rows [] h = refl
holes-as base [] rows (f ∷ fs) h = absurd h
holes-as base (x ∷ xs) rows [] h = absurd h
holes-as base (x ∷ xs) rows (f ∷ fs) h = hole-as x rows f h.0

pub edges-as : (xs : List Frame) (rows : List NodeRow) (fs : List Opening) → AreStanding xs rows fs → innermost_edge xs ≡ edge_of fs
edges-as [] rows [] h = refl
edges-as [] rows (f ∷ fs) h = absurd h
edges-as (x ∷ xs) rows [] h = absurd h
edges-as (x ∷ xs) rows (f ∷ fs) h = edge-as x rows f h.0

pub comma-left : (o : Operand) (xs : List Frame) (base : ℕ) → nat_le (innermost_hole base xs) 1 ≡ false → (t : Lexeme) (rows : List NodeRow) → Joins base CommaJoint t o (held rows xs) (held rows xs) (Left (Behind o))
comma-left o xs base h t rows = refused base CommaJoint t o rows xs (λ e fs k a. when-false (nat_le (hole_of base fs) 1) (SpecBefore (InComma e t ∷ fs)) (ap (λ x. nat_le x 1) (sym (holes-as base xs rows fs a)) ∙ h))

pub comma-taken : (o : Operand) (xs ys : List Frame) (base : ℕ) → nat_le (innermost_hole base xs) 1 ≡ true → ys ≡ (CommaFrame o ∷ xs) → (t : Lexeme) (rows : List NodeRow) → Joins base CommaJoint t o (held rows xs) (held rows ys) (Taken Before)
comma-taken o xs ys base h same t rows =
    opened-as base CommaJoint t o rows rows xs ys (CommaFrame o) same (grows-refl rows)
    (λ e fs q k a. (InComma e t, when-true (nat_le (hole_of base fs) 1) (SpecBefore (InComma e t ∷ fs)) (ap (λ x. nat_le x 1) (sym (holes-as base xs rows fs a)) ∙ h), k))

pub taken-if : {E : Type 0} (R : Step → Type 0) (r : Result Step E) (X : Type 0) → IfOk r (λ step. step ≡ Taken Before) → IfOk r (λ _. X) → (X → R (Taken Before)) → IfOk r R
taken-if R (Ok step) X p x f = subst R (sym p) (f x)
taken-if R (Err e) X p x f = tt

abbrev pub is_new : Frame → Bool
is_new (New start) = true
is_new _ = false

pub called-other : (s : Single) (x : Frame) (xs : List Frame) → is_new x ≡ false → called s (x ∷ xs) ≡ (Call s ∷ (x ∷ xs))
called-other s (New start) xs h = absurd (cc)
called-other s (Key b) xs h = refl
called-other s _ xs h = refl

pub not-true : (b : Bool) → not b ≡ true → b ≡ false
not-true true h = absurd (cc)
not-true false h = refl

pub not-false : (b : Bool) → not b ≡ false → b ≡ true
not-false true h = refl
not-false false h = absurd (cc)
