-- What the reader's steps come to, in plain variables: marks that end forms, tokens in front of an operand,
-- and the end.
use Rattle.std.proofs.Common.{◌≡◌, ℕ, Bool, true, false, List, [], ◌∷◌, Option, Some, None, refl, sym, ◌∙◌, ap, subst, arith}
use Rattle.std.specs.Prelude.{nat_le, nat_lt}
use Rattle.std.proofs.lemmas.Bool.{ltb-true}
use Rattle.std.proofs.lemmas.Option.{same_Some}
use Rattle.es_expressions.specs.Roles.{front, joint, is_name}
use Rattle.es_expressions.specs.Phrases.{Phrase}
use Rattle.es_expressions.specs.Phrases.Phrase.{Leaf, Member}
use Rattle.es_expressions.specs.Nodes.{NodeRow}
use Rattle.es_expressions.specs.Machine.{Opening, edge, hole_of, closed, reach, Operand as SpecOperand, operand, settled_by, settled, State, when, with_close, with_key_end, with_colon, join, with_empty, begin, joined, move, alone_in, finish, is_close}
use Rattle.es_expressions.specs.Machine.Opening.{InGroup, InKey, InCall, InNewCall, InSigned, InStepped, InChosen, InOther}
use Rattle.es_expressions.specs.Machine.State.{Before as SpecBefore, Behind as SpecBehind, Naming as SpecNaming}
use Rattle.es_expressions.specs.Standings.{Grows, IsSingle, Stands, FrameStands, AreStanding, innermost_hole, MayStand, IsSettledAs, PlaceStands, IsTakenAs, Held, held, Joins, Begins, Moves, Empties}
use Rattle.es_expressions.specs.declared.lexemes.Lexeme.{Lexeme}
use Rattle.es_expressions.specs.declared.roles.Front.TheVariants.{Whole, Sign, Step as StepFront, Nothing as NoFront}
use Rattle.es_expressions.specs.declared.roles.Joint.{Joint}
use Rattle.es_expressions.specs.declared.roles.Joint.TheVariants.{Dot, Close, KeyEnd, Colon}
use Rattle.es_expressions.specs.declared.operands.Single.{Single}
use Rattle.es_expressions.specs.declared.operands.Operand.{Operand}
use Rattle.es_expressions.specs.declared.frames.Frame.{Frame}
use Rattle.es_expressions.specs.declared.frames.Frame.TheVariants.{Group as GroupFrame, Key, Call, NewCall, Chosen, Other}
use Rattle.es_expressions.specs.declared.places.Place.{Place}
use Rattle.es_expressions.specs.declared.places.Place.TheVariants.{Before, Behind, Naming}
use Rattle.es_expressions.specs.declared.places.Step.{Step}
use Rattle.es_expressions.specs.declared.places.Step.TheVariants.{Taken, Left}
use Rattle.es_expressions.proofs.StandLemmas.{frames-grown, frame-grown}
use Rattle.es_expressions.proofs.SettleLemmas.{settled-closes, settled-fails, settle-cases}
use Rattle.es_expressions.specs.Beginnings.{Tells}
use Rattle.es_expressions.specs.Standings.{IsFoundAs, MayOpen, emptied_by, completed_by, indexed_by, opened_by, is_closing, is_key, is_chosen, is_empty_call}
use Rattle.es_expressions.specs.declared.expressions.Found.{Found}
use Rattle.es_expressions.proofs.JoinLemmas.{taken-as, left-as, refused, when-true, when-false, holes-as}

-- marks that end forms

abbrev pub Made : List NodeRow → List NodeRow → Operand → Operand → (Phrase → Phrase) → Type 0
Made rows after o w form = (e : Phrase) → Stands rows o e → Stands after w (form e)

completed-case : (rows after : List NodeRow) (x : Frame) (ys : List Frame) (o w : Operand) (t : Lexeme) → Grows rows after → (base : ℕ) (f : Opening) (fs : List Opening) (e : Phrase) → AreStanding ys rows fs → MayStand after (Some w) (completed_by t f e) → IsTakenAs (Taken (Behind w)) after ys (SpecBehind e (f ∷ fs)) (join base Close t e (f ∷ fs))
completed-case rows after x ys o w t g base (InGroup m) fs e a k = (k, frames-grown rows after ys fs g a)
completed-case rows after x ys o w t g base (InCall f m) fs e a k = (k, frames-grown rows after ys fs g a)
completed-case rows after x ys o w t g base (InNewCall n f m) fs e a k = (k, frames-grown rows after ys fs g a)
completed-case rows after x ys o w t g base _ fs e a k = absurd k

completed-in : (rows after : List NodeRow) (x : Frame) (ys : List Frame) (o w : Operand) (t : Lexeme) → Grows rows after → ((f : Opening) (e : Phrase) → FrameStands x rows f → Stands rows o e → MayStand after (Some w) (completed_by t f e)) → (base : ℕ) (fs : List Opening) (e : Phrase) → AreStanding (x ∷ ys) rows fs → Stands rows o e → IsTakenAs (Taken (Behind w)) after ys (SpecBehind e fs) (join base Close t e fs)
completed-in rows after x ys o w t g made base [] e a k = absurd a
completed-in rows after x ys o w t g made base (f ∷ fs) e a k = completed-case rows after x ys o w t g base f fs e a.1 (made f e a.0 k)

pub close-taken : (rows after : List NodeRow) (xs ys : List Frame) (x : Frame) (o w : Operand) (t : Lexeme) → xs ≡ (x ∷ ys) → Grows rows after → ((f : Opening) (e : Phrase) → FrameStands x rows f → Stands rows o e → MayStand after (Some w) (completed_by t f e)) → (base : ℕ) → Joins base Close t o (held rows xs) (held after ys) (Taken (Behind w))
close-taken rows after xs ys x o w t same g made base fs e q a k = completed-in rows after x ys o w t g made base fs e (subst (λ z. AreStanding z rows fs) same a) k

indexed-case : (rows after : List NodeRow) (x : Frame) (ys : List Frame) (o w : Operand) (t : Lexeme) → Grows rows after → (base : ℕ) (f : Opening) (fs : List Opening) (e : Phrase) → AreStanding ys rows fs → MayStand after (Some w) (indexed_by t f e) → IsTakenAs (Taken (Behind w)) after ys (SpecBehind e (f ∷ fs)) (join base KeyEnd t e (f ∷ fs))
indexed-case rows after x ys o w t g base (InKey f m) fs e a k = (k, frames-grown rows after ys fs g a)
indexed-case rows after x ys o w t g base _ fs e a k = absurd k

indexed-in : (rows after : List NodeRow) (x : Frame) (ys : List Frame) (o w : Operand) (t : Lexeme) → Grows rows after → ((f : Opening) (e : Phrase) → FrameStands x rows f → Stands rows o e → MayStand after (Some w) (indexed_by t f e)) → (base : ℕ) (fs : List Opening) (e : Phrase) → AreStanding (x ∷ ys) rows fs → Stands rows o e → IsTakenAs (Taken (Behind w)) after ys (SpecBehind e fs) (join base KeyEnd t e fs)
indexed-in rows after x ys o w t g made base [] e a k = absurd a
indexed-in rows after x ys o w t g made base (f ∷ fs) e a k = indexed-case rows after x ys o w t g base f fs e a.1 (made f e a.0 k)

pub key-taken : (rows after : List NodeRow) (xs ys : List Frame) (x : Frame) (o w : Operand) (t : Lexeme) → xs ≡ (x ∷ ys) → Grows rows after → ((f : Opening) (e : Phrase) → FrameStands x rows f → Stands rows o e → MayStand after (Some w) (indexed_by t f e)) → (base : ℕ) → Joins base KeyEnd t o (held rows xs) (held after ys) (Taken (Behind w))
key-taken rows after xs ys x o w t same g made base fs e q a k = indexed-in rows after x ys o w t g made base fs e (subst (λ z. AreStanding z rows fs) same a) k

colon-case : (after : List NodeRow) (x : Frame) (ys zs : List Frame) (t : Lexeme) → zs ≡ (x ∷ ys) → (base : ℕ) (f : Opening) (fs : List Opening) (e : Phrase) → AreStanding ys after fs → MayOpen x after (opened_by t f e) → IsTakenAs (Taken Before) after zs (SpecBehind e (f ∷ fs)) (join base Colon t e (f ∷ fs))
colon-case after x ys zs t same base (InChosen f m) fs e a k = subst (λ z. AreStanding z after (InOther f m e t ∷ fs)) (sym same) (k, a)
colon-case after x ys zs t same base _ fs e a k = absurd k

colon-in : (rows after : List NodeRow) (x y : Frame) (ys zs : List Frame) (o : Operand) (s : Single) (t : Lexeme) → zs ≡ (y ∷ ys) → Grows rows after → ((e : Phrase) → Stands rows o e → IsSingle after s e) → ((f : Opening) (e : Phrase) → FrameStands x after f → IsSingle after s e → MayOpen y after (opened_by t f e)) → (base : ℕ) (fs : List Opening) (e : Phrase) → AreStanding (x ∷ ys) rows fs → Stands rows o e → IsTakenAs (Taken Before) after zs (SpecBehind e fs) (join base Colon t e fs)
colon-in rows after x y ys zs o s t same g single made base [] e a k = absurd a
colon-in rows after x y ys zs o s t same g single made base (f ∷ fs) e a k = colon-case after y ys zs t same base f fs e (frames-grown rows after ys fs g a.1) (made f e (frame-grown rows after x f g a.0) (single e k))

-- `a ?` that goes on with a `:` behind its second operand
pub chosen-opens : (x : Frame) (test s : Single) → x ≡ Chosen test → (rows : List NodeRow) (f : Opening) (e : Phrase) (t : Lexeme) → FrameStands x rows f → IsSingle rows s e → MayOpen (Other test s) rows (opened_by t f e)
chosen-opens x test s is rows f e t h i = by f (subst (λ z. FrameStands z rows f) is h)
  where
    by : (f : Opening) → FrameStands (Chosen test) rows f → MayOpen (Other test s) rows (opened_by t f e)
    by (InChosen a q) k = (k, i)
    by _ k = absurd k

pub colon-taken : (rows after : List NodeRow) (xs ys zs : List Frame) (x y : Frame) (o : Operand) (s : Single) → xs ≡ (x ∷ ys) → zs ≡ (y ∷ ys) → Grows rows after → ((e : Phrase) → Stands rows o e → IsSingle after s e) → ((rows : List NodeRow) (f : Opening) (e : Phrase) (t : Lexeme) → FrameStands x rows f → IsSingle rows s e → MayOpen y rows (opened_by t f e)) → (base : ℕ) (t : Lexeme) → Joins base Colon t o (held rows xs) (held after zs) (Taken Before)
colon-taken rows after xs ys zs x y o s same opened g single made base t fs e q a k = colon-in rows after x y ys zs o s t opened g single (λ f p h i. made after f p t h i) base fs e (subst (λ z. AreStanding z rows fs) same a) k

denied-close : (rows : List NodeRow) (x : Frame) (f : Opening) (fs : List Opening) (t : Lexeme) (e : Phrase) → is_closing x ≡ false → FrameStands x rows f → with_close t e (f ∷ fs) ≡ None
denied-close rows (GroupFrame s) f fs t e h a = absurd (cc)
denied-close rows (Call s) f fs t e h a = absurd (cc)
denied-close rows (NewCall s g) f fs t e h a = absurd (cc)
denied-close rows _ (InGroup o) fs t e h a = absurd a
denied-close rows _ (InCall g o) fs t e h a = absurd a
denied-close rows _ (InNewCall n g o) fs t e h a = absurd a
denied-close rows _ _ fs t e h a = refl

denied-key : (rows : List NodeRow) (x : Frame) (f : Opening) (fs : List Opening) (t : Lexeme) (e : Phrase) → is_key x ≡ false → FrameStands x rows f → with_key_end t e (f ∷ fs) ≡ None
denied-key rows (Key s) f fs t e h a = absurd (cc)
denied-key rows _ (InKey g o) fs t e h a = absurd a
denied-key rows _ _ fs t e h a = refl

denied-colon : (rows : List NodeRow) (x : Frame) (f : Opening) (fs : List Opening) (t : Lexeme) (e : Phrase) → is_chosen x ≡ false → FrameStands x rows f → with_colon t e (f ∷ fs) ≡ None
denied-colon rows (Chosen s) f fs t e h a = absurd (cc)
denied-colon rows _ (InChosen g o) fs t e h a = absurd a
denied-colon rows _ _ fs t e h a = refl

abbrev pub Refuses : Joint → Frame → Type 0
Refuses j x = (base : ℕ) (rows : List NodeRow) (f : Opening) (fs : List Opening) (t : Lexeme) (e : Phrase) → FrameStands x rows f → join base j t e (f ∷ fs) ≡ None

pub refuses-close : (x : Frame) → is_closing x ≡ false → Refuses Close x
refuses-close x h base rows f fs t e a = denied-close rows x f fs t e h a

pub refuses-key : (x : Frame) → is_key x ≡ false → Refuses KeyEnd x
refuses-key x h base rows f fs t e a = denied-key rows x f fs t e h a

pub refuses-colon : (x : Frame) → is_chosen x ≡ false → Refuses Colon x
refuses-colon x h base rows f fs t e a = denied-colon rows x f fs t e h a

other-case : (j : Joint) (x : Frame) (ys : List Frame) (rows : List NodeRow) → Refuses j x → (base : ℕ) (t : Lexeme) (e : Phrase) (fs : List Opening) → AreStanding (x ∷ ys) rows fs → join base j t e fs ≡ None
other-case j x ys rows denied base t e [] a = absurd a
other-case j x ys rows denied base t e (f ∷ fs) a = denied base rows f fs t e a.0

pub other-left : (j : Joint) (rows : List NodeRow) (xs ys zs : List Frame) (x : Frame) (o : Operand) → Refuses j x → xs ≡ (x ∷ ys) → zs ≡ (x ∷ ys) → (base : ℕ) (t : Lexeme) → Joins base j t o (held rows xs) (held rows zs) (Left (Behind o))
other-left j rows xs ys zs x o denied same pushed base t =
    subst (λ z. Joins base j t o (held rows xs) (held rows z) (Left (Behind o))) (same ∙ sym pushed)
    (refused base j t o rows xs (λ e fs k a. other-case j x ys rows denied base t e fs (subst (λ z. AreStanding z rows fs) same a)))

abbrev pub RefusesNone : Joint → Type 0
RefusesNone j = (base : ℕ) (t : Lexeme) (e : Phrase) → join base j t e [] ≡ None

none-case : (j : Joint) (rows : List NodeRow) → RefusesNone j → (base : ℕ) (t : Lexeme) (e : Phrase) (fs : List Opening) → AreStanding [] rows fs → join base j t e fs ≡ None
none-case j rows denied base t e [] a = denied base t e
none-case j rows denied base t e (f ∷ fs) a = absurd a

pub none-left : (j : Joint) (rows : List NodeRow) (xs zs : List Frame) (o : Operand) → RefusesNone j → xs ≡ [] → zs ≡ [] → (base : ℕ) (t : Lexeme) → Joins base j t o (held rows xs) (held rows zs) (Left (Behind o))
none-left j rows xs zs o denied same left base t =
    subst (λ z. Joins base j t o (held rows xs) (held rows z) (Left (Behind o))) (same ∙ sym left)
    (refused base j t o rows xs (λ e fs k a. none-case j rows denied base t e fs (subst (λ z. AreStanding z rows fs) same a)))

-- where an operand is to come

pub begins-whole : (base : ℕ) (t : Lexeme) (rows after : List NodeRow) (xs : List Frame) (w : Operand) → front t ≡ Whole → Grows rows after → Stands after w (Leaf t) → Begins base t (held rows xs) (held after xs) (Taken (Behind w))
begins-whole base t rows after xs w h g s fs a =
    taken-as (Behind w) after xs (SpecBefore fs) (begin base (front t) t fs) (SpecBehind (Leaf t) fs) (ap (λ f. begin base f t fs) h) (s, frames-grown rows after xs fs g a)

pub begins-open : (base : ℕ) (t : Lexeme) (rows : List NodeRow) (xs ys : List Frame) (x : Frame) (f : Opening) → ys ≡ (x ∷ xs) → FrameStands x rows f → ((fs : List Opening) → AreStanding xs rows fs → begin base (front t) t fs ≡ Some (SpecBefore (f ∷ fs))) → Begins base t (held rows xs) (held rows ys) (Taken Before)
begins-open base t rows xs ys x f same s to fs a =
    taken-as Before rows ys (SpecBefore fs) (begin base (front t) t fs) (SpecBefore (f ∷ fs)) (to fs a) (subst (λ z. AreStanding z rows (f ∷ fs)) (sym same) (s, a))

pub begins-left : (base : ℕ) (t : Lexeme) (rows : List NodeRow) (xs : List Frame) → ((fs : List Opening) → AreStanding xs rows fs → begin base (front t) t fs ≡ None) → Begins base t (held rows xs) (held rows xs) (Left Before)
begins-left base t rows xs none fs a = left-as Before rows xs (SpecBefore fs) (begin base (front t) t fs) (none fs a) (record { state = SpecBefore fs; stands = a; same = refl })

pub sign-open : (base : ℕ) (t : Lexeme) (rows : List NodeRow) (xs : List Frame) → front t ≡ Sign → nat_le (innermost_hole base xs) 14 ≡ true → (fs : List Opening) → AreStanding xs rows fs → begin base (front t) t fs ≡ Some (SpecBefore (InSigned t ∷ fs))
sign-open base t rows xs h l fs a = ap (λ f. begin base f t fs) h ∙ when-true (nat_le (hole_of base fs) 14) (SpecBefore (InSigned t ∷ fs)) (ap (λ n. nat_le n 14) (sym (holes-as base xs rows fs a)) ∙ l)

pub sign-left : (base : ℕ) (t : Lexeme) (rows : List NodeRow) (xs : List Frame) → front t ≡ Sign → nat_le (innermost_hole base xs) 14 ≡ false → (fs : List Opening) → AreStanding xs rows fs → begin base (front t) t fs ≡ None
sign-left base t rows xs h l fs a = ap (λ f. begin base f t fs) h ∙ when-false (nat_le (hole_of base fs) 14) (SpecBefore (InSigned t ∷ fs)) (ap (λ n. nat_le n 14) (sym (holes-as base xs rows fs a)) ∙ l)

pub step-open : (base : ℕ) (t : Lexeme) (rows : List NodeRow) (xs : List Frame) → front t ≡ StepFront → nat_le (innermost_hole base xs) 14 ≡ true → (fs : List Opening) → AreStanding xs rows fs → begin base (front t) t fs ≡ Some (SpecBefore (InStepped t ∷ fs))
step-open base t rows xs h l fs a = ap (λ f. begin base f t fs) h ∙ when-true (nat_le (hole_of base fs) 14) (SpecBefore (InStepped t ∷ fs)) (ap (λ n. nat_le n 14) (sym (holes-as base xs rows fs a)) ∙ l)

pub step-left-front : (base : ℕ) (t : Lexeme) (rows : List NodeRow) (xs : List Frame) → front t ≡ StepFront → nat_le (innermost_hole base xs) 14 ≡ false → (fs : List Opening) → AreStanding xs rows fs → begin base (front t) t fs ≡ None
step-left-front base t rows xs h l fs a = ap (λ f. begin base f t fs) h ∙ when-false (nat_le (hole_of base fs) 14) (SpecBefore (InStepped t ∷ fs)) (ap (λ n. nat_le n 14) (sym (holes-as base xs rows fs a)) ∙ l)

pub begins-empty : (base : ℕ) (t : Lexeme) (before after : Held) (step : Step) → front t ≡ NoFront → Empties t before after step → Begins base t before after step
begins-empty base t before after step h empties fs a = subst (λ o. IsTakenAs step after.rows after.frames (SpecBefore fs) o) (sym (ap (λ f. begin base f t fs) h)) (empties fs a)

-- a `)` where no argument came

emptied-case : (rows after : List NodeRow) (ys : List Frame) (w : Operand) (t : Lexeme) → Grows rows after → (f : Opening) (fs : List Opening) → AreStanding ys rows fs → MayStand after (Some w) (emptied_by t f) → IsTakenAs (Taken (Behind w)) after ys (SpecBefore (f ∷ fs)) (with_empty Close t (f ∷ fs))
emptied-case rows after ys w t g (InCall f m) fs a k = (k, frames-grown rows after ys fs g a)
emptied-case rows after ys w t g (InNewCall n f m) fs a k = (k, frames-grown rows after ys fs g a)
emptied-case rows after ys w t g _ fs a k = absurd k

emptied-in : (rows after : List NodeRow) (x : Frame) (ys : List Frame) (w : Operand) (t : Lexeme) → Grows rows after → ((f : Opening) → FrameStands x rows f → MayStand after (Some w) (emptied_by t f)) → (fs : List Opening) → AreStanding (x ∷ ys) rows fs → IsTakenAs (Taken (Behind w)) after ys (SpecBefore fs) (with_empty Close t fs)
emptied-in rows after x ys w t g made [] a = absurd a
emptied-in rows after x ys w t g made (f ∷ fs) a = emptied-case rows after ys w t g f fs a.1 (made f a.0)

is-close : (j : Joint) → is_close j ≡ true → j ≡ Close
is-close Close h = refl
is-close Dot h = absurd (cc)
is-close _ h = absurd (cc)

not-closing : (j : Joint) → is_close j ≡ false → j ≡ Close → ⊥
not-closing j h q = let k : is_close Close ≡ false = subst (λ x. is_close x ≡ false) q h in absurd (cc)

pub empty-taken : (t : Lexeme) (rows after : List NodeRow) (xs ys : List Frame) (x : Frame) (w : Operand) → is_close (joint t) ≡ true → xs ≡ (x ∷ ys) → Grows rows after → ((f : Opening) → FrameStands x rows f → MayStand after (Some w) (emptied_by t f)) → Empties t (held rows xs) (held after ys) (Taken (Behind w))
empty-taken t rows after xs ys x w j same g made fs a = subst (λ o. IsTakenAs (Taken (Behind w)) after ys (SpecBefore fs) o) (sym (ap (λ x. with_empty x t fs) (is-close (joint t) j))) (emptied-in rows after x ys w t g made fs (subst (λ z. AreStanding z rows fs) same a))

denied-empty : (j : Joint) (rows : List NodeRow) (x : Frame) (f : Opening) (fs : List Opening) (t : Lexeme) → is_empty_call x ≡ false → FrameStands x rows f → with_empty j t (f ∷ fs) ≡ None
denied-empty Close rows (Call s) f fs t h a = absurd (cc)
denied-empty Close rows (NewCall s g) f fs t h a = absurd (cc)
denied-empty Close rows _ (InCall g o) fs t h a = absurd a
denied-empty Close rows _ (InNewCall n g o) fs t h a = absurd a
denied-empty Close rows _ _ fs t h a = refl
denied-empty _ rows x f fs t h a = refl

denied-empty-all : (j : Joint) (rows : List NodeRow) (x : Frame) (ys : List Frame) (fs : List Opening) (t : Lexeme) → is_empty_call x ≡ false → AreStanding (x ∷ ys) rows fs → with_empty j t fs ≡ None
denied-empty-all j rows x ys [] t h a = absurd a
denied-empty-all j rows x ys (f ∷ fs) t h a = denied-empty j rows x f fs t h a.0

empty-as : (t : Lexeme) (rows : List NodeRow) (xs : List Frame) → ((fs : List Opening) → AreStanding xs rows fs → with_empty (joint t) t fs ≡ None) → Empties t (held rows xs) (held rows xs) (Left Before)
empty-as t rows xs none fs a = left-as Before rows xs (SpecBefore fs) (with_empty (joint t) t fs) (none fs a) (record { state = SpecBefore fs; stands = a; same = refl })

pub empty-other : (t : Lexeme) (rows : List NodeRow) (xs ys zs : List Frame) (x : Frame) → is_empty_call x ≡ false → xs ≡ (x ∷ ys) → zs ≡ (x ∷ ys) → Empties t (held rows xs) (held rows zs) (Left Before)
empty-other t rows xs ys zs x h same pushed = subst (λ z. Empties t (held rows xs) (held rows z) (Left Before)) (same ∙ sym pushed) (empty-as t rows xs (λ fs a. denied-empty-all (joint t) rows x ys fs t h (subst (λ z. AreStanding z rows fs) same a)))

denied-empty-none : (j : Joint) (rows : List NodeRow) (fs : List Opening) (t : Lexeme) → AreStanding [] rows fs → with_empty j t fs ≡ None
denied-empty-none Close rows [] t a = refl
denied-empty-none Close rows (f ∷ fs) t a = absurd a
denied-empty-none _ rows fs t a = refl

pub empty-none : (t : Lexeme) (rows : List NodeRow) (xs zs : List Frame) → xs ≡ [] → zs ≡ [] → Empties t (held rows xs) (held rows zs) (Left Before)
empty-none t rows xs zs same left = subst (λ z. Empties t (held rows xs) (held rows z) (Left Before)) (same ∙ sym left) (empty-as t rows xs (λ fs a. denied-empty-none (joint t) rows fs t (subst (λ z. AreStanding z rows fs) same a)))

not-close : (j : Joint) (fs : List Opening) (t : Lexeme) → (j ≡ Close → ⊥) → with_empty j t fs ≡ None
not-close Close fs t h = absurd (h refl)
not-close _ fs t h = refl

pub empty-unlike : (t : Lexeme) (rows : List NodeRow) (xs : List Frame) → is_close (joint t) ≡ false → Empties t (held rows xs) (held rows xs) (Left Before)
empty-unlike t rows xs h = empty-as t rows xs (λ fs a. not-close (joint t) fs t (not-closing (joint t) h))

-- a token where the reader stands

pub moves-before : (base : ℕ) (t : Lexeme) (before after : Held) (step : Step) → Begins base t before after step → Moves base Before t before after step
unfolding move
moves-before base t before after step h (SpecBefore fs) a = h fs a
moves-before base t before after step h (SpecBehind e fs) a = absurd a
moves-before base t before after step h (SpecNaming e d fs) a = absurd a

settled-twice : (fs : List Opening) (r : ℕ) (e : Phrase) (p : SpecOperand) → settled fs r e ≡ Some p → settled p.openings 0 p.phrase ≡ settled fs 0 e
unfolding settled
settled-twice [] r e p h = ap (λ (x : SpecOperand). settled x.openings 0 x.phrase) (sym (same_Some (operand e []) p h))
settled-twice (f ∷ fs) r e p h =
    settle-cases (nat_lt r (edge f)) (closed f e) (λ w. settled fs r w) (Some (operand e (f ∷ fs))) p h
    (λ w b c g. settled-twice fs r w p g ∙ sym (settled-closes 0 e w f fs (omega (arith, ltb-true r (edge f) b)) c))
    (λ b s. ap (λ (x : SpecOperand). settled x.openings 0 x.phrase) (sym (same_Some (operand e (f ∷ fs)) p s)))

none-cases : {P : Type 0} (b : Bool) (c : Option Phrase) (go : Phrase → Option SpecOperand) (stay : SpecOperand) → settled_by b c go (Some stay) ≡ None → ((w : Phrase) → b ≡ true → c ≡ Some w → go w ≡ None → P) → (b ≡ true → c ≡ None → P) → P
none-cases true (Some w) go stay h k l = k w refl refl h
none-cases true None go stay h k l = l refl refl
none-cases false c go stay h k l = absurd (cc)

settled-none : (fs : List Opening) (r : ℕ) (e : Phrase) → settled fs r e ≡ None → settled fs 0 e ≡ None
unfolding settled
settled-none [] r e h = absurd (cc)
settled-none (f ∷ fs) r e h =
    none-cases (nat_lt r (edge f)) (closed f e) (λ w. settled fs r w) (operand e (f ∷ fs)) h
    (λ w b c g. settled-closes 0 e w f fs (omega (arith, ltb-true r (edge f) b)) c ∙ settled-none fs r w g)
    (λ b c. settled-fails 0 e f fs (omega (arith, ltb-true r (edge f) b)) c)

retaken : (step : Step) (rows : List NodeRow) (xs : List Frame) (s n : State) (o : Option State) → finish s ≡ finish n → IsTakenAs step rows xs s o → IsTakenAs step rows xs n o
retaken (Taken place) rows xs s n (Some m) h k = k
retaken (Taken place) rows xs s n None h k = absurd k
retaken (Left place) rows xs s n (Some m) h k = absurd k
retaken (Left place) rows xs s n None h k = record { state = k.state; stands = k.stands; same = k.same ∙ h }

abbrev pub Settling : Held → Held → Operand → Option Operand → ℕ → Type 0
Settling before after o w r = (fs : List Opening) (e : Phrase) → AreStanding before.frames before.rows fs → Stands before.rows o e → IsSettledAs after.rows w after.frames (settled fs r e)

behind-some : (base : ℕ) (t : Lexeme) (middle after : Held) (w : Operand) (step : Step) (j : Joint) (fs : List Opening) (e : Phrase) (o : Option SpecOperand) → settled fs (reach j) e ≡ o → joint t ≡ j → IsSettledAs middle.rows (Some w) middle.frames o → Joins base j t w middle after step → IsTakenAs step after.rows after.frames (SpecBehind e fs) (joined base t o)
unfolding finish
behind-some base t middle after w step j fs e None h q s joins = absurd s
behind-some base t middle after w step j fs e (Some p) h q s joins =
    subst (λ x. IsTakenAs step after.rows after.frames (SpecBehind e fs) (join base x t p.phrase p.openings)) (sym q)
    (retaken step after.rows after.frames (SpecBehind p.phrase p.openings) (SpecBehind e fs) (join base j t p.phrase p.openings) (ap alone_in (settled-twice fs (reach j) e p h)) (joins p.openings p.phrase q s.1 s.0))

pub moves-behind : (base : ℕ) (t : Lexeme) (before middle after : Held) (o w : Operand) (step : Step) (j : Joint) → joint t ≡ j → Settling before middle o (Some w) (reach j) → Joins base j t w middle after step → Moves base (Behind o) t before after step
unfolding move
moves-behind base t before middle after o w step j q settling joins (SpecBefore fs) a = absurd a
moves-behind base t before middle after o w step j q settling joins (SpecNaming e d fs) a = absurd a
moves-behind base t before middle after o w step j q settling joins (SpecBehind e fs) a =
    subst (λ x. IsTakenAs step after.rows after.frames (SpecBehind e fs) (joined base t (settled fs (reach x) e))) (sym q)
    (behind-some base t middle after w step j fs e (settled fs (reach j) e) refl q (settling fs e a.1 a.0) joins)

behind-none : (base : ℕ) (t : Lexeme) (after : Held) (j : Joint) (fs : List Opening) (e : Phrase) (o : Option SpecOperand) → settled fs (reach j) e ≡ o → IsSettledAs after.rows None after.frames o → IsTakenAs (Left Before) after.rows after.frames (SpecBehind e fs) (joined base t o)
unfolding finish
behind-none base t after j fs e (Some p) h s = absurd s
behind-none base t after j fs e None h s = record { state = SpecBefore s.0; stands = s.1; same = sym (ap alone_in (settled-none fs (reach j) e h)) }

pub moves-none : (base : ℕ) (t : Lexeme) (before after : Held) (o : Operand) (j : Joint) → joint t ≡ j → Settling before after o None (reach j) → Moves base (Behind o) t before after (Left Before)
unfolding move
moves-none base t before after o j q settling (SpecBefore fs) a = absurd a
moves-none base t before after o j q settling (SpecNaming e d fs) a = absurd a
moves-none base t before after o j q settling (SpecBehind e fs) a =
    subst (λ x. IsTakenAs (Left Before) after.rows after.frames (SpecBehind e fs) (joined base t (settled fs (reach x) e))) (sym q)
    (behind-none base t after j fs e (settled fs (reach j) e) refl (settling fs e a.1 a.0))

pub moves-name : (base : ℕ) (t : Lexeme) (rows after : List NodeRow) (xs : List Frame) (s : Single) (w : Operand) → is_name t.symbol ≡ true → Grows rows after → ((b : Phrase) (d : Lexeme) → IsSingle rows s b → Stands after w (Member b d t)) → Moves base (Naming s) t (held rows xs) (held after xs) (Taken (Behind w))
unfolding move
moves-name base t rows after xs s w h g made (SpecBefore fs) a = absurd a
moves-name base t rows after xs s w h g made (SpecBehind e fs) a = absurd a
moves-name base t rows after xs s w h g made (SpecNaming e d fs) a =
    taken-as (Behind w) after xs (SpecNaming e d fs) (when (is_name t.symbol) (SpecBehind (Member e d t) fs)) (SpecBehind (Member e d t) fs) (when-true (is_name t.symbol) (SpecBehind (Member e d t) fs) h)
    (made e d a.0, frames-grown rows after xs fs g a.1)

pub moves-nameless : (base : ℕ) (t : Lexeme) (rows : List NodeRow) (xs : List Frame) (s : Single) → is_name t.symbol ≡ false → Moves base (Naming s) t (held rows xs) (held rows xs) (Left (Naming s))
unfolding move
moves-nameless base t rows xs s h (SpecBefore fs) a = absurd a
moves-nameless base t rows xs s h (SpecBehind e fs) a = absurd a
moves-nameless base t rows xs s h (SpecNaming e d fs) a =
    left-as (Naming s) rows xs (SpecNaming e d fs) (when (is_name t.symbol) (SpecBehind (Member e d t) fs)) (when-false (is_name t.symbol) (SpecBehind (Member e d t) fs) h)
    (record { state = SpecNaming e d fs; stands = a; same = refl })

-- the end

pub finds-none : (place : Place) (rows : List NodeRow) (xs : List Frame) → ((o : Operand) → place ≡ Behind o → ⊥) → (s : State) → PlaceStands place rows xs s → IsFoundAs rows None (finish s)
unfolding finish
finds-none Before rows xs h (SpecBefore fs) a = tt
finds-none Before rows xs h (SpecBehind e fs) a = absurd a
finds-none Before rows xs h (SpecNaming e d fs) a = absurd a
finds-none (Behind o) rows xs h s a = absurd (h o refl)
finds-none (Naming b) rows xs h (SpecBefore fs) a = absurd a
finds-none (Naming b) rows xs h (SpecBehind e fs) a = absurd a
finds-none (Naming b) rows xs h (SpecNaming e d fs) a = tt

abbrev pub Finds : List NodeRow → Option Found → Option SpecOperand → Type 0
Finds rows found o = IsFoundAs rows found (alone_in o)

pub finds-behind : (before : Held) (o : Operand) (rows : List NodeRow) (found : Option Found) → ((fs : List Opening) (e : Phrase) → AreStanding before.frames before.rows fs → Stands before.rows o e → Finds rows found (settled fs 0 e)) → (s : State) → PlaceStands (Behind o) before.rows before.frames s → IsFoundAs rows found (finish s)
unfolding finish
finds-behind before o rows found h (SpecBefore fs) a = absurd a
finds-behind before o rows found h (SpecNaming e d fs) a = absurd a
finds-behind before o rows found h (SpecBehind e fs) a = h fs e a.1 a.0

pub finds-failed : (rows : List NodeRow) (xs : List Frame) (o : Option SpecOperand) → IsSettledAs rows None xs o → Finds rows None o
finds-failed rows xs None h = tt
finds-failed rows xs (Some p) h = absurd h

open-case : (rows : List NodeRow) (xs : List Frame) (fs : List Opening) (e : Phrase) → (xs ≡ [] → ⊥) → AreStanding xs rows fs → Finds rows None (Some (operand e fs))
open-case rows [] fs e denied a = absurd (denied refl)
open-case rows (x ∷ xs) [] e denied a = absurd a
open-case rows (x ∷ xs) (f ∷ fs) e denied a = tt

whole-case : (rows after : List NodeRow) (fs : List Opening) (e : Phrase) (f : Found) → AreStanding [] rows fs → Tells e after f → Finds after (Some f) (Some (operand e fs))
whole-case rows after [] e f a t = t
whole-case rows after (g ∷ fs) e f a t = absurd a

pub finds-open : (rows : List NodeRow) (w : Operand) (xs : List Frame) (o : Option SpecOperand) → (xs ≡ [] → ⊥) → IsSettledAs rows (Some w) xs o → Finds rows None o
finds-open rows w xs None denied h = absurd h
finds-open rows w xs (Some p) denied h = open-case rows xs p.openings p.phrase denied h.1

pub finds-whole : (rows after : List NodeRow) (w : Operand) (xs : List Frame) (o : Option SpecOperand) (f : Found) → xs ≡ [] → ((e : Phrase) → Stands rows w e → Tells e after f) → IsSettledAs rows (Some w) xs o → Finds after (Some f) o
finds-whole rows after w xs None f same tells h = absurd h
finds-whole rows after w xs (Some p) f same tells h = whole-case rows after p.openings p.phrase f (subst (λ z. AreStanding z rows p.openings) same h.1) (tells p.phrase h.0)
