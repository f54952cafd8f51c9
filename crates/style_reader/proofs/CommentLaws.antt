-- Comments as they are spelled, and the text that is left when each is a space.
use Rattle.std.proofs.Common.{◌≡◌, ℕ, zero, suc, ◌≤◌, Bool, true, false, cond, List, [], ◌∷◌, ◌++◌, length, Some, None, refl, sym, ◌∙◌, ap, length-append, arith}
use Rattle.std.proofs.lemmas.Bool.Decides.{nat_tests}
use Rattle.std.specs.Prelude.{◌&&◌, nat_eq, codes}
use Rattle.style_reader.specs.Characters.{begins_with}
use Rattle.style_reader.specs.Comments.{Commented, IsClosedAtFirst, IsNeverClosed, SpellsComments, uncommented}
use Rattle.style_reader.specs.Comments.Commented.{Nothing, Code, Comment, OpenComment}
use Rattle.style_reader.specs.Readings.{plain_from, plain_text}
use Rattle.style_reader.specs.devices.Views.{behind_pair}
use Rattle.style_reader.proofs.CommentSteps.{plain-inside, plain-opened, plain-outside, plain-end}

-- ---- two codes at the front

eq-sym : (a b : ℕ) → nat_eq a b ≡ nat_eq b a
eq-sym a b = grind (arith, nat_tests)

both : (a b : Bool) → (a && (b && true)) ≡ (a && b)
both true true = refl
both true false = refl
both false b = refl

pair-test : (x y a b : ℕ) → (nat_eq x a && (nat_eq y b && true)) ≡ (nat_eq a x && nat_eq b y)
pair-test x y a b = rw (eq-sym x a, eq-sym y b) (both (nat_eq a x) (nat_eq b y))

none-by : (b : Bool) (rest : List ℕ) → b ≡ false → cond b (Some rest) None ≡ None
none-by b rest e = rw e refl

-- a mark of two codes that isn't at the front
no_pair : (x y : ℕ) (text : List ℕ) → begins_with (x ∷ y ∷ []) text ≡ false → behind_pair x y text ≡ None
no_pair x y [] e = refl
no_pair x y (a ∷ []) e = refl
no_pair x y (a ∷ b ∷ rest) e = none-by (nat_eq a x && nat_eq b y) rest (sym (pair-test x y a b) ∙ e)

-- ---- what a spelling leaves

closed-first : (inside rest : List ℕ) (code : ℕ) → begins_with (codes "*/") (code ∷ (inside ++ codes "*/")) ≡ false → begins_with (codes "*/") (code ∷ (inside ++ (codes "*/" ++ rest))) ≡ false
closed-first [] rest code e = e
closed-first (next ∷ inside) rest code e = e

plain-closed_at : (inside rest : List ℕ) → IsClosedAtFirst inside → plain_from true (inside ++ (codes "*/" ++ rest)) ≡ plain_from false rest
unfolding plain_from
plain-closed_at [] rest first = refl
plain-closed_at (code ∷ inside) rest first =
    plain-inside code (inside ++ (codes "*/" ++ rest)) (no_pair 42 47 (code ∷ (inside ++ (codes "*/" ++ rest))) (closed-first inside rest code first.0))
    ∙ plain-closed_at inside rest first.1

plain-never_closed : (inside : List ℕ) → IsNeverClosed inside → plain_from true inside ≡ []
plain-never_closed [] never = plain-end true
plain-never_closed (code ∷ inside) never = plain-inside code inside (no_pair 42 47 (code ∷ inside) never.0) ∙ plain-never_closed inside never.1

plain-mark : (inside : List ℕ) → plain_from false (codes "/*" ++ inside) ≡ 32 ∷ plain_from true inside
plain-mark inside = plain-opened (codes "/*" ++ inside) inside refl

pub uncommented-is : (spelling : Commented) (text : List ℕ) → SpellsComments spelling text → uncommented spelling ≡ plain_text text
uncommented-is Nothing text spelled = sym (ap (plain_from false) spelled ∙ plain-end false)
uncommented-is (Code code following) text spelled =
    let rest = spelled.0 in
    let outside : begins_with (codes "/*") (code ∷ rest) ≡ false = ap (begins_with (codes "/*")) (sym spelled.1) ∙ spelled.2 in
    ap (λ (t : List ℕ). code ∷ t) (uncommented-is following rest spelled.3)
    ∙ sym (plain-outside code rest (no_pair 47 42 (code ∷ rest) outside))
    ∙ ap (plain_from false) (sym spelled.1)
uncommented-is (Comment inside following) text spelled =
    let rest = spelled.0 in
    ap (λ (t : List ℕ). 32 ∷ t) (uncommented-is following rest spelled.3 ∙ sym (plain-closed_at inside rest spelled.2))
    ∙ sym (plain-mark (inside ++ (codes "*/" ++ rest)))
    ∙ ap (plain_from false) (sym spelled.1)
uncommented-is (OpenComment inside) text spelled =
    ap (λ (t : List ℕ). 32 ∷ t) (sym (plain-never_closed inside spelled.1))
    ∙ sym (plain-mark inside)
    ∙ ap (plain_from false) (sym spelled.0)

-- ---- each text is spelled so

-- where a comment ends
data Ends (text : List ℕ) : Type 0 where
  Closed : (inside rest : List ℕ) → text ≡ inside ++ (codes "*/" ++ rest) → IsClosedAtFirst inside → Ends text
  Never : IsNeverClosed text → Ends text

first-closed : (inside rest : List ℕ) (code : ℕ) → begins_with (codes "*/") (code ∷ (inside ++ (codes "*/" ++ rest))) ≡ false → begins_with (codes "*/") (code ∷ (inside ++ codes "*/")) ≡ false
first-closed [] rest code e = e
first-closed (next ∷ inside) rest code e = e

-- a text that begins with two codes is these and a rest
mark_and_rest : (x y : ℕ) (text : List ℕ) → begins_with (x ∷ y ∷ []) text ≡ true → (rest : List ℕ) × (text ≡ x ∷ y ∷ rest)
mark_and_rest x y [] e = absurd (cc e)
mark_and_rest x y (a ∷ []) e = by (nat_eq x a) e
  where
    by : (b : Bool) → (b && false) ≡ true → (rest : List ℕ) × (a ∷ [] ≡ x ∷ y ∷ rest)
    by true e = absurd (cc e)
    by false e = absurd (cc e)
mark_and_rest x y (a ∷ b ∷ rest) e = (rest, (let first : a ≡ x = grind (arith, nat_tests) in let second : b ≡ y = grind (arith, nat_tests) in rw (first, second) refl))

ends : (text : List ℕ) → Ends text
ends [] = Never tt
ends (code ∷ text) = by (begins_with (codes "*/") (code ∷ text)) refl (ends text)
  where
    by : (b : Bool) → begins_with (codes "*/") (code ∷ text) ≡ b → Ends text → Ends (code ∷ text)
    by true e more = let cut = mark_and_rest 42 47 (code ∷ text) e in Closed [] cut.0 cut.1 tt
    by false e (Closed inside rest is first) =
        Closed (code ∷ inside) rest (ap (λ (t : List ℕ). code ∷ t) is) (first-closed inside rest code (ap (λ (t : List ℕ). begins_with (codes "*/") (code ∷ t)) (sym is) ∙ e), first)
    by false e (Never never) = Never (e, never)

shorter : (inside rest text : List ℕ) → text ≡ inside ++ (codes "*/" ++ rest) → length rest ≤ length text
shorter inside rest text e = omega (arith, ap length e, length-append inside (codes "*/" ++ rest))

Spelled : List ℕ → Type 0
Spelled text = (spelling : Commented) × SpellsComments spelling text

with_comment : (text inner : List ℕ) → text ≡ 47 ∷ 42 ∷ inner → ((rest : List ℕ) → length rest ≤ length inner → Spelled rest) → Spelled text
unfolding Spelled
with_comment text inner is more = by (ends inner)
  where
    by : Ends inner → (spelling : Commented) × SpellsComments spelling text
    by (Closed inside rest cut first) =
        let following = more rest (shorter inside rest inner cut) in
        (Comment inside following.0, (rest, is ∙ ap (λ (t : List ℕ). 47 ∷ 42 ∷ t) cut, first, following.1))
    by (Never never) = (OpenComment inner, (is, never))

pub spelling-within : (most : ℕ) (text : List ℕ) → length text ≤ most → (spelling : Commented) × SpellsComments spelling text
unfolding Spelled
spelling-within most [] h = (Nothing, refl)
spelling-within zero (code ∷ text) h = absurd (omega arith)
spelling-within (suc most) (code ∷ text) h = by (begins_with (codes "/*") (code ∷ text)) refl (λ rest k. spelling-within most rest k)
  where
    by : (b : Bool) → begins_with (codes "/*") (code ∷ text) ≡ b → ((rest : List ℕ) → length rest ≤ most → (spelling : Commented) × SpellsComments spelling rest) → (spelling : Commented) × SpellsComments spelling (code ∷ text)
    by true e more =
        let cut = mark_and_rest 47 42 (code ∷ text) e in
        let long = ap length cut.1 in
        with_comment (code ∷ text) cut.0 cut.1 (λ rest k. more rest (omega arith))
    by false e more = let following = more text (omega arith) in (Code code following.0, (text, refl, e, following.1))

pub spelling-of : (text : List ℕ) → (spelling : Commented) × SpellsComments spelling text
spelling-of text = spelling-within (length text) text (omega arith)
