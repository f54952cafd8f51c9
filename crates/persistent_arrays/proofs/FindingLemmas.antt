-- The first of some things that is written as a text.
use Rattle.std.proofs.Common.{◌≡◌, ℕ, nat_eq, Bool, true, false, cond, List, [], ◌∷◌, Some, ◌⊎◌, inl, inr, refl, ap, ◌∙◌}
use Rattle.std.specs.Prelude.{find}
use Rattle.std.specs.Cmp.Lexicographic.{pointwise}
use Rattle.std.proofs.lemmas.Bool.{and_parts, eq-eqb, eqb-true}
use Rattle.std.proofs.lemmas.Option.{same_Some}
use Rattle.bml_bytes.specs.Words.{is_same}

pub same_codes : (xs ys : List ℕ) → is_same xs ys ≡ true → xs ≡ ys
same_codes [] [] e = refl
same_codes [] (y ∷ ys) e = absurd (cc e)
same_codes (x ∷ xs) [] e = absurd (cc e)
same_codes (x ∷ xs) (y ∷ ys) e =
    let parts = and_parts (nat_eq x y) (pointwise nat_eq xs ys) e in
    let first : x ≡ y = eqb-true x y parts.0 in
    let rest : xs ≡ ys = same_codes xs ys parts.1 in
    cc

same_itself : (xs : List ℕ) → is_same xs xs ≡ true
same_itself [] = refl
same_itself (x ∷ xs) = rw (eq-eqb x x refl, same_itself xs) refl

-- a thing is one of these
abbrev pub IsAmong : {A : Type 0} → A → List A → Type 0
IsAmong a [] = ⊥
IsAmong a (x ∷ xs) = (x ≡ a) ⊎ IsAmong a xs

module _ {A : Type 0} (word : A → List ℕ) where
  -- what is found is one of them, and is written so
  pub found-written : (text : List ℕ) (list : List A) (a : A) → find (λ x. is_same text (word x)) list ≡ Some a → IsAmong a list × (text ≡ word a)
  found-written text [] a e = absurd cc
  found-written text (x ∷ list) a e = by (is_same text (word x)) refl e (λ later. found-written text list a later)
    where
      by : (test : Bool) → is_same text (word x) ≡ test → cond test (Some x) (find (λ x. is_same text (word x)) list) ≡ Some a
          → (find (λ x. is_same text (word x)) list ≡ Some a → IsAmong a list × (text ≡ word a)) → IsAmong a (x ∷ list) × (text ≡ word a)
      by true same e rest = let here : x ≡ a = same_Some x a e in (inl here, same_codes text (word x) same ∙ ap word here)
      by false other e rest = let later = rest e in (inr later.0, later.1)

  -- one of them is found by what it is written as, where no other one is written so
  pub written-found : (list : List A) (a : A) → ((x : A) → IsAmong x list → word a ≡ word x → x ≡ a) → IsAmong a list → find (λ x. is_same (word a) (word x)) list ≡ Some a
  written-found [] a one is = absurd is
  written-found (x ∷ list) a one is = by (is_same (word a) (word x)) refl is (written-found list a (λ y among. one y (inr among)))
    where
      by : (test : Bool) → is_same (word a) (word x) ≡ test → IsAmong a (x ∷ list) → (IsAmong a list → find (λ x. is_same (word a) (word x)) list ≡ Some a)
          → cond test (Some x) (find (λ x. is_same (word a) (word x)) list) ≡ Some a
      by true same is rest = ap (λ (y : A). Some y) (one x (inl refl) (same_codes (word a) (word x) same))
      by false other (inl here) rest = let same : is_same (word a) (word x) ≡ true = rw here (same_itself (word a)) in absurd cc
      by false other (inr later) rest = rest later
