-- Texts that are compared code by code.
use Rattle.std.proofs.Common.{◌≡◌, ℕ, ◌&&◌, Bool, false, List, [], ◌∷◌, length, nat_eq, refl, sym, ap, ◌∙◌, arith}
use Rattle.std.specs.Char.{to_ascii_lowercase}
use Rattle.std.specs.Cmp.Derive.Mapped.{pointwise-map}
use Rattle.std.specs.Cmp.Lexicographic.{pointwise, unequal}
use Rattle.std.specs.List.{list_all, zip}
use Rattle.bml_bytes.specs.Words.{is_same, is_same_in_any_case}

-- two lists of one length, pair by pair
by_pairs : (E : ℕ → ℕ → Bool) (xs ys : List ℕ) → length xs ≡ length ys → list_all (λ pair. E pair.0 pair.1) (zip xs ys) ≡ pointwise E xs ys
by_pairs E [] [] h = refl
by_pairs E [] (y ∷ ys) h = absurd (omega arith)
by_pairs E (x ∷ xs) [] h = absurd (omega arith)
by_pairs E (x ∷ xs) (y ∷ ys) h = ap (λ (rest : Bool). E x y && rest) (by_pairs E xs ys (omega arith))

in_any_case : (xs ys : List ℕ) → is_same_in_any_case xs ys ≡ pointwise (λ a b. nat_eq (to_ascii_lowercase a) (to_ascii_lowercase b)) xs ys
in_any_case xs ys = pointwise-map to_ascii_lowercase nat_eq xs ys

pub same-by_pairs : (xs ys : List ℕ) → length xs ≡ length ys → list_all (λ pair. nat_eq pair.0 pair.1) (zip xs ys) ≡ is_same xs ys
same-by_pairs xs ys h = by_pairs nat_eq xs ys h

pub same_in_any_case-by_pairs : (xs ys : List ℕ) → length xs ≡ length ys → list_all (λ pair. nat_eq (to_ascii_lowercase pair.0) (to_ascii_lowercase pair.1)) (zip xs ys) ≡ is_same_in_any_case xs ys
same_in_any_case-by_pairs xs ys h = by_pairs (λ a b. nat_eq (to_ascii_lowercase a) (to_ascii_lowercase b)) xs ys h ∙ sym (in_any_case xs ys)

pub same-longer : (xs ys : List ℕ) → (length xs ≡ length ys → ⊥) → is_same xs ys ≡ false
same-longer xs ys h = unequal nat_eq xs ys h

pub same_in_any_case-longer : (xs ys : List ℕ) → (length xs ≡ length ys → ⊥) → is_same_in_any_case xs ys ≡ false
same_in_any_case-longer xs ys h = in_any_case xs ys ∙ unequal (λ a b. nat_eq (to_ascii_lowercase a) (to_ascii_lowercase b)) xs ys h
