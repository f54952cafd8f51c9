-- What tests say.
use Rattle.std.proofs.Common.{◌≡◌, ℕ, ◌&&◌, Bool, true, false, not, inl, inr, List, [], ◌∷◌, nat_eq, refl, subst}
use Rattle.std.specs.Prelude.{◌||◌, ◌↔◌, ◌⊎◌}
use Rattle.std.specs.Cmp.Lexicographic.{pointwise}
use Rattle.std.proofs.lemmas.Bool.{eq-eqb, eqb-true}
use Rattle.bml_bytes.specs.Words.{is_same}

pub both : (a b : Bool) → ((a && b) ≡ true) ↔ ((a ≡ true) × (b ≡ true))
both true b = (λ h. (refl, h), λ h. h.1)
both false b = (λ h. absurd (cc h), λ h. h.0)

pub one : (a b : Bool) → ((a || b) ≡ true) ↔ ((a ≡ true) ⊎ (b ≡ true))
one true b = (λ h. inl refl, λ h. refl)
one false b = (λ h. inr h, λ h. elim h [ inl e ↦ absurd (cc e) | inr e ↦ e ])

pub neither : (a b : Bool) → ((a || b) ≡ false) ↔ ((a ≡ false) × (b ≡ false))
neither true b = (λ h. absurd (cc h), λ h. h.0)
neither false b = (λ h. (refl, h), λ h. h.1)

pub other : (a : Bool) → (not a ≡ true) ↔ (a ≡ false)
other true = (λ h. absurd (cc h), λ h. absurd (cc h))
other false = (λ h. refl, λ h. refl)

-- ---- texts

same-by : (x y : ℕ) (xs ys : List ℕ) (t : Bool) → nat_eq x y ≡ t → (t && pointwise nat_eq xs ys) ≡ true → (pointwise nat_eq xs ys ≡ true → xs ≡ ys) → x ∷ xs ≡ y ∷ ys
same-by x y xs ys true p e h = let a : x ≡ y = eqb-true x y p in let b : xs ≡ ys = h e in cc
same-by x y xs ys false p e h = absurd (cc e)

same : (xs ys : List ℕ) → is_same xs ys ≡ true → xs ≡ ys
same [] [] e = refl
same [] (y ∷ ys) e = absurd (cc e)
same (x ∷ xs) [] e = absurd (cc e)
same (x ∷ xs) (y ∷ ys) e = same-by x y xs ys (nat_eq x y) refl e (same xs ys)

itself : (xs : List ℕ) → is_same xs xs ≡ true
itself [] = refl
itself (x ∷ xs) = rw (eq-eqb x x refl, itself xs) refl

pub same-texts : (text other : List ℕ) → (is_same text other ≡ true) ↔ (text ≡ other)
same-texts text other = (same text other, λ e. subst (λ (x : List ℕ). is_same text x ≡ true) e (itself text))
