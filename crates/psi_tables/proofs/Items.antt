-- Items laid end to end: what is read is what stands there, and what was written is read again.
use Rattle.std.proofs.Common.{◌≡◌, ℕ, zero, suc, ◌≤◌, ◌<◌, List, [], ◌∷◌, ◌++◌, length, Option, Some, None, refl, ap, subst, ◌∙◌, arith}
use Rattle.bml_bytes.specs.Fields.{◌>>=◌}
use Rattle.psi_tables.specs.Laid.{AreLaid}
use Rattle.psi_tables.specs.Reading.{items_within, items_in}
use Rattle.psi_tables.proofs.Fields.{bind_with}

-- each item takes a byte at least
pub record Shortens {A : Type 0} (item : List ℕ → Option (A × List ℕ)) : Type 0 where
  pub shorter : (bytes : List ℕ) (x : A × List ℕ) → item bytes ≡ Some x → length x.1 < length bytes

-- what is known of reading one item
pub record ItemLaws {A : Type 0} (item : List ℕ → Option (A × List ℕ)) (Is : A → List ℕ → Type 0) : Type 0 where
  pub takes : (bytes : List ℕ) (x : A × List ℕ) → item bytes ≡ Some x → (text : List ℕ) × (bytes ≡ text ++ x.1) × Is x.0 text
  pub again : (a : A) (text rest : List ℕ) → Is a text → item (text ++ rest) ≡ Some (a, rest)
  pub short : Shortens item

-- any two bounds that suffice give the same
within_same : {A : Type 0} (item : List ℕ → Option (A × List ℕ)) (s : Shortens item) (m n : ℕ) (bytes : List ℕ) → length bytes ≤ m → length bytes ≤ n → items_within item m bytes ≡ items_within item n bytes
unfolding items_within
within_same item s zero zero bytes l r = refl
within_same item s zero (suc n) [] l r = refl
within_same item s zero (suc n) (b ∷ bytes) l r = absurd (omega arith)
within_same item s (suc m) zero [] l r = refl
within_same item s (suc m) zero (b ∷ bytes) l r = absurd (omega arith)
within_same item s (suc m) (suc n) [] l r = refl
within_same {A} item s (suc m) (suc n) (b ∷ bytes) l r = step item m n (item (b ∷ bytes)) (λ x e. let le = s.shorter (b ∷ bytes) x e in within_same item s m n x.1 (omega arith) (omega arith))
  where
    step : {A : Type 0} (item : List ℕ → Option (A × List ℕ)) (m n : ℕ) (read : Option (A × List ℕ)) → ((x : A × List ℕ) → read ≡ Some x → items_within item m x.1 ≡ items_within item n x.1)
        → (read >>= λ first. items_within item m first.1 >>= λ others. Some (first.0 ∷ others)) ≡ (read >>= λ first. items_within item n first.1 >>= λ others. Some (first.0 ∷ others))
    step item m n None same = refl
    step {A} item m n (Some x) same = ap (λ (o : Option (List A)). o >>= λ others. Some (x.0 ∷ others)) (same x refl)

-- one item, and those behind it
pub items_first : {A : Type 0} (item : List ℕ → Option (A × List ℕ)) (s : Shortens item) (bytes : List ℕ) (x : A × List ℕ) → item bytes ≡ Some x → items_in item bytes ≡ (items_in item x.1 >>= λ others. Some (x.0 ∷ others))
unfolding items_in items_within
items_first item s [] x e = let le = s.shorter [] x e in absurd (omega arith)
items_first item s (b ∷ bytes) x e =
    let le = s.shorter (b ∷ bytes) x e in
    let same : items_within item (length bytes) x.1 ≡ items_within item (length x.1) x.1 = within_same item s (length bytes) (length x.1) x.1 (omega arith) (omega arith) in
    rw (e, same) refl

-- where no item stands, the bytes aren't items
pub items_none : {A : Type 0} (item : List ℕ → Option (A × List ℕ)) (bytes : List ℕ) → 0 < length bytes → item bytes ≡ None → items_in item bytes ≡ None
unfolding items_in items_within
items_none item [] lt e = absurd (omega arith)
items_none item (b ∷ bytes) lt e = rw e refl

pub items_nil : {A : Type 0} (item : List ℕ → Option (A × List ℕ)) → items_in item [] ≡ Some []
unfolding items_in items_within
items_nil item = refl

abbrev found : {A : Type 0} → A → Option A
found x = Some x

same : {A : Type 0} (x y : A) → found x ≡ found y → x ≡ y
same x y e = cc

within_laid : {A : Type 0} (item : List ℕ → Option (A × List ℕ)) (Is : A → List ℕ → Type 0) (laws : ItemLaws item Is) (n : ℕ) (bytes : List ℕ) (items : List A) → items_within item n bytes ≡ Some items → AreLaid Is bytes items
unfolding items_within
within_laid item Is laws zero [] items e = subst (AreLaid Is []) (same [] items e) refl
within_laid item Is laws zero (b ∷ bytes) items e = absurd cc
within_laid item Is laws (suc n) [] items e = subst (AreLaid Is []) (same [] items e) refl
within_laid {A} item Is laws (suc n) (b ∷ bytes) items e =
    bind_with (item (b ∷ bytes)) (λ (first : A × List ℕ). items_within item n first.1 >>= λ others. Some (first.0 ∷ others)) items e (λ first first-is e0.
    bind_with (items_within item n first.1) (λ (others : List A). Some (first.0 ∷ others)) items e0 (λ others others-is e1.
    let t = laws.takes (b ∷ bytes) first first-is in
    subst (AreLaid Is (b ∷ bytes)) (same (first.0 ∷ others) items e1) (t.0, first.1, t.1, t.2, within_laid item Is laws n first.1 others others-is)))

pub items_laid : {A : Type 0} (item : List ℕ → Option (A × List ℕ)) (Is : A → List ℕ → Type 0) (laws : ItemLaws item Is) (bytes : List ℕ) (items : List A) → items_in item bytes ≡ Some items → AreLaid Is bytes items
unfolding items_in
items_laid item Is laws bytes items e = within_laid item Is laws (length bytes) bytes items e

pub items_again : {A : Type 0} (item : List ℕ → Option (A × List ℕ)) (Is : A → List ℕ → Type 0) (laws : ItemLaws item Is) (bytes : List ℕ) (items : List A) → AreLaid Is bytes items → items_in item bytes ≡ Some items
items_again item Is laws bytes [] laid = ap (items_in item) laid ∙ items_nil item
items_again {A} item Is laws bytes (a ∷ items) laid =
    ap (items_in item) laid.2
    ∙ items_first item laws.short (laid.0 ++ laid.1) (a, laid.1) (laws.again a laid.0 laid.1 laid.3)
    ∙ ap (λ (o : Option (List A)). o >>= λ others. Some (a ∷ others)) (items_again item Is laws laid.1 items laid.4)
