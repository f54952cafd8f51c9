-- The order of texts that begin alike.
use Rattle.std.proofs.Common.{◌≡◌, ℕ, true, List, [], ◌∷◌, ◌++◌, length, take, drop, nat_eq, refl, sym, ◌∙◌, ap}
use Rattle.std.specs.Cmp.Lexicographic.{pointwise, slice_cmp}
use Rattle.std.specs.Cmp.{nat_cmp_is}
use Rattle.std.specs.Ordering.{nat_cmp, ordering_then}
use Rattle.std.specs.declared.cmp.Ordering.{Ordering}
use Rattle.std.specs.declared.cmp.Ordering.TheVariants.{Equal}
use Rattle.std.proofs.lemmas.List.{take-append-drop}
use Rattle.bml_bytes.proofs.TestLaws.{same-texts}

equal : (code : ℕ) → nat_cmp code code ≡ Equal
equal code = sym (nat_cmp_is code code Equal refl)

-- what both begin with decides nothing
pub behind_front : (front xs ys : List ℕ) → slice_cmp nat_cmp (front ++ xs) (front ++ ys) ≡ slice_cmp nat_cmp xs ys
behind_front [] xs ys = refl
behind_front (code ∷ front) xs ys = ap (λ (o : Ordering). ordering_then o (slice_cmp nat_cmp (front ++ xs) (front ++ ys))) (equal code) ∙ behind_front front xs ys

-- the same, where the fronts were compared
pub behind_block : (n : ℕ) (xs ys : List ℕ) (block : List ℕ) → take n xs ≡ block → pointwise nat_eq (take (length block) ys) block ≡ true
    → slice_cmp nat_cmp xs ys ≡ slice_cmp nat_cmp (drop n xs) (drop (length block) ys)
behind_block n xs ys block e same =
    let front : take (length block) ys ≡ block = (same-texts (take (length block) ys) block).0 same in
    let left : block ++ drop n xs ≡ xs = ap (λ (b : List ℕ). b ++ drop n xs) (sym e) ∙ take-append-drop n xs in
    let right : block ++ drop (length block) ys ≡ ys = ap (λ (b : List ℕ). b ++ drop (length block) ys) (sym front) ∙ take-append-drop (length block) ys in
    ap (λ (zs : List ℕ). slice_cmp nat_cmp zs ys) (sym left)
    ∙ ap (slice_cmp nat_cmp (block ++ drop n xs)) (sym right)
    ∙ behind_front block (drop n xs) (drop (length block) ys)
