-- What a read of a file in memory takes.
use Rattle.std.proofs.Common.{◌≡◌, ℕ, ◌+◌, ◌<◌, ◌≤◌, List, [], ◌++◌, length, take, drop, sym, ◌∙◌, arith, take-append-drop}
use Rattle.std.proofs.lemmas.List.{drop-drop, drop_all}

-- n bytes were copied from the front of those left, and none only where none were left
pub drop-read : (bytes buf : List ℕ) (taken n : ℕ) → taken + n ≤ length bytes → take n buf ≡ take n (drop taken bytes) → (taken < length bytes → 0 < n)
    → (drop taken bytes ≡ take n buf ++ drop (taken + n) bytes) × (n ≡ 0 → 0 < length buf → drop (taken + n) bytes ≡ [])
drop-read bytes buf taken n within copied some =
    (sym (take-append-drop n (drop taken bytes)) ∙ rw (drop-drop n taken bytes, copied), λ none room. drop_all (taken + n) bytes (past none))
  where
    past : n ≡ 0 → length bytes ≤ taken + n
    past none = grind (arith, some)
