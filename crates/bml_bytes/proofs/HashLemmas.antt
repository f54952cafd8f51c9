-- The hash that a text keeps, code by code.
use Rattle.std.proofs.Common.{◌≡◌, ◌<◌, ◌≤◌, ℕ, List, [], ◌∷◌, length, take, drop, refl, arith}
use Rattle.bml_bytes.specs.devices.Hashes.{mixed, with_codes, word_of}

-- four codes more
pub four_more : (hash : ℕ) (codes : List ℕ) → 4 ≤ length codes → with_codes hash codes ≡ with_codes (mixed hash (word_of (take 4 codes))) (drop 4 codes)
unfolding with_codes
four_more hash [] h = absurd (omega (arith, h))
four_more hash (a ∷ []) h = absurd (omega (arith, h))
four_more hash (a ∷ b ∷ []) h = absurd (omega (arith, h))
four_more hash (a ∷ b ∷ c ∷ []) h = absurd (omega (arith, h))
four_more hash (a ∷ b ∷ c ∷ d ∷ rest) h = refl

-- one code more, where there are fewer than four
pub one_more : (hash code : ℕ) (rest : List ℕ) → length (code ∷ rest) < 4 → with_codes hash (code ∷ rest) ≡ with_codes (mixed hash code) rest
unfolding with_codes
one_more hash a [] h = refl
one_more hash a (b ∷ []) h = refl
one_more hash a (b ∷ c ∷ []) h = refl
one_more hash a (b ∷ c ∷ d ∷ rest) h = absurd (omega (arith, h))

-- where none is left
pub none_left : (hash : ℕ) (codes : List ℕ) → length codes ≡ 0 → with_codes hash codes ≡ hash
unfolding with_codes
none_left hash [] h = refl
none_left hash (code ∷ more) h = absurd (cc h)
