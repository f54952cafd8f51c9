-- The bytes of the codes of some bytes.
use Rattle.std.proofs.Common.{◌≡◌, ℕ, ◌+◌, ◌*◌, ◌<◌, Bool, true, false, cond, List, [], ◌∷◌, refl, arith}
use Rattle.std.proofs.lemmas.Bool.Decides.{nat_tests}
use Rattle.std.specs.List.{All}
use Rattle.bml_bytes.specs.Codes.{AreBytes, code_bytes, is_pair, codes, bytes_of}
use Rattle.std.proofs.lemmas.List.Elements.{All-head, All-tail}

-- a byte that stands for itself
code_bytes-single : (byte : ℕ) → byte < 256 → code_bytes byte ≡ byte ∷ []
code_bytes-single byte h = grind (arith, nat_tests)

-- two bytes that are a pair
code_bytes-pair : (first second : ℕ) → second < 256 → is_pair first second ≡ true → code_bytes (first * 256 + second) ≡ first ∷ second ∷ []
code_bytes-pair first second h pair = grind (arith, nat_tests)

pub bytes_of-codes : (bytes : List ℕ) → AreBytes bytes → bytes_of (codes bytes) ≡ bytes
unfolding codes
bytes_of-codes [] h = refl
bytes_of-codes (a ∷ []) h = rw (code_bytes-single a (All-head (λ b. b < 256) a [] h)) refl
bytes_of-codes (a ∷ b ∷ rest) h =
    let first = All-head (λ b. b < 256) a (b ∷ rest) h in
    let behind = All-tail (λ b. b < 256) a (b ∷ rest) h in
    let second = All-head (λ b. b < 256) b rest behind in
    let last = All-tail (λ b. b < 256) b rest behind in
    by_pair (is_pair a b) refl first second (bytes_of-codes rest last) (bytes_of-codes (b ∷ rest) behind)
  where
    by_pair : {a b : ℕ} {rest : List ℕ} (pair : Bool) → is_pair a b ≡ pair → a < 256 → b < 256 → bytes_of (codes rest) ≡ rest → bytes_of (codes (b ∷ rest)) ≡ b ∷ rest → bytes_of (cond pair ((a * 256 + b) ∷ codes rest) (a ∷ codes (b ∷ rest))) ≡ a ∷ b ∷ rest
    by_pair {a} {b} {rest} true e first second h hs = rw (code_bytes-pair a b second e, h) refl
    by_pair {a} {b} {rest} false e first second h hs = rw (code_bytes-single a first, hs) refl

-- a byte of ASCII begins no pair
is_pair-ascii : (first second : ℕ) → first < 128 → is_pair first second ≡ false
is_pair-ascii first second h = grind (arith, nat_tests)

pub codes-ascii : (bytes : List ℕ) → All (λ byte. byte < 128) bytes → codes bytes ≡ bytes
unfolding codes
codes-ascii [] h = refl
codes-ascii (a ∷ []) h = refl
codes-ascii (a ∷ b ∷ rest) h =
    let first = All-head (λ byte. byte < 128) a (b ∷ rest) h in
    let behind = All-tail (λ byte. byte < 128) a (b ∷ rest) h in
    rw (is_pair-ascii a b first, codes-ascii (b ∷ rest) behind) refl
