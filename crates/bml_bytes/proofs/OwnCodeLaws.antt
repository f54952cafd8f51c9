-- Texts that are the codes of their own bytes.
use Rattle.std.proofs.Common.{◌≡◌, ℕ, zero, suc, ◌+◌, ◌*◌, ◌/◌, ◌%◌, ◌<◌, inl, inr, Bool, true, false, cond, List, [], ◌∷◌, refl, subst, arith}
use Rattle.std.specs.Prelude.{nat_lt}
use Rattle.std.specs.List.{All}
use Rattle.std.proofs.lemmas.Bool.Decides.{nat_tests}
use Rattle.std.proofs.lemmas.List.Elements.{All-cons, All-head, All-tail, All-nil, All-append}
use Rattle.bml_bytes.specs.Codes.{AreBytes, IsByteOrPair, bytes_of, code_bytes, codes, is_pair}

-- ---- the codes of bytes are bytes and pairs

pair-code : (a b : ℕ) → b < 256 → is_pair a b ≡ true → is_pair ((a * 256 + b) / 256) ((a * 256 + b) % 256) ≡ true
pair-code a b h e =
    let high : (a * 256 + b) / 256 ≡ a = omega arith in
    let low : (a * 256 + b) % 256 ≡ b = omega arith in
    rw (high, low) e

codes-by : (a b : ℕ) (pair : Bool) (k l : List ℕ) → is_pair a b ≡ pair → a < 256 → b < 256 → All IsByteOrPair k → All IsByteOrPair l → All IsByteOrPair (cond pair ((a * 256 + b) ∷ k) (a ∷ l))
codes-by a b true k l e f g x y = All-cons IsByteOrPair (a * 256 + b) k (inr (pair-code a b g e)) x
codes-by a b false k l e f g x y = All-cons IsByteOrPair a l (inl f) y

codes-good : (bytes : List ℕ) → AreBytes bytes → All IsByteOrPair (codes bytes)
unfolding codes
codes-good [] h = All-nil IsByteOrPair
codes-good (a ∷ []) h = All-cons IsByteOrPair a [] (inl (All-head (λ b. b < 256) a [] h)) (All-nil IsByteOrPair)
codes-good (a ∷ b ∷ rest) h =
    let first = All-head (λ b. b < 256) a (b ∷ rest) h in
    let behind = All-tail (λ b. b < 256) a (b ∷ rest) h in
    let second = All-head (λ b. b < 256) b rest behind in
    let last = All-tail (λ b. b < 256) b rest behind in
    codes-by a b (is_pair a b) (codes rest) (codes (b ∷ rest)) refl first second (codes-good rest last) (codes-good (b ∷ rest) behind)

-- ---- the bytes of codes of 16 bits are bytes

bytes-by : (c : ℕ) (t : Bool) → nat_lt 255 c ≡ t → c < 65536 → AreBytes (cond t (c / 256 ∷ c % 256 ∷ []) (c ∷ []))
bytes-by c true e h =
    All-cons (λ b. b < 256) (c / 256) (c % 256 ∷ []) (omega arith) (All-cons (λ b. b < 256) (c % 256) [] (omega arith) (All-nil (λ b. b < 256)))
bytes-by c false e h =
    let k : c < 256 = grind (arith, nat_tests) in All-cons (λ b. b < 256) c [] k (All-nil (λ b. b < 256))

bytes-are : (text : List ℕ) → All (λ c. c < 65536) text → AreBytes (bytes_of text)
bytes-are [] h = All-nil (λ b. b < 256)
bytes-are (c ∷ cs) h =
    All-append (λ b. b < 256) (code_bytes c) (bytes_of cs) (bytes-by c (nat_lt 255 c) refl (All-head (λ c. c < 65536) c cs h)) (bytes-are cs (All-tail (λ c. c < 65536) c cs h))

pair-small : (c : ℕ) → is_pair (c / 256) (c % 256) ≡ true → c < 65536
pair-small c e = let high : c / 256 < 256 = grind (arith, nat_tests) in omega (arith, high)

code-small : (c : ℕ) → IsByteOrPair c → c < 65536
code-small c (inl h) = omega (arith, h)
code-small c (inr e) = pair-small c e

pub bytes_of-bytes : (text : List ℕ) → All IsByteOrPair text → AreBytes (bytes_of text)
bytes_of-bytes text h = bytes-are text (λ i d b. code-small _ (h i d b))

-- ---- a text that is the codes of its own bytes has codes of 16 bits: codes below a bound have bytes below a smaller
-- one, and these have such codes again

below-by : (k c : ℕ) (t : Bool) → nat_lt 255 c ≡ t → c < 65536 + (k + 1) → All (λ b. b < 65536 + k) (cond t (c / 256 ∷ c % 256 ∷ []) (c ∷ []))
below-by k c true e h = All-cons (λ b. b < 65536 + k) (c / 256) (c % 256 ∷ []) (omega arith) (All-cons (λ b. b < 65536 + k) (c % 256) [] (omega arith) (All-nil (λ b. b < 65536 + k)))
below-by k c false e h = let small : c < 256 = grind (arith, nat_tests) in All-cons (λ b. b < 65536 + k) c [] (omega arith) (All-nil (λ b. b < 65536 + k))

bytes-below : (k : ℕ) (text : List ℕ) → All (λ c. c < 65536 + (k + 1)) text → All (λ b. b < 65536 + k) (bytes_of text)
bytes-below k [] h = All-nil (λ b. b < 65536 + k)
bytes-below k (c ∷ cs) h =
    All-append (λ b. b < 65536 + k) (code_bytes c) (bytes_of cs) (below-by k c (nat_lt 255 c) refl (All-head (λ c. c < 65536 + (k + 1)) c cs h)) (bytes-below k cs (All-tail (λ c. c < 65536 + (k + 1)) c cs h))

joined-small : (a b : ℕ) → is_pair a b ≡ true → a * 256 + b < 65536
joined-small a b e = grind (arith, nat_tests)

joined-below : (k a b : ℕ) (pair : Bool) (x y : List ℕ) → is_pair a b ≡ pair → a < 65536 + k → All (λ c. c < 65536 + k) x → All (λ c. c < 65536 + k) y → All (λ c. c < 65536 + k) (cond pair ((a * 256 + b) ∷ x) (a ∷ y))
joined-below k a b true x y e f g h = let small = joined-small a b e in All-cons (λ c. c < 65536 + k) (a * 256 + b) x (omega (arith, small)) g
joined-below k a b false x y e f g h = All-cons (λ c. c < 65536 + k) a y f h

codes-below : (k : ℕ) (bytes : List ℕ) → All (λ b. b < 65536 + k) bytes → All (λ c. c < 65536 + k) (codes bytes)
unfolding codes
codes-below k [] h = h
codes-below k (a ∷ []) h = h
codes-below k (a ∷ b ∷ rest) h =
    let behind = All-tail (λ b. b < 65536 + k) a (b ∷ rest) h in
    joined-below k a b (is_pair a b) (codes rest) (codes (b ∷ rest)) refl (All-head (λ b. b < 65536 + k) a (b ∷ rest) h) (codes-below k rest (All-tail (λ b. b < 65536 + k) b rest behind)) (codes-below k (b ∷ rest) behind)

down : (k : ℕ) (text : List ℕ) → codes (bytes_of text) ≡ text → All (λ c. c < 65536 + k) text → All (λ c. c < 65536) text
down zero text e h = λ i d b. let one = h i d b in omega (arith, one)
down (suc k) text e h = down k text e (subst (λ (x : List ℕ). All (λ c. c < 65536 + k) x) e (codes-below k (bytes_of text) (bytes-below k text (λ i d b. let one = h i d b in omega (arith, one)))))

-- a bound of the codes
abbrev sum_of : List ℕ → ℕ
sum_of [] = 0
sum_of (c ∷ cs) = c + 1 + sum_of cs

below-sum : (text : List ℕ) → All (λ c. c < 65536 + sum_of text) text
below-sum [] = All-nil (λ c. c < 65536 + 0)
below-sum (c ∷ cs) = All-cons (λ x. x < 65536 + (c + 1 + sum_of cs)) c cs (omega arith) (λ i d b. let one = below-sum cs i d b in omega (arith, one))

pub own-codes : (text : List ℕ) → codes (bytes_of text) ≡ text → All IsByteOrPair text
own-codes text e =
    let small = down (sum_of text) text e (below-sum text) in
    subst (λ (x : List ℕ). All IsByteOrPair x) e (codes-good (bytes_of text) (bytes-are text small))
