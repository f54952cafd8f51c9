-- The values of headers.
use Rattle.std.proofs.Common.{◌≡◌, ℕ, suc, ◌+◌, ◌-◌, Bool, true, false, cond, not, List, [], ◌∷◌, ◌++◌, length, take, drop, refl, ◌∙◌, ap, arith}
use Rattle.std.specs.Prelude.{◌||◌}
use Rattle.std.specs.List.{All, after_last, before_first, list_any, position_or_len, prefix_len, suffix_len}
use Rattle.std.proofs.lemmas.List.{reverse-append}
use Rattle.std.proofs.lemmas.List.Sums.{suffix_len_is}
use Rattle.std.proofs.lemmas.List.Elements.{All-head, All-tail}
use Rattle.std.proofs.Math.Seq.{take-length, take-append_seam}
use Rattle.multipart_entities.specs.Lines.{is_blank, without_blanks, without_blanks_behind}

pub prefix-none : (p : ℕ → Bool) (xs : List ℕ) → All (λ x. p x ≡ false) xs → prefix_len p xs ≡ 0
prefix-none p [] h = refl
prefix-none p (x ∷ xs) h = ap (λ t. cond t (1 + prefix_len p xs) 0) (All-head (λ x. p x ≡ false) x xs h)

suffix-none : (p : ℕ → Bool) (xs : List ℕ) → All (λ x. p x ≡ false) xs → suffix_len p xs ≡ 0
suffix-none p xs h =
    let e : suffix_len p xs ≡ length xs - length xs = suffix_len_is p xs (length xs) 0 (omega arith) (λ k a b. absurd (omega (arith, a, b))) (λ z. h (length xs - 1) 0 (omega (arith, z))) in
    e ∙ omega arith

suffix-all : (p : ℕ → Bool) (xs : List ℕ) → All (λ x. p x ≡ true) xs → suffix_len p xs ≡ length xs - 0
suffix-all p xs h = suffix_len_is p xs 0 0 (omega arith) (λ k a b. h k 0 b) (λ z. absurd (omega (arith, z)))

-- nothing passes: all of it
pub after_last-none : (p : ℕ → Bool) (xs : List ℕ) → All (λ x. p x ≡ false) xs → after_last p xs ≡ xs
after_last-none p xs h =
    let e : suffix_len (λ x. not (p x)) xs ≡ length xs - 0 = suffix-all (λ x. not (p x)) xs (λ k d b. ap not (h k d b)) in
    let n : length xs - suffix_len (λ x. not (p x)) xs ≡ 0 = omega (arith, e) in
    ap (λ k. drop k xs) n

-- ends otherwise than with a blank
behind-kept : (bytes : List ℕ) → suffix_len is_blank bytes ≡ 0 → without_blanks_behind bytes ≡ bytes
behind-kept bytes e =
    let n : length bytes - suffix_len is_blank bytes ≡ length bytes = omega (arith, e) in
    ap (λ k. take k bytes) n ∙ take-length bytes

value-kept : (bytes : List ℕ) → prefix_len is_blank bytes ≡ 0 → suffix_len is_blank bytes ≡ 0 → without_blanks (32 ∷ bytes) ≡ bytes
value-kept bytes e f =
    let n : 1 + prefix_len is_blank bytes ≡ 1 = omega (arith, e) in
    ap (λ k. without_blanks_behind (drop k (32 ∷ bytes))) n ∙ behind-kept bytes f

-- behind one space, without blanks
pub value-none : (bytes : List ℕ) → All (λ x. is_blank x ≡ false) bytes → without_blanks (32 ∷ bytes) ≡ bytes
value-none bytes h = value-kept bytes (prefix-none is_blank bytes h) (suffix-none is_blank bytes h)

-- a space in front counts for nothing
pub value-space : (bytes : List ℕ) → without_blanks (32 ∷ bytes) ≡ without_blanks bytes
value-space bytes = let n : 1 + prefix_len is_blank bytes ≡ suc (prefix_len is_blank bytes) = omega arith in ap (λ k. without_blanks_behind (drop k (32 ∷ bytes))) n

-- between a byte and a quote
pub value-quoted : (first : ℕ) (bytes : List ℕ) → is_blank first ≡ false → without_blanks (32 ∷ first ∷ (bytes ++ 34 ∷ [])) ≡ first ∷ (bytes ++ 34 ∷ [])
value-quoted first bytes h =
    value-kept (first ∷ (bytes ++ 34 ∷ [])) (ap (λ t. cond t (1 + prefix_len is_blank (bytes ++ 34 ∷ [])) 0) h)
    (ap (prefix_len is_blank) (reverse-append (first ∷ bytes) (34 ∷ [])))

-- ---- up to a quote

pub position-append : (p : ℕ → Bool) (xs : List ℕ) (y : ℕ) (ys : List ℕ) → All (λ x. p x ≡ false) xs → p y ≡ true → position_or_len p (xs ++ y ∷ ys) ≡ length xs
position-append p [] y ys h e = ap (λ t. cond (not t) (1 + position_or_len p ys) 0) e
position-append p (x ∷ xs) y ys h e =
    let n : position_or_len p (xs ++ y ∷ ys) ≡ length xs = position-append p xs y ys (All-tail (λ x. p x ≡ false) x xs h) e in
    let one : 1 + position_or_len p (xs ++ y ∷ ys) ≡ length (x ∷ xs) = omega (arith, n) in
    ap (λ t. cond (not t) (1 + position_or_len p (xs ++ y ∷ ys)) 0) (All-head (λ x. p x ≡ false) x xs h) ∙ one

pub before_first-append : (p : ℕ → Bool) (xs : List ℕ) (y : ℕ) (ys : List ℕ) → All (λ x. p x ≡ false) xs → p y ≡ true → before_first p (xs ++ y ∷ ys) ≡ xs
before_first-append p xs y ys h e = ap (λ k. take k (xs ++ y ∷ ys)) (position-append p xs y ys h e) ∙ take-append_seam xs (y ∷ ys)

any-by : (t u : Bool) → u ≡ true → (t || u) ≡ true
any-by true u e = refl
any-by false u e = e

pub any-append : (p : ℕ → Bool) (xs : List ℕ) (y : ℕ) (ys : List ℕ) → p y ≡ true → list_any p (xs ++ y ∷ ys) ≡ true
any-append p [] y ys e = ap (λ t. t || list_any p ys) e
any-append p (x ∷ xs) y ys e = any-by (p x) (list_any p (xs ++ y ∷ ys)) (any-append p xs y ys e)
