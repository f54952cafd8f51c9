-- The words of a text, one by one.
use Rattle.std.proofs.Common.{◌≡◌, ℕ, suc, ◌+◌, ◌-◌, ◌<◌, Bool, true, false, List, [], ◌∷◌, length, take, drop, Some, None, refl, sym, ◌∙◌, ap, arith}
use Rattle.std.proofs.lemmas.List.{length-take}
use Rattle.std.proofs.lemmas.Bool.Decides.{nat_tests}
use Rattle.std.specs.Prelude.{filter, nat_lt, position}
use Rattle.std.specs.List.{position_or_len, prefix_len, slice_split}
use Rattle.style_reader.specs.Characters.{is_white, without_white_front}
use Rattle.style_reader.specs.Values.{words_of}
use Rattle.style_reader.proofs.PieceLemmas.{list_any-is, position-none, position-some, rest_whole, slice_split-none, slice_split-some}

-- white in front, and another code
pub without_white-white : (x : ℕ) (xs : List ℕ) → is_white x ≡ true → without_white_front (x ∷ xs) ≡ without_white_front xs
without_white-white x xs e = rw e (ap (λ (n : ℕ). drop n (x ∷ xs)) (one_more (prefix_len is_white xs)))
  where
    one_more : (n : ℕ) → 1 + n ≡ suc n
    one_more n = omega arith

pub without_white-black : (x : ℕ) (xs : List ℕ) → is_white x ≡ false → without_white_front (x ∷ xs) ≡ x ∷ xs
without_white-black x xs e = rw e refl

words_of-skip : (x : ℕ) (xs : List ℕ) → is_white x ≡ true → words_of (x ∷ xs) ≡ words_of xs
words_of-skip x xs e = rw e refl

-- white in front parts no words
pub words_of-white : (text : List ℕ) → words_of text ≡ words_of (without_white_front text)
words_of-white [] = refl
words_of-white (x ∷ xs) = by (is_white x) refl (words_of-white xs)
  where
    by : (b : Bool) → is_white x ≡ b → words_of xs ≡ words_of (without_white_front xs) → words_of (x ∷ xs) ≡ words_of (without_white_front (x ∷ xs))
    by true e more = words_of-skip x xs e ∙ more ∙ ap words_of (sym (without_white-white x xs e))
    by false e more = ap words_of (sym (without_white-black x xs e))

black-place : (x : ℕ) (xs : List ℕ) → is_white x ≡ false → 0 < position_or_len is_white (x ∷ xs)
black-place x xs e = rw e (omega arith)

-- no white stands in front of what is left
pub first-black : (text : List ℕ) → 0 < length (without_white_front text) → 0 < position_or_len is_white (without_white_front text)
first-black [] h = absurd (omega arith)
first-black (x ∷ xs) h = by (is_white x) refl (first-black xs)
  where
    by : (b : Bool) → is_white x ≡ b → (0 < length (without_white_front xs) → 0 < position_or_len is_white (without_white_front xs)) → 0 < position_or_len is_white (without_white_front (x ∷ xs))
    by true e more = rw (without_white-white x xs e) (more (rw (without_white-white x xs e) at h))
    by false e more = rw (without_white-black x xs e) (black-place x xs e)

-- no word
pub words_of-none : (text t : List ℕ) → t ≡ without_white_front text → length t ≡ 0 → words_of text ≡ []
words_of-none text [] same h = words_of-white text ∙ ap words_of (sym same)
words_of-none text (x ∷ xs) same h = absurd (omega (arith, h))

some-word : (word : List ℕ) (words : List (List ℕ)) → 0 < length word → filter (λ word. nat_lt 0 (length word)) (word ∷ words) ≡ word ∷ filter (λ word. nat_lt 0 (length word)) words
some-word word words h = let e : nat_lt 0 (length word) ≡ true = grind (arith, nat_tests) in rw e refl

nothing-behind : (n : ℕ) (t : List ℕ) → words_of (take (length t - length t) (drop n t)) ≡ []
nothing-behind n t = let e : length t - length t ≡ 0 = omega arith in rw e refl

-- one word
pub words_of-last : (text t : List ℕ) → t ≡ without_white_front text → 0 < length t → None ≡ position is_white t → words_of text ≡ t ∷ words_of (take (length t - length t) (drop (length t) t))
words_of-last text t same some e =
    words_of-white text ∙ ap words_of (sym same) ∙ rw (nothing-behind (length t) t, slice_split-none is_white t (position-none is_white t e)) (some-word t [] some)

-- the first of several words
pub words_of-more : (text t : List ℕ) (k : ℕ) → t ≡ without_white_front text → 0 < length t → Some k ≡ position is_white t → words_of text ≡ take k t ∷ words_of (take (length t - (k + 1)) (drop (k + 1) t))
words_of-more text t k same some e = words_of-white text ∙ ap words_of (sym same) ∙ by (rw same (first-black text (rw same at some)))
  where
    by : 0 < position_or_len is_white t → words_of t ≡ take k t ∷ words_of (take (length t - (k + 1)) (drop (k + 1) t))
    by place =
        let found = position-some is_white t k e in
        let there = found.1 in
        let within = rw (list_any-is is_white t) at found.0 in
        let below : k < length t = grind (arith, nat_tests) in
        let long : 0 < length (take k t) = omega (arith, length-take k t) in
        rw (rest_whole (k + 1) t, slice_split-some is_white t found.0, ← there) (some-word (take k t) (slice_split is_white (drop (k + 1) t)) long)
