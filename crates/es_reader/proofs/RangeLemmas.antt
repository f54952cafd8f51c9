-- Tokens between two places.
use Rattle.std.proofs.Common.{◌≡◌, ℕ, zero, suc, ◌+◌, ◌-◌, ◌≤◌, ◌<◌, List, [], ◌∷◌, ◌++◌, length, inl, inr, Some, None, refl, sym, ◌∙◌, ap, arith, take, drop, length-drop, length-append}
use Rattle.std.specs.Prelude.{slice_get, slice_range}
use Rattle.std.proofs.lemmas.Option.{slice_get_within, slice_get_cases, get_or_from_slice_get, same_Some}
use Rattle.std.proofs.Math.Seq.{take-suc}
use Rattle.es_expressions.specs.declared.lexemes.Lexeme.{Lexeme}

-- the list of the tokens from a place on

pub assoc : (a b c : List Lexeme) → a ++ (b ++ c) ≡ (a ++ b) ++ c
assoc [] b c = refl
assoc (x ∷ a) b c = ap (λ z. x ∷ z) (assoc a b c)

drop-next : (xs : List Lexeme) (n : ℕ) (x : Lexeme) → slice_get xs n ≡ Some x → drop n xs ≡ x ∷ drop (suc n) xs
drop-next [] n x h = absurd (cc)
drop-next (y ∷ ys) zero x h = ap (λ z. z ∷ ys) (same_Some y x h)
drop-next (y ∷ ys) (suc n) x h = drop-next ys n x h

pub drop-there : (xs : List Lexeme) (n : ℕ) (x : Lexeme) → slice_get xs n ≡ Some x → drop n xs ≡ x ∷ drop (n + 1) xs
drop-there xs n x h = let up : suc n ≡ n + 1 = omega arith in drop-next xs n x h ∙ ap (λ k. x ∷ drop k xs) up

pub drop-past : (xs : List Lexeme) (n : ℕ) → slice_get xs n ≡ None → drop n xs ≡ []
drop-past [] zero h = refl
drop-past [] (suc n) h = refl
drop-past (y ∷ ys) zero h = absurd (cc)
drop-past (y ∷ ys) (suc n) h = drop-past ys n h

pub there-of : (xs : List Lexeme) (n : ℕ) (x : Lexeme) (more : List Lexeme) → drop n xs ≡ x ∷ more → slice_get xs n ≡ Some x
there-of [] zero x more h = absurd (cc)
there-of [] (suc n) x more h = absurd (cc)
there-of (y ∷ ys) zero x more h = cc
there-of (y ∷ ys) (suc n) x more h = there-of ys n x more h

pub next-of : (xs : List Lexeme) (n : ℕ) → n < length xs → (x : Lexeme) × (slice_get xs n ≡ Some x)
next-of xs n h = elim (slice_get_cases xs n).1 [ inl r ↦ (r.0, r.2) | inr r ↦ absurd (omega (arith, r.0, h)) ]

-- a list that ends as another does is longer by what stands in front
pub front-of : (xs : List Lexeme) (a b : ℕ) (front : List Lexeme) → b ≤ length xs → a ≤ length xs → drop a xs ≡ front ++ drop b xs → b ≡ a + length front
front-of xs a b front hb ha e =
    let l : length (drop a xs) ≡ length (front ++ drop b xs) = ap (λ z. length z) e in
    omega (arith, length-drop {A = Lexeme}, length-append front (drop b xs))

get-behind : (front : List Lexeme) (l : Lexeme) (rest : List Lexeme) → slice_get (front ++ (l ∷ rest)) (length front) ≡ Some l
get-behind [] l rest = refl
get-behind (x ∷ front) l rest = get-behind front l rest

pub get-drop : (a n : ℕ) (xs : List Lexeme) → slice_get (drop a xs) n ≡ slice_get xs (a + n)
get-drop zero n xs = let e : n ≡ 0 + n = omega arith in ap (λ k. slice_get xs k) e
get-drop (suc a) zero [] = refl
get-drop (suc a) (suc n) [] = refl
get-drop (suc a) n (x ∷ xs) = let e : suc (a + n) ≡ suc a + n = omega arith in get-drop a n xs ∙ ap (λ k. slice_get (x ∷ xs) k) e

-- the token in front of a place
pub before-of : (xs : List Lexeme) (a b : ℕ) (front : List Lexeme) (l : Lexeme) → a ≤ length xs → b ≤ length xs → drop a xs ≡ front ++ (l ∷ drop b xs) → (b ≡ suc (a + length front)) × (slice_get xs (b - 1) ≡ Some l)
before-of xs a b front l ha hb e =
    let grown : b ≡ a + length (front ++ (l ∷ [])) = front-of xs a b (front ++ (l ∷ [])) hb ha (e ∙ assoc front (l ∷ []) (drop b xs)) in
    let up : length (front ++ (l ∷ [])) ≡ suc (length front) = length-more front l in
    let there : b - 1 ≡ a + length front = omega arith in
    (omega arith, ap (λ n. slice_get xs n) there ∙ (sym (get-drop a (length front) xs) ∙ (ap (λ ys. slice_get ys (length front)) e ∙ get-behind front l (drop b xs))))
  where
    length-more : (u : List Lexeme) (x : Lexeme) → length (u ++ (x ∷ [])) ≡ suc (length u)
    length-more [] x = refl
    length-more (y ∷ u) x = ap (λ n. suc n) (length-more u x)

take-more : (ys : List Lexeme) (n : ℕ) (x : Lexeme) → slice_get ys n ≡ Some x → take (suc n) ys ≡ take n ys ++ (x ∷ [])
take-more ys n x h = take-suc ys n x (slice_get_within ys n x h) ∙ ap (λ y. take n ys ++ (y ∷ [])) (get_or_from_slice_get ys n x x h)

pub range-more : (xs : List Lexeme) (a b : ℕ) (x : Lexeme) → a ≤ b → slice_get xs b ≡ Some x → slice_range xs a (b + 1) ≡ slice_range xs a b ++ (x ∷ [])
range-more xs a b x le h =
    let up : (b + 1) - a ≡ suc (b - a) = omega arith in
    let there : a + (b - a) ≡ b = omega arith in
    ap (λ n. take n (drop a xs)) up ∙ take-more (drop a xs) (b - a) x (get-drop a (b - a) xs ∙ (ap (λ n. slice_get xs n) there ∙ h))
