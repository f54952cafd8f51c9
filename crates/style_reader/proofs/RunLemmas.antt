-- Runs of codes of one kind at the front and at the end of a text are passed block by block.
use Rattle.std.proofs.Common.{◌≡◌, ℕ, suc, ◌+◌, ◌-◌, ◌≤◌, Bool, true, false, cond, List, [], ◌∷◌, ◌++◌, length, take, drop, reverse, refl, sym, ◌∙◌, ap, arith}
use Rattle.std.specs.Prelude.{◌&&◌}
use Rattle.std.specs.List.{list_all, prefix_len, suffix_len}
use Rattle.std.proofs.lemmas.List.{length-append, length-reverse, reverse-append, take-append-drop, take-append-le}
use Rattle.std.proofs.lemmas.List.Folds.{list_all-append}
use Rattle.style_reader.specs.devices.Runs.{without_end, without_front}

pub both : (a b : Bool) → (a && b) ≡ true → (a ≡ true) × (b ≡ true)
both true b h = (refl, h)
both false b h = absurd (cc h)

both-back : (a b : Bool) → a ≡ true → b ≡ true → (a && b) ≡ true
both-back a b p q = rw (p, q) refl

-- codes that are all of the kind are passed
front-append : (p : ℕ → Bool) (block rest : List ℕ) → list_all p block ≡ true → without_front p (block ++ rest) ≡ without_front p rest
front-append p [] rest h = refl
front-append p (x ∷ block) rest h =
    let parts = both (p x) (list_all p block) h in
    let on : 1 + prefix_len p (block ++ rest) ≡ suc (prefix_len p (block ++ rest)) = omega arith in
    ap (λ t. drop (cond t (1 + prefix_len p (block ++ rest)) 0) (x ∷ (block ++ rest))) parts.0
    ∙ (ap (λ k. drop k (x ∷ (block ++ rest))) on
    ∙ front-append p block rest parts.1)

-- a first block is passed
pub front-block : (p : ℕ → Bool) (n : ℕ) (text block behind : List ℕ) → block ≡ take n text → behind ≡ drop n text → list_all p block ≡ true → without_front p behind ≡ without_front p text
front-block p n text block behind e f h =
    sym (front-append p block behind h)
    ∙ ap (without_front p) (ap (λ z. z ++ behind) e ∙ (ap (λ z. take n text ++ z) f ∙ take-append-drop n text))

prefix-append : (p : ℕ → Bool) (a b : List ℕ) → list_all p a ≡ true → prefix_len p (a ++ b) ≡ length a + prefix_len p b
prefix-append p [] b h = let none : prefix_len p b ≡ 0 + prefix_len p b = omega arith in none
prefix-append p (x ∷ a) b h =
    let parts = both (p x) (list_all p a) h in
    let on : 1 + prefix_len p (a ++ b) ≡ suc (length a) + prefix_len p b = omega (arith, prefix-append p a b parts.1) in
    ap (λ t. cond t (1 + prefix_len p (a ++ b)) 0) parts.0 ∙ on

all-reverse : (p : ℕ → Bool) (xs : List ℕ) → list_all p xs ≡ true → list_all p (reverse xs) ≡ true
all-reverse p [] h = refl
all-reverse p (x ∷ xs) h =
    let parts = both (p x) (list_all p xs) h in
    let last : list_all p (x ∷ []) ≡ true = both-back (p x) true parts.0 refl in
    ap (list_all p) (reverse-append (x ∷ []) xs)
    ∙ (list_all-append p (reverse xs) (x ∷ [])
    ∙ both-back (list_all p (reverse xs)) (list_all p (x ∷ [])) (all-reverse p xs parts.1) last)

end-append : (p : ℕ → Bool) (rest block : List ℕ) → list_all p block ≡ true → without_end p (rest ++ block) ≡ without_end p rest
end-append p rest block h =
    let turned : suffix_len p (rest ++ block) ≡ length block + suffix_len p rest =
    ap (prefix_len p) (reverse-append rest block)
    ∙ (prefix-append p (reverse block) (reverse rest) (all-reverse p block h)
    ∙ ap (λ n. n + suffix_len p rest) (length-reverse block)) in
    let count : length (rest ++ block) - suffix_len p (rest ++ block) ≡ length rest - suffix_len p rest = omega (arith, turned, length-append rest block) in
    let few : length rest - suffix_len p rest ≤ length rest = omega arith in
    ap (λ k. take k (rest ++ block)) count ∙ take-append-le (length rest - suffix_len p rest) rest block few

-- a last block is passed
pub end-block : (p : ℕ → Bool) (n : ℕ) (text before block : List ℕ) → before ≡ take n text → block ≡ drop n text → list_all p block ≡ true → without_end p before ≡ without_end p text
end-block p n text before block e f h =
    sym (end-append p before block h)
    ∙ ap (without_end p) (ap (λ z. z ++ block) e ∙ (ap (λ z. take n text ++ z) f ∙ take-append-drop n text))
