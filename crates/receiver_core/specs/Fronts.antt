-- Fronts of lists, and their laws. (This project's own.)
use Rattle.std.proofs.Common.{◌≡◌, ℕ, List, [], ◌++◌, refl, sym, ap, ◌∙◌, append_assoc, append-nil, length, drop}
use Rattle.std.specs.List.{concat}
use Rattle.std.specs.Prelude.{map}
use Rattle.std.proofs.lemmas.List.{drop_at, map-append}
use Rattle.std.proofs.lemmas.List.Folds.{concat-append}

-- the first list is a front of the second
pub record IsFront {A : Type 0} (front whole : List A) : Type 0 where
  pub rest : List A
  pub joined : whole ≡ front ++ rest

-- ---- laws

pub front_of_self : {A : Type 0} (xs : List A) → IsFront xs xs
front_of_self xs = record { rest = []; joined = sym (append-nil xs) }

pub front_of_append : {A : Type 0} (xs ys : List A) → IsFront xs (xs ++ ys)
front_of_append xs ys = record { rest = ys; joined = refl }

pub front_of_front : {A : Type 0} (xs ys zs : List A) → IsFront xs ys → IsFront ys zs
    → IsFront xs zs
front_of_front xs ys zs a b = record {
  rest = a.rest ++ b.rest;
  joined = b.joined ∙ ap (λ l. l ++ b.rest) a.joined ∙ append_assoc xs a.rest b.rest;
}

pub front_under : {A : Type 0} (common xs ys : List A) → IsFront xs ys
    → IsFront (common ++ xs) (common ++ ys)
front_under common xs ys a = record {
  rest = a.rest;
  joined = ap (λ l. common ++ l) a.joined ∙ sym (append_assoc common xs a.rest);
}

pub front_of_concat : (xs ys : List (List ℕ)) → IsFront xs ys → IsFront (concat xs) (concat ys)
front_of_concat xs ys a =
    record { rest = concat a.rest; joined = ap concat a.joined ∙ concat-append xs a.rest }

pub front_of_map : {A B : Type 0} (f : A → B) (xs ys : List A) → IsFront xs ys
    → IsFront (map f xs) (map f ys)
front_of_map f xs ys a =
    record { rest = map f a.rest; joined = ap (map f) a.joined ∙ map-append f xs a.rest }

-- what stands behind a front
pub drop_front : {A : Type 0} (xs ys : List A) → (a : IsFront xs ys) → drop (length xs) ys ≡ a.rest
drop_front xs ys a = ap (drop (length xs)) a.joined ∙ drop_at xs a.rest (length xs) refl
