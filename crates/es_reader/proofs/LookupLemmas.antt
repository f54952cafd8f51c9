-- Names by which places are found: one name more, in front of the others.
use Rattle.std.proofs.Common.{◌≡◌, ◌∙◌, ◌+◌, ◌<◌, ℕ, zero, suc, List, [], ◌∷◌, drop, length, cond, Option, Some, None, refl, sym, ap, arith}
use Rattle.std.specs.Prelude.{slice_get}
use Rattle.std.specs.List.{position, position_from}
use Rattle.std.specs.Map.{lookup}
use Rattle.std.proofs.lemmas.Iterator.Adapters.{position_from-zero}
use Rattle.std.proofs.lemmas.Cmp.{nat_list_eq_equiv}
use Rattle.std.proofs.lemmas.Option.{none-some, same_Some}
use Rattle.bml_bytes.specs.Words.{is_same}
use Rattle.es_reader.specs.devices.Lookups.{FindsPlaces, FindsPlacesFrom}

same-back : (xs ys : List ℕ) → is_same xs ys ≡ is_same ys xs
same-back xs ys = nat_list_eq_equiv.symm xs ys

drop-there : (names : List (List ℕ)) (place : ℕ) (name : List ℕ) → slice_get names place ≡ Some name
    → drop place names ≡ name ∷ drop (place + 1) names
drop-there [] place name e = absurd (none-some name e)
drop-there (first ∷ names) zero name e = ap (λ x. x ∷ names) (same_Some first name e)
drop-there (first ∷ names) (suc place) name e =
    let up : suc place + 1 ≡ suc (place + 1) = omega arith in
    drop-there names place name e ∙ ap (λ n. name ∷ drop n (first ∷ names)) (sym up)

pub one_more : (old new : List (List ℕ × ℕ)) (names : List (List ℕ)) (place : ℕ) (name : List ℕ)
    → slice_get names place ≡ Some name → FindsPlacesFrom old (place + 1) names
    → ((other : List ℕ) → lookup (is_same other) new ≡ cond (is_same name other) (Some place) (lookup (is_same other) old))
    → FindsPlacesFrom new place names
one_more old new names place name e found put other =
    put other
    ∙ ap (λ b. cond b (Some place) (lookup (is_same other) old)) (same-back name other)
    ∙ ap (cond (is_same other name) (Some place)) (found other)
    ∙ ap (position_from (is_same other) place) (sym (drop-there names place name e))

pub found_all : (entries : List (List ℕ × ℕ)) (names : List (List ℕ)) → FindsPlacesFrom entries 0 names
    → FindsPlaces entries names
found_all entries names found name = found name ∙ sym (position_from-zero (is_same name) names)

pub none_yet : (names : List (List ℕ)) (place : ℕ) → length names ≡ place → FindsPlacesFrom [] place names
none_yet names place e name = ap (position_from (is_same name) place) (sym (past names place e))
  where
    past : (names : List (List ℕ)) (place : ℕ) → length names ≡ place → drop place names ≡ []
    past [] zero e = refl
    past [] (suc place) e = refl
    past (first ∷ names) zero e = absurd (omega arith)
    past (first ∷ names) (suc place) e = past names place (omega arith)
