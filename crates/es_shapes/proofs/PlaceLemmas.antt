-- What a program tells of a name is its place among the locals of the function that it stands in.
use Rattle.std.proofs.Common.{◌≡◌, ◌∙◌, ◌↔◌, ◌&&◌, ℕ, Bool, true, false, List, [], ◌∷◌, Option, Some, None, refl, sym, ap, nat_eq}
use Rattle.std.specs.Prelude.{IsSome, is_some, slice_get}
use Rattle.std.specs.Cmp.Lexicographic.{pointwise}
use Rattle.std.specs.List.{position}
use Rattle.std.specs.Option.{option_map_or}
use Rattle.std.proofs.lemmas.Bool.{eqb-true}
use Rattle.std.proofs.lemmas.Option.{none-some, same_Some}
use Rattle.bml_bytes.specs.Words.{is_same}
use Rattle.es_reader.specs.Locals.{IsLocalAt, StandsIn, name_told}
use Rattle.es_reader.specs.Programs.{ToldFunction, ToldProgram}
use Rattle.es_shapes.specs.devices.Places.{names_told}

same_by : (x y : ℕ) (xs ys : List ℕ) (t : Bool) → nat_eq x y ≡ t
    → (t && pointwise nat_eq xs ys) ≡ true → (pointwise nat_eq xs ys ≡ true → xs ≡ ys)
    → x ∷ xs ≡ y ∷ ys
same_by x y xs ys true p e h = let a : x ≡ y = eqb-true x y p in let b : xs ≡ ys = h e in cc
same_by x y xs ys false p e h = absurd (cc e)

pub same_name : (xs ys : List ℕ) → is_same xs ys ≡ true → xs ≡ ys
same_name [] [] e = refl
same_name [] (y ∷ ys) e = absurd (cc e)
same_name (x ∷ xs) [] e = absurd (cc e)
same_name (x ∷ xs) (y ∷ ys) e = same_by x y xs ys (nat_eq x y) refl e (same_name xs ys)

-- the names of a function that is told
told_names : (told : ToldProgram) (function : ℕ) (declared : ToldFunction)
    → slice_get told.functions function ≡ Some declared → names_told told function ≡ declared.locals
told_names told function declared e =
    ap (λ (found : Option ToldFunction). option_map_or (λ (d : ToldFunction). d.locals) found []) e

pub place_known : (told : ToldProgram) (node function : ℕ) (found : Option ℕ) (name : List ℕ)
    (result : Option ℕ)
    → ((other : ℕ) → (found ≡ Some other) ↔ StandsIn told node other) → found ≡ Some function
    → name_told told.rows node ≡ Some name
    → ((place : ℕ) → (result ≡ Some place) ↔ IsLocalAt told node place)
    → result ≡ position (is_same name) (names_told told function)
place_known told node function found name result stands is named local =
    let standing = (stands function).0 is in
    let declared = standing.inside.declared in
    let names = told_names told function declared standing.inside.is in
    by result (position (is_same name) (names_told told function)) refl refl
  where
    by : (answer at_place : Option ℕ) → result ≡ answer
        → position (is_same name) (names_told told function) ≡ at_place → answer ≡ at_place
    by None None r p = refl
    by None (Some place) r p =
        let standing = (stands function).0 is in
        let declared = standing.inside.declared in
        let names = told_names told function declared standing.inside.is in
        absurd (none-some place (sym r ∙ (local place).1 (record {
          function = function;
          stands = standing;
          declared = declared;
          is = standing.inside.is;
          name = name;
          named = named;
          at_place = ap (position (is_same name)) (sym names) ∙ p;
        })))
    by (Some place) at_place r p =
        let here = (local place).0 r in
        let same : here.function ≡ function =
        same_Some here.function function (sym ((stands here.function).1 here.stands) ∙ is) in
        let is_name : here.name ≡ name = same_Some here.name name (sym here.named ∙ named) in
        let names : names_told told function ≡ here.declared.locals =
        told_names told function here.declared (ap (slice_get told.functions) (sym same) ∙ here.is) in
        sym here.at_place
        ∙ ap (λ (n : List ℕ). position (is_same n) here.declared.locals) is_name
        ∙ ap (position (is_same name)) (sym names) ∙ p

-- a node that stands elsewhere, or has another name, isn't known
pub known_elsewhere : {A : Type 0} (told : ToldProgram) (node function : ℕ) (found : Option ℕ) (name : List ℕ) (result : Option A)
    → ((other : ℕ) → (found ≡ Some other) ↔ StandsIn told node other)
    → ((found ≡ Some function) → ⊥) → result ≡ None
    → (IsSome result) ↔ (StandsIn told node function × (name_told told.rows node ≡ Some name))
known_elsewhere told node function found name result stands other none = (
  λ some. absurd (let clash : true ≡ false = sym some ∙ ap (λ (r : Option _). is_some r) none in cc clash),
  λ is. absurd (other ((stands function).1 is.0)),
)
