-- The places of names among the locals of the functions that they stand in.
use Rattle.std.proofs.Common.{◌≡◌, ◌∙◌, ◌+◌, ◌<◌, ◌≤◌, ◌⊎◌, ◌↔◌, inl, inr, ℕ, zero, suc, List, [], ◌∷◌, ◌++◌, length, map, take, Option, Some, None, refl, sym, ap, arith}
use Rattle.std.specs.Prelude.{slice_get}
use Rattle.std.specs.List.{position}
use Rattle.std.specs.Option.{option_and_then, option_map_or}
use Rattle.std.proofs.Math.Nat.{eq-or-lt_of_le}
use Rattle.std.proofs.lemmas.List.{length-append}
use Rattle.std.proofs.lemmas.Option.{none-some, same_Some, slice_get_within}
use Rattle.bml_bytes.specs.Words.{is_same}
use Rattle.es_expressions.specs.Nodes.{NodeRow}
use Rattle.es_reader.specs.Locals.{IsLocalAt, name_by, name_told}
use Rattle.es_reader.specs.Programs.{ToldFunction, ToldProgram}
use Rattle.es_reader.specs.Told.{told_function}
use Rattle.es_reader.specs.declared.programs.FunctionDecl.{FunctionDecl}
use Rattle.es_reader.specs.devices.Owners.{locals_of, owner_at, owners_in, place_among, place_at, place_in, places_in, places_to}
use Rattle.es_reader.proofs.OwnerLemmas.{owner-is, owned, stands, stood}

-- ---- lists with one more

get-before : (xs : List (Option ℕ)) (x : Option ℕ) (n : ℕ) → n < length xs
    → slice_get (xs ++ (x ∷ [])) n ≡ slice_get xs n
get-before [] x n l = absurd (omega arith)
get-before (y ∷ ys) x zero l = refl
get-before (y ∷ ys) x (suc n) l = get-before ys x n (omega arith)

get-last : (xs : List (Option ℕ)) (x : Option ℕ) → slice_get (xs ++ (x ∷ [])) (length xs) ≡ Some x
get-last [] x = refl
get-last (y ∷ ys) x = get-last ys x

module _ (locals : List (List (List ℕ))) (rows : List NodeRow) (owners : List (Option ℕ)) where
  to-length : (count : ℕ) → length (places_to locals rows owners count) ≡ count
  to-length zero = refl
  to-length (suc count) =
      let before = to-length count in
      omega (arith, length-append (places_to locals rows owners count) (place_at locals rows owners count ∷ []))

  to-at : (count number : ℕ) → number < count
      → slice_get (places_to locals rows owners count) number ≡ Some (place_at locals rows owners number)
  to-at zero number l = absurd (omega arith)
  to-at (suc count) number l = by (to-at count number) (eq-or-lt_of_le (omega arith))
    where
      by : (number < count
          → slice_get (places_to locals rows owners count) number ≡ Some (place_at locals rows owners number))
          → (number ≡ count) ⊎ (number < count)
          → slice_get (places_to locals rows owners count ++ (place_at locals rows owners count ∷ [])) number
          ≡ Some (place_at locals rows owners number)
      by before (inl e) =
          let at : number ≡ length (places_to locals rows owners count) = e ∙ sym (to-length count) in
          ap (slice_get (places_to locals rows owners count ++ (place_at locals rows owners count ∷ []))) at
          ∙ get-last (places_to locals rows owners count) (place_at locals rows owners count)
          ∙ ap (λ n. Some (place_at locals rows owners n)) (sym e)
      by before (inr m) =
          get-before (places_to locals rows owners count) (place_at locals rows owners count) number
          (omega (arith, to-length count))
          ∙ before m

  pub places_more : (count : ℕ)
      → places_to locals rows owners count ++ (place_at locals rows owners count ∷ [])
      ≡ places_to locals rows owners (count + 1)
  places_more count =
      let up : suc count ≡ count + 1 = omega arith in ap (places_to locals rows owners) up

-- ---- locals of functions

locals-at : (functions : List ToldFunction) (function : ℕ) (declared : ToldFunction)
    → slice_get functions function ≡ Some declared
    → slice_get (locals_of functions) function ≡ Some declared.locals
locals-at [] function declared e = absurd (none-some declared e)
locals-at (told ∷ functions) zero declared e = ap (λ (x : ToldFunction). Some x.locals) (same_Some told declared e)
locals-at (told ∷ functions) (suc function) declared e = locals-at functions function declared e

declared-at : (functions : List ToldFunction) (function : ℕ) (names : List (List ℕ))
    → slice_get (locals_of functions) function ≡ Some names
    → (declared : ToldFunction) × (slice_get functions function ≡ Some declared) × (declared.locals ≡ names)
declared-at [] function names e = absurd (none-some names e)
declared-at (told ∷ functions) zero names e = (told, refl, same_Some told.locals names e)
declared-at (told ∷ functions) (suc function) names e = declared-at functions function names e

pub locals_more : (functions : List FunctionDecl) (index : ℕ) (function : FunctionDecl)
    → slice_get functions index ≡ Some function
    → locals_of (map told_function (take index functions)) ++ (function.locals.items ∷ [])
    ≡ locals_of (map told_function (take (index + 1) functions))
locals_more [] index function e = absurd (none-some function e)
locals_more (first ∷ functions) zero function e =
    ap (λ (f : FunctionDecl). f.locals.items ∷ []) (sym (same_Some first function e))
locals_more (first ∷ functions) (suc index) function e =
    let up : suc (index + 1) ≡ suc index + 1 = omega arith in
    ap (λ xs. first.locals.items ∷ xs) (locals_more functions index function e)
    ∙ ap (λ n. locals_of (map told_function (take n (first ∷ functions)))) up

-- a name with its place among the locals of a function
record IsPlaced (locals : List (List (List ℕ))) (function : Option ℕ) (name : Option (List ℕ)) (place : ℕ) : Type 0 where
  number : ℕ
  is : function ≡ Some number
  names : List (List ℕ)
  there : slice_get locals number ≡ Some names
  text : List ℕ
  named : name ≡ Some text
  at_place : position (is_same text) names ≡ Some place

placed-name : (locals : List (List (List ℕ))) (number : ℕ) (names : List (List ℕ)) (name : Option (List ℕ)) (place : ℕ)
    → slice_get locals number ≡ Some names → place_among names name ≡ Some place
    → IsPlaced locals (Some number) name place
placed-name locals number names None place t e = absurd (none-some place e)
placed-name locals number names (Some text) place t e = record {
  number = number;
  is = refl;
  names = names;
  there = t;
  text = text;
  named = refl;
  at_place = e;
}

placed : (locals : List (List (List ℕ))) (function : Option ℕ) (name : Option (List ℕ)) (place : ℕ)
    → place_in locals function name ≡ Some place → IsPlaced locals function name place
placed locals None name place e = absurd (none-some place e)
placed locals (Some number) name place e = by (slice_get locals number) refl e
  where
    by : (found : Option (List (List ℕ))) → slice_get locals number ≡ found
        → option_and_then (λ names. place_among names name) found ≡ Some place
        → IsPlaced locals (Some number) name place
    by None t h = absurd (none-some place h)
    by (Some names) t h = placed-name locals number names name place t h

named-row : (rows : List NodeRow) (number : ℕ) (name : List ℕ) → name_told rows number ≡ Some name
    → number < length rows
named-row rows number name e = by (slice_get rows number) refl e
  where
    by : (found : Option NodeRow) → slice_get rows number ≡ found
        → option_and_then (λ (row : NodeRow). name_by row.node) found ≡ Some name
        → number < length rows
    by None r h = absurd (none-some name h)
    by (Some row) r h = slice_get_within rows number row r

module _ (told : ToldProgram) (number place : ℕ) where
  abbrev owners : List (Option ℕ)
  owners = owners_in told.rows told.functions

  abbrev locals : List (List (List ℕ))
  locals = locals_of told.functions

  is-local : owner_at (places_in told.rows told.functions) number ≡ Some place → IsLocalAt told number place
  is-local e =
      let at = owner-is (places_in told.rows told.functions) number place e in
      let within = slice_get_within (places_in told.rows told.functions) number (Some place) at in
      let below : number < length told.rows = omega (arith, to-length locals told.rows owners (length told.rows)) in
      let same : place_at locals told.rows owners number ≡ Some place =
      same_Some (place_at locals told.rows owners number) (Some place)
      (sym (to-at locals told.rows owners (length told.rows) number below) ∙ at) in
      let p = placed locals (owner_at owners number) (name_told told.rows number) place same in
      let f = declared-at told.functions p.number p.names p.there in
      record {
        function = p.number;
        stands = stands told number p.number p.is;
        declared = f.0;
        is = f.1;
        name = p.text;
        named = p.named;
        at_place = ap (position (is_same p.text)) f.2 ∙ p.at_place;
      }

  local-is : IsLocalAt told number place → owner_at (places_in told.rows told.functions) number ≡ Some place
  local-is local =
      let below = named-row told.rows number local.name local.named in
      let owner = stood told number local.function local.stands in
      let names = locals-at told.functions local.function local.declared local.is in
      let at : place_at locals told.rows owners number ≡ Some place =
      ap (λ function. place_in locals function (name_told told.rows number)) owner
      ∙ ap (λ found. option_and_then (λ names. place_among names (name_told told.rows number)) found) names
      ∙ ap (place_among local.declared.locals) local.named ∙ local.at_place in
      ap (λ found. option_map_or (λ (owner : Option ℕ). owner) found None)
      (to-at locals told.rows owners (length told.rows) number below)
      ∙ at

  pub locals-are-placed : (owner_at (places_in told.rows told.functions) number ≡ Some place) ↔ IsLocalAt told number place
  locals-are-placed = (is-local, local-is)
