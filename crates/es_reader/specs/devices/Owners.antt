-- How each node is given the function that it stands in, and each name its place among that one's
-- locals: the statements of bodies first, and then each node's children, the last node first. (A
-- device of the proofs.)
use Rattle.std.specs.Prelude.{ℕ, zero, suc, ◌+◌, List, [], ◌∷◌, ◌++◌, length, replicate, min, nat_lt, if◌then◌else◌, Option, Some, None, slice_get}
use Rattle.std.specs.List.{position}
use Rattle.std.specs.Option.{option_and_then, option_map_or}
use Rattle.bml_bytes.specs.Words.{is_same}
use Rattle.es_expressions.specs.Nodes.{NodeRow}
use Rattle.es_reader.specs.Locals.{name_told}
use Rattle.es_reader.specs.Programs.{ToldFunction}

-- the first of two functions
abbrev pub earlier : ℕ → Option ℕ → ℕ
earlier function None = function
earlier function (Some owner) = min owner function

-- the node of a number is given to a function, unless an earlier one has it
abbrev pub given : List (Option ℕ) → ℕ → ℕ → List (Option ℕ)
given [] number function = []
given (owner ∷ owners) zero function = Some (earlier function owner) ∷ owners
given (owner ∷ owners) (suc number) function = owner ∷ given owners number function

-- the same of a node below a bound
abbrev pub given_below : ℕ → ℕ → ℕ → List (Option ℕ) → List (Option ℕ)
given_below bound function number owners =
    if nat_lt number bound then given owners number function else owners

abbrev pub given_all : ℕ → ℕ → List ℕ → List (Option ℕ) → List (Option ℕ)
given_all bound function [] owners = owners
given_all bound function (number ∷ numbers) owners =
    given_all bound function numbers (given_below bound function number owners)

-- the statements of bodies are given to their functions, the first of which has this number
abbrev pub started : ℕ → ℕ → List ToldFunction → List (Option ℕ) → List (Option ℕ)
started bound function [] owners = owners
started bound function (told ∷ functions) owners =
    started bound (function + 1) functions (given_all bound function told.body owners)

abbrev pub owner_at : List (Option ℕ) → ℕ → Option ℕ
owner_at owners number = option_map_or (λ owner. owner) (slice_get owners number) None

abbrev pub children_at : List NodeRow → ℕ → List ℕ
children_at rows number = option_map_or (λ row. row.children) (slice_get rows number) []

abbrev pub handed_by : List NodeRow → ℕ → Option ℕ → List (Option ℕ) → List (Option ℕ)
handed_by rows number None owners = owners
handed_by rows number (Some function) owners =
    given_all number function (children_at rows number) owners

-- a node's children are given to the node's function
abbrev pub handed_from : List NodeRow → ℕ → List (Option ℕ) → List (Option ℕ)
handed_from rows number owners = handed_by rows number (owner_at owners number) owners

-- the same of each of the first nodes, the last of them first
abbrev pub handed_down : List NodeRow → ℕ → List (Option ℕ) → List (Option ℕ)
handed_down rows zero owners = owners
handed_down rows (suc number) owners = handed_down rows number (handed_from rows number owners)

abbrev pub owners_in : List NodeRow → List ToldFunction → List (Option ℕ)
owners_in rows functions =
    handed_down rows (length rows)
    (started (length rows) 0 functions (replicate (length rows) None))

abbrev pub place_among : List (List ℕ) → Option (List ℕ) → Option ℕ
place_among locals name = option_and_then (λ name. position (is_same name) locals) name

-- the place of a name among the locals of a function
abbrev pub place_in : List (List (List ℕ)) → Option ℕ → Option (List ℕ) → Option ℕ
place_in locals function name =
    option_and_then
    (λ function. option_and_then (λ locals. place_among locals name) (slice_get locals function))
    function

abbrev pub place_at : List (List (List ℕ)) → List NodeRow → List (Option ℕ) → ℕ → Option ℕ
place_at locals rows owners number =
    place_in locals (owner_at owners number) (name_told rows number)

-- of the first nodes
abbrev pub places_to : List (List (List ℕ)) → List NodeRow → List (Option ℕ) → ℕ → List (Option ℕ)
places_to locals rows owners zero = []
places_to locals rows owners (suc number) =
    places_to locals rows owners number ++ (place_at locals rows owners number ∷ [])

abbrev pub locals_of : List ToldFunction → List (List (List ℕ))
locals_of [] = []
locals_of (told ∷ functions) = told.locals ∷ locals_of functions

abbrev pub places_in : List NodeRow → List ToldFunction → List (Option ℕ)
places_in rows functions =
    places_to (locals_of functions) rows (owners_in rows functions) (length rows)
