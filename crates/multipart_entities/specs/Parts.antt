-- Parts by their names. (This project's own.)
use Rattle.std.specs.Prelude.{ℕ, nat_eq, Bool, not, List, [], ◌∷◌, find, filter, Option, option_map, Result}
use Rattle.std.specs.Cmp.Lexicographic.{pointwise}
use Rattle.std.specs.Result.{result_map_both}
use Rattle.multipart_entities.specs.declared.faults.EntityFault.{EntityFault}
use Rattle.multipart_entities.specs.declared.parts.Part.{Part}
use Rattle.multipart_entities.specs.Entities.{entity}

-- the part has that name
abbrev pub is_named : List ℕ → Part → Bool
is_named name part = pointwise nat_eq part.name name

-- of parts with one name the first counts
unfoldable pub first_of_each : List Part → List Part
first_of_each [] = []
first_of_each (part ∷ parts) =
    part ∷ filter (λ other. not (is_named part.name other)) (first_of_each parts)

-- where the bytes of the part with that name stand: from which place up to which
abbrev pub place_of : List ℕ → List Part → Option (ℕ × ℕ)
place_of name parts = option_map (λ part. (part.start, part.end)) (find (is_named name) parts)

-- the parts that names lead to, in order, or why there are none
abbrev pub named_parts : List ℕ → Result (List Part) EntityFault
named_parts bytes = result_map_both first_of_each (λ fault. fault) (entity bytes)
