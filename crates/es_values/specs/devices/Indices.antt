-- A device of the proofs: the indices of elements, which are kept in ascending order beside the properties.
use Rattle.std.specs.Prelude.{◌≡◌, ℕ, List, Option}
use Rattle.std.specs.BTreeSet.{BTreeSet}
use Rattle.std.specs.List.{filter_map, sum_by}
use Rattle.std.specs.Option.{ForSome}
use Rattle.es_values.specs.declared.values.Value.{Value}
use Rattle.es_values.specs.Heaps.{index_of}

-- the indices of the elements among properties, in order of insertion
abbrev pub indices_of : List (List ℕ × Value) → List ℕ
indices_of properties = filter_map (λ property. index_of property.0) properties

-- the same numbers, each as often: whatever a number weighs, both weigh as much
abbrev pub HaveSame : List ℕ → List ℕ → Type 0
HaveSame numbers others = (weight : ℕ → ℕ) → sum_by weight numbers ≡ sum_by weight others

-- the indices that are kept, if any are, are these
abbrev pub AreKept : Option (BTreeSet ℕ) → List ℕ → Type 0
AreKept kept indices = ForSome kept (λ set. HaveSame set.keys indices)
