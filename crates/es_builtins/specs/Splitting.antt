-- What the parts of a text are to it, for the law on `split` (ECMA-262 second edition, 15.5.4.8).
use Rattle.std.specs.Prelude.{ℕ, List, [], ◌∷◌, ◌++◌}
use Rattle.std.specs.List.{flat_map}

-- parts joined with a separator: the first, and behind it each other with the separator in front
abbrev pub joined_by : List ℕ → List (List ℕ) → List ℕ
joined_by separator [] = []
joined_by separator (part ∷ parts) = part ++ flat_map (λ other. separator ++ other) parts
