-- Words of ASCII in texts, as tags, attributes and properties are. In a definition a word is written
-- `codes "body"`, by the Prelude's `codes`. This project's own.
use Rattle.std.specs.Prelude.{ℕ, Bool, List, map, nat_eq}
use Rattle.std.specs.Char.{to_ascii_lowercase}
use Rattle.std.specs.Cmp.Lexicographic.{pointwise}

-- whether two texts have the same codes
abbrev pub is_same : List ℕ → List ℕ → Bool
is_same text other = pointwise nat_eq text other

-- the same, where `A` to `Z` count as `a` to `z`
abbrev pub is_same_in_any_case : List ℕ → List ℕ → Bool
is_same_in_any_case text other = is_same (map to_ascii_lowercase text) (map to_ascii_lowercase other)
