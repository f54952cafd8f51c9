use Rattle.std.proofs.Common.{◌≡◌, ◌++◌, length}
use Rattle.std.specs.List.{filter_map, slice_split}
use Rattle.style_reader.specs.Declarations.{declaration_of, is_semicolon}
use Rattle.style_reader.proofs.declarations.declarations_in.Given as goal

abbrev pub invariant-declarations : goal.invariant-declarations
invariant-declarations l = l.declarations.items ++ filter_map declaration_of (slice_split is_semicolon l.rest) ≡ filter_map declaration_of (slice_split is_semicolon l.text)

abbrev pub decreases-declarations : goal.decreases-declarations
decreases-declarations l = length l.rest
