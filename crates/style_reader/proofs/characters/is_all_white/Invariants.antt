use Rattle.std.proofs.Common.{◌≡◌, take}
use Rattle.std.specs.List.{list_all}
use Rattle.style_reader.specs.Characters.{is_white}
use Rattle.style_reader.proofs.characters.is_all_white.Given as goal

abbrev pub invariant-codes : goal.invariant-codes
invariant-codes l = l.all ≡ list_all is_white (take l.code-index l.block)
