use Rattle.std.proofs.Common.{◌≡◌, take}
use Rattle.es_reader.proofs.names.Names.texts.Given as goal

abbrev pub invariant-loop-name : goal.invariant-loop-name
invariant-loop-name l = l.texts.items ≡ take l.name-index l.name-items
