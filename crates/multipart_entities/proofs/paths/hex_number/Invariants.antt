use Rattle.std.proofs.Common.{◌≡◌, ◌≤◌, length, take}
use Rattle.multipart_entities.proofs.HexLemmas.{ReadSoFar}
use Rattle.multipart_entities.proofs.paths.hex_number.Given as goal

abbrev pub invariant-digits : goal.invariant-digits
invariant-digits l = record { read : ReadSoFar (take l.code-index l.field) l.code-index l.number; whole : length l.field ≡ l.count; few : l.count ≤ 4 }
