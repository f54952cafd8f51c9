use Rattle.std.proofs.Common.{◌≡◌, ◌++◌, take}
use Rattle.bml_bytes.specs.Codes.{bytes_of}
use Rattle.bml_bytes.specs.Escapes.{escaped}
use Rattle.bml_bytes.proofs.line_fields.Escapes.push.Given as goal

-- the bytes of the codes so far stand behind the old ones
abbrev pub invariant-codes : goal.invariant-codes
invariant-codes l = l.out.items ≡ l.fn.out.items ++ escaped l.self (bytes_of (take l.code-index l.code-items))
