use Rattle.std.proofs.Common.{◌≡◌, ◌++◌, take}
use Rattle.bml_bytes.specs.Codes.{bytes_of}
use Rattle.bml_bytes.proofs.texts.Text.push_bytes.Given as goal

-- the bytes of the codes so far stand behind the old ones
abbrev pub invariant-loop-code : goal.invariant-loop-code
invariant-loop-code l = l.out.items ≡ l.initial.out.items ++ bytes_of (take l.code-index l.code-items)
