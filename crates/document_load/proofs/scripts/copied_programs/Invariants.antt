use Rattle.std.proofs.Common.{◌≡◌, take}
use Rattle.document_load.proofs.scripts.copied_programs.Given as goal

abbrev pub invariant-programs : goal.invariant-programs
invariant-programs l = l.copy.items ≡ take l.program-index l.programs
