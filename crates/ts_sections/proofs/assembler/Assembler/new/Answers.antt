use Rattle.std.proofs.Common.{[]}
use Rattle.ts_sections.proofs.RunLemmas.{sections-ahead}
use Rattle.ts_sections.proofs.RemainderLemmas.{stands_for}
use Rattle.ts_sections.proofs.assembler.Assembler.new.Goals as goal

pub returns-clause-stands : goal.returns-clause-stands
returns-clause-stands c =
    let known = c.new.ensures in
    rw known (stands_for _ [] [] (λ behind. sections-ahead behind))
