use Rattle.ts_sections.proofs.RemainderLemmas.{Finishes-first, advances}
use Rattle.ts_sections.proofs.assembler.advance.Goals as goal

pub returns-in-None-clause-found : goal.returns-in-None-clause-found
returns-in-None-clause-found c =
    let last = c.in-None.is in
    let none = rw last at c.requires.remainder in
    rw last (Finishes-first _ _ none)

pub returns-in-Some-clause-found : goal.returns-in-Some-clause-found
returns-in-Some-clause-found c =
    let last = c.in-Some.is in
    let found = rw c.bytes.ensures.bytes at c.next_section.ensures.found in
    rw last (advances _ _ _ _ _ _ found)
