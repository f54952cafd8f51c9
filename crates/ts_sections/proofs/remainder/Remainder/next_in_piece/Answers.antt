use Rattle.ts_sections.proofs.RemainderLemmas.{Passes-from, Finds-gathered, Finds-in_packet}
use Rattle.ts_sections.proofs.remainder.Remainder.next_in_piece.Goals as goal

pub returns-in-All-clause-found : goal.returns-in-All-clause-found
returns-in-All-clause-found c =
    let end = c.unwrap_or-end.ensures in
    let took = rw (end, c.in-All.is) at c.take.ensures in
    rw end (Passes-from c.args.packet.now c.args.self.now c.args.piece.now c.take.new.self took)

pub returns-in-Joined-clause-found : goal.returns-in-Joined-clause-found
returns-in-Joined-clause-found c =
    let took = rw (c.unwrap_or-end.ensures, c.in-Joined.is) at c.take.ensures in
    Finds-gathered c.args.packet.now c.args.self.now c.args.piece.now c.take.new.self c.in-Joined.count c.requires.within took

pub returns-in-Whole-clause-found : goal.returns-in-Whole-clause-found
returns-in-Whole-clause-found c =
    let took = rw (c.unwrap_or-end.ensures, c.in-Whole.is) at c.take.ensures in
    Finds-in_packet c.args.packet.now c.args.self.now c.args.piece.now c.take.new.self c.in-Whole.count c.requires.within took
