use Rattle.std.proofs.Common.{length}
use Rattle.std.specs.Io.{StartsWith}
use Rattle.section_writer.proofs.Pushing.{Pushing}
use Rattle.section_writer.proofs.packets.push_payloads.Given as goal

abbrev pub invariant-payloads : goal.invariant-payloads
invariant-payloads l = record {
  pushing : Pushing l.fn.out.items l.out.items l.pid l.counter l.next l.starts l.payloads l.rest;
  grows : StartsWith l.out.items l.fn.out.items;
}

abbrev pub decreases-payloads : goal.decreases-payloads
decreases-payloads l = length l.rest
