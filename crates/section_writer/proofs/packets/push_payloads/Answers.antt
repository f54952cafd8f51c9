use Rattle.std.proofs.Common.{refl}
use Rattle.section_writer.proofs.Pushing.{begins, pushed, pushed-all}
use Rattle.section_writer.proofs.packets.push_payloads.Goals as goal

pub payloads-preserved : goal.payloads-preserved
payloads-preserved c =
    let h = c.in-Some.ensures.cases in
    record {
      pushing = pushed _ _ _ _ _ _ _ _ _ _ _ _ c.payloads.invariant.pushing h.0 h.1 h.2 c.in_ok-append_packet.ensures.bytes refl;
      grows = begins _ _ _ c.payloads.invariant.grows c.append_packet.ensures.grows;
    }

pub returns-clause-appended : goal.returns-clause-appended
returns-clause-appended c = pushed-all _ _ _ _ _ _ _ _ c.payloads.invariant.pushing c.in_default.ensures.cases
