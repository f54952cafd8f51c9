use Rattle.carousel_writer.proofs.RoundLoop.{round-begun, round-more, round-all}
use Rattle.carousel_writer.proofs.streams.push_round.Goals as goal

pub modules-init : goal.modules-init
modules-init c = record {
  sent = round-begun c.args.files.now _ _ _ _ _ c.requires.indication c.in_ok-next.ensures.alone;
  small = c.in_ok-next.ensures.small;
}

pub modules-preserved : goal.modules-preserved
modules-preserved c =
    let v = c.deref-file-items.ensures.value in
    let t = c.modules-test.true in
    let i = c.file-item.is in
    record {
      sent = round-more c.args.files.now _ _ _ _ _ _ _ c.args.files.now.modules.items c.file-item.result (rw v at t) (rw v at i) c.modules.invariant.sent c.in_ok-next-2.ensures.sent;
      small = c.in_ok-next-2.ensures.small;
    }

pub returns-clause-sent : goal.returns-clause-sent
returns-clause-sent c =
    let v = c.deref-file-items.ensures.value in
    let t = c.modules-test.false in
    round-all c.args.files.now _ _ _ _ _ (rw v at t) c.modules.invariant.sent
