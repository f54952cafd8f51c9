use Rattle.carousel_writer.proofs.RoundLoop.{rounds-more}
use Rattle.carousel_writer.proofs.streams.bytes_of_stream.Goals as goal

pub rounds-preserved : goal.rounds-preserved
rounds-preserved c = record {
  sent = rounds-more c.args.files.now _ _ _ _ _ c.rounds.invariant.sent c.in_ok-next.ensures.sent;
  small = c.in_ok-next.ensures.small;
}
