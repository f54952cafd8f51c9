use Rattle.replay_run.proofs.PrintingLaws.{prints_more, prints_shown}
use Rattle.replay_run.proofs.WholeReplays.{replayed}
use Rattle.replay_run.proofs.generating.replay_whole.Goals as goal

pub returns-clause-text : goal.returns-clause-text
returns-clause-text c = λ read selection area stood.
    let idle = c.in_ok-packets.ensures.idle in
    replayed read selection area c.args.stream.now _ _ _ _ _ _ c.law_of_receivers.ensures.all stood
    (prints_more _ _ _ _ _ _ _ _ c.in_ok-packets.ensures.prints
    (prints_shown _ _ _ _ c.in_ok-input.ensures.answers idle))
    (c.input.ensures.idle idle) c.in_ok-packets.ensures.packets c.in_ok-push_end_line.ensures.ok
