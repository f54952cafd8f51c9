use Rattle.std.proofs.lemmas.Result.{on_ok_weaker}
use Rattle.receiver_core.proofs.ReceivingLaws.{takes_random}
use Rattle.receiver_core.proofs.receiver.Receiver.random.Goals as goal

pub returns-clause-taken : goal.returns-clause-taken
returns-clause-taken c =
    on_ok_weaker c.input.result (takes_random c.args.word _ _ _ _ c.requires.idle)
    c.input.ensures.answers
