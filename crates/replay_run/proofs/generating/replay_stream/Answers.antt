use Rattle.psi_tables.specs.declared.services.Selection.TheVariants.{Pid}
use Rattle.replay_run.proofs.WholeReplays.{on_ok, opened_without}
use Rattle.replay_run.proofs.generating.replay_stream.Goals as goal

pub returns-clause-text : goal.returns-clause-text
returns-clause-text c =
    on_ok c.replay_whole-replayed.result _ _
    (λ whole read right. whole read (Pid c.args.pid) _ (opened_without read (Pid c.args.pid) _ _
    c.zeros.ensures (c.in_ok-receiver.ensures.stands read right)))
    c.replay_whole-replayed.ensures.text
