use Rattle.std.proofs.Common.{[], Ok, ap}
use Rattle.replay_run.proofs.PrintingLaws.{prints_more, prints_nothing, prints_turn}
use Rattle.replay_run.proofs.generating.make_turns.Goals as goal

pub turns-init : goal.turns-init
turns-init c = prints_nothing _ _

pub turns-preserved : goal.turns-preserved
turns-preserved c = prints_more [] [] _ _ _ _ _ _ c.turns.invariant
    (prints_turn _ _ _ _ (c.in_ok-section_turn.ensures.handled (ap Ok c.if-not-branch.false)))
