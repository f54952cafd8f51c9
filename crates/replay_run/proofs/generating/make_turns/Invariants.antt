use Rattle.std.proofs.Common.{[]}
use Rattle.receiver_core.specs.Receiving.{sections_left}
use Rattle.replay_run.specs.devices.Printing.{Prints}
use Rattle.replay_run.proofs.generating.make_turns.Given as goal

-- the turns so far were made, and printed
abbrev pub invariant-turns : goal.invariant-turns
invariant-turns l =
    Prints [] l.initial.receiver l.receiver l.initial.text.items l.text.items

abbrev pub decreases-turns : goal.decreases-turns
decreases-turns l = sections_left l.receiver
