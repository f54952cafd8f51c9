use Rattle.std.proofs.Common.{◌+◌, ◌≤◌, length}
use Rattle.receiver_core.specs.Receiving.{IsIdle}
use Rattle.ts_packets.specs.Cutter.{MayFollow}
use Rattle.replay_run.specs.devices.Printing.{work_left}
use Rattle.replay_run.proofs.TakingLaws.{HasTaken}
use Rattle.replay_run.proofs.generating.take_stream.Given as goal

-- the packets so far were taken, and their turns made
abbrev pub invariant-packets : goal.invariant-packets
invariant-packets l = record {
  idle : IsIdle l.receiver;
  follows : MayFollow l.cutter l.left;
  within : l.packets + length l.cutter.held + length l.left ≤ length l.stream;
  taken : HasTaken l.stream l.packets l.cutter l.left l.initial.receiver l.receiver
      l.initial.text.items l.text.items;
}

abbrev pub decreases-packets : goal.decreases-packets
decreases-packets l = work_left l.cutter l.left
