use Rattle.std.proofs.Common.{◌∙◌}
use Rattle.ts_packets.proofs.Following.{window-pid}
use Rattle.ts_packets.proofs.cutter.Cutter.front_pid.Goals as goal

pub returns : goal.returns
returns c = let i = c.self.inside in c.pid_in.ensures ∙ window-pid _ i.buffer i.start i.end i.ended c.self.view_is c.requires.front
