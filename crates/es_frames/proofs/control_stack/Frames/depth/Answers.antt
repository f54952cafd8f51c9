use Rattle.std.proofs.Common.{length, ap, arith}
use Rattle.std.specs.Prelude.{reverse}
use Rattle.std.proofs.lemmas.List.{length-reverse}
use Rattle.es_frames.proofs.StackLemmas.{length-frames}
use Rattle.es_frames.proofs.control_stack.Frames.depth.Goals as goal

pub returns : goal.returns
returns g c =
    let marks = c.self.inside.marks.items in
    omega (arith, length-reverse marks, length-frames (reverse marks) c.self.inside.values.items c.self.inside.items.items, ap length c.self.view_is)
