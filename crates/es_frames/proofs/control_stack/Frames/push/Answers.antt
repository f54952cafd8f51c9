use Rattle.std.proofs.Common.{◌≤◌, length, ap, arith}
use Rattle.std.specs.Prelude.{replicate, reverse}
use Rattle.std.proofs.lemmas.List.{length-reverse}
use Rattle.es_values.specs.declared.values.Value.TheVariants.{Undefined}
use Rattle.es_frames.specs.Depth.{most_calls}
use Rattle.es_frames.proofs.StackLemmas.{length-frames, stack-push}
use Rattle.es_frames.proofs.control_stack.Frames.push.Goals as goal

pub invariant_of-self : goal.invariant_of-self
invariant_of-self g c =
    let marks = c.self.inside.marks.items in
    let values = c.self.inside.values.items in
    let items = c.self.inside.items.items in
    let shallow : length marks ≤ most_calls = omega (arith, c.requires, length-reverse marks, length-frames (reverse marks) values items, ap length c.self.view_is) in
    stack-push marks c.push_frame.new.marks.items _ values (replicate c.args.count Undefined) c.push_frame.new.values.items items c.self.invariant
    (omega (arith, c.len-first.ensures, c.self.inside.values.ok)) (omega (arith, c.len.ensures, c.self.inside.items.ok))
    shallow c.in-Ok.ensures.marks c.in-Ok.ensures.values
