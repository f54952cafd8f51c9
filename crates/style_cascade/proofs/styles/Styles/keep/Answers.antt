use Rattle.std.proofs.Common.{length, ap, arith}
use Rattle.style_cascade.specs.Keeping.{StylesState}
use Rattle.style_cascade.proofs.GetLemmas.{room-kept}
use Rattle.style_cascade.proofs.KeptLemmas.{element-within}
use Rattle.style_cascade.proofs.styles.Styles.keep.Goals as goal

pub put-requires-clause-within : goal.put-requires-clause-within
put-requires-clause-within c =
    let within = element-within c.args.tree.now c.args.node.0 c.requires.element in
    let room = room-kept c.args.tree.now c.requires.right.0 c.args.self.now c.requires.right.1 in
    omega (arith, within, room, ap (λ (s : StylesState). length s.kept.values) c.self.view_is)
