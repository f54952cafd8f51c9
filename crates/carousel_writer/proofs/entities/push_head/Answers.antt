use Rattle.carousel_writer.proofs.EntityAppends.{quoted}
use Rattle.carousel_writer.proofs.entities.push_head.Goals as goal

pub returns : goal.returns
returns c = quoted c.args.out.now.items _ _ _ _ c.args.boundary.now c.in_ok-extend_from_slice.ensures.items c.in_ok-extend_from_slice-2.ensures.items c.in_ok-extend_from_slice-3.ensures.items
