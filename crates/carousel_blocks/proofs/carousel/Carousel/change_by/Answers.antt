use Rattle.std.proofs.Common.{sym, ap, ◌∙◌}
use Rattle.std.specs.Prelude.{Some, None}
use Rattle.carousel_blocks.specs.InForce.{in_force, standing_of}
use Rattle.carousel_blocks.specs.Steps.{block_change}
use Rattle.carousel_blocks.proofs.ToldLaws.{block_change_by}
use Rattle.carousel_blocks.proofs.carousel.Carousel.change_by.Goals as goal

pub returns-in_err-standing-clause-told : goal.returns-in_err-standing-clause-told
returns-in_err-standing-clause-told c = λ h s.
    let b = c.self.inside in
    c.from_residual.ensures
    ∙ block_change_by b.transaction b.download b.modules b.buffers c.args.self.now c.self.view_is h s c.in-Completed.number None c.in_err-standing.ensures
    ∙ ap (block_change (standing_of (in_force h))) (sym c.in-Completed.is)

pub returns-clause-told : goal.returns-clause-told
returns-clause-told c = λ h s.
    let b = c.self.inside in
    ap (λ x. Some x) c.completed.ensures
    ∙ block_change_by b.transaction b.download b.modules b.buffers c.args.self.now c.self.view_is h s c.in-Completed.number (Some c.in_ok-standing.standing.now) c.in_ok-standing.ensures
    ∙ ap (block_change (standing_of (in_force h))) (sym c.in-Completed.is)
