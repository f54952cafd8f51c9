use Rattle.std.proofs.Common.{ap, sym, ◌∙◌}
use Rattle.std.specs.Prelude.{option_map, option_and_then}
use Rattle.carousel_blocks.specs.declared.standing.Standing.{Standing}
use Rattle.carousel_blocks.specs.declared.modules.Module.{Module}
use Rattle.carousel_blocks.proofs.StandingFor.{standing-by}
use Rattle.carousel_blocks.proofs.carousel.Carousel.skip_of.Goals as goal

pub returns-in_err-module : goal.returns-in_err-module
returns-in_err-module c = λ h s.
    let b = c.self.inside in
    c.from_residual.ensures
    ∙ sym (ap (option_and_then (λ (x : Standing). x.skip)) (standing-by b.transaction b.download b.modules b.buffers c.args.self.now c.self.view_is h c.args.module s ∙ ap (option_map (λ (x : Module). x.standing)) (sym c.in_err-module.ensures.value)))

pub returns : goal.returns
returns c = λ h s.
    let b = c.self.inside in
    sym (ap (option_and_then (λ (x : Standing). x.skip)) (standing-by b.transaction b.download b.modules b.buffers c.args.self.now c.self.view_is h c.args.module s ∙ ap (option_map (λ (x : Module). x.standing)) (sym c.in_ok-module.ensures.value)))
