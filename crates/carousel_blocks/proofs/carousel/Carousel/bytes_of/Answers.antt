use Rattle.std.proofs.Common.{◌∙◌}
use Rattle.carousel_blocks.proofs.StandingFor.{bytes_held-by}
use Rattle.carousel_blocks.proofs.carousel.Carousel.bytes_of.Goals as goal

pub returns : goal.returns
returns c = λ h s.
    let b = c.self.inside in
    c.whole_of.ensures ∙ bytes_held-by b.transaction b.download b.modules b.buffers c.args.self.now c.self.view_is h c.args.module s
