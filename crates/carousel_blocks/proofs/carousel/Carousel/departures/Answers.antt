use Rattle.std.proofs.Common.{◌∙◌}
use Rattle.std.proofs.lemmas.Result.{IfOk-weaker}
use Rattle.carousel_blocks.proofs.ToldLaws.{changes-left_by}
use Rattle.carousel_blocks.proofs.carousel.Carousel.departures.Goals as goal

pub returns : goal.returns
returns c =
    let b = c.self.inside in
    IfOk-weaker c.changes_between.result _ _ (λ found is h s. is ∙ changes-left_by b.transaction b.download b.modules c.new-none.result b.buffers c.args.self.now c.self.view_is c.new-none.ensures.empty h s) c.changes_between.ensures
