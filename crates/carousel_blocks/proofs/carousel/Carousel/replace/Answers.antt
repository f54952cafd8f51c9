use Rattle.std.proofs.Common.{◌∙◌}
use Rattle.std.specs.Prelude.{Some}
use Rattle.carousel_blocks.proofs.ModuleLaws.{keep_both}
use Rattle.carousel_blocks.proofs.StandingFor.{keeps_same_by, takes_dii_by}
use Rattle.carousel_blocks.proofs.ToldLaws.{changes_by}
use Rattle.carousel_blocks.proofs.carousel.Carousel.replace.Goals as goal

pub returns-in-Err-clause-same : goal.returns-in-Err-clause-same
returns-in-Err-clause-same c =
    let b = c.self.inside in
    keeps_same_by b.transaction b.download b.modules b.buffers c.give_back_unused.new.buffers c.args.self.now c.self.view_is
    (keep_both b.modules b.buffers c.next_modules.new.buffers c.give_back_unused.new.buffers c.next_modules.ensures.keeps c.give_back_unused.ensures)

pub returns-in-Ok-clause-taken : goal.returns-in-Ok-clause-taken
returns-in-Ok-clause-taken c =
    let b = c.self.inside in
    takes_dii_by b.transaction b.download b.modules c.in-Ok.modules b.buffers c.next_modules.new.buffers c.give_back_unused-in-Ok.new.buffers c.args.dii c.args.self.now c.self.view_is
    c.in-Ok.ensures.modules c.give_back_unused-in-Ok.ensures

pub returns-in-Ok-clause-changes : goal.returns-in-Ok-clause-changes
returns-in-Ok-clause-changes c =
    let b = c.self.inside in
    c.in-Ok.ensures.changes
    ∙ changes_by b.transaction (Some c.args.dii.transaction) b.download (Some c.args.dii.download) b.modules c.in-Ok.modules b.buffers c.next_modules.new.buffers c.give_back_unused-in-Ok.new.buffers c.args.self.now c.self.view_is
    c.give_back_unused-in-Ok.ensures
