use Rattle.page.specs.contracts.pages.Page.{the_view}
use Rattle.std.proofs.Common.{◌∙◌, sym}
use Rattle.page.proofs.PageLaws.{load_none, load_remembered, load_taken, may_wanted}
use Rattle.page.proofs.pages.Page.load.Goals as goal

pub returns-then-not-branch-clause-made : goal.returns-then-not-branch-clause-made
returns-then-not-branch-clause-made c =
    load_none c.in_ok-may_load.field-0 c.args.modules.now c.args.self.now (the_view c.self.inside) c.args.out.now.items c.self.view_is c.in_ok-may_load.ensures c.if-not-branch.true

pub returns-clause-made : goal.returns-clause-made
returns-clause-made c =
    load_taken c.args.modules.now c.take_load.new.modules c.args.self.now (the_view c.self.inside) c.take_load.new.self c.load.new.memory c.replace-loading.result c.replace-loading.new.dest c.in_ok-came.came c.args.out.now.items c.load.new.out.items c.take_load.new.out.items c.take_load.result
    c.self.view_is c.replace-loading.ensures.value c.replace-loading.ensures.after
    (λ is. may_wanted c.in_ok-may_load.field-0 c.args.modules.now c.self.inside.loading c.in_ok-may_load.ensures c.if-not-branch.false (sym c.replace-loading.ensures.value ∙ is))
    c.in_ok-came.ensures.loads c.take_load.ensures.taken

pub returns-clause-remembers : goal.returns-clause-remembers
returns-clause-remembers c =
    load_remembered c.args.modules.now c.args.self.now (the_view c.self.inside) c.take_load.new.self c.load.new.memory c.replace-loading.result c.in_ok-came.came c.args.out.now.items c.load.new.out.items c.take_load.result
    c.self.view_is c.replace-loading.ensures.value
    (λ is. may_wanted c.in_ok-may_load.field-0 c.args.modules.now c.self.inside.loading c.in_ok-may_load.ensures c.if-not-branch.false (sym c.replace-loading.ensures.value ∙ is))
    c.in_ok-came.ensures.loads c.take_load.ensures.memory
