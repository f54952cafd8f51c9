use Rattle.std.proofs.Common.{subst, sym}
use Rattle.acting_documents.specs.Handling.{due_effect}
use Rattle.page.specs.Inputs.{document_step}
use Rattle.page.specs.Standing.{MakesAmid, PageState}
use Rattle.page.specs.contracts.pages.Page.{the_view}
use Rattle.page.proofs.PageLaws.{moved}
use Rattle.page.proofs.pages.Page.move_to.Goals as goal

pub returns-clause-moved : goal.returns-clause-moved
returns-clause-moved c =
    moved c.args.moment c.args.self.now (the_view c.self.inside) c.args.out.now.items c.tell.new.out.items
    (subst (λ (page : PageState). MakesAmid (document_step (due_effect c.args.moment)) c.args.self.now page c.args.out.now.items c.tell.new.out.items) (sym c.self.view_is) c.in_ok-tell.ensures.told)
