use Rattle.std.proofs.Common.{true, ap₂, subst, sym, rules}
use Rattle.page.specs.Dispatches.{next_data_event}
use Rattle.page.specs.Standing.{MayMake, PageState}
use Rattle.page.specs.contracts.pages.Page.{the_view}
use Rattle.page.specs.declared.loading.Loading.{Loading}
use Rattle.page.proofs.DataEventLaws.{event_handled}
use Rattle.page.proofs.PageLaws.{with_loading}
use Rattle.page.proofs.pages.Page.handle_data_event.Goals as goal

pub returns-clause-made : goal.returns-clause-made
returns-clause-made c =
    subst (λ (page : PageState). MayMake true c.args.modules.now c.end_document.new.modules next_data_event c.args.self.now page c.args.out.now.items c.end_document.new.out.items)
    (ap₂ (λ (loading : Loading) (page : PageState). with_loading loading page) (sym c.replace.ensures.after) (sym c.self-2.view_is))
    (event_handled c.args.modules.now c.end_document.new.modules c.args.self.now (the_view c.self.inside) c.end_document.new.self c.args.out.now.items c.end_document.new.out.items
    c.self.view_is (search rules) c.in_ok-end_document.ensures.ended)
