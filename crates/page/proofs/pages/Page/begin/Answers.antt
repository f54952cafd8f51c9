use Rattle.std.proofs.Common.{◌∙◌, subst, ap}
use Rattle.std.specs.Prelude.{Option}
use Rattle.std.specs.Option.{option_map_or}
use Rattle.acting_documents.specs.devices.Kept.{KeptDocument}
use Rattle.page.specs.Standing.{Begins, PageState, behind_launch}
use Rattle.page.specs.contracts.pages.Page.{the_view}
use Rattle.page.proofs.pages.Page.begin.Goals as goal

pub returns-clause-begins : goal.returns-clause-begins
returns-clause-begins c =
    let browser = c.act-begun.new.browser in
    subst (λ (page : PageState). Begins c.args.modules.now c.act-begun.new.modules c.args.document page c.go_on.new.self c.args.out.now.items c.act-begun.new.out.items) c.self.view_is (record {
      launched = c.in_ok-launched.launched;
      document = c.act-begun.new.document;
      browser = browser;
      acts = c.in_ok-launched.ensures.acts;
      new_is =
          c.go_on.ensures
          ∙ ap (λ (document : Option KeptDocument). behind_launch c.in_ok-launched.launched (record (the_view c.self.inside) { document = document; worked = option_map_or (λ d. d.worked) document 0; browser = browser })) c.replace.ensures.after;
    })
