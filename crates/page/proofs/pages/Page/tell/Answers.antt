use Rattle.std.proofs.Common.{Some, refl}
use Rattle.acting_documents.specs.Notices.{notice_effect}
use Rattle.page.specs.contracts.pages.Page.{the_view}
use Rattle.page.proofs.FollowLemmas.{notice-follows}
use Rattle.page.proofs.PageLaws.{alone, done_as, told_none}
use Rattle.page.proofs.pages.Page.tell.Goals as goal

pub returns-in-Some-clause-told : goal.returns-in-Some-clause-told
returns-in-Some-clause-told c =
    done_as (notice_effect c.args.notice) c.args.self.now (the_view c.self.inside)
    (the_view (record c.self.inside { document = Some c.tell.new.document; browser = c.tell.new.browser }))
    c.in-Some.document c.tell.new.document c.tell.new.browser c.args.out.now.items c.tell.new.out.items c.tell.result
    c.self.view_is c.in-Some.is (alone c.self.inside.document c.self.inside.loading c.in-Some.document c.in-Some.is c.self.invariant.1) (notice-follows c.args.notice) refl c.tell.ensures.acts

pub returns-in-None-clause-told : goal.returns-in-None-clause-told
returns-in-None-clause-told c = told_none (notice_effect c.args.notice) c.args.self.now (the_view c.self.inside) (the_view c.self.inside) c.args.out.now.items c.self.view_is c.in-None.is refl
