use Rattle.std.proofs.Common.{sym, ◌∙◌}
use Rattle.std.specs.Prelude.{true, false}
use Rattle.std.proofs.lemmas.Result.{on_ok_weaker}
use Rattle.acting_documents.specs.Notices.{notice_effect}
use Rattle.acting_documents.specs.Runs.{no_effect}
use Rattle.acting_documents.specs.devices.Doings.{DoesApart}
use Rattle.acting_documents.specs.devices.Posting.{post_effect}
use Rattle.acting_documents.proofs.DoingLemmas.{does_notice, does_still}
use Rattle.acting_documents.proofs.documents.ActingDocument.tell.Goals as goal

pub returns-then-not-takes-clause-does : goal.returns-then-not-takes-clause-does
returns-then-not-takes-clause-does c =
    let old = c.args.self.now in
    let new = c.do_nothing.new.self in
    let out = c.args.out.now.items in
    does_notice c.args.notice false old new out out (λ d k. sym c.if-not-takes.true ∙ c.takes.ensures.takes d k)
    (does_still no_effect old c.takes.new.self new out out c.takes.ensures.kept (c.do_nothing.ensures.apart out))

pub returns-clause-does : goal.returns-clause-does
returns-clause-does c =
    let old = c.args.self.now in
    let new = c.post.new.self in
    let before = c.args.out.now.items in
    let after = c.post.new.out.items in
    on_ok_weaker {Q = DoesApart (notice_effect c.args.notice) old new before after} c.post.result
    (λ does. does_notice c.args.notice true old new before after (λ d k. sym c.if-not-takes.false ∙ c.takes.ensures.takes d k)
    (does_still (post_effect c.args.notice) old c.takes.new.self new before after c.takes.ensures.kept does))
    c.post.ensures.does
