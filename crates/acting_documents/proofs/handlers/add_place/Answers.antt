use Rattle.std.proofs.Common.{refl, sym, ◌∙◌}
use Rattle.indexmap.proofs.CallerLemmas.{insert_entry-new}
use Rattle.document_load.specs.ScriptViews.{told_handler}
use Rattle.acting_documents.specs.declared.handlers.HandlerKey.{HandlerKey}
use Rattle.acting_documents.proofs.HandlerLaws.{index-more, index-same, is_absent}
use Rattle.acting_documents.proofs.handlers.add_place.Goals as goal

pub returns-in_ok-insert : goal.returns-in_ok-insert
returns-in_ok-insert c =
    let key : HandlerKey = record { node = c.args.handler.now.node; kind = c.args.handler.now.kind } in
    index-more c.args.places.now.entries c.insert.new.self.entries key (told_handler c.args.handler.now) refl refl
    (c.in_ok-insert.ensures.entries ∙ insert_entry-new _ c.args.places.now key c.args.handler.now.program
    (is_absent c.contains_key.result _ c.contains_key.ensures c.if-not-contains_key.true))

pub returns-else-not-contains_key : goal.returns-else-not-contains_key
returns-else-not-contains_key c =
    let key : HandlerKey = record { node = c.args.handler.now.node; kind = c.args.handler.now.kind } in
    index-same c.args.places.now.entries key (told_handler c.args.handler.now) refl refl
    (sym (c.if-not-contains_key.ensures {u = tt}))
