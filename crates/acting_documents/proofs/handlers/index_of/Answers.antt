use Rattle.std.proofs.Common.{List, map, sym, subst, take, arith}
use Rattle.std.proofs.lemmas.List.{map_more}
use Rattle.document_load.specs.Scripts.{HandlerState}
use Rattle.document_load.specs.ScriptViews.{told_handler}
use Rattle.acting_documents.specs.devices.Handlers.{IsIndexOf}
use Rattle.acting_documents.proofs.HandlerLaws.{index-none}
use Rattle.acting_documents.proofs.handlers.index_of.Goals as goal

pub handlers-init : goal.handlers-init
handlers-init c = index-none c.new-places.result.entries c.new-places.ensures.empty

pub handlers-preserved : goal.handlers-preserved
handlers-preserved c =
    let handlers = c.args.handlers.now in
    let index = c.handlers.handler-index in
    subst (λ (all : List HandlerState). IsIndexOf c.add_place.new.places.entries all)
    (sym (map_more told_handler handlers index _ (omega arith)))
    (c.in_ok-add_place.ensures {u = tt} (map told_handler (take index handlers)) c.handlers.invariant)
