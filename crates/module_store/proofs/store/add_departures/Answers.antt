use Rattle.std.proofs.Common.{◌≡◌, ◌∙◌, ◌++◌, sym, subst}
use Rattle.std.specs.Prelude.{OnOk, map}
use Rattle.std.proofs.lemmas.Result.{on_ok_weaker}
use Rattle.module_store.proofs.GoneLaws.{nothing_goes, modules_go}
use Rattle.module_store.proofs.store.add_departures.Goals as goal

pub returns-then-is_kept : goal.returns-then-is_kept
returns-then-is_kept c = λ component tagged placed stands.
    nothing_goes c.args.components.now c.args.slot.now.tag c.args.slot.now.pid component tagged placed c.args.gone.now.items (sym c.is_kept.ensures ∙ c.if-is_kept.true)

pub returns : goal.returns
returns c =
    on_ok_weaker c.add_changes.result
    (λ is component tagged placed stands.
    modules_go c.args.components.now c.args.slot.now.tag c.args.slot.now.pid component tagged placed c.args.gone.now.items c.add_changes.new.changes.items c.as_slice.result.now
    (sym c.is_kept.ensures ∙ c.if-is_kept.false) (c.as_slice.ensures.value ∙ c.in_ok-departures.ensures component.messages stands) is)
    (subst (λ t. OnOk c.add_changes.result (c.add_changes.new.changes.items ≡ c.args.gone.now.items ++ map (λ change. (t, change)) c.as_slice.result.now)) c.tag.ensures c.add_changes.ensures)
