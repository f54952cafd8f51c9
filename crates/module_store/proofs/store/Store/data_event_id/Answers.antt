use Rattle.std.proofs.Common.{◌∙◌, ap, sym}
use Rattle.module_store.specs.Resources.{start_component}
use Rattle.module_store.specs.Standing.{component_with}
use Rattle.module_store.proofs.DataEventLaws.{id_of_none, id_of_slot}
use Rattle.module_store.proofs.store.Store.data_event_id.Goals as goal

pub returns-in_err-slot : goal.returns-in_err-slot
returns-in_err-slot c =
    let looked = c.in_err-slot.ensures ∙ ap (λ l. component_with l start_component) c.deref.ensures.value in
    rw (← c.self.view_is) (λ stored stands.
    c.from_residual.ensures ∙ sym (id_of_none (record { components = c.self.inside.slots.items; count = c.self.inside.count }) (sym looked) stored stands))

pub returns : goal.returns
returns c =
    let looked = c.in_ok-slot.ensures ∙ ap (λ l. component_with l start_component) c.deref.ensures.value in
    rw (← c.self.view_is) (λ stored stands.
    id_of_slot (record { components = c.self.inside.slots.items; count = c.self.inside.count }) c.in_ok-slot.slot.now (sym looked) c.data_event_id.result c.data_event_id.ensures stored stands)
