use Rattle.std.proofs.Common.{◌∙◌, ◌<◌, ◌^◌, ap, sym, arith}
use Rattle.module_store.specs.Standing.{component_with}
use Rattle.module_store.proofs.DeliveryNumber.{number_is}
use Rattle.module_store.proofs.store.Store.delivery_number.Goals as goal

pub returns : goal.returns
returns c =
    let looked = c.in_ok-slot.ensures ∙ ap (λ l. component_with l c.args.component) c.deref.ensures.value in
    let low : c.args.module < 2 ^ 16 = omega arith in
    rw (← c.self.view_is, c.number_of.ensures) (number_is (record { components = c.self.inside.slots.items; count = c.self.inside.count }) c.args.component c.args.module c.in_ok-slot.slot.now c.in_ok-bytes_of.field-0.now (sym looked) low
    (λ messages stands. c.in_ok-bytes_of.ensures messages stands))
