use Rattle.std.proofs.Common.{◌∙◌, ap}
use Rattle.std.proofs.lemmas.Result.{on_ok_weaker}
use Rattle.module_store.specs.Standing.{component_with}
use Rattle.module_store.proofs.GoneLaws.{no_component, its_modules}
use Rattle.module_store.proofs.store.Store.add_gone.Goals as goal

pub returns-in-None : goal.returns-in-None
returns-in-None c =
    let none = c.in-None.ensures ∙ ap (λ l. component_with l c.args.tag) c.deref.ensures.value in
    rw (← c.self.view_is) (λ stored stands. no_component (record { components = c.self.inside.slots.items; count = c.self.inside.count }) c.args.tag c.args.components.now stored stands c.args.gone.now.items none)

pub returns-in-Some : goal.returns-in-Some
returns-in-Some c =
    let looked = c.in-Some.ensures ∙ ap (λ l. component_with l c.args.tag) c.deref.ensures.value in
    rw (← c.self.view_is) (on_ok_weaker c.add_departures.result
    (λ go stored stands. its_modules (record { components = c.self.inside.slots.items; count = c.self.inside.count }) c.args.tag c.args.components.now stored stands c.in-Some.slot.now c.args.gone.now.items c.add_departures.new.gone.items looked go)
    c.add_departures.ensures)
