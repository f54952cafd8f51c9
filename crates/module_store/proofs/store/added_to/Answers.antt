use Rattle.std.proofs.Common.{◌∙◌, ◌+◌, List, Vec, Global, take, ap, sym, subst}
use Rattle.module_store.specs.Standing.{ComponentState}
use Rattle.module_store.specs.Slots.{AreAdded}
use Rattle.module_store.proofs.MapLaws.{added_one, added_none}
use Rattle.module_store.proofs.store.added_to.Goals as goal
use Rattle.module_store.proofs.store.added_to.Goals.{then-not-is_followed+in_ok-push, else-not-is_followed}

pub components-preserved : goal.components-preserved
components-preserved c =
    let P : List ComponentState → Type 0 = λ l. AreAdded c.args.slots.now (take (c.components.component-index + 1) c.args.components.now) l in
    elim c.if-not-is_followed.branch [
      | then-not-is_followed+in_ok-push w ↦
          subst P (sym (ap (λ (v : Vec ComponentState Global). v.items) w.added-is ∙ w.in_ok-push.ensures.items))
          (added_one c.args.slots.now c.args.components.now c.components.component-index c.components.added.items c.components-test.true c.components.invariant w.new.result
          (sym c.is_followed.ensures ∙ w.if-not-is_followed.true) w.new.ensures)
      | else-not-is_followed w ↦
          subst P (sym (ap (λ (v : Vec ComponentState Global). v.items) w.added-is))
          (added_none c.args.slots.now c.args.components.now c.components.component-index c.components.added.items c.components-test.true c.components.invariant
          (sym c.is_followed.ensures ∙ w.if-not-is_followed.false))
    ]
