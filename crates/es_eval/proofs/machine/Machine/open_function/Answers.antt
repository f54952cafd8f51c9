use Rattle.std.proofs.Common.{◌≡◌, ◌∙◌, ◌∷◌, length, refl, rules, take}
use Rattle.es_eval.specs.devices.Slots.{with_values}
use Rattle.es_eval.proofs.SlotLemmas.{burden_opened, fresh, machine_opened, rest_opened, world_opened}
use Rattle.es_eval.proofs.machine.Machine.open_function.Goals as goal

-- what stands on the stack then
frames-are : (c : goal.After-set_slots) → c.set_slots.new.frames
    ≡ with_values (fresh c.args.declared c.args.function.now.locals.items c.args.this
    ∷ c.self.inside.frames) 0 (take c.args.function.now.parameters c.args.args.items)
frames-are c =
    let count : c.in-Ok.locals ≡ length c.args.function.now.locals.items = search rules in
    c.set_slots.ensures
    ∙ rw (c.in_ok-push.ensures.ok, c.truncate.ensures.items, count) refl

pub invariant_of-self-2 : goal.invariant_of-self-2
invariant_of-self-2 c =
    machine_opened _ _ c.args.declared c.args.function.now.locals.items c.args.this
    c.args.function.now.parameters c.args.args.items (frames-are c) c.self.invariant
    (rw (← c.self.view_is) at c.requires.depth) (rw (← c.self.view_is) at c.requires.this)
    (rw (← c.self.view_is) at c.requires.args)

pub returns-clause-world : goal.returns-clause-world
returns-clause-world c =
    rw (← c.self.view_is)
    (world_opened _ _ c.args.declared c.args.function.now.locals.items c.args.this
    c.args.function.now.parameters c.args.args.items (frames-are c) c.self.invariant.some)

pub returns-clause-rest : goal.returns-clause-rest
returns-clause-rest c =
    rw (← c.self.view_is)
    (rest_opened _ _ c.args.declared c.args.function.now.locals.items c.args.this
    c.args.function.now.parameters c.args.args.items (frames-are c))

pub returns-clause-less : goal.returns-clause-less
returns-clause-less c =
    rw (← c.self.view_is)
    (burden_opened _ _ c.args.declared c.args.function.now.locals.items c.args.this
    c.args.function.now.parameters c.args.args.items (frames-are c))
