use Rattle.std.proofs.Common.{◌≡◌, refl, sym, subst, true}
use Rattle.module_locks.specs.Standing.{ForModules}
use Rattle.page.specs.Loading.{are_settled}
use Rattle.page.specs.devices.Pendings.{WaitsAt}
use Rattle.page.specs.devices.PendingStates.{PendingState}
use Rattle.page.proofs.PendingLaws.{goes_on, settled_loads}
use Rattle.page.proofs.pending.Pending.load.Goals as goal

pub returns-in-Some-clause-loads : goal.returns-in-Some-clause-loads
returns-in-Some-clause-loads c =
    let pending : PendingState = record { is_start = c.self.inside.is_start; path = c.self.inside.path; draft = c.self.inside.draft; place = c.self.inside.place } in
    rw (← c.self.view_is) (goes_on c.args.modules.now pending c.in-Some.place c.args.memory.now c.args.out.now.items
    (subst (λ (p : PendingState). WaitsAt c.args.modules.now p.draft.needs c.in-Some.place) (sym c.self.view_is) c.in-Some.ensures.waits))

pub returns-in_ok-acting-in-None-clause-loads : goal.returns-in_ok-acting-in-None-clause-loads
returns-in_ok-acting-in-None-clause-loads c =
    let pending : PendingState = record { is_start = c.self.inside.is_start; path = c.self.inside.path; draft = c.self.inside.draft; place = c.self.inside.place } in
    let settled =
    subst (λ (p : PendingState). ForModules c.args.modules.now (λ modules. are_settled modules p.draft.needs ≡ true)) (sym c.self.view_is) (c.in-None.ensures.settled refl) in
    rw (← c.self.view_is) (settled_loads c.args.modules.now pending c.in_ok-acting-in-None.acting c.args.memory.now c.load_settled.new.memory c.args.out.now.items c.load_settled.new.out.items settled c.in_ok-acting-in-None.ensures.loads)
