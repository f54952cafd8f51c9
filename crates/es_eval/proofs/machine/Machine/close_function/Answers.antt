use Rattle.std.proofs.Common.{◌≡◌, ◌+◌, ◌≤◌, length, subst, sym, arith}
use Rattle.es_eval.specs.declared.outcomes.Outcome.TheVariants.{Normal as AtEnd}
use Rattle.es_eval.specs.declared.works.Now.TheVariants.{Gives}
use Rattle.es_eval.specs.devices.Machines.{GoesPast, MachineState, burden, run_from, value_of_call, world_of}
use Rattle.es_eval.specs.Worlds.Run.{Over}
use Rattle.es_eval.proofs.EndLemmas.{closed-less, closed-machine, closed-run, ends}
use Rattle.es_eval.proofs.machine.Machine.close_function.Goals as goal

pub invariant_of-self : goal.invariant_of-self
invariant_of-self c =
    let more : 2 ≤ length c.self.inside.frames = grind arith in
    closed-machine _ c.pop.new.self c.pop.ensures more c.self.invariant

pub returns-then-depth-gt1-clause-run : goal.returns-then-depth-gt1-clause-run
returns-then-depth-gt1-clause-run c programs handed past =
    let more : 2 ≤ length c.self.inside.frames = grind arith in
    let closed : MachineState = record {
      globals = c.self.inside.globals;
      heap = c.self.inside.heap;
      frames = c.pop.new.self;
      left = c.self.inside.steps.left;
    } in
    subst
    (λ m. run_from programs m (Gives handed) ≡ run_from programs closed (Gives (value_of_call handed)))
    c.self.view_is
    (closed-run _ c.pop.new.self c.pop.ensures more programs handed
    (subst (λ m. GoesPast programs m.frames handed) (sym c.self.view_is) past))

pub returns-then-depth-gt1-clause-less : goal.returns-then-depth-gt1-clause-less
returns-then-depth-gt1-clause-less c is =
    let more : 2 ≤ length c.self.inside.frames = grind arith in
    let closed : MachineState = record {
      globals = c.self.inside.globals;
      heap = c.self.inside.heap;
      frames = c.pop.new.self;
      left = c.self.inside.steps.left;
    } in
    subst (λ m. burden closed + 1 ≤ burden m) c.self.view_is
    (closed-less _ c.pop.new.self c.pop.ensures more)

pub returns-else-depth-gt1-clause-run : goal.returns-else-depth-gt1-clause-run
returns-else-depth-gt1-clause-run c programs handed past =
    let one : length c.self.inside.frames ≡ 1 = grind arith in
    subst (λ m. run_from programs m (Gives handed) ≡ Over AtEnd (world_of programs m)) c.self.view_is
    (ends programs _ handed (subst (λ m. GoesPast programs m.frames handed) (sym c.self.view_is) past) one)
