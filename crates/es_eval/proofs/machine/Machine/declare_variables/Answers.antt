use Rattle.std.proofs.Common.{refl}
use Rattle.std.proofs.lemmas.Option.{slice_get_read}
use Rattle.std.proofs.lemmas.Result.{on_ok_weaker}
use Rattle.es_eval.proofs.DeclaringLemmas.{variables-world}
use Rattle.es_eval.proofs.MachineLemmas.{machine_with_globals}
use Rattle.es_eval.proofs.machine.Machine.declare_variables.Goals as goal

pub invariant_of-self : goal.invariant_of-self
invariant_of-self c =
    machine_with_globals _ _ c.self.invariant
    (c.name_variables.ensures.live c.self.inside.heap c.self.invariant.globals)

pub returns-clause-world : goal.returns-clause-world
returns-clause-world c =
    rw (← c.self.view_is)
    (on_ok_weaker c.name_variables.result
    (λ put. variables-world c.args.programs.now c.args.which c.index-programs-which.result
    c.variables.result.now _ _ (slice_get_read c.args.programs.now _ c.args.which c.index-programs-which.result refl c.requires.which c.index-programs-which.is)
    c.variables.ensures put)
    c.name_variables.ensures.globals)
