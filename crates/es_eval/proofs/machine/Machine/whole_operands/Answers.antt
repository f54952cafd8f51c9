use Rattle.std.proofs.Common.{FitsSigned, rules}
use Rattle.std.specs.Int.{w32}
use Rattle.std.proofs.lemmas.Int.{to_z-of_z}
use Rattle.es_eval.proofs.FoundLemmas.{wholes-find}
use Rattle.es_eval.proofs.machine.Machine.whole_operands.Goals as goal

pub returns-clause-finds : goal.returns-clause-finds
returns-clause-finds c =
    let first = c.in_ok-left.left in
    let second = c.in_ok-right.right in
    let first_fits : FitsSigned w32 first = search rules in
    let second_fits : FitsSigned w32 second = search rules in
    let first_is = to_z-of_z w32 first first_fits in
    let second_is = to_z-of_z w32 second second_fits in
    rw (← c.self.view_is)
    (wholes-find c.args.programs.now (record {
      globals = c.self.inside.globals;
      heap = c.self.inside.heap;
      frames = c.self.inside.frames;
      left = c.self.inside.steps.left;
    }) c.args.operator c.args.left c.args.right first second c.operated_wholes.result
    c.charge.new.self.left c.charge.result (rw (← c.self.view_is) at c.in_ok-left.ensures)
    (rw (← c.self.view_is) at c.in_ok-right.ensures) c.charge.ensures c.if-not-charge.false
    (rw (first_is, second_is) at c.operated_wholes.ensures.value)
    (rw (first_is, second_is) at c.operated_wholes.ensures.free))

pub returns-clause-live : goal.returns-clause-live
returns-clause-live c = c.operated_wholes.ensures.live c.self.inside.heap
