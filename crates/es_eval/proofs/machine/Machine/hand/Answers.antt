use Rattle.std.proofs.Common.{List, ap, refl, subst, sym, arith}
use Rattle.es_values.specs.Objects.{ObjectState}
use Rattle.es_eval.specs.devices.Machines.{AreLive, values_of_given}
use Rattle.es_eval.proofs.EndLemmas.{returned_past}
use Rattle.es_eval.proofs.HandLemmas.{handed-run, some-turn}
use Rattle.es_eval.proofs.machine.Machine.hand.Goals as goal

pub returns-in_default-given : goal.returns-in_default-given
returns-in_default-given c =
    let some = some-turn c.in-Some.item in
    record {
      run = handed-run c.args.programs.now c.args.self.now c.take.new.self c.in-Some.item
          c.args.given c.in_default-item.not-Statement c.in_default-given.not-Value
          (c.in-Some.ensures.rest c.args.programs.now) c.take.ensures.world;
      live = subst (λ (heap : List ObjectState). AreLive heap (values_of_given c.args.given))
          (sym (ap (λ m. m.heap) c.take.ensures.without)) c.requires;
      less = omega (arith, c.in-Some.ensures.less);
      programs = refl;
    }

pub leave-requires-clause-past : goal.leave-requires-clause-past
leave-requires-clause-past c programs w =
    returned_past programs c.args.self.now.frames c.in-Returned.value w
