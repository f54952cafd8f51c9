use Rattle.std.proofs.Common.{arith}
use Rattle.std.proofs.lemmas.Grind.{common_steps}
use Rattle.es_builtins.proofs.DigitLemmas.{pushed_more, pushed_one}
use Rattle.es_builtins.proofs.numerals.+push_digits.Goals as goal
use Rattle.es_builtins.proofs.numerals.+push_digits.Goals.{then-number-base+in_ok-push_digits, else-number-base}

pub returns : goal.returns
returns t c = λ more small.
    elim c.if-number-base.branch [
      | then-number-base+in_ok-push_digits w ↦
          pushed_more c.args.base more c.args.number c.args.out.now.items c.if-number-base.out.items c.push.new.self.items (omega arith) w.if-number-base.true small
          (λ fewer fits. grind (arith, w.in_ok-push_digits.ensures {u = tt} fewer fits)) (grind (arith, common_steps))
      | else-number-base w ↦
          pushed_one c.args.base more c.args.number c.args.out.now.items c.if-number-base.out.items c.push.new.self.items w.if-number-base.false (grind arith) (grind (arith, common_steps))
    ]
