use Rattle.std.proofs.Common.{◌≡◌, ◌<◌, ◌^◌, suc, true, false, arith}
use Rattle.std.specs.Prelude.{int_lt, pos}
use Rattle.std.proofs.lemmas.Grind.{common_steps}
use Rattle.std.proofs.lemmas.Int.{ints, to_z-of_z}
use Rattle.es_builtins.proofs.DigitLemmas.{digits_fit, if-pushed_signed, if-pushed_unsigned}
use Rattle.es_builtins.proofs.numerals.push_signed_digits.Goals as goal
use Rattle.es_builtins.proofs.numerals.push_signed_digits.Goals.{then-whole-lt0+in_ok-push, else-whole-lt0}

pub returns : goal.returns
returns c =
    let fits : c.unsigned_abs.result < c.args.base ^ suc 31 = digits_fit c.args.base c.unsigned_abs.result c.requires.least (omega arith) in
    let pushed = c.push_digits.ensures 31 fits in
    elim c.if-whole-lt0.branch [
      | then-whole-lt0+in_ok-push w ↦
          let negative : int_lt c.args.whole (pos 0) ≡ true = grind (arith, ints, to_z-of_z) in
          if-pushed_signed c.push_digits.result c.args.base c.unsigned_abs.result c.args.whole c.args.out.now.items c.if-whole-lt0.out.items c.push_digits.new.out.items negative (grind (arith, ints, to_z-of_z)) (grind (arith, common_steps)) pushed
      | else-whole-lt0 w ↦
          let positive : int_lt c.args.whole (pos 0) ≡ false = grind (arith, ints, to_z-of_z) in
          if-pushed_unsigned c.push_digits.result c.args.base c.unsigned_abs.result c.args.whole c.args.out.now.items c.if-whole-lt0.out.items c.push_digits.new.out.items positive (grind (arith, ints, to_z-of_z)) (grind (arith, common_steps)) pushed
    ]
