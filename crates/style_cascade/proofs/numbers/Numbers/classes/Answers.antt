use Rattle.std.proofs.Common.{refl}
use Rattle.style_cascade.proofs.KeyLemmas.{listed-more, listed-start}
use Rattle.style_cascade.proofs.numbers.Numbers.classes.Goals as goal

pub classes-init : goal.classes-init
classes-init c = listed-start c.args.self.now.names.keys c.args.classes.now c.args.classes.now c.new-numbers.result.keys refl c.new-numbers.ensures.empty

pub classes-preserved : goal.classes-preserved
classes-preserved c = listed-more c.args.self.now.names.keys c.args.classes.now c.classes.rest.now c.in-Some.more.now c.in-Some.first.now c.classes.numbers.keys c.count.new.numbers.keys (c.in-Some.ensures {u = tt}).cases.0 (c.in_ok-count.ensures {u = tt}) c.classes.invariant
