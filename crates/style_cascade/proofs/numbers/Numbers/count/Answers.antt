use Rattle.std.proofs.Common.{sym}
use Rattle.style_cascade.proofs.KeyLemmas.{counted-none, counted-one}
use Rattle.style_cascade.proofs.numbers.Numbers.count.Goals as goal

pub returns-in_ok-insert-in-Some : goal.returns-in_ok-insert-in-Some
returns-in_ok-insert-in-Some c = counted-one c.args.self.now.names.keys c.args.class.now c.in-Some.number c.args.numbers.now.keys c.insert.new.self.keys (sym (c.in-Some.ensures {u = tt}).index) (c.in_ok-insert-in-Some.ensures {u = tt}).updates.0

pub returns-in-None : goal.returns-in-None
returns-in-None c = counted-none c.args.self.now.names.keys c.args.class.now c.args.numbers.now.keys (sym (c.in-None.ensures {u = tt}).index)
