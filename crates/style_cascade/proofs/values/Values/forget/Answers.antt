use Rattle.style_cascade.proofs.ForgetLemmas.{forgets-states}
use Rattle.style_cascade.proofs.values.Values.forget.Goals as goal

pub returns : goal.returns
returns c = forgets-states c.args.self.now c.forget_in.new.self c.forget_in-2.new.self c.forget_in-3.new.self c.args.property c.args.first c.args.end c.forget_in.ensures c.forget_in-2.ensures c.forget_in-3.ensures
