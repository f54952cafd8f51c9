use Rattle.bml_bytes.proofs.Fronts.{begins-with_front}
use Rattle.bml_bytes.proofs.texts.Text.push_bytes.Goals as goal

pub returns-in_err-push_code-clause-grows : goal.returns-in_err-push_code-clause-grows
returns-in_err-push_code-clause-grows c =
    begins-with_front c.args.out.now.items _ _ _ c.loop-code.invariant c.in_err-push_code.ensures.grows
