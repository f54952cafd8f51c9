use Rattle.bml_bytes.proofs.Fronts.{begins-with_front}
use Rattle.bml_bytes.proofs.line_fields.Escapes.push.Goals as goal

pub returns-in_err-push_code-clause-grows : goal.returns-in_err-push_code-clause-grows
returns-in_err-push_code-clause-grows c =
    begins-with_front c.args.out.now.items _ _ _ c.codes.invariant c.in_err-push_code.ensures.grows
