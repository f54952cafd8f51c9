use Rattle.std.proofs.Common.{◌∙◌}
use Rattle.module_store.proofs.staging.take_section.Goals as goal

pub returns-in-Ok-clause-parts : goal.returns-in-Ok-clause-parts
returns-in-Ok-clause-parts c = λ messages stands.
    c.in-Ok.ensures.kept messages c.args.section.now (c.in_ok-changes.ensures.stands messages stands) (c.as_slice.ensures.value ∙ c.in_ok-changes.ensures.changes messages stands)

pub returns-in-Err-clause-before : goal.returns-in-Err-clause-before
returns-in-Err-clause-before c = λ messages stands.
    let then = c.in_ok-changes.ensures.stands messages stands in
    let whole = c.in-Err.ensures.whole messages c.args.section.now then (c.as_slice.ensures.value ∙ c.in_ok-changes.ensures.changes messages stands) in
    c.take_back.ensures.before messages whole.0 whole.1 whole.2 then
