use Rattle.std.proofs.Common.{◌∙◌, option_copied, sym, ap, subst}
use Rattle.module_store.specs.Entities.{ArePartsOf}
use Rattle.module_store.proofs.ResourceLaws.{entity_without_parts, entity_with_parts, one_resource}
use Rattle.module_store.proofs.entities.named.Goals as goal

pub returns-in_err-parts-clause-named : goal.returns-in_err-parts-clause-named
returns-in_err-parts-clause-named c = λ kept.
    let holds = c.if-is_entity.true in
    ap (λ o. option_copied o) c.from_residual.ensures
    ∙ sym (entity_without_parts c.args.is_entity c.args.bytes.now c.args.name.now holds (subst (λ o. ArePartsOf c.args.bytes.now (option_copied o)) c.in_err-parts.was (kept holds)))

pub returns-in_ok-parts-clause-named : goal.returns-in_ok-parts-clause-named
returns-in_ok-parts-clause-named c = λ kept.
    let holds = c.if-is_entity.true in
    let parts = subst (λ o. ArePartsOf c.args.bytes.now (option_copied o)) c.in_ok-parts.was (kept holds) in
    c.part_named.ensures.named parts.inside ∙ sym (entity_with_parts c.args.is_entity c.args.bytes.now c.args.name.now c.in_ok-parts.field-0.now holds parts)

pub returns-else-is_entity-clause-named : goal.returns-else-is_entity-clause-named
returns-else-is_entity-clause-named c = λ kept.
    c.whole_named.ensures.named ∙ sym (one_resource c.args.is_entity c.args.bytes.now c.args.name.now c.if-is_entity.false)
