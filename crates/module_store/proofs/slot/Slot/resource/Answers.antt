use Rattle.std.proofs.Common.{◌≡◌, ◌∙◌, ◌<◌, ◌^◌, true, option_copied, length, ap, sym, subst, arith}
use Rattle.std.specs.Prelude.{is_some}
use Rattle.module_store.specs.Resources.{HasAtMost, holds_entity, named_as}
use Rattle.module_store.specs.Entities.{ArePartsOf}
use Rattle.module_store.proofs.DeliveryNumber.{two_bytes}
use Rattle.module_store.proofs.ResourceLaws.{look_held, parts_held, few_found}
use Rattle.module_store.proofs.slot.Slot.resource.Goals as goal

pub returns-clause-look : goal.returns-clause-look
returns-clause-look c =
    let was = c.self.invariant in
    let bytes = c.in-Some-bytes_of.bytes.now in
    let name = c.args.name.now in
    let low : c.args.module < 2 ^ 16 = omega arith in
    let kept = parts_held c.self.inside.entities was.messages c.args.module c.in-Some.entry.now bytes (option_copied c.of-parts.result) was.parts (two_bytes c.args.module low)
    (c.in-Some.ensures was.messages was.stands) (c.in-Some-bytes_of.ensures was.messages was.stands) c.of-parts.ensures in
    let is = c.holds_entity-is_entity.ensures ∙ ap (λ i. holds_entity i) c.as_slice.ensures in
    let found = c.named.ensures.named (subst (λ b. b ≡ true → ArePartsOf bytes (option_copied c.of-parts.result)) (sym is) kept) ∙ ap (λ b. named_as b bytes name) is in
    rw (← c.self.view_is) (λ messages stands.
    c.found_or_missing.ensures
    ∙ look_held messages c.args.module name c.in-Some.entry.now bytes (option_copied c.named.result) (c.in-Some-bytes_of.ensures messages stands) found (c.in-Some.ensures messages stands)
    (c.if-is_some.ensures ∙ ap (λ o. is_some o) (c.skip_of.ensures messages stands)))

pub returns-clause-bound : goal.returns-clause-bound
returns-clause-bound c =
    let was = c.self.invariant in
    let most = c.law_of_held_sizes.ensures.limit was.messages c.args.module c.in-Some-bytes_of.bytes.now (sym (c.in-Some-bytes_of.ensures was.messages was.stands)) in
    subst (λ r. HasAtMost 1048576 r) (sym c.found_or_missing.ensures) (few_found c.named.result (length c.in-Some-bytes_of.bytes.now) 1048576 most c.named.ensures.within)
