use Rattle.std.proofs.Common.{◌≡◌, [], Some, None, sym, ◌∙◌}
use Rattle.table_fields.specs.Borrowed.{descriptor_of}
use Rattle.table_fields.specs.Descriptors.{descriptor_at}
use Rattle.table_fields.proofs.DescriptorLemmas.{some_behind, left_behind, none_left}
use Rattle.table_fields.proofs.descriptors.Descriptors.next.Goals as goal

pub returns-in_err-descriptor-clause-next : goal.returns-in_err-descriptor-clause-next
returns-in_err-descriptor-clause-next c =
    rw c.from_residual.ensures (sym c.self.view_is ∙ none_left c.self.inside.left.now (sym c.in_err-descriptor.ensures) c.self.invariant)

pub returns-in_err-descriptor-clause-none : goal.returns-in_err-descriptor-clause-none
returns-in_err-descriptor-clause-none c =
    rw c.from_residual.ensures (sym c.self.view_is ∙ none_left c.self.inside.left.now (sym c.in_err-descriptor.ensures) c.self.invariant)

pub invariant_of-self : goal.invariant_of-self
invariant_of-self c =
    sym (some_behind c.law_of_fields.ensures c.self.inside.left.now (descriptor_of c.in_ok-descriptor.descriptor) c.in_ok-descriptor.behind.now (sym c.in_ok-descriptor.ensures)) ∙ c.self.invariant

pub returns-clause-next : goal.returns-clause-next
returns-clause-next c =
    sym c.self.view_is
    ∙ left_behind c.law_of_fields.ensures c.self.inside.left.now (descriptor_of c.in_ok-descriptor.descriptor) c.in_ok-descriptor.behind.now (sym c.in_ok-descriptor.ensures) c.self.invariant
