use Rattle.std.proofs.Common.{◌≡◌, ◌<◌, ℕ, length, false, true, sym, ap, ◌∙◌, rules}
use Rattle.std.specs.Prelude.{is_some}
use Rattle.table_fields.specs.Borrowed.{descriptor_of}
use Rattle.table_fields.specs.Descriptors.{descriptors_in}
use Rattle.table_fields.proofs.DescriptorLemmas.{descriptors_none, descriptor_shorter, some_behind, some_at_end, unwrapped, never}
use Rattle.table_fields.proofs.descriptors.Descriptors.of_bytes.Goals as goal

pub returns-in_err-_descriptor : goal.returns-in_err-_descriptor
returns-in_err-_descriptor c =
    let none = descriptors_none c.descriptors.rest.now (search rules) (sym c.in_err-_descriptor.ensures) in
    let no : is_some (descriptors_in c.args.bytes.now) ≡ false = c.descriptors.invariant ∙ ap is_some none in
    c.from_residual.ensures ∙ never (descriptors_in c.args.bytes.now) no

pub descriptors-smaller : goal.descriptors-smaller
descriptors-smaller c =
    descriptor_shorter c.law_of_fields.ensures c.descriptors.rest.now (descriptor_of c.in_ok-_descriptor._descriptor, c.in_ok-_descriptor.behind.now) (sym c.in_ok-_descriptor.ensures)

pub descriptors-preserved : goal.descriptors-preserved
descriptors-preserved c =
    c.descriptors.invariant
    ∙ some_behind c.law_of_fields.ensures c.descriptors.rest.now (descriptor_of c.in_ok-_descriptor._descriptor) c.in_ok-_descriptor.behind.now (sym c.in_ok-_descriptor.ensures)

pub invariant_of-result : goal.invariant_of-result
invariant_of-result c = c.descriptors.invariant ∙ some_at_end c.descriptors.rest.now (search rules)

pub returns : goal.returns
returns c = unwrapped (descriptors_in c.args.bytes.now) (invariant_of-result c)
