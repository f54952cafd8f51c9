use Rattle.std.proofs.Common.{◌≡◌, ◌∙◌, ap, sym, subst, length, true, List, ℕ}
use Rattle.std.specs.Prelude.{nat_lt}
use Rattle.bml_reader.specs.Bytes.{front}
use Rattle.bml_reader.specs.References.{number_behind, closed_by}
use Rattle.bml_reader.specs.devices.Views.{in_class}
use Rattle.bml_reader.proofs.ReferenceLemmas.{number_at-found, some-left, closed_by-min}
use Rattle.bml_reader.proofs.references.number.Goals as goal

pub returns : goal.returns
returns c =
    let test = in_class c.args.class in
    let l = c.args.bytes.now in
    let base = c.args.base in
    let some : nat_lt 0 (length (front test l)) ≡ true = subst (λ (z : List ℕ). nat_lt 0 (length z) ≡ true) c.split_run.ensures.run (some-left c.split_run.result.0.now (c.if-is_empty.ensures {u = tt})) in
    c.outside_element.ensures
    ∙ (ap (λ n. closed_by n c.split_run.result.1.now) c.number_of.ensures
    ∙ (closed_by-min (number_behind base 0 c.split_run.result.0.now) c.split_run.result.1.now
    ∙ (ap (λ z. closed_by (number_behind base 0 z) c.split_run.result.1.now) c.split_run.ensures.run
    ∙ (ap (closed_by (number_behind base 0 (front test l))) c.split_run.ensures.rest
    ∙ sym (number_at-found test base l some)))))
