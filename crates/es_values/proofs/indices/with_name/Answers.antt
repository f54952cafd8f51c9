use Rattle.std.proofs.Common.{ℕ, ◌∙◌, ◌++◌, subst, sym}
use Rattle.std.specs.Prelude.{Option, option_to_list}
use Rattle.es_values.specs.devices.Indices.{AreKept, indices_of}
use Rattle.es_values.proofs.IndexLemmas.{index-absent}
use Rattle.es_values.proofs.indices.with_name.Goals as goal

pub returns-in-Some : goal.returns-in-Some
returns-in-Some c properties are absent =
    let named = sym c.index_of_name.ensures.index ∙ c.in-Some.is in
    subst (λ (o : Option ℕ). AreKept c.with_index.result (indices_of properties ++ option_to_list o)) (sym named)
    (c.with_index.ensures (indices_of properties) are (index-absent properties c.args.name.now c.in-Some.index named absent))
