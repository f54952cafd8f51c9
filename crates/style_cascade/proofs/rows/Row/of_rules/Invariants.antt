use Rattle.std.proofs.Common.{ℕ, ◌<◌}
use Rattle.style_cascade.specs.devices.Indexing.{Covers, IsSound, question}
use Rattle.style_cascade.specs.devices.Rows.{found_in}
use Rattle.style_cascade.specs.declared.states.State.{State}
use Rattle.style_reader.specs.declared.properties.Property.{Property}
use Rattle.style_cascade.proofs.rows.Row.of_rules.Given as goal

abbrev pub invariant-rules : goal.invariant-rules
invariant-rules l = record {
  sound : (state : State) (property : Property) → IsSound (question l.rules l.subject state property) (found_in l.row state property);
  covers : (k : ℕ) (state : State) (property : Property) → k < l.number → Covers (question l.rules l.subject state property) (found_in l.row state property) k;
}
