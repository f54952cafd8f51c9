use Rattle.std.proofs.Common.{◌≡◌, ℕ, ◌<◌, length}
use Rattle.style_reader.specs.declared.properties.Property.{Property}
use Rattle.style_cascade.specs.devices.Chains.{given_value, value_in}
use Rattle.style_cascade.proofs.given.given_by.Given as goal

abbrev pub invariant-rules : goal.invariant-rules
invariant-rules l = record {
  long : length l.given.items ≡ l.number;
  values : (number : ℕ) (property : Property) → number < l.number → given_value l.given.items number property ≡ value_in l.rules number property;
}
