use Rattle.std.proofs.Common.{◌∙◌, ◌≡◌, ap}
use Rattle.std.specs.Prelude.{unwrap_or}
use Rattle.std.proofs.lemmas.Result.{IfOk-weaker}
use Rattle.es_values.specs.declared.values.Value.TheVariants.{Undefined}
use Rattle.es_values.specs.Heaps.{value_in}
use Rattle.es_values.proofs.properties.property_value.Goals as goal

pub returns-in-Some : goal.returns-in-Some
returns-in-Some c = IfOk-weaker c.share.result (λ v. v ≡ c.in-Some.value.now) (λ v. v ≡ value_in c.args.properties.now c.args.name.now) (λ v e. e ∙ ap (λ o. unwrap_or o Undefined) c.in-Some.ensures) c.share.ensures
