use Rattle.std.proofs.Common.{◌≡◌, true, sym, subst}
use Rattle.std.proofs.lemmas.Result.{IfOk-weaker}
use Rattle.std.proofs.Common.{refl}
use Rattle.es_values.specs.declared.values.Value.{Value}
use Rattle.es_values.specs.Values.{is_plain}
use Rattle.es_values.specs.Heaps.{value_in}
use Rattle.es_values.proofs.SoundLemmas.{value-in}
use Rattle.es_values.proofs.row_host.RowHostHost.get.Goals as goal

pub returns-clause-plain : goal.returns-clause-plain
returns-clause-plain c =
    let entries = c.self.inside.values in
    let plain = value-in (λ v. is_plain v ≡ true) entries c.args.name.now refl c.self.invariant in
    IfOk-weaker c.property_value.result (λ v. v ≡ value_in entries c.args.name.now) (λ v. is_plain v ≡ true) (λ v e. subst (λ (x : Value). is_plain x ≡ true) (sym e) plain) c.property_value.ensures
