use Rattle.std.proofs.Common.{◌≡◌, true, sym, subst, List, ℕ}
use Rattle.std.specs.Prelude.{All}
use Rattle.es_values.specs.declared.values.Value.{Value}
use Rattle.es_values.specs.Values.{is_plain}
use Rattle.es_values.proofs.SoundLemmas.{inserted}
use Rattle.es_values.proofs.row_host.RowHostHost.set.Goals as goal

pub invariant_of-self-2 : goal.invariant_of-self-2
invariant_of-self-2 c =
    subst (λ (entries : List (List ℕ × Value)). All (λ p. is_plain p.1 ≡ true) entries) (sym c.in_ok-put.ensures.ok)
    (inserted (λ v. is_plain v ≡ true) c.self.inside.values c.in_ok-name.name c.in_ok-value.value c.self.invariant c.in_ok-value.ensures.plain)
