use Rattle.std.proofs.Common.{◌≡◌, rules, sym, List, ℕ, Option, Some, None, Bor}
use Rattle.std.specs.Prelude.{All, IfSome}
use Rattle.std.specs.Map.{lookup}
use Rattle.std.specs.Option.{option_copied}
use Rattle.bml_bytes.specs.Words.{is_same}
use Rattle.es_values.specs.declared.values.Value.{Value}
use Rattle.es_values.specs.Heaps.{IsLive}
use Rattle.es_values.specs.Objects.{ObjectState}
use Rattle.es_eval.specs.Worlds.{IsNamedLive}
use Rattle.es_eval.proofs.NameLemmas.{live_global}
use Rattle.es_eval.proofs.globals.Globals.get.Goals as goal

live_got : (heap : List ObjectState) (names : List (List ℕ × Value)) (name : List ℕ)
    (found : Option (Bor Value)) → All (IsNamedLive heap) names
    → option_copied found ≡ lookup (is_same name) names
    → IfSome found (λ value. IsLive heap value.now)
live_got heap names name None live is = tt
live_got heap names name (Some value) live is =
    live_global heap names name value.now live (sym is)

pub returns-clause-live : goal.returns-clause-live
returns-clause-live c = λ heap live.
    let is : option_copied c.get.result ≡ lookup (is_same c.args.name.now) c.args.self.now = search rules in
    live_got heap c.args.self.now c.args.name.now c.get.result live is
