use Rattle.std.proofs.Common.{◌≡◌, List, drop}
use Rattle.std.specs.Prelude.{All}
use Rattle.es_values.specs.Objects.{ObjectState}
use Rattle.es_eval.specs.devices.Declaring.{with_new}
use Rattle.es_eval.specs.Worlds.{IsNamedLive}
use Rattle.es_eval.proofs.scripts.name_variables.Given as goal

abbrev pub invariant-loop-name : goal.invariant-loop-name
invariant-loop-name l = record {
  globals : with_new (drop l.name-index l.names) l.globals ≡ with_new l.names l.initial.globals;
  live : (heap : List ObjectState) → All (IsNamedLive heap) l.initial.globals → All (IsNamedLive heap) l.globals;
}
