use Rattle.std.proofs.Common.{◌≡◌, ◌+◌, List, drop}
use Rattle.std.specs.Prelude.{All, map}
use Rattle.es_reader.specs.declared.programs.FunctionDecl.{FunctionDecl}
use Rattle.es_values.specs.Objects.{ObjectState}
use Rattle.es_eval.specs.devices.Declaring.{with_numbered}
use Rattle.es_eval.specs.Worlds.{IsNamedLive}
use Rattle.es_eval.proofs.scripts.name_functions.Given as goal

abbrev pub invariant-loop-function : goal.invariant-loop-function
invariant-loop-function l = record {
  number : l.number ≡ l.first + l.function-index;
  globals : with_numbered l.number (map (λ (f : FunctionDecl). f.name) (drop l.function-index l.functions)) l.globals
      ≡ with_numbered l.first (map (λ (f : FunctionDecl). f.name) l.functions) l.initial.globals;
  live : (heap : List ObjectState) → All (IsNamedLive heap) l.initial.globals → All (IsNamedLive heap) l.globals;
}
