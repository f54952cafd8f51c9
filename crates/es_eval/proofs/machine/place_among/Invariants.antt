use Rattle.std.proofs.Common.{◌≡◌, drop}
use Rattle.std.specs.List.{position, position_from}
use Rattle.bml_bytes.specs.Words.{is_same}
use Rattle.es_eval.proofs.machine.place_among.Given as goal

abbrev pub invariant-loop-local : goal.invariant-loop-local
invariant-loop-local l = record {
  counted : l.place ≡ l.local-index;
  ahead : position (is_same l.name) l.locals ≡ position_from (is_same l.name) l.local-index (drop l.local-index l.locals);
}
