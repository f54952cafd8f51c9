use Rattle.std.proofs.Common.{◌≡◌, ◌≤◌}
use Rattle.es_builtins.specs.Fronts.{IsWindow}
use Rattle.es_builtins.specs.Texts.{first_place}
use Rattle.es_builtins.proofs.separators.separator_place.Given as goal

abbrev pub invariant-loop-place : goal.invariant-loop-place
invariant-loop-place l = record {
  window : IsWindow l.wanted l.text l.window.start l.window.end;
  behind : l.window.start ≤ l.place;
  misses : first_place l.wanted l.text l.place ≡ first_place l.wanted l.text 0;
}
