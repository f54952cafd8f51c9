use Rattle.std.proofs.Common.{◌≡◌, ◌≤◌, length}
use Rattle.es_builtins.specs.Fronts.{AreFronts, IsWindow}
use Rattle.es_builtins.proofs.separators.fronts_of.Given as goal

abbrev pub invariant-loop-place : goal.invariant-loop-place
invariant-loop-place l = record {
  fronts : AreFronts l.wanted l.fronts.items;
  count : length l.fronts.items ≡ l.place;
  window : IsWindow l.wanted l.wanted l.window.start l.window.end;
  from : 1 ≤ l.window.start;
  behind : l.window.start ≤ l.place;
}
