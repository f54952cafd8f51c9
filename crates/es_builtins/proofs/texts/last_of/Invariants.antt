use Rattle.std.proofs.Common.{◌≡◌}
use Rattle.std.specs.Prelude.{filter}
use Rattle.std.specs.List.{range_with_len}
use Rattle.es_builtins.specs.Texts.{last, stands_at}
use Rattle.es_builtins.proofs.texts.last_of.Given as goal

abbrev pub invariant-loop-place : goal.invariant-loop-place
invariant-loop-place l = last (filter (stands_at l.wanted l.text) (range_with_len 0 l.place)) ≡ last (filter (stands_at l.wanted l.text) (range_with_len 0 l.count))
