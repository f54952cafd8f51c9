use Rattle.std.proofs.Common.{◌≡◌}
use Rattle.es_builtins.specs.Texts.{first_place}
use Rattle.es_builtins.proofs.texts.first_place.Given as goal

abbrev pub invariant-loop-place : goal.invariant-loop-place
invariant-loop-place l = first_place l.wanted l.text l.place ≡ first_place l.wanted l.text l.start
