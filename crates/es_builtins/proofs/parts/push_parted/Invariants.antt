use Rattle.std.proofs.Common.{◌≡◌, ◌≤◌, ◌++◌, length, map}
use Rattle.es_values.specs.declared.values.Value.TheVariants.{Str}
use Rattle.es_builtins.specs.Texts.{parts_within}
use Rattle.es_builtins.proofs.parts.push_parted.Given as goal

abbrev pub invariant-places : goal.invariant-places
invariant-places l = record {
  parted : l.parts.items ++ map (λ part. Str part) (parts_within (length l.rest) l.separator l.rest)
      ≡ l.initial.parts.items ++ map (λ part. Str part) (parts_within (length l.text) l.separator l.text);
  shorter : length l.rest ≤ length l.text;
}

abbrev pub decreases-places : goal.decreases-places
decreases-places l = length l.rest
