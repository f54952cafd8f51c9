use Rattle.std.proofs.Common.{◌≡◌, ◌++◌, ◌∷◌, [], take, map}
use Rattle.es_values.specs.declared.values.Value.TheVariants.{Str}
use Rattle.es_builtins.proofs.parts.push_characters.Given as goal

abbrev pub invariant-loop-code : goal.invariant-loop-code
invariant-loop-code l = l.parts.items ≡ l.initial.parts.items ++ map (λ part. Str part) (map (λ code. code ∷ []) (take l.code-index l.text))
