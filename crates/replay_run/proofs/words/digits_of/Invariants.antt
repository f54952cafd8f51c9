use Rattle.std.proofs.Common.{◌≡◌, take}
use Rattle.replay_run.proofs.words.digits_of.Given as goal

abbrev pub invariant-loop-code : goal.invariant-loop-code
invariant-loop-code l = l.digits.items ≡ take l.code-index l.codes
