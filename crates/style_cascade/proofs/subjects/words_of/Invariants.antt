use Rattle.std.proofs.Common.{◌≡◌, ◌++◌, length}
use Rattle.style_reader.specs.Values.{words_of}
use Rattle.style_cascade.proofs.subjects.words_of.Given as goal

abbrev pub invariant-words : goal.invariant-words
invariant-words l = l.words.items ++ words_of l.rest ≡ words_of l.fn.text

abbrev pub decreases-words : goal.decreases-words
decreases-words l = length l.rest
