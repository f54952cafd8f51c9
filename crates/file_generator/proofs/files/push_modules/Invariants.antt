use Rattle.std.proofs.Common.{◌≡◌, ◌++◌, ◌∷◌, map}
use Rattle.std.specs.List.{range_with_len}
use Rattle.file_generator.specs.GeneratedFiles.{drawn_module, menu_module, module_seen}
use Rattle.file_generator.specs.Modules.{first_word}
use Rattle.file_generator.specs.Words.{after, seeded}
use Rattle.file_generator.proofs.files.push_modules.Given as goal

abbrev pub invariant-loop-index : goal.invariant-loop-index
invariant-loop-index l = record {
  modules : map module_seen l.out.items ≡ map module_seen l.fn.out.items ++ menu_module ∷ map (drawn_module l.seed) (range_with_len 0 l.index);
  words : l.words ≡ after (first_word l.seed l.index) (seeded l.seed);
}
