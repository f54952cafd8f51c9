use Rattle.std.proofs.Common.{◌≡◌, length}
use Rattle.std.specs.Prelude.{◌||◌, codes, nat_le}
use Rattle.std.specs.List.{list_all, list_any}
use Rattle.style_reader.specs.Characters.{is_word}
use Rattle.style_reader.specs.Values.{is_key_word, words_of}
use Rattle.style_reader.proofs.keys.key_groups.Given as goal

-- the words that were read are words of groups, and name these
abbrev pub invariant-words : goal.invariant-words
invariant-words l = record {
  all : list_all is_key_word (words_of l.text) ≡ list_all is_key_word (words_of l.rest);
  one : nat_le 1 (length (words_of l.text)) ≡ (l.some || nat_le 1 (length (words_of l.rest)));
  first : list_any (is_word (codes "basic")) (words_of l.text)
      ≡ (l.basic || list_any (is_word (codes "basic")) (words_of l.rest));
  second : list_any (is_word (codes "data-button")) (words_of l.text)
      ≡ (l.data_button || list_any (is_word (codes "data-button")) (words_of l.rest));
  third : list_any (is_word (codes "numeric-tuning")) (words_of l.text)
      ≡ (l.numeric_tuning || list_any (is_word (codes "numeric-tuning")) (words_of l.rest));
}

abbrev pub decreases-words : goal.decreases-words
decreases-words l = length l.rest
