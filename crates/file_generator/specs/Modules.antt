-- The modules that are drawn from the words of a seed (this project's own): of each first its size, and then its bytes.
use Rattle.std.specs.Prelude.{ℕ, zero, suc, ◌+◌, ◌%◌, List, map}
use Rattle.std.specs.List.{range_with_len}
use Rattle.file_generator.specs.Words.{word}

-- the size that a word means
abbrev pub size_of : ℕ → ℕ
size_of word = 1000 + word % 64000

-- the number of the word that the size of a module is drawn from: it comes after all words of the modules before it
unfoldable pub first_word : ℕ → ℕ → ℕ
first_word seed zero = 0
first_word seed (suc index) = first_word seed index + 1 + size_of (word seed (first_word seed index))

-- its bytes: the low byte of each word after that one
abbrev pub drawn_bytes : ℕ → ℕ → List ℕ
drawn_bytes seed index =
    map (λ number. word seed number % 256) (range_with_len (first_word seed index + 1) (size_of (word seed (first_word seed index))))
