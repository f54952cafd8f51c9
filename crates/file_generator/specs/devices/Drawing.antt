-- A device of the proofs: what is drawn from a generator that stands anywhere. (This project's own.)
use Rattle.std.specs.Prelude.{◌≡◌, ℕ, ◌+◌, ◌%◌, List, map}
use Rattle.std.specs.List.{range_with_len}
use Rattle.rand_pcg.specs.Lcg.{Lcg}
use Rattle.file_generator.specs.Modules.{size_of}
use Rattle.file_generator.specs.Words.{after, next_word}

-- the low bytes of the next words
abbrev pub bytes_behind : ℕ → Lcg → List ℕ
bytes_behind count generator = map (λ number. next_word (after number generator) % 256) (range_with_len 0 count)

-- a module was drawn: its size, and then its bytes
pub record DrawsModule (old : Lcg) (bytes : List ℕ) (new : Lcg) : Type 0 where
  pub bytes_are : bytes ≡ bytes_behind (size_of (next_word old)) (after 1 old)
  pub words_are : new ≡ after (1 + size_of (next_word old)) old
