-- What contracts see of a file in memory, of this project's own.
use Rattle.std.specs.Prelude.{ℕ, List}

-- the bytes of the file, the most that one read gives, and the numbers of the reads that are to fail
pub record SourceState : Type 0 where
  pub bytes : List ℕ
  pub piece : ℕ
  pub failing : List ℕ
