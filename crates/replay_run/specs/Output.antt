-- What a run has written when it ends. This project's own.
use Rattle.std.specs.Prelude.{ℕ, List}
use Rattle.std.specs.List.{concat}
use Rattle.std.specs.Io.KnownBytes.{Appends}
use Rattle.receiver_core.specs.Outputs.{Piece, texts_of}
use Rattle.replay_run.specs.Outside.{Outside}

-- the bytes of pieces
abbrev pub bytes_of : List Piece → List ℕ
bytes_of pieces = concat (texts_of pieces)

-- between the two these bytes were written, where the sink tells them
abbrev pub Writes : Outside → Outside → List ℕ → Type 0
Writes before behind bytes = Appends before.sink.written behind.sink.written bytes
