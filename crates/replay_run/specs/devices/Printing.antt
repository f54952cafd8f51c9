-- A device of the proofs: what a receiver prints for what comes to it, and how the bytes of a
-- stream come to a cutter.
use Rattle.std.specs.Prelude.{◌≡◌, ℕ, ◌+◌, ◌*◌, Bool, true, false, List, ◌++◌, length}
use Rattle.es_reader.specs.Readers.{Reader}
use Rattle.psi_tables.specs.declared.services.Selection.{Selection}
use Rattle.receiver_core.specs.Outputs.{Input, Piece}
use Rattle.receiver_core.specs.Receiving.{ReceiverState, StandsFor}
use Rattle.ts_packets.specs.Cutter.{CutterState}
use Rattle.replay_run.specs.Output.{bytes_of}

-- more inputs came, and the bytes of the pieces that were given more are appended
pub record Prints (more : List Input) (old new : ReceiverState) (before after : List ℕ)
    : Type 0 where
  pub pieces : List Piece
  pub printed : after ≡ before ++ bytes_of pieces
  pub stands : (read : Reader) (selection : Selection) (area : List ℕ) (inputs : List Input)
      (given : List Piece) → StandsFor read selection area old inputs given
      → StandsFor read selection area new (inputs ++ more) (given ++ pieces)

-- a number that each step of a cutter over bytes that are left makes smaller
abbrev pub ends_to_come : Bool → ℕ
ends_to_come true = 0
ends_to_come false = 1

abbrev pub work_left : CutterState → List ℕ → ℕ
work_left cutter left = 2 * length left + length cutter.held + ends_to_come cutter.ended
