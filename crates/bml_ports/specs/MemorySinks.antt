-- What contracts see of a sink in memory, of this project's own.
use Rattle.std.specs.Prelude.{◌≡◌, ℕ, List, Some, ◌⊎◌}
use Rattle.bml_ports.specs.declared.memory_calls.Calls.{Calls}
use Rattle.bml_ports.specs.MemoryCalls.{counter_of, FailsNext}
use Rattle.bml_ports.specs.Sinks.{SinkState}

-- the bytes written, how many more there is room for, the numbers of the writes that are to fail, and the writes so far
pub record MemorySinkState : Type 0 where
  pub written : List ℕ
  pub room : ℕ
  pub failing : List ℕ
  pub calls : Calls

abbrev pub told_by_sink : MemorySinkState → SinkState
told_by_sink sink = record { writes = counter_of sink.calls; written = Some sink.written }

-- the next write fails: its number is listed, or no room is left
abbrev pub WriteFails : MemorySinkState → Type 0
WriteFails sink = FailsNext sink.failing sink.calls ⊎ (sink.room ≡ 0)
