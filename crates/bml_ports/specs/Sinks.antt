-- What a sink tells, of this project's own.
use Rattle.std.specs.Prelude.{ℕ, List, Option}
use Rattle.bml_ports.specs.Counters.{Counter}

-- the writes, and the bytes written so far where the sink tells them
pub record SinkState : Type 0 where
  pub writes : Counter
  pub written : Option (List ℕ)
