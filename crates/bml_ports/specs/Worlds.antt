-- What a world tells, of this project's own.
use Rattle.std.specs.Prelude.{◌≡◌, ℕ, List, [], Bool, false, nat_lt, Option, IsSome, IfSome, Result, Ok, Err, IfOk, MatchResult, ◌↔◌}
use Rattle.bml_ports.specs.declared.outside.Port.{Port}
use Rattle.bml_ports.specs.declared.outside.Port.TheVariants.{Stream, Notes}
use Rattle.bml_ports.specs.Counters.{Counter}

-- a port: the name that was asked for, whether it may be read, its reads, and the bytes that it has left where the world tells them
pub record PortState : Type 0 where
  pub asked : Option (List ℕ)
  pub readable : Bool
  pub reads : Counter
  pub left : Option (List ℕ)

-- a world: the bytes of each file by its name where it tells them, the openings, and its two ports
pub record WorldState : Type 0 where
  pub files : Option (List ℕ → Option (List ℕ))
  pub openings : Counter
  pub stream : PortState
  pub notes : PortState

abbrev pub port_of : WorldState → Port → PortState
port_of world Stream = world.stream
port_of world Notes = world.notes

abbrev pub other_port : Port → Port
other_port Stream = Notes
other_port Notes = Stream

-- an opened port starts with the bytes that the world has under the name; a failed opening leaves the port's bytes
abbrev pub Opens : {A E : Type 0} → Option (List ℕ → Option (List ℕ)) → List ℕ → Option (List ℕ) → Option (List ℕ) → Result A E → Type 0
Opens files name old new result = MatchResult result (λ _. IfSome files (λ bytes_of. IsSome (bytes_of name) × (new ≡ bytes_of name))) (λ _. new ≡ old)

-- a read gives 0 bytes exactly where none are left
abbrev pub EndsAtLast : {E : Type 0} → Option (List ℕ) → Result ℕ E → Type 0
EndsAtLast left result = IfSome left (λ bytes. IfOk result (λ n. (n ≡ 0) ↔ (bytes ≡ [])))

-- whether a read gave at least one byte
abbrev pub gave_bytes : {E : Type 0} → Result ℕ E → Bool
gave_bytes (Ok n) = nat_lt 0 n
gave_bytes (Err e) = false
