-- What contracts see of a port of a world in memory, whose file goes by its place. (This project's own.)
use Rattle.std.specs.Prelude.{◌≡◌, ℕ, ◌<◌, ◌≤◌, List, Option, IsSome, IfSome, IsTrue, length, slice_get, option_map, option_and_then}
use Rattle.bml_ports.specs.declared.memory_worlds.MemoryFile.{MemoryFile}
use Rattle.bml_ports.specs.declared.memory_worlds.MemoryPort.{MemoryPort}
use Rattle.bml_ports.specs.MemorySources.{SourceState}
use Rattle.bml_ports.specs.MemoryWorlds.{MemoryPortState, source_named}

abbrev pub source_at : List MemoryFile → ℕ → Option SourceState
source_at files place = option_map (λ file. file.source) (slice_get files place)

abbrev pub port_seen : List MemoryFile → MemoryPort → MemoryPortState
port_seen files port = record {
  asked = port.asked;
  readable = port.readable;
  calls = port.calls;
  source = option_and_then (source_at files) port.place;
  taken = port.taken;
}

-- no more was taken than the file has
abbrev pub HasTaken : List MemoryFile → ℕ → ℕ → Type 0
HasTaken files place taken = IfSome (source_at files place) (λ source. taken ≤ length source.bytes)

-- the port's file is among the files, and a port that may be read has one
pub record IsPlaced (files : List MemoryFile) (port : MemoryPort) : Type 0 where
  pub place : IfSome port.place (λ place. place < length files)
  pub taken : IfSome port.place (λ place. HasTaken files place port.taken)
  pub readable : IsTrue port.readable → IsSome port.place

-- at this place stands the first file of this name
abbrev pub IsFound : List MemoryFile → List ℕ → ℕ → Type 0
IsFound files name place = (place < length files) × (source_at files place ≡ source_named files name) × IsSome (source_named files name)
