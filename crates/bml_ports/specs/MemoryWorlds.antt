-- What contracts see of a world in memory, of this project's own.
use Rattle.std.specs.Prelude.{◌≡◌, ℕ, ◌+◌, ◌-◌, min, List, length, drop, find, Bool, false, nat_eq, if◌then◌else◌, Option, None, Some, IsSome, IsNone, IsSomeAnd, option_map, Result, is_err, ◌⊎◌}
use Rattle.std.specs.Result.{result_unwrap_or}
use Rattle.std.specs.Cmp.Lexicographic.{pointwise}
use Rattle.bml_ports.specs.declared.memory_calls.Calls.{Calls}
use Rattle.bml_ports.specs.declared.memory_worlds.MemoryFile.{MemoryFile}
use Rattle.bml_ports.specs.declared.outside.Port.{Port}
use Rattle.bml_ports.specs.declared.outside.Port.TheVariants.{Stream, Notes}
use Rattle.bml_ports.specs.MemoryCalls.{no_calls, after_call, counter_of, FailsNext}
use Rattle.bml_ports.specs.MemorySources.{SourceState}
use Rattle.bml_ports.specs.Worlds.{PortState, WorldState, gave_bytes}

-- a port: the name that was asked for, whether it may be read, its reads so far, the source that it was opened on, and how many of the source's bytes were taken
pub record MemoryPortState : Type 0 where
  pub asked : Option (List ℕ)
  pub readable : Bool
  pub calls : Calls
  pub source : Option SourceState
  pub taken : ℕ

-- the files in the order in which they were added, the numbers of the openings that are to fail, the openings so far, and the ports
pub record MemoryWorldState : Type 0 where
  pub files : List MemoryFile
  pub failing : List ℕ
  pub calls : Calls
  pub stream : MemoryPortState
  pub notes : MemoryPortState

abbrev pub unopened : MemoryPortState
unopened = record { asked = None; readable = false; calls = no_calls; source = None; taken = 0 }

abbrev pub memory_port_of : MemoryWorldState → Port → MemoryPortState
memory_port_of world Stream = world.stream
memory_port_of world Notes = world.notes

-- the source of the first file that was added under this name
abbrev pub source_named : List MemoryFile → List ℕ → Option SourceState
source_named files name = option_map (λ file. file.source) (find (λ file. pointwise nat_eq file.name name) files)

-- the file of this name was opened at this port
abbrev pub HasOpened : MemoryPortState → List ℕ → Type 0
HasOpened port name = IsSome port.source × (port.asked ≡ Some name)

-- the file of this name was opened at one of the ports
abbrev pub WasOpened : MemoryWorldState → List ℕ → Type 0
WasOpened world name = HasOpened world.stream name ⊎ HasOpened world.notes name

-- the next opening, of this name, fails: its number is listed, or the file was opened before, or no file has the name
abbrev pub OpeningFails : MemoryWorldState → List ℕ → Type 0
OpeningFails world name = FailsNext world.failing world.calls ⊎ (WasOpened world name ⊎ IsNone (source_named world.files name))

-- a port after a name was asked for, and opened on the name's source where the opening didn't fail
abbrev pub after_opening : MemoryPortState → List ℕ → Option SourceState → Bool → MemoryPortState
after_opening port name source opened = record {
  asked = Some name;
  readable = opened;
  calls = port.calls;
  source = (if opened then source else port.source);
  taken = (if opened then 0 else port.taken);
}

-- the next read of a port fails: its number is listed for the source
abbrev pub ReadFails : MemoryPortState → Type 0
ReadFails port = IsSomeAnd port.source (λ source. FailsNext source.failing port.calls)

-- a read gives as much as the source's piece, the room and the bytes left allow
abbrev pub GivesPiece : MemoryPortState → ℕ → ℕ → Type 0
GivesPiece port room given = IsSomeAnd port.source (λ source. given ≡ min (min source.piece room) (length source.bytes - port.taken))

-- a port after a read
abbrev pub after_reading : {E : Type 0} → MemoryPortState → Result ℕ E → MemoryPortState
after_reading port result = record port {
  readable = gave_bytes result;
  calls = after_call port.calls (is_err result);
  taken = port.taken + result_unwrap_or result 0;
}

-- the bytes that a port has left
abbrev pub left_at : MemoryPortState → Option (List ℕ)
left_at port = option_map (λ source. drop port.taken source.bytes) port.source

abbrev pub told_by_port : MemoryPortState → PortState
told_by_port port = record { asked = port.asked; readable = port.readable; reads = counter_of port.calls; left = left_at port }

abbrev pub told_by_world : MemoryWorldState → WorldState
told_by_world world = record {
  files = Some (λ name. option_map (λ source. source.bytes) (source_named world.files name));
  openings = counter_of world.calls;
  stream = told_by_port world.stream;
  notes = told_by_port world.notes;
}
