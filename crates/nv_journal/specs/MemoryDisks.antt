-- What contracts see of a disk in memory, of this project's own.
use Rattle.std.specs.Prelude.{ℕ, ◌≤◌, List, [], ◌∷◌, ◌++◌, Some, ◌⊎◌}
use Rattle.bml_ports.specs.declared.memory_calls.Calls.{Calls}
use Rattle.nv_journal.specs.Disks.{Images, DiskContent, DiskState, only}
use Rattle.bml_ports.specs.MemoryCalls.{counter_of, FailsNext}

-- its content, the numbers of the calls that are to fail, the calls so far, and how many it has
-- memory for
pub record MemoryDiskState : Type 0 where
  pub content : DiskContent
  pub failing : List ℕ
  pub calls : Calls
  pub most : ℕ

abbrev pub told_by_disk : MemoryDiskState → DiskState
told_by_disk disk = record { faults = counter_of disk.calls; content = Some disk.content }

-- a disk of these bytes, none of which a stop may lose
abbrev pub new_content : List ℕ → DiskContent
new_content bytes = record { reads = bytes; images = only bytes; past = [] }

-- other images, with those before in the past
abbrev pub moved : DiskContent → Images → DiskContent
moved disk images = record {
  reads = disk.reads;
  images = images;
  past = disk.past ++ disk.images ∷ [];
}

abbrev pub with_reads : DiskContent → List ℕ → DiskContent
with_reads disk bytes = record { reads = bytes; images = disk.images; past = disk.past }

-- the next call fails: its number is listed or past those that there is memory for
abbrev pub IsRefused : MemoryDiskState → Type 0
IsRefused disk = FailsNext disk.failing disk.calls ⊎ (disk.most ≤ disk.calls.made)
