-- What the files of the operating system tell, of this project's own: all but their content.
use Rattle.std.specs.Prelude.{ℕ, false, None}
use Rattle.bml_ports.specs.Counters.{Counter}
use Rattle.bml_ports.specs.Keepers.{KeeperState}
use Rattle.bml_ports.specs.Worlds.{PortState, WorldState}
use Rattle.nv_journal.specs.Disks.{DiskState}
use Rattle.bml_ports_std.specs.Calls.{no_faults}

-- a port at which no name was asked for
abbrev pub unopened : PortState
unopened = record { asked = None; readable = false; reads = no_faults; left = None }

-- the openings, and the two files
pub record FilesState : Type 0 where
  pub openings : Counter
  pub stream : PortState
  pub notes : PortState

-- all that is told of a port but the bytes that it has left
abbrev pub without_content : PortState → PortState
without_content port = record port { left = None }

abbrev pub told_by_files : FilesState → WorldState
told_by_files files = record { files = None; openings = files.openings; stream = without_content files.stream; notes = without_content files.notes }

-- the loads and stores so far, and how many of them failed
pub record AreaFileState : Type 0 where
  pub calls : ℕ
  pub faults : Counter

abbrev pub told_by_area_file : AreaFileState → KeeperState
told_by_area_file file = record { faults = file.faults; calls = file.calls; kept = None }

-- the calls on the journal's file: how many of them failed
abbrev pub told_by_disk_file : Counter → DiskState
told_by_disk_file faults = record { faults = faults; content = None }
