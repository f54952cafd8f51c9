-- What a journal tells as a keeper, and what its loads and stores do, of this project's own.
use Rattle.std.specs.Prelude.{◌≡◌, ℕ, ◌+◌, ◌-◌, ◌^◌, min, Bool, List, Option, None, Some, Result, OnOk, ◌⊎◌}
use Rattle.std.specs.Io.KnownBytes.{Keeps}
use Rattle.bml_ports.specs.Counters.{counted}
use Rattle.bml_ports.specs.Keepers.{KeeperState}
use Rattle.bml_ports.specs.declared.outside.Failed.{Failed}
use Rattle.nv_journal.specs.Disks.{Images, IsImage, DiskContent, DiskState, IsSettled}
use Rattle.nv_journal.specs.Histories.{Throughout}
use Rattle.nv_journal.specs.Slots.{stands}

-- its disk, the older keeper, the calls so far, and whether the last one failed
pub record JournalState : Type 0 where
  pub disk : DiskState
  pub older : KeeperState
  pub calls : ℕ
  pub last_failed : Bool

-- an area, or where there is none what the older keeper keeps
abbrev pub or_older : Option (List ℕ) → Option (List ℕ) → Option (List ℕ)
or_older None older = older
or_older (Some area) older = Some area

-- what is kept: what the bytes that reads give stand for
abbrev pub kept_of : Option DiskContent → Option (List ℕ) → Option (List ℕ)
kept_of None older = None
kept_of (Some disk) older = or_older (stands disk.reads) older

-- its count of faults is the sum of those of its disk and its older keeper, at most 2^64 - 1
abbrev pub told_by_journal : JournalState → KeeperState
told_by_journal journal = record {
  faults = record {
    faults = min (journal.disk.faults.faults + journal.older.faults.faults) (2 ^ 64 - 1);
    last_failed = journal.last_failed;
  };
  calls = journal.calls;
  kept = kept_of journal.disk.content journal.older.kept;
}

-- an image stands for what some image of these stands for
abbrev pub StandsAsSome : Images → List ℕ → Type 0
StandsAsSome images image = (start : List ℕ) × IsImage images start × (stands image ≡ stands start)

-- A load: at each moment each image stands for what some image at the start stood for. What reads
-- give stays, and after Ok it is the only image.
pub record LoadsNewest (result : Result ℕ Failed) (old new : DiskContent) : Type 0 where
  pub each : Throughout (StandsAsSome old.images) old new
  pub reads : new.reads ≡ old.reads
  pub done : OnOk result (IsSettled new)

-- A store: at each moment each image stands for what some image at the start stood for, or for the
-- area. What reads give stands for the area or for what it stood for. After Ok it is the only
-- image, and stands for the area.
pub record StoresNewest (area : List ℕ) (result : Result (Unit {0}) Failed) (old new : DiskContent)
    : Type 0 where
  pub each : Throughout (λ image. StandsAsSome old.images image ⊎ (stands image ≡ Some area))
      old new
  pub read : (stands new.reads ≡ stands old.reads) ⊎ (stands new.reads ≡ Some area)
  pub done : OnOk result (IsSettled new × (stands new.reads ≡ Some area))

-- a keeper wasn't called, or was called once and keeps what it kept
abbrev pub OnlyLoads : KeeperState → KeeperState → Type 0
OnlyLoads old new = (new ≡ old) ⊎ ((new.calls ≡ counted old.calls) × Keeps old.kept new.kept)
