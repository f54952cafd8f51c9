-- What the three steps of a store need and do, of this project's own.
use Rattle.std.specs.Prelude.{◌≡◌, ℕ, ◌≤◌, List, length, Some, Result, OnOk, ◌⊎◌}
use Rattle.bml_ports.specs.declared.outside.Failed.{Failed}
use Rattle.nv_journal.specs.declared.slots.Slot.{Slot}
use Rattle.nv_journal.specs.Disks.{DiskContent, IsSettled}
use Rattle.nv_journal.specs.Histories.{Throughout}
use Rattle.nv_journal.specs.Slots.{place_of, after_gate, slot_at, newest, stands, number_after, IsSpare, IsShut, IsWhole}

-- an image stands for what these bytes stand for
abbrev pub StandsAs : List ℕ → List ℕ → Type 0
StandsAs bytes image = stands image ≡ stands bytes

-- or for this area
abbrev pub StandsAsOrFor : List ℕ → List ℕ → List ℕ → Type 0
StandsAsOrFor bytes area image = StandsAs bytes image ⊎ (stands image ≡ Some area)

-- before the first step: one image is left, the slot isn't the newest, and its gate is within the
-- disk or at its end
pub record IsReady (slot : Slot) (disk : DiskContent) : Type 0 where
  pub settled : IsSettled disk
  pub spare : IsSpare slot disk.reads
  pub within : place_of slot ≤ length disk.reads

-- before the second: a gate stands there, and isn't open
pub record IsClosed (slot : Slot) (disk : DiskContent) : Type 0 where
  pub settled : IsSettled disk
  pub shut : IsShut slot disk.reads

-- before the third: after the gate stand the number that is due and the area
pub record IsFilled (slot : Slot) (area : List ℕ) (disk : DiskContent) : Type 0 where
  pub settled : IsSettled disk
  pub shut : IsShut slot disk.reads
  pub whole : IsWhole slot disk.reads
  pub behind : after_gate slot disk.reads
      ≡ record { number = number_after (newest disk.reads); area = area }

-- The first step. At each moment each image stands for what the bytes stood for, and after Ok the
-- gate isn't open.
pub record Closes (slot : Slot) (result : Result (Unit {0}) Failed) (old new : DiskContent)
    : Type 0 where
  pub each : Throughout (StandsAs old.reads) old new
  pub done : OnOk result (IsClosed slot new × (newest new.reads ≡ newest old.reads))

-- The second step. At each moment each image stands for what the bytes stood for, and after Ok the
-- number and the area stand there.
pub record Fills (slot : Slot) (area : List ℕ) (result : Result (Unit {0}) Failed)
    (old new : DiskContent) : Type 0 where
  pub each : Throughout (StandsAs old.reads) old new
  pub done : OnOk result (IsFilled slot area new × (newest new.reads ≡ newest old.reads))

-- The third step. At each moment each image stands for what the bytes stood for or for the area,
-- and after Ok for the area.
pub record Opens (slot : Slot) (area : List ℕ) (result : Result (Unit {0}) Failed)
    (old new : DiskContent) : Type 0 where
  pub each : Throughout (StandsAsOrFor old.reads area) old new
  pub done : OnOk result (IsSettled new × (newest new.reads ≡ Some (after_gate slot old.reads))
      × (slot_at slot new.reads ≡ Some (after_gate slot old.reads))
      × (stands new.reads ≡ Some area))
