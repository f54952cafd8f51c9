-- Devices of the code: what is known of the slots between two stores, and what the parts of a load
-- and a store do (of this project's own).
use Rattle.std.specs.Prelude.{◌≡◌, ℕ, List, Bool, IsTrue, ◌↔◌, Option, None, Some, IsSome, Result, MatchOption, IfOk, ⊤, ◌⊎◌}
use Rattle.std.specs.Option.{option_map}
use Rattle.bml_ports.specs.declared.outside.Failed.{Failed}
use Rattle.nv_journal.specs.declared.slots.Slot.{Slot}
use Rattle.nv_journal.specs.declared.slots.Slot.TheVariants.{First, Second}
use Rattle.nv_journal.specs.declared.stores.Found.{Found}
use Rattle.nv_journal.specs.Disks.{DiskContent, OneCall, WhereTold, IsSettled}
use Rattle.nv_journal.specs.Histories.{Throughout}
use Rattle.nv_journal.specs.Slots.{Open, other, slot_at, newer, stands, number_after, IsShutAt}
use Rattle.nv_journal.specs.Journals.{StandsAsSome}

abbrev pub pick : Slot → Option Open → Option Open → Option Open
pick First first second = first
pick Second first second = second

-- which of two slots is the newest, and the number that is due
pub record IsNewestOf (found : Found) (first second : Option Open) : Type 0 where
  pub slot : MatchOption found.newest (newer first second ≡ None)
      (λ slot. (newer first second ≡ pick slot first second) × IsSome (pick slot first second))
  pub number : found.number ≡ number_after (newer first second)

-- nothing but what reads give is left, and this is known of its slots
pub record IsDue (found : Found) (disk : DiskContent) : Type 0 where
  pub settled : IsSettled disk
  pub newest : IsNewestOf found (slot_at First disk.reads) (slot_at Second disk.reads)

-- what is known of the slots is so
abbrev pub IsKnown : Option Found → Option DiskContent → Type 0
IsKnown None content = ⊤
IsKnown (Some found) content = WhereTold (IsDue found) content

-- the slot that isn't the newest, or the first where there is none
abbrev pub next_slot : Option Slot → Slot
next_slot None = First
next_slot (Some slot) = other slot

-- a look whether a gate that isn't open stands at a place
pub record Looks (place : ℕ) (result : Result Bool Failed) (old new : DiskContent) : Type 0 where
  pub step : OneCall old new
  pub reads : new.reads ≡ old.reads
  pub images : new.images ≡ old.images
  pub found : IfOk result (λ shut. IsTrue shut ↔ IsShutAt place old.reads)

-- a look at a slot: the number of an open one
pub record LooksAt (slot : Slot) (result : Result (Option ℕ) Failed) (old new : DiskContent)
    : Type 0 where
  pub step : OneCall old new
  pub reads : new.reads ≡ old.reads
  pub images : new.images ≡ old.images
  pub found : IfOk result
      (λ number. number ≡ option_map (λ (o : Open). o.number) (slot_at slot old.reads))

-- the bytes of an open slot's area
pub record GivesArea (slot : Slot) (area : List ℕ) (result : Result ℕ Failed)
    (old new : DiskContent) : Type 0 where
  pub step : OneCall old new
  pub reads : new.reads ≡ old.reads
  pub images : new.images ≡ old.images
  pub given : IfOk result (λ length. IsSome (slot_at slot old.reads)
      → option_map (λ (o : Open). o.area) (slot_at slot old.reads) ≡ Some area)

-- a sync and a look at both slots: what reads give stays, and at each moment each image stands for
-- what some image stood for
pub record Finds (result : Result Found Failed) (old new : DiskContent) : Type 0 where
  pub each : Throughout (StandsAsSome old.images) old new
  pub reads : new.reads ≡ old.reads
  pub done : IfOk result (λ found. IsDue found new)

-- a store, which tells what is known of the slots then
pub record StoresArea (area : List ℕ) (result : Result Found Failed) (old new : DiskContent)
    : Type 0 where
  pub each : Throughout (λ image. StandsAsSome old.images image ⊎ (stands image ≡ Some area))
      old new
  pub read : (stands new.reads ≡ stands old.reads) ⊎ (stands new.reads ≡ Some area)
  pub done : IfOk result (λ found. IsDue found new × (stands new.reads ≡ Some area))
