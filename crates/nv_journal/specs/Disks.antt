-- What a disk tells, which byte lists a stop may leave on it, and what each call does to both, of
-- this project's own.
use Rattle.std.specs.Prelude.{◌≡◌, ℕ, ◌+◌, ◌-◌, ◌<◌, ◌≤◌, min, max, List, [], ◌∷◌, ◌++◌, length, take, drop, get_or, Option, None, Some, Result, MatchResult, IfOk, OnOk, IsErr, ⊤, ◌⊎◌}
use Rattle.bml_ports.specs.Counters.{Counter}
use Rattle.nv_journal.specs.declared.disks.Extent.{Extent}
use Rattle.bml_ports.specs.declared.outside.Failed.{Failed}

-- what decides which byte lists a stop may leave: what the last sync left, and the places of the
-- writes since, also of failed ones
pub record Images : Type 0 where
  pub settled : List ℕ
  pub written : List Extent

-- a place lies in one of these
abbrev pub IsIn : List Extent → ℕ → Type 0
IsIn [] place = ⊥
IsIn (extent ∷ extents) place =
    ((extent.place ≤ place) × (place < extent.place + extent.size)) ⊎ IsIn extents place

-- the greatest length that a byte list of this length has after these writes
abbrev pub furthest : ℕ → List Extent → ℕ
furthest size [] = size
furthest size (extent ∷ extents) = max (extent.place + extent.size) (furthest size extents)

-- a byte list that a stop may leave: its length is any from the old one to the greatest after the
-- writes; a byte that was there and wasn't written is as it was; every other byte is any
pub record IsImage (images : Images) (image : List ℕ) : Type 0 where
  pub no_shorter : length images.settled ≤ length image
  pub no_longer : length image ≤ furthest (length images.settled) images.written
  pub elsewhere : (place : ℕ) → place < length images.settled → (IsIn images.written place → ⊥)
      → get_or image place 0 ≡ get_or images.settled place 0

-- a stop leaves this and nothing else
abbrev pub only : List ℕ → Images
only bytes = record { settled = bytes; written = [] }

-- the images after one more write
abbrev pub after_write : Images → ℕ → ℕ → Images
after_write images place size = record {
  settled = images.settled;
  written = images.written ++ record { place = place; size = size } ∷ [];
}

-- these bytes with others written over them from a place on
abbrev pub overwritten : List ℕ → ℕ → List ℕ → List ℕ
overwritten old place bytes = take place old ++ (bytes ++ drop (place + length bytes) old)

-- what reads give, the images now, and the images at each moment before, in order
pub record DiskContent : Type 0 where
  pub reads : List ℕ
  pub images : Images
  pub past : List Images

-- what reads give is all that a stop may leave
abbrev pub IsSettled : DiskContent → Type 0
IsSettled disk = disk.images ≡ only disk.reads

-- the faults of its calls, and its content where the disk tells it
pub record DiskState : Type 0 where
  pub faults : Counter
  pub content : Option DiskContent

-- a call on a disk: content that is told stays told, and is then related by this; content that
-- isn't told stays untold
abbrev pub Told : (DiskContent → DiskContent → Type 0) → Option DiskContent → Option DiskContent
    → Type 0
Told P None None = ⊤
Told P None (Some new) = ⊥
Told P (Some old) None = ⊥
Told P (Some old) (Some new) = P old new

-- where the content is told, P holds of it
abbrev pub WhereTold : (DiskContent → Type 0) → Option DiskContent → Type 0
WhereTold P None = ⊤
WhereTold P (Some disk) = P disk

-- A call: the images before it join those of the past, unless they stay, and what reads give is an
-- image before and after it. A stop during a call leaves nothing that it couldn't leave just before
-- the call or just after it.
pub record OneCall (old new : DiskContent) : Type 0 where
  pub past : (new.past ≡ old.past ++ old.images ∷ [])
      ⊎ ((new.past ≡ old.past) × (new.images ≡ old.images))
  pub before : IsImage old.images old.reads
  pub after : IsImage new.images new.reads

-- a read, also a failed one, leaves all; one that succeeds fills the front of the buffer, as far as
-- there are bytes
pub record Reads (place : ℕ) (size : ℕ) (into : List ℕ) (result : Result ℕ Failed)
    (old new : DiskContent) : Type 0 where
  pub step : OneCall old new
  pub reads : new.reads ≡ old.reads
  pub images : new.images ≡ old.images
  pub given : IfOk result (λ count. (count ≡ min size (length old.reads - place))
      × (take count into ≡ take count (drop place old.reads)))

-- A write adds its range to the images, also a failed one, unless it leaves them. One that succeeds
-- puts its bytes into what reads give.
pub record Writes (place : ℕ) (bytes : List ℕ) (result : Result (Unit {0}) Failed)
    (old new : DiskContent) : Type 0 where
  pub step : OneCall old new
  pub images : (new.images ≡ after_write old.images place (length bytes))
      ⊎ (IsErr result × (new.images ≡ old.images))
  pub reads : OnOk result (new.reads ≡ overwritten old.reads place bytes)

-- a sync, also a failed one, leaves what reads give; after one that succeeds this is the only image
pub record Syncs (result : Result (Unit {0}) Failed) (old new : DiskContent) : Type 0 where
  pub step : OneCall old new
  pub reads : new.reads ≡ old.reads
  pub images : MatchResult result (λ _. new.images ≡ only old.reads)
      (λ _. new.images ≡ old.images)
