-- The two slots of a journal, and which area a byte list stands for, of this project's own.
use Rattle.std.specs.Prelude.{◌≡◌, ℕ, ◌+◌, ◌*◌, ◌%◌, ◌<◌, ◌≤◌, ◌≢◌, List, length, take, drop, get_or, Option, None, Some, if◌then◌else◌, ◌==◌, nat_le}
use Rattle.std.specs.Option.{option_map}
use Rattle.bml_bytes.specs.Areas.{area_length}
use Rattle.nv_journal.specs.declared.slots.Slot.{Slot}
use Rattle.nv_journal.specs.declared.slots.Slot.TheVariants.{First, Second}

-- a slot is a gate, a number and an area: the gate is its first byte, and these are the places of
-- the others in it
abbrev pub number_offset : ℕ
number_offset = 1

abbrev pub area_offset : ℕ
area_offset = 2

abbrev pub slot_length : ℕ
slot_length = area_offset + area_length

-- the bytes of both slots
abbrev pub journal_length : ℕ
journal_length = 2 * slot_length

-- the gate of an open slot, and the one that is written to close it
abbrev pub open_gate : ℕ
open_gate = 1

abbrev pub closed_gate : ℕ
closed_gate = 0

-- numbers are below this
abbrev pub number_count : ℕ
number_count = 3

abbrev pub place_of : Slot → ℕ
place_of First = 0
place_of Second = slot_length

abbrev pub other : Slot → Slot
other First = Second
other Second = First

-- what an open slot has
pub record Open : Type 0 where
  pub number : ℕ
  pub area : List ℕ

abbrev pub gate_at : Slot → List ℕ → ℕ
gate_at slot image = get_or image (place_of slot) 0

-- what stands after the gate of a slot
abbrev pub after_gate : Slot → List ℕ → Open
after_gate slot image = record {
  number = get_or image (place_of slot + number_offset) 0;
  area = take area_length (drop (place_of slot + area_offset) image);
}

-- all bytes of a slot are there
abbrev pub IsWhole : Slot → List ℕ → Type 0
IsWhole slot image = place_of slot + slot_length ≤ length image

-- a slot is open where all its bytes are there and its gate is 1
unfoldable pub slot_at : Slot → List ℕ → Option Open
slot_at slot image =
    if nat_le (place_of slot + slot_length) (length image)
    then (if gate_at slot image == open_gate then Some (after_gate slot image) else None)
    else None

-- the number that follows; a number on a disk may be any byte
abbrev pub next_number : ℕ → ℕ
next_number number = (number + 1) % number_count

-- of two slots the newest: the only open one, or with both open the second where its number follows
-- the first's, else the first
unfoldable pub newer : Option Open → Option Open → Option Open
newer None second = second
newer (Some first) None = Some first
newer (Some first) (Some second) =
    if second.number == next_number first.number then Some second else Some first

abbrev pub newest : List ℕ → Option Open
newest image = newer (slot_at First image) (slot_at Second image)

-- what an image stands for: the area of its newest slot, or nothing where no slot is open
abbrev pub stands : List ℕ → Option (List ℕ)
stands image = option_map (λ (slot : Open). slot.area) (newest image)

-- the number of the next store
abbrev pub number_after : Option Open → ℕ
number_after None = 0
number_after (Some slot) = next_number slot.number

-- the slot isn't the newest: without it the newest is the same
abbrev pub IsSpare : Slot → List ℕ → Type 0
IsSpare slot image = newest image ≡ slot_at (other slot) image

-- a gate stands there, and isn't that of an open slot
pub record IsShutAt (place : ℕ) (image : List ℕ) : Type 0 where
  pub within : place < length image
  pub gate : get_or image place 0 ≢ open_gate

abbrev pub IsShut : Slot → List ℕ → Type 0
IsShut slot image = IsShutAt (place_of slot) image
