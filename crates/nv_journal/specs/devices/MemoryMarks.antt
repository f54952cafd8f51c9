-- What a disk in memory keeps of its past, of this project's own.
use Rattle.std.specs.Prelude.{◌≡◌, ℕ, ◌≤◌, List, [], ◌∷◌, length, take}
use Rattle.nv_journal.specs.declared.disks.Extent.{Extent}
use Rattle.nv_journal.specs.declared.memory_disks.Mark.{Mark}
use Rattle.nv_journal.specs.declared.memory_disks.Mark.TheVariants.{Wrote, Synced}
use Rattle.nv_journal.specs.Slots.{journal_length}
use Rattle.nv_journal.specs.Disks.{Images, IsImage, only, after_write}

-- the images behind a write, or behind a sync that succeeded with so many bytes at the front of an
-- array
abbrev pub after_mark : Images → Mark → Images
after_mark images (Wrote extent) = after_write images extent.place extent.size
after_mark images (Synced bytes size) = only (take size bytes)

-- the images behind all marks
abbrev pub images_behind : Images → List Mark → Images
images_behind first [] = first
images_behind first (mark ∷ marks) = images_behind (after_mark first mark) marks

-- the images before each mark, in order
abbrev pub images_before : Images → List Mark → List Images
images_before first [] = []
images_before first (mark ∷ marks) = first ∷ images_before (after_mark first mark) marks

-- the marks lead to the images now, what is read is one of them, and there is room
pub record IsKept (first bytes settled : List ℕ) (written : List Extent) (marks : List Mark)
    (bytes_room settled_room written_room marks_room most made : ℕ) : Type 0 where
  pub leads : images_behind (only first) marks ≡ record { settled = settled; written = written }
  pub read : IsImage (record { settled = settled; written = written }) bytes
  pub bytes_fit : length bytes ≤ journal_length
  pub bytes_hold : journal_length ≤ bytes_room
  pub settled_hold : journal_length ≤ settled_room
  pub written_hold : most ≤ written_room
  pub marks_hold : most ≤ marks_room
  pub written_fit : length written ≤ length marks
  pub marks_fit : length marks ≤ made
