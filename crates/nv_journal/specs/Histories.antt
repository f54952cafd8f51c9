-- What holds of each image at each moment from one to another, of this project's own.
use Rattle.std.specs.Prelude.{◌≡◌, ℕ, List, [], ◌∷◌, ◌++◌}
use Rattle.nv_journal.specs.Disks.{Images, IsImage, DiskContent}

-- each image has P
abbrev pub Leaves : (List ℕ → Type 0) → Images → Type 0
Leaves P images = (image : List ℕ) → IsImage images image → P image

-- at each of these moments
abbrev pub EachLeaves : (List ℕ → Type 0) → List Images → Type 0
EachLeaves P [] = Unit {0}
EachLeaves P (images ∷ rest) = Leaves P images × EachLeaves P rest

-- from old to new, both included: at each moment each image has P, and in the end what reads give
-- has it too
pub record Throughout (P : List ℕ → Type 0) (old new : DiskContent) : Type 0 where
  pub moments : List Images
  pub since : new.past ≡ old.past ++ moments
  pub each : EachLeaves P moments
  pub now : Leaves P new.images
  pub read : P new.reads
