-- What a load and stores one after another come to.
use Rattle.std.proofs.Common.{◌≡◌, ℕ, ◌⊎◌, List, [], ◌∷◌, Option, Some, Result, ◌∙◌, ap, inl, inr, subst, sym}
use Rattle.bml_ports.specs.declared.outside.Failed.{Failed}
use Rattle.nv_journal.specs.Disks.{Images, IsImage, DiskContent, IsSettled}
use Rattle.nv_journal.specs.Histories.{Throughout}
use Rattle.nv_journal.specs.Slots.{stands}
use Rattle.nv_journal.specs.Journals.{StandsAsSome, StoresNewest}
use Rattle.nv_journal.specs.Runs.{StoreInTurn, HasRun, last_kept}
use Rattle.nv_journal.proofs.Torn.{only-image}
use Rattle.nv_journal.proofs.Moments.{weaker}

stored-in_turn : (areas : List (List ℕ)) (kept : Option (List ℕ)) (old new : DiskContent) → IsSettled old → stands old.reads ≡ kept → StoreInTurn areas old new → IsSettled new × (stands new.reads ≡ last_kept kept areas)
stored-in_turn [] kept old new settled is same = subst (λ (d : DiskContent). IsSettled d × (stands d.reads ≡ kept)) (sym same) (settled, is)
stored-in_turn (area ∷ areas) kept old new settled is stores = stored-in_turn areas (Some area) stores.0 new stores.1.done.0 stores.1.done.1 stores.2

pub between-stores : (areas : List (List ℕ)) (start now : DiskContent) → HasRun areas start now → IsSettled now × (stands now.reads ≡ last_kept (stands start.reads) areas)
between-stores areas start now run = stored-in_turn areas (stands start.reads) run.loaded now run.loads.done (ap stands run.loads.reads) run.stores

-- the one image of a settled disk stands for what is read
stands-settled : (now : DiskContent) (image : List ℕ) → IsSettled now → StandsAsSome now.images image → stands image ≡ stands now.reads
stands-settled now image settled some = some.2 ∙ ap stands (only-image now.reads some.0 (subst (λ (i : Images). IsImage i some.0) settled some.1))

pub within-store : (areas : List (List ℕ)) (start now : DiskContent) → HasRun areas start now → (area : List ℕ) (result : Result (Unit {0}) Failed) (later : DiskContent) → StoresNewest area result now later
    → Throughout (λ (image : List ℕ). (stands image ≡ last_kept (stands start.reads) areas) ⊎ (stands image ≡ Some area)) now later
within-store areas start now run area result later stores =
    weaker (λ (image : List ℕ). StandsAsSome now.images image ⊎ (stands image ≡ Some area)) (λ (image : List ℕ). (stands image ≡ last_kept (stands start.reads) areas) ⊎ (stands image ≡ Some area)) now later leads stores.each
  where
    leads : (image : List ℕ) → StandsAsSome now.images image ⊎ (stands image ≡ Some area) → (stands image ≡ last_kept (stands start.reads) areas) ⊎ (stands image ≡ Some area)
    leads image (inl some) = let both = between-stores areas start now run in inl (stands-settled now image both.0 some ∙ both.1)
    leads image (inr is) = inr is
