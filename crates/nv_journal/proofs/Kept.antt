-- A journal's calls on its disk, and what it keeps.
use Rattle.std.proofs.Common.{◌≡◌, ℕ, ◌⊎◌, List, Option, None, Some, Result, Ok, Err, refl, sym, ◌∙◌, ap, inl, inr, subst}
use Rattle.std.specs.Io.KnownBytes.{Keeps}
use Rattle.bml_ports.specs.Keepers.{KeeperState, Replaces, Stores}
use Rattle.bml_ports.specs.declared.outside.Failed.{Failed}
use Rattle.nv_journal.specs.declared.stores.Found.{Found}
use Rattle.nv_journal.specs.Disks.{Images, IsImage, DiskContent, Told, WhereTold}
use Rattle.nv_journal.specs.Histories.{Throughout}
use Rattle.nv_journal.specs.Slots.{stands}
use Rattle.nv_journal.specs.devices.Stores.{IsDue, Finds, StoresArea}
use Rattle.nv_journal.specs.Journals.{StandsAsSome, or_older, kept_of, LoadsNewest, StoresNewest, OnlyLoads}
use Rattle.nv_journal.proofs.Torn.{only-is}
use Rattle.nv_journal.proofs.Moments.{started, weaker, joined}

-- what was known needs no call
pub known : (found : Found) (o : Option DiskContent) → WhereTold (IsDue found) o → Told (Finds (Ok found)) o o
known found None due = tt
known found (Some old) due =
    let here : IsImage old.images old.reads = subst (λ (i : Images). IsImage i old.reads) (sym due.settled) (only-is old.reads) in
    record {
      each = started (StandsAsSome old.images) old (λ image is. (image, is, refl)) (old.reads, here, refl);
      reads = refl;
      done = due;
    }

pub put-find_failed : (area : List ℕ) (e f : Failed) (o p : Option DiskContent) → Told (Finds (Err e)) o p → Told (StoresArea area (Err f)) o p
put-find_failed area e f None None finds = tt
put-find_failed area e f None (Some p) finds = absurd finds
put-find_failed area e f (Some old) None finds = absurd finds
put-find_failed area e f (Some old) (Some p) finds = record {
  each = weaker (StandsAsSome old.images) (λ (image : List ℕ). StandsAsSome old.images image ⊎ (stands image ≡ Some area)) old p (λ image some. inl some) finds.each;
  read = inl (ap stands finds.reads);
  done = tt;
}

through : (area : List ℕ) (found : Found) (result : Result Found Failed) (old p q : DiskContent) → Finds (Ok found) old p → StoresArea area result p q → Throughout (λ (image : List ℕ). StandsAsSome old.images image ⊎ (stands image ≡ Some area)) old q
through area found result old p q finds stores =
    let P : List ℕ → Type 0 = λ image. StandsAsSome old.images image ⊎ (stands image ≡ Some area) in
    joined P old p q (weaker (StandsAsSome old.images) P old p (λ image some. inl some) finds.each) (weaker (λ (image : List ℕ). StandsAsSome p.images image ⊎ (stands image ≡ Some area)) P p q leads stores.each)
  where
    leads : (image : List ℕ) → StandsAsSome p.images image ⊎ (stands image ≡ Some area) → StandsAsSome old.images image ⊎ (stands image ≡ Some area)
    leads image (inl some) = let first = finds.each.now some.0 some.1 in inl (first.0, first.1, some.2 ∙ first.2)
    leads image (inr is) = inr is

read-again : (area : List ℕ) (found : Found) (result : Result Found Failed) (old p q : DiskContent) → Finds (Ok found) old p → StoresArea area result p q → (stands q.reads ≡ stands old.reads) ⊎ (stands q.reads ≡ Some area)
read-again area found result old p q finds stores = elim stores.read [ inl same ↦ inl (same ∙ ap stands finds.reads) | inr is ↦ inr is ]

-- a store behind what was found, or known
pub put-through : (area : List ℕ) (found : Found) (result : Result Found Failed) (o p q : Option DiskContent) → Told (Finds (Ok found)) o p → Told (StoresArea area result) p q → Told (StoresArea area result) o q
put-through area found result None None None finds stores = tt
put-through area found result None None (Some q) finds stores = absurd stores
put-through area found result None (Some p) q finds stores = absurd finds
put-through area found result (Some old) None q finds stores = absurd finds
put-through area found result (Some old) (Some p) None finds stores = absurd stores
put-through area found result (Some old) (Some p) (Some q) finds stores = record {
  each = through area found result old p q finds stores;
  read = read-again area found result old p q finds stores;
  done = stores.done;
}

pub put-failed : (area : List ℕ) (e f : Failed) (o q : Option DiskContent) → Told (StoresArea area (Err e)) o q → Told (StoresNewest area (Err f)) o q
put-failed area e f None None stores = tt
put-failed area e f None (Some q) stores = absurd stores
put-failed area e f (Some old) None stores = absurd stores
put-failed area e f (Some old) (Some q) stores = record { each = stores.each; read = stores.read; done = tt }

pub put-done : (area : List ℕ) (next : Found) (o q : Option DiskContent) → Told (StoresArea area (Ok next)) o q → Told (StoresNewest area (Ok tt)) o q
put-done area next None None stores = tt
put-done area next None (Some q) stores = absurd stores
put-done area next (Some old) None stores = absurd stores
put-done area next (Some old) (Some q) stores = record { each = stores.each; read = stores.read; done = (stores.done.0.settled, stores.done.1) }

pub found-due : (found : Found) (o p : Option DiskContent) → Told (Finds (Ok found)) o p → WhereTold (IsDue found) p
found-due found None None finds = tt
found-due found None (Some p) finds = absurd finds
found-due found (Some old) None finds = absurd finds
found-due found (Some old) (Some p) finds = finds.done

pub stored-known : (area : List ℕ) (next : Found) (p q : Option DiskContent) → Told (StoresArea area (Ok next)) p q → WhereTold (IsDue next) q
stored-known area next None None stores = tt
stored-known area next None (Some q) stores = absurd stores
stored-known area next (Some p) None stores = absurd stores
stored-known area next (Some p) (Some q) stores = stores.done.0

-- ---- what is kept

replaced : (old new : Option (List ℕ)) (area : List ℕ) → new ≡ Some area → Replaces old new area
replaced None new area is = tt
replaced (Some x) new area is = is

stayed : (old new : Option (List ℕ)) → new ≡ old → Keeps old new
stayed None new is = tt
stayed (Some x) None is = absurd (cc)
stayed (Some x) (Some y) is = cc

pub stores-kept : (area : List ℕ) (result : Result (Unit {0}) Failed) (o p : Option DiskContent) (before : Option (List ℕ)) → Told (StoresNewest area result) o p → Stores (kept_of o before) (kept_of p before) result area
stores-kept area (Ok x) None None before puts = tt
stores-kept area (Err e) None None before puts = inl tt
stores-kept area result None (Some p) before puts = absurd puts
stores-kept area result (Some old) None before puts = absurd puts
stores-kept area (Ok x) (Some old) (Some p) before puts = replaced (or_older (stands old.reads) before) (or_older (stands p.reads) before) area (ap (λ (s : Option (List ℕ)). or_older s before) puts.done.1)
stores-kept area (Err e) (Some old) (Some p) before puts = elim puts.read [
  | inl same ↦ inl (stayed (or_older (stands old.reads) before) (or_older (stands p.reads) before) (ap (λ (s : Option (List ℕ)). or_older s before) same))
  | inr is ↦ inr (replaced (or_older (stands old.reads) before) (or_older (stands p.reads) before) area (ap (λ (s : Option (List ℕ)). or_older s before) is))
]

keeps-or : (area older newer : Option (List ℕ)) → Keeps older newer → Keeps (or_older area older) (or_older area newer)
keeps-or None older newer keeps = keeps
keeps-or (Some area) older newer keeps = stayed (Some area) (Some area) refl

only-keeps : (a b : KeeperState) → OnlyLoads a b → Keeps a.kept b.kept
only-keeps a b only = elim only [ inl same ↦ stayed a.kept b.kept (ap (λ (k : KeeperState). k.kept) same) | inr loads ↦ loads.1 ]

pub loads-kept : (result : Result ℕ Failed) (o p : Option DiskContent) (a b : KeeperState) → Told (LoadsNewest result) o p → OnlyLoads a b → Keeps (kept_of o a.kept) (kept_of p b.kept)
loads-kept result None p a b loads only = tt
loads-kept result (Some old) None a b loads only = absurd loads
loads-kept result (Some old) (Some p) a b loads only =
    subst (λ (s : Option (List ℕ)). Keeps (or_older (stands old.reads) a.kept) (or_older s b.kept)) (sym (ap stands loads.reads)) (keeps-or (stands old.reads) a.kept b.kept (only-keeps a b only))
