-- What a load of a journal gives.
use Rattle.std.proofs.Common.{◌≡◌, ℕ, ◌+◌, ◌-◌, List, [], ◌++◌, length, take, drop, replicate, Option, None, Some, IsSome, MatchOption, Result, Ok, Err, IfOk, OnOk, refl, sym, ◌∙◌, ap, inl, inr, subst, arith}
use Rattle.std.specs.Option.{option_map}
use Rattle.std.proofs.lemmas.List.{take_all, append-nil}
use Rattle.std.proofs.lemmas.Bool.{cases_lt, cases_eq}
use Rattle.bml_ports.specs.Keepers.{Loads, filled}
use Rattle.bml_ports.specs.declared.outside.Failed.{Failed}
use Rattle.nv_journal.specs.declared.slots.Slot.{Slot}
use Rattle.nv_journal.specs.declared.slots.Slot.TheVariants.{First, Second}
use Rattle.nv_journal.specs.declared.stores.Found.{Found}
use Rattle.nv_journal.specs.Disks.{Images, IsImage, only, DiskContent, Reads, Told, WhereTold, IsSettled}
use Rattle.nv_journal.specs.Histories.{Throughout}
use Rattle.bml_bytes.specs.Areas.{area_length}
use Rattle.nv_journal.specs.Slots.{Open, place_of, slot_length, gate_at, after_gate, IsWhole, slot_at, newer, stands}
use Rattle.nv_journal.specs.devices.Stores.{pick, IsNewestOf, IsDue, Finds, GivesArea}
use Rattle.nv_journal.specs.Journals.{StandsAsSome, or_older, kept_of, LoadsNewest}
use Rattle.nv_journal.proofs.Parts.{slot-short, slot-shut, slot-open}
use Rattle.nv_journal.proofs.Torn.{only-is}
use Rattle.nv_journal.proofs.Moments.{started, goes_on, weaker, joined}

some-behind : (slot : Slot) (x : List ℕ) → IsSome (slot_at slot x) → IsWhole slot x × (slot_at slot x ≡ Some (after_gate slot x))
some-behind slot x some = elim (cases_lt (length x) (place_of slot + slot_length)) [
  | inl short ↦ let wrong = subst (λ (o : Option Open). IsSome o) (slot-short slot x short) some in absurd (cc)
  | inr long ↦ elim (cases_eq (gate_at slot x) 1) [
    | inl is_open ↦ (long, slot-open slot x long is_open)
    | inr shut ↦ let wrong = subst (λ (o : Option Open). IsSome o) (slot-shut slot x shut) some in absurd (cc)
  ]
]

gives-area : (slot : Slot) (size count : ℕ) (into : List ℕ) (old new : DiskContent) → size ≡ area_length → length into ≡ area_length → Reads (place_of slot + 2) size into (Ok count) old new → IsSome (slot_at slot old.reads) → option_map (λ (o : Open). o.area) (slot_at slot old.reads) ≡ Some into
gives-area slot size count into old new full fits r some =
    let b = some-behind slot old.reads some in
    let whole = b.0 in
    let all : count ≡ area_length = omega (arith, full, r.given.0, whole) in
    let front : take area_length into ≡ take area_length (drop (place_of slot + 2) old.reads) = subst (λ (n : ℕ). take n into ≡ take n (drop (place_of slot + 2) old.reads)) all r.given.1 in
    ap (λ (o : Option Open). option_map (λ (s : Open). s.area) o) b.1 ∙ ap (λ (l : List ℕ). Some l) (sym front ∙ take_all area_length into (omega (arith, fits)))

pub gives : (slot : Slot) (size count length_read : ℕ) (into : List ℕ) (o p : Option DiskContent) → size ≡ area_length → length into ≡ area_length → Told (Reads (place_of slot + 2) size into (Ok count)) o p → Told (GivesArea slot into (Ok length_read)) o p
gives slot size count length_read into None None full fits r = tt
gives slot size count length_read into None (Some new) full fits r = absurd r
gives slot size count length_read into (Some old) None full fits r = absurd r
gives slot size count length_read into (Some old) (Some new) full fits r = record { step = r.step; reads = r.reads; images = r.images; given = gives-area slot size count into old new full fits r }

-- ---- a load where the slots are known

where-ok : (X : Type 0) (result : Result ℕ Failed) → X → OnOk result X
where-ok X (Ok size) here = here
where-ok X (Err e) here = tt

pub area-loads : (found : Found) (slot : Slot) (area : List ℕ) (result : Result ℕ Failed) (o p : Option DiskContent) → WhereTold (IsDue found) o → Told (GivesArea slot area result) o p → Told (LoadsNewest result) o p
area-loads found slot area result None None due g = tt
area-loads found slot area result None (Some p) due g = absurd g
area-loads found slot area result (Some old) None due g = absurd g
area-loads found slot area result (Some old) (Some p) due g =
    let P : List ℕ → Type 0 = StandsAsSome old.images in
    record {
      each = goes_on P old old p (started P old (λ image is. (image, is, refl)) (old.reads, g.step.before, refl)) g.step (λ image is. (image, subst (λ (i : Images). IsImage i image) g.images is, refl));
      reads = g.reads;
      done = where-ok (IsSettled p) result (g.images ∙ due.settled ∙ ap only (sym g.reads));
    }

pub area-due : (found : Found) (slot : Slot) (area : List ℕ) (result : Result ℕ Failed) (o p : Option DiskContent) → WhereTold (IsDue found) o → Told (GivesArea slot area result) o p → WhereTold (IsDue found) p
area-due found slot area result None None due g = tt
area-due found slot area result None (Some p) due g = absurd g
area-due found slot area result (Some old) None due g = absurd g
area-due found slot area result (Some old) (Some p) due g = record {
  settled = g.images ∙ due.settled ∙ ap only (sym g.reads);
  newest = subst (λ (x : List ℕ). IsNewestOf found (slot_at First x) (slot_at Second x)) (sym g.reads) due.newest;
}

pub none-loads : (found : Found) (result : Result ℕ Failed) (o : Option DiskContent) → WhereTold (IsDue found) o → Told (LoadsNewest result) o o
none-loads found result None due = tt
none-loads found result (Some old) due =
    let here : IsImage old.images old.reads = subst (λ (i : Images). IsImage i old.reads) (sym due.settled) (only-is old.reads) in
    record {
      each = started (StandsAsSome old.images) old (λ image is. (image, is, refl)) (old.reads, here, refl);
      reads = refl;
      done = where-ok (IsSettled old) result due.settled;
    }

picked : (slot : Slot) (x : List ℕ) → pick slot (slot_at First x) (slot_at Second x) ≡ slot_at slot x
picked First x = refl
picked Second x = refl

whole-area : (area : List ℕ) → length area ≡ area_length → (area_length ≡ length area) × (area ≡ filled area_length area)
whole-area area fits =
    let none : area_length - length area ≡ 0 = omega (arith, fits) in
    let rest : replicate (area_length - length area) 0 ≡ [] = ap (λ (n : ℕ). replicate n 0) none in
    (sym fits, sym (ap (λ (l : List ℕ). take area_length area ++ l) rest ∙ append-nil (take area_length area) ∙ take_all area_length area (omega (arith, fits))))

pub area-given : (found : Found) (slot : Slot) (area : List ℕ) (size : ℕ) (older : Option (List ℕ)) (o p : Option DiskContent) → found.newest ≡ Some slot → length area ≡ area_length → WhereTold (IsDue found) o → Told (GivesArea slot area (Ok size)) o p → Loads (kept_of o older) area_length area
area-given found slot area size older None p is fits due g = tt
area-given found slot area size older (Some old) None is fits due g = absurd g
area-given found slot area size older (Some old) (Some p) is fits due g =
    let f = slot_at First old.reads in
    let s = slot_at Second old.reads in
    let here = subst (λ (n : Option Slot). MatchOption n (newer f s ≡ None) (λ (k : Slot). (newer f s ≡ pick k f s) × IsSome (pick k f s))) is due.newest.slot in
    let some : IsSome (slot_at slot old.reads) = subst (λ (o : Option Open). IsSome o) (picked slot old.reads) here.1 in
    let stands_is : stands old.reads ≡ Some area = ap (λ (o : Option Open). option_map (λ (k : Open). k.area) o) (here.0 ∙ picked slot old.reads) ∙ g.given some in
    subst (λ (k : Option (List ℕ)). Loads (or_older k older) area_length area) (sym stands_is) (whole-area area fits)

pub area-loaded : (found : Found) (slot : Slot) (area : List ℕ) (result : Result ℕ Failed) (older : Option (List ℕ)) (o p : Option DiskContent) → found.newest ≡ Some slot → length area ≡ area_length → WhereTold (IsDue found) o → Told (GivesArea slot area result) o p → IfOk result (λ (size : ℕ). size ≡ area_length) → IfOk result (λ (size : ℕ). Loads (kept_of o older) size area)
area-loaded found slot area (Ok size) older o p is fits due g all = subst (λ (n : ℕ). Loads (kept_of o older) n area) (sym all) (area-given found slot area size older o p is fits due g)
area-loaded found slot area (Err e) older o p is fits due g all = tt

pub older-given : (found : Found) (area : List ℕ) (size : ℕ) (older : Option (List ℕ)) (o : Option DiskContent) → found.newest ≡ None → WhereTold (IsDue found) o → Loads older size area → Loads (kept_of o older) size area
older-given found area size older None is due loads = tt
older-given found area size older (Some old) is due loads =
    let f = slot_at First old.reads in
    let s = slot_at Second old.reads in
    let none : newer f s ≡ None = subst (λ (n : Option Slot). MatchOption n (newer f s ≡ None) (λ (k : Slot). (newer f s ≡ pick k f s) × IsSome (pick k f s))) is due.newest.slot in
    subst (λ (k : Option (List ℕ)). Loads (or_older k older) size area) (sym (ap (λ (o : Option Open). option_map (λ (k : Open). k.area) o) none)) loads

-- ---- a whole load: what is found, and then a load

loads-through : (found : Found) (result : Result ℕ Failed) (old p q : DiskContent) → Finds (Ok found) old p → LoadsNewest result p q → Throughout (StandsAsSome old.images) old q
loads-through found result old p q finds loads =
    joined (StandsAsSome old.images) old p q finds.each (weaker (StandsAsSome p.images) (StandsAsSome old.images) p q leads loads.each)
  where
    leads : (image : List ℕ) → StandsAsSome p.images image → StandsAsSome old.images image
    leads image some = let first = finds.each.now some.0 some.1 in (first.0, first.1, some.2 ∙ first.2)

pub load-through : (found : Found) (result : Result ℕ Failed) (o p q : Option DiskContent) → Told (Finds (Ok found)) o p → Told (LoadsNewest result) p q → Told (LoadsNewest result) o q
load-through found result None None None finds loads = tt
load-through found result None None (Some q) finds loads = absurd loads
load-through found result None (Some p) q finds loads = absurd finds
load-through found result (Some old) None q finds loads = absurd finds
load-through found result (Some old) (Some p) None finds loads = absurd loads
load-through found result (Some old) (Some p) (Some q) finds loads = record { each = loads-through found result old p q finds loads; reads = loads.reads ∙ finds.reads; done = loads.done }

-- what is kept is what was kept before the slots were found
pub found-kept : (found : Found) (older : Option (List ℕ)) (o p : Option DiskContent) → Told (Finds (Ok found)) o p → kept_of p older ≡ kept_of o older
found-kept found older None None finds = refl
found-kept found older None (Some p) finds = absurd finds
found-kept found older (Some old) None finds = absurd finds
found-kept found older (Some old) (Some p) finds = ap (λ (x : List ℕ). or_older (stands x) older) finds.reads
