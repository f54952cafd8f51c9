-- What is known between two stores, and a whole store as its three steps.
use Rattle.std.proofs.Common.{◌≡◌, ℕ, ◌+◌, ◌≤◌, ◌⊎◌, List, length, Option, None, Some, IsSome, MatchOption, Result, Ok, Err, refl, sym, ◌∙◌, ap, inl, inr, subst, arith, eqb}
use Rattle.std.proofs.lemmas.Bool.{cases_lt, cases_Bool, cond-true, cond-false}
use Rattle.std.specs.Option.{option_map}
use Rattle.bml_ports.specs.declared.outside.Failed.{Failed}
use Rattle.nv_journal.specs.declared.slots.Slot.{Slot}
use Rattle.nv_journal.specs.declared.slots.Slot.TheVariants.{First, Second}
use Rattle.nv_journal.specs.declared.stores.Found.{Found}
use Rattle.nv_journal.specs.Disks.{Images, IsImage, only, DiskContent, Syncs, Told, WhereTold, IsSettled}
use Rattle.nv_journal.specs.Histories.{Leaves, Throughout}
use Rattle.nv_journal.specs.Slots.{Open, place_of, slot_length, after_gate, slot_at, newer, newest, stands, next_number, number_after, IsSpare}
use Rattle.nv_journal.specs.Steps.{StandsAs, StandsAsOrFor, IsReady, IsClosed, IsFilled, Closes, Fills, Opens}
use Rattle.nv_journal.specs.devices.Stores.{pick, IsNewestOf, IsDue, next_slot, LooksAt, Finds, StoresArea}
use Rattle.nv_journal.specs.Journals.{StandsAsSome}
use Rattle.nv_journal.proofs.Torn.{only-is}
use Rattle.nv_journal.proofs.Parts.{slot-short}
use Rattle.nv_journal.proofs.Stepped.{synced-leaves}
use Rattle.nv_journal.proofs.Moments.{started, goes_on, weaker, joined}

-- ---- which slot is the newest, by the numbers

none-second : (a b : Option Open) → newer a b ≡ None → b ≡ None
unfolding newer
none-second None b is = is
none-second (Some a) None is = refl
none-second (Some a) (Some b) is = elim (cases_Bool (eqb b.number (next_number a.number))) [
  | inl yes_it ↦ let e : Some b ≡ None = sym (cond-true (eqb b.number (next_number a.number)) (Some b) (Some a) yes_it) ∙ is in absurd (cc)
  | inr not_it ↦ let e : Some a ≡ None = sym (cond-false (eqb b.number (next_number a.number)) (Some b) (Some a) not_it) ∙ is in absurd (cc)
]

-- ---- what is known leads to the first step

spare-and_within : (n : Option Slot) (x : List ℕ) → MatchOption n (newest x ≡ None) (λ (slot : Slot). (newest x ≡ pick slot (slot_at First x) (slot_at Second x)) × IsSome (pick slot (slot_at First x) (slot_at Second x))) → IsSpare (next_slot n) x × (place_of (next_slot n) ≤ length x)
spare-and_within None x none = (none ∙ sym (none-second (slot_at First x) (slot_at Second x) none), omega arith)
spare-and_within (Some First) x h = (
  h.0,
  elim (cases_lt (length x) (place_of First + slot_length)) [
    | inl short ↦ let e : None ≡ slot_at First x = sym (slot-short First x short) in let wrong = subst (λ (o : Option Open). IsSome o) (sym e) h.1 in absurd (cc)
    | inr long ↦ omega (arith, long)
  ],
)
spare-and_within (Some Second) x h = (h.0, omega arith)

due-ready : (found : Found) (old : DiskContent) → IsDue found old → IsReady (next_slot found.newest) old
due-ready found old due = let both = spare-and_within found.newest old.reads due.newest.slot in record { settled = due.settled; spare = both.0; within = both.1 }

pub ready : (found : Found) (o : Option DiskContent) → WhereTold (IsDue found) o → WhereTold (IsReady (next_slot found.newest)) o
ready found None due = tt
ready found (Some old) due = due-ready found old due

-- ---- the steps one behind the other

stands-by : (x y : List ℕ) → newest y ≡ newest x → stands y ≡ stands x
stands-by x y same = ap (λ (o : Option Open). option_map (λ (slot : Open). slot.area) o) same

module _ (found : Found) (area : List ℕ) where
  abbrev target : Slot
  target = next_slot found.newest

  through-close : (result : Result (Unit {0}) Failed) (old p : DiskContent) → Closes target result old p → Throughout (StandsAsOrFor old.reads area) old p
  through-close result old p closes = weaker (StandsAs old.reads) (StandsAsOrFor old.reads area) old p (λ image same. inl same) closes.each

  through-fill : (result : Result (Unit {0}) Failed) (old p q : DiskContent) → Closes target (Ok tt) old p → Fills target area result p q → Throughout (StandsAsOrFor old.reads area) old q
  through-fill result old p q closes fills =
      joined (StandsAsOrFor old.reads area) old p q (through-close (Ok tt) old p closes) (weaker (StandsAs p.reads) (StandsAsOrFor old.reads area) p q (λ image same. inl (same ∙ stands-by old.reads p.reads closes.done.1)) fills.each)

  through-open : (result : Result (Unit {0}) Failed) (old p q r : DiskContent) → Closes target (Ok tt) old p → Fills target area (Ok tt) p q → Opens target area result q r → Throughout (StandsAsOrFor old.reads area) old r
  through-open result old p q r closes fills opens =
      joined (StandsAsOrFor old.reads area) old q r (through-fill (Ok tt) old p q closes fills) (weaker (StandsAsOrFor q.reads area) (StandsAsOrFor old.reads area) q r leads opens.each)
    where
      leads : (image : List ℕ) → StandsAsOrFor q.reads area image → StandsAsOrFor old.reads area image
      leads image (inl same) = inl (same ∙ stands-by p.reads q.reads fills.done.1 ∙ stands-by old.reads p.reads closes.done.1)
      leads image (inr is) = inr is

  some-at_start : (old new : DiskContent) → IsSettled old → Throughout (StandsAsOrFor old.reads area) old new → Throughout (λ (image : List ℕ). StandsAsSome old.images image ⊎ (stands image ≡ Some area)) old new
  some-at_start old new settled each = weaker (StandsAsOrFor old.reads area) (λ (image : List ℕ). StandsAsSome old.images image ⊎ (stands image ≡ Some area)) old new leads each
    where
      leads : (image : List ℕ) → StandsAsOrFor old.reads area image → StandsAsSome old.images image ⊎ (stands image ≡ Some area)
      leads image (inl same) = inl (old.reads, subst (λ (i : Images). IsImage i old.reads) (sym settled) (only-is old.reads), same)
      leads image (inr is) = inr is

  pub store-close_failed : (e f : Failed) (o p : Option DiskContent) → WhereTold (IsDue found) o → Told (Closes target (Err e)) o p → Told (StoresArea area (Err f)) o p
  store-close_failed e f None None due closes = tt
  store-close_failed e f None (Some p) due closes = absurd closes
  store-close_failed e f (Some old) None due closes = absurd closes
  store-close_failed e f (Some old) (Some p) due closes =
      let each = through-close (Err e) old p closes in
      record { each = some-at_start old p due.settled each; read = each.read; done = tt }

  pub filled-due : (o p : Option DiskContent) → WhereTold (IsDue found) o → Told (Closes target (Ok tt)) o p → WhereTold (IsClosed target) p × WhereTold (λ (disk : DiskContent). found.number ≡ number_after (newest disk.reads)) p
  filled-due None None due closes = (tt, tt)
  filled-due None (Some p) due closes = absurd closes
  filled-due (Some old) None due closes = absurd closes
  filled-due (Some old) (Some p) due closes = (closes.done.0, due.newest.number ∙ ap number_after (sym closes.done.1))

  pub store-fill_failed : (e f : Failed) (o p q : Option DiskContent) → WhereTold (IsDue found) o → Told (Closes target (Ok tt)) o p → Told (Fills target area (Err e)) p q → Told (StoresArea area (Err f)) o q
  store-fill_failed e f None None None due closes fills = tt
  store-fill_failed e f None None (Some q) due closes fills = absurd fills
  store-fill_failed e f None (Some p) q due closes fills = absurd closes
  store-fill_failed e f (Some old) None q due closes fills = absurd closes
  store-fill_failed e f (Some old) (Some p) None due closes fills = absurd fills
  store-fill_failed e f (Some old) (Some p) (Some q) due closes fills =
      let each = through-fill (Err e) old p q closes fills in
      record { each = some-at_start old q due.settled each; read = each.read; done = tt }

  pub opened-filled : (p q : Option DiskContent) → Told (Fills target area (Ok tt)) p q → WhereTold (IsFilled target area) q
  opened-filled None None fills = tt
  opened-filled None (Some q) fills = absurd fills
  opened-filled (Some p) None fills = absurd fills
  opened-filled (Some p) (Some q) fills = fills.done.0

  pub store-open_failed : (e f : Failed) (o p q r : Option DiskContent) → WhereTold (IsDue found) o → Told (Closes target (Ok tt)) o p → Told (Fills target area (Ok tt)) p q → Told (Opens target area (Err e)) q r → Told (StoresArea area (Err f)) o r
  store-open_failed e f None None None None due closes fills opens = tt
  store-open_failed e f None None None (Some r) due closes fills opens = absurd opens
  store-open_failed e f None None (Some q) r due closes fills opens = absurd fills
  store-open_failed e f None (Some p) q r due closes fills opens = absurd closes
  store-open_failed e f (Some old) None q r due closes fills opens = absurd closes
  store-open_failed e f (Some old) (Some p) None r due closes fills opens = absurd fills
  store-open_failed e f (Some old) (Some p) (Some q) None due closes fills opens = absurd opens
  store-open_failed e f (Some old) (Some p) (Some q) (Some r) due closes fills opens =
      let each = through-open (Err e) old p q r closes fills opens in
      record { each = some-at_start old r due.settled each; read = each.read; done = tt }

  now-due : (old p q r : DiskContent) → IsDue found old → Closes target (Ok tt) old p → Fills target area (Ok tt) p q → Opens target area (Ok tt) q r → IsDue (record { newest = Some target; number = next_number found.number }) r
  now-due old p q r due closes fills opens =
      let behind = after_gate target q.reads in
      let number : next_number found.number ≡ number_after (newest r.reads) =
      ap next_number (due.newest.number ∙ ap number_after (sym (fills.done.1 ∙ closes.done.1)) ∙ sym (ap (λ (o : Open). o.number) fills.done.0.behind)) ∙ ap number_after (sym opens.done.1) in
      record {
        settled = opens.done.0;
        newest = record { slot = here target r.reads behind opens.done.1 opens.done.2; number = number };
      }
    where
      here : (s : Slot) (x : List ℕ) (b : Open) → newest x ≡ Some b → slot_at s x ≡ Some b → (newest x ≡ pick s (slot_at First x) (slot_at Second x)) × IsSome (pick s (slot_at First x) (slot_at Second x))
      here First x b is at_slot = (is ∙ sym at_slot, subst (λ (o : Option Open). IsSome o) (sym at_slot) refl)
      here Second x b is at_slot = (is ∙ sym at_slot, subst (λ (o : Option Open). IsSome o) (sym at_slot) refl)

  pub store-done : (o p q r : Option DiskContent) → WhereTold (IsDue found) o → Told (Closes target (Ok tt)) o p → Told (Fills target area (Ok tt)) p q → Told (Opens target area (Ok tt)) q r → Told (StoresArea area (Ok (record { newest = Some target; number = next_number found.number }))) o r
  store-done None None None None due closes fills opens = tt
  store-done None None None (Some r) due closes fills opens = absurd opens
  store-done None None (Some q) r due closes fills opens = absurd fills
  store-done None (Some p) q r due closes fills opens = absurd closes
  store-done (Some old) None q r due closes fills opens = absurd closes
  store-done (Some old) (Some p) None r due closes fills opens = absurd fills
  store-done (Some old) (Some p) (Some q) None due closes fills opens = absurd opens
  store-done (Some old) (Some p) (Some q) (Some r) due closes fills opens =
      let each = through-open (Ok tt) old p q r closes fills opens in
      record {
        each = some-at_start old r due.settled each;
        read = each.read;
        done = (now-due old p q r due closes fills opens, opens.done.3);
      }

-- ---- a sync and two looks

through-sync : (result : Result (Unit {0}) Failed) (old p : DiskContent) → Syncs result old p → Throughout (StandsAsSome old.images) old p
through-sync result old p s =
    let P : List ℕ → Type 0 = StandsAsSome old.images in
    let own : Leaves P old.images = λ image is. (image, is, refl) in
    goes_on P old old p (started P old own (old.reads, s.step.before, refl)) s.step (synced-leaves P result old p s own)

through-look : (P : List ℕ → Type 0) (slot : Slot) (result : Result (Option ℕ) Failed) (start old new : DiskContent) → Throughout P start old → LooksAt slot result old new → Throughout P start new
through-look P slot result start old new before look = goes_on P start old new before look.step (λ image is. before.now image (subst (λ (i : Images). IsImage i image) look.images is))

pub find-sync_failed : (e f : Failed) (o p : Option DiskContent) → Told (Syncs (Err e)) o p → Told (Finds (Err f)) o p
find-sync_failed e f None None s = tt
find-sync_failed e f None (Some p) s = absurd s
find-sync_failed e f (Some old) None s = absurd s
find-sync_failed e f (Some old) (Some p) s = record { each = through-sync (Err e) old p s; reads = s.reads; done = tt }

pub find-first_failed : (e f : Failed) (o p q : Option DiskContent) → Told (Syncs (Ok tt)) o p → Told (LooksAt First (Err e)) p q → Told (Finds (Err f)) o q
find-first_failed e f None None None s l = tt
find-first_failed e f None None (Some q) s l = absurd l
find-first_failed e f None (Some p) q s l = absurd s
find-first_failed e f (Some old) None q s l = absurd s
find-first_failed e f (Some old) (Some p) None s l = absurd l
find-first_failed e f (Some old) (Some p) (Some q) s l = record {
  each = through-look (StandsAsSome old.images) First (Err e) old p q (through-sync (Ok tt) old p s) l;
  reads = l.reads ∙ s.reads;
  done = tt;
}

pub find-second_failed : (e f : Failed) (first : Option ℕ) (o p q r : Option DiskContent) → Told (Syncs (Ok tt)) o p → Told (LooksAt First (Ok first)) p q → Told (LooksAt Second (Err e)) q r → Told (Finds (Err f)) o r
find-second_failed e f first None None None None s l m = tt
find-second_failed e f first None None None (Some r) s l m = absurd m
find-second_failed e f first None None (Some q) r s l m = absurd l
find-second_failed e f first None (Some p) q r s l m = absurd s
find-second_failed e f first (Some old) None q r s l m = absurd s
find-second_failed e f first (Some old) (Some p) None r s l m = absurd l
find-second_failed e f first (Some old) (Some p) (Some q) None s l m = absurd m
find-second_failed e f first (Some old) (Some p) (Some q) (Some r) s l m = record {
  each = through-look (StandsAsSome old.images) Second (Err e) old q r (through-look (StandsAsSome old.images) First (Ok first) old p q (through-sync (Ok tt) old p s) l) m;
  reads = m.reads ∙ l.reads ∙ s.reads;
  done = tt;
}

pub find-done : (found : Found) (first second : Option ℕ) (o p q r : Option DiskContent)
    → ((f s : Option Open) → first ≡ option_map (λ (o : Open). o.number) f → second ≡ option_map (λ (o : Open). o.number) s → IsNewestOf found f s)
    → Told (Syncs (Ok tt)) o p → Told (LooksAt First (Ok first)) p q → Told (LooksAt Second (Ok second)) q r → Told (Finds (Ok found)) o r
find-done found first second None None None None newest_is s l m = tt
find-done found first second None None None (Some r) newest_is s l m = absurd m
find-done found first second None None (Some q) r newest_is s l m = absurd l
find-done found first second None (Some p) q r newest_is s l m = absurd s
find-done found first second (Some old) None q r newest_is s l m = absurd s
find-done found first second (Some old) (Some p) None r newest_is s l m = absurd l
find-done found first second (Some old) (Some p) (Some q) None newest_is s l m = absurd m
find-done found first second (Some old) (Some p) (Some q) (Some r) newest_is s l m =
    let reads : r.reads ≡ old.reads = m.reads ∙ l.reads ∙ s.reads in
    let to_first : r.reads ≡ p.reads = m.reads ∙ l.reads in
    record {
      each = through-look (StandsAsSome old.images) Second (Ok second) old q r (through-look (StandsAsSome old.images) First (Ok first) old p q (through-sync (Ok tt) old p s) l) m;
      reads = reads;
      done = record {
        settled = m.images ∙ l.images ∙ s.images ∙ ap only (sym reads);
        newest = newest_is (slot_at First r.reads) (slot_at Second r.reads) (l.found ∙ ap (λ (x : List ℕ). option_map (λ (o : Open). o.number) (slot_at First x)) (sym to_first)) (m.found ∙ ap (λ (x : List ℕ). option_map (λ (o : Open). o.number) (slot_at Second x)) (sym m.reads));
      };
    }
