-- The calls of a step, one behind the other, where the content is told and where it isn't.
use Rattle.std.proofs.Common.{◌≡◌, ℕ, ◌+◌, ◌≤◌, Bool, true, false, List, [], ◌∷◌, length, take, drop, get_or, Option, None, Some, Result, Ok, Err, OnOk, refl, sym, ◌∙◌, ap, inl, inr, subst, arith}
use Rattle.bml_ports.specs.declared.outside.Failed.{Failed}
use Rattle.nv_journal.specs.declared.slots.Slot.{Slot}
use Rattle.nv_journal.specs.Disks.{Images, IsImage, only, after_write, overwritten, DiskContent, Writes, Syncs, Told, WhereTold, IsSettled}
use Rattle.nv_journal.specs.Histories.{Leaves, Throughout}
use Rattle.bml_bytes.specs.Areas.{area_length}
use Rattle.nv_journal.specs.Slots.{Open, place_of, gate_at, after_gate, slot_at, number_after, newest, stands, IsSpare, IsShut}
use Rattle.std.specs.Option.{option_map}
use Rattle.nv_journal.specs.devices.Stores.{Looks}
use Rattle.nv_journal.specs.Steps.{StandsAs, StandsAsOrFor, IsReady, IsClosed, IsFilled, Closes, Fills, Opens}
use Rattle.nv_journal.proofs.Torn.{Torn, torn, untouched, only-image, first-written, rest-written, length-written}
use Rattle.nv_journal.proofs.StepLaws.{torn-close, torn-fill, torn-open, opened-newest, opened-slot, same-gate}
use Rattle.nv_journal.proofs.Moments.{started, goes_on}

abbrev Done : Type 0
Done = Result (Unit {0}) Failed

-- ---- one call

settled-leaves : (P : List ℕ → Type 0) (disk : DiskContent) → IsSettled disk → P disk.reads → Leaves P disk.images
settled-leaves P disk settled here image is = subst P (sym (only-image disk.reads image (subst (λ (i : Images). IsImage i image) settled is))) here

written-torn : (place : ℕ) (bytes : List ℕ) (result : Done) (old new : DiskContent) → IsSettled old → Writes place bytes result old new → (image : List ℕ) → IsImage new.images image → Torn place (length bytes) old.reads image
written-torn place bytes result old new settled w image is = elim w.images [
  | inl adds ↦ torn place (length bytes) old.reads image (subst (λ (i : Images). IsImage i image) (adds ∙ ap (λ (i : Images). after_write i place (length bytes)) settled) is)
  | inr stays ↦ untouched place (length bytes) old.reads image (only-image old.reads image (subst (λ (i : Images). IsImage i image) (stays.1 ∙ settled) is))
]

pub synced-leaves : (P : List ℕ → Type 0) (result : Done) (old new : DiskContent) → Syncs result old new → Leaves P old.images → Leaves P new.images
synced-leaves P (Ok x) old new s before image is = subst P (sym (only-image old.reads image (subst (λ (i : Images). IsImage i image) s.images is))) (before old.reads s.step.before)
synced-leaves P (Err e) old new s before image is = before image (subst (λ (i : Images). IsImage i image) s.images is)

-- a write and a sync
module _ (P : List ℕ → Type 0) (place : ℕ) (bytes : List ℕ) (start old mid new : DiskContent) (settled : IsSettled old) (before : Throughout P start old) (leads : (image : List ℕ) → Torn place (length bytes) old.reads image → P image) where
  pub written : (result : Done) → Writes place bytes result old mid → Throughout P start mid
  written result w = goes_on P start old mid before w.step (λ image is. leads image (written-torn place bytes result old mid settled w image is))

  pub synced : (result behind : Done) → Writes place bytes result old mid → Syncs behind mid new → Throughout P start new
  synced result behind w s = goes_on P start mid new (written result w) s.step (synced-leaves P behind mid new s (λ image is. leads image (written-torn place bytes result old mid settled w image is)))

-- behind both, where they succeed, reads give the bytes that were written, and nothing else is left
pub record Landed (place : ℕ) (bytes : List ℕ) (old new : DiskContent) : Type 0 where
  pub settled : IsSettled new
  pub reads : new.reads ≡ overwritten old.reads place bytes
  pub torn : Torn place (length bytes) old.reads new.reads

landed : (place : ℕ) (bytes : List ℕ) (old mid new : DiskContent) → IsSettled old → Writes place bytes (Ok tt) old mid → Syncs (Ok tt) mid new → Landed place bytes old new
landed place bytes old mid new settled w s = record {
  settled = s.images ∙ ap only (sym s.reads);
  reads = s.reads ∙ w.reads;
  torn = subst (λ (image : List ℕ). Torn place (length bytes) old.reads image) (sym s.reads) (written-torn place bytes (Ok tt) old mid settled w mid.reads w.step.after);
}

stands-as : (x y : List ℕ) → newest y ≡ newest x → StandsAs x y
stands-as x y same = ap (λ (o : Option Open). option_map (λ (slot : Open). slot.area) o) same

-- ---- the first step

look-through : (slot : Slot) (result : Result Bool Failed) (old new : DiskContent) → IsReady slot old → Looks (place_of slot) result old new → Throughout (StandsAs old.reads) old new
look-through slot result old new ready look =
    let here = settled-leaves (StandsAs old.reads) old ready.settled refl in
    goes_on (StandsAs old.reads) old old new (started (StandsAs old.reads) old here refl) look.step (λ image is. here image (subst (λ (i : Images). IsImage i image) look.images is))

look-ready : (slot : Slot) (result : Result Bool Failed) (old new : DiskContent) → IsReady slot old → Looks (place_of slot) result old new → IsReady slot new
look-ready slot result old new ready look = record {
  settled = look.images ∙ ready.settled ∙ ap only (sym look.reads);
  spare = subst (λ (x : List ℕ). IsSpare slot x) (sym look.reads) ready.spare;
  within = omega (arith, ready.within, ap length look.reads);
}

pub close-look_failed : (slot : Slot) (e f : Failed) (o p : Option DiskContent) → WhereTold (IsReady slot) o → Told (Looks (place_of slot) (Err e)) o p → Told (Closes slot (Err f)) o p
close-look_failed slot e f None None ready look = tt
close-look_failed slot e f None (Some new) ready look = absurd look
close-look_failed slot e f (Some old) None ready look = absurd look
close-look_failed slot e f (Some old) (Some new) ready look = record { each = look-through slot (Err e) old new ready look; done = tt }

pub close-left : (slot : Slot) (o p : Option DiskContent) → WhereTold (IsReady slot) o → Told (Looks (place_of slot) (Ok true)) o p → Told (Closes slot (Ok tt)) o p
close-left slot None None ready look = tt
close-left slot None (Some new) ready look = absurd look
close-left slot (Some old) None ready look = absurd look
close-left slot (Some old) (Some new) ready look = record {
  each = look-through slot (Ok true) old new ready look;
  done = (
    record {
      settled = (look-ready slot (Ok true) old new ready look).settled;
      shut = subst (λ (bytes : List ℕ). IsShut slot bytes) (sym look.reads) (look.found.0 refl);
    },
    ap newest look.reads,
  );
}

pub close-place : (slot : Slot) (o p : Option DiskContent) → WhereTold (IsReady slot) o → Told (Looks (place_of slot) (Ok false)) o p → WhereTold (λ (disk : DiskContent). place_of slot ≤ length disk.reads) p
close-place slot None None ready look = tt
close-place slot None (Some new) ready look = absurd look
close-place slot (Some old) None ready look = tt
close-place slot (Some old) (Some new) ready look = (look-ready slot (Ok false) old new ready look).within

close-leads : (slot : Slot) (old new : DiskContent) → IsReady slot old → Looks (place_of slot) (Ok false) old new → (image : List ℕ) → Torn (place_of slot) 1 new.reads image → newest image ≡ newest old.reads
close-leads slot old new ready look image t =
    torn-close slot old.reads image ready.spare ready.within (λ shut. let wrong : false ≡ true = look.found.1 shut in absurd (cc)) (subst (λ (x : List ℕ). Torn (place_of slot) 1 x image) look.reads t)

pub close-write_failed : (slot : Slot) (e f : Failed) (o p q : Option DiskContent) → WhereTold (IsReady slot) o → Told (Looks (place_of slot) (Ok false)) o p → Told (Writes (place_of slot) (0 ∷ []) (Err e)) p q → Told (Closes slot (Err f)) o q
close-write_failed slot e f None None None ready look w = tt
close-write_failed slot e f None None (Some mid) ready look w = absurd w
close-write_failed slot e f None (Some new) q ready look w = absurd look
close-write_failed slot e f (Some old) None q ready look w = absurd look
close-write_failed slot e f (Some old) (Some new) None ready look w = absurd w
close-write_failed slot e f (Some old) (Some new) (Some mid) ready look w = record {
  each = written (StandsAs old.reads) (place_of slot) (0 ∷ []) old new mid mid (look-ready slot (Ok false) old new ready look).settled (look-through slot (Ok false) old new ready look) (λ image t. stands-as old.reads image (close-leads slot old new ready look image t)) (Err e) w;
  done = tt;
}

close-done : (slot : Slot) (result : Done) (old new mid end : DiskContent) → IsReady slot old → Looks (place_of slot) (Ok false) old new → Writes (place_of slot) (0 ∷ []) (Ok tt) new mid → Syncs result mid end → OnOk result (IsClosed slot end × (newest end.reads ≡ newest old.reads))
close-done slot (Err e) old new mid end ready look w s = tt
close-done slot (Ok tt) old new mid end ready look w s =
    let before = look-ready slot (Ok false) old new ready look in
    let l = landed (place_of slot) (0 ∷ []) new mid end before.settled w s in
    let gate : gate_at slot end.reads ≡ 0 = ap (gate_at slot) l.reads ∙ first-written new.reads (place_of slot) 0 [] before.within in (
      record {
        settled = l.settled;
        shut = record {
          within = omega (arith, ap length l.reads, length-written new.reads (place_of slot) (0 ∷ []) before.within);
          gate = λ is. let wrong : 0 ≡ 1 = sym gate ∙ is in absurd (omega (arith, wrong));
        };
      },
      close-leads slot old new ready look end.reads l.torn,
    )

pub close-synced : (slot : Slot) (result : Done) (o p q r : Option DiskContent) → WhereTold (IsReady slot) o → Told (Looks (place_of slot) (Ok false)) o p → Told (Writes (place_of slot) (0 ∷ []) (Ok tt)) p q → Told (Syncs result) q r → Told (Closes slot result) o r
close-synced slot result None None None None ready look w s = tt
close-synced slot result None None None (Some end) ready look w s = absurd s
close-synced slot result None None (Some mid) r ready look w s = absurd w
close-synced slot result None (Some new) q r ready look w s = absurd look
close-synced slot result (Some old) None q r ready look w s = absurd look
close-synced slot result (Some old) (Some new) None r ready look w s = absurd w
close-synced slot result (Some old) (Some new) (Some mid) None ready look w s = absurd s
close-synced slot result (Some old) (Some new) (Some mid) (Some end) ready look w s = record {
  each = synced (StandsAs old.reads) (place_of slot) (0 ∷ []) old new mid end (look-ready slot (Ok false) old new ready look).settled (look-through slot (Ok false) old new ready look) (λ image t. stands-as old.reads image (close-leads slot old new ready look image t)) (Ok tt) result w s;
  done = close-done slot result old new mid end ready look w s;
}

-- ---- the second step

own-start : (P : List ℕ → Type 0) (disk : DiskContent) → IsSettled disk → P disk.reads → Throughout P disk disk
own-start P disk settled here = started P disk (settled-leaves P disk settled here) here

module _ (slot : Slot) (number : ℕ) (area : List ℕ) (full : length area ≡ area_length) where
  fill-leads : (old : DiskContent) → IsClosed slot old → (image : List ℕ) → Torn (place_of slot + 1) (length (number ∷ area)) old.reads image → newest image ≡ newest old.reads
  fill-leads old closed image t =
      let size : length (number ∷ area) ≡ 1 + area_length = omega (arith, full) in
      torn-fill slot old.reads image closed.shut (subst (λ (n : ℕ). Torn (place_of slot + 1) n old.reads image) size t)

  pub fill-place : (o : Option DiskContent) → WhereTold (IsClosed slot) o → WhereTold (λ (disk : DiskContent). place_of slot + 1 ≤ length disk.reads) o
  fill-place None closed = tt
  fill-place (Some old) closed = omega (arith, closed.shut.within)

  pub fill-write_failed : (e f : Failed) (o q : Option DiskContent) → WhereTold (IsClosed slot) o → Told (Writes (place_of slot + 1) (number ∷ area) (Err e)) o q → Told (Fills slot area (Err f)) o q
  fill-write_failed e f None None closed w = tt
  fill-write_failed e f None (Some mid) closed w = absurd w
  fill-write_failed e f (Some old) None closed w = absurd w
  fill-write_failed e f (Some old) (Some mid) closed w = record {
    each = written (StandsAs old.reads) (place_of slot + 1) (number ∷ area) old old mid mid closed.settled (own-start (StandsAs old.reads) old closed.settled refl) (λ image t. stands-as old.reads image (fill-leads old closed image t)) (Err e) w;
    done = tt;
  }

  fill-done : (result : Done) (old mid end : DiskContent) → IsClosed slot old → number ≡ number_after (newest old.reads) → Writes (place_of slot + 1) (number ∷ area) (Ok tt) old mid → Syncs result mid end → OnOk result (IsFilled slot area end × (newest end.reads ≡ newest old.reads))
  fill-done (Err e) old mid end closed due w s = tt
  fill-done (Ok tt) old mid end closed due w s =
      let within : place_of slot + 1 ≤ length old.reads = omega (arith, closed.shut.within) in
      let l = landed (place_of slot + 1) (number ∷ area) old mid end closed.settled w s in
      let same = fill-leads old closed end.reads l.torn in
      let number_is : get_or end.reads (place_of slot + 1) 0 ≡ number_after (newest end.reads) =
      ap (λ (x : List ℕ). get_or x (place_of slot + 1) 0) l.reads ∙ first-written old.reads (place_of slot + 1) number area within ∙ due ∙ ap number_after (sym same) in
      let two : place_of slot + 2 ≡ place_of slot + 1 + 1 = omega arith in
      let area_is : take area_length (drop (place_of slot + 2) end.reads) ≡ area =
      ap (λ (n : ℕ). take area_length (drop n end.reads)) two ∙ ap (λ (x : List ℕ). take area_length (drop (place_of slot + 1 + 1) x)) l.reads ∙ rest-written old.reads (place_of slot + 1) number area_length area within full in (
        record {
          settled = l.settled;
          shut = record {
            within = omega (arith, closed.shut.within, l.torn.no_shorter);
            gate = same-gate slot (length (number ∷ area)) old.reads end.reads closed.shut l.torn;
          };
          whole = omega (arith, ap length l.reads, length-written old.reads (place_of slot + 1) (number ∷ area) within, full);
          behind = λ i. record { number = number_is i; area = area_is i };
        },
        same,
      )

  pub fill-synced : (result : Done) (o q r : Option DiskContent) → WhereTold (IsClosed slot) o → WhereTold (λ (disk : DiskContent). number ≡ number_after (newest disk.reads)) o → Told (Writes (place_of slot + 1) (number ∷ area) (Ok tt)) o q → Told (Syncs result) q r → Told (Fills slot area result) o r
  fill-synced result None None None closed due w s = tt
  fill-synced result None None (Some end) closed due w s = absurd s
  fill-synced result None (Some mid) r closed due w s = absurd w
  fill-synced result (Some old) None r closed due w s = absurd w
  fill-synced result (Some old) (Some mid) None closed due w s = absurd s
  fill-synced result (Some old) (Some mid) (Some end) closed due w s = record {
    each = synced (StandsAs old.reads) (place_of slot + 1) (number ∷ area) old old mid end closed.settled (own-start (StandsAs old.reads) old closed.settled refl) (λ image t. stands-as old.reads image (fill-leads old closed image t)) (Ok tt) result w s;
    done = fill-done result old mid end closed due w s;
  }

-- ---- the third step

module _ (slot : Slot) (area : List ℕ) where
  stands-for : (old : DiskContent) → IsFilled slot area old → (image : List ℕ) → newest image ≡ Some (after_gate slot old.reads) → stands image ≡ Some area
  stands-for old filled image is = ap (λ (o : Option Open). option_map (λ (s : Open). s.area) o) is ∙ ap (λ (o : Open). Some o.area) filled.behind

  open-leads : (old : DiskContent) → IsFilled slot area old → (image : List ℕ) → Torn (place_of slot) 1 old.reads image → StandsAsOrFor old.reads area image
  open-leads old filled image t = elim (torn-open slot old.reads image filled.shut filled.whole (ap (λ (o : Open). o.number) filled.behind) t) [
    | inl same ↦ inl (stands-as old.reads image same)
    | inr is ↦ inr (stands-for old filled image is)
  ]

  pub open-place : (o : Option DiskContent) → WhereTold (IsFilled slot area) o → WhereTold (λ (disk : DiskContent). place_of slot ≤ length disk.reads) o
  open-place None filled = tt
  open-place (Some old) filled = omega (arith, filled.shut.within)

  pub open-write_failed : (e f : Failed) (o q : Option DiskContent) → WhereTold (IsFilled slot area) o → Told (Writes (place_of slot) (1 ∷ []) (Err e)) o q → Told (Opens slot area (Err f)) o q
  open-write_failed e f None None filled w = tt
  open-write_failed e f None (Some mid) filled w = absurd w
  open-write_failed e f (Some old) None filled w = absurd w
  open-write_failed e f (Some old) (Some mid) filled w = record {
    each = written (StandsAsOrFor old.reads area) (place_of slot) (1 ∷ []) old old mid mid filled.settled (own-start (StandsAsOrFor old.reads area) old filled.settled (inl refl)) (open-leads old filled) (Err e) w;
    done = tt;
  }

  open-done : (result : Done) (old mid end : DiskContent) → IsFilled slot area old → Writes (place_of slot) (1 ∷ []) (Ok tt) old mid → Syncs result mid end → OnOk result (IsSettled end × (newest end.reads ≡ Some (after_gate slot old.reads)) × (slot_at slot end.reads ≡ Some (after_gate slot old.reads)) × (stands end.reads ≡ Some area))
  open-done (Err e) old mid end filled w s = tt
  open-done (Ok tt) old mid end filled w s =
      let within : place_of slot ≤ length old.reads = omega (arith, filled.shut.within) in
      let l = landed (place_of slot) (1 ∷ []) old mid end filled.settled w s in
      let gate : gate_at slot end.reads ≡ 1 = ap (gate_at slot) l.reads ∙ first-written old.reads (place_of slot) 1 [] within in
      let is = opened-newest slot old.reads end.reads filled.shut filled.whole (ap (λ (o : Open). o.number) filled.behind) l.torn gate in
      (l.settled, is, opened-slot slot old.reads end.reads filled.whole l.torn gate, stands-for old filled end.reads is)

  pub open-synced : (result : Done) (o q r : Option DiskContent) → WhereTold (IsFilled slot area) o → Told (Writes (place_of slot) (1 ∷ []) (Ok tt)) o q → Told (Syncs result) q r → Told (Opens slot area result) o r
  open-synced result None None None filled w s = tt
  open-synced result None None (Some end) filled w s = absurd s
  open-synced result None (Some mid) r filled w s = absurd w
  open-synced result (Some old) None r filled w s = absurd w
  open-synced result (Some old) (Some mid) None filled w s = absurd s
  open-synced result (Some old) (Some mid) (Some end) filled w s = record {
    each = synced (StandsAsOrFor old.reads area) (place_of slot) (1 ∷ []) old old mid end filled.settled (own-start (StandsAsOrFor old.reads area) old filled.settled (inl refl)) (open-leads old filled) (Ok tt) result w s;
    done = open-done result old mid end filled w s;
  }
