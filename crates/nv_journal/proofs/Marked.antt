-- What one more mark makes of a disk in memory.
use Rattle.std.proofs.Common.{◌≡◌, ℕ, ◌+◌, ◌-◌, ◌^◌, ◌<◌, ◌≤◌, max, List, [], ◌∷◌, ◌++◌, length, take, drop, get_or, refl, sym, ◌∙◌, ap, inl, inr, subst, arith, length-append, length-drop}
use Rattle.std.proofs.lemmas.List.{length-take-le, get_or_append_left, get_or-take, get_or-drop, get_or-append_right, length_push}
use Rattle.std.proofs.lemmas.Bool.{cases_lt}
use Rattle.bml_ports.specs.Counters.{counted}
use Rattle.nv_journal.specs.declared.disks.Extent.{Extent}
use Rattle.nv_journal.specs.declared.memory_disks.Mark.{Mark}
use Rattle.nv_journal.specs.declared.memory_disks.Mark.TheVariants.{Wrote, Synced}
use Rattle.nv_journal.specs.Disks.{Images, IsImage, IsIn, furthest, only, after_write, overwritten}
use Rattle.nv_journal.specs.devices.MemoryMarks.{IsKept, after_mark, images_behind, images_before}
use Rattle.nv_journal.proofs.Torn.{only-is}

behind-push : (first : Images) (marks : List Mark) (mark : Mark) → images_behind first (marks ++ mark ∷ []) ≡ after_mark (images_behind first marks) mark
behind-push first [] mark = refl
behind-push first (m ∷ marks) mark = behind-push (after_mark first m) marks mark

before-push : (first : Images) (marks : List Mark) (mark : Mark) → images_before first (marks ++ mark ∷ []) ≡ images_before first marks ++ images_behind first marks ∷ []
before-push first [] mark = refl
before-push first (m ∷ marks) mark = ap (λ (l : List Images). first ∷ l) (before-push (after_mark first m) marks mark)

-- ---- one more write

in-front : (extents : List Extent) (extent : Extent) (k : ℕ) → IsIn extents k → IsIn (extents ++ extent ∷ []) k
in-front [] extent k inside = absurd inside
in-front (e ∷ extents) extent k (inl here) = inl here
in-front (e ∷ extents) extent k (inr there) = inr (in-front extents extent k there)

in-last : (extents : List Extent) (extent : Extent) (k : ℕ) → extent.place ≤ k → k < extent.place + extent.size → IsIn (extents ++ extent ∷ []) k
in-last [] extent k from to = inl (from, to)
in-last (e ∷ extents) extent k from to = inr (in-last extents extent k from to)

pub furthest-push : (size : ℕ) (extents : List Extent) (extent : Extent) → furthest size (extents ++ extent ∷ []) ≡ max (furthest size extents) (extent.place + extent.size)
furthest-push size [] extent = omega arith
furthest-push size (e ∷ extents) extent = let rest = furthest-push size extents extent in omega (arith, rest)

pub furthest-least : (size : ℕ) (extents : List Extent) → size ≤ furthest size extents
furthest-least size [] = omega arith
furthest-least size (e ∷ extents) = let rest = furthest-least size extents in omega (arith, rest)

-- an image stays one
pub image-stays : (images : Images) (image : List ℕ) (place size : ℕ) → IsImage images image → IsImage (after_write images place size) image
image-stays images image place size is =
    let extent : Extent = record { place = place; size = size } in
    record {
      no_shorter = is.no_shorter;
      no_longer = omega (arith, is.no_longer, furthest-push (length images.settled) images.written extent);
      elsewhere = λ k within out. is.elsewhere k within (λ inside. out (in-front images.written extent k inside));
    }

length-over : (old : List ℕ) (place : ℕ) (bytes : List ℕ) → place ≤ length old → length (overwritten old place bytes) ≡ max (length old) (place + length bytes)
length-over old place bytes within =
    omega (arith, length-append (take place old) (bytes ++ drop (place + length bytes) old), length-append bytes (drop (place + length bytes) old), length-take-le place old within, length-drop (place + length bytes) old)

over-below : (old : List ℕ) (place : ℕ) (bytes : List ℕ) (k : ℕ) → place ≤ length old → k < place → get_or (overwritten old place bytes) k 0 ≡ get_or old k 0
over-below old place bytes k within low =
    get_or_append_left (take place old) (bytes ++ drop (place + length bytes) old) 0 k (omega (arith, length-take-le place old within)) ∙ get_or-take place old k 0 low

over-above : (old : List ℕ) (place : ℕ) (bytes : List ℕ) (k : ℕ) → place ≤ length old → place + length bytes ≤ k → get_or (overwritten old place bytes) k 0 ≡ get_or old k 0
over-above old place bytes k within high =
    let tail = drop (place + length bytes) old in
    let first = get_or-append_right (take place old) (bytes ++ tail) place k 0 (length-take-le place old within) (omega arith) in
    let second = get_or-append_right bytes tail (length bytes) (k - place) 0 refl (omega arith) in
    let n : place + length bytes + (k - place - length bytes) ≡ k = omega arith in
    first ∙ second ∙ get_or-drop (place + length bytes) old (k - place - length bytes) 0 ∙ ap (λ (m : ℕ). get_or old m 0) n

-- and what is then read is one
pub image-written : (images : Images) (reads : List ℕ) (place : ℕ) (bytes : List ℕ) → place ≤ length reads → IsImage images reads → IsImage (after_write images place (length bytes)) (overwritten reads place bytes)
image-written images reads place bytes within is =
    let extent : Extent = record { place = place; size = length bytes } in
    record {
      no_shorter = omega (arith, is.no_shorter, length-over reads place bytes within);
      no_longer = omega (arith, is.no_longer, length-over reads place bytes within, furthest-push (length images.settled) images.written extent);
      elsewhere = λ k inside out. old_byte k out ∙ is.elsewhere k inside (λ was. out (in-front images.written extent k was));
    }
  where
    old_byte : (k : ℕ) → (IsIn (images.written ++ record { place = place; size = length bytes } ∷ []) k → ⊥) → get_or (overwritten reads place bytes) k 0 ≡ get_or reads k 0
    old_byte k out = elim (cases_lt k place) [
      | inl low ↦ over-below reads place bytes k within low
      | inr from ↦ elim (cases_lt k (place + length bytes)) [
        | inl to ↦ absurd (out (in-last images.written (record { place = place; size = length bytes }) k from to))
        | inr high ↦ over-above reads place bytes k within high
      ]
    ]

-- ---- what is kept

module _ (first bytes settled : List ℕ) (written : List Extent) (marks : List Mark) (bytes_room settled_room written_room marks_room most made : ℕ) (kept : IsKept first bytes settled written marks bytes_room settled_room written_room marks_room most made) where
  pub past-push : (after : List Mark) (mark : Mark) → after ≡ marks ++ mark ∷ [] → images_before (only first) after ≡ images_before (only first) marks ++ record { settled = settled; written = written } ∷ []
  past-push after mark is = ap (images_before (only first)) is ∙ before-push (only first) marks mark ∙ ap (λ (i : Images). images_before (only first) marks ++ i ∷ []) kept.leads

  pub kept-written : (extent : Extent) (written_after : List Extent) (marks_after : List Mark) (written_space marks_space made_after : ℕ) → written_after ≡ written ++ extent ∷ [] → marks_after ≡ marks ++ Wrote extent ∷ [] → written_room ≤ written_space → marks_room ≤ marks_space
      → made < most → most < 2 ^ 64 → made_after ≡ counted made → IsKept first bytes settled written_after marks_after bytes_room settled_room written_space marks_space most made_after
  kept-written extent written_after marks_after written_space marks_space made_after w m ws ms room small count = record {
    leads = ap (images_behind (only first)) m ∙ behind-push (only first) marks (Wrote extent) ∙ ap (λ (i : Images). after_write i extent.place extent.size) kept.leads ∙ ap (λ (l : List Extent). record { settled = settled; written = l }) (sym w);
    read = subst (λ (l : List Extent). IsImage (record { settled = settled; written = l }) bytes) (sym w) (image-stays (record { settled = settled; written = written }) bytes extent.place extent.size kept.read);
    bytes_fit = kept.bytes_fit;
    bytes_hold = kept.bytes_hold;
    settled_hold = kept.settled_hold;
    written_hold = omega (arith, kept.written_hold, ws);
    marks_hold = omega (arith, kept.marks_hold, ms);
    written_fit = omega (arith, kept.written_fit, ap length w, ap length m, length_push written extent, length_push marks (Wrote extent));
    marks_fit = omega (arith, kept.marks_fit, ap length m, length_push marks (Wrote extent), count, room, small);
  }

  pub kept-settled : (array : List ℕ) (size : ℕ) (settled_after : List ℕ) (written_after : List Extent) (marks_after : List Mark) (settled_space written_space marks_space made_after : ℕ) → take size array ≡ bytes → settled_after ≡ bytes → written_after ≡ []
      → marks_after ≡ marks ++ Synced array size ∷ [] → settled_room ≤ settled_space → written_room ≤ written_space → marks_room ≤ marks_space → made < most → most < 2 ^ 64 → made_after ≡ counted made
      → IsKept first bytes settled_after written_after marks_after bytes_room settled_space written_space marks_space most made_after
  kept-settled array size settled_after written_after marks_after settled_space written_space marks_space made_after front s w m ss ws ms room small count =
      let images : record { settled = settled_after; written = written_after } ≡ only bytes = λ i. record { settled = s i; written = w i } in
      record {
        leads = ap (images_behind (only first)) m ∙ behind-push (only first) marks (Synced array size) ∙ ap only front ∙ sym images;
        read = subst (λ (i : Images). IsImage i bytes) (sym images) (only-is bytes);
        bytes_fit = kept.bytes_fit;
        bytes_hold = kept.bytes_hold;
        settled_hold = omega (arith, kept.settled_hold, ss);
        written_hold = omega (arith, kept.written_hold, ws);
        marks_hold = omega (arith, kept.marks_hold, ms);
        written_fit = omega (arith, ap length w);
        marks_fit = omega (arith, kept.marks_fit, ap length m, length_push marks (Synced array size), count, room, small);
      }
