-- What taking in bytes says of the sections ahead, and how a section's bytes are gathered.
use Rattle.std.proofs.Common.{◌≡◌, ℕ, ◌+◌, ◌-◌, ◌<◌, ◌≤◌, min, true, false, List, [], ◌∷◌, ◌++◌, length, take, drop, refl, sym, ap, subst, ◌∙◌, arith, append_assoc, append-nil, length-append, length-take, length-drop, Some, None, slice_index}
use Rattle.std.proofs.lemmas.Bool.{false_from_ne_true, both_ways}
use Rattle.std.proofs.Math.Seq.{take-add}
use Rattle.std.proofs.lemmas.List.{take-append-drop, take_all, drop_all}
use Rattle.ts_sections.specs.Sections.{bytes_to_mark, section_size, begins_whole}
use Rattle.ts_sections.specs.devices.Ahead.{Tokens, sections_of_open, sections_from}
use Rattle.ts_sections.specs.devices.Piece.{PieceState, IsPart, known_of, IsSound, TakesAll, TakesSection}
use Rattle.ts_sections.specs.declared.piece.Stage.{Stage}
use Rattle.ts_sections.specs.declared.piece.Stage.TheVariants.{Unread, Gathering, Given}
use Rattle.ts_sections.proofs.PieceLemmas.{IsWholeFront-from, IsWholeFront-to, section_size-append, first-append, sections_of_piece-none, sections_of_piece-stuffing, sections_of_piece-whole}
use Rattle.ts_sections.proofs.TokenLemmas.{sections_from-bytes, sections_from-unread, sections_from-whole}

-- a part of a section is none
part_is_none : (bytes : List ℕ) → IsPart bytes → begins_whole bytes ≡ false
part_is_none bytes part =
    false_from_ne_true (begins_whole bytes) (λ h. let front = IsWholeFront-from bytes h in omega (arith, part.short front.header, front.size))

-- what is left of a piece at its end is no section
pub sections_of_open-end : (stage : Stage) (bytes : List ℕ) → IsSound stage bytes → sections_of_open (known_of stage bytes) [] ≡ []
sections_of_open-end Unread bytes h = refl
sections_of_open-end Gathering bytes h = rw (append-nil bytes) (sections_of_piece-none bytes (part_is_none bytes h))
sections_of_open-end Given bytes h = sections_of_piece-none [] refl

pub TakesAll-known : (known bytes : List ℕ) → IsPart (known ++ bytes) → TakesAll (Some known) (Some (known ++ bytes)) bytes
TakesAll-known known bytes part = record {
  ended = sections_of_open-end Gathering (known ++ bytes) part;
  ahead = sections_from-bytes known bytes;
}

-- bytes that begin no whole section and no stuffing are part of a section
pub part-start : (bytes : List ℕ) → begins_whole bytes ≡ false → (slice_index bytes 0 ≡ 255 → ⊥) → IsPart bytes
part-start bytes none first =
    let lacks : 3 ≤ length bytes → section_size bytes ≤ length bytes → ⊥ = λ long fits. both_ways (begins_whole bytes) none (IsWholeFront-to bytes (record { first = first; header = long; size = fits })) in
    record { first = first; short = λ long. let l = lacks long in omega (arith, l) }

pub TakesAll-unread : (bytes : List ℕ) → TakesAll None None bytes
TakesAll-unread bytes = record { ended = refl; ahead = sections_from-unread bytes }

stuffed : (bytes more : List ℕ) → slice_index bytes 0 ≡ 255 → slice_index (bytes ++ more) 0 ≡ 255
stuffed [] more e = absurd (omega arith)
stuffed (b ∷ bs) more e = e

pub TakesAll-stuffing : (bytes : List ℕ) → slice_index bytes 0 ≡ 255 → TakesAll (Some []) None bytes
TakesAll-stuffing bytes e = record {
  ended = refl;
  ahead = λ behind. sections_from-bytes [] bytes behind ∙ rw (sections_of_piece-stuffing (bytes ++ bytes_to_mark behind.present) (stuffed bytes (bytes_to_mark behind.present) e)) refl;
}

pub TakesSection-whole : (bytes : List ℕ) → begins_whole bytes ≡ true → TakesSection (Some []) (Some []) bytes (take (section_size bytes) bytes) (section_size bytes)
TakesSection-whole bytes h = record {
  within = (IsWholeFront-from bytes h).size;
  ahead = λ behind. sections_from-bytes [] bytes behind ∙ sections_from-whole bytes behind h ∙ ap (λ x. take (section_size bytes) bytes ∷ x) (sym (sections_from-bytes [] (drop (section_size bytes) bytes) behind));
}

-- a whole section, and bytes behind it
sections_from-joined : (section bytes : List ℕ) (behind : Tokens) → begins_whole section ≡ true → section_size section ≡ length section → sections_from (Some (section ++ bytes)) behind ≡ section ∷ sections_from (Some bytes) behind
sections_from-joined section bytes behind h e =
    let tail = bytes ++ bytes_to_mark behind.present in
    let first = sections_of_piece-whole section tail h in
    let taken = ap (λ n. take n section) e ∙ take_all (length section) section (omega arith) in
    let left = ap (λ n. drop n section) e ∙ drop_all (length section) section (omega arith) in
    rw (append_assoc section bytes (bytes_to_mark behind.present), first, taken, left) refl

pub TakesSection-joined : (known bytes section : List ℕ) (count : ℕ) → section ≡ known ++ take count bytes → count ≤ length bytes → begins_whole section ≡ true → section_size section ≡ length section → TakesSection (Some known) (Some []) bytes section count
TakesSection-joined known bytes section count e within h size = record {
  within = within;
  ahead = λ behind.
      let rest = drop count bytes in
      let split : known ++ bytes ≡ section ++ rest = ap (λ x. known ++ x) (sym (take-append-drop count bytes)) ∙ sym (append_assoc known (take count bytes) rest) ∙ ap (λ x. x ++ rest) (sym e) in
      sections_from-bytes known bytes behind ∙ ap (λ x. sections_from (Some x) behind) split ∙ sections_from-joined section rest behind h size ∙ ap (λ x. section ∷ x) (sym (sections_from-bytes [] rest behind));
}

-- the stage of a piece that was begun
pub stage-begun : (stage : Stage) (bytes : List ℕ) → known_of stage bytes ≡ Some bytes → 0 < length bytes → stage ≡ Gathering
stage-begun Unread bytes e h = cc
stage-begun Gathering bytes e h = refl
stage-begun Given bytes e h = let empty : [] ≡ bytes = cc in absurd (omega (arith, ap length empty))

-- a section's first bytes, and fewer than its header asks for
pub gather-header : (known bytes gathered : List ℕ) (count : ℕ) → IsPart known → 0 < length known → count ≡ min (3 - length known) (length bytes) → gathered ≡ known ++ take count bytes → length gathered < 3 → (count ≡ length bytes) × IsPart gathered
gather-header known bytes gathered count part begun c e short =
    let long = ap length e ∙ length-append known (take count bytes) in
    let taken = length-take count bytes in (
      omega arith,
      record {
        first = λ h. part.first (sym (first-append known (take count bytes) begun) ∙ ap (λ x. slice_index x 0) (sym e) ∙ h);
        short = λ h. omega arith;
      },
    )

-- a section's header and more, not all that it asks for
pub gather-body : (known bytes header rest gathered : List ℕ) (count more : ℕ) → IsPart known → 0 < length known → count ≡ min (3 - length known) (length bytes) → header ≡ known ++ take count bytes → 3 ≤ length header
    → length rest ≡ length bytes - count → more ≡ min (section_size header - length header) (length rest) → gathered ≡ header ++ take more rest → begins_whole gathered ≡ false → (count + more ≡ length bytes) × IsPart gathered
gather-body known bytes header rest gathered count more part begun c e long left m e' none =
    let first : slice_index gathered 0 ≡ slice_index known 0 = ap (λ x. slice_index x 0) e' ∙ first-append header (take more rest) (omega arith) ∙ ap (λ x. slice_index x 0) e ∙ first-append known (take count bytes) begun in
    let size : section_size gathered ≡ section_size header = ap section_size e' ∙ section_size-append header (take more rest) long in
    let grown = ap length e' ∙ length-append header (take more rest) in
    let taken = length-take more rest in
    let lacks : section_size gathered ≤ length gathered → ⊥ = λ fits. both_ways (begins_whole gathered) none (IsWholeFront-to gathered (record { first = λ h. part.first (sym first ∙ h); header = omega arith; size = fits })) in
    let short : length gathered < section_size gathered = omega (arith, lacks) in
    (omega arith, record { first = λ h. part.first (sym first ∙ h); short = λ _. short })

-- the slice behind the first `count` bytes
pub rest-all : (bytes : List ℕ) (count : ℕ) → count ≤ length bytes → take (length bytes - count) (drop count bytes) ≡ drop count bytes
rest-all bytes count h = take_all (length bytes - count) (drop count bytes) (omega (arith, length-drop count bytes))

pub gather-items : (known bytes header gathered : List ℕ) (count more : ℕ) → count ≤ length bytes → header ≡ known ++ take count bytes → gathered ≡ header ++ take more (take (length bytes - count) (drop count bytes)) → gathered ≡ known ++ take (count + more) bytes
gather-items known bytes header gathered count more h e e' =
    e' ∙ ap (λ x. header ++ take more x) (rest-all bytes count h) ∙ ap (λ x. x ++ take more (drop count bytes)) e ∙ append_assoc known (take count bytes) (take more (drop count bytes)) ∙ ap (λ x. known ++ x) (sym (take-add count more bytes))

-- what is known of a piece whose view is `state`, where it was begun
known-begun : (stage : Stage) (items : List ℕ) (state : PieceState) → record { known = known_of stage items; gathered = items } ≡ state → state.known ≡ Some state.gathered → known_of stage items ≡ Some items
known-begun stage items state view e = ap (λ s. s.known) view ∙ e ∙ ap (λ s. Some s.gathered) (sym view)

known-state : (stage : Stage) (items : List ℕ) (state : PieceState) → record { known = known_of stage items; gathered = items } ≡ state → state.known ≡ Some state.gathered → state.known ≡ Some items
known-state stage items state view e = e ∙ ap (λ s. Some s.gathered) (sym view)

begun-state : (stage : Stage) (items : List ℕ) (state : PieceState) → record { known = known_of stage items; gathered = items } ≡ state → 0 < length state.gathered → 0 < length items
begun-state stage items state view h = subst (λ s. 0 < length s.gathered) (sym view) h

pub go_on-all : (stage : Stage) (items gathered bytes : List ℕ) (count : ℕ) (state : PieceState) → record { known = known_of stage items; gathered = items } ≡ state → state.known ≡ Some state.gathered → 0 < length state.gathered
    → gathered ≡ items ++ take count bytes → count ≡ length bytes → IsPart gathered → TakesAll state.known (known_of stage gathered) bytes
go_on-all stage items gathered bytes count state view e h items_is all part =
    let begun = stage-begun stage items (known-begun stage items state view e) (begun-state stage items state view h) in
    let taken = items_is ∙ ap (λ n. items ++ take n bytes) all ∙ ap (λ x. items ++ x) (take_all (length bytes) bytes (omega arith)) in
    rw (known-state stage items state view e, begun, taken) (TakesAll-known items bytes (rw taken at part))

pub go_on-section : (stage : Stage) (items gathered bytes : List ℕ) (count : ℕ) (state : PieceState) → record { known = known_of stage items; gathered = items } ≡ state → state.known ≡ Some state.gathered
    → gathered ≡ items ++ take count bytes → count ≤ length bytes → begins_whole gathered ≡ true → section_size gathered ≡ length gathered → TakesSection state.known (Some []) bytes gathered count
go_on-section stage items gathered bytes count state view e items_is within whole size =
    rw (known-state stage items state view e) (TakesSection-joined items bytes gathered count items_is within whole size)

-- the invariant of a piece that stays begun
pub IsSound-part : (stage : Stage) (items gathered : List ℕ) (state : PieceState) → record { known = known_of stage items; gathered = items } ≡ state → state.known ≡ Some state.gathered → 0 < length state.gathered → IsPart gathered → IsSound stage gathered
IsSound-part stage items gathered state view e h part =
    rw (stage-begun stage items (known-begun stage items state view e) (begun-state stage items state view h)) part

pub IsPart-begun : (stage : Stage) (items : List ℕ) (state : PieceState) → record { known = known_of stage items; gathered = items } ≡ state → state.known ≡ Some state.gathered → 0 < length state.gathered → IsSound stage items → IsPart items
IsPart-begun stage items state view e h sound =
    rw (stage-begun stage items (known-begun stage items state view e) (begun-state stage items state view h)) at sound
