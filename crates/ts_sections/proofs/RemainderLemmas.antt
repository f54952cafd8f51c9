-- What taking in the remainder of a packet says of the sections ahead.
use Rattle.std.proofs.Common.{◌≡◌, ℕ, ◌+◌, ◌-◌, ◌≤◌, true, List, [], ◌∷◌, ◌++◌, length, take, drop, map, refl, sym, ap, ◌∙◌, arith, append_assoc, append-nil, length-append, length-take, length-drop, Option, Some, None, IfSome, MatchOption}
use Rattle.std.specs.Prelude.{slice_range, unwrap_or}
use Rattle.std.proofs.lemmas.List.{length-map, take-take, take_all, drop_all, drop-take, drop-drop}
use Rattle.ts_sections.specs.Sections.{Byte, Mark, sections}
use Rattle.ts_sections.specs.devices.Ahead.{Kept, Tokens, in_front, tokens_behind, sections_of_open, sections_from, sections_ahead}
use Rattle.ts_sections.specs.Assembly.{GivesNext, HasGivenAll, StandsFor}
use Rattle.ts_sections.specs.devices.Piece.{PieceState, TakesAll, TakesSection}
use Rattle.ts_sections.specs.devices.Remainder.{tokens_from, tokens_of, IsWithin, Passes, Finds, Finishes, Drains, kept_of, section_of, state_of}
use Rattle.ts_sections.specs.declared.remainder.Remainder.{Remainder}
use Rattle.ts_sections.specs.declared.remainder.Found.{Found}
use Rattle.ts_sections.specs.declared.remainder.Found.TheVariants.{Gathered, InPacket}
use Rattle.ts_sections.proofs.TokenLemmas.{in_front-twice, sections_from-mark}

-- the place up to which bytes of the present piece come
abbrev pub end_of : List ℕ → Option ℕ → ℕ
end_of packet mark = unwrap_or mark (length packet)

-- where nothing is left, all is taken in
pub tokens_from-empty : (packet : List ℕ) (place : ℕ) (mark : Option ℕ) → place ≤ length packet → tokens_from packet place mark ≡ [] → place ≡ length packet
tokens_from-empty packet place None h e = omega (arith, ap length e, length-map (drop place packet) Byte, length-drop place packet)
tokens_from-empty packet place (Some mark) h e = absurd (omega (arith, ap length e, length-append (map Byte (slice_range packet place mark)) (Mark ∷ map Byte (drop mark packet))))

slice_range-empty : (packet : List ℕ) (place : ℕ) → slice_range packet place place ≡ []
slice_range-empty packet place = let e : place - place ≡ 0 = omega arith in rw e refl

-- the bytes of the present piece, and what is behind them
pub tokens_from-split : (packet : List ℕ) (place : ℕ) (mark : Option ℕ) → tokens_from packet place mark ≡ map Byte (slice_range packet place (end_of packet mark)) ++ tokens_from packet (end_of packet mark) mark
tokens_from-split packet place None =
    let all = take_all (length packet - place) (drop place packet) (omega (arith, length-drop place packet)) in
    let none = drop_all (length packet) packet (omega arith) in
    rw (all, none) (sym (append-nil (map Byte (drop place packet))))
tokens_from-split packet place (Some mark) = rw (slice_range-empty packet mark) refl

-- a slice behind its first `count` elements
slice_range-drop : (packet : List ℕ) (place end count : ℕ) → place + count ≤ end → drop count (slice_range packet place end) ≡ slice_range packet (place + count) end
slice_range-drop packet place end count h =
    let split : end - place ≡ count + (end - (place + count)) = omega arith in
    ap (λ n. drop count (take n (drop place packet))) split ∙ drop-take count (end - (place + count)) (drop place packet) ∙ ap (take (end - (place + count))) (drop-drop count place packet)

-- what is known of taking in bytes, at all that comes behind them
pub split-ahead : (packet : List ℕ) (place : ℕ) (mark : Option ℕ) (known : Option (List ℕ)) (behind : Tokens) → sections_from known (in_front true (tokens_from packet place mark) behind) ≡ sections_from known (in_front true (map Byte (slice_range packet place (end_of packet mark))) (in_front true (tokens_from packet (end_of packet mark) mark) behind))
split-ahead packet place mark known behind =
    ap (λ x. sections_from known (in_front true x behind)) (tokens_from-split packet place mark) ∙ ap (sections_from known) (sym (in_front-twice (map Byte (slice_range packet place (end_of packet mark))) (tokens_from packet (end_of packet mark) mark) behind))

end_of-within : (packet : List ℕ) (place : ℕ) (mark : Option ℕ) → (place ≤ length packet) × IfSome mark (λ m. (place ≤ m) × (m ≤ length packet)) → (place ≤ end_of packet mark) × (end_of packet mark ≤ length packet)
end_of-within packet place None h = (h.0, omega arith)
end_of-within packet place (Some mark) h = h.1

length-slice : (packet : List ℕ) (place end : ℕ) → place ≤ end → end ≤ length packet → length (slice_range packet place end) ≡ end - place
length-slice packet place end h k = omega (arith, length-take (end - place) (drop place packet), length-drop place packet)

passed : (packet : List ℕ) (mark : Option ℕ) → MatchOption mark (tokens_from packet (end_of packet mark) mark ≡ []) (λ m. end_of packet mark ≡ m)
passed packet None = ap (map Byte) (drop_all (length packet) packet (omega arith))
passed packet (Some mark) = refl

pub Passes-from : (packet : List ℕ) (old : Remainder) (piece piece' : PieceState) → TakesAll piece.known piece'.known (slice_range packet old.place (end_of packet old.mark)) → Passes packet old (record { place = end_of packet old.mark; mark = old.mark }) piece piece'
Passes-from packet old piece piece' h = record {
  mark = refl;
  ended = h.ended;
  passed = passed packet old.mark;
  ahead = λ behind. split-ahead packet old.place old.mark piece.known behind ∙ h.ahead (in_front true (tokens_from packet (end_of packet old.mark) old.mark) behind);
}

-- where a section ended with the first `count` bytes
pub section-ahead : (packet : List ℕ) (old : Remainder) (known known' : Option (List ℕ)) (section : List ℕ) (count : ℕ) → IsWithin packet old → TakesSection known known' (slice_range packet old.place (end_of packet old.mark)) section count
    → (behind : Tokens) → sections_from known (in_front true (tokens_of packet old) behind) ≡ section ∷ sections_from known' (in_front true (tokens_from packet (old.place + count) old.mark) behind)
section-ahead packet old known known' section count within h behind =
    let end = end_of packet old.mark in
    let bounds = end_of-within packet old.place old.mark within in
    let size = length-slice packet old.place end bounds.0 bounds.1 in
    let fits : old.place + count ≤ end = omega (arith, h.within) in
    let left = ap (λ x. sections_from known' (in_front true (map Byte x) (in_front true (tokens_from packet end old.mark) behind))) (slice_range-drop packet old.place end count fits) in
    split-ahead packet old.place old.mark known behind ∙ h.ahead (in_front true (tokens_from packet end old.mark) behind) ∙ ap (λ x. section ∷ x) (left ∙ sym (split-ahead packet (old.place + count) old.mark known' behind))

pub Finds-gathered : (packet : List ℕ) (old : Remainder) (piece piece' : PieceState) (count : ℕ) → IsWithin packet old → TakesSection piece.known piece'.known (slice_range packet old.place (end_of packet old.mark)) piece'.gathered count
    → Finds packet old (record { place = old.place + count; mark = old.mark }) piece piece' Gathered
Finds-gathered packet old piece piece' count within h = record {
  place = tt;
  ahead = section-ahead packet old piece.known piece'.known piece'.gathered count within h;
}

pub Finds-in_packet : (packet : List ℕ) (old : Remainder) (piece piece' : PieceState) (count : ℕ) → IsWithin packet old → TakesSection piece.known piece'.known (slice_range packet old.place (end_of packet old.mark)) (take count (slice_range packet old.place (end_of packet old.mark))) count
    → Finds packet old (record { place = old.place + count; mark = old.mark }) piece piece' (InPacket old.place (old.place + count))
Finds-in_packet packet old piece piece' count within h =
    let end = end_of packet old.mark in
    let bounds = end_of-within packet old.place old.mark within in
    let size = length-slice packet old.place end bounds.0 bounds.1 in
    let fits : old.place + count ≤ end = omega (arith, h.within) in
    let width : (old.place + count) - old.place ≡ count = omega arith in
    let same : take count (slice_range packet old.place end) ≡ slice_range packet old.place (old.place + count) = take-take count (end - old.place) (drop old.place packet) (omega arith) ∙ ap (λ n. take n (drop old.place packet)) (sym width) in
    record {
      place = (omega arith, omega arith);
      ahead = section-ahead packet old piece.known piece'.known (slice_range packet old.place (old.place + count)) count within (rw same at h);
    }

-- no mark is left
pub Drains-unmarked : (packet : List ℕ) (old new : Remainder) (piece piece' : PieceState) → new.mark ≡ None → Passes packet old new piece piece' → Drains packet old new piece piece'
Drains-unmarked packet old new piece piece' e h =
    let drained : tokens_of packet new ≡ [] = let m : old.mark ≡ None = sym h.mark ∙ e in rw m at h.passed in
    record { drained = drained; ended = h.ended; ahead = λ behind. h.ahead behind ∙ ap (λ x. sections_from piece'.known (in_front true x behind)) drained }

-- from one state of things to another, the sections ahead are the same
abbrev pub SameAhead : List ℕ → Remainder → Remainder → Option (List ℕ) → Option (List ℕ) → Type 0
SameAhead packet old new known known' = (behind : Tokens) → sections_from known (in_front true (tokens_of packet old) behind) ≡ sections_from known' (in_front true (tokens_of packet new) behind)

marked-place : (packet : List ℕ) (new : Remainder) (m : ℕ) → new.mark ≡ Some m → new.place ≡ m → tokens_of packet new ≡ Mark ∷ map Byte (drop m packet)
marked-place packet new m e p = rw (e, p, slice_range-empty packet m) refl

-- the mark is reached, and another piece begins
pub SameAhead-mark : (packet : List ℕ) (old new : Remainder) (piece piece' : PieceState) (known : Option (List ℕ)) (m : ℕ) → new.mark ≡ Some m → Passes packet old new piece piece' → known ≡ Some [] → SameAhead packet old (record { place = new.place; mark = None }) piece.known known
SameAhead-mark packet old new piece piece' known m e h k behind =
    let place : new.place ≡ m = let e' : old.mark ≡ Some m = sym h.mark ∙ e in rw e' at h.passed in
    let rest = map Byte (drop m packet) in
    h.ahead behind ∙ ap (λ x. sections_from piece'.known (in_front true x behind)) (marked-place packet new m e place) ∙ sections_from-mark piece'.known (in_front true rest behind) h.ended ∙ rw (k, place) refl

pub Finds-behind : (packet : List ℕ) (old middle new : Remainder) (piece between piece' : PieceState) (found : Found) → SameAhead packet old middle piece.known between.known → Finds packet middle new between piece' found → Finds packet old new piece piece' found
Finds-behind packet old middle new piece between piece' found s h = record { place = h.place; ahead = λ behind. s behind ∙ h.ahead behind }

pub Drains-behind : (packet : List ℕ) (old middle new : Remainder) (piece between piece' : PieceState) → SameAhead packet old middle piece.known between.known → Drains packet middle new between piece' → Drains packet old new piece piece'
Drains-behind packet old middle new piece between piece' s h = record { drained = h.drained; ended = h.ended; ahead = λ behind. s behind ∙ h.ahead behind }

-- ---- what it says of the assembler

-- what is told of all that may come behind tells what is waiting
pub stands_for : (kept : Kept) (packets given : List (List ℕ)) → ((behind : List (List ℕ)) → sections (packets ++ behind) ≡ given ++ sections_ahead kept behind)
    → StandsFor (record { waiting = sections_ahead kept []; kept = kept }) packets given
stands_for kept packets given h = record { all = sym (ap sections (sym (append-nil packets)) ∙ h []); ahead = h }

pub GivesNext-from : (packet : List ℕ) (old new : Remainder) (piece piece' : PieceState) (found : Found) → Finds packet old new piece piece' found
    → GivesNext (state_of (Some packet) old piece) (state_of (Some packet) new piece') (section_of packet piece'.gathered found)
GivesNext-from packet old new piece piece' found h =
    let section = section_of packet piece'.gathered found in
    record {
      next = h.ahead (tokens_behind (Some packet) []);
      stands = λ packets given s.
          stands_for (kept_of (Some packet) new piece') packets (given ++ section ∷ [])
          (λ behind. s.ahead behind ∙ ap (λ x. given ++ x) (h.ahead (tokens_behind (Some packet) behind)) ∙ sym (append_assoc given (section ∷ []) (sections_from piece'.known (in_front true (tokens_of packet new) (tokens_behind (Some packet) behind)))));
    }

-- where all is taken in and no section ended in it, all are given
HasGivenAll-from : (old new : Kept) → new.pending ≡ [] → sections_of_open new.piece [] ≡ []
    → ((behind : List (List ℕ)) → sections_ahead old behind ≡ sections_from new.piece (tokens_behind new.before behind))
    → HasGivenAll (record { waiting = sections_ahead old []; kept = old }) (record { waiting = sections_ahead new []; kept = new })
HasGivenAll-from old new taken ended same =
    let none : sections_ahead old [] ≡ [] = same [] ∙ rw ended refl in
    record {
      none = none;
      left = rw (taken, ended) refl;
      stands = λ packets given s. stands_for new packets given (λ behind. s.ahead behind ∙ ap (λ x. given ++ x) (same behind ∙ rw taken refl));
      all = λ packets given s. sym (sym s.all ∙ ap (λ x. given ++ x) none ∙ append-nil given);
    }

Finishes-drained : (packet : List ℕ) (old new : Remainder) (piece piece' : PieceState) → Drains packet old new piece piece' → Finishes (Some packet) old new piece piece'
Finishes-drained packet old new piece piece' h = record {
  taken = h.drained;
  ended = h.ended;
  gives = HasGivenAll-from (kept_of (Some packet) old piece) (kept_of (Some packet) new piece') h.drained h.ended (λ behind. h.ahead (tokens_behind (Some packet) behind));
}

-- before the first packet that is read there is nothing to take in
pub Finishes-first : (rest : Remainder) (piece : PieceState) → piece.known ≡ None → Finishes None rest rest piece piece
Finishes-first rest piece none = record {
  taken = refl;
  ended = rw none refl;
  gives = HasGivenAll-from (kept_of None rest piece) (kept_of None rest piece) refl (rw none refl) (λ behind. refl);
}

pub advances : (packet : List ℕ) (old new : Remainder) (piece piece' : PieceState) (result : Option Found) → MatchOption result (Drains packet old new piece piece') (Finds packet old new piece piece')
    → MatchOption result (Finishes (Some packet) old new piece piece') (λ found. GivesNext (state_of (Some packet) old piece) (state_of (Some packet) new piece') (section_of packet piece'.gathered found))
advances packet old new piece piece' None h = Finishes-drained packet old new piece piece' h
advances packet old new piece piece' (Some found) h = GivesNext-from packet old new piece piece' found h
