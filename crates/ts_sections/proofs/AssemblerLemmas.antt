-- What is waiting in an assembler, and what a packet more makes of it.
use Rattle.std.proofs.Common.{◌≡◌, ℕ, Bool, true, false, not, ◌&&◌, List, [], ◌∷◌, ◌++◌, length, drop, map, refl, sym, ap, ◌∙◌, append_assoc, append-nil, Option, Some, None}
use Rattle.std.specs.Prelude.{slice_range}
use Rattle.std.proofs.Math.Seq.{drop-append_seam}
use Rattle.ts_packets.specs.Packet.{is_readable}
use Rattle.ts_sections.specs.Sections.{Byte, Mark, tokens_of_packet, begins_whole, sections_of_piece, sections, completed_by}
use Rattle.ts_sections.specs.devices.Ahead.{Kept, Tokens, in_front, is_repeated, goes_on, tokens_behind, sections_of_open, sections_from, sections_ahead}
use Rattle.ts_sections.specs.Assembly.{AssemblerState, StandsFor}
use Rattle.ts_sections.specs.devices.Piece.{ends_in}
use Rattle.ts_sections.specs.devices.Remainder.{is_done_from, tokens_from}
use Rattle.ts_sections.proofs.PieceLemmas.{sections_of_piece-none, sections_of_piece-step}
use Rattle.ts_sections.proofs.TokenLemmas.{bytes_to_mark-bytes, pieces-bytes, sections_from-run}
use Rattle.ts_sections.proofs.RemainderLemmas.{stands_for}

-- ---- a packet more

pub ahead-unread : (kept : Kept) (packet : List ℕ) (behind : List (List ℕ)) → is_readable packet ≡ false → sections_ahead kept (packet ∷ behind) ≡ sections_ahead kept behind
ahead-unread kept packet behind r = rw r refl

pub ahead-repeated : (kept : Kept) (packet : List ℕ) (behind : List (List ℕ)) → is_readable packet ≡ true → is_repeated kept.before packet ≡ true → sections_ahead kept (packet ∷ behind) ≡ sections_ahead kept behind
ahead-repeated kept packet behind r s = rw (r, s) refl

-- it goes on with the run of the one before it
pub ahead-going_on : (kept : Kept) (packet gathered : List ℕ) (behind : List (List ℕ)) → kept.pending ≡ [] → is_readable packet ≡ true → is_repeated kept.before packet ≡ false → goes_on kept.before packet ≡ true
    → sections_ahead kept (packet ∷ behind) ≡ sections_ahead (record { before = Some packet; piece = kept.piece; pending = tokens_of_packet packet; gathered = gathered }) behind
ahead-going_on kept packet gathered behind taken r s g = rw (taken, r, s, g) refl

-- it begins a run
pub ahead-beginning : (kept : Kept) (packet gathered : List ℕ) (behind : List (List ℕ)) → kept.pending ≡ [] → is_readable packet ≡ true → is_repeated kept.before packet ≡ false → goes_on kept.before packet ≡ false → sections_of_open kept.piece [] ≡ []
    → sections_ahead kept (packet ∷ behind) ≡ sections_ahead (record { before = Some packet; piece = None; pending = tokens_of_packet packet; gathered = gathered }) behind
ahead-beginning kept packet gathered behind taken r s g ended =
    rw (taken, r, s, g) (sections_from-run kept.piece (tokens_of_packet packet) (tokens_behind (Some packet) behind) ended)

pub stands_behind : (old new : Kept) (packet : List ℕ) → ((behind : List (List ℕ)) → sections_ahead old (packet ∷ behind) ≡ sections_ahead new behind)
    → (packets given : List (List ℕ)) → StandsFor (record { waiting = sections_ahead old []; kept = old }) packets given → StandsFor (record { waiting = sections_ahead new []; kept = new }) (packets ++ packet ∷ []) given
stands_behind old new packet same packets given s =
    stands_for new (packets ++ packet ∷ []) given (λ behind. ap sections (append_assoc packets (packet ∷ []) behind) ∙ s.ahead (packet ∷ behind) ∙ ap (λ x. given ++ x) (same behind))

-- what waits then are the sections that it completes
pub waiting_behind : (old new : AssemblerState) (packet : List ℕ) (packets given : List (List ℕ)) → old.waiting ≡ [] → StandsFor old packets given → StandsFor new (packets ++ packet ∷ []) given → new.waiting ≡ completed_by packets packet
waiting_behind old new packet packets given none s t =
    let before : given ≡ sections packets = sym (append-nil given) ∙ ap (λ x. given ++ x) (sym none) ∙ s.all in
    sym (ap (λ (x : List (List ℕ)). drop (length x) (sections (packets ++ packet ∷ []))) (sym before) ∙ ap (drop (length given)) (sym t.all) ∙ drop-append_seam given new.waiting)

-- ---- nothing waits

whole-some : (piece : List ℕ) (test : Bool) → begins_whole piece ≡ test → sections_of_piece piece ≡ [] → test ≡ false
whole-some piece false e h = refl
whole-some piece true e h = let step = rw e at (sections_of_piece-step piece) in absurd cc

open-none : (known : Option (List ℕ)) (bytes : List ℕ) → ends_in known bytes ≡ false → sections_of_open known bytes ≡ []
open-none None bytes h = refl
open-none (Some known) bytes h = sections_of_piece-none (known ++ bytes) h

open-some : (known : Option (List ℕ)) (bytes : List ℕ) → sections_of_open known bytes ≡ [] → ends_in known bytes ≡ false
open-some None bytes h = refl
open-some (Some known) bytes h = whole-some (known ++ bytes) (begins_whole (known ++ bytes)) refl h

not-false : (test : Bool) → not test ≡ true → test ≡ false
not-false false h = refl
not-false true h = absurd cc

both-true : (a b : Bool) → (a && b) ≡ true → (a ≡ true) × (b ≡ true)
both-true true true h = (refl, refl)
both-true true false h = absurd cc
both-true false b h = absurd cc

both-empty : (a b : List (List ℕ)) → a ++ b ≡ [] → (a ≡ []) × (b ≡ [])
both-empty [] b h = (refl, h)
both-empty (x ∷ a) b h = absurd cc

abbrev nothing : Tokens
nothing = record { present = []; later = [] }

-- what is waiting, by the pieces in what isn't taken in yet
left-unmarked : (known : Option (List ℕ)) (bytes : List ℕ) → sections_from known (in_front true (map Byte bytes) nothing) ≡ sections_of_open known bytes
left-unmarked known bytes =
    rw (bytes_to_mark-bytes bytes [], pieces-bytes bytes [], append-nil bytes) (append-nil (sections_of_open known bytes))

left-marked : (known : Option (List ℕ)) (bytes more : List ℕ) → sections_from known (in_front true (map Byte bytes ++ Mark ∷ map Byte more) nothing) ≡ sections_of_open known bytes ++ sections_of_piece more
left-marked known bytes more =
    rw (append_assoc (map Byte bytes) (Mark ∷ map Byte more) [], bytes_to_mark-bytes bytes (Mark ∷ (map Byte more ++ [])), pieces-bytes bytes (Mark ∷ (map Byte more ++ [])), bytes_to_mark-bytes more [], pieces-bytes more [], append-nil bytes, append-nil more)
    (ap (λ x. sections_of_open known bytes ++ x) (append-nil (sections_of_piece more ++ []) ∙ append-nil (sections_of_piece more)))

pub done-empty : (known : Option (List ℕ)) (packet : List ℕ) (place : ℕ) (mark : Option ℕ) → is_done_from known packet place mark ≡ true → sections_from known (in_front true (tokens_from packet place mark) nothing) ≡ []
done-empty known packet place None h = left-unmarked known (drop place packet) ∙ open-none known (drop place packet) (not-false (ends_in known (drop place packet)) h)
done-empty known packet place (Some mark) h =
    let here = slice_range packet place mark in
    let tests = both-true (not (ends_in known here)) (not (begins_whole (drop mark packet))) h in
    left-marked known here (drop mark packet)
    ∙ ap (λ x. x ++ sections_of_piece (drop mark packet)) (open-none known here (not-false (ends_in known here) tests.0))
    ∙ sections_of_piece-none (drop mark packet) (not-false (begins_whole (drop mark packet)) tests.1)

pub empty-done : (known : Option (List ℕ)) (packet : List ℕ) (place : ℕ) (mark : Option ℕ) → sections_from known (in_front true (tokens_from packet place mark) nothing) ≡ [] → is_done_from known packet place mark ≡ true
empty-done known packet place None h = ap not (open-some known (drop place packet) (sym (left-unmarked known (drop place packet)) ∙ h))
empty-done known packet place (Some mark) h =
    let here = slice_range packet place mark in
    let parts = both-empty (sections_of_open known here) (sections_of_piece (drop mark packet)) (sym (left-marked known here (drop mark packet)) ∙ h) in
    rw (open-some known here parts.0, whole-some (drop mark packet) (begins_whole (drop mark packet)) refl parts.1) refl
