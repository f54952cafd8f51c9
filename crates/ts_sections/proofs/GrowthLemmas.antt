-- More packets only add sections.
use Rattle.std.proofs.Common.{◌≡◌, ℕ, Bool, true, false, not, ◌&&◌, cond, List, [], ◌∷◌, ◌++◌, length, drop, refl, sym, ap, ◌∙◌, append_assoc, append-nil, Option, Some, None}
use Rattle.std.proofs.Math.Seq.{drop-append_seam}
use Rattle.ts_packets.specs.Packet.{is_readable}
use Rattle.ts_sections.specs.Sections.{Token, Byte, Mark, tokens_of_packet, bytes_to_mark, sections_of_piece, sections, completed_by}
use Rattle.ts_sections.specs.devices.Ahead.{Tokens, in_front, is_repeated, goes_on, tokens_behind, sections_of_open, sections_of_tokens, sections_from}
use Rattle.ts_sections.proofs.PieceLemmas.{sections_of_piece-append}
use Rattle.ts_sections.proofs.TokenLemmas.{in_front-twice}
use Rattle.ts_sections.proofs.RunLemmas.{sections-ahead}

-- the second list is the first with more behind it
abbrev pub Grows : List (List ℕ) → List (List ℕ) → Type 0
Grows less more = (rest : List (List ℕ)) × (more ≡ less ++ rest)

Grows-behind : (front less more : List (List ℕ)) → Grows less more → Grows (front ++ less) (front ++ more)
Grows-behind front less more h = (h.0, ap (λ x. front ++ x) h.1 ∙ sym (append_assoc front less h.0))

-- the sections of an open piece and of the pieces behind it in the same run
abbrev of_run : Option (List ℕ) → List Token → List (List ℕ)
of_run piece tokens = sections_of_open piece (bytes_to_mark tokens) ++ sections_of_tokens tokens

of_run-byte : (piece : List ℕ) (b : ℕ) (tokens : List Token) → of_run (Some piece) (Byte b ∷ tokens) ≡ of_run (Some (piece ++ b ∷ [])) tokens
of_run-byte piece b tokens = ap (λ x. sections_of_piece x ++ sections_of_tokens tokens) (sym (append_assoc piece (b ∷ []) (bytes_to_mark tokens)))

of_run-grows_open : (piece : List ℕ) (tokens more : List Token) → Grows (of_run (Some piece) tokens) (of_run (Some piece) (tokens ++ more))
of_run-grows_open piece [] more =
    let added = sections_of_piece-append piece (bytes_to_mark more) in (
      added.0 ++ sections_of_tokens more,
      rw (append-nil piece, added.1, append-nil (sections_of_piece piece)) (append_assoc (sections_of_piece piece) added.0 (sections_of_tokens more)),
    )
of_run-grows_open piece (Byte b ∷ tokens) more =
    let later = of_run-grows_open (piece ++ b ∷ []) tokens more in
    (later.0, of_run-byte piece b (tokens ++ more) ∙ later.1 ∙ ap (λ x. x ++ later.0) (sym (of_run-byte piece b tokens)))
of_run-grows_open piece (Mark ∷ tokens) more =
    Grows-behind (sections_of_piece (piece ++ [])) (of_run (Some []) tokens) (of_run (Some []) (tokens ++ more)) (of_run-grows_open [] tokens more)

of_run-grows : (piece : Option (List ℕ)) (tokens more : List Token) → Grows (of_run piece tokens) (of_run piece (tokens ++ more))
of_run-grows (Some piece) tokens more = of_run-grows_open piece tokens more
of_run-grows None [] more = (of_run None more, refl)
of_run-grows None (Byte b ∷ tokens) more = of_run-grows None tokens more
of_run-grows None (Mark ∷ tokens) more = of_run-grows_open [] tokens more

abbrev empty : Tokens
empty = record { present = []; later = [] }

sections_from-present : (piece : Option (List ℕ)) (tokens : List Token) → sections_from piece (in_front true tokens empty) ≡ of_run piece tokens
sections_from-present piece tokens =
    rw (append-nil tokens, append-nil (sections_of_tokens tokens)) refl

-- one packet at the end, where the others carry nothing
Grows-last : (counts follow : Bool) (piece : Option (List ℕ)) (tokens last : List Token)
    → Grows (sections_from piece (in_front true tokens empty)) (sections_from piece (in_front true tokens (cond counts (in_front follow last empty) empty)))
Grows-last false follow piece tokens last = ([], sym (append-nil (sections_from piece (in_front true tokens empty))))
Grows-last true true piece tokens last =
    let later = of_run-grows piece tokens last in
    (later.0, ap (sections_from piece) (in_front-twice tokens last empty) ∙ sections_from-present piece (tokens ++ last) ∙ later.1 ∙ ap (λ x. x ++ later.0) (sym (sections_from-present piece tokens)))
Grows-last true false piece tokens last =
    let open_part = sections_of_open piece (bytes_to_mark (tokens ++ [])) in
    let run_part = sections_of_tokens (tokens ++ []) in
    Grows-behind open_part (run_part ++ []) (run_part ++ (sections_of_tokens (last ++ []) ++ []))
    (Grows-behind run_part [] (sections_of_tokens (last ++ []) ++ []) (sections_of_tokens (last ++ []) ++ [], refl))

abbrev AllGrow : Option (List ℕ) → List (List ℕ) → List ℕ → Type 0
AllGrow before packets last =
    (piece : Option (List ℕ)) (tokens : List Token)
    → Grows (sections_from piece (in_front true tokens (tokens_behind before packets))) (sections_from piece (in_front true tokens (tokens_behind before (packets ++ last ∷ []))))

-- one packet more in front
Grows-first : (counts follow : Bool) (piece : Option (List ℕ)) (tokens first : List Token) (less more here there : Tokens)
    → Grows (sections_from piece (in_front true tokens less)) (sections_from piece (in_front true tokens more))
    → ((piece : Option (List ℕ)) (tokens : List Token) → Grows (sections_from piece (in_front true tokens here)) (sections_from piece (in_front true tokens there)))
    → Grows (sections_from piece (in_front true tokens (cond counts (in_front follow first here) less))) (sections_from piece (in_front true tokens (cond counts (in_front follow first there) more)))
Grows-first false follow piece tokens first less more here there h k = h
Grows-first true true piece tokens first less more here there h k =
    let later = k piece (tokens ++ first) in
    (later.0, ap (sections_from piece) (in_front-twice tokens first there) ∙ later.1 ∙ ap (λ x. x ++ later.0) (sym (ap (sections_from piece) (in_front-twice tokens first here))))
Grows-first true false piece tokens first less more here there h k =
    Grows-behind (sections_of_open piece (bytes_to_mark (tokens ++ []))) (sections_of_tokens (tokens ++ []) ++ sections_from None (in_front true first here)) (sections_of_tokens (tokens ++ []) ++ sections_from None (in_front true first there))
    (Grows-behind (sections_of_tokens (tokens ++ [])) (sections_from None (in_front true first here)) (sections_from None (in_front true first there)) (k None first))

AllGrow-from : (before : Option (List ℕ)) (packets : List (List ℕ)) (last : List ℕ) → AllGrow before packets last
AllGrow-from before [] last piece tokens =
    Grows-last (is_readable last && not (is_repeated before last)) (goes_on before last) piece tokens (tokens_of_packet last)
AllGrow-from before (packet ∷ packets) last piece tokens =
    Grows-first (is_readable packet && not (is_repeated before packet)) (goes_on before packet) piece tokens (tokens_of_packet packet)
    (tokens_behind before packets) (tokens_behind before (packets ++ last ∷ [])) (tokens_behind (Some packet) packets) (tokens_behind (Some packet) (packets ++ last ∷ []))
    (AllGrow-from before packets last piece tokens) (AllGrow-from (Some packet) packets last)

sections-grow : (packets : List (List ℕ)) (packet : List ℕ) → Grows (sections packets) (sections (packets ++ packet ∷ []))
sections-grow packets packet =
    let later = AllGrow-from None packets packet None [] in
    (later.0, sections-ahead (packets ++ packet ∷ []) ∙ later.1 ∙ ap (λ x. x ++ later.0) (sym (sections-ahead packets)))

-- the sections of a longer list are those of the list, and those that the packet behind it completes
pub sections-completed : (packets : List (List ℕ)) (packet : List ℕ) → sections (packets ++ packet ∷ []) ≡ sections packets ++ completed_by packets packet
sections-completed packets packet =
    let later = sections-grow packets packet in
    later.1 ∙ ap (λ x. sections packets ++ x) (sym (ap (drop (length (sections packets))) later.1 ∙ drop-append_seam (sections packets) later.0))
