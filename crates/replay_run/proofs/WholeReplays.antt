-- A replay of a whole stream with a record of `all` and `show`.
use Rattle.std.proofs.Common.{◌≡◌, ℕ, ◌+◌, List, [], ◌∷◌, ◌++◌, map, length, replicate, None, refl, sym, ap, ap₂, ◌∙◌}
use Rattle.std.proofs.Common.{subst, append_assoc, append-nil, arith, cond, one-add}
use Rattle.std.specs.Prelude.{Err, Ok, OnOk, Result}
use Rattle.std.proofs.lemmas.List.Sums.{sum_by-append, sum_by-cons}
use Rattle.bml_bytes.specs.Areas.{area_length}
use Rattle.es_reader.specs.Readers.{Reader}
use Rattle.psi_tables.specs.declared.services.Selection.{Selection}
use Rattle.receiver_core.specs.Outputs.{Input, Piece, outputs}
use Rattle.receiver_core.specs.Outputs.Input.{Packet, Show}
use Rattle.receiver_core.specs.Receiving.{IsIdle, ReceiverState, StandsFor}
use Rattle.receiver_core.specs.declared.broadcast.Input.TheVariants as handed
use Rattle.ts_packets.specs.Packets.{packets_of}
use Rattle.replay_run.specs.declared.record.RecordItem.TheVariants.{All, Input as Other}
use Rattle.replay_run.specs.Generating.{whole_record}
use Rattle.replay_run.specs.Kept.{area_of_kept}
use Rattle.replay_run.specs.Lines.{end_line}
use Rattle.replay_run.specs.Meaning.{end_piece, last_pieces, replay_inputs, replay_pieces}
use Rattle.replay_run.specs.Output.{bytes_of}
use Rattle.replay_run.specs.Play.{inputs_of, packet_count, is_packet}
use Rattle.replay_run.specs.Record.{fields, first_bad, items_before_bad, line_of, lines_of}
use Rattle.replay_run.specs.devices.Printing.{Prints}
use Rattle.replay_run.proofs.WritingLaws.{bytes-append}

-- the record's items, none of which is bad
whole_items : items_before_bad whole_record ≡ All ∷ Other handed.Show ∷ []
unfolding fields line_of lines_of
whole_items = refl

whole_good : first_bad whole_record ≡ None
unfolding fields line_of lines_of
whole_good = refl

-- what it hands over
abbrev pub whole_inputs : List ℕ → List Input
whole_inputs stream = map Packet (packets_of stream) ++ Show ∷ []

inputs_are : (stream : List ℕ) → replay_inputs stream whole_record ≡ whole_inputs stream
unfolding inputs_of
inputs_are stream = ap (inputs_of (packets_of stream)) whole_items

all_counted : (packets : List (List ℕ)) → packet_count (map Packet packets) ≡ length packets
all_counted [] = refl
all_counted (packet ∷ packets) =
    sum_by-cons (λ input. cond (is_packet input) 1 0) (Packet packet) (map Packet packets)
    ∙ ap (λ n. 1 + n) (all_counted packets) ∙ one-add (length packets)

counted : (stream : List ℕ) → packet_count (whole_inputs stream) ≡ length (packets_of stream)
counted stream =
    sum_by-append (λ input. cond (is_packet input) 1 0) (map Packet (packets_of stream)) (Show ∷ [])
    ∙ omega (arith, all_counted (packets_of stream))

-- the pieces: those of a receiver, and the last line
pieces_are : (read : Reader) (selection : Selection) (area stream : List ℕ)
    → bytes_of (replay_pieces read selection area stream whole_record)
    ≡ bytes_of (outputs read selection area (whole_inputs stream)) ++ end_line (length (packets_of stream))
unfolding replay_pieces
pieces_are read selection area stream =
    let given = outputs read selection area (whole_inputs stream) in
    let last = end_piece read selection area (whole_inputs stream) in
    ap₂ (λ inputs bad. bytes_of (outputs read selection area inputs
    ++ last_pieces bad (end_piece read selection area inputs))) (inputs_are stream) whole_good
    ∙ bytes-append given (last ∷ [])
    ∙ ap (λ l. bytes_of given ++ l) (append-nil last.text)
    ∙ ap (λ n. bytes_of given ++ end_line n) (counted stream)

-- what a receiver gave once no turn is still to come
abbrev pub GivesAll : Type 0
GivesAll =
    (read : Reader) (selection : Selection) (area : List ℕ) (state : ReceiverState)
    (inputs : List Input) (given : List Piece) → StandsFor read selection area state inputs given
    → IsIdle state → given ≡ outputs read selection area inputs

-- all of the replay is printed
pub replayed : (read : Reader) (selection : Selection) (area stream start text end : List ℕ)
    (first last : ReceiverState) (packets : ℕ) → GivesAll
    → StandsFor read selection area first [] []
    → Prints (whole_inputs stream) first last start text → IsIdle last
    → packets ≡ length (packets_of stream) → end ≡ text ++ end_line packets
    → end ≡ start ++ bytes_of (replay_pieces read selection area stream whole_record)
replayed read selection area stream start text end first last packets all stood prints idle count ended =
    let given : prints.pieces ≡ outputs read selection area (whole_inputs stream) =
    all read selection area last (whole_inputs stream) prints.pieces
    (prints.stands read selection area [] [] stood) idle in
    ended ∙ ap₂ (λ l n. l ++ end_line n) prints.printed count
    ∙ append_assoc start (bytes_of prints.pieces) (end_line (length (packets_of stream)))
    ∙ ap (λ l. start ++ (bytes_of l ++ end_line (length (packets_of stream)))) given
    ∙ ap (λ l. start ++ l) (sym (pieces_are read selection area stream))

-- a receiver with an area of zeros has that of a run for which nothing is kept
pub opened_without : (read : Reader) (selection : Selection) (area : List ℕ) (state : ReceiverState)
    → area ≡ replicate area_length 0 → StandsFor read selection area state [] []
    → StandsFor read selection (area_of_kept []) state [] []
opened_without read selection area state zeros stood =
    subst (λ a. StandsFor read selection a state [] []) zeros stood

-- what follows where a call answers Ok
pub on_ok : {A E : Type 0} (result : Result A E) (P Q : Type 0) → (P → Q) → OnOk result P
    → OnOk result Q
on_ok (Ok answer) P Q follows p = follows p
on_ok (Err error) P Q follows p = tt
