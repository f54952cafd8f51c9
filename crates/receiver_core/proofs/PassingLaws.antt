-- Time that passes in parts, for what a receiver stands for.
use Rattle.std.proofs.Common.{◌≡◌, ℕ, ◌+◌, List, [], ◌∷◌, ◌++◌, sym, ap, ap₂, ◌∙◌, append_assoc, append-nil}
use Rattle.psi_tables.specs.declared.services.Selection.{Selection}
use Rattle.es_reader.specs.Readers.{Reader}
use Rattle.receiver_core.specs.Outputs.{Input, Outcome, Piece, outputs, pieces_of, state_after, state_behind}
use Rattle.receiver_core.specs.Outputs.Input.{Tick}
use Rattle.receiver_core.specs.Receiving.{ReceiverState, StandsFor}
use Rattle.receiver_core.specs.State.{State, opening}
use Rattle.receiver_core.proofs.OutputLaws.{behind_one_more, outputs_one_more}
use Rattle.receiver_core.proofs.TickLaws.{in_two, no_time}

-- inputs that leave and print the same
same_inputs : (read : Reader) (selection : Selection) (area : List ℕ) (state : ReceiverState) (inputs others : List Input) (given : List Piece)
    → state_behind (opening read selection area) inputs ≡ state_behind (opening read selection area) others
    → outputs read selection area inputs ≡ outputs read selection area others
    → StandsFor read selection area state inputs given → StandsFor read selection area state others given
same_inputs read selection area state inputs others given leave print s = record {
  now = s.now;
  left = sym leave ∙ s.left;
  pieces = sym print ∙ s.pieces;
  services_are = s.services_are;
  clock_is = s.clock_is;
  area_is = s.area_is;
  unspent = s.unspent;
  kept = s.kept;
}

-- ---- no time

pub none_passed : (read : Reader) (selection : Selection) (area : List ℕ) (state : ReceiverState) (inputs : List Input) (given : List Piece)
    → StandsFor read selection area state inputs given → StandsFor read selection area state (inputs ++ Tick 0 ∷ []) given
none_passed read selection area state inputs given =
    let first = opening read selection area in
    let now = state_behind first inputs in
    let printed = outputs read selection area inputs in
    let nothing = no_time now in
    same_inputs read selection area state inputs (inputs ++ Tick 0 ∷ []) given
    (sym (behind_one_more first inputs (Tick 0) ∙ ap (λ (o : Outcome). o.state) nothing))
    (sym
    (outputs_one_more read selection area inputs (Tick 0)
    ∙ ap (λ (o : Outcome). printed ++ (o.pieces ++ [])) nothing ∙ append-nil printed))

-- ---- two parts

joined_pieces : (given first second : List Piece) → (given ++ (first ++ [])) ++ (second ++ []) ≡ given ++ ((first ++ second) ++ [])
joined_pieces given first second =
    ap₂ (λ (a b : List Piece). (given ++ a) ++ b) (append-nil first) (append-nil second)
    ∙ append_assoc given first second
    ∙ ap (λ (l : List Piece). given ++ l) (sym (append-nil (first ++ second)))

pub both_passed : (read : Reader) (selection : Selection) (area : List ℕ) (state : ReceiverState) (inputs : List Input) (first second : ℕ) (given : List Piece)
    → StandsFor read selection area state ((inputs ++ Tick first ∷ []) ++ Tick second ∷ []) given
    → StandsFor read selection area state (inputs ++ Tick (first + second) ∷ []) given
both_passed read selection area state inputs first second given =
    let start = opening read selection area in
    let now = state_behind start inputs in
    let one : List Input = inputs ++ Tick first ∷ [] in
    let between : state_behind start one ≡ state_after (Tick first) now = behind_one_more start inputs (Tick first) in
    let whole = sym (in_two first second now) in
    same_inputs read selection area state (one ++ Tick second ∷ []) (inputs ++ Tick (first + second) ∷ []) given
    (behind_one_more start one (Tick second)
    ∙ ap (state_after (Tick second)) between
    ∙ ap (λ (o : Outcome). o.state) whole
    ∙ sym (behind_one_more start inputs (Tick (first + second))))
    (outputs_one_more read selection area one (Tick second)
    ∙ ap₂ (λ (l : List Piece) (s : State). l ++ (pieces_of (Tick second) s ++ [])) (outputs_one_more read selection area inputs (Tick first)) between
    ∙ joined_pieces (outputs read selection area inputs) (pieces_of (Tick first) now) (pieces_of (Tick second) (state_after (Tick first) now))
    ∙ ap (λ (o : Outcome). outputs read selection area inputs ++ (o.pieces ++ [])) whole
    ∙ sym (outputs_one_more read selection area inputs (Tick (first + second))))
