-- What the first inputs print is the first of what all print.
use Rattle.std.proofs.Common.{◌≡◌, ℕ, ◌+◌, List, [], ◌∷◌, ◌++◌, sym, ap, ◌∙◌, subst, append_assoc}
use Rattle.std.proofs.Common.{inl, inr}
use Rattle.psi_tables.specs.declared.services.Selection.{Selection}
use Rattle.es_reader.specs.Readers.{Reader}
use Rattle.page.specs.State.{area_of}
use Rattle.receiver_core.specs.Fronts.{IsFront, front_of_front}
use Rattle.receiver_core.specs.Outputs.{Input, Outcome, Piece, followed_by, outputs, pieces_from}
use Rattle.receiver_core.specs.Outputs.{pieces_of, state_after, time_passes}
use Rattle.receiver_core.specs.Outputs.Input.{Tick}
use Rattle.receiver_core.specs.Receiving.{IsIdle, ReceiverState, StandsFor}
use Rattle.receiver_core.specs.State.{State, opening}
use Rattle.replay_run.specs.Meaning.{area_behind}
use Rattle.replay_run.specs.Midway.{AreFirst}

-- what is known of receivers
pub record ReceiverLaws : Type 0 where
  pub more : (read : Reader) (selection : Selection) (area : List ℕ) (inputs further : List Input)
      → IsFront (outputs read selection area inputs)
      (outputs read selection area (inputs ++ further))
  pub front : (read : Reader) (selection : Selection) (area : List ℕ) (state : ReceiverState)
      (inputs : List Input) (given : List Piece)
      → StandsFor read selection area state inputs given
      → IsFront given (outputs read selection area inputs)
  pub all : (read : Reader) (selection : Selection) (area : List ℕ) (state : ReceiverState)
      (inputs : List Input) (given : List Piece)
      → StandsFor read selection area state inputs given → IsIdle state
      → given ≡ outputs read selection area inputs
  pub split : (first second : ℕ) (s : State)
      → time_passes (first + second) s ≡ followed_by (time_passes first s) (time_passes second)

-- time that passes in two parts prints what it prints at once
ticked : ReceiverLaws → (s : State) (earlier : List Input) (first second : ℕ)
    → pieces_from s (earlier ++ Tick (first + second) ∷ [])
    ≡ pieces_from s ((earlier ++ Tick first ∷ []) ++ Tick second ∷ [])
ticked laws s [] first second =
    ap (λ (o : Outcome). o.pieces ++ []) (laws.split first second s)
    ∙ append_assoc (time_passes first s).pieces
    (time_passes second (time_passes first s).state).pieces []
ticked laws s (input ∷ earlier) first second =
    ap (λ l. pieces_of input s ++ l) (ticked laws (state_after input s) earlier first second)

outputs_ticked : ReceiverLaws → (read : Reader) (selection : Selection) (area : List ℕ)
    (earlier : List Input) (first second : ℕ)
    → outputs read selection area (earlier ++ Tick (first + second) ∷ [])
    ≡ outputs read selection area ((earlier ++ Tick first ∷ []) ++ Tick second ∷ [])
unfolding outputs
outputs_ticked laws read selection area earlier first second =
    ticked laws (opening read selection area) earlier first second

front_more : ReceiverLaws → (read : Reader) (selection : Selection) (area : List ℕ)
    (some all : List Input) → IsFront some all
    → IsFront (outputs read selection area some) (outputs read selection area all)
front_more laws read selection area some all front =
    subst (λ l. IsFront (outputs read selection area some) (outputs read selection area l))
    (sym front.joined) (laws.more read selection area some front.rest)

-- the pieces of the first inputs are the first pieces of all
pub first_outputs : ReceiverLaws → (read : Reader) (selection : Selection) (area : List ℕ)
    (some all : List Input) → AreFirst some all
    → IsFront (outputs read selection area some) (outputs read selection area all)
first_outputs laws read selection area some all (inl front) =
    front_more laws read selection area some all front
first_outputs laws read selection area some all (inr cut) =
    let part : List Input = cut.earlier ++ Tick cut.passed ∷ [] in
    let whole : List Input = cut.earlier ++ Tick (cut.passed + cut.more) ∷ [] in
    let prints : List Input → List Piece = λ l. outputs read selection area l in
    let once : IsFront (prints part) (prints whole) =
    subst (λ (l : List Piece). IsFront (prints part) l)
    (sym (outputs_ticked laws read selection area cut.earlier cut.passed cut.more))
    (laws.more read selection area part (Tick cut.more ∷ [])) in
    front_of_front (prints some) (prints whole) (prints all)
    (subst (λ (l : List Input). IsFront (prints l) (prints whole)) (sym cut.some_is) once)
    (front_more laws read selection area whole all cut.front)

-- where no turn is still to come, the receiver's area is the one that the inputs leave
pub idle_area : (read : Reader) (selection : Selection) (area : List ℕ) (state : ReceiverState)
    (inputs : List Input) (given : List Piece)
    → StandsFor read selection area state inputs given → IsIdle state
    → area_behind read selection area inputs ≡ state.area
idle_area read selection area state inputs given s idle =
    let left = rw (idle s.unspent) at s.left in
    ap (λ (t : State). area_of t.page) left ∙ sym s.area_is
