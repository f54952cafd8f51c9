-- What inputs print and leave behind others.
use Rattle.std.proofs.Common.{◌≡◌, ℕ, List, [], ◌∷◌, ◌++◌, refl, sym, ap, ◌∙◌, append_assoc}
use Rattle.psi_tables.specs.declared.services.Selection.{Selection}
use Rattle.es_reader.specs.Readers.{Reader}
use Rattle.receiver_core.specs.Fronts.{IsFront}
use Rattle.receiver_core.specs.Outputs.{Input, Piece, outputs, pieces_from, pieces_of, state_after, state_behind}
use Rattle.receiver_core.specs.State.{State, opening}

pieces_from-append : (s : State) (xs ys : List Input) → pieces_from s (xs ++ ys) ≡ pieces_from s xs ++ pieces_from (state_behind s xs) ys
pieces_from-append s [] ys = refl
pieces_from-append s (x ∷ xs) ys =
    ap (λ (l : List Piece). pieces_of x s ++ l) (pieces_from-append (state_after x s) xs ys)
    ∙ sym (append_assoc (pieces_of x s) (pieces_from (state_after x s) xs) (pieces_from (state_behind (state_after x s) xs) ys))

-- what is left behind one input more
pub behind_one_more : (s : State) (inputs : List Input) (input : Input) → state_behind s (inputs ++ input ∷ []) ≡ state_after input (state_behind s inputs)
behind_one_more s [] input = refl
behind_one_more s (x ∷ inputs) input = behind_one_more (state_after x s) inputs input

pub no_outputs : (read : Reader) (selection : Selection) (area : List ℕ) → outputs read selection area [] ≡ []
unfolding outputs
no_outputs read selection area = refl

-- what one input more prints
pub outputs_one_more : (read : Reader) (selection : Selection) (area : List ℕ) (inputs : List Input) (input : Input)
    → outputs read selection area (inputs ++ input ∷ []) ≡ outputs read selection area inputs ++ (pieces_of input (state_behind (opening read selection area) inputs) ++ [])
unfolding outputs
outputs_one_more read selection area inputs input = pieces_from-append (opening read selection area) inputs (input ∷ [])

pub front_of_outputs : (read : Reader) (selection : Selection) (area : List ℕ) (inputs further : List Input) → IsFront (outputs read selection area inputs) (outputs read selection area (inputs ++ further))
unfolding outputs
front_of_outputs read selection area inputs further = record {
  rest = pieces_from (state_behind (opening read selection area) inputs) further;
  joined = pieces_from-append (opening read selection area) inputs further;
}
