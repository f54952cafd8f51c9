-- What a receiver prints for several inputs, one behind the other.
use Rattle.std.proofs.Common.{◌≡◌, ℕ, List, [], ◌∷◌, ◌++◌, refl, sym, ap, ◌∙◌, subst, append_assoc, append-nil, ◌⊎◌, inl, inr}
use Rattle.es_reader.specs.Readers.{Reader}
use Rattle.psi_tables.specs.declared.services.Selection.{Selection}
use Rattle.receiver_core.specs.Outputs.{Input, Piece}
use Rattle.receiver_core.specs.Outputs.Input.{Show}
use Rattle.receiver_core.specs.Receiving.{Answers, IsIdle, IsOver, MakesTurn, PassesDamaged}
use Rattle.receiver_core.specs.Receiving.{ReceiverState, StandsFor, Stays, Takes}
use Rattle.receiver_core.specs.declared.broadcast.Input.TheVariants as handed
use Rattle.replay_run.specs.Output.{bytes_of}
use Rattle.replay_run.specs.devices.Printing.{Prints}
use Rattle.replay_run.proofs.WritingLaws.{bytes-append}

-- pieces were given for what came before, and their bytes are appended
pub record Turned (old new : ReceiverState) (before after : List ℕ) : Type 0 where
  pub pieces : List Piece
  pub printed : after ≡ before ++ bytes_of pieces
  pub gives : (read : Reader) (selection : Selection) (area : List ℕ) (inputs : List Input)
      (given : List Piece) → StandsFor read selection area old inputs given
      → StandsFor read selection area new inputs (given ++ pieces)

-- none for a damaged section, and one for a turn
turned_by : (old new : ReceiverState) (before after : List ℕ)
    → PassesDamaged old new before after ⊎ MakesTurn old new before after
    → Turned old new before after
turned_by old new before after (inl damaged) = record {
  pieces = [];
  printed = damaged.silent ∙ sym (append-nil before);
  gives = λ read selection area inputs given stands.
      subst (λ l. StandsFor read selection area new inputs l) (sym (append-nil given))
      (damaged.stays read selection area inputs given stands);
}
turned_by old new before after (inr turn) = record {
  pieces = record { text = turn.text; area = new.area } ∷ [];
  printed = turn.printed ∙ ap (λ l. before ++ l) (sym (append-nil turn.text));
  gives = turn.gives;
}

-- nothing came, and pieces were given
pub prints_turned : (old new : ReceiverState) (before after : List ℕ) → Turned old new before after
    → Prints [] old new before after
prints_turned old new before after turned = record {
  pieces = turned.pieces;
  printed = turned.printed;
  stands = λ read selection area inputs given stood.
      subst (λ l. StandsFor read selection area new l (given ++ turned.pieces))
      (sym (append-nil inputs)) (turned.gives read selection area inputs given stood);
}

stays_turned : (old new : ReceiverState) (before after : List ℕ) → after ≡ before → Stays old new
    → Turned old new before after
stays_turned old new before after silent stays = record {
  pieces = [];
  printed = silent ∙ sym (append-nil before);
  gives = λ read selection area inputs given stood.
      subst (λ l. StandsFor read selection area new inputs l) (sym (append-nil given))
      (stays read selection area inputs given stood);
}

pub prints_nothing : (state : ReceiverState) (text : List ℕ) → Prints [] state state text text
prints_nothing state text = prints_turned state state text text
    (stays_turned state state text text refl (λ read selection area inputs given stood. stood))

-- no turn was to come
pub prints_over : (old new : ReceiverState) (before after : List ℕ) → IsOver old new before after
    → Prints [] old new before after
prints_over old new before after over = prints_turned old new before after
    (stays_turned old new before after over.silent over.stays)

-- one was
pub prints_turn : (old new : ReceiverState) (before after : List ℕ)
    → PassesDamaged old new before after ⊎ MakesTurn old new before after
    → Prints [] old new before after
prints_turn old new before after handled =
    prints_turned old new before after (turned_by old new before after handled)

-- an input came for which nothing is given yet
pub prints_taken : (input : Input) (old new : ReceiverState) (text : List ℕ) → Takes input old new
    → Prints (input ∷ []) old new text text
prints_taken input old new text takes = record {
  pieces = [];
  printed = sym (append-nil text);
  stands = λ read selection area inputs given stood.
      subst (λ l. StandsFor read selection area new (inputs ++ input ∷ []) l)
      (sym (append-nil given)) (takes read selection area inputs given stood);
}

-- the display list was asked for
pub prints_shown : (old new : ReceiverState) (before after : List ℕ)
    → Answers handed.Show old new before after → IsIdle old
    → Prints (Show ∷ []) old new before after
prints_shown old new before after answers idle = record {
  pieces = record { text = answers.text; area = new.area } ∷ [];
  printed = answers.printed ∙ ap (λ l. before ++ l) (sym (append-nil answers.text));
  stands = answers.taken idle;
}

-- more came behind that
pub prints_more : (more further : List Input) (first mid last : ReceiverState)
    (start text end : List ℕ) → Prints more first mid start text → Prints further mid last text end
    → Prints (more ++ further) first last start end
prints_more more further first mid last start text end one next = record {
  pieces = one.pieces ++ next.pieces;
  printed = next.printed ∙ ap (λ l. l ++ bytes_of next.pieces) one.printed
      ∙ append_assoc start (bytes_of one.pieces) (bytes_of next.pieces)
      ∙ ap (λ l. start ++ l) (sym (bytes-append one.pieces next.pieces));
  stands = λ read selection area inputs given stood.
      subst (λ l. StandsFor read selection area last l (given ++ (one.pieces ++ next.pieces)))
      (append_assoc inputs more further)
      (subst (λ l. StandsFor read selection area last ((inputs ++ more) ++ further) l)
      (append_assoc given one.pieces next.pieces)
      (next.stands read selection area (inputs ++ more) (given ++ one.pieces)
      (one.stands read selection area inputs given stood)));
}
