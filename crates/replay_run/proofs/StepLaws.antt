-- One call of a receiver, and the piece that it gave, over plain values.
use Rattle.std.proofs.Common.{◌≡◌, ℕ, ◌+◌, ◌-◌, ◌≤◌, List, [], ◌∷◌, ◌++◌, refl, sym, ap, ◌∙◌}
use Rattle.std.proofs.Common.{Result, Ok, Err, OnOk}
use Rattle.std.proofs.Common.{subst, append-nil, length, ◌⊎◌, inl, inr, arith, false}
use Rattle.es_reader.specs.Readers.{IsReader}
use Rattle.receiver_core.specs.Fronts.{front_of_self}
use Rattle.receiver_core.specs.Outputs.{Input, Piece, input_of}
use Rattle.receiver_core.specs.Outputs.Input.{Tick}
use Rattle.receiver_core.specs.Receiving.{Answers, IsIdle, IsSilent, MakesDueTurn, MakesTurn}
use Rattle.receiver_core.specs.Receiving.{PassesDamaged, PassesTime, ReceiverState, StandsFor}
use Rattle.receiver_core.specs.declared.broadcast.Input.{Input as HandedIn}
use Rattle.receiver_core.specs.declared.broadcast.Input.TheVariants as handed
use Rattle.ts_packets.specs.Cutter.{CutterState}
use Rattle.ts_packets.specs.Packets.{packets_of}
use Rattle.replay_run.specs.declared.status.Status.{Status}
use Rattle.replay_run.specs.declared.status.Status.TheVariants.{Done, Usage, BadRecord, OpenFault}
use Rattle.replay_run.specs.declared.status.Status.TheVariants.{ReadFault, WriteFault, KeepFault}
use Rattle.replay_run.specs.declared.status.Status.TheVariants.{BadArea, TooLong, NoMemory}
use Rattle.replay_run.specs.Files.{stream_limit}
use Rattle.replay_run.specs.Midway.{AreFirst, StopsIn}
use Rattle.replay_run.specs.Outside.{Outside}
use Rattle.replay_run.specs.Play.{is_packet, packet_count}
use Rattle.replay_run.specs.Progress.{IsMidway, Moment, Replay}
use Rattle.replay_run.specs.Putting.{HasPut, Outlets, PutsPiece, StopsPiece, outlets_of}
use Rattle.replay_run.specs.Stopping.{LeavesPackets, StreamWithin, meaning_of, run_of}
use Rattle.replay_run.proofs.PuttingLaws.{put_lost, put_more, put_nothing, put_short}
use Rattle.replay_run.proofs.StoppingLaws.{stream_within}

-- ---- what a call did

-- It gave nothing and left the area. Before it these inputs had come, and behind it more.
pub record IsSilentStep (replay : Replay) (old new : ReceiverState) (text : List ℕ)
    (inputs more : List Input) : Type 0 where
  pub no_text : text ≡ []
  pub area : new.area ≡ old.area
  pub stands : (given : List Piece)
      → StandsFor replay.read replay.selection replay.area old inputs given
      → StandsFor replay.read replay.selection replay.area new more given

-- It gave a piece with this text.
pub record IsPieceStep (replay : Replay) (old new : ReceiverState) (text : List ℕ)
    (inputs more : List Input) : Type 0 where
  pub stands : (given : List Piece)
      → StandsFor replay.read replay.selection replay.area old inputs given
      → StandsFor replay.read replay.selection replay.area new more
      (given ++ record { text = text; area = new.area } ∷ [])

abbrev pub IsStep : Replay → ReceiverState → ReceiverState → List ℕ → List Input → List Input
    → Type 0
IsStep replay old new text inputs more =
    IsSilentStep replay old new text inputs more ⊎ IsPieceStep replay old new text inputs more

-- the buffer that a text was appended to, once it was cleared
alone : (before after text : List ℕ) → before ≡ [] → after ≡ before ++ text → text ≡ after
alone before after text none printed = ap (λ l. l ++ text) (sym none) ∙ sym printed

-- the piece with the buffer's text
same_text : (replay : Replay) (new : ReceiverState) (inputs : List Input) (given : List Piece)
    (text after : List ℕ) → text ≡ after
    → StandsFor replay.read replay.selection replay.area new inputs
    (given ++ record { text = text; area = new.area } ∷ [])
    → StandsFor replay.read replay.selection replay.area new inputs
    (given ++ record { text = after; area = new.area } ∷ [])
same_text replay new inputs given text after same s =
    subst (λ l. StandsFor replay.read replay.selection replay.area new inputs
    (given ++ record { text = l; area = new.area } ∷ [])) same s

-- a section's turn
pub section_step : (replay : Replay) (old new : ReceiverState) (before after : List ℕ)
    (inputs : List Input)
    → (PassesDamaged old new before after → new.area ≡ old.area) → before ≡ []
    → PassesDamaged old new before after ⊎ MakesTurn old new before after
    → IsStep replay old new after inputs inputs
section_step replay old new before after inputs area none (inl damaged) = inl (record {
  no_text = damaged.silent ∙ none;
  area = area damaged;
  stands = λ given s. damaged.stays replay.read replay.selection replay.area inputs given s;
})
section_step replay old new before after inputs area none (inr turn) = inr (record {
  stands = λ given s. same_text replay new inputs given turn.text after
      (alone before after turn.text none turn.printed)
      (turn.gives replay.read replay.selection replay.area inputs given s);
})

-- the turn of a moment when timers are due, or no turn
pub clock_step : (replay : Replay) (old new : ReceiverState) (before after : List ℕ)
    (inputs : List Input) (left rest : ℕ)
    → (PassesTime left old new before after → new.area ≡ old.area) → before ≡ []
    → ((rest ≡ 0) × PassesTime left old new before after)
    ⊎ MakesDueTurn (left - rest) old new before after
    → IsStep replay old new after inputs (inputs ++ Tick (left - rest) ∷ [])
clock_step replay old new before after inputs left rest area none (inl passes) =
    let all : left ≡ left - rest = omega (arith, passes.0) in
    let time : PassesTime left old new before after = passes.1 in
    inl (record {
      no_text = time.silent ∙ none;
      area = area time;
      stands = λ given s. subst
          (λ n. StandsFor replay.read replay.selection replay.area new (inputs ++ Tick n ∷ []) given)
          all (time.takes replay.read replay.selection replay.area inputs given s);
    })
clock_step replay old new before after inputs left rest area none (inr turn) = inr (record {
  stands = λ given s. same_text replay new (inputs ++ Tick (left - rest) ∷ []) given turn.text after
      (alone before after turn.text none turn.printed)
      (turn.taken replay.read replay.selection replay.area inputs given s);
})

-- any other input
pub input_step : (replay : Replay) (input : HandedIn) (old new : ReceiverState)
    (before after : List ℕ) (inputs : List Input)
    → (IsSilent input → new.area ≡ old.area) → (IsSilent input → after ≡ before) → IsIdle old
    → before ≡ [] → Answers input old new before after
    → IsStep replay old new after inputs (inputs ++ input_of input ∷ [])
input_step replay (handed.Random word) old new before after inputs area silent idle none answers =
    inl (record {
      no_text = silent tt ∙ none;
      area = area tt;
      stands = λ given s. subst
          (λ l. StandsFor replay.read replay.selection replay.area new
          (inputs ++ input_of (handed.Random word) ∷ []) l) (append-nil given)
          (answers.taken idle replay.read replay.selection replay.area inputs given s);
    })
input_step replay (handed.Date day second) old new before after inputs area silent idle
    none answers =
    inl (record {
      no_text = silent tt ∙ none;
      area = area tt;
      stands = λ given s. subst
          (λ l. StandsFor replay.read replay.selection replay.area new
          (inputs ++ input_of (handed.Date day second) ∷ []) l) (append-nil given)
          (answers.taken idle replay.read replay.selection replay.area inputs given s);
    })
input_step replay (handed.Key key) old new before after inputs area silent idle none answers =
    inr (record {
      stands = λ given s. same_text replay new (inputs ++ input_of (handed.Key key) ∷ []) given
          answers.text after (alone before after answers.text none answers.printed)
          (answers.taken idle replay.read replay.selection replay.area inputs given s);
    })
input_step replay (handed.Release key) old new before after inputs area silent idle none answers =
    inr (record {
      stands = λ given s. same_text replay new (inputs ++ input_of (handed.Release key) ∷ []) given
          answers.text after (alone before after answers.text none answers.printed)
          (answers.taken idle replay.read replay.selection replay.area inputs given s);
    })
input_step replay handed.Show old new before after inputs area silent idle none answers =
    inr (record {
      stands = λ given s. same_text replay new (inputs ++ input_of handed.Show ∷ []) given
          answers.text after (alone before after answers.text none answers.printed)
          (answers.taken idle replay.read replay.selection replay.area inputs given s);
    })
input_step replay (handed.Rows spacing align) old new before after inputs area silent idle
    none answers =
    inr (record {
      stands = λ given s. same_text replay new
          (inputs ++ input_of (handed.Rows spacing align) ∷ []) given answers.text after
          (alone before after answers.text none answers.printed)
          (answers.taken idle replay.read replay.selection replay.area inputs given s);
    })

-- two ticks one behind the other are one of both lengths
pub joined_step : (replay : Replay) (old new : ReceiverState) (text : List ℕ) (inputs : List Input)
    (first second : ℕ)
    → ((given : List Piece)
    → StandsFor replay.read replay.selection replay.area new
    ((inputs ++ Tick first ∷ []) ++ Tick second ∷ []) given
    → StandsFor replay.read replay.selection replay.area new
    (inputs ++ Tick (first + second) ∷ []) given)
    → IsStep replay old new text (inputs ++ Tick first ∷ [])
    ((inputs ++ Tick first ∷ []) ++ Tick second ∷ [])
    → IsStep replay old new text (inputs ++ Tick first ∷ []) (inputs ++ Tick (first + second) ∷ [])
joined_step replay old new text inputs first second joined (inl step) = inl (record {
  no_text = step.no_text;
  area = step.area;
  stands = λ given s. joined given (step.stands given s);
})
joined_step replay old new text inputs first second joined (inr step) = inr (record {
  stands = λ given s. joined (given ++ record { text = text; area = new.area } ∷ [])
      (step.stands given s);
})

-- none of these is a packet
pub no_packet : (input : HandedIn) → is_packet (input_of input) ≡ false
no_packet (handed.Key key) = refl
no_packet (handed.Release key) = refl
no_packet (handed.Random word) = refl
no_packet (handed.Date day second) = refl
no_packet handed.Show = refl
no_packet (handed.Rows spacing align) = refl

-- two facts of a call that succeeded
pub on_ok_two : {P Q R : Type 0} (result : Result (Unit {0}) Status) → OnOk result P
    → OnOk result Q → (P → Q → R) → OnOk result R
on_ok_two (Ok u) p q both = both p q
on_ok_two (Err status) p q both = tt

-- ---- its piece is put out

-- what putting it out leaves of a moment at which the receiver is this one
pub record IsBehind (now : Moment) (receiver : ReceiverState) (after : Moment) : Type 0 where
  pub cutter : after.cutter ≡ now.cutter
  pub loose : after.loose ≡ now.loose
  pub receiver_is : after.receiver ≡ receiver
  pub kept : after.kept ≡ after.receiver.area
  pub bytes : after.bytes ≡ now.bytes
  pub packets : after.packets ≡ now.packets
  pub left : after.left ≡ now.left

-- a step of which nothing or one piece was put out
record Put (replay : Replay) (receiver : ReceiverState) (more : List Input) (kept : List ℕ)
    (after : Outlets) : Type 0 where
  given : List Piece
  stands : IsReader replay.read
      → StandsFor replay.read replay.selection replay.area receiver more given
  put : HasPut replay.area replay.before kept after given

puts_step : (replay : Replay) (now : Moment) (inputs more : List Input) (ahead : List (List ℕ))
    (receiver : ReceiverState) (text : List ℕ) (after : Outlets)
    → IsStep replay now.receiver receiver text inputs more → now.kept ≡ now.receiver.area
    → PutsPiece now.kept (record { text = text; area = receiver.area }) now.outlets after
    → IsMidway replay now inputs ahead → Put replay receiver more receiver.area after
puts_step replay now inputs more ahead receiver text after (inl step) same puts m = record {
  given = m.given;
  stands = λ right. step.stands m.given (m.stands right);
  put = put_nothing replay.area replay.before now.kept now.outlets after m.given
      (record { text = text; area = receiver.area }) step.no_text (step.area ∙ sym same) m.put puts;
}
puts_step replay now inputs more ahead receiver text after (inr step) same puts m =
    let piece : Piece = record { text = text; area = receiver.area } in
    record {
      given = m.given ++ piece ∷ [];
      stands = λ right. step.stands m.given (m.stands right);
      put = put_more replay.area replay.before now.kept now.outlets after m.given piece m.put puts;
    }

-- it was put out whole
pub midway_step : (replay : Replay) (now after : Moment) (inputs more : List Input)
    (ahead : List (List ℕ)) (receiver : ReceiverState) (text : List ℕ)
    → IsStep replay now.receiver receiver text inputs more → now.kept ≡ now.receiver.area
    → packet_count more ≡ packet_count inputs
    → PutsPiece now.kept (record { text = text; area = receiver.area }) now.outlets after.outlets
    → IsBehind now receiver after
    → IsMidway replay now inputs ahead → IsMidway replay after more ahead
midway_step replay now after inputs more ahead receiver text step same count puts behind m =
    let p = puts_step replay now inputs more ahead receiver text after.outlets step same puts m in
    let area : after.kept ≡ receiver.area =
    behind.kept ∙ ap (λ (r : ReceiverState). r.area) behind.receiver_is in
    record {
      taken = m.taken;
      rest = m.rest;
      given = p.given;
      left_is = behind.left ∙ m.left_is;
      whole = m.whole;
      counted = behind.bytes ∙ m.counted;
      ended = λ e. m.ended (sym (ap (λ (c : CutterState). c.ended) behind.cutter) ∙ e);
      ahead_is = ap (λ (c : CutterState). packets_of (c.held ++ m.rest)) behind.cutter ∙ m.ahead_is;
      done = m.done;
      number = m.number ∙ sym behind.packets;
      before = m.before;
      skipped = m.skipped;
      taken_is = m.taken_is
          ∙ ap (λ (c : CutterState). (m.before ++ m.skipped) ++ c.held) (sym behind.cutter);
      behind = m.behind;
      close = λ e open_end. m.close (sym behind.loose ∙ e)
          (ap (λ (c : CutterState). c.ended) (sym behind.cutter) ∙ open_end);
      cut = λ more may.
          m.cut more (λ e. may (ap (λ (c : CutterState). c.ended) behind.cutter ∙ e))
          ∙ ap (λ (c : CutterState). m.done ++ packets_of (c.held ++ more)) (sym behind.cutter);
      few = omega (arith, ap (λ (c : CutterState). length c.held) behind.cutter, m.few);
      packets = behind.packets ∙ m.packets ∙ sym count;
      stands = λ right. subst
          (λ r. StandsFor replay.read replay.selection replay.area r more p.given)
          (sym behind.receiver_is) (p.stands right);
      put = subst (λ k. HasPut replay.area replay.before k after.outlets p.given) (sym area) p.put;
    }

no_rest : (front rest : List ℕ) → front ++ rest ≡ [] → rest ≡ []
no_rest [] rest e = e
no_rest (x ∷ front) rest e = let clash : x ∷ (front ++ rest) ≡ [] = e in cc

-- a call that gave nothing doesn't stop there
never_stops : (status : Status) (kept : List ℕ) (piece : Piece) (old new : Outlets)
    → piece.text ≡ [] → piece.area ≡ kept → StopsPiece status kept piece old new → ⊥
never_stops WriteFault kept piece old new no_text same s =
    s.short.wanting (no_rest s.short.front s.short.rest (sym s.short.whole ∙ no_text))
never_stops KeepFault kept piece old new no_text same s = s.fails.differs same
never_stops NoMemory kept piece old new no_text same s = s
never_stops Done kept piece old new no_text same s = s
never_stops Usage kept piece old new no_text same s = s
never_stops (BadRecord line) kept piece old new no_text same s = s
never_stops OpenFault kept piece old new no_text same s = s
never_stops ReadFault kept piece old new no_text same s = s
never_stops (BadArea size) kept piece old new no_text same s = s
never_stops TooLong kept piece old new no_text same s = s

leaves_step : (status : Status) (replay : Replay) (now : Moment) (told : Outside)
    (given : List Piece) (piece : Piece)
    → StreamWithin replay told → HasPut replay.area replay.before now.kept now.outlets given
    → StopsPiece status now.kept piece now.outlets (outlets_of told)
    → LeavesPackets status replay told (given ++ piece ∷ [])
leaves_step WriteFault replay now told given piece within put s = (
  within,
  put_short (meaning_of replay (given ++ piece ∷ [])) (run_of replay told) now.kept now.outlets given
      piece put s (front_of_self (given ++ piece ∷ [])),
)
leaves_step KeepFault replay now told given piece within put s = (
  within,
  put_lost (meaning_of replay (given ++ piece ∷ [])) (run_of replay told) now.kept now.outlets given
      piece put s (front_of_self (given ++ piece ∷ [])),
)
leaves_step NoMemory replay now told given piece within put s = absurd s
leaves_step Done replay now told given piece within put s = absurd s
leaves_step Usage replay now told given piece within put s = absurd s
leaves_step (BadRecord line) replay now told given piece within put s = absurd s
leaves_step OpenFault replay now told given piece within put s = absurd s
leaves_step ReadFault replay now told given piece within put s = absurd s
leaves_step (BadArea size) replay now told given piece within put s = absurd s
leaves_step TooLong replay now told given piece within put s = absurd s

-- it wasn't put out whole
pub stops_step : (status : Status) (replay : Replay) (now : Moment) (told : Outside)
    (inputs more all : List Input) (ahead : List (List ℕ)) (receiver : ReceiverState)
    (text : List ℕ)
    → IsStep replay now.receiver receiver text inputs more → now.kept ≡ now.receiver.area
    → AreFirst more all
    → StopsPiece status now.kept (record { text = text; area = receiver.area }) now.outlets
    (outlets_of told)
    → told.world.stream.left ≡ now.left → now.bytes ≤ stream_limit
    → IsMidway replay now inputs ahead → StopsIn status replay told all
stops_step status replay now told inputs more all ahead receiver text (inl step) same first s left
    within m =
    absurd (never_stops status now.kept (record { text = text; area = receiver.area }) now.outlets
    (outlets_of told) step.no_text (step.area ∙ sym same) s)
stops_step status replay now told inputs more all ahead receiver text (inr step) same first s left
    within m =
    let piece : Piece = record { text = text; area = receiver.area } in
    record {
      inputs = more;
      first = first;
      receiver = receiver;
      given = m.given ++ piece ∷ [];
      stands = λ right. step.stands m.given (m.stands right);
      leaves = leaves_step status replay now told m.given piece
          (stream_within replay now told inputs ahead left within m) m.put s;
    }
