-- What a receiver stands for, behind one input or one section more.
use Rattle.std.proofs.Common.{◌≡◌, ◌≢◌, ◌≤◌, ◌<◌, ◌-◌, ◌⊎◌, ℕ, ℤ, suc, Bool, true, false, cond, eqb, List, [], ◌∷◌, ◌++◌, refl, sym, ap, ap₂, ◌∙◌, subst, append_assoc, append-nil, arith, length, filter, ⊎_elim, inl, inr, true≢false}
use Rattle.std.specs.Prelude.{◌&&◌, if◌then◌else◌}
use Rattle.std.proofs.lemmas.Bool.{eqb-true, ne_eqb, eq-eqb, cases_eq}
use Rattle.ts_packets.specs.Packet.{pid_of}
use Rattle.ts_sections.specs.Intact.{is_intact}
use Rattle.ts_sections.specs.Sections.{completed_by}
use Rattle.psi_tables.specs.declared.services.Selection.{Selection}
use Rattle.psi_tables.specs.Service.{ServicesState, wants}
use Rattle.section_demultiplexer.specs.Demultiplexing.{DemultiplexerState, GivesNext, HasGivenAll, has_room, is_followed, of_wanted, with_next}
use Rattle.section_demultiplexer.specs.Demultiplexing as demultiplexing
use Rattle.section_demultiplexer.specs.Laws.{SameLists}
use Rattle.es_reader.specs.Readers.{Reader}
use Rattle.page.specs.Standing.{page_area}
use Rattle.receiver_core.specs.BroadcastCalls.{MakesInput, TakesTurn, Waits}
use Rattle.receiver_core.specs.BroadcastCalls as calls
use Rattle.receiver_core.specs.Broadcasts.{BroadcastState, HasMade, HasOutcome}
use Rattle.receiver_core.specs.Broadcasts as broadcasts
use Rattle.receiver_core.specs.declared.broadcast.Input.{Input as HandedIn}
use Rattle.receiver_core.specs.declared.broadcast.Input.TheVariants as handed
use Rattle.receiver_core.specs.Fronts.{IsFront}
use Rattle.receiver_core.specs.Outputs.{Input, Piece, input_of, outcome_of, outputs, piece_of, pieces_of, pieces_of_turns, sections_by}
use Rattle.receiver_core.specs.Outputs.{state_after, state_behind, state_behind_turns, with_packet}
use Rattle.receiver_core.specs.Receiving.{Answers, Gives, IsIdle, IsOver, MakesDueTurn, MakesTurn, PassesDamaged, PassesTime, ReceiverState, StandsFor, Stays, Takes, piece_for}
use Rattle.receiver_core.specs.State.{State, opening, services}
use Rattle.receiver_core.specs.Outputs.Input.{Date, Packet, Random, Tick}
use Rattle.receiver_core.specs.Turns.{turn}
use Rattle.receiver_core.specs.State as state_of
use Rattle.receiver_core.proofs.OutputLaws.{behind_one_more, no_outputs, outputs_one_more}
use Rattle.receiver_core.proofs.BroadcastLaws.{area_kept, key_packets, services_are, turn_packets}
use Rattle.receiver_core.proofs.TickLaws.{time_packets}

-- what callers see of a receiver that keeps this
abbrev pub seen : DemultiplexerState → BroadcastState → Bool → ReceiverState
seen d b spent = record {
  services = b.services;
  pid = d.pid;
  waiting = d.waiting;
  clock = b.page.clock;
  area = page_area b.page;
  spent = spent;
  kept = record { demultiplexer = d; broadcast = b };
}

-- ---- where nothing waits

no_pieces : (pid : ℕ) (waiting : List (List ℕ)) (now : State) → waiting ≡ [] → pieces_of_turns pid (filter is_intact waiting) now ≡ []
no_pieces pid waiting now none = ap (λ (l : List (List ℕ)). pieces_of_turns pid (filter is_intact l) now) none

no_turns : (pid : ℕ) (waiting : List (List ℕ)) (now : State) → waiting ≡ [] → state_behind_turns pid (filter is_intact waiting) now ≡ now
no_turns pid waiting now none = ap (λ (l : List (List ℕ)). state_behind_turns pid (filter is_intact l) now) none

pub front_of_standing : (read : Reader) (selection : Selection) (area : List ℕ) (state : ReceiverState) (inputs : List Input) (given : List Piece) → StandsFor read selection area state inputs given → IsFront given (outputs read selection area inputs)
front_of_standing read selection area state inputs given s = record { rest = pieces_of_turns state.pid (filter is_intact state.waiting) s.now; joined = s.pieces }

given_at_rest : (read : Reader) (selection : Selection) (area : List ℕ) (state : ReceiverState) (inputs : List Input) (given : List Piece) → StandsFor read selection area state inputs given → state.waiting ≡ [] → outputs read selection area inputs ≡ given
given_at_rest read selection area state inputs given s none = s.pieces ∙ ap (λ (l : List Piece). given ++ l) (no_pieces state.pid state.waiting s.now none) ∙ append-nil given

state_at_rest : (read : Reader) (selection : Selection) (area : List ℕ) (state : ReceiverState) (inputs : List Input) (given : List Piece) (s : StandsFor read selection area state inputs given) → state.waiting ≡ []
    → state_behind (opening read selection area) inputs ≡ s.now
state_at_rest read selection area state inputs given s none = s.left ∙ no_turns state.pid state.waiting s.now none

pub all_given : (read : Reader) (selection : Selection) (area : List ℕ) (state : ReceiverState) (inputs : List Input) (given : List Piece) → StandsFor read selection area state inputs given → IsIdle state → given ≡ outputs read selection area inputs
all_given read selection area state inputs given s idle = sym (given_at_rest read selection area state inputs given s (idle s.unspent))

-- what one input more prints, and what it leaves
next_pieces : (read : Reader) (selection : Selection) (area : List ℕ) (state : ReceiverState) (inputs : List Input) (given : List Piece) (s : StandsFor read selection area state inputs given) (input : Input) → state.waiting ≡ []
    → outputs read selection area (inputs ++ input ∷ []) ≡ given ++ pieces_of input s.now
next_pieces read selection area state inputs given s input none =
    outputs_one_more read selection area inputs input
    ∙ ap₂ (λ (before : List Piece) (now : State). before ++ (pieces_of input now ++ [])) (given_at_rest read selection area state inputs given s none) (state_at_rest read selection area state inputs given s none)
    ∙ ap (λ (l : List Piece). given ++ l) (append-nil (pieces_of input s.now))

next_state : (read : Reader) (selection : Selection) (area : List ℕ) (state : ReceiverState) (inputs : List Input) (given : List Piece) (s : StandsFor read selection area state inputs given) (input : Input) → state.waiting ≡ []
    → state_behind (opening read selection area) (inputs ++ input ∷ []) ≡ state_after input s.now
next_state read selection area state inputs given s input none =
    behind_one_more (opening read selection area) inputs input ∙ ap (state_after input) (state_at_rest read selection area state inputs given s none)

pub stands_first : (read : Reader) (selection : Selection) (area : List ℕ) (d : DemultiplexerState) (b : BroadcastState) → d.waiting ≡ [] → demultiplexing.StandsFor d (λ pid. []) (λ pid. [])
    → broadcasts.StandsFor b (opening read selection area) → StandsFor read selection area (seen d b false) [] []
stands_first read selection area d b none assembled stands = record {
  now = opening read selection area;
  left = sym (no_turns d.pid d.waiting (opening read selection area) none);
  pieces = no_outputs read selection area ∙ sym (no_pieces d.pid d.waiting (opening read selection area) none);
  services_are = services_are b (opening read selection area) stands;
  clock_is = stands.page.clock;
  area_is = area_kept b (opening read selection area) stands;
  unspent = refl;
  kept = record { broadcast = stands; sections = λ pid. []; assembled = assembled };
}

-- ---- one input more

-- what the broadcast makes of it, where nothing waits, and the packets stay
took : (input : Input) (pieces : List Piece) (d : DemultiplexerState) (b c : BroadcastState) (spent still : Bool) (read : Reader) (selection : Selection) (area : List ℕ) (inputs : List Input) (given : List Piece)
    → (s : StandsFor read selection area (seen d b spent) inputs given) → still ≡ false → d.waiting ≡ []
    → HasOutcome c pieces (outcome_of input s.now) → (state_after input s.now).packets ≡ s.now.packets
    → StandsFor read selection area (seen d c still) (inputs ++ input ∷ []) (given ++ pieces)
took input pieces d b c spent still read selection area inputs given s unspent none has packets =
    let state = seen d b spent in
    let now = state_after input s.now in
    record {
      now = now;
      left = next_state read selection area state inputs given s input none ∙ sym (no_turns d.pid d.waiting now none);
      pieces =
          next_pieces read selection area state inputs given s input none
          ∙ ap (λ (l : List Piece). given ++ l) (sym has.pieces_are)
          ∙ sym (append-nil (given ++ pieces))
          ∙ ap (λ (l : List Piece). (given ++ pieces) ++ l) (sym (no_pieces d.pid d.waiting now none));
      services_are = services_are c now has.stands;
      clock_is = has.stands.page.clock;
      area_is = area_kept c now has.stands;
      unspent = unspent;
      kept = record {
        broadcast = has.stands;
        sections = s.kept.sections;
        assembled = subst (λ (packets : ℕ → List (List ℕ)). demultiplexing.StandsFor d packets s.kept.sections) (sym packets) s.kept.assembled;
      };
    }

-- ---- an input that is handed in whole

-- it leaves the packets
keeps_packets : (input : HandedIn) (s : State) → (state_after (input_of input) s).packets ≡ s.packets
keeps_packets (handed.Key key) s = key_packets key true s
keeps_packets (handed.Release key) s = key_packets key false s
keeps_packets (handed.Random word) s = refl
keeps_packets (handed.Date day second) s = refl
keeps_packets handed.Show s = refl
keeps_packets (handed.Rows spacing align) s = refl

-- what the broadcast makes of it is the receiver's answer
pub answers : (input : HandedIn) (d : DemultiplexerState) (b c : BroadcastState) (spent still : Bool)
    (before after : List ℕ) → still ≡ false → MakesInput input b c before after
    → Answers input (seen d b spent) (seen d c still) before after
answers input d b c spent still before after unspent made = record {
  text = made.text;
  printed = made.printed;
  area = made.area;
  pieces_are = λ read selection area inputs given s. sym (made.gives s.now s.kept.broadcast).pieces_are;
  taken = λ idle read selection area inputs given s.
      took (input_of input) (piece_for input made.text (page_area c.page)) d b c spent still read selection area inputs given s
      unspent (idle s.unspent) (made.gives s.now s.kept.broadcast) (keeps_packets input s.now);
}

-- the wish to see the display leaves what the receiver stands for, also while sections wait
pub stays_shown : (input : HandedIn) (d : DemultiplexerState) (b c : BroadcastState) (spent still : Bool)
    (before after : List ℕ) → still ≡ false → MakesInput input b c before after
    → input ≡ handed.Show → Stays (seen d b spent) (seen d c still)
stays_shown input d b c spent still before after unspent made shows read selection area inputs given s =
    let stands : broadcasts.StandsFor c s.now =
    subst (λ (it : HandedIn). broadcasts.StandsFor c (state_after (input_of it) s.now)) shows
    (made.gives s.now s.kept.broadcast).stands in
    record {
      now = s.now;
      left = s.left;
      pieces = s.pieces;
      services_are = services_are c s.now stands;
      clock_is = stands.page.clock;
      area_is = area_kept c s.now stands;
      unspent = unspent;
      kept = record { broadcast = stands; sections = s.kept.sections; assembled = s.kept.assembled };
    }

-- a random word gives no piece
pub takes_random : (word : ℕ) (old new : ReceiverState) (before after : List ℕ) → IsIdle old
    → Answers (handed.Random word) old new before after → Takes (Random word) old new
takes_random word old new before after idle made read selection area inputs given s =
    subst (λ (l : List Piece). StandsFor read selection area new (inputs ++ Random word ∷ []) l) (append-nil given)
    (made.taken idle read selection area inputs given s)

-- nor does a date
pub takes_date : (day : ℤ) (second : ℕ) (d : DemultiplexerState) (b c : BroadcastState) (spent : Bool) → IsIdle (seen d b spent)
    → MakesInput (handed.Date day second) b c [] [] → Takes (Date day second) (seen d b spent) (seen d c spent)
takes_date day second d b c spent idle made read selection area inputs given s =
    subst (λ (l : List Piece). StandsFor read selection area (seen d c spent) (inputs ++ Date day second ∷ []) l) (append-nil given)
    (took (Date day second) [] d b c spent spent read selection area inputs given s s.unspent (idle s.unspent) (made.gives s.now s.kept.broadcast)
    (keeps_packets (handed.Date day second) s.now))

-- ---- time

time_waits : (left : ℕ) (d : DemultiplexerState) (b c : BroadcastState) (spent still : Bool) (before after : List ℕ) → still ≡ false → IsIdle (seen d b spent)
    → Waits left b c before after → PassesTime left (seen d b spent) (seen d c still) before after
time_waits left d b c spent still before after unspent idle made = record {
  silent = made.silent;
  area = made.area;
  takes = λ read selection area inputs given s.
      subst (λ (l : List Piece). StandsFor read selection area (seen d c still) (inputs ++ Tick left ∷ []) l) (append-nil given)
      (took (Tick left) [] d b c spent still read selection area inputs given s unspent (idle s.unspent) (made.passes s.now s.kept.broadcast) (time_packets left s.now));
}

time_turns : (passed : ℕ) (d : DemultiplexerState) (b c : BroadcastState) (spent still : Bool) (before after : List ℕ) → still ≡ false → IsIdle (seen d b spent)
    → TakesTurn passed b c before after → MakesDueTurn passed (seen d b spent) (seen d c still) before after
time_turns passed d b c spent still before after unspent idle made = record {
  text = made.text;
  printed = made.printed;
  taken = λ read selection area inputs given s.
      took (Tick passed) (record { text = made.text; area = page_area c.page } ∷ []) d b c spent still read selection area inputs given s
      unspent (idle s.unspent) (made.passes s.now s.kept.broadcast) (time_packets passed s.now);
}

-- to its end, or to a turn
pub passes_time : (left rest : ℕ) (d : DemultiplexerState) (b c : BroadcastState) (spent still : Bool) (before after : List ℕ) → still ≡ false → IsIdle (seen d b spent)
    → calls.PassesTime left rest b c before after
    → ((rest ≡ 0) × PassesTime left (seen d b spent) (seen d c still) before after)
    ⊎ MakesDueTurn (left - rest) (seen d b spent) (seen d c still) before after
passes_time left rest d b c spent still before after unspent idle made =
    ⊎_elim
    (λ (made : (rest ≡ 0) × Waits left b c before after). inl (made.0, time_waits left d b c spent still before after unspent idle made.1))
    (λ (made : TakesTurn (left - rest) b c before after). inr (time_turns (left - rest) d b c spent still before after unspent idle made))
    made

-- ---- a packet

-- the state with one packet more is one for the same broadcast
same_broadcast : (b : BroadcastState) (s : State) (packet : List ℕ) → broadcasts.StandsFor b s → broadcasts.StandsFor b (with_packet packet s)
same_broadcast b s packet p = record { selection = p.selection; services = p.services; page = p.page }

not_both : {A : Type 0} (w e : Bool) (x y : A) → (e ≡ true → w ≡ false) → cond (w && e) x y ≡ y
not_both true true x y h = absurd (true≢false (h refl))
not_both true false x y h = refl
not_both false e x y h = refl

left_alone : (now : State) (packet : List ℕ) → state_of.wants now (pid_of packet) ≡ false → (pid : ℕ) → now.packets pid ≡ (with_packet packet now).packets pid
left_alone now packet off pid =
    sym (not_both (state_of.wants now pid) (eqb pid (pid_of packet)) (now.packets pid ++ packet ∷ []) (now.packets pid)
    (λ same. subst (λ (p : ℕ). state_of.wants now p ≡ false) (sym (eqb-true pid (pid_of packet) same)) off))

and_false : {A : Type 0} (w : Bool) (x y : A) → cond (w && false) x y ≡ y
and_false true x y = refl
and_false false x y = refl

-- the packets of each PID, with one more
added : (now : State) (packet : List ℕ) → state_of.wants now (pid_of packet) ≡ true → (pid : ℕ) → with_next (pid_of packet) packet now.packets pid ≡ (with_packet packet now).packets pid
added now packet w pid =
    let q = pid_of packet in
    ⊎_elim
    (λ (same : q ≡ pid). subst (λ (p : ℕ). with_next q packet now.packets p ≡ (with_packet packet now).packets p) same (rw (eq-eqb q q refl, w) refl))
    (λ (apart : q ≢ pid). rw (ne_eqb q pid apart, ne_eqb pid q (λ e. apart (sym e))) (sym (and_false (state_of.wants now pid) (now.packets pid ++ packet ∷ []) (now.packets pid))))
    (cases_eq q pid)

wanted_by : (b : BroadcastState) (now : State) (pid : ℕ) (w : Bool) → broadcasts.StandsFor b now → wants b.services pid ≡ w → state_of.wants now pid ≡ w
wanted_by b now pid w stands e = subst (λ (x : ServicesState). wants x pid ≡ w) (services_are b now stands) e

sections_if : (w : Bool) (packet : List ℕ) (s : State) → state_of.wants s (pid_of packet) ≡ w → sections_by packet s ≡ cond w (completed_by (s.packets (pid_of packet)) packet) []
sections_if w packet s e = ap (λ (x : Bool). cond x (completed_by (s.packets (pid_of packet)) packet) []) e

-- a packet of a PID that isn't wanted
pub passes_packet : SameLists → (d : DemultiplexerState) (b : BroadcastState) (spent : Bool) (packet : List ℕ) → (spent ≡ false → d.waiting ≡ []) → wants b.services (pid_of packet) ≡ false
    → Takes (Packet packet) (seen d b spent) (seen d b spent)
passes_packet same d b spent packet idle off read selection area inputs given s =
    let state = seen d b spent in
    let now = with_packet packet s.now in
    let none = idle s.unspent in
    let unwanted = wanted_by b s.now (pid_of packet) false s.kept.broadcast off in
    let nothing = sections_if false packet s.now unwanted in
    record {
      now = now;
      left =
          next_state read selection area state inputs given s (Packet packet) none ∙ no_turns (pid_of packet) (sections_by packet s.now) now nothing
          ∙ sym (no_turns d.pid d.waiting now none);
      pieces =
          next_pieces read selection area state inputs given s (Packet packet) none
          ∙ ap (λ (l : List Piece). given ++ l) (no_pieces (pid_of packet) (sections_by packet s.now) now nothing ∙ sym (no_pieces d.pid d.waiting now none));
      services_are = s.services_are;
      clock_is = s.clock_is;
      area_is = s.area_is;
      unspent = s.unspent;
      kept = record {
        broadcast = same_broadcast b s.now packet s.kept.broadcast;
        sections = s.kept.sections;
        assembled = same d s.now.packets s.kept.sections now.packets s.kept.sections s.kept.assembled (left_alone s.now packet unwanted) (λ pid. refl);
      };
    }

pub passes_sections : (d : DemultiplexerState) (b : BroadcastState) (spent : Bool) (packet : List ℕ) → (spent ≡ false → d.waiting ≡ []) → wants b.services (pid_of packet) ≡ false
    → (read : Reader) (selection : Selection) (area : List ℕ) (inputs : List Input) (given : List Piece) (s : StandsFor read selection area (seen d b spent) inputs given) → d.waiting ≡ sections_by packet s.now
passes_sections d b spent packet idle off read selection area inputs given s =
    idle s.unspent ∙ sym (sections_if false packet s.now (wanted_by b s.now (pid_of packet) false s.kept.broadcast off))

-- what a packet that is handed in does
pub record IsHandedIn (old new : DemultiplexerState) (packet : List ℕ) : Type 0 where
  pub pid : new.pid ≡ pid_of packet
  pub stands : (packets given : ℕ → List (List ℕ)) → demultiplexing.StandsFor old packets given → demultiplexing.StandsFor new (with_next (pid_of packet) packet packets) given
  pub completed : (packets given : ℕ → List (List ℕ)) → demultiplexing.StandsFor old packets given → new.waiting ≡ completed_by (packets (pid_of packet)) packet

-- there is room for the packet's PID, whatever was received
abbrev pub HasRoomFor : DemultiplexerState → BroadcastState → List ℕ → Type 0
HasRoomFor d b packet = (now : State) (given : ℕ → List (List ℕ)) → broadcasts.StandsFor b now → demultiplexing.StandsFor d now.packets given → has_room d (pid_of packet) ≡ true

completes_sections : (old new : DemultiplexerState) (b : BroadcastState) (packet : List ℕ) (now : State) (given : ℕ → List (List ℕ)) → IsHandedIn old new packet → wants b.services (pid_of packet) ≡ true
    → broadcasts.StandsFor b now → demultiplexing.StandsFor old now.packets given → new.waiting ≡ sections_by packet now
completes_sections old new b packet now given is on stands assembled =
    is.completed now.packets given assembled ∙ sym (sections_if true packet now (wanted_by b now (pid_of packet) true stands on))

pub takes_packet : SameLists → (old new : DemultiplexerState) (b : BroadcastState) (spent : Bool) (packet : List ℕ) → (spent ≡ false → old.waiting ≡ []) → wants b.services (pid_of packet) ≡ true
    → HasRoomFor old b packet → (has_room old (pid_of packet) ≡ true → IsHandedIn old new packet) → Takes (Packet packet) (seen old b spent) (seen new b spent)
takes_packet same old new b spent packet idle on room hands read selection area inputs given s =
    let state = seen old b spent in
    let now = with_packet packet s.now in
    let none = idle s.unspent in
    let is = hands (room s.now s.kept.sections s.kept.broadcast s.kept.assembled) in
    let all = completes_sections old new b packet s.now s.kept.sections is on s.kept.broadcast s.kept.assembled in
    record {
      now = now;
      left =
          next_state read selection area state inputs given s (Packet packet) none
          ∙ ap₂ (λ (p : ℕ) (l : List (List ℕ)). state_behind_turns p (filter is_intact l) now) (sym is.pid) (sym all);
      pieces =
          next_pieces read selection area state inputs given s (Packet packet) none
          ∙ ap₂ (λ (p : ℕ) (l : List (List ℕ)). given ++ pieces_of_turns p (filter is_intact l) now) (sym is.pid) (sym all);
      services_are = s.services_are;
      clock_is = s.clock_is;
      area_is = s.area_is;
      unspent = s.unspent;
      kept = record {
        broadcast = same_broadcast b s.now packet s.kept.broadcast;
        sections = s.kept.sections;
        assembled =
            same new (with_next (pid_of packet) packet s.now.packets) s.kept.sections now.packets s.kept.sections
            (is.stands s.now.packets s.kept.sections s.kept.assembled) (added s.now packet (wanted_by b s.now (pid_of packet) true s.kept.broadcast on)) (λ pid. refl);
      };
    }

pub takes_sections : (old new : DemultiplexerState) (b : BroadcastState) (spent : Bool) (packet : List ℕ) → wants b.services (pid_of packet) ≡ true
    → HasRoomFor old b packet → (has_room old (pid_of packet) ≡ true → IsHandedIn old new packet)
    → (read : Reader) (selection : Selection) (area : List ℕ) (inputs : List Input) (given : List Piece) (s : StandsFor read selection area (seen old b spent) inputs given) → new.waiting ≡ sections_by packet s.now
takes_sections old new b spent packet on room hands read selection area inputs given s =
    completes_sections old new b packet s.now s.kept.sections (hands (room s.now s.kept.sections s.kept.broadcast s.kept.assembled)) on s.kept.broadcast s.kept.assembled

-- ---- the next section

-- no section was left
pub no_turn : (old new : DemultiplexerState) (b : BroadcastState) (spent : Bool) (text : List ℕ) → HasGivenAll old new → IsOver (seen old b spent) (seen new b spent) text text
no_turn old new b spent text over = record {
  none = over.none;
  left = over.left;
  silent = refl;
  area = refl;
  stays = λ read selection area inputs given s. record {
    now = s.now;
    left = s.left ∙ no_turns old.pid old.waiting s.now over.none ∙ sym (no_turns new.pid new.waiting s.now over.left);
    pieces = s.pieces ∙ ap (λ (l : List Piece). given ++ l) (no_pieces old.pid old.waiting s.now over.none ∙ sym (no_pieces new.pid new.waiting s.now over.left));
    services_are = s.services_are;
    clock_is = s.clock_is;
    area_is = s.area_is;
    unspent = s.unspent;
    kept = record { broadcast = s.kept.broadcast; sections = s.kept.sections; assembled = over.stands s.now.packets s.kept.sections s.kept.assembled };
  };
}

-- a damaged section
damaged_rest : (section : List ℕ) (rest : List (List ℕ)) → is_intact section ≡ false → filter is_intact (section ∷ rest) ≡ filter is_intact rest
damaged_rest section rest h = rw h refl

intact_rest : (section : List ℕ) (rest : List (List ℕ)) → is_intact section ≡ true → filter is_intact (section ∷ rest) ≡ section ∷ filter is_intact rest
intact_rest section rest h = rw h refl

pub passes_damaged : (old new : DemultiplexerState) (b : BroadcastState) (spent : Bool) (section text : List ℕ) → GivesNext old new section → is_intact section ≡ false
    → PassesDamaged (seen old b spent) (seen new b spent) text text
passes_damaged old new b spent section text gives damaged =
    let same : filter is_intact old.waiting ≡ filter is_intact new.waiting = ap (filter is_intact) gives.next ∙ damaged_rest section new.waiting damaged in
    record {
      section = section;
      next = gives.next;
      damaged = damaged;
      silent = refl;
      area = refl;
      stays = λ read selection area inputs given s. record {
        now = s.now;
        left = s.left ∙ ap₂ (λ (p : ℕ) (l : List (List ℕ)). state_behind_turns p l s.now) (sym gives.pid) same;
        pieces = s.pieces ∙ ap₂ (λ (p : ℕ) (l : List (List ℕ)). given ++ pieces_of_turns p l s.now) (sym gives.pid) same;
        services_are = s.services_are;
        clock_is = s.clock_is;
        area_is = s.area_is;
        unspent = s.unspent;
        kept = record { broadcast = s.kept.broadcast; sections = with_next old.pid section s.kept.sections; assembled = gives.stands s.now.packets s.kept.sections s.kept.assembled };
      };
    }

-- ---- an intact section

-- the sections of PIDs that aren't wanted any more are left
pub record IsFollowed (old new : DemultiplexerState) (x : ServicesState) : Type 0 where
  pub pid : new.pid ≡ old.pid
  pub waiting : new.waiting ≡ (if wants x old.pid then old.waiting else [])
  pub stands : (packets given : ℕ → List (List ℕ)) → demultiplexing.StandsFor old packets given → demultiplexing.StandsFor new (of_wanted (wants x) packets) (of_wanted (wants x) given)

rest_state : (w : Bool) (pid : ℕ) (rest : List (List ℕ)) (s : State) → state_of.wants s pid ≡ w
    → state_behind_turns pid (filter is_intact rest) s ≡ state_behind_turns pid (filter is_intact (if w then rest else [])) s
rest_state true pid rest s e = refl
rest_state false pid rest s e = by (filter is_intact rest)
  where
    by : (l : List (List ℕ)) → state_behind_turns pid l s ≡ s
    by [] = refl
    by (section ∷ l) = ap (λ (b : Bool). cond b (state_behind_turns pid l (turn pid section s).state) s) e

rest_pieces : (w : Bool) (pid : ℕ) (rest : List (List ℕ)) (s : State) → state_of.wants s pid ≡ w
    → pieces_of_turns pid (filter is_intact rest) s ≡ pieces_of_turns pid (filter is_intact (if w then rest else [])) s
rest_pieces true pid rest s e = refl
rest_pieces false pid rest s e = by (filter is_intact rest)
  where
    by : (l : List (List ℕ)) → pieces_of_turns pid l s ≡ []
    by [] = refl
    by (section ∷ l) = ap (λ (b : Bool). cond b (piece_of (turn pid section s) ∷ pieces_of_turns pid l (turn pid section s).state) []) e

-- what a turn makes of the state that a receiver stands for
turned : SameLists → (old between new : DemultiplexerState) (b c : BroadcastState) (spent still : Bool) (section text : List ℕ) → GivesNext old between section → is_intact section ≡ true → IsFollowed between new c.services
    → ((s : State) → broadcasts.StandsFor b s → HasMade c text (turn old.pid section s)) → wants b.services old.pid ≡ true → still ≡ false → Gives text (seen old b spent) (seen new c still)
turned same old between new b c spent still section text gives intact follows turns wanted unspent read selection area inputs given s =
    let t = turn old.pid section s.now in
    let made = turns s.now s.kept.broadcast in
    let is : c.services ≡ services t.state = services_are c t.state made.stands in
    let was : state_of.wants s.now old.pid ≡ true = wanted_by b s.now old.pid true s.kept.broadcast wanted in
    let rest = between.waiting in
    let all : filter is_intact old.waiting ≡ section ∷ filter is_intact rest = ap (filter is_intact) gives.next ∙ intact_rest section rest intact in
    let pid_is : new.pid ≡ old.pid = follows.pid ∙ gives.pid in
    let left_is : new.waiting ≡ (if wants c.services old.pid then rest else []) = follows.waiting ∙ ap (λ (p : ℕ). if wants c.services p then rest else []) gives.pid in
    let now_wanted : state_of.wants t.state old.pid ≡ wants c.services old.pid = ap (λ (x : ServicesState). wants x old.pid) (sym is) in
    record {
      now = t.state;
      left =
          s.left
          ∙ ap (λ (l : List (List ℕ)). state_behind_turns old.pid l s.now) all
          ∙ ap (λ (w : Bool). cond w (state_behind_turns old.pid (filter is_intact rest) t.state) s.now) was
          ∙ rest_state (wants c.services old.pid) old.pid rest t.state now_wanted
          ∙ ap₂ (λ (p : ℕ) (l : List (List ℕ)). state_behind_turns p (filter is_intact l) t.state) (sym pid_is) (sym left_is);
      pieces =
          s.pieces
          ∙ ap (λ (l : List (List ℕ)). given ++ pieces_of_turns old.pid l s.now) all
          ∙ ap (λ (w : Bool). given ++ cond w (piece_of t ∷ pieces_of_turns old.pid (filter is_intact rest) t.state) []) was
          ∙ ap₂ (λ (l m : List ℕ). given ++ (record { text = l; area = m } ∷ pieces_of_turns old.pid (filter is_intact rest) t.state)) (sym made.text_is) (sym (area_kept c t.state made.stands))
          ∙ sym (append_assoc given (record { text = text; area = page_area c.page } ∷ []) (pieces_of_turns old.pid (filter is_intact rest) t.state))
          ∙ ap (λ (l : List Piece). (given ++ record { text = text; area = page_area c.page } ∷ []) ++ l) (rest_pieces (wants c.services old.pid) old.pid rest t.state now_wanted)
          ∙ ap₂ (λ (p : ℕ) (l : List (List ℕ)). (given ++ record { text = text; area = page_area c.page } ∷ []) ++ pieces_of_turns p (filter is_intact l) t.state) (sym pid_is) (sym left_is);
      services_are = is;
      clock_is = made.stands.page.clock;
      area_is = area_kept c t.state made.stands;
      unspent = unspent;
      kept = record {
        broadcast = made.stands;
        sections = of_wanted (wants c.services) (with_next old.pid section s.kept.sections);
        assembled =
            let left = of_wanted (wants c.services) (with_next old.pid section s.kept.sections) in
            same new (of_wanted (wants c.services) s.now.packets) left t.state.packets left
            (follows.stands s.now.packets (with_next old.pid section s.kept.sections) (gives.stands s.now.packets s.kept.sections s.kept.assembled))
            (λ other. ap (λ (x : ServicesState). cond (wants x other) (s.now.packets other) []) is ∙ sym (turn_packets old.pid section s.now other)) (λ pid. refl);
      };
    }

pub makes_turn : SameLists → (old between new : DemultiplexerState) (b c : BroadcastState) (spent still : Bool) (section text before after : List ℕ) → GivesNext old between section → is_intact section ≡ true
    → IsFollowed between new c.services → ((s : State) → broadcasts.StandsFor b s → HasMade c text (turn old.pid section s)) → wants b.services old.pid ≡ true → still ≡ false
    → after ≡ before ++ text → MakesTurn (seen old b spent) (seen new c still) before after
makes_turn same old between new b c spent still section text before after gives intact follows turns wanted unspent printed = record {
  section = section;
  rest = between.waiting;
  text = text;
  next = gives.next;
  intact = intact;
  left = follows.waiting ∙ ap (λ (p : ℕ). if wants c.services p then between.waiting else []) gives.pid;
  printed = printed;
  gives = turned same old between new b c spent still section text gives intact follows turns wanted unspent;
}

-- ---- what gets less

pub one_less : (section : List ℕ) (old new : List (List ℕ)) → old ≡ section ∷ new → length new < length old
one_less section old new is = let same : length old ≡ suc (length new) = ap length is in omega arith

rest_or_none : (w : Bool) (rest : List (List ℕ)) → length (if w then rest else []) ≤ length rest
rest_or_none true rest = omega arith
rest_or_none false rest = omega arith

pub less_behind : (section : List ℕ) (old rest new : List (List ℕ)) (w : Bool) → old ≡ section ∷ rest → new ≡ (if w then rest else []) → length new < length old
less_behind section old rest new w is left =
    let same : length old ≡ suc (length rest) = ap length is in
    let most = rest_or_none w rest in
    let also : length new ≡ length (if w then rest else []) = ap length left in omega arith

-- ---- what stays true

-- a PID that is still followed is wanted
both : (a b : Bool) → (a && b) ≡ true → b ≡ true
both true b h = h
both false b h = absurd (true≢false (sym h))

pub wanted_behind : (between new : DemultiplexerState) (lent x : ServicesState) → ((pid : ℕ) → is_followed new pid ≡ (is_followed between pid && wants lent pid)) → lent ≡ x
    → (pid : ℕ) → is_followed new pid ≡ true → wants x pid ≡ true
wanted_behind between new lent x follows same pid h =
    ap (λ (y : ServicesState). wants y pid) (sym same) ∙ both (is_followed between pid) (wants lent pid) (sym (follows pid) ∙ h)
