-- The steps of a replay, over plain values.
use Rattle.std.proofs.Common.{◌≡◌, ℕ, ◌+◌, ◌-◌, ◌≤◌, true, false, List, [], ◌∷◌, ◌++◌, take, drop, refl}
use Rattle.std.proofs.Common.{sym, ap, arith, inl, inr, take-append-drop, length-drop}
use Rattle.std.proofs.Common.{◌∙◌, subst, append_assoc, append-nil, length, Option, Some}
use Rattle.std.proofs.Common.{length-append, drop-drop}
use Rattle.ts_packets.specs.Cutter.{CutterState, DropsFront, Gives}
use Rattle.ts_packets.specs.Packets.{packets_of}
use Rattle.es_reader.specs.Readers.{IsReader}
use Rattle.receiver_core.specs.Outputs.{Input, Piece}
use Rattle.receiver_core.specs.Receiving.{ReceiverState, StandsFor}
use Rattle.receiver_core.specs.Outputs.Input.{Packet, Tick}
use Rattle.replay_run.specs.declared.record.RecordItem.{RecordItem}
use Rattle.replay_run.specs.Midway.{item_of_count, loosely}
use Rattle.replay_run.specs.Needs.{most_ahead}
use Rattle.replay_run.specs.Play.{inputs_of_item, packets_behind, inputs_of, packets_left}
use Rattle.replay_run.specs.Play.{packet_count}
use Rattle.replay_run.specs.Outside.{Outside}
use Rattle.replay_run.specs.Progress.{HasBegun, Replay, Moment, IsMidway, IsBetween}
use Rattle.replay_run.specs.Putting.{HasPut, outlets_of}
use Rattle.replay_run.proofs.PlayLaws.{inputs_of-push, packets_left-push, no_items}
use Rattle.replay_run.proofs.PlayLaws.{packet_count-packet, with_packets, with_none, with_more}
use Rattle.replay_run.proofs.PlayLaws.{Allows, packet_count-other, took_all}
use Rattle.replay_run.proofs.PuttingLaws.{put_none}

-- bytes left out at the front of those held are among the others
pub skipped_front : (taken before held rest : List ℕ) (n : ℕ) → rest ≡ drop n held
    → taken ≡ before ++ held → taken ≡ (before ++ take n held) ++ rest
skipped_front taken before held rest n same whole =
    whole ∙ ap (λ l. before ++ l) (sym (take-append-drop n held))
    ∙ sym (append_assoc before (take n held) (drop n held))
    ∙ ap (λ l. (before ++ take n held) ++ l) (sym same)

-- the cutter left bytes out in front of the next packet
pub midway_seek : (replay : Replay) (now : Moment) (inputs : List Input) (ahead : List (List ℕ))
    (cutter : CutterState)
    → Gives now.cutter [] cutter → DropsFront now.cutter cutter
    → IsMidway replay now inputs ahead
    → IsMidway replay (record now { cutter = cutter; loose = true }) inputs ahead
midway_seek replay now inputs ahead cutter gives drops m = record {
  taken = m.taken;
  rest = m.rest;
  given = m.given;
  left_is = m.left_is;
  whole = m.whole;
  counted = m.counted;
  ended = λ e. m.ended (sym drops.ended ∙ e);
  ahead_is = sym (gives m.rest m.ended) ∙ m.ahead_is;
  done = m.done;
  number = m.number;
  before = m.before;
  skipped = m.skipped ++ take (length now.cutter.held - length cutter.held) now.cutter.held;
  taken_is = skipped_front m.taken (m.before ++ m.skipped) now.cutter.held cutter.held
      (length now.cutter.held - length cutter.held) drops.held m.taken_is
      ∙ ap (λ l. l ++ cutter.held) (append_assoc m.before m.skipped
      (take (length now.cutter.held - length cutter.held) now.cutter.held));
  behind = m.behind;
  close = λ e. let clash : true ≡ false = e in cc;
  cut = λ more may.
      m.cut more (λ e. may (drops.ended ∙ e))
      ∙ ap (λ l. m.done ++ l) (gives more (λ e. may (drops.ended ∙ e)));
  few = omega (arith, drops.shorter, m.few);
  packets = m.packets;
  stands = m.stands;
  put = m.put;
}

-- what a cut packet leaves of a moment
abbrev pub behind_packet : Moment → CutterState → ReceiverState → Moment
behind_packet now cutter receiver =
    record now { cutter = cutter; loose = false; receiver = receiver; packets = now.packets + 1 }

-- a packet was cut, and the receiver stands for one more
pub midway_packet : (replay : Replay) (now : Moment) (inputs : List Input) (ahead : List (List ℕ))
    (cutter : CutterState) (receiver : ReceiverState) (packet : List ℕ)
    → Gives now.cutter (packet ∷ []) cutter → cutter.ended ≡ now.cutter.ended
    → cutter.held ≡ drop 188 now.cutter.held → packet ≡ take 188 now.cutter.held
    → ((inputs : List Input) (given : List Piece)
    → StandsFor replay.read replay.selection replay.area now.receiver inputs given
    → StandsFor replay.read replay.selection replay.area receiver (inputs ++ Packet packet ∷ []) given)
    → IsMidway replay now inputs ahead
    → IsMidway replay (behind_packet now cutter receiver) (with_packets inputs 1 ahead)
    (drop 1 ahead)
midway_packet replay now inputs ahead cutter receiver packet gives ended held front pushed m =
    let behind = packets_of (cutter.held ++ m.rest) in
    let are : packet ∷ behind ≡ ahead = sym (gives m.rest m.ended) ∙ m.ahead_is in
    let after : Moment = behind_packet now cutter receiver in
    let P : List (List ℕ) → Type 0 = λ l. IsMidway replay after (with_packets inputs 1 l)
    (drop 1 l) in
    subst P are (record {
      taken = m.taken;
      rest = m.rest;
      given = m.given;
      left_is = m.left_is;
      whole = m.whole;
      counted = m.counted;
      ended = λ e. m.ended (sym ended ∙ e);
      ahead_is = refl;
      done = m.done ++ packet ∷ [];
      number = length-append m.done (packet ∷ []) ∙ ap (λ n. n + 1) m.number;
      before = (m.before ++ m.skipped) ++ packet;
      skipped = [];
      taken_is = skipped_front m.taken (m.before ++ m.skipped) now.cutter.held cutter.held 188 held
          m.taken_is
          ∙ ap (λ l. ((m.before ++ m.skipped) ++ l) ++ cutter.held) (sym front)
          ∙ ap (λ l. l ++ cutter.held) (sym (append-nil ((m.before ++ m.skipped) ++ packet)));
      behind = inr (m.done, packet, m.before ++ m.skipped, refl, refl);
      close = λ e open_end. refl;
      cut = λ more may.
          m.cut more (λ e. may (ended ∙ e))
          ∙ ap (λ l. m.done ++ l) (gives more (λ e. may (ended ∙ e)))
          ∙ sym (append_assoc m.done (packet ∷ []) (packets_of (cutter.held ++ more)));
      few = omega (arith, ap length held, length-drop 188 now.cutter.held, m.few);
      packets = ap (λ n. n + 1) m.packets ∙ sym (packet_count-packet inputs packet);
      stands = λ right. pushed inputs m.given (m.stands right);
      put = m.put;
    })

-- a call of the receiver that gave nothing and left its area
pub midway_quiet : (replay : Replay) (now : Moment) (inputs more : List Input)
    (ahead : List (List ℕ)) (receiver : ReceiverState)
    → ((given : List Piece)
    → StandsFor replay.read replay.selection replay.area now.receiver inputs given
    → StandsFor replay.read replay.selection replay.area receiver more given)
    → packet_count more ≡ packet_count inputs
    → IsMidway replay now inputs ahead
    → IsMidway replay (record now { receiver = receiver }) more ahead
midway_quiet replay now inputs more ahead receiver stays count m = record {
  taken = m.taken;
  rest = m.rest;
  given = m.given;
  left_is = m.left_is;
  whole = m.whole;
  counted = m.counted;
  ended = m.ended;
  ahead_is = m.ahead_is;
  done = m.done;
  number = m.number;
  before = m.before;
  skipped = m.skipped;
  taken_is = m.taken_is;
  behind = m.behind;
  close = m.close;
  cut = m.cut;
  few = m.few;
  packets = m.packets ∙ sym count;
  stands = λ right. stays m.given (m.stands right);
  put = m.put;
}

-- no time has passed yet
pub midway_untimed : (replay : Replay) (now : Moment) (inputs : List Input) (ahead : List (List ℕ))
    → ((given : List Piece)
    → StandsFor replay.read replay.selection replay.area now.receiver inputs given
    → StandsFor replay.read replay.selection replay.area now.receiver (inputs ++ Tick 0 ∷ []) given)
    → IsMidway replay now inputs ahead → IsMidway replay now (inputs ++ Tick 0 ∷ []) ahead
midway_untimed replay now inputs ahead none m =
    midway_quiet replay now inputs (inputs ++ Tick 0 ∷ []) ahead now.receiver none
    (packet_count-other inputs (Tick 0) refl) m

-- the stream gave bytes, and the cutter took them
pub midway_read : (replay : Replay) (now : Moment) (inputs : List Input) (ahead : List (List ℕ))
    (cutter : CutterState) (left : Option (List ℕ)) (bytes : List ℕ)
    → ((rest : List ℕ) → now.left ≡ Some rest → (more : List ℕ) × (left ≡ Some more)
    × (rest ≡ bytes ++ more))
    → now.cutter.ended ≡ false → cutter.held ≡ now.cutter.held ++ bytes → cutter.ended
    ≡ now.cutter.ended → length cutter.held ≤ most_ahead
    → IsMidway replay now inputs ahead
    → IsMidway replay (record now {
      cutter = cutter;
      bytes = now.bytes + length bytes;
      left = left;
    }) inputs ahead
midway_read replay now inputs ahead cutter left bytes gave open_end held ended few m =
    let g = gave m.rest m.left_is in
    let same : cutter.held ++ g.0 ≡ now.cutter.held ++ m.rest =
    ap (λ l. l ++ g.0) held ∙ append_assoc now.cutter.held bytes g.0
    ∙ ap (λ l. now.cutter.held ++ l) (sym g.2) in
    record {
      taken = m.taken ++ bytes;
      rest = g.0;
      given = m.given;
      left_is = g.1;
      whole = m.whole ∙ ap (λ l. m.taken ++ l) g.2 ∙ sym (append_assoc m.taken bytes g.0);
      counted = ap (λ n. n + length bytes) m.counted ∙ sym (length-append m.taken bytes);
      ended = λ e. let clash : true ≡ false = sym e ∙ ended ∙ open_end in cc;
      ahead_is = ap packets_of same ∙ m.ahead_is;
      done = m.done;
      number = m.number;
      before = m.before;
      skipped = m.skipped;
      taken_is = ap (λ l. l ++ bytes) m.taken_is
          ∙ append_assoc (m.before ++ m.skipped) now.cutter.held bytes
          ∙ ap (λ l. (m.before ++ m.skipped) ++ l) (sym held);
      behind = m.behind;
      close = λ e told. m.close e open_end;
      cut = λ more may.
          ap packets_of (append_assoc m.taken bytes more)
          ∙ m.cut (bytes ++ more) (λ e. let clash : true ≡ false = sym e ∙ open_end in cc)
          ∙ ap (λ l. m.done ++ packets_of l)
          (sym (append_assoc now.cutter.held bytes more) ∙ ap (λ l. l ++ more) (sym held));
      few = few;
      packets = m.packets;
      stands = m.stands;
      put = m.put;
    }

-- the stream came to its end
pub midway_end : (replay : Replay) (now : Moment) (inputs : List Input) (ahead : List (List ℕ))
    (cutter : CutterState) (left : Option (List ℕ))
    → ((rest : List ℕ) → now.left ≡ Some rest → (rest ≡ []) × (left ≡ Some []))
    → cutter.held ≡ now.cutter.held → cutter.ended ≡ true
    → IsMidway replay now inputs ahead
    → IsMidway replay (record now { cutter = cutter; left = left }) inputs ahead
midway_end replay now inputs ahead cutter left gave held told m =
    let g = gave m.rest m.left_is in
    record {
      taken = m.taken;
      rest = [];
      given = m.given;
      left_is = g.1;
      whole = m.whole ∙ ap (λ l. m.taken ++ l) g.0;
      counted = m.counted;
      ended = λ e. refl;
      ahead_is = ap packets_of (ap (λ l. l ++ []) held ∙ ap (λ l. now.cutter.held ++ l) (sym g.0))
          ∙ m.ahead_is;
      done = m.done;
      number = m.number;
      before = m.before;
      skipped = m.skipped;
      taken_is = m.taken_is ∙ ap (λ l. (m.before ++ m.skipped) ++ l) (sym held);
      behind = m.behind;
      close = λ e open_end. let clash : true ≡ false = sym told ∙ open_end in cc;
      cut = λ more may.
          m.cut more (λ e. may told)
          ∙ ap (λ l. m.done ++ packets_of (l ++ more)) (sym held);
      few = omega (arith, ap length held, m.few);
      packets = m.packets;
      stands = m.stands;
      put = m.put;
    }

-- bytes may have been left out
pub midway_loosely : (replay : Replay) (now : Moment) (inputs : List Input)
    (ahead : List (List ℕ)) → IsMidway replay now inputs ahead
    → IsMidway replay (loosely now) inputs ahead
midway_loosely replay now inputs ahead m = record {
  taken = m.taken;
  rest = m.rest;
  given = m.given;
  left_is = m.left_is;
  whole = m.whole;
  counted = m.counted;
  ended = m.ended;
  ahead_is = m.ahead_is;
  done = m.done;
  number = m.number;
  before = m.before;
  skipped = m.skipped;
  taken_is = m.taken_is;
  behind = m.behind;
  close = λ e. let clash : true ≡ false = e in cc;
  cut = m.cut;
  few = m.few;
  packets = m.packets;
  stands = m.stands;
  put = m.put;
}

-- which is nothing once the end was told
pub midway_ended : (replay : Replay) (now : Moment) (inputs : List Input)
    (ahead : List (List ℕ)) → now.cutter.ended ≡ true
    → IsMidway replay (loosely now) inputs ahead → IsMidway replay now inputs ahead
midway_ended replay now inputs ahead told m = record {
  taken = m.taken;
  rest = m.rest;
  given = m.given;
  left_is = m.left_is;
  whole = m.whole;
  counted = m.counted;
  ended = m.ended;
  ahead_is = m.ahead_is;
  done = m.done;
  number = m.number;
  before = m.before;
  skipped = m.skipped;
  taken_is = m.taken_is;
  behind = m.behind;
  close = λ e open_end. let clash : true ≡ false = sym told ∙ open_end in cc;
  cut = m.cut;
  few = m.few;
  packets = m.packets;
  stands = m.stands;
  put = m.put;
}

-- a replay begins
pub between_start : (replay : Replay) (now : Moment) (told : Outside)
    → now.left ≡ Some replay.stream → now.outlets ≡ outlets_of told → HasBegun replay.before told
    → now.kept ≡ replay.area
    → now.cutter.held ≡ [] → now.cutter.ended ≡ false → now.bytes ≡ 0 → now.packets ≡ 0
    → (IsReader replay.read
    → StandsFor replay.read replay.selection replay.area now.receiver [] [])
    → IsBetween replay now []
between_start replay now told l same begun kept held open_end bytes packets stands =
    let none = no_items (packets_of replay.stream) in
    let P : List Input → Type 0 =
    λ inputs. IsMidway replay now inputs (packets_left (packets_of replay.stream) []) in
    subst P (sym none.0) (record {
      taken = [];
      rest = replay.stream;
      given = [];
      left_is = l;
      whole = refl;
      counted = bytes;
      ended = λ e. let clash : true ≡ false = sym e ∙ open_end in cc;
      ahead_is = ap (λ l. packets_of (l ++ replay.stream)) held ∙ sym none.1;
      done = [];
      number = sym packets;
      before = [];
      skipped = [];
      taken_is = sym held;
      behind = inl (refl, refl);
      close = λ e open_end. refl;
      cut = λ more may. ap (λ l. packets_of (l ++ more)) (sym held);
      few = omega (arith, ap length held);
      packets = packets;
      stands = stands;
      put = subst (λ o. HasPut replay.area replay.before now.kept o []) (sym same)
          (put_none replay.area replay.before told now.kept begun kept);
    })

-- one more item was handled
pub between_push : (replay : Replay) (now : Moment) (items : List RecordItem) (item : RecordItem)
    → IsMidway replay now
    (inputs_of (packets_of replay.stream) items ++ inputs_of_item item
    (packets_left (packets_of replay.stream) items))
    (packets_behind item (packets_left (packets_of replay.stream) items))
    → IsBetween replay now (items ++ item ∷ [])
between_push replay now items item m =
    let packets = packets_of replay.stream in
    let ahead = packets_left packets items in
    subst (λ inputs. IsMidway replay now inputs (packets_left packets (items ++ item ∷ [])))
    (sym (inputs_of-push packets items item))
    (subst (λ l. IsMidway replay now (inputs_of packets items ++ inputs_of_item item ahead) l)
    (sym (packets_left-push packets items item)) m)

-- ---- packets one by one

-- none was taken yet
pub midway_none : (replay : Replay) (now : Moment) (inputs : List Input) (ahead : List (List ℕ))
    → IsMidway replay now inputs ahead
    → IsMidway replay now (with_packets inputs 0 ahead) (drop 0 ahead)
midway_none replay now inputs ahead m =
    subst (λ l. IsMidway replay now l ahead) (sym (with_none inputs ahead)) m

-- some were taken, and then one more
pub midway_more : (replay : Replay) (now : Moment) (inputs : List Input) (ahead : List (List ℕ))
    (count : ℕ)
    → IsMidway replay now (with_packets (with_packets inputs count ahead) 1 (drop count ahead))
    (drop 1 (drop count ahead))
    → IsMidway replay now (with_packets inputs (count + 1) ahead) (drop (count + 1) ahead)
midway_more replay now inputs ahead count m =
    subst (λ l. IsMidway replay now l (drop (count + 1) ahead)) (with_more inputs count 1 ahead)
    (subst (λ l. IsMidway replay now
    (with_packets (with_packets inputs count ahead) 1 (drop count ahead)) l)
    (drop-drop 1 count ahead) m)

-- no packet is left
pub midway_over : (replay : Replay) (now : Moment) (inputs : List Input) (ahead : List (List ℕ))
    (most : Option ℕ) (count : ℕ)
    → now.cutter.ended ≡ true → packets_of now.cutter.held ≡ [] → Allows most count
    → IsMidway replay now (with_packets inputs count ahead) (drop count ahead)
    → IsMidway replay now (inputs ++ inputs_of_item (item_of_count most) ahead)
    (packets_behind (item_of_count most) ahead)
midway_over replay now inputs ahead most count ended none allows m =
    let nothing : drop count ahead ≡ [] =
    sym m.ahead_is ∙ ap (λ l. packets_of (now.cutter.held ++ l)) (m.ended ended)
    ∙ ap packets_of (append-nil now.cutter.held) ∙ none in
    let all = took_all inputs most count ahead allows nothing in
    subst (λ l. IsMidway replay now l (packets_behind (item_of_count most) ahead)) all.0
    (subst (λ l. IsMidway replay now (with_packets inputs count ahead) l) all.1 m)
