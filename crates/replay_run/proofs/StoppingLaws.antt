-- What is written where a replay stops in the middle of an item, over plain values.
use Rattle.std.proofs.Common.{◌≡◌, ℕ, ◌+◌, ◌-◌, ◌<◌, ◌≤◌, List, [], ◌∷◌, ◌++◌, take, drop, refl}
use Rattle.std.proofs.Common.{sym, ap, ◌∙◌, subst, append_assoc, length, Option, Some, None, Result}
use Rattle.std.proofs.Common.{Ok, Err, inl, inr, arith, length-append, false, not, IsTrue}
use Rattle.std.specs.Prelude.{◌&&◌}
use Rattle.std.specs.Io.KnownBytes.{Consumes, IsAtEnd, Keeps, ReadConsumes}
use Rattle.std.proofs.KnownBytes.{Consumes-nil, Consumes-trans, Consumes-kept}
use Rattle.bml_ports.specs.declared.outside.Port.{Port}
use Rattle.bml_ports.specs.Counters.{Counts}
use Rattle.bml_ports.specs.Worlds.{WorldState, PortState, port_of}
use Rattle.ts_packets.specs.Packets.{packets_of, packets_after}
use Rattle.receiver_core.specs.Fronts.{IsFront, front_of_self, front_of_front}
use Rattle.receiver_core.specs.Outputs.{Input}
use Rattle.receiver_core.specs.Outputs.Input.{Tick}
use Rattle.replay_run.specs.declared.record.RecordItem.{RecordItem}
use Rattle.replay_run.specs.declared.status.Status.{Status}
use Rattle.replay_run.specs.declared.status.Status.TheVariants.{NoMemory, ReadFault, TooLong}
use Rattle.replay_run.specs.Ending.{WritesWhole, end_told}
use Rattle.replay_run.specs.Midway.{AreFirst, IsReadForPacket, StopsIn, StopsInRead, StopsInStream}
use Rattle.replay_run.specs.Play.{inputs_of_item, inputs_of, packets_left}
use Rattle.replay_run.specs.Outside.{Outside}
use Rattle.replay_run.specs.Progress.{Replay, Moment, IsMidway}
use Rattle.replay_run.specs.Files.{file, GaveAtMost, read_length, record_limit, stream_limit}
use Rattle.replay_run.specs.RecordProgress.{IsReadForLine, RecordState, StopsInRecord}
use Rattle.replay_run.specs.Order.{IsReadOn}
use Rattle.replay_run.specs.Putting.{HasPut, Outlets, StopsTurns, outlets_of}
use Rattle.replay_run.specs.Stopping.{OnlyReads, StreamWithin, meaning_of, run_of}
use Rattle.replay_run.proofs.PlayLaws.{inputs_of-push, with_packets, with_more}
use Rattle.replay_run.proofs.PuttingLaws.{put_whole}

-- what a read that gave these bytes left
pub consumed_some : (bytes : List ℕ) (old new : Option (List ℕ)) → Consumes old new bytes
    → (rest : List ℕ) → old ≡ Some rest → (more : List ℕ) × (new ≡ Some more)
    × (rest ≡ bytes ++ more)
consumed_some bytes None new c rest e = let clash : None ≡ Some rest = e in cc
consumed_some bytes (Some x) None c rest e = absurd c
consumed_some bytes (Some x) (Some y) c rest e = let same : x ≡ rest = cc in (y, refl, sym same ∙ c)

pub ended_some : (old new : Option (List ℕ)) → Consumes old new [] → IsAtEnd new → (rest : List ℕ)
    → old ≡ Some rest → (rest ≡ []) × (new ≡ Some [])
ended_some None new c end rest e = let clash : None ≡ Some rest = e in cc
ended_some (Some x) None c end rest e = absurd c
ended_some (Some x) (Some y) c end rest e = let same : x ≡ rest = cc in
    (sym same ∙ c ∙ end, ap Some end)

-- those that are the first of some are the first of more
pub first_further : (some mid all : List Input) → AreFirst some mid → IsFront mid all
    → AreFirst some all
first_further some mid all (inl front) more = inl (front_of_front some mid all front more)
first_further some mid all (inr cut) more = inr (record {
  earlier = cut.earlier;
  passed = cut.passed;
  more = cut.more;
  some_is = cut.some_is;
  front = front_of_front (cut.earlier ++ Tick (cut.passed + cut.more) ∷ []) mid all cut.front more;
})

-- all are the first of themselves
pub first_all : (inputs : List Input) → AreFirst inputs inputs
first_all inputs = inl (front_of_self inputs)

-- and of one more
pub first_pushed : (inputs : List Input) (input : Input) → AreFirst inputs (inputs ++ input ∷ [])
first_pushed inputs input = inl (record { rest = input ∷ []; joined = refl })

-- and so is a part of a tick
pub first_ticked : (inputs : List Input) (passed all : ℕ) → passed ≤ all
    → AreFirst (inputs ++ Tick passed ∷ []) (inputs ++ Tick all ∷ [])
first_ticked inputs passed all within =
    let more : passed + (all - passed) ≡ all = omega arith in
    inr (record {
      earlier = inputs;
      passed = passed;
      more = all - passed;
      some_is = refl;
      front = subst (λ n. IsFront (inputs ++ Tick (passed + (all - passed)) ∷ [])
          (inputs ++ Tick n ∷ [])) more
          (front_of_self (inputs ++ Tick (passed + (all - passed)) ∷ []));
    })

-- a replay that stops in some inputs stops in more
pub stops_further : (status : Status) (replay : Replay) (told : Outside) (some all : List Input)
    → IsFront some all
    → StopsIn status replay told some → StopsIn status replay told all
stops_further status replay told some all front s = record {
  inputs = s.inputs;
  first = first_further s.inputs some all s.first front;
  receiver = s.receiver;
  given = s.given;
  stands = s.stands;
  leaves = s.leaves;
}

-- in those of the items and one more
pub stops_pushed : (status : Status) (replay : Replay) (told : Outside) (items : List RecordItem)
    (item : RecordItem)
    → StopsIn status replay told
    (inputs_of (packets_of replay.stream) items ++ inputs_of_item item
    (packets_left (packets_of replay.stream) items))
    → StopsIn status replay told (inputs_of (packets_of replay.stream) (items ++ item ∷ []))
stops_pushed status replay told items item s =
    subst (λ l. StopsIn status replay told l)
    (sym (inputs_of-push (packets_of replay.stream) items item)) s

-- in those of some packets, and then one more
pub stops_more : (status : Status) (replay : Replay) (told : Outside) (inputs : List Input)
    (ahead : List (List ℕ)) (count : ℕ)
    → StopsIn status replay told
    (with_packets (with_packets inputs count ahead) 1 (drop count ahead))
    → StopsIn status replay told (with_packets inputs (count + 1) ahead)
stops_more status replay told inputs ahead count s =
    subst (λ l. StopsIn status replay told l) (with_more inputs count 1 ahead) s

-- the stream gave no more than it may
pub midway_within : (replay : Replay) (now : Moment) (inputs : List Input) (ahead : List (List ℕ))
    (limit : ℕ)
    → now.bytes ≤ limit → IsMidway replay now inputs ahead
    → GaveAtMost limit (file replay.stream now.left)
midway_within replay now inputs ahead limit within m = record {
  gave = record { given = m.taken; rest = m.rest; left_is = m.left_is; whole = m.whole };
  most = omega (arith, m.counted);
}

pub stream_within : (replay : Replay) (now : Moment) (told : Outside) (inputs : List Input)
    (ahead : List (List ℕ))
    → told.world.stream.left ≡ now.left → now.bytes ≤ stream_limit
    → IsMidway replay now inputs ahead → StreamWithin replay told
stream_within replay now told inputs ahead left within m =
    subst (λ l. GaveAtMost stream_limit (file replay.stream l)) (sym left)
    (midway_within replay now inputs ahead stream_limit within m)

-- whole pieces
pub midway_whole : (replay : Replay) (now : Moment) (told : Outside) (inputs : List Input)
    (ahead : List (List ℕ))
    → now.outlets ≡ outlets_of told → (m : IsMidway replay now inputs ahead)
    → WritesWhole (meaning_of replay m.given) (run_of replay told)
midway_whole replay now told inputs ahead same m =
    put_whole (meaning_of replay m.given) (run_of replay told) now.kept m.given
    (subst (λ o. HasPut replay.area replay.before now.kept o m.given) same m.put)
    (front_of_self m.given)

-- memory was wanting
pub stops_within : (replay : Replay) (now : Moment) (told : Outside) (inputs all : List Input)
    (ahead : List (List ℕ))
    → AreFirst inputs all → told.world.stream.left ≡ now.left → now.outlets ≡ outlets_of told
    → now.bytes ≤ stream_limit → IsMidway replay now inputs ahead
    → StopsIn NoMemory replay told all
stops_within replay now told inputs all ahead first left same within m = record {
  inputs = inputs;
  first = first;
  receiver = now.receiver;
  given = m.given;
  stands = m.stands;
  leaves = (
    stream_within replay now told inputs ahead left within m,
    midway_whole replay now told inputs ahead same m,
  );
}

-- a failed read took nothing
pub within_kept : (limit : ℕ) (bytes : List ℕ) (old new : Option (List ℕ)) → Keeps old new
    → GaveAtMost limit (file bytes old) → GaveAtMost limit (file bytes new)
within_kept limit bytes None new kept g = let clash : None ≡ Some g.gave.rest = g.gave.left_is in cc
within_kept limit bytes (Some x) None kept g = absurd kept
within_kept limit bytes (Some x) (Some y) kept g = record {
  gave = record {
    given = g.gave.given;
    rest = g.gave.rest;
    left_is = ap Some kept ∙ g.gave.left_is;
    whole = g.gave.whole;
  };
  most = g.most;
}

pub stops_unread : (replay : Replay) (now : Moment) (told : Outside) (inputs : List Input)
    (ahead : List (List ℕ))
    → now.bytes ≤ stream_limit → Keeps now.left told.world.stream.left
    → IsMidway replay now inputs ahead
    → StopsIn ReadFault replay told inputs
stops_unread replay now told inputs ahead within kept m = record {
  inputs = inputs;
  first = first_all inputs;
  receiver = now.receiver;
  given = m.given;
  stands = m.stands;
  leaves = within_kept stream_limit replay.stream now.left told.world.stream.left kept
      (midway_within replay now inputs ahead stream_limit within m);
}

-- the stream gave too much
pub stops_long : (replay : Replay) (now : Moment) (told : Outside) (inputs : List Input)
    (ahead : List (List ℕ))
    (bytes : List ℕ) (count : ℕ)
    → length bytes ≡ count → stream_limit < now.bytes + count
    → Consumes now.left told.world.stream.left bytes
    → IsMidway replay now inputs ahead
    → StopsIn TooLong replay told inputs
stops_long replay now told inputs ahead bytes count size above consumed m =
    let g = consumed_some bytes now.left told.world.stream.left consumed m.rest m.left_is in
    record {
      inputs = inputs;
      first = first_all inputs;
      receiver = now.receiver;
      given = m.given;
      stands = m.stands;
      leaves = record {
        gave = record {
          given = m.taken ++ bytes;
          rest = g.0;
          left_is = g.1;
          whole = m.whole ∙ ap (λ l. m.taken ++ l) g.2 ∙ sym (append_assoc m.taken bytes g.0);
        };
        more = omega (arith, length-append m.taken bytes, m.counted, size);
      };
    }

-- ---- reads one after the other

pub read_on_none : (port : PortState) → IsReadOn port port
read_on_none port = record {
  asked = refl;
  later = omega arith;
  given = [];
  consumed = Consumes-nil port.left;
}

pub read_on_more : (a b c : PortState) → IsReadOn a b → IsReadOn b c → IsReadOn a c
read_on_more a b c x y = record {
  asked = y.asked ∙ x.asked;
  later = omega (arith, x.later, y.later);
  given = x.given ++ y.given;
  consumed = Consumes-trans a.left b.left c.left x.given y.given x.consumed y.consumed;
}

-- what one read does to its port
pub read_on_once : {E : Type 0} (old new : PortState) (result : Result ℕ E) (bytes : List ℕ)
    → new.asked ≡ old.asked → Counts old.reads new.reads result
    → ReadConsumes old.left new.left result bytes
    → IsReadOn old new
read_on_once old new (Ok count) bytes asked counts consumes =
    record { asked = asked; later = counts.later; given = take count bytes; consumed = consumes.0 }
read_on_once old new (Err e) bytes asked counts keeps = record {
  asked = asked;
  later = counts.later;
  given = [];
  consumed = Consumes-kept old.left old.left new.left [] (Consumes-nil old.left) keeps;
}

pub only_reads_more : (port : Port) (a b c : WorldState) → OnlyReads port a b → OnlyReads port b c
    → OnlyReads port a c
only_reads_more port a b c x y = record {
  files = y.files ∙ x.files;
  openings = y.openings ∙ x.openings;
  other = y.other ∙ x.other;
  on = read_on_more (port_of a port) (port_of b port) (port_of c port) x.on y.on;
}

pub only_reads_none : (port : Port) (a : WorldState) → OnlyReads port a a
only_reads_none port a =
    record { files = refl; openings = refl; other = refl; on = read_on_none (port_of a port) }

pub no_packets : packets_of [] ≡ []
unfolding packets_of packets_after
no_packets = refl

-- ---- the end of a file

-- it isn't told of a port that may be read
pub told_open : (port : PortState) → IsTrue port.readable → end_told port ≡ false
told_open port readable = ap (λ b. not b && not port.reads.last_failed) readable

-- ---- a read that ends a run

-- turns don't stop in one
pub turns_unread : (status : Status) (item : RecordItem) (old : Moment) (told : Outside)
    (before behind : Outlets)
    → StopsTurns status before behind → StopsInStream status item old told
turns_unread status item old told before behind s =
    let P : Status → Type 0 = λ status. StopsTurns status before behind in
    record { failed = λ e. absurd (subst P e s); long = λ e. absurd (subst P e s) }

pub stream_stops : (status : Status) (item : RecordItem) (old : Moment) (told : Outside)
    (port : PortState) (bytes : ℕ)
    → ((last : List ℕ) → Consumes port.left told.world.stream.left last
    → length last ≤ read_length
    → (read : IsReadForPacket item old told last) × (read.now.bytes ≡ bytes))
    → StopsInRead status stream_limit bytes port told.world.stream
    → StopsInStream status item old told
stream_stops status item old told port bytes is_read s = record {
  failed = λ e.
      let f = s.failed e in
      let consumed : Consumes port.left told.world.stream.left [] =
      subst (λ l. Consumes port.left told.world.stream.left l) f.0 s.consumed in
      ((is_read [] consumed (omega arith)).0, f.1);
  long = λ e.
      let read = is_read s.last s.consumed s.most in
      (s.last, read.0, omega (arith, s.long e, read.1));
}

pub record_stops : (status : Status) (old : RecordState) (before behind : PortState) (bytes : ℕ)
    → ((last : List ℕ) → Consumes before.left behind.left last → length last ≤ read_length
    → (read : IsReadForLine old behind last) × (read.now.bytes ≡ bytes))
    → StopsInRead status record_limit bytes before behind → StopsInRecord status old behind
record_stops status old before behind bytes is_read s = record {
  failed = λ e.
      let f = s.failed e in
      let consumed : Consumes before.left behind.left [] =
      subst (λ l. Consumes before.left behind.left l) f.0 s.consumed in
      ((is_read [] consumed (omega arith)).0, f.1);
  long = λ e.
      let read = is_read s.last s.consumed s.most in
      (s.last, read.0, omega (arith, s.long e, read.1));
}
