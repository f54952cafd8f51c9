use Rattle.std.proofs.Common.{refl, [], ◌∷◌, ◌++◌, ◌∙◌, Ok, None, sym, ap, subst, IsTrue}
use Rattle.std.proofs.Common.{arith, inl, inr}
use Rattle.std.proofs.lemmas.Result.{err_from_is_err_and}
use Rattle.bml_ports.specs.Worlds.{PortState}
use Rattle.es_reader.specs.Readers.{Reader}
use Rattle.replay_run.specs.Ending.{end_told}
use Rattle.replay_run.specs.Files.{file}
use Rattle.replay_run.specs.Outside.{outside}
use Rattle.replay_run.specs.Progress.{Replay}
use Rattle.replay_run.proofs.ClockLaws.{early_later, early_room, early_start, few_lines}
use Rattle.replay_run.proofs.CompletenessLaws.{tells_in_items, tells_in_line, tells_in_packets}
use Rattle.replay_run.proofs.BlankLaws.{PacketLaws}
use Rattle.replay_run.proofs.DecidingLaws.{faulty_record, faulty_stream}
use Rattle.replay_run.proofs.EndingLaws.{left_same, between_same, at_same}
use Rattle.replay_run.proofs.EndingLaws.{between_within, ends_in_items, ends_in_item}
use Rattle.replay_run.proofs.EndingLaws.{ends_with_line, reads_none, reads_notes, reads_stream}
use Rattle.replay_run.proofs.LastReadLaws.{holds_at_line, holds_at_packet, holds_further}
use Rattle.replay_run.proofs.OutputLaws.{ReceiverLaws}
use Rattle.replay_run.proofs.RecordProgressLaws.{at_front, at_within}
use Rattle.replay_run.proofs.ProgressLaws.{between_push}
use Rattle.replay_run.proofs.PuttingLaws.{later_more, later_none}
use Rattle.replay_run.proofs.StoppingLaws.{stops_pushed}
use Rattle.replay_run.proofs.TakenLaws.{just_push}
use Rattle.replay_run.proofs.replay.play_items.Goals as goal

pub items-init : goal.items-init
items-init g c = record {
  idle = c.requires.player.idle;
  area = c.requires.player.keeps;
  early = early_start _ _ c.requires.player.clock;
  stream_within = c.requires.player.within;
  stream_readable = c.requires.player.readable (g.W.World.told c.args.world.now)
      c.requires.stream;
  stream_told = c.requires.player.told (g.W.World.told c.args.world.now) c.requires.stream;
  notes_told = c.requires.items.told (g.W.World.told c.args.world.now) c.requires.notes;
  notes_within = c.requires.items.within;
  notes_readable = c.requires.items.readable (g.W.World.told c.args.world.now) c.requires.notes;
  reads = reads_none (g.W.World.told c.args.world.now);
  later = later_none _;
  goes = λ read before begun stream notes l n. (
    [],
    c.requires.player.start
        (outside (g.W.World.told c.args.world.now) (g.K.Keeper.told c.args.keeper.now)
        (g.S.Sink.told c.args.out.now)) read stream notes before begun l,
    c.requires.items.start (g.W.World.told c.args.world.now) notes n,
    λ e. c.requires.player.packets,
    inl c.requires.items.fresh,
  );
}

pub returns-in_err-item-clause-ends : goal.returns-in_err-item-clause-ends
returns-in_err-item-clause-ends g c =
    let p = err_from_is_err_and c.from_residual.result
    c.from_residual.ensures.1 in
    let stopped = c.in_err-item.ensures in
    let laws : ReceiverLaws =
    record {
      more = c.law_of_outputs.ensures.more;
      front = c.law_of_receivers.ensures.front;
      all = c.law_of_receivers.ensures.all;
      split = c.law_of_ticks.ensures.split;
    } in
    rw (p.1, p.2) (λ read right before begun stream notes l n.
    let replay : Replay = record {
      read = read;
      selection = c.args.selection;
      area = c.args.player.now.kept;
      stream = stream;
      notes = notes;
      before = before;
    } in
    let was = c.items.invariant.goes read before begun stream notes l n in
    let b = between_same _ _ _ was.0 (left_same _ _ stopped.reads.other) was.1 in
    let told = outside (g.W.World.told c.items.world) (g.K.Keeper.told c.items.keeper)
    (g.S.Sink.told c.items.out) in
    let behind = outside (g.W.World.told c.next_item.new.world) (g.K.Keeper.told c.items.keeper)
    (g.S.Sink.told c.items.out) in
    ends_in_items laws _ replay _ behind was.0 right (record { left = refl; outlets = refl })
    (between_within _ _ was.0 _ c.items.invariant.stream_within b)
    (faulty_record laws _ replay _ behind was.0 _ right stopped.reading b
    (record { left = refl; outlets = refl }) c.items.invariant.idle was.3 refl was.2
    (ap end_told stopped.reads.other ∙ c.items.invariant.stream_told))
    (holds_at_line laws replay _ told behind was.0 _ right stopped.last_read b
    (record { left = refl; outlets = refl }) c.items.invariant.idle was.3 refl was.2
    (ap end_told stopped.reads.other ∙ c.items.invariant.stream_told) (later_none _) was.4)
    c.items.invariant.idle b (stopped.stopped notes was.0 was.2))

pub items-preserved : goal.items-preserved
items-preserved g c =
    let before = c.items.invariant in
    let next = c.in_ok-item.ensures in
    let done = c.in_ok-handle-in-Some.ensures in
    let laws : ReceiverLaws =
    record {
      more = c.law_of_outputs.ensures.more;
      front = c.law_of_receivers.ensures.front;
      all = c.law_of_receivers.ensures.all;
      split = c.law_of_ticks.ensures.split;
    } in
    let packets : PacketLaws =
    record { computed = c.packets_are_computed.ensures; unique = c.packets_are_unique.ensures } in
    let told = outside (g.W.World.told c.items.world) (g.K.Keeper.told c.items.keeper)
    (g.S.Sink.told c.items.out) in
    let read_on = outside (g.W.World.told c.next_item.new.world) (g.K.Keeper.told c.items.keeper)
    (g.S.Sink.told c.items.out) in
    record {
      idle = done.idle;
      area = done.area;
      early = early_later _ _ _ _ _ before.early done.clock
          (next.time c.in-Some.item (ap Ok c.in-Some.is))
          (next.further c.in-Some.item (ap Ok c.in-Some.is));
      stream_within = done.within;
      stream_readable = done.readable;
      stream_told = done.told;
      notes_told = ap end_told done.reads.other ∙ next.told;
      notes_within = next.within;
      notes_readable = λ e. subst (λ (port : PortState). IsTrue port.readable)
          (sym done.reads.other) (next.readable e);
      reads = reads_stream _ _ _ (reads_notes _ _ _ before.reads next.reads) done.reads;
      later = later_more _ _ _ before.later done.later;
      goes = λ read first begun stream notes l n.
          let item = c.in-Some.item in
          let was = before.goes read first begun stream notes l n in
          let b = between_same _ _ _ was.0 (left_same _ _ next.reads.other) was.1 in
          let a = next.item item (ap Ok c.in-Some.is) notes was.0 was.2 in
          let replay : Replay = record {
            read = read;
            selection = c.args.selection;
            area = c.args.player.now.kept;
            stream = stream;
            notes = notes;
            before = first;
          } in (
            was.0 ++ item ∷ [],
            between_push _ _ was.0 item (done.handled _ _ _ b),
            at_same notes _ _ (was.0 ++ item ∷ []) (left_same _ _ done.reads.other) a.at,
            λ e. just_push was.0 item _ _ (was.3 (done.was_open e)) (done.takes e),
            inr (λ right.
                holds_at_packet laws packets replay _ read_on
                (outside (g.W.World.told c.handle.new.world) (g.K.Keeper.told c.handle.new.keeper)
                (g.S.Sink.told c.handle.new.out)) was.0 item _ right done.last_read b was.3 a
                (sym (left_same _ _ done.reads.other)) (ap end_told done.reads.other ∙ next.told)
                done.later
                (holds_at_line laws replay _ told read_on was.0 _ right next.last_read b
                (record { left = refl; outlets = refl }) before.idle was.3 refl was.2
                (ap end_told next.reads.other ∙ before.stream_told) (later_none _) was.4)),
          );
    }

pub returns-in_err-handle-in-Some-clause-ends : goal.returns-in_err-handle-in-Some-clause-ends
returns-in_err-handle-in-Some-clause-ends g c =
    let p = err_from_is_err_and c.from_residual-in_err-handle-in-Some.result
    c.from_residual-in_err-handle-in-Some.ensures.1 in
    let next = c.in_ok-item.ensures in
    let stopped = c.in_err-handle-in-Some.ensures in
    let laws : ReceiverLaws =
    record {
      more = c.law_of_outputs.ensures.more;
      front = c.law_of_receivers.ensures.front;
      all = c.law_of_receivers.ensures.all;
      split = c.law_of_ticks.ensures.split;
    } in
    rw (p.1, p.2) (λ read right before begun stream notes l n.
    let replay : Replay = record {
      read = read;
      selection = c.args.selection;
      area = c.args.player.now.kept;
      stream = stream;
      notes = notes;
      before = before;
    } in
    let item = c.in-Some.item in
    let was = c.items.invariant.goes read before begun stream notes l n in
    let b = between_same _ _ _ was.0 (left_same _ _ next.reads.other) was.1 in
    let at = next.item item (ap Ok c.in-Some.is) notes was.0 was.2 in
    let after = at_same notes _ _ (was.0 ++ item ∷ []) (left_same _ _ stopped.reads.other) at.at in
    let packets : PacketLaws =
    record { computed = c.packets_are_computed.ensures; unique = c.packets_are_unique.ensures } in
    let told = outside (g.W.World.told c.items.world) (g.K.Keeper.told c.items.keeper)
    (g.S.Sink.told c.items.out) in
    let read_on = outside (g.W.World.told c.next_item.new.world) (g.K.Keeper.told c.items.keeper)
    (g.S.Sink.told c.items.out) in
    ends_in_item laws _ replay _ (was.0 ++ item ∷ []) right
    (at_front notes _ (was.0 ++ item ∷ []) after)
    (at_within notes _ (was.0 ++ item ∷ []) _ next.within after)
    (faulty_stream laws packets _ replay _ _ was.0 item _ right stopped.reading b was.3 at
    (sym (left_same _ _ stopped.reads.other)) (ap end_told stopped.reads.other ∙ next.told))
    (holds_at_packet laws packets replay _ read_on
    (outside (g.W.World.told c.handle.new.world) (g.K.Keeper.told c.handle.new.keeper)
    (g.S.Sink.told c.handle.new.out)) was.0 item _ right stopped.last_read b was.3 at
    (sym (left_same _ _ stopped.reads.other)) (ap end_told stopped.reads.other ∙ next.told)
    stopped.later
    (holds_at_line laws replay _ told read_on was.0 _ right next.last_read b
    (record { left = refl; outlets = refl }) c.items.invariant.idle was.3 refl was.2
    (ap end_told next.reads.other ∙ c.items.invariant.stream_told) (later_none _) was.4))
    (stops_pushed _ _ _ was.0 item (stopped.stopped _ _ _ b)))

pub returns-in-None-clause-ends : goal.returns-in-None-clause-ends
returns-in-None-clause-ends g c = λ read right before begun stream notes l n.
    let next = c.in_ok-item.ensures in
    let laws : ReceiverLaws =
    record {
      more = c.law_of_outputs.ensures.more;
      front = c.law_of_receivers.ensures.front;
      all = c.law_of_receivers.ensures.all;
      split = c.law_of_ticks.ensures.split;
    } in
    let replay : Replay = record {
      read = read;
      selection = c.args.selection;
      area = c.args.player.now.kept;
      stream = stream;
      notes = notes;
      before = before;
    } in
    let was = c.items.invariant.goes read before begun stream notes l n in
    let b = between_same _ _ _ was.0 (left_same _ _ next.reads.other) was.1 in
    let whole = next.end (ap Ok c.in-None.is) notes was.0 was.2 in
    let told = outside (g.W.World.told c.items.world) (g.K.Keeper.told c.items.keeper)
    (g.S.Sink.told c.items.out) in
    let read_on = outside (g.W.World.told c.next_item.new.world) (g.K.Keeper.told c.items.keeper)
    (g.S.Sink.told c.items.out) in
    ends_with_line laws c.write_end.result _ replay _
    (outside (g.W.World.told c.next_item.new.world) (g.K.Keeper.told c.items.keeper)
    (g.S.Sink.told c.write_end.new.out)) was.0 right
    c.packets.ensures c.write_end.ensures.whole c.write_end.ensures.stops whole
    (between_within _ _ was.0 _ c.items.invariant.stream_within b)
    (holds_further replay read_on
    (outside (g.W.World.told c.next_item.new.world) (g.K.Keeper.told c.items.keeper)
    (g.S.Sink.told c.write_end.new.out)) refl
    (record {
      keeper = omega arith;
      sink = c.write_end.ensures.writes;
      written = c.write_end.ensures.grows;
    })
    (holds_at_line laws replay _ told read_on was.0 _ right next.last_read b
    (record { left = refl; outlets = refl }) c.items.invariant.idle was.3 refl was.2
    (ap end_told next.reads.other ∙ c.items.invariant.stream_told) (later_none _) was.4))
    refl c.items.invariant.idle c.items.invariant.area b

pub returns-in_err-item-clause-reads : goal.returns-in_err-item-clause-reads
returns-in_err-item-clause-reads g c =
    reads_notes _ _ _ c.items.invariant.reads c.in_err-item.ensures.reads

pub returns-in_err-handle-in-Some-clause-reads : goal.returns-in_err-handle-in-Some-clause-reads
returns-in_err-handle-in-Some-clause-reads g c =
    reads_stream _ _ _ (reads_notes _ _ _ c.items.invariant.reads c.in_ok-item.ensures.reads)
    c.in_err-handle-in-Some.ensures.reads

pub returns-in-None-clause-reads : goal.returns-in-None-clause-reads
returns-in-None-clause-reads g c =
    reads_notes _ _ _ c.items.invariant.reads c.in_ok-item.ensures.reads

-- ---- what a status says of the files

-- no text is a program; any other reader would do
no_programs : Reader
no_programs text = None

pub returns-in_err-item-clause-tells : goal.returns-in_err-item-clause-tells
returns-in_err-item-clause-tells g c =
    let p = err_from_is_err_and c.from_residual.result
    c.from_residual.ensures.1 in
    rw (p.1, p.2) (λ before begun stream notes l n.
    let was = c.items.invariant.goes no_programs before begun stream notes l n in
    tells_in_items _ (file stream (g.W.World.told c.next_item.new.world).stream.left) _
    was.0 (c.in_err-item.ensures.stopped notes was.0 was.2))

pub returns-in_err-handle-in-Some-clause-tells : goal.returns-in_err-handle-in-Some-clause-tells
returns-in_err-handle-in-Some-clause-tells g c =
    let p = err_from_is_err_and c.from_residual-in_err-handle-in-Some.result
    c.from_residual-in_err-handle-in-Some.ensures.1 in
    rw (p.1, p.2) (λ before begun stream notes l n.
    let was = c.items.invariant.goes no_programs before begun stream notes l n in
    let b = between_same _ _ _ was.0 (left_same _ _ c.in_ok-item.ensures.reads.other) was.1 in
    tells_in_packets _ _ _ (file notes (g.W.World.told c.handle.new.world).notes.left) _
    (c.in_err-handle-in-Some.ensures.stopped _ _ _ b).leaves)

pub returns-in-None-clause-tells : goal.returns-in-None-clause-tells
returns-in-None-clause-tells g c = λ before begun stream notes l n.
    tells_in_line c.write_end.result
    (file stream (g.W.World.told c.next_item.new.world).stream.left)
    (file notes (g.W.World.told c.next_item.new.world).notes.left) _ _
    c.write_end.ensures.cause

pub handle-requires-clause-clock : goal.handle-requires-clause-clock
handle-requires-clause-clock g c =
    early_room _ _ _ c.items.invariant.early
    (few_lines _ _ _ c.items.items.numbered c.items.invariant.notes_within)
    (c.in_ok-item.ensures.time c.in-Some.item (ap Ok c.in-Some.is))

pub handle-requires-clause-may_be : goal.handle-requires-clause-may_be
handle-requires-clause-may_be g c =
    c.in_ok-item.ensures.may_be c.in-Some.item (ap Ok c.in-Some.is)

pub handle-requires-clause-told : goal.handle-requires-clause-told
handle-requires-clause-told g c =
    ap end_told c.in_ok-item.ensures.reads.other ∙ c.items.invariant.stream_told
