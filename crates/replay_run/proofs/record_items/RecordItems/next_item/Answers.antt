use Rattle.std.proofs.Common.{◌≡◌, ◌≤◌, ◌+◌, ◌∙◌, sym, refl, subst, arith, inl, inr}
use Rattle.std.proofs.lemmas.Result.{err_from_is_err_and}
use Rattle.replay_run.specs.declared.record.Line.TheVariants.{Item as Read, Nothing}
use Rattle.replay_run.specs.Play.{MayBeHandled, milliseconds_of}
use Rattle.replay_run.specs.Record.{tick_limit}
use Rattle.replay_run.specs.RecordProgress.{IsAt, IsAtItem, record_state}
use Rattle.replay_run.proofs.RecordProgressLaws.{at_item, at_nothing, at_bad, at_whole, time_within}
use Rattle.replay_run.proofs.RecordProgressLaws.{may_be_handled}
use Rattle.replay_run.proofs.RecordProgressLaws.{bad_came, end_came, line_came, reads_came}
use Rattle.replay_run.proofs.RecordProgressLaws.{reads_further}
use Rattle.replay_run.proofs.StoppingLaws.{only_reads_more, only_reads_none, record_stops}
use Rattle.replay_run.proofs.record_items.RecordItems.next_item.Goals as goal

pub lines-init : goal.lines-init
lines-init g c = record {
  within = c.requires.within;
  further = omega arith;
  readable = c.requires.readable;
  told = c.requires.told;
  reads = only_reads_none _ _;
  goes = λ notes items a. a;
  last_read = inr (refl, λ fresh. fresh);
}

pub returns-in-Line-Item-clause-item : goal.returns-in-Line-Item-clause-item
returns-in-Line-Item-clause-item g c = λ item e notes items a.
    let same : c.in-Line-Item.item ≡ item = cc in
    subst (λ i. IsAtItem notes (record {
      reader = c.next.new.self;
      bytes = c.lines.self.bytes;
      lines = c.lines.self.lines + 1;
      left = (g.W.World.told c.lines.world).notes.left;
    }) items i) same
    (at_item notes _ items _ c.in-Line-Item.item
    (c.next.ensures.good (Read c.in-Line-Item.item) (λ clash. cc)
    (rw c.in-Line-Item.field-0-is at c.in-Line-Item.is))
    c.next.ensures.drops (c.lines.invariant.goes notes items a))

pub returns-in-Line-Item-clause-time : goal.returns-in-Line-Item-clause-time
returns-in-Line-Item-clause-time g c = λ item e.
    let same : c.in-Line-Item.item ≡ item = cc in
    subst (λ i. milliseconds_of i ≤ tick_limit) same
    (time_within c.lines.self.reader c.next.new.self c.in-Line-Item.item
    (c.next.ensures.good (Read c.in-Line-Item.item) (λ clash. cc)
    (rw c.in-Line-Item.field-0-is at c.in-Line-Item.is)))

pub returns-in-Line-Item-clause-may_be : goal.returns-in-Line-Item-clause-may_be
returns-in-Line-Item-clause-may_be g c = λ item e.
    let same : c.in-Line-Item.item ≡ item = cc in
    subst MayBeHandled same
    (may_be_handled c.lines.self.reader c.next.new.self c.in-Line-Item.item
    (c.next.ensures.good (Read c.in-Line-Item.item) (λ clash. cc)
    (rw c.in-Line-Item.field-0-is at c.in-Line-Item.is)))

pub returns-in-Line-Bad-clause-stopped : goal.returns-in-Line-Bad-clause-stopped
returns-in-Line-Bad-clause-stopped g c = λ notes items a.
    at_bad notes _ items (c.next.ensures.bad (rw c.in-Line-Bad.field-0-is at c.in-Line-Bad.is))
    c.lines.invariant.within (c.lines.invariant.goes notes items a)

pub returns-in-End-clause-end : goal.returns-in-End-clause-end
returns-in-End-clause-end g c = λ e notes items a.
    let over = c.next.ensures.end.0 c.in-End.is in
    at_whole notes _ items over.ended over.none c.lines.invariant.within
    (c.lines.invariant.goes notes items a)

pub lines-preserved-in-Line-Nothing : goal.lines-preserved-in-Line-Nothing
lines-preserved-in-Line-Nothing g c =
    let before = c.lines.invariant in
    let is_nothing = rw c.in-Line-Nothing.field-0-is at c.in-Line-Nothing.is in
    record {
      within = before.within;
      further = omega (arith, before.further);
      readable = λ e. before.readable (sym c.next.ensures.drops.ended ∙ e);
      told = before.told ∙ sym c.next.ensures.drops.ended;
      reads = before.reads;
      goes = λ notes items a. at_nothing notes _ items _
          (c.next.ensures.good Nothing (λ clash. cc) is_nothing)
          c.next.ensures.drops (before.goes notes items a);
      last_read = reads_further _ _ _ _
          (reads_came _ _ _ _ before.last_read
          (line_came c.lines.self.reader _ (c.next.ensures.takes Nothing (λ clash. cc) is_nothing)));
    }

pub lines-preserved : goal.lines-preserved
lines-preserved g c =
    let before = c.lines.invariant in
    let read = c.in_ok-read_record-in-NeedMore.ensures in
    let same : c.next.new.self ≡ c.lines.self.reader = c.next.ensures.stays (λ line good e. cc) in
    record {
      within = read.within;
      further = omega (arith, before.further, read.lines);
      readable = read.readable;
      told = read.told;
      reads = only_reads_more _ _ _ _ before.reads read.reads;
      goes = λ notes items a. read.goes notes items (subst (λ reader. IsAt notes (record {
        reader = reader;
        bytes = c.lines.self.bytes;
        lines = c.lines.self.lines;
        left = (g.W.World.told c.lines.world).notes.left;
      }) items) (sym same) (before.goes notes items a));
      last_read = inl (
        read.gave.last,
        record {
          now = record_state c.lines.self (g.W.World.told c.lines.world);
          goes = before.goes;
          unfinished = c.next.ensures.need_more.0 c.in-NeedMore.is;
          within = before.within;
          consumed = read.gave.consumed;
          most = read.gave.most;
        },
      );
    }

pub returns-in_err-read_record-in-NeedMore-clause-reads :
    goal.returns-in_err-read_record-in-NeedMore-clause-reads
returns-in_err-read_record-in-NeedMore-clause-reads g c =
    only_reads_more _ _ _ _ c.lines.invariant.reads c.in_err-read_record-in-NeedMore.ensures.reads

pub returns-in-Line-Bad-clause-reading : goal.returns-in-Line-Bad-clause-reading
returns-in-Line-Bad-clause-reading g c =
    record { failed = λ e. absurd (cc); long = λ e. absurd (cc) }

pub returns-in_err-read_record-in-NeedMore-clause-reading :
    goal.returns-in_err-read_record-in-NeedMore-clause-reading
returns-in_err-read_record-in-NeedMore-clause-reading g c =
    let before = c.lines.invariant in
    let p = err_from_is_err_and c.from_residual.result c.from_residual.ensures.1 in
    rw (p.1, p.2) (record_stops _ _ _ _ _
    (λ last consumed most. (
      record {
        now = record_state c.lines.self (g.W.World.told c.lines.world);
        goes = before.goes;
        unfinished = c.next.ensures.need_more.0 c.in-NeedMore.is;
        within = before.within;
        consumed = consumed;
        most = most;
      },
      refl,
    )) c.in_err-read_record-in-NeedMore.ensures.last)

-- ---- the last read

pub returns-in-Line-Item-clause-last_read : goal.returns-in-Line-Item-clause-last_read
returns-in-Line-Item-clause-last_read g c =
    reads_came _ _ _ _ c.lines.invariant.last_read
    (line_came c.lines.self.reader _ (c.next.ensures.takes (Read c.in-Line-Item.item) (λ clash. cc)
    (rw c.in-Line-Item.field-0-is at c.in-Line-Item.is)))

pub returns-in-Line-Bad-clause-last_read : goal.returns-in-Line-Bad-clause-last_read
returns-in-Line-Bad-clause-last_read g c =
    reads_came _ _ _ _ c.lines.invariant.last_read
    (bad_came c.lines.self.reader (c.next.ensures.bad (rw c.in-Line-Bad.field-0-is at c.in-Line-Bad.is)))

pub returns-in-End-clause-last_read : goal.returns-in-End-clause-last_read
returns-in-End-clause-last_read g c =
    reads_came _ _ _ _ c.lines.invariant.last_read
    (end_came c.lines.self.reader (c.next.ensures.end.0 c.in-End.is))

pub returns-in_err-read_record-in-NeedMore-clause-last_read :
    goal.returns-in_err-read_record-in-NeedMore-clause-last_read
returns-in_err-read_record-in-NeedMore-clause-last_read g c =
    let before = c.lines.invariant in
    let gave = c.in_err-read_record-in-NeedMore.ensures.gave in
    inl (
      gave.last,
      record {
        now = record_state c.lines.self (g.W.World.told c.lines.world);
        goes = before.goes;
        unfinished = c.next.ensures.need_more.0 c.in-NeedMore.is;
        within = before.within;
        consumed = gave.consumed;
        most = gave.most;
      },
    )
