use Rattle.std.proofs.Common.{◌≡◌, ◌≤◌, ◌+◌, ◌++◌, ◌∙◌, sym, ap, refl, subst, length, take, arith, []}
use Rattle.std.proofs.Common.{length-append}
use Rattle.std.proofs.KnownBytes.{Consumes-kept, Consumes-nil}
use Rattle.std.proofs.lemmas.List.{take_all}
use Rattle.replay_run.specs.Files.{record_limit}
use Rattle.replay_run.specs.Needs.{most_ahead}
use Rattle.replay_run.specs.RecordProgress.{IsAt}
use Rattle.replay_run.proofs.RecordProgressLaws.{at_limit, at_read, at_within}
use Rattle.replay_run.proofs.StoppingLaws.{consumed_some, within_kept}
use Rattle.replay_run.proofs.record_items.RecordItems.read_record.Goals as goal

pub returns-then-self-gt-RECORD_LIMIT-clause-stopped :
    goal.returns-then-self-gt-RECORD_LIMIT-clause-stopped
returns-then-self-gt-RECORD_LIMIT-clause-stopped g c = λ notes items a.
    at_limit notes _ items _ (take c.in-Ok.count c.read_port.new.buf) c.in-Ok.count record_limit
    (sym c.in-Ok.ensures.count.1) c.if-self-gt-RECORD_LIMIT.true
    (consumed_some _ _ _ c.in-Ok.ensures.bytes.0) a

pub returns-in-Err-clause-stopped : goal.returns-in-Err-clause-stopped
returns-in-Err-clause-stopped g c = λ notes items a.
    within_kept record_limit notes _ _ c.in-Err.ensures.bytes
    (at_within notes _ items record_limit c.requires.within a)

pub returns-else-self-gt-RECORD_LIMIT-clause-goes :
    goal.returns-else-self-gt-RECORD_LIMIT-clause-goes
returns-else-self-gt-RECORD_LIMIT-clause-goes g c =
    let bytes = take c.in-Ok.count c.read_port.new.buf in
    let size : length bytes ≡ c.in-Ok.count = sym c.in-Ok.ensures.count.1 in
    let room : c.feed.result ≡ length bytes =
    omega (arith, c.feed.ensures.count, c.requires.waiting, size, c.in-Ok.ensures.count.0) in
    let held : c.feed.new.self.held ≡ c.args.self.now.reader.held ++ bytes =
    c.feed.ensures.held ∙ ap (λ n. c.args.self.now.reader.held ++ take n bytes) room
    ∙ ap (λ l. c.args.self.now.reader.held ++ l) (take_all (length bytes) bytes (omega arith)) in
    let few : length c.feed.new.self.held ≤ most_ahead =
    omega (
      arith,
      ap length held,
      length-append c.args.self.now.reader.held bytes,
      c.requires.waiting,
      size,
      c.in-Ok.ensures.count.0,
    ) in
    λ notes items a.
    subst (λ n. IsAt notes (record {
      reader = c.feed.new.self;
      bytes = c.args.self.now.bytes + n;
      lines = c.args.self.now.lines;
      left = (g.W.World.told c.read_port.new.self).notes.left;
    }) items) size
    (at_read notes _ items _ _ bytes (consumed_some bytes _ _ c.in-Ok.ensures.bytes.0)
    c.requires.open_end held c.feed.ensures.ended few a)

pub returns-in-Err-clause-last : goal.returns-in-Err-clause-last
returns-in-Err-clause-last g c = record {
  last = [];
  consumed = Consumes-kept _ _ _ [] (Consumes-nil _) c.in-Err.ensures.bytes;
  most = omega arith;
  failed = λ e. (refl, c.in-Err.ensures.counted.last);
  long = λ e. absurd (cc);
}

pub returns-then-self-gt-RECORD_LIMIT-clause-last :
    goal.returns-then-self-gt-RECORD_LIMIT-clause-last
returns-then-self-gt-RECORD_LIMIT-clause-last g c =
    let bytes = take c.in-Ok.count c.read_port.new.buf in
    let size : length bytes ≡ c.in-Ok.count = sym c.in-Ok.ensures.count.1 in
    record {
      last = bytes;
      consumed = c.in-Ok.ensures.bytes.0;
      most = omega (arith, size, c.in-Ok.ensures.count.0);
      failed = λ e. absurd (cc);
      long = λ e. omega (arith, c.if-self-gt-RECORD_LIMIT.true, size);
    }

pub returns-in-Err-clause-gave : goal.returns-in-Err-clause-gave
returns-in-Err-clause-gave g c = record {
  last = [];
  consumed = Consumes-kept _ _ _ [] (Consumes-nil _) c.in-Err.ensures.bytes;
  most = omega arith;
}

pub returns-then-self-gt-RECORD_LIMIT-clause-gave :
    goal.returns-then-self-gt-RECORD_LIMIT-clause-gave
returns-then-self-gt-RECORD_LIMIT-clause-gave g c =
    let bytes = take c.in-Ok.count c.read_port.new.buf in
    let size : length bytes ≡ c.in-Ok.count = sym c.in-Ok.ensures.count.1 in
    record {
      last = bytes;
      consumed = c.in-Ok.ensures.bytes.0;
      most = omega (arith, size, c.in-Ok.ensures.count.0);
    }

pub returns-else-self-gt-RECORD_LIMIT-clause-gave :
    goal.returns-else-self-gt-RECORD_LIMIT-clause-gave
returns-else-self-gt-RECORD_LIMIT-clause-gave g c =
    let bytes = take c.in-Ok.count c.read_port.new.buf in
    let size : length bytes ≡ c.in-Ok.count = sym c.in-Ok.ensures.count.1 in
    record {
      last = bytes;
      consumed = c.in-Ok.ensures.bytes.0;
      most = omega (arith, size, c.in-Ok.ensures.count.0);
    }
