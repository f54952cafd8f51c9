use Rattle.replay_run.proofs.CutLaws.{gives_good}
use Rattle.replay_run.proofs.record.RecordReader.next.Goals as goal

pub returns-clause-good : goal.returns-clause-good
returns-clause-good c =
    gives_good (c.self.inside.bytes.items) (c.as_slice.result.now) (c.self.inside.start)
    (c.cut_line-cut.result.length) (c.self.inside.ended)
    (c.cut_line-cut.result.noted) (c.args.self.now) (c.as_slice.ensures.value) (c.self.view_is)
    (c.cut_line-cut.ensures)
