use Rattle.replay_run.specs.Outside.{outside}
use Rattle.replay_run.proofs.GeneratingLaws.{generates, prints_generated}
use Rattle.replay_run.proofs.generating.generate.Goals as goal

pub returns-in-Ok-clause-ends : goal.returns-in-Ok-clause-ends
returns-in-Ok-clause-ends g c = λ read right world keeper.
    generates read c.args.seed c.args.count
    (outside world keeper (g.S.Sink.told c.args.out.now))
    (outside world keeper (g.S.Sink.told c.write_piece.new.out))
    c.write_piece.result c.deref.result.now right
    (prints_generated c.args.seed c.args.count _ _ _ _ _ c.in_ok-files.ensures.files
    c.deref.ensures.value
    c.new-lines.ensures.items c.in_ok-push_gen_line.ensures c.in-Ok.ensures.lines)
    c.write_piece.ensures.whole c.write_piece.ensures.short c.write_piece.ensures.fault
