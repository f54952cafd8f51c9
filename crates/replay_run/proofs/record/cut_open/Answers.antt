use Rattle.std.proofs.Common.{arith, ◌<◌, length}
use Rattle.std.proofs.lemmas.Bool.Decides.{nat_tests}
use Rattle.replay_run.proofs.CutLaws.{cut_long, cut_unfinished, cut_last}
use Rattle.replay_run.proofs.record.cut_open.Goals as goal

pub returns-then-held-ge-LONGEST_LINE : goal.returns-then-held-ge-LONGEST_LINE
returns-then-held-ge-LONGEST_LINE c = cut_long _ _ _ _ c.requires (c.if-held-ge-LONGEST_LINE.true)
    (c.leaving.ensures.noted) (c.leaving.ensures.length)

pub returns-then-not-ended : goal.returns-then-not-ended
returns-then-not-ended c = cut_unfinished _ _ _ _ c.requires (c.if-held-ge-LONGEST_LINE.false)
    (c.if-not-ended.true) (c.leaving-then-not-ended.ensures.noted)
    (c.leaving-then-not-ended.ensures.length)

pub returns : goal.returns
returns c =
    let some : 0 < length c.args.held.now = grind (arith, nat_tests) in
    cut_last _ _ _ _ _ c.requires (c.if-held-ge-LONGEST_LINE.false) some (c.if-not-ended.false)
    (c.line_of.ensures) (c.of_line.ensures.noted) (c.of_line.ensures.good)
    (c.of_line.ensures.bad)
