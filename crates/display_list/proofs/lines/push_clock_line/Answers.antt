use Rattle.display_list.proofs.LineLemmas.{clock_line-is, three-parts}
use Rattle.display_list.proofs.lines.push_clock_line.Goals as goal

pub returns-clause-ok : goal.returns-clause-ok
returns-clause-ok c =
    clock_line-is c.args.out.now.items _ c.args.clock
    (three-parts c.args.out.now.items _ _ _ _ _ _ (c.in_ok-push_word.ensures {u = tt}).ok (c.in_ok-push_count.ensures {u = tt}).ok (c.in_ok-push_line_end.ensures {u = tt}).ok)
