use Rattle.display_list.proofs.LineLemmas.{focus_line-is, three-parts}
use Rattle.display_list.proofs.lines.push_focus_line.Goals as goal

pub returns-clause-ok : goal.returns-clause-ok
returns-clause-ok c =
    focus_line-is c.args.out.now.items _ c.args.place
    (three-parts c.args.out.now.items _ _ _ _ _ _ (c.in_ok-push_word.ensures {u = tt}).ok (c.in_ok-push_place.ensures {u = tt}).ok (c.in_ok-push_line_end.ensures {u = tt}).ok)
