use Rattle.display_list.proofs.LineLemmas.{box_line-is, box-parts}
use Rattle.display_list.proofs.lines.push_box_line.Goals as goal

pub returns-clause-ok : goal.returns-clause-ok
returns-clause-ok c =
    box_line-is c.args.out.now.items _ c.args.place c.args.style
    (box-parts c.args.out.now.items _ _ _ _ _ _ _ _ _ _ (c.in_ok-push_word.ensures {u = tt}).ok (c.in_ok-push_place.ensures {u = tt}).ok (c.in_ok-push_border.ensures {u = tt}).ok (c.in_ok-push_line_end.ensures {u = tt}).ok)
