use Rattle.display_list.proofs.LineLemmas.{text_line-is, three-parts}
use Rattle.std.specs.Prelude.{codes}
use Rattle.display_list.proofs.lines.push_break_line.Goals as goal

pub returns-clause-ok : goal.returns-clause-ok
returns-clause-ok c =
    text_line-is c.args.out.now.items _ c.args.place c.args.style (codes "%0A")
    (three-parts c.args.out.now.items _ _ _ _ _ _ (c.in_ok-push_text_front.ensures {u = tt}).ok (c.in_ok-push_word.ensures {u = tt}).ok (c.in_ok-push_line_end.ensures {u = tt}).ok)
