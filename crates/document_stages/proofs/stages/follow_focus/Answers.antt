use Rattle.document_stages.proofs.StyleLemmas.{focus-followed}
use Rattle.document_stages.proofs.stages.follow_focus.Goals as goal

pub returns-clause-right : goal.returns-clause-right
returns-clause-right c =
    focus-followed c.args.tree.now c.args.before.now c.args.after.now c.args.styles.now _ _ _ _ c.touch.ensures.right c.touch-2.ensures.right c.touch-3.ensures.right c.touch-4.ensures.right c.requires.right
