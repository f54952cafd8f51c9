use Rattle.display_list.proofs.LineLemmas.{front-parts}
use Rattle.display_list.proofs.lines.push_text_front.Goals as goal

pub returns-clause-ok : goal.returns-clause-ok
returns-clause-ok c = front-parts c.args.out.now.items _ _ _ _ _ _ _ _ _ (c.in_ok-push_word.ensures {u = tt}).ok (c.in_ok-push_place.ensures {u = tt}).ok (c.in_ok-push_letters.ensures {u = tt}).ok (c.in_ok-push_word-2.ensures {u = tt}).ok
