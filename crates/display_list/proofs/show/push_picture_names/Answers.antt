use Rattle.display_list.proofs.LineLemmas.{three-parts}
use Rattle.display_list.proofs.show.push_picture_names.Goals as goal

pub returns-clause-ok : goal.returns-clause-ok
returns-clause-ok c = three-parts c.args.out.now.items _ _ _ _ _ _ (c.in_ok-push_attribute.ensures {u = tt}).ok (c.in_ok-push_word.ensures {u = tt}).ok (c.in_ok-push_attribute-2.ensures {u = tt}).ok
