use Rattle.std.proofs.Common.{◌≡◌, ◌++◌, ◌<◌, ℕ, length, ap, sym, subst}
use Rattle.std.specs.Prelude.{IfSome, OnOk}
use Rattle.dom_tree.specs.NodeNumbers.{number_of}
use Rattle.display_list.specs.Show.{display_lines}
use Rattle.display_list.specs.Shown.{Shown}
use Rattle.display_list.proofs.show.push_styled.Goals as goal

pub push_scene-requires-clause-focus : goal.push_scene-requires-clause-focus
push_scene-requires-clause-focus c = subst (λ (count : ℕ). IfSome c.args.focus (λ node. node.0 < count)) (sym (ap (λ (s : Shown). length s.items) (c.in_ok-scene.ensures {u = tt}).shown)) c.requires.focus

pub returns-clause-ok : goal.returns-clause-ok
returns-clause-ok c =
    subst (λ (s : Shown). OnOk c.push_scene.result (c.push_scene.new.out.items ≡ c.args.out.now.items ++ display_lines s (number_of c.args.focus))) (c.in_ok-scene.ensures {u = tt}).shown c.push_scene.ensures.ok
