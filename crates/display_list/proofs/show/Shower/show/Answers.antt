use Rattle.std.proofs.Common.{◌≡◌, ◌++◌, length, ap, refl, subst, ◌∙◌}
use Rattle.std.specs.Prelude.{List, OnOk}
use Rattle.std.proofs.lemmas.List.FromFn.{length-map-range_with_len}
use Rattle.dom_tree.specs.NodeNumbers.{number_of}
use Rattle.display_list.specs.Show.{display_lines}
use Rattle.display_list.specs.Shown.{node_style, present_value}
use Rattle.display_list.specs.declared.node_styles.NodeStyle.{NodeStyle}
use Rattle.display_list.specs.devices.Views.{shown_in}
use Rattle.display_list.proofs.ShowLemmas.{focus-within}
use Rattle.display_list.proofs.show.Shower.show.Goals as goal

pub push_styled-requires-clause-styles : goal.push_styled-requires-clause-styles
push_styled-requires-clause-styles c = ap length (c.in_ok-node_styles.ensures {u = tt}).ok ∙ length-map-range_with_len (node_style (present_value c.args.tree.now c.args.styles.now.sources c.args.focus.now) c.args.tree.now) 0 (length c.args.tree.now)

pub push_styled-requires-clause-focus : goal.push_styled-requires-clause-focus
push_styled-requires-clause-focus c = focus-within c.args.tree.now c.args.focus.now.focus (length c.args.tree.now) refl c.requires.focus

pub returns-clause-ok : goal.returns-clause-ok
returns-clause-ok c =
    subst (λ (l : List NodeStyle). OnOk c.push_styled.result (c.push_styled.new.out.items ≡ c.args.out.now.items ++ display_lines (shown_in c.args.tree.now l) (number_of c.args.focus.now.focus))) (c.in_ok-node_styles.ensures {u = tt}).ok c.push_styled.ensures.ok
