use Rattle.std.proofs.Common.{◌≡◌, Some, None, sym, ap, ◌∙◌}
use Rattle.std.specs.Prelude.{option_and_then, option_map}
use Rattle.style_cascade.specs.devices.Kept.{said_of, styled_by}
use Rattle.style_cascade.specs.Matching.{subject_of}
use Rattle.style_cascade.proofs.ChainLemmas.{OnOk-then}
use Rattle.style_cascade.proofs.KeptLemmas.{said-by}
use Rattle.style_cascade.proofs.said.put_node.Goals as goal

pub returns-in-Some-clause-here : goal.returns-in-Some-clause-here
returns-in-Some-clause-here c =
    let is : Some c.in-Some.styled ≡ option_map styled_by (subject_of c.args.tree.now c.args.node.0) = sym c.in-Some.is ∙ c.in_ok-styled.ensures {u = tt} in
    OnOk-then c.put_styled.result _ _ c.put_styled.ensures.here
    (λ here state property. here state property ∙ (ap (option_and_then (said_of c.args.sheet.now state property)) is ∙ said-by c.args.tree.now c.args.sheet.now c.args.node.0 state property))

pub returns-in-None-clause-here : goal.returns-in-None-clause-here
returns-in-None-clause-here c =
    let is : None ≡ option_map styled_by (subject_of c.args.tree.now c.args.node.0) = sym c.in-None.is ∙ c.in_ok-styled.ensures {u = tt} in
    λ state property. c.requires.empty state property ∙ (ap (option_and_then (said_of c.args.sheet.now state property)) is ∙ said-by c.args.tree.now c.args.sheet.now c.args.node.0 state property)
