use Rattle.std.proofs.Common.{◌≡◌, ℕ, List, [], Option, Result, Some, None, IfOk, ◌∙◌, ap, subst}
use Rattle.std.specs.Prelude.{if◌then◌else◌, codes as ascii}
use Rattle.std.specs.Option.{is_some, option_copied, unwrap_or}
use Rattle.bml_bytes.specs.Codes.{codes}
use Rattle.dom_tree.specs.Items.{Attribute, attributes_of, value_in}
use Rattle.document_load.specs.StyleTexts.{own_text}
use Rattle.document_load.specs.Scripts.{script_text}
use Rattle.document_load.proofs.scripts.script_text.Goals as goal

-- the text, by whether the element has `src`
text_by : {E : Type 0} (result : Result (List ℕ) E) (attributes : List Attribute) (own gift src : List ℕ) (o : Option (List ℕ)) → src ≡ ascii "src" → o ≡ value_in attributes src → IfOk result (λ text. text ≡ (if is_some o then gift else own)) → IfOk result (λ text. text ≡ script_text attributes own gift)
text_by result attributes own gift src o e f h =
    subst (λ (t : List ℕ). IfOk result (λ text. text ≡ t)) (ap (λ (p : Option (List ℕ)). if is_some p then gift else own) (f ∙ ap (value_in attributes) e)) h

pub returns-in-Some : goal.returns-in-Some
unfolding codes
returns-in-Some c =
    text_by c.shared_text.result (attributes_of c.args.tree.now c.args.node.0) (own_text c.args.tree.now c.args.node.0) (unwrap_or (option_copied c.args.gift) []) c.in_ok-src.src (Some c.in-Some.field-0.now) c.in_ok-src.ensures (c.in-Some.ensures {u = tt}) c.shared_text.ensures

pub returns : goal.returns
unfolding codes
returns c =
    text_by c.own_text.result (attributes_of c.args.tree.now c.args.node.0) (own_text c.args.tree.now c.args.node.0) (unwrap_or (option_copied c.args.gift) []) c.in_ok-src.src None c.in_ok-src.ensures (c.in-None.ensures {u = tt}) c.own_text.ensures
