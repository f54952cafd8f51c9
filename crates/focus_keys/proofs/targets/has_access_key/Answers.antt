use Rattle.std.proofs.Common.{◌≡◌, ℕ, List, [], ◌∷◌, Option, ap, subst, sym, ◌∙◌, arith, codes, false, length}
use Rattle.std.specs.Option.{option_map_or}
use Rattle.bml_bytes.specs.Words.{is_same}
use Rattle.dom_tree.specs.Items.{attributes_of}
use Rattle.focus_keys.proofs.AttributeLemmas.{LackName, value_in-found, value_in-none}
use Rattle.focus_keys.proofs.targets.has_access_key.Goals as goal

pub returns-then-is_word : goal.returns-then-is_word
returns-then-is_word c =
    let attributes = attributes_of c.args.tree.now c.args.node.0 in
    let found = value_in-found (codes "accesskey") attributes c.attributes.place _ c.attributes.invariant c.in-Some.ensures (sym c.is_word.ensures ∙ c.if-is_word.true) in
    c.is_letter.ensures ∙ sym (ap (λ (o : Option (List ℕ)). option_map_or (is_same (c.args.letter ∷ [])) o false) found)

pub returns : goal.returns
returns c =
    let attributes = attributes_of c.args.tree.now c.args.node.0 in
    let all : c.attributes.place ≡ length attributes = omega arith in
    let lack = subst (λ (n : ℕ). LackName (codes "accesskey") attributes n) all c.attributes.invariant in
    sym (ap (λ (o : Option (List ℕ)). option_map_or (is_same (c.args.letter ∷ [])) o false) (value_in-none (codes "accesskey") attributes lack))
