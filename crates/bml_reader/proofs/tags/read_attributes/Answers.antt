use Rattle.std.proofs.Common.{◌≡◌, List, ℕ, suc, Bool, true, false, Some, None, [], ◌∷◌, ◌++◌, length, ◌∙◌, sym, ap, subst}
use Rattle.std.specs.Prelude.{option_map, is_some, not}
use Rattle.bml_bytes.specs.Codes.{codes}
use Rattle.dom_tree.specs.Items.{Attribute, value_in}
use Rattle.bml_reader.specs.devices.Lexing.{Found, Written, attribute_at, attribute_of, tag_end_at, inner_at}
use Rattle.bml_reader.specs.devices.Views.{found_written, found_flag}
use Rattle.bml_reader.specs.devices.AttributeViews.{attributes_in_map}
use Rattle.bml_reader.proofs.TagLemmas.{inner_at-end, inner_at-none, inner_at-twice, inner_at-step, attribute-shorter}
use Rattle.bml_reader.proofs.tags.read_attributes.Goals as goal

pub returns-in-Some : goal.returns-in-Some
returns-in-Some c =
    let r : List ℕ = c.attributes.rest.now in
    let before = attributes_in_map c.attributes.attributes in
    let e : tag_end_at r ≡ Some (found_flag (c.in-Some.is_empty, c.in-Some.behind)) = sym c.tag_end.ensures ∙ ap (option_map found_flag) c.in-Some.is in
    sym (inner_at-end (length r) before r (found_flag (c.in-Some.is_empty, c.in-Some.behind)) e) ∙ c.attributes.invariant

pub returns-in-None-attribute : goal.returns-in-None-attribute
returns-in-None-attribute c =
    let r : List ℕ = c.attributes.rest.now in
    let before = attributes_in_map c.attributes.attributes in
    let n : tag_end_at r ≡ None = sym c.tag_end.ensures ∙ ap (option_map found_flag) c.in-None.is in
    let q : attribute_at r ≡ None = sym c.attribute.ensures ∙ ap (option_map found_written) c.in-None-attribute.is in
    sym (inner_at-none (length r) before r n q) ∙ c.attributes.invariant

pub returns-then-not-branch : goal.returns-then-not-branch
returns-then-not-branch c =
    let r : List ℕ = c.attributes.rest.now in
    let before = attributes_in_map c.attributes.attributes in
    let a : Found Written = found_written (c.in-Some-attribute.name, c.in-Some-attribute.value, c.in-Some-attribute.behind) in
    let n : tag_end_at r ≡ None = sym c.tag_end.ensures ∙ ap (option_map found_flag) c.in-None.is in
    let q : attribute_at r ≡ Some a = sym c.attribute.ensures ∙ ap (option_map found_written) c.in-Some-attribute.is in
    let added : Bool = c.in_ok-read_attribute-in-Some-attribute.field-0 in
    let isnt : not added ≡ true = ap not c.if-not-branch.true in
    let d : is_some (value_in before (codes a.it.name)) ≡ true = c.in_ok-read_attribute-in-Some-attribute.ensures.new ∙ isnt in
    sym (inner_at-twice (length r) before r a n q d) ∙ c.attributes.invariant

pub attributes-smaller : goal.attributes-smaller
attributes-smaller c =
    let r : List ℕ = c.attributes.rest.now in
    let a : Found Written = found_written (c.in-Some-attribute.name, c.in-Some-attribute.value, c.in-Some-attribute.behind) in
    let q : attribute_at r ≡ Some a = sym c.attribute.ensures ∙ ap (option_map found_written) c.in-Some-attribute.is in
    attribute-shorter r a q

pub attributes-preserved : goal.attributes-preserved
attributes-preserved c =
    let r : List ℕ = c.attributes.rest.now in
    let before = attributes_in_map c.attributes.attributes in
    let a : Found Written = found_written (c.in-Some-attribute.name, c.in-Some-attribute.value, c.in-Some-attribute.behind) in
    let n : tag_end_at r ≡ None = sym c.tag_end.ensures ∙ ap (option_map found_flag) c.in-None.is in
    let q : attribute_at r ≡ Some a = sym c.attribute.ensures ∙ ap (option_map found_written) c.in-Some-attribute.is in
    let added : Bool = c.in_ok-read_attribute-in-Some-attribute.field-0 in
    let was : added ≡ true = c.if-not-branch.false in
    let is : not added ≡ false = ap not was in
    let d : is_some (value_in before (codes a.it.name)) ≡ false = c.in_ok-read_attribute-in-Some-attribute.ensures.new ∙ is in
    let last : attributes_in_map c.read_attribute.new.attributes ≡ before ++ attribute_of a.it ∷ [] =
    c.in_ok-read_attribute-in-Some-attribute.ensures.last was in
    ap (λ z. inner_at (suc (length a.rest)) z a.rest) last ∙ (sym (inner_at-step before r a n q d) ∙ c.attributes.invariant)
