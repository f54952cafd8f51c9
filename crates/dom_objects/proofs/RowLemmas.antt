-- Rows of lists behind one another, the rows of nodes, and styles that are read.
use Rattle.std.proofs.Common.{◌≡◌, ℕ, ◌<◌, ◌≤◌, Bool, true, false, cond, List, [], ◌∷◌, ◌++◌, length, Option, Some, None, refl, ap, ◌∙◌, arith}
use Rattle.std.specs.Prelude.{is_some, option_and_then, unwrap_or}
use Rattle.std.specs.Option.{option_map_or}
use Rattle.std.proofs.lemmas.Option.{slice_get_past}
use Rattle.bml_bytes.specs.Words.{is_same}
use Rattle.dom_tree.specs.Items.{Item, attributes_in, tag_in, tag_of, text_in, text_of, value_in}
use Rattle.style_cascade.specs.declared.states.State.{State}
use Rattle.style_reader.specs.declared.properties.Property.{Property}
use Rattle.es_values.specs.declared.values.Value.{Value}
use Rattle.es_values.specs.declared.values.Value.TheVariants.{Str, Undefined}
use Rattle.style_cascade.specs.StyledTrees.{StyledTree}
use Rattle.dom_objects.specs.Parts.{state_of_number}
use Rattle.dom_objects.specs.Reads.{Rows, attribute_value, element_rows, node_rows, own_rows, property_named, row_of, style_read, style_text, text_rows, walk_rows}

-- ---- lists of rows behind one another

pub row-found : (name : List ℕ) (rows more : Rows) (value : Value) → row_of name rows ≡ Some value → row_of name (rows ++ more) ≡ Some value
row-found name [] more value e = absurd (cc e)
row-found name (row ∷ rows) more value e = by (is_same name row.0) e (row-found name rows more value)
  where
    by : (b : Bool) → cond b (Some row.1) (row_of name rows) ≡ Some value → (row_of name rows ≡ Some value → row_of name (rows ++ more) ≡ Some value) → cond b (Some row.1) (row_of name (rows ++ more)) ≡ Some value
    by true h k = h
    by false h k = k h

pub row-missed : (name : List ℕ) (rows more : Rows) → row_of name rows ≡ None → row_of name (rows ++ more) ≡ row_of name more
row-missed name [] more e = refl
row-missed name (row ∷ rows) more e = by (is_same name row.0) e (row-missed name rows more)
  where
    by : (b : Bool) → cond b (Some row.1) (row_of name rows) ≡ None → (row_of name rows ≡ None → row_of name (rows ++ more) ≡ row_of name more) → cond b (Some row.1) (row_of name (rows ++ more)) ≡ row_of name more
    by true h k = absurd (cc h)
    by false h k = k h

-- ---- nodes

rows_by : List Item → ℕ → Option (List ℕ) → Option (List ℕ) → Rows
rows_by items node tag text =
    option_map_or (λ t. walk_rows items node ++ (element_rows items node t ++ own_rows items node t)) tag
    (option_map_or (λ t. walk_rows items node ++ text_rows t) text [])

pub node_rows-element : (items : List Item) (node : ℕ) (tag : List ℕ) → tag_of items node ≡ Some tag → node_rows items node ≡ walk_rows items node ++ (element_rows items node tag ++ own_rows items node tag)
unfolding node_rows rows_by
node_rows-element items node tag e = ap (λ (t : Option (List ℕ)). rows_by items node t (text_of items node)) e

pub beyond : (node : ℕ) (items : List Item) → (node < length items → ⊥) → length items ≤ node
beyond node items h = omega arith

pub node_rows-outside : (items : List Item) (node : ℕ) → length items ≤ node → node_rows items node ≡ []
unfolding node_rows rows_by
node_rows-outside items node h =
    ap (λ (item : Option Item). rows_by items node (option_and_then (λ i. tag_in i.content) item) (option_and_then (λ i. text_in i.content) item)) (slice_get_past items node h)

-- a node that isn't there has no attribute
pub attribute-outside : (items : List Item) (node : ℕ) (name : List ℕ) → length items ≤ node → attribute_value items node name ≡ Str []
attribute-outside items node name h =
    ap (λ (item : Option Item). Str (unwrap_or (value_in (option_map_or (λ i. attributes_in i.content) item []) name) [])) (slice_get_past items node h)

-- ---- styles

pub style_read-is : (tree : StyledTree) (node number : ℕ) (name : List ℕ) (state : State) (property : Property) → is_some (tag_of tree.items node) ≡ true → state_of_number number ≡ Some state → property_named name ≡ Some property → style_read tree node number name ≡ style_text tree node state property
unfolding style_read
style_read-is tree node number name state property element of_number named =
    ap (λ (b : Bool). option_map_or (λ s. option_map_or (style_text tree node s) (property_named name) Undefined) (cond b (state_of_number number) None) Undefined) element
    ∙ ap (λ (s : Option State). option_map_or (λ s. option_map_or (style_text tree node s) (property_named name) Undefined) s Undefined) of_number
    ∙ ap (λ (p : Option Property). option_map_or (style_text tree node state) p Undefined) named
