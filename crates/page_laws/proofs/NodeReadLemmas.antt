-- What scripts read of the nodes.
use Rattle.std.proofs.Common.{◌≡◌, ◌∙◌, ◌++◌, ℕ, List, [], Option, Some, refl, ap, ap₂}
use Rattle.std.specs.Prelude.{codes, unwrap_or}
use Rattle.std.specs.Option.{option_map_or}
use Rattle.dom_tree.specs.Items.{Item, tag_of, text_of, value_of}
use Rattle.es_values.specs.declared.values.HostRef.TheVariants as ref
use Rattle.es_values.specs.declared.values.Value.{Value}
use Rattle.es_values.specs.declared.values.Value.TheVariants.{Str}
use Rattle.dom_objects.specs.Reads.{Rows, element_rows, node_rows, own_rows, read_in, read_value, text_rows, walk_rows}
use Rattle.document_stages.specs.Acting.{Acting, member_value, with_member_set}
use Rattle.acting_documents.specs.Documents.{Document}
use Rattle.page.specs.State.{State}
use Rattle.es_values.specs.Conversions as texts
use Rattle.es_values.specs.Objects.{ObjectState}
use Rattle.es_values.specs.declared.values.HostRef.{HostRef}
use Rattle.page_laws.specs.Moments.{HasLast, HasWritten, Lasts, Moment, after_all, writes_since}
use Rattle.page_laws.specs.Nodes.{Nodes, last_to, nodes_of, write_made}
use Rattle.page_laws.proofs.LastWriteLemmas.{ChangeLaws, all-texts, no-tag, tag-after, values-after}
use Rattle.page_laws.proofs.NodeRunLemmas.{one-write}
use Rattle.page_laws.proofs.MomentLemmas.{HasDocument, all-moments}

-- the rows of a node, by its tag and its text
abbrev rows-of : List Item → ℕ → Option (List ℕ) → Option (List ℕ) → Rows
rows-of items node tag text =
    option_map_or (λ tag. walk_rows items node ++ (element_rows items node tag ++ own_rows items node tag)) tag
    (option_map_or (λ text. walk_rows items node ++ text_rows text) text [])

-- the `data` of a text
pub reads-text : (a : Acting) (node : ℕ) (text : List ℕ) → text_of a.tree.items node ≡ Some text → member_value a (ref.Node node) (codes "data") ≡ Str text
unfolding read_value node_rows
reads-text a node text is =
    ap₂ (λ (tag text : Option (List ℕ)). read_in (rows-of a.tree.items node tag text) (codes "data")) (no-tag a.tree.items node text is) is

pub later-text : ChangeLaws → (s : State) (d : Document) (moments : List Moment) (node : ℕ) (text : List ℕ) → HasDocument s (nodes_of d.tree) → Lasts moments s
    → text_of d.tree.items node ≡ Some text → HasLast (after_all moments s) node (codes "data") (writes_since moments s) text
later-text laws s d moments node text has lasts is =
    let later = all-moments moments s (nodes_of d.tree) has lasts in
    record {
      document = later.document;
      is = later.is;
      reads = λ a same. reads-text a node (unwrap_or (last_to node (codes "data") (writes_since moments s)) text)
          (ap (λ t. text_of t.items node) same
          ∙ ap (λ (n : Nodes). text_of n.items node) later.nodes_are
          ∙ all-texts laws (writes_since moments s) (nodes_of d.tree) node text is);
    }

-- at once
pub text-at-once : ChangeLaws → (a : Acting) (base : HostRef) (name : List ℕ) (value : Value) (heap : List ObjectState) (node : ℕ) (text : List ℕ)
    → text_of a.tree.items node ≡ Some text
    → member_value (with_member_set a base name value heap) (ref.Node node) (codes "data")
    ≡ Str (unwrap_or (last_to node (codes "data") (write_made a base name (texts.text_of heap value))) text)
text-at-once laws a base name value heap node text is =
    reads-text (with_member_set a base name value heap) node (unwrap_or (last_to node (codes "data") (write_made a base name (texts.text_of heap value))) text)
    (ap (λ (n : Nodes). text_of n.items node) (one-write a base name value heap)
    ∙ all-texts laws (write_made a base name (texts.text_of heap value)) (nodes_of a.tree) node text is)

-- ---- the attributes that scripts write

reads-input : (a : Acting) (node : ℕ) → tag_of a.tree.items node ≡ Some (codes "input")
    → member_value a (ref.Node node) (codes "value") ≡ Str (unwrap_or (value_of a.tree.items node (codes "value")) [])
unfolding read_value node_rows
reads-input a node is =
    ap (λ (tag : Option (List ℕ)). read_in (rows-of a.tree.items node tag (text_of a.tree.items node)) (codes "value")) is

reads-object : (a : Acting) (node : ℕ) → tag_of a.tree.items node ≡ Some (codes "object")
    → member_value a (ref.Node node) (codes "data") ≡ Str (unwrap_or (value_of a.tree.items node (codes "data")) [])
unfolding read_value node_rows
reads-object a node is =
    ap (λ (tag : Option (List ℕ)). read_in (rows-of a.tree.items node tag (text_of a.tree.items node)) (codes "data")) is

pub later-input : ChangeLaws → (s : State) (d : Document) (moments : List Moment) (node : ℕ) → HasDocument s (nodes_of d.tree) → Lasts moments s
    → tag_of d.tree.items node ≡ Some (codes "input")
    → HasLast (after_all moments s) node (codes "value") (writes_since moments s) (unwrap_or (value_of d.tree.items node (codes "value")) [])
later-input laws s d moments node has lasts is =
    let later = all-moments moments s (nodes_of d.tree) has lasts in
    let writes = writes_since moments s in
    record {
      document = later.document;
      is = later.is;
      reads = λ a same.
          reads-input a node
          (ap (λ t. tag_of t.items node) same ∙ ap (λ (n : Nodes). tag_of n.items node) later.nodes_are
          ∙ tag-after laws (codes "input") (codes "value") refl writes (nodes_of d.tree) node is)
          ∙ ap (λ t. Str (unwrap_or (value_of t.items node (codes "value")) [])) same
          ∙ ap (λ (n : Nodes). Str (unwrap_or (value_of n.items node (codes "value")) [])) later.nodes_are
          ∙ ap Str (values-after laws (codes "input") (codes "value") refl writes (nodes_of d.tree) node is);
    }

pub later-object : ChangeLaws → (s : State) (d : Document) (moments : List Moment) (node : ℕ) → HasDocument s (nodes_of d.tree) → Lasts moments s
    → tag_of d.tree.items node ≡ Some (codes "object")
    → HasLast (after_all moments s) node (codes "data") (writes_since moments s) (unwrap_or (value_of d.tree.items node (codes "data")) [])
later-object laws s d moments node has lasts is =
    let later = all-moments moments s (nodes_of d.tree) has lasts in
    let writes = writes_since moments s in
    record {
      document = later.document;
      is = later.is;
      reads = λ a same.
          reads-object a node
          (ap (λ t. tag_of t.items node) same ∙ ap (λ (n : Nodes). tag_of n.items node) later.nodes_are
          ∙ tag-after laws (codes "object") (codes "data") refl writes (nodes_of d.tree) node is)
          ∙ ap (λ t. Str (unwrap_or (value_of t.items node (codes "data")) [])) same
          ∙ ap (λ (n : Nodes). Str (unwrap_or (value_of n.items node (codes "data")) [])) later.nodes_are
          ∙ ap Str (values-after laws (codes "object") (codes "data") refl writes (nodes_of d.tree) node is);
    }

-- ---- all nodes, with the styles

pub later-nodes : (s : State) (d : Document) (moments : List Moment) → HasDocument s (nodes_of d.tree) → Lasts moments s
    → HasWritten (after_all moments s) (nodes_of d.tree) (writes_since moments s)
later-nodes s d moments has lasts =
    let later = all-moments moments s (nodes_of d.tree) has lasts in
    record { document = later.document; is = later.is; nodes_are = later.nodes_are }
