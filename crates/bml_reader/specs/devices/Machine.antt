-- A device of the proofs: what is known of a document once some of its pieces are read. It isn't
-- what a document is (`Grammar`), but what its reader knows, and nobody has to believe it: what it
-- comes to at the end is the nodes, or the first fault, of what the grammar makes of the same
-- bytes, by `law_of_readings`.
use Rattle.std.specs.Prelude.{◌≡◌, ◌≢◌, ℕ, nat_le, Bool, true, false, ◌||◌, if◌then◌else◌, List, [], ◌∷◌, ◌++◌, length, map, Option, Some, None, option_and_then}
use Rattle.std.specs.List.{list_all}
use Rattle.bml_bytes.specs.Codes.{codes}
use Rattle.bml_bytes.specs.Words.{is_same}
use Rattle.dom_tree.specs.Items.{Attribute, Item}
use Rattle.dom_tree.specs.Items.Content.{Element, Text}
use Rattle.dom_tree.specs.Walks.{most_nodes}
use Rattle.bml_reader.specs.Bytes.{is_white}
use Rattle.bml_reader.specs.References.{read_references}
use Rattle.bml_reader.specs.Markup.{Markup}
use Rattle.bml_reader.specs.Markup.Markup.{StartTag, EndTag, Run, Cdata, Remark, Doctype}
use Rattle.bml_reader.specs.Grammar.{is_left_out}
use Rattle.bml_reader.specs.Faults.{most_levels}
use Rattle.bml_reader.specs.declared.phases.Phase.{Phase}
use Rattle.bml_reader.specs.declared.phases.Phase.TheVariants.{BeforeDoctype, BeforeRoot, Inside, Behind}

-- an open element: its tag, and the number of its node
pub record Opened : Type 0 where
  pub tag : List ℕ
  pub number : ℕ

-- where the reader is, the open elements from the innermost on, the text since the last tag, the
-- nodes so far, and whether an element stood past the last level
pub record State : Type 0 where
  pub phase : Phase
  pub elements : List Opened
  pub text : List ℕ
  pub items : List Item
  pub is_deep : Bool

abbrev pub start_state : State
start_state =
    record { phase = BeforeDoctype; elements = []; text = []; items = []; is_deep = false }

-- the number of the innermost open element
abbrev pub innermost : List Opened → Option ℕ
innermost [] = None
innermost (o ∷ _) = Some o.number

-- the nodes, once the text in front of a tag is one of them, or left out
abbrev pub items_with_text : List Opened → List ℕ → List Item → List Item
items_with_text [] text items = items
items_with_text (o ∷ _) text items =
    if is_left_out o.tag text then items
    else items ++ record { parent = Some o.number; content = Text (codes text) } ∷ []

-- behind the root, or inside it
abbrev pub phase_of : List Opened → Phase
phase_of [] = Behind
phase_of (_ ∷ _) = Inside

abbrev pub elements_with : Bool → List ℕ → ℕ → List Opened → List Opened
elements_with true tag number elements = elements
elements_with false tag number elements = record { tag = tag; number = number } ∷ elements

-- behind a start tag, where these are the nodes in front of its element
abbrev pub after_start_tag : List ℕ → List Attribute → Bool → State → List Item → State
after_start_tag tag attributes is_empty s items = record {
  phase = phase_of (elements_with is_empty tag (length items) s.elements);
  elements = elements_with is_empty tag (length items) s.elements;
  text = [];
  items = items ++ record { parent = innermost s.elements; content = Element tag attributes } ∷ [];
  is_deep = s.is_deep || nat_le most_levels (length s.elements);
}

-- once the innermost element has ended
abbrev pub outside_element : Opened → List Opened → State → State
outside_element o outer s = record s {
  phase = phase_of outer;
  elements = outer;
  text = [];
  items = items_with_text (o ∷ outer) s.text s.items;
}

-- behind the end tag of the innermost element
abbrev pub after_end_tag : List ℕ → List Opened → State → Option State
after_end_tag tag [] s = None
after_end_tag tag (o ∷ outer) s =
    if is_same tag o.tag then Some (outside_element o outer s) else None

abbrev pub with_more_text : List ℕ → State → State
with_more_text bytes s = record s { text = s.text ++ bytes }

abbrev pub with_phase : Phase → State → State
with_phase phase s = record s { phase = phase }

abbrev pub step_inside : Markup → State → Option State
step_inside (StartTag tag attributes is_empty) s =
    Some (after_start_tag tag attributes is_empty s (items_with_text s.elements s.text s.items))
step_inside (EndTag tag) s = after_end_tag tag s.elements s
step_inside (Run bytes) s = Some (with_more_text (read_references bytes) s)
step_inside (Cdata bytes) s = Some (with_more_text bytes s)
step_inside Remark s = Some s
step_inside Doctype s = None

abbrev pub step_before_root : Markup → State → Option State
step_before_root (StartTag tag attributes is_empty) s =
    Some (after_start_tag tag attributes is_empty s s.items)
step_before_root (EndTag tag) s = None
step_before_root (Run bytes) s = if list_all is_white bytes then Some s else None
step_before_root (Cdata bytes) s = None
step_before_root Remark s = Some s
step_before_root Doctype s = None

abbrev pub step_before_doctype : Markup → State → Option State
step_before_doctype (StartTag tag attributes is_empty) s =
    Some (after_start_tag tag attributes is_empty s s.items)
step_before_doctype (EndTag tag) s = None
step_before_doctype (Run bytes) s = if list_all is_white bytes then Some s else None
step_before_doctype (Cdata bytes) s = None
step_before_doctype Remark s = Some s
step_before_doctype Doctype s = Some (with_phase BeforeRoot s)

abbrev pub step_behind : Markup → State → Option State
step_behind (StartTag tag attributes is_empty) s = None
step_behind (EndTag tag) s = None
step_behind (Run bytes) s = if list_all is_white bytes then Some s else None
step_behind (Cdata bytes) s = None
step_behind Remark s = Some s
step_behind Doctype s = None

abbrev pub step_in : Phase → Markup → State → Option State
step_in BeforeDoctype markup s = step_before_doctype markup s
step_in BeforeRoot markup s = step_before_root markup s
step_in Inside markup s = step_inside markup s
step_in Behind markup s = step_behind markup s

-- what is known once one piece more is read, and none where it can't stand there
unfoldable pub step : Markup → State → Option State
step markup s = step_in s.phase markup s

-- what is known once all of these pieces are read
unfoldable pub steps : List Markup → State → Option State
steps [] s = Some s
steps (first ∷ others) s = option_and_then (steps others) (step first s)

-- the nodes and the open elements' numbers, as far as the limit on nodes lets them be kept
pub record NodesSoFar : Type 0 where
  pub items : List Item
  pub path : List ℕ

abbrev pub few_nodes : List Item → List ℕ → Option NodesSoFar
few_nodes items path =
    if nat_le (length items) most_nodes then Some (record { items = items; path = path }) else None

abbrev pub few_nodes_in : State → Option NodesSoFar
few_nodes_in s = few_nodes s.items (map (λ o. o.number) s.elements)

-- before the root nothing is open and there are no nodes; inside it something is open, and behind
-- it nothing
abbrev pub IsSoundIn : Phase → State → Type 0
IsSoundIn BeforeDoctype s = (s.elements ≡ []) × (s.items ≡ []) × (s.text ≡ [])
IsSoundIn BeforeRoot s = (s.elements ≡ []) × (s.items ≡ []) × (s.text ≡ [])
IsSoundIn Inside s = (s.elements ≢ []) × (s.items ≢ [])
IsSoundIn Behind s = (s.elements ≡ []) × (s.items ≢ [])

abbrev pub IsSound : State → Type 0
IsSound s = IsSoundIn s.phase s
