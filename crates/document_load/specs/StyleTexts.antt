-- The style texts of a document, and the rules that it has by them (BML, ARIB STD-B24, volume 2;
-- HTML 4, 14.2.3 and 14.3; which elements count is this project's own profile).
use Rattle.std.specs.Prelude.{ℕ, ◌==◌, if◌then◌else◌, List, [], ◌∷◌, length, Option, Some, None, option_and_then, codes}
use Rattle.std.specs.List.{filter_map, flat_map, range_with_len}
use Rattle.std.specs.Option.{unwrap_or}
use Rattle.bml_bytes.specs.Words.{is_same}
use Rattle.dom_tree.specs.Items.{Item, tag_of, text_of}
use Rattle.dom_tree.specs.Walks.{children_of}
use Rattle.multipart_entities.specs.declared.paths.Path.{Path}
use Rattle.style_reader.specs.Readings.{rules_of}
use Rattle.style_reader.specs.declared.rules.Rule.{Rule}
use Rattle.document_load.specs.Drafts.{DraftState, draft_of, with_gifts}

-- the text that was given for the need that a node names, of needs that these nodes name; it is
-- empty where the node names none, and where nothing was given for it
abbrev pub given_for : List ℕ → List (Option (List ℕ)) → ℕ → List ℕ
given_for (first ∷ named) (gift ∷ given) node =
    if first == node then unwrap_or gift [] else given_for named given node
given_for named given node = []

-- the text in an element itself: those of its children that are texts, joined
abbrev pub child_text : List Item → ℕ → List ℕ
child_text items child = unwrap_or (text_of items child) []

unfoldable pub own_text : List Item → ℕ → List ℕ
own_text items node = flat_map (child_text items) (children_of items node)

-- The style text of an element: of a `style` the text in it, of a `link` what was given for the
-- need that it names. Tags compare by case.
abbrev pub text_by : List ℕ → List ℕ → List ℕ → Option (List ℕ)
text_by own gift tag =
    if is_same tag (codes "style") then Some own
    else if is_same tag (codes "link") then Some gift
    else None

abbrev pub text_at : List Item → ℕ → List ℕ → Option (List ℕ)
text_at items node gift = option_and_then (text_by (own_text items node) gift) (tag_of items node)

abbrev pub style_text : List Item → List ℕ → List (Option (List ℕ)) → ℕ → Option (List ℕ)
style_text items named given node = text_at items node (given_for named given node)

-- those of all elements, in document order, wherever they stand
abbrev pub style_texts : List Item → List ℕ → List (Option (List ℕ)) → List (List ℕ)
style_texts items named given =
    filter_map (style_text items named given) (range_with_len 0 (length items))

-- Each is read as a sheet of its own, and its rules stand behind those before it.
unfoldable pub rules_by_texts : List Item → List ℕ → List (Option (List ℕ)) → List Rule
rules_by_texts items named given = flat_map rules_of (style_texts items named given)

abbrev pub document_rules : DraftState → List Rule
document_rules draft = rules_by_texts draft.items draft.named draft.given

-- ---- documents

-- a document: its nodes, and the rules of its style texts
pub record DocumentState : Type 0 where
  pub items : List Item
  pub rules : List Rule

-- what a draft becomes by what was given for its needs so far
abbrev pub document_of : DraftState → DocumentState
document_of draft = record { items = draft.items; rules = document_rules draft }

-- the document with these nodes at a path, for whose needs this was given, in their order
abbrev pub loaded_document : Path → List Item → List (Option (List ℕ)) → DocumentState
loaded_document path items gifts = document_of (with_gifts gifts (draft_of path items))
