-- The resources that a document needs (BML, ARIB STD-B24, volume 2; which attributes count is this
-- project's own profile).
use Rattle.std.specs.Prelude.{ℕ, if◌then◌else◌, List, Option, None, option_and_then, codes}
use Rattle.std.specs.List.{filter_map}
use Rattle.std.specs.Option.{is_some}
use Rattle.bml_bytes.specs.Words.{is_same}
use Rattle.dom_tree.specs.Items.{Attribute, Content, Item, value_in}
use Rattle.dom_tree.specs.Items.Content.{Element, Text}
use Rattle.dom_tree.specs.Walks.{places}
use Rattle.multipart_entities.specs.Paths.{path_of_text}
use Rattle.multipart_entities.specs.declared.paths.Path.{Path}

-- the text by which an element names a resource that it needs: a `link` by `href`, a `script` by
-- `src`; tags and names compare by case
abbrev pub reference_by : List ℕ → List Attribute → Option (List ℕ)
reference_by tag attributes =
    if is_same tag (codes "link") then value_in attributes (codes "href")
    else if is_same tag (codes "script") then value_in attributes (codes "src")
    else None

abbrev pub reference_in : Content → Option (List ℕ)
reference_in (Element tag attributes) = reference_by tag attributes
reference_in (Text text) = None

-- the path that a node names, seen from the document's; one that isn't resolved is no need
abbrev pub need_in : Path → Item → Option Path
need_in base item = option_and_then (λ text. path_of_text text base) (reference_in item.content)

-- the needs of a document at a path, in document order
unfoldable pub needs_of : Path → List Item → List Path
needs_of base items = filter_map (need_in base) items

-- for each need, in the same order, the number of the node that names it
unfoldable pub named_by : Path → List Item → List ℕ
named_by base items = places (λ item. is_some (need_in base item)) items
