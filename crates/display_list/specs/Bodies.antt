-- The body of a document, which is drawn and whose keys pass (after BML, ARIB STD-B24 volume 2, in this project's
-- own profile).
use Rattle.std.specs.Prelude.{ℕ, Bool, false, List, Option, codes}
use Rattle.std.specs.Option.{option_map_or}
use Rattle.bml_bytes.specs.Words.{is_same}
use Rattle.dom_tree.specs.Items.{Item, tag_in}
use Rattle.dom_tree.specs.Walks.{first, places}

-- tags compare by case
abbrev pub is_body_tag : List ℕ → Bool
is_body_tag tag = is_same tag (codes "body")

-- the node is an element `body`
abbrev pub is_body : Item → Bool
is_body item = option_map_or is_body_tag (tag_in item.content) false

-- the body is the first of them in document order
unfoldable pub body_of : List Item → Option ℕ
body_of items = first (places is_body items)
