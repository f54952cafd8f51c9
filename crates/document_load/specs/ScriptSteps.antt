-- A device of the proofs: what is read of the sources so far, and the sources of a part of a node.
use Rattle.std.specs.Prelude.{◌≡◌, ℕ, List, [], ◌∷◌, ◌++◌, length, map, Option, Some, None, option_and_then, option_to_list, slice_get}
use Rattle.std.specs.List.{filter_map}
use Rattle.std.specs.Option.{option_map_or}
use Rattle.dom_tree.specs.Items.{Item, attributes_of, tag_of}
use Rattle.es_reader.specs.Programs.{ToldProgram, Tells}
use Rattle.es_reader.specs.Readers.{Reader, IsReader}
use Rattle.es_reader.specs.Statements.{Item as ProgramItem}
use Rattle.document_load.specs.StyleTexts.{own_text}
use Rattle.document_load.specs.Scripts.{AreScripts, HavePlaces, Source, handler_source, script_places_by, script_source}
use Rattle.document_load.specs.ScriptViews.{told_handler}
use Rattle.document_load.specs.declared.handler_kinds.HandlerKind.{HandlerKind}
use Rattle.document_load.specs.declared.scripts.ScriptReader.{ScriptReader}

-- each right reader says this of the text
abbrev pub IsSaidOf : Option ToldProgram → List ℕ → Type 0
IsSaidOf (Some program) text =
    (read : Reader) → IsReader read
    → (items : List ProgramItem) × (read text ≡ Some items) × Tells items program
IsSaidOf None text = (read : Reader) → IsReader read → read text ≡ None

-- these are the sources that were read
pub record HasRead (sources : List Source) (reader : ScriptReader) : Type 0 where
  pub count : reader.count ≡ length sources
  pub scripts : (read : Reader) → IsReader read
      → AreScripts read sources reader.scripts.programs.items
      (map told_handler reader.scripts.handlers.items) reader.scripts.bad.items
  pub elements : (read : Reader) → IsReader read
      → reader.scripts.elements.items ≡ script_places_by read sources
  pub places : HavePlaces reader.scripts.elements.items (length reader.scripts.programs.items)
      (map told_handler reader.scripts.handlers.items)

-- these are read behind all that were read before
abbrev pub Adds : List Source → ScriptReader → ScriptReader → Type 0
Adds more old new = (sources : List Source) → HasRead sources old → HasRead (sources ++ more) new

-- the script that a node is, where it is one
abbrev pub script_at : List Item → ℕ → List ℕ → List Source
script_at items node gift =
    option_map_or
    (λ tag. script_source node tag (own_text items node) gift (attributes_of items node))
    (tag_of items node) []

-- the handler that the attribute of a node at this place is, where it is one
abbrev pub handler_at : List Item → ℕ → ℕ → List Source
handler_at items node place =
    option_to_list (option_and_then (handler_source node)
    (slice_get (attributes_of items node) place))

-- the handlers of a node
abbrev pub handlers_at : List Item → ℕ → List Source
handlers_at items node = filter_map (handler_source node) (attributes_of items node)

-- the place of a program, where it isn't that of a handler
abbrev pub element_place : ℕ → Option HandlerKind → List ℕ
element_place place None = place ∷ []
element_place place (Some kind) = []
