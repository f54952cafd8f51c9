-- The scripts of a document: their sources, which of these are programs, and which handlers there
-- are (BML, ARIB STD-B24, volume 2; HTML 4, 18.2.1 and 18.2.3; which elements and attributes count
-- is this project's own profile).
use Rattle.std.specs.Prelude.{◌≡◌, ◌<◌, ◌==◌, not, ℕ, suc, Bool, if◌then◌else◌, List, [], ◌∷◌, ◌++◌, All, length, map, filter, Option, Some, None, option_map, option_to_list, slice_get, codes}
use Rattle.std.specs.List.{AllZip, filter_map, flat_map, list_any, range_with_len}
use Rattle.std.specs.Option.{is_some, is_none, option_map_or}
use Rattle.bml_bytes.specs.Words.{is_same}
use Rattle.dom_tree.specs.Items.{Attribute, Content, Item, value_in}
use Rattle.dom_tree.specs.Items.Content.{Element, Text}
use Rattle.dom_tree.specs.Walks.{places}
use Rattle.multipart_entities.specs.declared.paths.Path.{Path}
use Rattle.es_reader.specs.Programs.{ToldProgram, Tells}
use Rattle.es_reader.specs.Readers.{Reader}
use Rattle.es_reader.specs.Statements.{Item as ProgramItem}
use Rattle.document_load.specs.Drafts.{DraftState, draft_of, with_gifts}
use Rattle.document_load.specs.HandlerKinds.{kind_named}
use Rattle.document_load.specs.StyleTexts.{given_for, own_text}
use Rattle.document_load.specs.declared.handler_kinds.HandlerKind.{HandlerKind}

-- ---- sources

-- a source: the node that has it; its kind, where it is a handler; its text
pub record Source : Type 0 where
  pub node : ℕ
  pub handler : Option HandlerKind
  pub text : List ℕ

-- The text of a `script` element: where it has `src`, what was given for the need that this names,
-- if anything; else the text in the element itself.
abbrev pub script_text : List Attribute → List ℕ → List ℕ → List ℕ
script_text attributes own gift = if is_some (value_in attributes (codes "src")) then gift else own

abbrev pub script_source : ℕ → List ℕ → List ℕ → List ℕ → List Attribute → List Source
script_source node tag own gift attributes =
    if is_same tag (codes "script")
    then record { node = node; handler = None; text = script_text attributes own gift } ∷ []
    else []

abbrev pub handler_source : ℕ → Attribute → Option Source
handler_source node attribute =
    option_map (λ kind. record { node = node; handler = Some kind; text = attribute.value })
    (kind_named attribute.name)

-- the sources of an element: its script, where it is one, and then its handlers in the order written
abbrev pub sources_by : ℕ → List ℕ → List ℕ → Content → List Source
sources_by node own gift (Element tag attributes) =
    script_source node tag own gift attributes ++ filter_map (handler_source node) attributes
sources_by node own gift (Text text) = []

abbrev pub sources_at : List Item → ℕ → List ℕ → List Source
sources_at items node gift =
    option_map_or (λ item. sources_by node (own_text items node) gift item.content)
    (slice_get items node) []

-- those of all elements, in document order, wherever they stand
unfoldable pub script_sources : List Item → List ℕ → List (Option (List ℕ)) → List Source
script_sources items named given =
    flat_map (λ node. sources_at items node (given_for named given node))
    (range_with_len 0 (length items))

abbrev pub sources_of : DraftState → List Source
sources_of draft = script_sources draft.items draft.named draft.given

-- ---- programs, by a reader of programs

-- the programs of the good sources, in their order
abbrev pub programs_by : Reader → List Source → List (List ProgramItem)
programs_by read sources = filter_map (λ source. read source.text) sources

-- the numbers of the bad ones, where the first source has the number 1
abbrev pub bad_numbers : Reader → List Source → List ℕ
bad_numbers read sources = map suc (places (λ source. is_none (read source.text)) sources)

-- a handler: its element, its kind, and the place of its program among the programs
pub record HandlerState : Type 0 where
  pub node : ℕ
  pub kind : HandlerKind
  pub program : ℕ

abbrev pub handler_with : ℕ → Source → Option HandlerState
handler_with program source =
    option_map (λ kind. record { node = source.node; kind = kind; program = program }) source.handler

-- those among good sources, whose programs have the places from this one on
abbrev pub handlers_from : ℕ → List Source → List HandlerState
handlers_from program [] = []
handlers_from program (source ∷ good) =
    option_to_list (handler_with program source) ++ handlers_from (suc program) good

abbrev pub handlers_by : Reader → List Source → List HandlerState
handlers_by read sources = handlers_from 0 (filter (λ source. is_some (read source.text)) sources)

-- the places of the programs of script elements, among good sources, whose programs have the places
-- from this one on
abbrev pub script_places_from : ℕ → List Source → List ℕ
script_places_from program [] = []
script_places_from program (source ∷ good) =
    (if is_none source.handler then program ∷ [] else []) ++ script_places_from (suc program) good

abbrev pub script_places_by : Reader → List Source → List ℕ
script_places_by read sources = script_places_from 0 (filter (λ source. is_some (read source.text)) sources)

-- what is told of the scripts of a document with these sources
pub record AreScripts (read : Reader) (sources : List Source) (programs : List ToldProgram)
    (handlers : List HandlerState) (bad : List ℕ) : Type 0 where
  pub programs_are : AllZip Tells (programs_by read sources) programs
  pub handlers_are : handlers ≡ handlers_by read sources
  pub bad_are : bad ≡ bad_numbers read sources

-- the numbers of the bad sources of the document with these nodes at a path, for whose needs this
-- was given, in their order
abbrev pub bad_scripts : Reader → Path → List Item → List (Option (List ℕ)) → List ℕ
bad_scripts read path items gifts =
    bad_numbers read (sources_of (with_gifts gifts (draft_of path items)))

-- ---- places

-- a handler names the program at this place
abbrev pub is_named : List HandlerState → ℕ → Bool
is_named handlers place = list_any (λ handler. handler.program == place) handlers

-- the places, of so many programs, that no handler names, ascending
abbrev pub unnamed_places : ℕ → List HandlerState → List ℕ
unnamed_places count handlers =
    filter (λ place. not (is_named handlers place)) (range_with_len 0 count)

-- Of so many programs each handler names one, and those that none names are those of the script
-- elements.
pub record HavePlaces (scripts : List ℕ) (count : ℕ) (handlers : List HandlerState) : Type 0 where
  pub within : All (λ handler. handler.program < count) handlers
  pub others : scripts ≡ unnamed_places count handlers
