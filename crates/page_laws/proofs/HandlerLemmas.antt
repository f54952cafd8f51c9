-- The handlers of a document that is read are those of elements, and run its programs.
use Rattle.std.proofs.Common.{◌≡◌, ℕ, suc, ◌+◌, ◌≤◌, Bool, true, false, List, [], ◌∷◌, length, Option, Some, None, refl, ◌∙◌, ap, arith}
use Rattle.std.specs.Prelude.{All, codes, filter, if◌then◌else◌, option_and_then, option_map, option_to_list, slice_get}
use Rattle.std.specs.List.{cons_option, filter_map, flat_map, range_with_len}
use Rattle.std.specs.Option.{is_some, option_map_or}
use Rattle.std.proofs.lemmas.List.Elements.{All-append, All-cons, All-filter, All-head, All-nil, All-tail}
use Rattle.bml_bytes.specs.Words.{is_same}
use Rattle.dom_tree.specs.Items.{Attribute, Content, Item, tag_in}
use Rattle.dom_tree.specs.Items.Content.{Element, Text}
use Rattle.es_reader.specs.Readers.{Reader}
use Rattle.es_reader.specs.Statements.{Item as ProgramItem}
use Rattle.document_load.specs.Drafts.{DraftState}
use Rattle.document_load.specs.StyleTexts.{given_for, own_text}
use Rattle.document_load.specs.HandlerKinds.{kind_named}
use Rattle.document_load.specs.declared.handler_kinds.HandlerKind.{HandlerKind}
use Rattle.document_load.specs.Scripts.{Source, handler_source, handler_with, handlers_by, handlers_from, programs_by, script_source, script_sources, script_text, sources_at, sources_by, sources_of}
use Rattle.page_laws.specs.Soundness.{IsGoodHandler, has_element}

-- ---- sources

-- each of the sources is one of an element
abbrev pub AreOfElements : List Item → List Source → Type 0
AreOfElements items sources = All (λ source. has_element items source.node ≡ true) sources

module _ (items : List Item) where
  abbrev IsOfElement : Source → Type 0
  IsOfElement source = has_element items source.node ≡ true

  script-of-element : (node : ℕ) (tag own gift : List ℕ) (attributes : List Attribute)
      → has_element items node ≡ true
      → AreOfElements items (script_source node tag own gift attributes)
  script-of-element node tag own gift attributes h = by (is_same tag (codes "script"))
    where
      source : Source
      source = record { node = node; handler = None; text = script_text attributes own gift }

      by : (t : Bool) → AreOfElements items (if t then record {
        node = node;
        handler = None;
        text = script_text attributes own gift;
      } ∷ [] else [])
      by true = All-cons IsOfElement _ [] h (All-nil IsOfElement)
      by false = All-nil IsOfElement

  handlers-of-element : (node : ℕ) (attributes : List Attribute) → has_element items node ≡ true
      → AreOfElements items (filter_map (handler_source node) attributes)
  handlers-of-element node [] h = All-nil IsOfElement
  handlers-of-element node (attribute ∷ attributes) h =
      by (kind_named attribute.name) (handlers-of-element node attributes h)
    where
      by : (kind : Option HandlerKind)
          → AreOfElements items (filter_map (handler_source node) attributes)
          → AreOfElements items (cons_option
          (option_map (λ kind. record {
            node = node;
            handler = Some kind;
            text = attribute.value;
          }) kind)
          (filter_map (handler_source node) attributes))
      by (Some kind) more =
          All-cons IsOfElement _ (filter_map (handler_source node) attributes) h more
      by None more = more

  sources-of-element : (node : ℕ) (own gift : List ℕ) (content : Content)
      → (is_some (tag_in content) ≡ true → has_element items node ≡ true)
      → AreOfElements items (sources_by node own gift content)
  sources-of-element node own gift (Text text) h = All-nil IsOfElement
  sources-of-element node own gift (Element tag attributes) h =
      All-append IsOfElement (script_source node tag own gift attributes)
      (filter_map (handler_source node) attributes)
      (script-of-element node tag own gift attributes (h refl))
      (handlers-of-element node attributes (h refl))

  sources_at-of-element : (node : ℕ) (gift : List ℕ)
      → AreOfElements items (sources_at items node gift)
  sources_at-of-element node gift = by (slice_get items node) refl
    where
      by : (item : Option Item) → slice_get items node ≡ item
          → AreOfElements items (option_map_or
          (λ item. sources_by node (own_text items node) gift item.content) item [])
      by None e = All-nil IsOfElement
      by (Some item) e =
          sources-of-element node (own_text items node) gift item.content
          (λ h. ap (λ o. is_some (option_and_then (λ (i : Item). tag_in i.content) o)) e ∙ h)

flat-all : {A B : Type 0} (P : B → Type 0) (f : A → List B) → ((a : A) → All P (f a))
    → (xs : List A) → All P (flat_map f xs)
flat-all P f all [] = All-nil P
flat-all P f all (x ∷ xs) = All-append P (f x) (flat_map f xs) (all x) (flat-all P f all xs)

all-of-elements : (items : List Item) (named : List ℕ) (given : List (Option (List ℕ)))
    → AreOfElements items (script_sources items named given)
unfolding script_sources
all-of-elements items named given =
    flat-all (λ source. has_element items source.node ≡ true)
    (λ node. sources_at items node (given_for named given node))
    (λ node. sources_at-of-element items node (given_for named given node))
    (range_with_len 0 (length items))

-- ---- handlers

handlers-good : (items : List Item) (count place : ℕ) (sources : List Source)
    → AreOfElements items sources → place + length sources ≤ count
    → All (IsGoodHandler items count) (handlers_from place sources)
handlers-good items count place [] all few = All-nil (IsGoodHandler items count)
handlers-good items count place (source ∷ sources) all few =
    All-append (IsGoodHandler items count) (option_to_list (handler_with place source))
    (handlers_from (suc place) sources) (by source.handler)
    (handlers-good items count (suc place) sources
    (All-tail (λ s. has_element items s.node ≡ true) source sources all) (omega arith))
  where
    by : (kind : Option HandlerKind) → All (IsGoodHandler items count) (option_to_list (option_map
        (λ kind. record { node = source.node; kind = kind; program = place }) kind))
    by None = All-nil (IsGoodHandler items count)
    by (Some kind) =
        All-cons (IsGoodHandler items count) _ [] (record {
          node = All-head (λ s. has_element items s.node ≡ true) source sources all;
          program = omega arith;
        })
        (All-nil (IsGoodHandler items count))

-- as many sources are programs as there are programs
program-count : (read : Reader) (sources : List Source)
    → length (filter (λ source. is_some (read source.text)) sources)
    ≡ length (programs_by read sources)
program-count read [] = refl
program-count read (source ∷ sources) = by (read source.text) (program-count read sources)
  where
    by : (program : Option (List ProgramItem))
        → length (filter (λ source. is_some (read source.text)) sources)
        ≡ length (programs_by read sources)
        → length (if is_some program
        then source ∷ filter (λ source. is_some (read source.text)) sources
        else filter (λ source. is_some (read source.text)) sources)
        ≡ length (cons_option program (programs_by read sources))
    by None e = e
    by (Some program) e = ap suc e

pub read-handlers : (read : Reader) (draft : DraftState)
    → All (IsGoodHandler draft.items (length (programs_by read (sources_of draft))))
    (handlers_by read (sources_of draft))
read-handlers read draft =
    let sources = sources_of draft in
    handlers-good draft.items (length (programs_by read sources)) 0
    (filter (λ source. is_some (read source.text)) sources)
    (All-filter (λ source. is_some (read source.text))
    (λ source. has_element draft.items source.node ≡ true) sources
    (all-of-elements draft.items draft.named draft.given))
    (omega (arith, program-count read sources))
