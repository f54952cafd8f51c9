-- A device of the proofs: what the reader keeps of what is known, and how it changes with a piece.
use Rattle.std.specs.Prelude.{◌≡◌, ◌≢◌, ℕ, nat_le, Bool, true, false, ◌||◌, not, if◌then◌else◌, List, [], ◌∷◌, ◌++◌, length, map, reverse, Option, Some, None, IfSome, option_map, option_and_then, codes as ascii}
use Rattle.bml_bytes.specs.Codes.{codes}
use Rattle.bml_bytes.specs.Words.{is_same}
use Rattle.dom_tree.specs.Items.{Attribute, Item}
use Rattle.bml_reader.specs.References.{read_references}
use Rattle.bml_reader.specs.Markup.{Markup, NamesDiffer}
use Rattle.bml_reader.specs.Markup.Markup.{StartTag, EndTag, Run, Cdata, Remark, Doctype}
use Rattle.bml_reader.specs.Grammar.{is_left_out}
use Rattle.bml_reader.specs.devices.MarkupKinds.{is_misc}
use Rattle.bml_reader.specs.Faults.{HasFault, ReadsWell, most_levels}
use Rattle.bml_reader.specs.devices.Machine.{State, NodesSoFar, few_nodes_in}
use Rattle.bml_reader.specs.Readings.{has_other_root}
use Rattle.bml_reader.specs.devices.Nodes.{nodes_with_element, nodes_with_text, nodes_outside}
use Rattle.bml_reader.specs.declared.faults.DocFault.{DocFault}
use Rattle.bml_reader.specs.declared.faults.DocFault.TheVariants.{Malformed, WrongRoot, TooDeep, TooManyNodes, NoMemory}
use Rattle.bml_reader.specs.declared.phases.Phase.{Phase}
use Rattle.bml_reader.specs.declared.phases.Phase.TheVariants.{BeforeDoctype, BeforeRoot, Inside, Behind}
use Rattle.bml_reader.specs.declared.readers.Reader.{Reader}

-- what the reader keeps: the phase, the tags of the open elements from the innermost on, the text
-- since the last tag, the nodes as far as they may be kept, whether the root is another element
-- than `bml`, and whether an element stood past the last level
pub record Seen : Type 0 where
  pub phase : Phase
  pub tags : List (List ℕ)
  pub text : List ℕ
  pub kept : Option NodesSoFar
  pub has_other_root : Bool
  pub is_deep : Bool

abbrev pub seen_of : State → Seen
seen_of s =
    record {
      phase = s.phase;
      tags = map (λ o. o.tag) s.elements;
      text = s.text;
      kept = few_nodes_in s;
      has_other_root = has_other_root s.items;
      is_deep = s.is_deep;
    }

abbrev pub seen_by : Reader → Seen
seen_by r =
    record {
      phase = r.phase;
      tags = reverse r.tags.items;
      text = r.text.items;
      kept = r.builder;
      has_other_root = r.has_other_root;
      is_deep = r.is_deep;
    }

abbrev pub nodes_with_text_of : List (List ℕ) → List ℕ → Option NodesSoFar → Option NodesSoFar
nodes_with_text_of [] text kept = kept
nodes_with_text_of (tag ∷ _) text kept =
    if is_left_out tag text then kept else option_and_then (nodes_with_text (codes text)) kept

-- once the text in front of a tag is a node, or left out
abbrev pub seen_flushed : Seen → Seen
seen_flushed r = record r { text = []; kept = nodes_with_text_of r.tags r.text r.kept }

abbrev pub phase_of_tags : List (List ℕ) → Phase
phase_of_tags [] = Behind
phase_of_tags (_ ∷ _) = Inside

abbrev pub tags_with : Bool → List ℕ → List (List ℕ) → List (List ℕ)
tags_with true tag tags = tags
tags_with false tag tags = tag ∷ tags

-- behind a start tag
abbrev pub seen_started : List ℕ → List Attribute → Bool → Seen → Seen
seen_started tag attributes is_empty r = record r {
  phase = phase_of_tags (tags_with is_empty tag r.tags);
  tags = tags_with is_empty tag r.tags;
  kept = option_and_then (nodes_with_element tag attributes is_empty) r.kept;
  is_deep = r.is_deep || nat_le most_levels (length r.tags);
}

abbrev pub with_root : List ℕ → Seen → Seen
with_root tag r = record r { has_other_root = not (is_same tag (ascii "bml")) }

-- once the innermost element has ended
abbrev pub seen_closed : List ℕ → List (List ℕ) → Seen → Seen
seen_closed innermost outer r = record r {
  phase = phase_of_tags outer;
  tags = outer;
  text = [];
  kept = option_map nodes_outside (nodes_with_text_of (innermost ∷ outer) r.text r.kept);
}

-- behind an end tag
abbrev pub seen_ended : List ℕ → List (List ℕ) → Seen → Option Seen
seen_ended tag [] r = None
seen_ended tag (innermost ∷ outer) r =
    if is_same tag innermost then Some (seen_closed innermost outer r) else None

abbrev pub seen_with_text : List ℕ → Seen → Seen
seen_with_text bytes r = record r { text = r.text ++ bytes }

abbrev pub seen_in_phase : Phase → Seen → Seen
seen_in_phase phase r = record r { phase = phase }

abbrev pub seen_misc : Markup → Seen → Option Seen
seen_misc markup r = if is_misc markup then Some r else None

abbrev pub seen_inside : Markup → Seen → Option Seen
seen_inside (StartTag tag attributes is_empty) r =
    Some (seen_started tag attributes is_empty (seen_flushed r))
seen_inside (EndTag tag) r = seen_ended tag r.tags r
seen_inside (Run bytes) r = Some (seen_with_text (read_references bytes) r)
seen_inside (Cdata bytes) r = Some (seen_with_text bytes r)
seen_inside Remark r = Some r
seen_inside Doctype r = None

abbrev pub seen_before_root : Markup → Seen → Option Seen
seen_before_root (StartTag tag attributes is_empty) r =
    Some (seen_started tag attributes is_empty (with_root tag r))
seen_before_root (EndTag tag) r = None
seen_before_root (Run bytes) r = seen_misc (Run bytes) r
seen_before_root (Cdata bytes) r = None
seen_before_root Remark r = Some r
seen_before_root Doctype r = None

abbrev pub seen_before_doctype : Markup → Seen → Option Seen
seen_before_doctype (StartTag tag attributes is_empty) r =
    Some (seen_started tag attributes is_empty (with_root tag r))
seen_before_doctype (EndTag tag) r = None
seen_before_doctype (Run bytes) r = seen_misc (Run bytes) r
seen_before_doctype (Cdata bytes) r = None
seen_before_doctype Remark r = Some r
seen_before_doctype Doctype r = Some (seen_in_phase BeforeRoot r)

abbrev pub seen_in : Phase → Markup → Seen → Option Seen
seen_in BeforeDoctype markup r = seen_before_doctype markup r
seen_in BeforeRoot markup r = seen_before_root markup r
seen_in Inside markup r = seen_inside markup r
seen_in Behind markup r = seen_misc markup r

-- what is kept once one piece more is read
unfoldable pub seen_step : Markup → Seen → Option Seen
seen_step markup r = seen_in r.phase markup r

-- the piece was taken and this is kept now, or it can't stand there
abbrev pub IsTaken : Option Seen → Bool → Seen → Type 0
IsTaken (Some s) true now = now ≡ s
IsTaken (Some s) false now = ⊥
IsTaken None true now = ⊥
IsTaken None false now = Unit {0}

-- what is kept is that of some pieces: before the root there are no nodes, and inside it some
-- element is open
abbrev pub IsReadyIn : Phase → Seen → Type 0
IsReadyIn BeforeDoctype r = (r.tags ≡ []) × IfSome r.kept (λ k. k.items ≡ [])
IsReadyIn BeforeRoot r = (r.tags ≡ []) × IfSome r.kept (λ k. k.items ≡ [])
IsReadyIn Inside r = (r.tags ≢ []) × IfSome r.kept (λ k. k.path ≢ [])
IsReadyIn Behind r = Unit {0}

abbrev pub IsReady : Seen → Type 0
IsReady r = IsReadyIn r.phase r

-- the attributes of a start tag have different names
abbrev pub HasDifferentNames : Markup → Type 0
HasDifferentNames (StartTag tag attributes is_empty) = NamesDiffer [] attributes
HasDifferentNames (EndTag tag) = Unit {0}
HasDifferentNames (Run bytes) = Unit {0}
HasDifferentNames (Cdata bytes) = Unit {0}
HasDifferentNames Remark = Unit {0}
HasDifferentNames Doctype = Unit {0}

-- what is kept at the end tells the fault as the first one
abbrev pub Refuses : DocFault → Bool → Bool → Option NodesSoFar → Type 0
Refuses Malformed other deep kept = ⊥
Refuses WrongRoot other deep kept = other ≡ true
Refuses TooDeep other deep kept = (other ≡ false) × (deep ≡ true)
Refuses TooManyNodes other deep kept = (other ≡ false) × (deep ≡ false) × (kept ≡ None)
Refuses NoMemory other deep kept = ⊥

-- what is kept at the end tells what the bytes are: these are the nodes of the document, where no
-- fault is kept, and else the fault is the first one
pub record TellsReading (bytes : List ℕ) (r : Seen) : Type 0 where
  pub some : IfSome r.kept (λ k. k.items ≢ [])
  pub well : (items : List Item) → r.has_other_root ≡ false → r.is_deep ≡ false
      → option_map (λ k. k.items) r.kept ≡ Some items → ReadsWell bytes items
  pub fault : (fault : DocFault) → Refuses fault r.has_other_root r.is_deep r.kept
      → HasFault bytes fault

-- the bytes are a document, and what is kept tells which, or they are none
abbrev pub IsRead : List ℕ → Bool → Seen → Type 0
IsRead bytes true r = TellsReading bytes r
IsRead bytes false r = HasFault bytes Malformed
