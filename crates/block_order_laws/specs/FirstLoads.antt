-- Sections of a component that come to a receiver before a document is there, up to the first whose turn makes a
-- dispatch. (This project's own, after ARIB STD-B24, volumes 2 and 3.)
use Rattle.std.specs.Prelude.{◌≡◌, ◌⊎◌, ℕ, false, List, [], ◌∷◌, ◌++◌, All, Some, None}
use Rattle.std.specs.List.{flat_map}
use Rattle.psi_tables.specs.Components.{tag_in}
use Rattle.psi_tables.specs.Service.{reads_table}
use Rattle.carousel_blocks.specs.declared.changes.ChangeLine.TheVariants.{Delivered}
use Rattle.carousel_blocks.specs.Message.{Message}
use Rattle.multipart_entities.specs.declared.paths.Path.{Path}
use Rattle.module_store.specs.Lines.{line_with}
use Rattle.module_store.specs.Resources.{presence}
use Rattle.module_store.specs.Store.{held_in, messages_of_component}
use Rattle.module_locks.specs.Locks.{Modules, look_up, start_path}
use Rattle.carousel_laws.specs.Services.{KeepTheSame}
use Rattle.page.specs.Dispatches.{dispatch}
use Rattle.page.specs.State as page
use Rattle.receiver_core.specs.Outputs.{pieces_of_turns, state_behind_turns, texts_of}
use Rattle.receiver_core.specs.State.{State, services}
use Rattle.receiver_core.specs.Turns.{step_of_section, turn}
use Rattle.block_order_laws.specs.Loads.{IsNextLoad, Load}

-- No document is there, and a turn makes no dispatch. The PID is that of a component, to which these messages came.
pub record AwaitsDocument (s : State) (pid tag : ℕ) (messages : List Message) : Type 0 where
  pub none : s.page.document ≡ None
  pub idle : dispatch s.page ≡ None
  pub untabled : reads_table s.selection (services s).service pid ≡ false
  pub component : tag_in (services s).map pid ≡ Some tag
  pub messages_are : messages_of_component s.page.modules.stored tag ≡ Some messages

-- ---- sections before a dispatch

-- the page that a section leaves, before the dispatches of its turn
abbrev pub page_amid_turn : ℕ → List ℕ → State → page.State
page_amid_turn pid section s = (step_of_section pid section s).state.page

-- no turn of these sections makes a dispatch
abbrev pub MakeNoDispatch : ℕ → List (List ℕ) → State → Type 0
MakeNoDispatch pid [] s = Unit {0}
MakeNoDispatch pid (section ∷ sections) s =
    (dispatch (page_amid_turn pid section s) ≡ None)
    × MakeNoDispatch pid sections (turn pid section s).state

-- a module that is delivered, with its number, its version and its size
pub record Delivery : Type 0 where
  pub «module» : ℕ
  pub version : ℕ
  pub size : ℕ

abbrev pub module_line : ℕ → Delivery → List ℕ
module_line tag d = line_with tag d.«module» (Delivered d.version d.size)

-- the text has lines `module` of the component, and nothing else
abbrev pub HasModuleLines : ℕ → List ℕ → Type 0
HasModuleLines tag text =
    (deliveries : List Delivery) × (text ≡ flat_map (module_line tag) deliveries)

-- No turn of these sections makes a dispatch, and each prints lines `module` alone.
pub record AreQuiet (pid tag : ℕ) (sections : List (List ℕ)) (s : State) : Type 0 where
  pub none : MakeNoDispatch pid sections s
  pub lines : All (HasModuleLines tag) (texts_of (pieces_of_turns pid sections s))

-- ---- the first dispatch

-- One of the sections is the first whose turn makes a dispatch, and the first that it makes is this load. Until then
-- lines `module` are printed, and nothing else.
pub record ComesToLoad (pid tag : ℕ) (sections : List (List ℕ)) (s : State) (l : Load)
    : Type 0 where
  pub before : List (List ℕ)
  pub section : List ℕ
  pub behind : List (List ℕ)
  pub place : sections ≡ before ++ section ∷ behind
  pub quiet : AreQuiet pid tag before s
  pub lines : HasModuleLines tag
      (step_of_section pid section (state_behind_turns pid before s)).text
  pub loads : IsNextLoad (page_amid_turn pid section (state_behind_turns pid before s)) l

-- ---- the two lists

-- The same locks stand and keep the same, but for the numbers of the deliveries that brought it. The same is held,
-- announced or absent, under each path the same is found, and the start document has the same path.
pub record OfferTheSame (one other : Modules) : Type 0 where
  pub locks : KeepTheSame one.locks other.locks
  pub held : (component number : ℕ)
      → held_in one.stored component number ≡ held_in other.stored component number
  pub presence : (component number : ℕ)
      → presence one.stored component number ≡ presence other.stored component number
  pub looks : (path : Path) → look_up one path ≡ look_up other path
  pub start : start_path one ≡ start_path other

-- The states agree in all but the packets and the sections that came and the numbers of deliveries: in the service and the
-- component map, in all parts of the page but its modules, and in all that these offer.
pub record Agree (one other : State) : Type 0 where
  pub services : services one ≡ services other
  pub page : page.with_modules other.page.modules one.page ≡ other.page
  pub modules : OfferTheSame one.page.modules other.page.modules

-- no section of either list has a turn that makes a dispatch, and in the end the states agree
pub record StayTheSame (pid tag : ℕ) (first second : List (List ℕ)) (s : State) : Type 0 where
  pub first_quiet : AreQuiet pid tag first s
  pub second_quiet : AreQuiet pid tag second s
  pub agree : Agree (state_behind_turns pid first s) (state_behind_turns pid second s)

-- the first dispatch of both is the same load
pub record ComeToSameLoad (pid tag : ℕ) (first second : List (List ℕ)) (s : State) : Type 0 where
  pub load : Load
  pub first_comes : ComesToLoad pid tag first s load
  pub second_comes : ComesToLoad pid tag second s load

-- Both lists have a section whose turn makes a dispatch, or neither has.
abbrev pub ComeToTheSame : ℕ → ℕ → List (List ℕ) → List (List ℕ) → State → Type 0
ComeToTheSame pid tag first second s =
    ComeToSameLoad pid tag first second s ⊎ StayTheSame pid tag first second s
