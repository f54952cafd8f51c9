-- What comes to a page, moment by moment, as long as one document is there. (This project's own.)
use Rattle.std.specs.Prelude.{◌≡◌, ℕ, ℤ, Bool, true, List, [], ◌∷◌, ◌++◌, is_some, Some, unwrap_or}
use Rattle.std.specs.Option.{option_map_or}
use Rattle.carousel_blocks.specs.declared.changes.Change.{Change}
use Rattle.event_messages.specs.declared.messages.Message.{Message}
use Rattle.event_queue.specs.Queues.{first_of}
use Rattle.module_locks.specs.Locks.{Modules}
use Rattle.es_values.specs.declared.values.HostRef.TheVariants.{Node}
use Rattle.es_values.specs.declared.values.Value.TheVariants.{Str}
use Rattle.document_stages.specs.Acting.{Acting, member_value}
use Rattle.acting_documents.specs.Documents.{Document}
use Rattle.acting_documents.specs.Handling.{without_first}
use Rattle.page.specs.Dispatches.{dispatch}
use Rattle.page.specs.Inputs.{change_step, due_step, key_step, message_step, with_clock, with_date, with_random}
use Rattle.page.specs.State.{State, scene_in, with_modules}
use Rattle.page_laws.specs.Nodes.{Nodes, Write, event_writes, last_to, nodes_of, with_writes}

-- A dispatch is made; a change in a module, an event message or a key comes; timers are due; the clock goes to a moment; a
-- random word or a date comes; or the modules of the service are others.
pub data Moment : Type 0 where
  Dispatches : Moment
  HasChange : ℕ → Change → Moment
  HasMessage : ℕ → Message → Moment
  HasKey : ℕ → Bool → Moment
  IsDue : ℕ → Moment
  HasClock : ℕ → Moment
  HasRandom : ℕ → Moment
  HasDate : ℤ → ℕ → Moment
  HasModules : Modules → Moment

-- what it leaves
abbrev pub after : Moment → State → State
after Dispatches s = option_map_or (λ step. step.state) (dispatch s) s
after (HasChange component change) s = (change_step component change s).state
after (HasMessage component message) s = (message_step component message s).state
after (HasKey key down) s = (key_step key down s).state
after (IsDue moment) s = (due_step moment s).state
after (HasClock moment) s = with_clock moment s
after (HasRandom word) s = with_random word s
after (HasDate day second) s = with_date day second s
after (HasModules modules) s = with_modules modules s

-- The writes that scripts make in it: only dispatches run scripts.
abbrev pub writes_by_first : State → Document → List Write
writes_by_first s d =
    option_map_or (λ event. event_writes event (without_first (scene_in s d))) (first_of d.queue) []

abbrev pub writes_in : Moment → State → List Write
writes_in Dispatches s = option_map_or (writes_by_first s) s.document []
writes_in other s = []

-- ---- one moment after the other

abbrev pub after_all : List Moment → State → State
after_all [] s = s
after_all (moment ∷ moments) s = after_all moments (after moment s)

abbrev pub writes_since : List Moment → State → List Write
writes_since [] s = []
writes_since (moment ∷ moments) s =
    writes_in moment s ++ writes_since moments (after moment s)

-- The document is there after each of them: none of them ends it.
abbrev pub Lasts : List Moment → State → Type 0
Lasts [] s = Unit {0}
Lasts (moment ∷ moments) s =
    (is_some (after moment s).document ≡ true) × Lasts moments (after moment s)

-- Whatever acts on the document reads this of the node, by whatever reference: in each handler, at its beginning.
abbrev pub ReadsAs : Document → ℕ → List ℕ → List ℕ → Type 0
ReadsAs d node name text =
    (a : Acting) → a.tree ≡ d.tree → member_value a (Node node) name ≡ Str text

-- The document is there still, and the last text that was written to the node is read of it, or what was read before.
pub record HasLast (s : State) (node : ℕ) (name : List ℕ) (writes : List Write) (before : List ℕ)
    : Type 0 where
  pub document : Document
  pub is : s.document ≡ Some document
  pub reads : ReadsAs document node name (unwrap_or (last_to node name writes) before)

-- The document is there still, and its nodes with their styles are as the writes make them.
pub record HasWritten (s : State) (before : Nodes) (writes : List Write) : Type 0 where
  pub document : Document
  pub is : s.document ≡ Some document
  pub nodes_are : nodes_of document.tree ≡ with_writes writes before
