-- What comes to a page changes the nodes of its document by the writes of scripts alone.
use Rattle.std.proofs.Common.{◌≡◌, ◌∙◌, true, List, [], ◌∷◌, Option, Some, None, refl, sym, ap, subst, Bool, false}
use Rattle.std.specs.Prelude.{IfSome, is_some, option_and_then, option_map, if◌then◌else◌}
use Rattle.std.specs.Option.{option_map_or, option_or}
use Rattle.multipart_entities.specs.declared.paths.Path.{Path}
use Rattle.event_queue.specs.Queues.{first_of}
use Rattle.event_queue.specs.declared.events.Event.{Event}
use Rattle.acting_documents.specs.Documents.{Document}
use Rattle.acting_documents.specs.Handling.{change_effect, due_effect, event_effect, key_effect, message_effect, without_first}
use Rattle.acting_documents.specs.Runs.{Effect, Scene}
use Rattle.page.specs.Dispatches.{dispatch, event_in, load_at, next_event, next_load, data_event_step, next_data_event}
use Rattle.page.specs.Inputs.{document_step, with_clock, with_data_event}
use Rattle.page.specs.Loading.{wanted_path}
use Rattle.page.specs.State.{State, Step, Wanted, scene_in, stays_or_goes, step_behind, step_of, still, ends_for_data_event}
use Rattle.page.specs.State.Wanted.{NoDocument, StartDocument}
use Rattle.page_laws.specs.Moments.{Moment, Dispatches, HasChange, HasMessage, HasKey, IsDue, HasClock, HasRandom, HasDate, HasModules, Lasts, after, after_all, writes_in, writes_since, writes_by_first}
use Rattle.page_laws.specs.Nodes.{Nodes, event_writes, nodes_of, with_writes}
use Rattle.page_laws.specs.Soundness.{IsSound}
use Rattle.page_laws.proofs.NodeRunLemmas.{change-nodes, due-nodes, event-writes, key-nodes, message-nodes, nodes_in, writes-then}

-- a document is there, with these nodes, and no other is wanted
pub record HasDocument (s : State) (nodes : Nodes) : Type 0 where
  pub document : Document
  pub is : s.document ≡ Some document
  pub wanted : s.wanted ≡ NoDocument
  pub nodes_are : nodes_of document.tree ≡ nodes

-- what becomes of a document that goes on
went-on : (s : State) (e : Effect) (nodes : Nodes) → s.wanted ≡ NoDocument → nodes_in e.scene ≡ nodes
    → is_some (step_of s e).state.document ≡ true → HasDocument (step_of s e).state nodes
went-on s e nodes wanted same there = by e.launched there
  where
    by : (launched : Option Path) → is_some (step_behind e.text (stays_or_goes launched s e.scene)).state.document ≡ true
        → HasDocument (step_behind e.text (stays_or_goes launched s e.scene)).state nodes
    by None there = record { document = e.scene.document; is = refl; wanted = wanted; nodes_are = same }
    by (Some path) there = absurd cc

-- what a document does outside of scripts
step-is : (s : State) (d : Document) → s.document ≡ Some d → (effect : Scene → Effect)
    → document_step effect s ≡ step_of s (effect (scene_in s d))
step-is s d is effect = ap (λ (o : Option Document). option_map_or (λ d. step_of s (effect (scene_in s d))) o (still s)) is

quiet : (s : State) (d : Document) → s.document ≡ Some d → s.wanted ≡ NoDocument → (effect : Scene → Effect)
    → nodes_in (effect (scene_in s d)).scene ≡ nodes_of d.tree → is_some (document_step effect s).state.document ≡ true
    → HasDocument (document_step effect s).state (nodes_of d.tree)
quiet s d is wanted effect same there =
    subst (λ (t : Step). HasDocument t.state (nodes_of d.tree)) (sym (step-is s d is effect))
    (went-on s (effect (scene_in s d)) (nodes_of d.tree) wanted same
    (ap (λ (t : Step). is_some t.state.document) (sym (step-is s d is effect)) ∙ there))

module _ (s : State) (d : Document) (is : s.document ≡ Some d) (wanted : s.wanted ≡ NoDocument) where
  as-before : HasDocument s (nodes_of d.tree)
  as-before = record { document = d; is = is; wanted = wanted; nodes_are = refl }

  -- ---- a dispatch

  no-load : next_load s ≡ None
  unfolding next_load
  no-load = ap (λ (w : Wanted). option_and_then (load_at s) (wanted_path w s.modules)) wanted

  -- a data event that waits is the next dispatch, and ends the document
  abbrev behind_event : State
  behind_event = record s { data_event = false }

  abbrev event_if : Bool → Option Step
  event_if waits = if waits then Some (data_event_step behind_event) else None

  ends-there : s.data_event ≡ true → (option_map_or (λ step. step.state) (dispatch s) s).document ≡ None
  unfolding dispatch
  ends-there waits =
      ap (λ (b : Bool). (option_map_or (λ step. step.state) (option_or (event_if b) (option_or (next_load s) (next_event s))) s).document) waits
      ∙ ap (λ (o : Option Document). (option_map_or (λ d. ends_for_data_event behind_event (scene_in behind_event d)) o (still (record behind_event { wanted = StartDocument }))).state.document) is

  dispatch-is : s.data_event ≡ false → dispatch s ≡ event_in s d
  unfolding dispatch
  dispatch-is none =
      ap (λ (b : Bool). option_or (event_if b) (option_or (next_load s) (next_event s))) none
      ∙ ap (λ (o : Option Step). option_or o (next_event s)) no-load
      ∙ ap (λ (o : Option Document). option_and_then (event_in s) o) is

  goes-on : s.data_event ≡ false → is_some (option_map_or (λ step. step.state) (dispatch s) s).document ≡ true
      → HasDocument (option_map_or (λ step. step.state) (dispatch s) s) (with_writes (option_map_or (writes_by_first s) s.document []) (nodes_of d.tree))
  goes-on none there =
      subst (λ (o : Option Document). HasDocument (option_map_or (λ step. step.state) (dispatch s) s) (with_writes (option_map_or (writes_by_first s) o []) (nodes_of d.tree))) (sym is)
      (subst (λ (o : Option Step). HasDocument (option_map_or (λ step. step.state) o s) (with_writes (writes_by_first s d) (nodes_of d.tree))) (sym (dispatch-is none))
      (by (first_of d.queue) (ap (λ (o : Option Step). is_some (option_map_or (λ step. step.state) o s).document) (sym (dispatch-is none)) ∙ there)))
    where
      by : (event : Option Event)
          → is_some (option_map_or (λ step. step.state) (option_map (λ event. step_of s (event_effect event (without_first (scene_in s d)))) event) s).document ≡ true
          → HasDocument (option_map_or (λ step. step.state) (option_map (λ event. step_of s (event_effect event (without_first (scene_in s d)))) event) s)
          (with_writes (option_map_or (λ event. event_writes event (without_first (scene_in s d))) event []) (nodes_of d.tree))
      by None there = as-before
      by (Some event) there =
          let scene : Scene = without_first (scene_in s d) in
          went-on s (event_effect event scene) (with_writes (event_writes event scene) (nodes_of d.tree)) wanted (event-writes event scene) there

  dispatched : is_some (option_map_or (λ step. step.state) (dispatch s) s).document ≡ true
      → HasDocument (option_map_or (λ step. step.state) (dispatch s) s) (with_writes (option_map_or (writes_by_first s) s.document []) (nodes_of d.tree))
  dispatched there = by s.data_event refl
    where
      by : (waits : Bool) → s.data_event ≡ waits
          → HasDocument (option_map_or (λ step. step.state) (dispatch s) s) (with_writes (option_map_or (writes_by_first s) s.document []) (nodes_of d.tree))
      by true e = absurd (let no : false ≡ true = sym (ap (λ (o : Option Document). is_some o) (ends-there e)) ∙ there in cc no)
      by false e = goes-on e there

  -- ---- one moment

  pub one-moment : (moment : Moment) → is_some (after moment s).document ≡ true → HasDocument (after moment s) (with_writes (writes_in moment s) (nodes_of d.tree))
  one-moment Dispatches there = dispatched there
  one-moment (HasChange component change) there =
      quiet (with_data_event change s) d is wanted (change_effect component change) (change-nodes component change (scene_in s d)) there
  one-moment (HasMessage component message) there = quiet s d is wanted (message_effect component message) (message-nodes component message (scene_in s d)) there
  one-moment (HasKey key down) there = quiet s d is wanted (key_effect key down) (key-nodes key down (scene_in s d)) there
  one-moment (IsDue moment) there =
      subst (λ (t : Step). HasDocument t.state (nodes_of d.tree)) (sym due-is)
      (went-on (with_clock moment s) (due_effect moment (scene_in s d)) (nodes_of d.tree) wanted (due-nodes moment (scene_in s d))
      (ap (λ (t : Step). is_some t.state.document) (sym due-is) ∙ there))
    where
      due-is : option_map_or (λ d. step_of (with_clock moment s) (due_effect moment (scene_in s d))) s.document (still (with_clock moment s))
          ≡ step_of (with_clock moment s) (due_effect moment (scene_in s d))
      due-is = ap (λ (o : Option Document). option_map_or (λ d. step_of (with_clock moment s) (due_effect moment (scene_in s d))) o (still (with_clock moment s))) is
  one-moment (HasClock moment) there = record { document = d; is = is; wanted = wanted; nodes_are = refl }
  one-moment (HasRandom word) there = record { document = d; is = is; wanted = wanted; nodes_are = refl }
  one-moment (HasDate day second) there = record { document = d; is = is; wanted = wanted; nodes_are = refl }
  one-moment (HasModules modules) there = record { document = d; is = is; wanted = wanted; nodes_are = refl }

-- ---- all of them

pub all-moments : (moments : List Moment) (s : State) (nodes : Nodes) → HasDocument s nodes → Lasts moments s
    → HasDocument (after_all moments s) (with_writes (writes_since moments s) nodes)
all-moments [] s nodes h lasts = h
all-moments (moment ∷ moments) s nodes h lasts =
    let one : HasDocument (after moment s) (with_writes (writes_in moment s) nodes)
    = subst (λ (n : Nodes). HasDocument (after moment s) (with_writes (writes_in moment s) n)) h.nodes_are (one-moment s h.document h.is h.wanted moment lasts.0) in
    subst (λ (n : Nodes). HasDocument (after_all moments (after moment s)) n) (sym (writes-then (writes_in moment s) (writes_since moments (after moment s)) nodes))
    (all-moments moments (after moment s) (with_writes (writes_in moment s) nodes) one lasts.1)

pub sound-document : (s : State) (d : Document) → IsSound s → s.document ≡ Some d → HasDocument s (nodes_of d.tree)
sound-document s d sound is = record {
  document = d;
  is = is;
  wanted = subst (λ (o : Option Document). IfSome o (λ d. s.wanted ≡ NoDocument)) is sound.wanted;
  nodes_are = refl;
}
