-- A page without a document: changes in modules print their lines alone, and event messages nothing.
use Rattle.std.proofs.Common.{◌≡◌, ℕ, List, [], ◌∷◌, map, refl, ap, ◌∙◌, append-nil, Bool, true, false, if◌then◌else◌}
use Rattle.std.specs.Prelude.{Option, Some, None, option_and_then, ◌||◌, All}
use Rattle.std.specs.List.{flat_map}
use Rattle.std.specs.Option.{option_or, option_map_or}
use Rattle.carousel_blocks.specs.declared.changes.Change.{Change}
use Rattle.event_messages.specs.declared.messages.Message.{Message}
use Rattle.module_store.specs.Lines.{line_of_change}
use Rattle.acting_documents.specs.Documents.{Document}
use Rattle.acting_documents.specs.Handling.{change_effect, message_effect}
use Rattle.acting_documents.specs.Runs.{Effect, Scene}
use Rattle.page.specs.Dispatches.{dispatch, dispatches, event_in, most_dispatches, next_and, next_load, turn, data_event_step, next_event}
use Rattle.page.specs.Inputs.{change_step, changes_step, document_step, message_step, messages_step, told_step, with_data_event}
use Rattle.page.specs.State.{State, Step, scene_in, step_behind, step_of, still}
use Rattle.std.proofs.lemmas.List.Elements.{All-head, All-tail}
use Rattle.carousel_blocks.specs.DataEvents.{is_data_event, is_event_line}
use Rattle.carousel_blocks.specs.declared.changes.ChangeLine.{ChangeLine}
use Rattle.carousel_laws.specs.Services.{IsDelivery}

abbrev step_with : State → List ℕ → Step
step_with s text = record { state = s; text = text }

-- the step of a data event, where one waits
abbrev event_if : State → Bool → Option Step
event_if s waits = if waits then Some (data_event_step (record s { data_event = false })) else None

-- a delivery is no data event
delivered_is : (change : Change) → IsDelivery change → is_data_event change ≡ false
delivered_is change is = ap (λ (line : Option ChangeLine). is_event_line line) is.line_is

module _ (s : State) (none : s.document ≡ None) where
  still_without : (effect : Scene → Effect) → document_step effect s ≡ still s
  still_without effect = ap (λ (o : Option Document). option_map_or (λ d. step_of s (effect (scene_in s d))) o (still s)) none

  -- where a change is that of no data event, none waits that didn't wait before
  noted_is : (change : Change) → is_data_event change ≡ false → with_data_event change s ≡ s
  noted_is change is =
      ap (λ (b : Bool). let t : State = record s { data_event = s.data_event || b } in t) is
      ∙ ap (λ (b : Bool). let t : State = record s { data_event = b } in t) (itself s.data_event)
    where
      itself : (b : Bool) → (b || false) ≡ b
      itself true = refl
      itself false = refl

  change_is : (tag : ℕ) (change : Change) → IsDelivery change → change_step tag change s ≡ step_with s (line_of_change tag change)
  change_is tag change is =
      ap (told_step tag change) (noted_is change (delivered_is change is))
      ∙ ap (step_behind (line_of_change tag change)) (still_without (change_effect tag change))
      ∙ ap (step_with s) (append-nil (line_of_change tag change))

  pub changes_are : (tag : ℕ) (changes : List Change) → All IsDelivery changes → changes_step (map (λ change. (tag, change)) changes) s ≡ step_with s (flat_map (line_of_change tag) changes)
  changes_are tag [] all = refl
  changes_are tag (change ∷ changes) all =
      ap (λ (t : Step). step_behind t.text (changes_step (map (λ change. (tag, change)) changes) t.state)) (change_is tag change (All-head IsDelivery change changes all))
      ∙ ap (step_behind (line_of_change tag change)) (changes_are tag changes (All-tail IsDelivery change changes all))

  message_is : (tag : ℕ) (message : Message) → message_step tag message s ≡ still s
  message_is tag message = still_without (message_effect tag message)

  pub messages_are : (tag : ℕ) (messages : List Message) → messages_step tag messages s ≡ still s
  messages_are tag [] = refl
  messages_are tag (message ∷ messages) =
      ap (λ (t : Step). step_behind t.text (messages_step tag messages t.state)) (message_is tag message) ∙ messages_are tag messages

  -- where no data event waits, a dispatch is a load
  pub dispatch_is : s.data_event ≡ false → dispatch s ≡ next_load s
  unfolding dispatch
  dispatch_is unless =
      ap (λ (b : Bool). option_or (event_if s b) (option_or (next_load s) (next_event s))) unless
      ∙ ap (λ (o : Option Document). option_or (next_load s) (option_and_then (event_in s) o)) none ∙ itself (next_load s) where
        itself : (o : Option Step) → option_or o None ≡ o
        itself None = refl
        itself (Some t) = refl

-- where a dispatch isn't made, no data event waits
pub none_waits : (s : State) → dispatch s ≡ None → s.data_event ≡ false
unfolding dispatch
none_waits s idle = by s.data_event refl idle where
  by : (b : Bool) → s.data_event ≡ b → option_or (event_if s b) (option_or (next_load s) (next_event s)) ≡ None → s.data_event ≡ false
  by true e idle = absurd cc
  by false e idle = e

-- a turn without a dispatch does nothing
pub turn_is : (s : State) → dispatch s ≡ None → turn s ≡ still s
unfolding turn most_dispatches dispatches
turn_is s idle = ap (λ o. next_and (dispatches 255) s o) idle
