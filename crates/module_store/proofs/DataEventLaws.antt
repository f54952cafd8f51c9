-- Which sections are data events.
use Rattle.std.proofs.Common.{◌≡◌, ◌≢◌, ◌∙◌, ℕ, Bool, true, false, cond, eqb, List, [], ◌∷◌, ◌++◌, Option, Some, None, refl, sym, ap, ap₂, subst, inl, inr}
use Rattle.std.specs.Prelude.{◌⊎◌, find, is_some, option_map, option_and_then}
use Rattle.std.specs.List.{cons_option}
use Rattle.std.proofs.lemmas.Bool.{eqb-true, eq-eqb, ne_eqb}
use Rattle.std.proofs.lemmas.Bool.Decides.{eqb_tells}
use Rattle.std.proofs.lemmas.List.{append-nil}
use Rattle.std.proofs.lemmas.List.Sums.{fold-append}
use Rattle.dsmcc_messages.specs.declared.dii.Dii.{Dii}
use Rattle.dsmcc_messages.specs.Ddb.{DataBlock}
use Rattle.psi_tables.specs.declared.components.Component.{Component}
use Rattle.psi_tables.specs.Components.{pid_in}
use Rattle.carousel_blocks.specs.DataEvents.{data_event, data_event_between, data_event_id}
use Rattle.carousel_blocks.specs.InForce.{in_force, later}
use Rattle.carousel_blocks.specs.Message.{Message, Indication, Data, message_of, messages_of}
use Rattle.carousel_blocks.specs.Carousel as of_carousel
use Rattle.module_store.specs.Resources.{start_component}
use Rattle.module_store.specs.Store.{Followed, Stored, component_in, followed_from, followed_with, messages_of_component, messages_on, pid_of, with_map, with_section}
use Rattle.module_store.specs.Standing.{ComponentState, StoreState, StandsFor, component_with}
use Rattle.module_store.specs.DataEvents.{data_event_by, event_id}
use Rattle.module_store.proofs.FindLaws.{find-map, found_passes}
use Rattle.module_store.proofs.FeedLaws.{component_behind, extended, has_followed}

-- ---- the messages of a component behind a section

-- the same of what is found in the map
abbrev messages_in : Option Followed → Option (List Message)
messages_in component = option_map (λ c. c.messages) component

-- of its own
messages_behind : (stored : Stored) (tag : ℕ) (section : List ℕ) (messages : List Message) → messages_of_component stored tag ≡ Some messages
    → messages_of_component (with_section tag section stored) tag ≡ Some (messages ++ messages_of (section ∷ []))
messages_behind stored tag section messages e = by_component (component_in stored.components tag) refl e
  where
    by_component : (o : Option Followed) → component_in stored.components tag ≡ o → messages_in o ≡ Some messages
        → messages_of_component (with_section tag section stored) tag ≡ Some (messages ++ messages_of (section ∷ []))
    by_component None is e = absurd cc
    by_component (Some component) is e =
        let same : component.messages ≡ messages = cc in
        ap messages_in (component_behind tag tag section stored.components ∙ ap (λ (o : Option Followed). option_map (followed_with tag section) o) is)
        ∙ ap (λ b. Some (cond b (extended section component) component).messages) (found_passes (λ c. eqb c.tag tag) stored.components component is)
        ∙ ap (λ (l : List Message). Some (l ++ messages_of (section ∷ []))) same

-- of another component
messages_beside : (stored : Stored) (tag other : ℕ) (section : List ℕ) → tag ≢ other → messages_of_component (with_section tag section stored) other ≡ messages_of_component stored other
messages_beside stored tag other section differ = by_component (component_in stored.components other) refl
  where
    by_component : (o : Option Followed) → component_in stored.components other ≡ o → messages_of_component (with_section tag section stored) other ≡ messages_in o
    by_component None is = ap messages_in (component_behind tag other section stored.components ∙ ap (λ (o : Option Followed). option_map (followed_with tag section) o) is)
    by_component (Some component) is =
        let tagged = eqb-true component.tag other (found_passes (λ c. eqb c.tag other) stored.components component is) in
        ap messages_in (component_behind tag other section stored.components ∙ ap (λ (o : Option Followed). option_map (followed_with tag section) o) is)
        ∙ ap (λ b. Some (cond b (extended section component) component).messages) (ne_eqb component.tag tag (λ same. differ (sym same ∙ tagged)))

-- ---- the DII in force behind one message more

behind_dii : (messages : List Message) (section : List ℕ) (before after : Dii) → in_force messages ≡ Some before → message_of section ≡ Some (Indication after)
    → in_force (messages ++ messages_of (section ∷ [])) ≡ Some (cond (eqb after.transaction before.transaction) before after)
behind_dii messages section before after force told =
    ap (λ (o : Option Message). in_force (messages ++ cons_option o [])) told
    ∙ fold-append later None messages (Indication after ∷ [])
    ∙ ap (λ (o : Option Dii). later o (Indication after)) force

-- a section that carries no DII leaves it
behind_no_dii : (messages : List Message) (section : List ℕ) → ((dii : Dii) → message_of section ≡ Some (Indication dii) → ⊥) → in_force (messages ++ messages_of (section ∷ [])) ≡ in_force messages
behind_no_dii messages section none = by_message (message_of section) refl
  where
    by_dii : (o : Option Dii) (block : DataBlock) → later o (Data block) ≡ o
    by_dii None block = refl
    by_dii (Some dii) block = refl

    by_message : (o : Option Message) → message_of section ≡ o → in_force (messages ++ cons_option o []) ≡ in_force messages
    by_message None is = ap in_force (append-nil messages)
    by_message (Some (Indication dii)) is = absurd (none dii is)
    by_message (Some (Data block)) is = fold-append later None messages (Data block ∷ []) ∙ by_dii (in_force messages) block

-- ---- the data_event_id of the service

abbrev id_behind : Option (List Message) → Option ℕ
id_behind messages = option_and_then (λ l. option_map data_event_id (in_force l)) messages

pub unchanged_none : (id : Option ℕ) → data_event_between id id ≡ None
unchanged_none None = refl
unchanged_none (Some n) = ap (λ b. cond b None (Some (data_event n n))) (eq-eqb n n refl)

-- where it stays there is no data event
stays_none : (stored : Stored) (tag : ℕ) (section : List ℕ) → event_id (with_section tag section stored) ≡ event_id stored → data_event_by tag section stored ≡ None
stays_none stored tag section same = ap (data_event_between (event_id stored)) same ∙ unchanged_none (event_id stored)

pub none_before : (stored : Stored) (tag : ℕ) (section : List ℕ) → event_id stored ≡ None → data_event_by tag section stored ≡ None
none_before stored tag section none = ap (λ id. data_event_between id (event_id (with_section tag section stored))) none

pub none_beside : (stored : Stored) (tag : ℕ) (section : List ℕ) → tag ≢ start_component → data_event_by tag section stored ≡ None
none_beside stored tag section differ = stays_none stored tag section (ap id_behind (messages_beside stored tag start_component section differ))

-- by the messages of the entry component
id_before : (stored : Stored) (messages : List Message) (dii : Dii) → messages_of_component stored start_component ≡ Some messages → in_force messages ≡ Some dii → event_id stored ≡ Some (data_event_id dii)
id_before stored messages dii is force = ap id_behind is ∙ ap (option_map data_event_id) force

id_after : (stored : Stored) (section : List ℕ) (messages : List Message) (before after : Dii) → messages_of_component stored start_component ≡ Some messages → in_force messages ≡ Some before
    → message_of section ≡ Some (Indication after)
    → event_id (with_section start_component section stored) ≡ Some (data_event_id (cond (eqb after.transaction before.transaction) before after))
id_after stored section messages before after is force told =
    ap id_behind (messages_behind stored start_component section messages is) ∙ ap (option_map data_event_id) (behind_dii messages section before after force told)

pub event_told : (stored : Stored) (section : List ℕ) (messages : List Message) (before after : Dii) → messages_of_component stored start_component ≡ Some messages → in_force messages ≡ Some before
    → message_of section ≡ Some (Indication after) → after.transaction ≢ before.transaction → data_event_id after ≢ data_event_id before
    → data_event_by start_component section stored ≡ Some (data_event (data_event_id before) (data_event_id after))
event_told stored section messages before after is force told differ other =
    ap₂ data_event_between (id_before stored messages before is force)
    (id_after stored section messages before after is force told
    ∙ ap (λ b. Some (data_event_id (cond b before after))) (ne_eqb after.transaction before.transaction differ))
    ∙ ap (λ b. cond b None (Some (data_event (data_event_id before) (data_event_id after)))) (ne_eqb (data_event_id before) (data_event_id after) (λ same. other (sym same)))

-- of two DIIs with one data_event_id either leaves it
either_id : (b : Bool) (before after : Dii) → data_event_id after ≡ data_event_id before → data_event_id (cond b before after) ≡ data_event_id before
either_id true before after same = refl
either_id false before after same = same

pub same_none : (stored : Stored) (section : List ℕ) (messages : List Message) (before after : Dii) → messages_of_component stored start_component ≡ Some messages → in_force messages ≡ Some before
    → message_of section ≡ Some (Indication after) → data_event_id after ≡ data_event_id before → data_event_by start_component section stored ≡ None
same_none stored section messages before after is force told same =
    stays_none stored start_component section
    (id_after stored section messages before after is force told
    ∙ ap (λ (n : ℕ). Some n) (either_id (eqb after.transaction before.transaction) before after same)
    ∙ sym (id_before stored messages before is force))

-- another map: a component that was followed on another PID begins with no message
no_id : (pid : ℕ) (component : Option Followed) → Some pid ≢ option_map (λ c. c.pid) component → option_map data_event_id (in_force (messages_on pid component)) ≡ None
no_id pid None differ = refl
no_id pid (Some component) differ =
    ap (λ b. option_map data_event_id (in_force (cond b component.messages [])))
    (ne_eqb component.pid pid (λ same. differ (ap (λ (n : ℕ). Some n) (sym same))))

pub moved_none : (components : List Component) (stored : Stored) → pid_in components start_component ≢ pid_of stored start_component → event_id (with_map components stored) ≡ None
moved_none components stored differ =
    ap id_behind (ap messages_in (find-map (λ (c : Followed). eqb c.tag start_component) (followed_from stored.components) components))
    ∙ by_component (find (λ (c : Component). eqb c.tag start_component) components) refl
  where
    by_component : (o : Option Component) → find (λ (c : Component). eqb c.tag start_component) components ≡ o
        → id_behind (messages_in (option_map (followed_from stored.components) o)) ≡ None
    by_component None is = refl
    by_component (Some c) is =
        let tagged = eqb-true c.tag start_component (found_passes (λ (d : Component). eqb d.tag start_component) components c is) in
        no_id c.pid (component_in stored.components c.tag)
        (λ same. differ (ap (option_map (λ (d : Component). d.pid)) is ∙ same ∙ ap (pid_of stored) tagged))

pub repeat_none : (stored : Stored) (section : List ℕ) (messages : List Message) (before after : Dii) → messages_of_component stored start_component ≡ Some messages → in_force messages ≡ Some before
    → message_of section ≡ Some (Indication after) → after.transaction ≡ before.transaction → data_event_by start_component section stored ≡ None
repeat_none stored section messages before after is force told same =
    stays_none stored start_component section
    (id_after stored section messages before after is force told
    ∙ ap (λ b. Some (data_event_id (cond b before after))) (eq-eqb after.transaction before.transaction same)
    ∙ sym (id_before stored messages before is force))

pub none_without_dii : (stored : Stored) (tag : ℕ) (section : List ℕ) → ((dii : Dii) → message_of section ≡ Some (Indication dii) → ⊥) → data_event_by tag section stored ≡ None
none_without_dii stored tag section no_dii = by_tag (eqb_tells tag start_component)
  where
    by_messages : (o : Option (List Message)) → messages_of_component stored start_component ≡ o → data_event_by start_component section stored ≡ None
    by_messages None is = none_before stored start_component section (ap id_behind is)
    by_messages (Some messages) is =
        stays_none stored start_component section
        (ap id_behind (messages_behind stored start_component section messages is) ∙ ap (option_map data_event_id) (behind_no_dii messages section no_dii) ∙ sym (ap id_behind is))

    by_tag : ((eqb tag start_component ≡ true) × (tag ≡ start_component)) ⊎ ((eqb tag start_component ≡ false) × (tag ≢ start_component)) → data_event_by tag section stored ≡ None
    by_tag (inl same) =
        subst (λ t. data_event_by t section stored ≡ None) (sym same.1) (by_messages (messages_of_component stored start_component) refl)
    by_tag (inr differ) = none_beside stored tag section differ.1

-- ---- what a store has of it

pub id_of_none : (state : StoreState) → component_with state.components start_component ≡ None → (stored : Stored) → StandsFor state stored → event_id stored ≡ None
id_of_none state absent stored stands = ap id_behind (by_component (component_in stored.components start_component) (sym (stands.tags start_component) ∙ ap (λ (o : Option ComponentState). is_some o) absent))
  where
    by_component : (o : Option Followed) → is_some o ≡ false → messages_in o ≡ None
    by_component None e = refl
    by_component (Some f) e = absurd cc

pub id_of_slot : (state : StoreState) (slot : ComponentState) → component_with state.components start_component ≡ Some slot → (id : Option ℕ)
    → ((messages : List Message) → of_carousel.StandsFor slot.carousel messages → id ≡ option_map data_event_id (in_force messages))
    → (stored : Stored) → StandsFor state stored → id ≡ event_id stored
id_of_slot state slot looked id is stored stands =
    let f = has_followed state.components state.count stored stands start_component slot looked in
    is f.0.messages f.3.carousel ∙ sym (ap (λ (o : Option Followed). id_behind (messages_in o)) f.1)
