-- What a store has after one more section as long as the DII in force is only repeated.
use Rattle.std.proofs.Common.{◌≡◌, ℕ, ◌==◌, Bool, true, false, List, [], ◌∷◌, ◌++◌, refl, sym, ap, ◌∙◌, subst, eqb-true, cond}
use Rattle.std.specs.Prelude.{◌≢◌, Option, Some, None, codes, is_some, option_map, option_and_then}
use Rattle.std.proofs.lemmas.Bool.{eq-eqb}
use Rattle.dsmcc_messages.specs.declared.dii.Dii.{Dii}
use Rattle.carousel_blocks.specs.DataEvents.{data_event, data_event_between, data_event_id}
use Rattle.carousel_blocks.specs.declared.standing.SkipCause.{SkipCause}
use Rattle.carousel_blocks.specs.declared.standing.Standing.{Standing}
use Rattle.carousel_blocks.specs.Held.{blocks_from, bytes_by, bytes_held, bytes_kept, count_of, counting_blocks, first_of, joined_bytes, kept_with}
use Rattle.carousel_blocks.specs.InForce.{in_force, standing_of}
use Rattle.carousel_blocks.specs.Message.{Message, messages_of}
use Rattle.multipart_entities.specs.declared.paths.Path.{Path}
use Rattle.module_store.specs.Copies.{KeptModule}
use Rattle.module_store.specs.DataEvents.{data_event_by, event_id}
use Rattle.module_store.specs.Resources.{Waiting, holds_entity, info_in_force, look, look_at, look_behind, look_by, look_in, look_unless, Presence, presence, presence_at, presence_in, presence_unless, start_component, start_name, start_path}
use Rattle.module_store.specs.Resources.Presence.{Absent, Announced, Held}
use Rattle.module_store.specs.Store.{Stored, changes_behind, changes_by, messages_of_component, number_of, with_section}
use Rattle.module_locks.specs.Locks.{delivers, kept_now, kept_of, look_kept, start_path_as}
use Rattle.carousel_laws.specs.Freedom.{OnlyRepeat}
use Rattle.carousel_laws.specs.Services.{without_number}
use Rattle.carousel_laws.proofs.RepeatLemmas.{ChangeLaws, after, delivers_new, held_stays, is_new, still_in_force}
use Rattle.carousel_laws.proofs.StoreLemmas.{after_its_own, after_one, path_with, with_messages}

-- ---- what there is to be kept of a module

-- without the number of the delivery that brought it
abbrev pub kept_there : Stored → ℕ → ℕ → Option KeptModule
kept_there stored component number = kept_of None (presence stored component number)

pub there_is : (stored : Stored) (component number : ℕ) → option_map without_number (kept_now stored component number) ≡ kept_there stored component number
there_is stored component number = by (presence stored component number) where
  by : (p : Presence) → option_map without_number (kept_of (number_of stored component number) p) ≡ kept_of None p
  by Absent = refl
  by Announced = refl
  by (Held is_entity bytes) = refl

-- it is there exactly where the module is held
pub kept_is_held : (messages : List Message) (number : ℕ) → is_some (kept_of None (presence_in (Some messages) number)) ≡ is_some (bytes_held messages number)
unfolding bytes_held
kept_is_held messages number = by_entry (standing_of (in_force messages) number) where
  by_bytes : (info : List ℕ) (bytes : Option (List ℕ)) → is_some (kept_of None (presence_unless None info bytes)) ≡ is_some bytes
  by_bytes info None = refl
  by_bytes info (Some bytes) = refl

  by_skip : (skip : Option SkipCause) (info : List ℕ) (blocks : List (Option (List ℕ))) → is_some (kept_of None (presence_unless skip info (bytes_by skip blocks))) ≡ is_some (bytes_by skip blocks)
  by_skip (Some cause) info blocks = refl
  by_skip None info blocks = by_bytes info (joined_bytes blocks)

  by_entry : (o : Option Standing)
      → is_some (kept_of None (presence_at o (option_and_then bytes_kept (option_map (kept_with (counting_blocks None number messages)) o))))
      ≡ is_some (option_and_then bytes_kept (option_map (kept_with (counting_blocks None number messages)) o))
  by_entry None = refl
  by_entry (Some s) = by_skip s.skip s.entry.info (blocks_from (first_of (counting_blocks None number messages)) 0 (count_of s))

-- a look-up of a module that is held sees what there is to be kept of it
pub look_of_kept : (stored : Stored) (path : Path) (kept : KeptModule) → kept_there stored path.component path.«module» ≡ Some kept → look stored path ≡ look_kept kept path.name
look_of_kept stored path kept is = by_messages (messages_of_component stored path.component) is where
  by_entry : (o : Option Standing) (bytes : Option (List ℕ)) → kept_of None (presence_at o bytes) ≡ Some kept → look_by o bytes path.name ≡ look_kept kept path.name
  by_entry None bytes e = absurd cc
  by_entry (Some s) bytes e = by_skip s.skip bytes e where
    by_skip : (skip : Option SkipCause) (bytes : Option (List ℕ)) → kept_of None (presence_unless skip s.entry.info bytes) ≡ Some kept → look_unless skip s.entry.info bytes path.name ≡ look_kept kept path.name
    by_skip (Some cause) bytes e = absurd cc
    by_skip None None e = absurd cc
    by_skip None (Some bytes) e =
        let held : KeptModule = record { number = None; is_entity = holds_entity s.entry.info; bytes = bytes } in
        let same : held ≡ kept = cc in
        ap (λ (k : KeptModule). look_kept k path.name) same

  by_messages : (o : Option (List Message)) → kept_of None (presence_in o path.«module») ≡ Some kept → look_in o path.«module» path.name ≡ look_kept kept path.name
  by_messages None e = absurd cc
  by_messages (Some messages) e = by_dii (in_force messages) e where
    by_dii : (dii : Option Dii) → kept_of None (presence_at (standing_of dii path.«module») (bytes_held messages path.«module»)) ≡ Some kept → look_behind dii messages path.«module» path.name ≡ look_kept kept path.name
    by_dii None e = absurd cc
    by_dii (Some dii) e = by_entry (standing_of (Some dii) path.«module») (bytes_held messages path.«module») e

-- and so does the start path
pub start_of_kept : (stored : Stored) (kept : KeptModule) → kept_there stored start_component 0 ≡ Some kept → start_path stored ≡ start_path_as kept.is_entity
start_of_kept stored kept is = ap named (by_messages (messages_of_component stored start_component) is) where
  named : List ℕ → Path
  named name = record { component = start_component; «module» = 0; name = name }

  by_entry : (o : Option Standing) (bytes : Option (List ℕ)) → kept_of None (presence_at o bytes) ≡ Some kept
      → start_name (option_map (λ entry. entry.info) (option_map (λ (s : Standing). s.entry) o)) ≡ cond kept.is_entity (codes "startup.bml") []
  by_entry None bytes e = absurd cc
  by_entry (Some s) bytes e = by_skip s.skip bytes e where
    by_skip : (skip : Option SkipCause) (bytes : Option (List ℕ)) → kept_of None (presence_unless skip s.entry.info bytes) ≡ Some kept
        → start_name (Some s.entry.info) ≡ cond kept.is_entity (codes "startup.bml") []
    by_skip (Some cause) bytes e = absurd cc
    by_skip None None e = absurd cc
    by_skip None (Some bytes) e =
        let held : KeptModule = record { number = None; is_entity = holds_entity s.entry.info; bytes = bytes } in
        let same : held ≡ kept = cc in
        ap (λ (k : KeptModule). cond k.is_entity (codes "startup.bml") []) same

  by_messages : (o : Option (List Message)) → kept_of None (presence_in o 0) ≡ Some kept
      → start_name (option_and_then (λ messages. info_in_force messages 0) o) ≡ cond kept.is_entity (codes "startup.bml") []
  by_messages None e = absurd cc
  by_messages (Some messages) e = by_entry (standing_of (in_force messages) 0) (bytes_held messages 0) e

-- ---- the data_event_id

-- what it is in a component
abbrev id_in : Option (List Message) → Option ℕ
id_in messages = option_and_then (λ l. option_map data_event_id (in_force l)) messages

none_between : (id : Option ℕ) → data_event_between id id ≡ None
none_between None = refl
none_between (Some n) = ap (λ b. cond b None (Some (data_event n n))) (eq-eqb n n refl)

-- ---- one more section

module _ (laws : ChangeLaws) (stored : Stored) (tag : ℕ) (messages : List Message) (dii : Dii) (section : List ℕ)
    (its : messages_of_component stored tag ≡ Some messages) (is : in_force messages ≡ Some dii) (repeat : OnlyRepeat dii.transaction (section ∷ [])) where
  abbrev now : Stored
  now = with_section tag section stored

  abbrev more : List Message
  more = after laws messages dii section is repeat

  force : in_force more ≡ Some dii
  force = still_in_force laws messages dii section is repeat

  pub its_after : messages_of_component now tag ≡ Some (messages ++ messages_of (section ∷ []))
  its_after = after_its_own tag section stored messages its

  pub others_after : (component : ℕ) → (component == tag) ≡ false → messages_of_component now component ≡ messages_of_component stored component
  others_after component other =
      after_one tag component section stored.components ∙ ap (λ t. with_messages t (section ∷ []) (messages_of_component stored component)) other

  -- A component has the same messages as before, or is the section's own.
  by_component : (P : Option (List Message) → Option (List Message) → Type 0) → ((o : Option (List Message)) → P o o) → P (Some messages) (Some more)
      → (component : ℕ) → P (messages_of_component stored component) (messages_of_component now component)
  by_component P same own component = by (component == tag) refl where
    by : (t : Bool) → (component == tag) ≡ t → P (messages_of_component stored component) (messages_of_component now component)
    by false e = subst (λ o. P (messages_of_component stored component) o) (sym (others_after component e)) (same (messages_of_component stored component))
    by true e =
        let c = eqb-true component tag e in
        subst (λ o. P o (messages_of_component now component)) (sym (ap (messages_of_component stored) c ∙ its))
        (subst (λ o. P (Some messages) o) (sym (ap (messages_of_component now) c ∙ its_after)) own)

  held : (number : ℕ) (bytes : List ℕ) → bytes_held messages number ≡ Some bytes → bytes_held more number ≡ Some bytes
  held = held_stays laws messages dii section is repeat

  -- what there is to be kept stays
  pub kept_stays : (component number : ℕ) (kept : KeptModule) → kept_there stored component number ≡ Some kept → kept_there now component number ≡ Some kept
  kept_stays component number = by_component (λ o p. (kept : KeptModule) → kept_of None (presence_in o number) ≡ Some kept → kept_of None (presence_in p number) ≡ Some kept)
      (λ o kept e. e) own component where
        own : (kept : KeptModule) → kept_of None (presence_in (Some messages) number) ≡ Some kept → kept_of None (presence_in (Some more) number) ≡ Some kept
        own kept e = by (bytes_held messages number) refl where
          by : (o : Option (List ℕ)) → bytes_held messages number ≡ o → kept_of None (presence_in (Some more) number) ≡ Some kept
          by None none =
              let no : false ≡ true = sym (ap (λ o. is_some o) none) ∙ sym (kept_is_held messages number) ∙ ap (λ o. is_some o) e in
              absurd cc
          by (Some bytes) there =
              ap (λ d. kept_of None (presence_at (standing_of d number) (bytes_held more number))) (force ∙ sym is)
              ∙ ap (λ b. kept_of None (presence_at (standing_of (in_force messages) number) b)) (held number bytes there ∙ sym there)
              ∙ e

  -- what is found, and what is missing, stays
  pub looks_stay : (path : Path) → look stored path ≢ Waiting → look now path ≡ look stored path
  looks_stay path = by_component (λ o p. look_in o path.«module» path.name ≢ Waiting → look_in p path.«module» path.name ≡ look_in o path.«module» path.name)
      (λ o there. refl) own path.component where
        found : (o : Option Standing) (old new : Option (List ℕ)) → ((bytes : List ℕ) → old ≡ Some bytes → new ≡ Some bytes)
            → look_by o old path.name ≢ Waiting → look_by o new path.name ≡ look_by o old path.name
        found None old new stays there = refl
        found (Some s) old new stays there = by s.skip old refl there where
          by : (skip : Option SkipCause) (o : Option (List ℕ)) → old ≡ o → look_unless skip s.entry.info o path.name ≢ Waiting
              → look_unless skip s.entry.info new path.name ≡ look_unless skip s.entry.info old path.name
          by (Some cause) o e there = refl
          by None None e there = absurd (there refl)
          by None (Some bytes) e there = ap (λ n. look_at s.entry.info n path.name) (stays bytes e ∙ sym e)

        own : look_in (Some messages) path.«module» path.name ≢ Waiting → look_in (Some more) path.«module» path.name ≡ look_in (Some messages) path.«module» path.name
        own there =
            ap (λ d. look_behind d more path.«module» path.name) force
            ∙ found (standing_of (Some dii) path.«module») (bytes_held messages path.«module») (bytes_held more path.«module»)
            (held path.«module») (λ waits. there (ap (λ d. look_behind d messages path.«module» path.name) is ∙ waits))
            ∙ sym (ap (λ d. look_behind d messages path.«module» path.name) is)

  pub start_stays : start_path now ≡ start_path stored
  start_stays = by_component (λ o p. path_with (option_and_then (λ l. info_in_force l 0) p) ≡ path_with (option_and_then (λ l. info_in_force l 0) o))
      (λ o. refl) (ap (λ d. path_with (option_map (λ entry. entry.info) (option_map (λ s. s.entry) (standing_of d 0)))) (force ∙ sym is)) start_component

  -- a module of the component is delivered exactly where it is held now, and wasn't before
  pub delivered_new : (number : ℕ) → delivers number (changes_by tag section stored) ≡ is_new (bytes_held messages number) (bytes_held more number)
  delivered_new number = ap (λ o. delivers number (changes_behind o section)) its ∙ delivers_new laws messages dii section is repeat number

  -- it is no data event
  pub no_event : data_event_by tag section stored ≡ None
  no_event =
      ap (data_event_between (event_id stored))
      (sym (by_component (λ o p. id_in o ≡ id_in p) (λ o. refl) (ap (option_map data_event_id) (is ∙ sym force)) start_component))
      ∙ none_between (event_id stored)
