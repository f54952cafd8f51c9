-- A module that a section delivers is held, and a look-up of a module that is held sees what there is to be kept of it.
use Rattle.std.proofs.Common.{◌≡◌, ◌∙◌, ℕ, Bool, true, false, cond, eqb, List, [], ◌∷◌, ◌++◌, map, Option, Some, None, refl, sym, ap, subst}
use Rattle.std.specs.Prelude.{◌&&◌, not, codes, find, is_some, option_map, option_and_then}
use Rattle.std.specs.Option.{option_map_or}
use Rattle.std.specs.List.{range_with_len}
use Rattle.std.proofs.lemmas.Bool.{and_parts, eqb-true}
use Rattle.dsmcc_messages.specs.declared.dii.Dii.{Dii}
use Rattle.dsmcc_messages.specs.declared.entry.Entry.{Entry}
use Rattle.dsmcc_messages.specs.Ddb.{DataBlock}
use Rattle.carousel_blocks.specs.declared.standing.SkipCause.{SkipCause}
use Rattle.carousel_blocks.specs.declared.standing.Standing.{Standing}
use Rattle.carousel_blocks.specs.declared.changes.Change.{Change}
use Rattle.carousel_blocks.specs.Message.{Message, messages_of}
use Rattle.carousel_blocks.specs.InForce.{in_force, standing_of}
use Rattle.carousel_blocks.specs.Held.{bytes_by, bytes_held, bytes_kept, blocks_from, count_of, counting_blocks, first_of, joined_bytes, kept_with, same_standing}
use Rattle.carousel_blocks.specs.Changes.{change_at, change_of, changed, changes, completed, line_by, number_bound}
use Rattle.multipart_entities.specs.declared.paths.Path.{Path}
use Rattle.module_store.specs.Copies.{KeptModule}
use Rattle.module_store.specs.Resources.{holds_entity, info_in_force, look, look_behind, look_by, look_in, look_unless, presence_at, presence_in, presence_unless, start_component, start_name}
use Rattle.module_store.specs.Resources as resources
use Rattle.module_store.specs.Store.{Followed, Stored, changes_by, component_in, delivered_by, followed_with, messages_of_component, number_of, with_section}
use Rattle.module_locks.specs.Locks.{delivers, is_delivery, kept_now, kept_of, look_kept, start_path_as}
use Rattle.module_locks.proofs.ListLaws.{any-made_some, find-made, found_passes, from_any}

-- ---- what is held is there to be kept

-- by why the entry is skipped
kept_unless : (delivery : Option ℕ) (skip : Option SkipCause) (info : List ℕ) (blocks : List (Option (List ℕ))) → is_some (bytes_by skip blocks) ≡ true → is_some (kept_of delivery (presence_unless skip info (bytes_by skip blocks))) ≡ true
kept_unless delivery (Some cause) info blocks e = absurd cc
kept_unless delivery None info blocks e = by_bytes (joined_bytes blocks) e
  where
    by_bytes : (o : Option (List ℕ)) → is_some o ≡ true → is_some (kept_of delivery (presence_unless None info o)) ≡ true
    by_bytes None e = absurd cc
    by_bytes (Some bytes) e = refl

kept_standing : (delivery : Option ℕ) (o : Option Standing) (blocks : List DataBlock) → is_some (option_and_then bytes_kept (option_map (kept_with blocks) o)) ≡ true
    → is_some (kept_of delivery (presence_at o (option_and_then bytes_kept (option_map (kept_with blocks) o)))) ≡ true
kept_standing delivery None blocks e = absurd cc
kept_standing delivery (Some s) blocks e = kept_unless delivery s.skip s.entry.info (blocks_from (first_of blocks) 0 (count_of s)) e

pub held_kept : (delivery : Option ℕ) (messages : List Message) (number : ℕ) → is_some (bytes_held messages number) ≡ true → is_some (kept_of delivery (presence_in (Some messages) number)) ≡ true
unfolding bytes_held
held_kept delivery messages number e = kept_standing delivery (standing_of (in_force messages) number) (counting_blocks None number messages) e

-- ---- what is delivered is held

-- a change delivers its module, and this is the module
abbrev delivers_it : ℕ → Change → Bool
delivers_it number change = eqb change.«module» number && is_delivery change

line_held : (number : ℕ) (entry : Entry) (skip : Option SkipCause) (held : Bool) → is_some (delivered_by number (line_by entry skip held)) ≡ true → held ≡ true
line_held number entry (Some cause) held e = absurd cc
line_held number entry None true e = refl
line_held number entry None false e = absurd cc

change_held : (number it : ℕ) (old new : Option Standing) (was now : Option (List ℕ)) → option_map_or (delivers_it it) (change_of number old new was now) false ≡ true
    → (number ≡ it) × (is_some now ≡ true)
change_held number it None None was now e = absurd cc
change_held number it (Some old) None was now e = let parts = and_parts (eqb number it) false e in let none = parts.1 in absurd cc
change_held number it None (Some new) was now e =
    let parts = and_parts (eqb number it) (is_some (delivered_by number (line_by new.entry new.skip (is_some now)))) e in
    (eqb-true number it parts.0, line_held number new.entry new.skip (is_some now) parts.1)
change_held number it (Some old) (Some new) was now e = by_tests (same_standing old new) (not (is_some was)) (is_some now) e
  where
    by_tests : (same fresh held : Bool)
        → option_map_or (delivers_it it) (cond same (cond (fresh && held) (Some (completed number new.entry)) None) (Some (changed number (line_by new.entry new.skip held)))) false ≡ true
        → (number ≡ it) × (held ≡ true)
    by_tests true true true e = let parts = and_parts (eqb number it) true e in (eqb-true number it parts.0, refl)
    by_tests true true false e = absurd cc
    by_tests true false held e = absurd cc
    by_tests false fresh held e =
        let parts = and_parts (eqb number it) (is_some (delivered_by number (line_by new.entry new.skip held))) e in
        (eqb-true number it parts.0, line_held number new.entry new.skip held parts.1)

delivered_held : (before now : List Message) (number : ℕ) → delivers number (changes before now) ≡ true → is_some (bytes_held now number) ≡ true
unfolding changes
delivered_held before now number e =
    from_any (λ n. option_map_or (delivers_it number) (change_at before now n) false) (is_some (bytes_held now number) ≡ true)
    (λ n h.
    let told = change_held n number (standing_of (in_force before) n) (standing_of (in_force now) n) (bytes_held before n) (bytes_held now n) h in
    subst (λ k. is_some (bytes_held now k) ≡ true) told.0 told.1)
    (range_with_len 0 number_bound) (sym (any-made_some (delivers_it number) (change_at before now) (range_with_len 0 number_bound)) ∙ e)

-- a section keeps the tag of a component
tag_stays : (tag other : ℕ) (section : List ℕ) (component : Followed) → eqb (followed_with tag section component).tag other ≡ eqb component.tag other
tag_stays tag other section component =
    elim (eqb component.tag tag) as (λ b. eqb (cond b (record { tag = component.tag; pid = component.pid; messages = component.messages ++ messages_of (section ∷ []) }) component).tag other ≡ eqb component.tag other)
    [ true ↦ refl | false ↦ refl ]

find_same : {X : Type 0} (p q : X → Bool) → ((x : X) → p x ≡ q x) → (xs : List X) → find p xs ≡ find q xs
find_same p q same [] = refl
find_same {X} p q same (x ∷ xs) = ap (λ b. cond b (Some x) (find p xs)) (same x) ∙ ap (λ (o : Option X). cond (q x) (Some x) o) (find_same p q same xs)

component_behind : (tag : ℕ) (section : List ℕ) (components : List Followed) → component_in (map (followed_with tag section) components) tag ≡ option_map (followed_with tag section) (component_in components tag)
component_behind tag section components =
    find-made (λ c. eqb c.tag tag) (followed_with tag section) components
    ∙ ap (λ o. option_map (followed_with tag section) o) (find_same (λ c. eqb (followed_with tag section c).tag tag) (λ c. eqb c.tag tag) (tag_stays tag tag section) components)

-- a module that a section delivers is held behind it
pub delivered_kept : (stored : Stored) (tag : ℕ) (section : List ℕ) (number : ℕ) → delivers number (changes_by tag section stored) ≡ true
    → is_some (kept_now (with_section tag section stored) tag number) ≡ true
delivered_kept stored tag section number e = by_component (component_in stored.components tag) refl e
  where
    by_component : (o : Option Followed) → component_in stored.components tag ≡ o
        → delivers number (changes_by tag section stored) ≡ true
        → is_some (kept_now (with_section tag section stored) tag number) ≡ true
    by_component None is e =
        let none : delivers number (changes_by tag section stored) ≡ false = rw is refl in
        absurd cc
    by_component (Some component) is e =
        let now = component.messages ++ messages_of (section ∷ []) in
        let tagged = found_passes (λ c. eqb c.tag tag) stored.components component is in
        let told : delivers number (changes component.messages now) ≡ true = rw is at e in
        let behind : messages_of_component (with_section tag section stored) tag ≡ Some now
        = ap (λ (o : Option Followed). option_map (λ c. c.messages) o) (component_behind tag section stored.components ∙ ap (λ (o : Option Followed). option_map (followed_with tag section) o) is)
        ∙ ap (λ b. Some (cond b (let c : Followed = record { tag = component.tag; pid = component.pid; messages = now } in c) component).messages) tagged in
        let delivery = number_of (with_section tag section stored) tag number in
        subst (λ o. is_some (kept_of delivery (presence_in o number)) ≡ true) (sym behind) (held_kept delivery now number (delivered_held component.messages now number told))

-- ---- a look-up of what is held

look_standing : (delivery : Option ℕ) (o : Option Standing) (now : Option (List ℕ)) (name : List ℕ) (kept : KeptModule) → kept_of delivery (presence_at o now) ≡ Some kept → look_by o now name ≡ look_kept kept name
look_standing delivery None now name kept e = absurd cc
look_standing delivery (Some s) now name kept e = by_skip s.skip now e
  where
    by_skip : (skip : Option SkipCause) (now : Option (List ℕ)) → kept_of delivery (presence_unless skip s.entry.info now) ≡ Some kept → look_unless skip s.entry.info now name ≡ look_kept kept name
    by_skip (Some cause) now e = absurd cc
    by_skip None None e = absurd cc
    by_skip None (Some bytes) e =
        let held : KeptModule = record { number = delivery; is_entity = holds_entity s.entry.info; bytes = bytes } in
        let same : held ≡ kept = cc in
        ap (λ (k : KeptModule). look_kept k name) same

-- a look-up of a module that is held sees what there is to be kept of it
pub held_look : (stored : Stored) (path : Path) (kept : KeptModule) → kept_now stored path.component path.«module» ≡ Some kept → look stored path ≡ look_kept kept path.name
held_look stored path kept e = by_messages (messages_of_component stored path.component) e
  where
    delivery : Option ℕ
    delivery = number_of stored path.component path.«module»

    by_messages : (o : Option (List Message)) → kept_of delivery (presence_in o path.«module») ≡ Some kept → look_in o path.«module» path.name ≡ look_kept kept path.name
    by_messages None e = absurd cc
    by_messages (Some messages) e = by_dii (in_force messages) e
      where
        by_dii : (dii : Option Dii) → kept_of delivery (presence_at (standing_of dii path.«module») (bytes_held messages path.«module»)) ≡ Some kept
            → look_behind dii messages path.«module» path.name ≡ look_kept kept path.name
        by_dii None e = absurd cc
        by_dii (Some dii) e = look_standing delivery (standing_of (Some dii) path.«module») (bytes_held messages path.«module») path.name kept e

-- ---- the start path, where its module is held

start_standing : (delivery : Option ℕ) (o : Option Standing) (now : Option (List ℕ)) (kept : KeptModule) → kept_of delivery (presence_at o now) ≡ Some kept
    → start_name (option_map (λ entry. entry.info) (option_map (λ (s : Standing). s.entry) o)) ≡ cond kept.is_entity (codes "startup.bml") []
start_standing delivery None now kept e = absurd cc
start_standing delivery (Some s) now kept e = by_skip s.skip now e
  where
    by_skip : (skip : Option SkipCause) (now : Option (List ℕ)) → kept_of delivery (presence_unless skip s.entry.info now) ≡ Some kept
        → start_name (Some s.entry.info) ≡ cond kept.is_entity (codes "startup.bml") []
    by_skip (Some cause) now e = absurd cc
    by_skip None None e = absurd cc
    by_skip None (Some bytes) e =
        let held : KeptModule = record { number = delivery; is_entity = holds_entity s.entry.info; bytes = bytes } in
        let same : held ≡ kept = cc in
        ap (λ (k : KeptModule). cond k.is_entity (codes "startup.bml") []) same

-- the Type of its entry in force is the one that there is to be kept
pub held_start : (stored : Stored) (kept : KeptModule) → kept_now stored start_component 0 ≡ Some kept → resources.start_path stored ≡ start_path_as kept.is_entity
held_start stored kept e =
    ap (λ (name : List ℕ). let path : Path = record { component = start_component; «module» = 0; name = name } in path)
    (by_messages (messages_of_component stored start_component) e)
  where
    delivery : Option ℕ
    delivery = number_of stored start_component 0

    by_messages : (o : Option (List Message)) → kept_of delivery (presence_in o 0) ≡ Some kept
        → start_name (option_and_then (λ messages. info_in_force messages 0) o) ≡ cond kept.is_entity (codes "startup.bml") []
    by_messages None e = absurd cc
    by_messages (Some messages) e = start_standing delivery (standing_of (in_force messages) 0) (bytes_held messages 0) kept e
