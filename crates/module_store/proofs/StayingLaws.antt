-- What is found stays, until a change of its module is told.
use Rattle.std.proofs.Common.{◌≡◌, ◌≢◌, ◌∙◌, ℕ, zero, suc, ◌+◌, ◌<◌, ◌≤◌, Bool, true, false, cond, eqb, List, [], ◌∷◌, ◌++◌, Option, Some, None, refl, sym, ap, subst, inl, inr, arith}
use Rattle.std.specs.Prelude.{AllPairs, ◌⊎◌, ◌&&◌, ◌||◌, not, map, find, is_some, option_map, option_and_then}
use Rattle.std.specs.Option.{option_map_or}
use Rattle.std.specs.List.{list_any, filter_map, flat_map, range_with_len, cons_option}
use Rattle.std.proofs.lemmas.Bool.{eqb-true, eq-eqb, or_parts}
use Rattle.std.proofs.lemmas.Bool.Decides.{eqb_tells}
use Rattle.std.proofs.lemmas.List.{append-nil}
use Rattle.std.proofs.lemmas.List.Folds.{list_any-append}
use Rattle.psi_tables.specs.declared.components.Component.{Component}
use Rattle.psi_tables.specs.Components.{AreApart}
use Rattle.dsmcc_messages.specs.declared.dii.Dii.{Dii}
use Rattle.dsmcc_messages.specs.declared.entry.Entry.{Entry}
use Rattle.carousel_blocks.specs.declared.standing.SkipCause.{SkipCause}
use Rattle.carousel_blocks.specs.declared.standing.Standing.{Standing}
use Rattle.carousel_blocks.specs.declared.changes.Change.{Change}
use Rattle.carousel_blocks.specs.declared.changes.ChangeLine.{ChangeLine}
use Rattle.carousel_blocks.specs.Message.{Message, message_of, messages_of}
use Rattle.carousel_blocks.specs.InForce.{in_force, standing_of}
use Rattle.carousel_blocks.specs.Held.{bytes_held, same_standing}
use Rattle.carousel_blocks.specs.Changes.{change_of, change_at, changes, number_bound, departures, completed, changed, line_of}
use Rattle.carousel_blocks.specs.Staging.{IsSameModule}
use Rattle.multipart_entities.specs.declared.paths.Path.{Path}
use Rattle.module_store.specs.Carousels.{MessageLaws}
use Rattle.module_store.specs.Store.{Followed, Stored, component_in, messages_of_component, changes_behind, changes_by, followed_with, with_section, messages_on, followed_from, with_map, is_kept, gone_with, tag_bound, gone_by}
use Rattle.module_store.specs.Resources.{Found, named_in, found_or_missing, look_at, look_unless, look_by, look_behind, look_in, look, info_in_force, start_component, start_name, start_path}
use Rattle.module_store.specs.Staying.{tells_of, is_gone}
use Rattle.module_store.proofs.FindLaws.{found_passes, if_passes, find-map}
use Rattle.module_store.proofs.FeedLaws.{component_behind, extended}
use Rattle.module_store.proofs.MapLaws.{is_tagged, one_of_each, kept_by_pid}

-- ---- tests over lists

-- A test of what a function gives of some items is a test of the items.
module _ {X Y : Type 0} where
  any-map : (p : Y → Bool) (f : X → Y) (xs : List X) → list_any p (map f xs) ≡ list_any (λ x. p (f x)) xs
  any-map p f [] = refl
  any-map p f (x ∷ xs) = ap (λ b. p (f x) || b) (any-map p f xs)

  any-filter_map : (p : Y → Bool) (f : X → Option Y) (xs : List X) → list_any p (filter_map f xs) ≡ list_any (λ x. option_map_or p (f x) false) xs
  any-filter_map p f [] = refl
  any-filter_map p f (x ∷ xs) = first (f x) (filter_map f xs) ∙ ap (λ b. option_map_or p (f x) false || b) (any-filter_map p f xs)
    where
      first : (o : Option Y) (ys : List Y) → list_any p (cons_option o ys) ≡ (option_map_or p o false || list_any p ys)
      first None ys = refl
      first (Some y) ys = refl

  any-flat_map : (p : Y → Bool) (f : X → List Y) (xs : List X) → list_any p (flat_map f xs) ≡ list_any (λ x. list_any p (f x)) xs
  any-flat_map p f [] = refl
  any-flat_map p f (x ∷ xs) = list_any-append p (f x) (flat_map f xs) ∙ ap (λ b. list_any p (f x) || b) (any-flat_map p f xs)

-- where no number of a range passes, each of them fails
none_in_range : (p : ℕ → Bool) (from count number : ℕ) → from ≤ number → number < from + count → list_any p (range_with_len from count) ≡ false → p number ≡ false
none_in_range p from zero number low high none = absurd (omega arith)
none_in_range p from (suc count) number low high none =
    let parts = or_parts (p from) (list_any p (range_with_len (from + 1) count)) none in
    by_place (eqb_tells from number) parts.0 (λ low. none_in_range p (from + 1) count number low (omega arith) parts.1)
  where
    by_place : ((eqb from number ≡ true) × (from ≡ number)) ⊎ ((eqb from number ≡ false) × (from ≢ number)) → p from ≡ false → (from + 1 ≤ number → p number ≡ false) → p number ≡ false
    by_place (inl same) first later = ap p (sym same.1) ∙ first
    by_place (inr differ) first later = later (omega (arith, low, differ.1))

-- ---- changes of a module

-- a change of a module has its number
names_it : (number : ℕ) (old new : Option Standing) (was now : Option (List ℕ))
    → option_map_or (λ change. eqb change.module number) (change_of number old new was now) false ≡ is_some (change_of number old new was now)
names_it number None None was now = refl
names_it number (Some old) None was now = eq-eqb number number refl
names_it number None (Some new) was now = eq-eqb number number refl
names_it number (Some old) (Some new) was now = by_tests new.entry (line_of new now) (same_standing old new) (not (is_some was) && is_some now)
  where
    by_tests : (entry : Entry) (line : Option ChangeLine) (same complete : Bool)
        → option_map_or (λ change. eqb change.module number) (cond same (cond complete (Some (completed number entry)) None) (Some (changed number line))) false
        ≡ is_some (cond same (cond complete (Some (completed number entry)) None) (Some (changed number line)))
    by_tests entry line true true = eq-eqb number number refl
    by_tests entry line true false = refl
    by_tests entry line false complete = eq-eqb number number refl

-- what isn't there is None
is_none : {A : Type 0} (o : Option A) → is_some o ≡ false → o ≡ None
is_none None e = refl
is_none (Some x) e = absurd cc

-- where no change of the module is told, it has none
untold : (before now : List Message) (number : ℕ) → number < number_bound → tells_of number (changes before now) ≡ false → change_at before now number ≡ None
unfolding changes
untold before now number low none =
    is_none (change_at before now number) (
    sym (names_it number (standing_of (in_force before) number) (standing_of (in_force now) number) (bytes_held before number) (bytes_held now number))
    ∙ none_in_range (λ n. option_map_or (λ change. eqb change.module number) (change_at before now n) false) 0 number_bound number (omega arith) (omega arith)
    (sym (any-filter_map (λ change. eqb change.module number) (change_at before now) (range_with_len 0 number_bound)) ∙ none)
    )

-- module numbers have two bytes, and component_tags one
pub number_is_low : (number : ℕ) → number < 65536 → number < number_bound
unfolding number_bound
number_is_low number low = low

tag_is_low : (tag : ℕ) → tag < 256 → tag < tag_bound
unfolding tag_bound
tag_is_low tag low = low

-- ---- what is found in a component

-- What a module's standing and its bytes are where something is found in it: its entry isn't skipped and has this
-- info, and the module is held with this content, in which the name has the bytes.
record IsFound (standing : Option Standing) (held_now : Option (List ℕ)) (name bytes : List ℕ) : Type 0 where
  info : List ℕ
  content : List ℕ
  informed : option_map (λ entry. entry.info) (option_map (λ s. s.entry) standing) ≡ Some info
  unskipped : option_and_then (λ s. s.skip) standing ≡ None
  whole : held_now ≡ Some content
  named : named_in info content name ≡ Some bytes

-- it is so where something is found
found_by : (standing : Option Standing) (held_now : Option (List ℕ)) (name bytes : List ℕ) → look_by standing held_now name ≡ Found bytes → IsFound standing held_now name bytes
found_by None held_now name bytes e = absurd cc
found_by (Some s) held_now name bytes e = by_skip s.skip held_now refl e
  where
    has_name : (o : Option (List ℕ)) → found_or_missing o ≡ Found bytes → o ≡ Some bytes
    has_name None e = absurd cc
    has_name (Some b) e = cc

    by_skip : (skip : Option SkipCause) (o : Option (List ℕ)) → s.skip ≡ skip → look_unless skip s.entry.info o name ≡ Found bytes → IsFound (Some s) o name bytes
    by_skip (Some cause) o is e = absurd cc
    by_skip None None is e = absurd cc
    by_skip None (Some content) is e = record { info = s.entry.info; content = content; informed = refl; unskipped = is; whole = refl; named = has_name (named_in s.entry.info content name) e }

-- and something is found where it is so
by_found : (standing : Option Standing) (held_now : Option (List ℕ)) (name bytes : List ℕ) → IsFound standing held_now name bytes → look_by standing held_now name ≡ Found bytes
by_found None held_now name bytes f = let none = f.informed in absurd cc
by_found (Some s) held_now name bytes f =
    let info_is : s.entry.info ≡ f.info = let e = f.informed in cc in
    ap (λ skip. look_unless skip s.entry.info held_now name) f.unskipped
    ∙ ap (λ o. look_at s.entry.info o name) f.whole
    ∙ ap (λ info. found_or_missing (named_in info f.content name)) info_is
    ∙ ap (λ o. found_or_missing o) f.named

-- the same in a component
abbrev IsFoundIn : List Message → ℕ → List ℕ → List ℕ → Type 0
IsFoundIn messages number name bytes = IsFound (standing_of (in_force messages) number) (bytes_held messages number) name bytes

found_in : (messages : List Message) (number : ℕ) (name bytes : List ℕ) → look_in (Some messages) number name ≡ Found bytes → IsFoundIn messages number name bytes
found_in messages number name bytes e = by_dii (in_force messages) e
  where
    by_dii : (dii : Option Dii) → look_behind dii messages number name ≡ Found bytes → IsFound (standing_of dii number) (bytes_held messages number) name bytes
    by_dii None e = absurd cc
    by_dii (Some dii) e = found_by (standing_of (Some dii) number) (bytes_held messages number) name bytes e

in_found : (messages : List Message) (number : ℕ) (name bytes : List ℕ) → IsFoundIn messages number name bytes → look_in (Some messages) number name ≡ Found bytes
in_found messages number name bytes f = by_dii (in_force messages) f
  where
    by_dii : (dii : Option Dii) → IsFound (standing_of dii number) (bytes_held messages number) name bytes → look_behind dii messages number name ≡ Found bytes
    by_dii None f = let none = f.informed in absurd cc
    by_dii (Some dii) f = by_found (standing_of (Some dii) number) (bytes_held messages number) name bytes f

-- it stays found where the module is the same
still_found : (before now : List Message) (number : ℕ) (name bytes : List ℕ) → IsSameModule before now number → IsFoundIn before number name bytes → IsFoundIn now number name bytes
still_found before now number name bytes same f = record {
  info = f.info;
  content = f.content;
  informed = same.info ∙ f.informed;
  unskipped = same.skip ∙ f.unskipped;
  whole = same.bytes ∙ f.whole;
  named = f.named;
}

-- ---- what stays in a store

-- where the module has an entry, its component is still there, and the module is the same in it
abbrev pub KeepsModule : Stored → Stored → ℕ → ℕ → Type 0
KeepsModule before now tag number =
    (component : Followed) (info : List ℕ) → component_in before.components tag ≡ Some component → info_in_force component.messages number ≡ Some info
    → (messages : List Message) × (messages_of_component now tag ≡ Some messages) × IsSameModule component.messages messages number

-- then what is found in the module stays
pub look_stays : (before now : Stored) (path : Path) (bytes : List ℕ) → KeepsModule before now path.component path.module → look before path ≡ Found bytes → look now path ≡ Found bytes
look_stays before now path bytes keeps e = by_component (component_in before.components path.component) refl e
  where
    by_component : (o : Option Followed) → component_in before.components path.component ≡ o → look_in (option_map (λ c. c.messages) o) path.module path.name ≡ Found bytes → look now path ≡ Found bytes
    by_component None is e = absurd cc
    by_component (Some component) is e =
        let found = found_in component.messages path.module path.name bytes e in
        let kept = keeps component found.info is found.informed in
        ap (λ o. look_in o path.module path.name) kept.1
        ∙ in_found kept.0 path.module path.name bytes (still_found component.messages kept.0 path.module path.name bytes kept.2 found)

-- the info of a module's entry in force, in a component
abbrev info_in : ℕ → Option Followed → Option (List ℕ)
info_in number component = option_and_then (λ messages. info_in_force messages number) (option_map (λ c. c.messages) component)

-- the same in a store
abbrev info_of : Stored → ℕ → ℕ → Option (List ℕ)
info_of stored tag number = info_in number (component_in stored.components tag)

-- where the info of the start document's module stays, the start path does
pub start_stays : (before now : Stored) → info_of now start_component 0 ≡ info_of before start_component 0 → start_path now ≡ start_path before
start_stays before now same = ap (λ info. let path : Path = record { component = start_component; «module» = 0; name = start_name info } in path) same

-- ---- one more section

-- where no change of the module is told behind a section, it is the same, whether or not the section has a message
pub same_behind : MessageLaws → (messages : List Message) (section : List ℕ) (number : ℕ) → change_at messages (messages ++ messages_of (section ∷ [])) number ≡ None
    → IsSameModule messages (messages ++ messages_of (section ∷ [])) number
same_behind laws messages section number none = by_message (message_of section) none
  where
    by_message : (o : Option Message) → change_at messages (messages ++ cons_option o []) number ≡ None → IsSameModule messages (messages ++ cons_option o []) number
    by_message None none = subst (λ now. IsSameModule messages now number) (sym (append-nil messages)) (record { info = refl; skip = refl; bytes = refl })
    by_message (Some message) none = laws.same messages message number none

-- A section leaves the same each module of another component, and of its own component each of which it tells no change.
section_same : MessageLaws → (stored : Stored) (tag : ℕ) (section : List ℕ) (its_tag number : ℕ) → number < 65536
    → (tag ≡ its_tag → tells_of number (changes_by tag section stored) ≡ false) → (component : Followed) → component_in stored.components its_tag ≡ Some component
    → (messages : List Message) × (messages_of_component (with_section tag section stored) its_tag ≡ Some messages) × IsSameModule component.messages messages number
section_same laws stored tag section its_tag number low quiet component is = by_tag (eqb_tells component.tag tag)
  where
    now : List Message
    now = component.messages ++ messages_of (section ∷ [])

    tagged : component.tag ≡ its_tag
    tagged = eqb-true component.tag its_tag (found_passes (λ c. eqb c.tag its_tag) stored.components component is)

    -- its component behind the section
    behind : messages_of_component (with_section tag section stored) its_tag ≡ Some (followed_with tag section component).messages
    behind = ap (λ (o : Option Followed). option_map (λ c. c.messages) o) (component_behind tag its_tag section stored.components ∙ ap (λ (o : Option Followed). option_map (followed_with tag section) o) is)

    -- where the section is of the component
    no_change : component.tag ≡ tag → tells_of number (changes component.messages now) ≡ false
    no_change same =
        let here : component_in stored.components tag ≡ Some component = subst (λ t. component_in stored.components t ≡ Some component) (sym tagged ∙ same) is in
        ap (λ (o : Option Followed). tells_of number (changes_behind (option_map (λ c. c.messages) o) section)) (sym here) ∙ quiet (sym same ∙ tagged)

    by_tag : ((eqb component.tag tag ≡ true) × (component.tag ≡ tag)) ⊎ ((eqb component.tag tag ≡ false) × (component.tag ≢ tag))
        → (messages : List Message) × (messages_of_component (with_section tag section stored) its_tag ≡ Some messages) × IsSameModule component.messages messages number
    by_tag (inl same) = (
      now,
      behind ∙ ap (λ b. Some (cond b (extended section component) component).messages) same.0,
      same_behind laws component.messages section number (untold component.messages now number (number_is_low number low) (no_change same.1)),
    )
    by_tag (inr differ) = (component.messages, behind ∙ ap (λ b. Some (cond b (extended section component) component).messages) differ.0, record { info = refl; skip = refl; bytes = refl })

-- so it keeps it
pub section_keeps : MessageLaws → (stored : Stored) (tag : ℕ) (section : List ℕ) (its_tag number : ℕ) → number < 65536
    → (tag ≡ its_tag → tells_of number (changes_by tag section stored) ≡ false) → KeepsModule stored (with_section tag section stored) its_tag number
section_keeps laws stored tag section its_tag number low quiet component info is informed = section_same laws stored tag section its_tag number low quiet component is

-- and its info stays, also where it has none
pub section_informs : MessageLaws → (stored : Stored) (tag : ℕ) (section : List ℕ) (its_tag number : ℕ) → number < 65536
    → (tag ≡ its_tag → tells_of number (changes_by tag section stored) ≡ false) → info_of (with_section tag section stored) its_tag number ≡ info_of stored its_tag number
section_informs laws stored tag section its_tag number low quiet = by_component (component_in stored.components its_tag) refl
  where
    by_component : (o : Option Followed) → component_in stored.components its_tag ≡ o → info_of (with_section tag section stored) its_tag number ≡ info_in number o
    by_component None is = ap (λ o. info_in number o) (component_behind tag its_tag section stored.components ∙ ap (λ (o : Option Followed). option_map (followed_with tag section) o) is)
    by_component (Some component) is =
        let kept = section_same laws stored tag section its_tag number low quiet component is in
        ap (λ (o : Option (List Message)). option_and_then (λ messages. info_in_force messages number) o) kept.1 ∙ kept.2.info

-- ---- another component map

-- the component that is found, where it is on the PID
found_on : (pid : ℕ) (o : Option Component) → is_some (option_and_then (if_passes (λ (c : Component). eqb c.pid pid)) o) ≡ true → (c : Component) × (o ≡ Some c) × (c.pid ≡ pid)
found_on pid None e = absurd cc
found_on pid (Some c) e = by_test (eqb c.pid pid) refl e
  where
    by_test : (b : Bool) → eqb c.pid pid ≡ b → is_some (cond b (Some c) None) ≡ true → (d : Component) × (Some c ≡ Some d) × (d.pid ≡ pid)
    by_test false is e = absurd cc
    by_test true is e = (c, refl, eqb-true c.pid pid is)

-- a module with an entry goes with its component
goes : (number : ℕ) (standing : Option Standing) (was now : Option (List ℕ)) (info : List ℕ) → option_map (λ entry. entry.info) (option_map (λ s. s.entry) standing) ≡ Some info
    → change_of number standing None was now ≡ None → ⊥
goes number None was now info informed none = absurd cc
goes number (Some s) was now info informed none = absurd cc

-- a module that isn't among all that goes isn't among what goes with its component
none_goes : (components : List Component) (stored : Stored) (tag number : ℕ) → tag < 256 → is_gone tag number (gone_by components stored) ≡ false
    → is_gone tag number (gone_with components (component_in stored.components tag)) ≡ false
none_goes components stored tag number low none =
    let passes = λ (change : ℕ × Change). eqb change.0 tag && eqb change.1.module number in
    let goes_with = λ (t : ℕ). gone_with components (component_in stored.components t) in
    none_in_range (λ t. list_any passes (goes_with t)) 0 tag_bound tag (omega arith) (let l = tag_is_low tag low in omega arith)
    (sym (any-flat_map passes goes_with (range_with_len 0 tag_bound)) ∙ none)

-- A component map keeps each module of which it isn't told that it is gone.
pub map_keeps : (stored : Stored) (components : List Component) (tag number : ℕ) → tag < 256 → number < 65536 → AllPairs AreApart components → is_gone tag number (gone_by components stored) ≡ false
    → KeepsModule stored (with_map components stored) tag number
map_keeps stored components tag number tag_low low apart none component info is informed = by_kept (is_kept components component.tag component.pid) refl
  where
    tagged : component.tag ≡ tag
    tagged = eqb-true component.tag tag (found_passes (λ c. eqb c.tag tag) stored.components component is)

    -- on the same PID, its messages are kept
    kept_messages : (c : Component) → find (is_tagged tag) components ≡ Some c → c.pid ≡ component.pid → messages_of_component (with_map components stored) tag ≡ Some component.messages
    kept_messages c found placed =
        ap (λ (o : Option Followed). option_map (λ f. f.messages) o) (find-map (λ f. eqb f.tag tag) (followed_from stored.components) components ∙ ap (λ (o : Option Component). option_map (followed_from stored.components) o) found)
        ∙ ap (λ t. Some (messages_on c.pid (component_in stored.components t))) (eqb-true c.tag tag (found_passes (is_tagged tag) components c found))
        ∙ ap (λ o. Some (messages_on c.pid o)) is
        ∙ ap (λ b. Some (cond b component.messages [])) (eq-eqb component.pid c.pid (sym placed))

    -- it can't have left its PID, since the module would be among those that go then
    must_stay : is_kept components component.tag component.pid ≡ false → ⊥
    must_stay leaves =
        let of_module = λ (change : Change). eqb change.module number in
        let all_gone : list_any (λ (change : Change). eqb component.tag tag && of_module change) (departures component.messages) ≡ false
        = sym (any-map (λ (change : ℕ × Change). eqb change.0 tag && of_module change.1) (λ (change : Change). (component.tag, change)) (departures component.messages))
        ∙ ap (λ b. is_gone tag number (cond b [] (map (λ change. (component.tag, change)) (departures component.messages)))) (sym leaves)
        ∙ ap (λ o. is_gone tag number (gone_with components o)) (sym is) ∙ none_goes components stored tag number tag_low none in
        let untold_now = untold component.messages [] number (number_is_low number low)
        (ap (λ b. list_any (λ (change : Change). b && of_module change) (departures component.messages)) (sym (eq-eqb component.tag tag tagged)) ∙ all_gone) in
        goes number (standing_of (in_force component.messages) number) (bytes_held component.messages number) (bytes_held [] number) info informed untold_now

    by_kept : (b : Bool) → is_kept components component.tag component.pid ≡ b
        → (messages : List Message) × (messages_of_component (with_map components stored) tag ≡ Some messages) × IsSameModule component.messages messages number
    by_kept true e =
        let there = sym (kept_by_pid components (one_of_each components apart) tag component.pid) ∙ ap (λ t. is_kept components t component.pid) (sym tagged) ∙ e in
        let c = found_on component.pid (find (is_tagged tag) components) there in
        (component.messages, kept_messages c.0 c.1 c.2, record { info = refl; skip = refl; bytes = refl })
    by_kept false e = absurd (must_stay e)

-- The info of a module stays where a map doesn't take its entry away. A module without an entry gets none by a map.
pub map_informs : (stored : Stored) (components : List Component) (tag number : ℕ) → tag < 256 → number < 65536 → AllPairs AreApart components → is_gone tag number (gone_by components stored) ≡ false
    → info_of (with_map components stored) tag number ≡ info_of stored tag number
map_informs stored components tag number tag_low low apart none = by_component (component_in stored.components tag) refl
  where
    -- a component of the map has the messages from before, or none
    on_pid : (pid : ℕ) (o : Option Followed) → info_in number o ≡ None → info_in_force (messages_on pid o) number ≡ None
    on_pid pid None e = refl
    on_pid pid (Some component) e = elim (eqb component.pid pid) as (λ b. info_in_force (cond b component.messages []) number ≡ None) [ true ↦ e | false ↦ refl ]

    by_map : (o : Option Followed) → component_in stored.components tag ≡ o → info_in number o ≡ None → (c : Option Component) → find (is_tagged tag) components ≡ c
        → info_in number (option_map (followed_from stored.components) c) ≡ None
    by_map o is e None found = refl
    by_map o is e (Some c) found =
        ap (λ t. info_in_force (messages_on c.pid (component_in stored.components t)) number) (eqb-true c.tag tag (found_passes (is_tagged tag) components c found))
        ∙ ap (λ o. info_in_force (messages_on c.pid o) number) is
        ∙ on_pid c.pid o e

    none_before : (o : Option Followed) → component_in stored.components tag ≡ o → info_in number o ≡ None → info_of (with_map components stored) tag number ≡ None
    none_before o is e =
        ap (λ o. info_in number o) (find-map (λ f. eqb f.tag tag) (followed_from stored.components) components)
        ∙ by_map o is e (find (is_tagged tag) components) refl

    by_info : (component : Followed) → component_in stored.components tag ≡ Some component → (i : Option (List ℕ)) → info_in_force component.messages number ≡ i
        → info_of (with_map components stored) tag number ≡ i
    by_info component is None e = none_before (Some component) is e
    by_info component is (Some info) e =
        let kept = map_keeps stored components tag number tag_low low apart none component info is e in
        ap (λ (o : Option (List Message)). option_and_then (λ messages. info_in_force messages number) o) kept.1 ∙ kept.2.info ∙ e

    by_component : (o : Option Followed) → component_in stored.components tag ≡ o → info_of (with_map components stored) tag number ≡ info_in number o
    by_component None is = none_before None is refl
    by_component (Some component) is = by_info component is (info_in_force component.messages number) refl
