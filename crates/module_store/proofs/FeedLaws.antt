-- One more section of a component.
use Rattle.std.proofs.Common.{◌≡◌, ◌∙◌, ℕ, ◌+◌, ◌<◌, Bool, true, false, cond, eqb, List, [], ◌∷◌, ◌++◌, length, get_or, set, Option, Some, None, refl, sym, ap, ap₂, subst, inl, inr, arith}
use Rattle.std.specs.Prelude.{◌⊎◌, map, position, is_some, option_map}
use Rattle.std.specs.Prelude.{Vec, Result, Ok, Err, IfOk, OnErr}
use Rattle.std.specs.declared.alloc.Global.{Global}
use Rattle.std.specs.Option.{option_or, option_map_or}
use Rattle.std.specs.List.{list_any}
use Rattle.std.proofs.lemmas.Bool.{eqb-true, eqb-false, eq-eqb, ne_eqb}
use Rattle.std.proofs.lemmas.List.{append-nil, length-append, length-map}
use Rattle.std.proofs.lemmas.List.Folds.{find_past}
use Rattle.std.proofs.lemmas.List.Quantifiers.{position-Some}
use Rattle.carousel_blocks.specs.declared.changes.Change.{Change}
use Rattle.carousel_blocks.specs.Message.{Message, messages_of}
use Rattle.carousel_blocks.specs.Held.{bytes_held}
use Rattle.carousel_blocks.specs.Changes.{changes, number_bound}
use Rattle.module_store.specs.Store.{Followed, Stored, component_in, changes_behind, changes_by, deliveries_of, followed_with, with_section, last_place_from, last_place, number_at}
use Rattle.module_store.specs.Standing.{ComponentState, delivery_in, has_tag, component_with, Follows, StandsFor}
use Rattle.module_store.specs.Slots.{TakesSection, KeepsSame}
use Rattle.module_store.specs.Noted.{noted, noted_count}
use Rattle.module_store.proofs.FindLaws.{find-ext, find-map, found_passes, found_at, found_set}
use Rattle.module_store.proofs.DeliveryLaws.{of_component, last_place-append, last_place-other, noted_is, noted_count_is, has_place, section_delivers}

-- ---- what is looked up behind it

module _ (slots : List ComponentState) (place tag : ℕ) (slot new : ComponentState) (at : position (has_tag tag) slots ≡ Some place) (is : slot ≡ get_or slots place slot) (same : new.tag ≡ slot.tag) where
  slot_tag : eqb slot.tag tag ≡ true
  slot_tag = ap (λ (s : ComponentState). has_tag tag s) is ∙ (position-Some (has_tag tag) slots place slot at).1

  abbrev pub LookedUp : ℕ → Type 0
  LookedUp t =
      ((tag ≡ t) × (component_with slots t ≡ Some slot) × (component_with (set slots place new) t ≡ Some new))
      ⊎ ((eqb tag t ≡ false) × (component_with (set slots place new) t ≡ component_with slots t))

  pub looked_up : (t : ℕ) → LookedUp t
  looked_up t = by_test (eqb tag t) refl
    where
      by_test : (b : Bool) → eqb tag t ≡ b → LookedUp t
      by_test true e =
          let equal = eqb-true tag t e in
          inl (
            equal,
            subst (λ u. component_with slots u ≡ Some slot) equal (found_at (has_tag tag) slots place slot at is),
            subst (λ u. component_with (set slots place new) u ≡ Some new) equal (found_set (has_tag tag) slots place new at (ap (λ u. eqb u tag) same ∙ slot_tag)),
          )
      by_test false e =
          let old : has_tag t (get_or slots place slot) ≡ false = ap (λ (s : ComponentState). has_tag t s) (sym is) ∙ ap (λ u. eqb u t) (eqb-true slot.tag tag slot_tag) ∙ e in
          let now : has_tag t new ≡ false = ap (λ u. eqb u t) (same ∙ eqb-true slot.tag tag slot_tag) ∙ e in
          inr (e, find_past (has_tag t) slots place new slot old now)

  -- the same components are there
  pub same_components : (t : ℕ) → is_some (component_with (set slots place new) t) ≡ is_some (component_with slots t)
  same_components t = by_cases (looked_up t)
    where
      by_cases : LookedUp t → is_some (component_with (set slots place new) t) ≡ is_some (component_with slots t)
      by_cases (inl h) = rw (h.1, h.2) refl
      by_cases (inr h) = ap (λ (o : Option ComponentState). is_some o) h.1

-- the component that is followed, with the messages of the section
section_tag : (tag t : ℕ) (section : List ℕ) (component : Followed) → eqb (followed_with tag section component).tag t ≡ eqb component.tag t
section_tag tag t section component = ap (λ u. eqb u t) (elim (eqb component.tag tag) as (λ b. (cond b (record { tag = component.tag; pid = component.pid; messages = component.messages ++ messages_of (section ∷ []) }) component).tag ≡ component.tag) [ true ↦ refl | false ↦ refl ])

pub component_behind : (tag t : ℕ) (section : List ℕ) (components : List Followed) → component_in (map (followed_with tag section) components) t ≡ option_map (followed_with tag section) (component_in components t)
component_behind tag t section components =
    find-map (λ c. eqb c.tag t) (followed_with tag section) components
    ∙ ap (λ (o : Option Followed). option_map (followed_with tag section) o) (find-ext (λ c. eqb (followed_with tag section c).tag t) (λ c. eqb c.tag t) (section_tag tag t section) components)

-- a section of a component that isn't there changes nothing
pub absent_section : (tag : ℕ) (section : List ℕ) (stored : Stored) → component_in stored.components tag ≡ None → with_section tag section stored ≡ stored
absent_section tag section stored none =
    ap₂ (λ components behind. let s : Stored = record { components = components; deliveries = stored.deliveries ++ behind } in s) (same stored.components none)
    (ap (λ (o : Option Followed). map (λ number. (tag, number)) (deliveries_of (changes_behind (option_map (λ c. c.messages) o) section))) none)
    ∙ ap (λ deliveries. let s : Stored = record { components = stored.components; deliveries = deliveries } in s) (append-nil stored.deliveries)
  where
    same : (components : List Followed) → component_in components tag ≡ None → map (followed_with tag section) components ≡ components
    same [] e = refl
    same (c ∷ components) e = by_test (eqb c.tag tag) (same components) e
      where
        by_test : (b : Bool) → (component_in components tag ≡ None → map (followed_with tag section) components ≡ components) → cond b (Some c) (component_in components tag) ≡ None
            → cond b (record { tag = c.tag; pid = c.pid; messages = c.messages ++ messages_of (section ∷ []) }) c ∷ map (followed_with tag section) components ≡ c ∷ components
        by_test true again e = absurd cc
        by_test false again e = ap (λ l. c ∷ l) (again e)

-- ---- the component of the section

abbrev pub extended : List ℕ → Followed → Followed
extended section component = record { tag = component.tag; pid = component.pid; messages = component.messages ++ messages_of (section ∷ []) }

-- a number behind more deliveries, where it stays if none of these is the module's
by_later : (later before : Option ℕ) (was : ℕ) → (is_some later ≡ false → option_map number_at before ≡ Some was) → option_map number_at (option_or later before) ≡ Some (option_map_or number_at later was)
by_later None before was h = h refl
by_later (Some place) before was h = refl

last_place_behind : (tag number : ℕ) (deliveries behind : List (ℕ × ℕ)) → last_place tag number (deliveries ++ behind) ≡ option_or (last_place_from (length deliveries + 1) tag number behind) (last_place tag number deliveries)
last_place_behind tag number deliveries behind =
    let e : 1 + length deliveries ≡ length deliveries + 1 = omega arith in
    last_place-append 1 tag number deliveries behind ∙ ap (λ n. option_or (last_place_from n tag number behind) (last_place tag number deliveries)) e

-- a module that is held behind the section and isn't delivered by it was held before
was_held : (before now : List Message) (number : ℕ) → number < number_bound → is_some (bytes_held now number) ≡ true → list_any (λ n. eqb n number) (deliveries_of (changes before now)) ≡ false → is_some (bytes_held before number) ≡ true
was_held before now number low is none = by_held (bytes_held before number) refl
  where
    by_held : (o : Option (List ℕ)) → bytes_held before number ≡ o → is_some o ≡ true
    by_held None e = let delivered = section_delivers before now number low e is in absurd cc
    by_held (Some bytes) e = refl

follows_taken : (slot new : ComponentState) (component : Followed) (deliveries : List (ℕ × ℕ)) (count new_count tag : ℕ) (section : List ℕ) (found : List Change)
    → component.tag ≡ tag → count ≡ number_at (length deliveries) → Follows slot component deliveries → TakesSection slot new count new_count section found
    → Follows new (extended section component) (deliveries ++ of_component tag (deliveries_of found))
follows_taken slot new component deliveries count new_count tag section found tagged counted f t =
    record { pid = t.pid ∙ f.pid; carousel = t.carousel component.messages f.carousel; numbers = numbers }
  where
    now : List Message
    now = component.messages ++ messages_of (section ∷ [])

    later : ℕ → Option ℕ
    later number = last_place_from (length deliveries + 1) tag number (of_component tag (deliveries_of found))

    before : (number : ℕ) → number < number_bound → is_some (bytes_held now number) ≡ true → is_some (later number) ≡ false → option_map number_at (last_place tag number deliveries) ≡ Some (delivery_in slot.deliveries number)
    before number low is none =
        let changed : list_any (λ n. eqb n number) (deliveries_of (changes component.messages now)) ≡ false
        = ap (λ l. list_any (λ n. eqb n number) (deliveries_of l)) (sym (t.changes_are component.messages f.carousel)) ∙ sym (has_place (length deliveries + 1) tag number (deliveries_of found)) ∙ none in
        rw (← tagged) (f.numbers number low (was_held component.messages now number low is changed))

    numbers : (number : ℕ) → number < number_bound → is_some (bytes_held now number) ≡ true
        → option_map number_at (last_place component.tag number (deliveries ++ of_component tag (deliveries_of found))) ≡ Some (delivery_in new.deliveries number)
    numbers number low is =
        ap (λ u. option_map number_at (last_place u number (deliveries ++ of_component tag (deliveries_of found)))) tagged
        ∙ ap (λ o. option_map number_at o) (last_place_behind tag number deliveries (of_component tag (deliveries_of found)))
        ∙ by_later (later number) (last_place tag number deliveries) (delivery_in slot.deliveries number) (before number low is)
        ∙ ap (λ (n : ℕ). Some n) (sym (t.numbers number ∙ ap (λ k. noted k (deliveries_of found) (delivery_in slot.deliveries) number) counted ∙ noted_is (length deliveries) tag (deliveries_of found) (delivery_in slot.deliveries) number))

-- the deliveries of another component change nothing
follows_other : (slot : ComponentState) (component : Followed) (deliveries : List (ℕ × ℕ)) (tag : ℕ) (numbers : List ℕ) → eqb tag component.tag ≡ false → Follows slot component deliveries
    → Follows slot component (deliveries ++ of_component tag numbers)
follows_other slot component deliveries tag numbers differ f = record {
  pid = f.pid;
  carousel = f.carousel;
  numbers = λ number low is.
      ap (λ o. option_map number_at o) (last_place_behind component.tag number deliveries (of_component tag numbers)
      ∙ ap (λ o. option_or o (last_place component.tag number deliveries)) (last_place-other (length deliveries + 1) component.tag tag number numbers differ))
      ∙ f.numbers number low is;
}

-- ---- the store

module _ (slots : List ComponentState) (count : ℕ) (stored : Stored) (stands : StandsFor (record { components = slots; count = count }) stored) where
  -- the component is followed
  pub has_followed : (tag : ℕ) (slot : ComponentState) → component_with slots tag ≡ Some slot → (component : Followed) × (component_in stored.components tag ≡ Some component) × (component.tag ≡ tag) × Follows slot component stored.deliveries
  has_followed tag slot e = by_component (component_in stored.components tag) refl (sym (stands.tags tag) ∙ ap (λ (o : Option ComponentState). is_some o) e)
    where
      by_component : (o : Option Followed) → component_in stored.components tag ≡ o → is_some o ≡ true
          → (component : Followed) × (component_in stored.components tag ≡ Some component) × (component.tag ≡ tag) × Follows slot component stored.deliveries
      by_component None same h = absurd cc
      by_component (Some component) same h = (component, same, eqb-true component.tag tag (found_passes (λ c. eqb c.tag tag) stored.components component same), stands.components tag slot component e same)

module _ (slots : List ComponentState) (count new_count place tag : ℕ) (slot new : ComponentState) (section : List ℕ) (found : List Change) (stored : Stored)
    (at : position (has_tag tag) slots ≡ Some place) (is : slot ≡ get_or slots place slot) (taken : TakesSection slot new count new_count section found)
    (stands : StandsFor (record { components = slots; count = count }) stored) where
  pub its_component : (component : Followed) × (component_in stored.components tag ≡ Some component) × (component.tag ≡ tag) × Follows slot component stored.deliveries
  its_component = has_followed slots count stored stands tag slot (found_at (has_tag tag) slots place slot at is)

  pub changes_taken : found ≡ changes_by tag section stored
  changes_taken =
      taken.changes_are its_component.0.messages its_component.3.carousel
      ∙ ap (λ (o : Option Followed). changes_behind (option_map (λ c. c.messages) o) section) (sym its_component.1)

  abbrev deliveries_now : List (ℕ × ℕ)
  deliveries_now = stored.deliveries ++ of_component tag (deliveries_of found)

  follows_now : (t : ℕ) (now : ComponentState) (component : Followed) → component_with (set slots place new) t ≡ Some now → component_in (map (followed_with tag section) stored.components) t ≡ Some component → Follows now component deliveries_now
  follows_now t now component e h = by_cases (looked_up slots place tag slot new at is taken.tag t) (component_in stored.components t) refl (sym (component_behind tag t section stored.components) ∙ h)
    where
      by_cases : LookedUp slots place tag slot new at is taken.tag t → (o : Option Followed) → component_in stored.components t ≡ o → option_map (followed_with tag section) o ≡ Some component → Follows now component deliveries_now
      by_cases l None same h = absurd cc
      by_cases (inl l) (Some c) same h =
          let tagged : c.tag ≡ tag = eqb-true c.tag t (found_passes (λ c. eqb c.tag t) stored.components c same) ∙ sym l.0 in
          let extends : extended section c ≡ component = ap (λ b. cond b (extended section c) c) (sym (eq-eqb c.tag tag tagged)) ∙ (let e : followed_with tag section c ≡ component = cc in e) in
          let slot_is : new ≡ now = cc in
          subst (λ (s : ComponentState). Follows s component deliveries_now) slot_is (subst (λ f. Follows new f deliveries_now) extends
          (follows_taken slot new c stored.deliveries count new_count tag section found tagged stands.count (stands.components t slot c l.1 same) taken))
      by_cases (inr l) (Some c) same h =
          let tagged : c.tag ≡ t = eqb-true c.tag t (found_passes (λ c. eqb c.tag t) stored.components c same) in
          let differs : eqb c.tag tag ≡ false = ne_eqb c.tag tag (λ e. eqb-false tag t l.0 (sym e ∙ tagged)) in
          let stays : c ≡ component = ap (λ b. cond b (extended section c) c) (sym differs) ∙ (let e : followed_with tag section c ≡ component = cc in e) in
          let other : eqb tag c.tag ≡ false = ap (λ u. eqb tag u) tagged ∙ l.0 in
          subst (λ f. Follows now f deliveries_now) stays (follows_other now c stored.deliveries tag (deliveries_of found) other (stands.components t now c (sym l.1 ∙ e) same))

  stands_now : StandsFor (record { components = set slots place new; count = new_count }) (record { components = map (followed_with tag section) stored.components; deliveries = deliveries_now })
  stands_now = record {
    count = taken.count_is ∙ ap (λ k. noted_count k (deliveries_of found)) stands.count ∙ noted_count_is (length stored.deliveries) (deliveries_of found)
        ∙ ap number_at (sym (length-append stored.deliveries (of_component tag (deliveries_of found)) ∙ ap (λ n. length stored.deliveries + n) (length-map (deliveries_of found) (λ number. (tag, number)))));
    tags = λ t. same_components slots place tag slot new at is taken.tag t ∙ stands.tags t ∙ sym (ap (λ (o : Option Followed). is_some o) (component_behind tag t section stored.components) ∙ is_some_map (component_in stored.components t));
    components = follows_now;
  }
    where
      is_some_map : (o : Option Followed) → is_some (option_map (followed_with tag section) o) ≡ is_some o
      is_some_map None = refl
      is_some_map (Some c) = refl

  pub stands_taken : StandsFor (record { components = set slots place new; count = new_count }) (with_section tag section stored)
  stands_taken =
      subst (λ l. StandsFor (record { components = set slots place new; count = new_count }) (record { components = map (followed_with tag section) stored.components; deliveries = stored.deliveries ++ of_component tag (deliveries_of l) }))
      changes_taken stands_now

-- where no memory was found for the section, everything stays
module _ (slots : List ComponentState) (count new_count place tag : ℕ) (slot new : ComponentState) (stored : Stored)
    (at : position (has_tag tag) slots ≡ Some place) (is : slot ≡ get_or slots place slot) (kept : KeepsSame slot new count new_count)
    (stands : StandsFor (record { components = slots; count = count }) stored) where
  follows_kept : (component : Followed) → Follows slot component stored.deliveries → Follows new component stored.deliveries
  follows_kept component f = record {
    pid = kept.pid ∙ f.pid;
    carousel = kept.carousel component.messages f.carousel;
    numbers = λ number low is. f.numbers number low is ∙ ap (λ (n : ℕ). Some n) (sym (kept.deliveries number));
  }

  still_follows : (t : ℕ) (now : ComponentState) (component : Followed) → component_with (set slots place new) t ≡ Some now → component_in stored.components t ≡ Some component → Follows now component stored.deliveries
  still_follows t now component e h = by_cases (looked_up slots place tag slot new at is kept.tag t)
    where
      by_cases : LookedUp slots place tag slot new at is kept.tag t → Follows now component stored.deliveries
      by_cases (inl l) =
          let slot_is : new ≡ now = cc in
          subst (λ (s : ComponentState). Follows s component stored.deliveries) slot_is (follows_kept component (stands.components t slot component l.1 h))
      by_cases (inr l) = stands.components t now component (sym l.1 ∙ e) h

  pub stands_kept : StandsFor (record { components = set slots place new; count = new_count }) stored
  stands_kept = record {
    count = kept.count_is ∙ stands.count;
    tags = λ t. same_components slots place tag slot new at is kept.tag t ∙ stands.tags t;
    components = still_follows;
  }

-- the slot keeps its tag
pub keeps_tag : {E : Type 0} (result : Result (Vec Change Global) E) (slot new : ComponentState) (count new_count : ℕ) (section : List ℕ)
    → IfOk result (λ found. TakesSection slot new count new_count section found.items) → OnErr result (KeepsSame slot new count new_count) → new.tag ≡ slot.tag
keeps_tag (Ok found) slot new count new_count section taken kept = taken.tag
keeps_tag (Err e) slot new count new_count section taken kept = kept.tag
