-- Another component map.
use Rattle.std.proofs.Common.{◌≡◌, ◌∙◌, ℕ, ◌+◌, ◌<◌, ◌≤◌, Bool, true, false, cond, eqb, List, [], ◌∷◌, ◌++◌, length, get_or, take, Option, Some, None, refl, sym, ap, subst, inl, inr, arith}
use Rattle.std.specs.Prelude.{AllPairs, ◌&&◌, ◌⊎◌, not, map, filter, find, is_some, option_map, option_and_then}
use Rattle.std.specs.Option.{option_or}
use Rattle.std.proofs.lemmas.Bool.{eqb-true, eq-eqb, ne_eqb}
use Rattle.std.proofs.lemmas.List.{append-nil, take_more, map_push, length-append}
use Rattle.std.proofs.lemmas.Option.{cond_some}
use Rattle.std.proofs.lemmas.List.Elements.{All-push, filter-append}
use Rattle.std.proofs.lemmas.List.Folds.{find-append}
use Rattle.psi_tables.specs.declared.components.Component.{Component}
use Rattle.psi_tables.specs.Components.{AreApart}
use Rattle.carousel_blocks.specs.Held.{bytes_held}
use Rattle.carousel_blocks.specs.Carousel as of_carousel
use Rattle.module_store.specs.Store.{Followed, Stored, component_in, is_kept, messages_on, messages_kept, followed_from, with_map, last_place, number_at}
use Rattle.module_store.specs.Standing.{ComponentState, StandsFor, Follows, has_tag, component_with}
use Rattle.module_store.specs.Slots.{AreDistinct, component_of, IsEmpty, IsFresh, is_followed, AreAdded, kept_of}
use Rattle.module_store.proofs.FindLaws.{find-ext, filter-ext, is_some-find, found_passes, find-filter, filter-filter, fewer, none_pass, if_passes, find-and, find-map, length-filter-map, at_most_one, found_has}
use Rattle.module_store.proofs.DeliveryLaws.{eqb_sym}
use Rattle.module_store.proofs.FeedLaws.{has_followed}

-- ---- those that are added

abbrev pub is_new : List ComponentState → Component → Bool
is_new slots component = not (is_followed slots component)

-- the component at a place
abbrev pub component_at : List Component → ℕ → Component
component_at components place = get_or components place (record { tag = 0; pid = 0 })

module _ (slots : List ComponentState) (components : List Component) (place : ℕ) (added : List ComponentState) (low : place < length components) (a : AreAdded slots (take place components) added) where
  more_new : filter (is_new slots) (take (place + 1) components) ≡ map component_of added ++ cond (is_new slots (component_at components place)) (component_at components place ∷ []) []
  more_new =
      ap (λ l. filter (is_new slots) l) (take_more components place (record { tag = 0; pid = 0 }) low) ∙ filter-append (is_new slots) (take place components) (component_at components place ∷ [])
      ∙ ap (λ l. l ++ cond (is_new slots (component_at components place)) (component_at components place ∷ []) []) (sym a.are)

  pub added_one : (slot : ComponentState) → is_followed slots (component_at components place) ≡ false → IsFresh (component_at components place) slot → AreAdded slots (take (place + 1) components) (added ++ slot ∷ [])
  added_one slot new f = record {
    are = map_push component_of added slot ∙ ap (λ c. map component_of added ++ c ∷ []) f.component_is
        ∙ ap (λ b. map component_of added ++ cond (not b) (component_at components place ∷ []) []) (sym new) ∙ sym more_new;
    empty = All-push IsEmpty added slot a.empty f.empty;
  }

  pub added_none : is_followed slots (component_at components place) ≡ true → AreAdded slots (take (place + 1) components) added
  added_none old = record {
    are = sym (append-nil (map component_of added)) ∙ ap (λ b. map component_of added ++ cond (not b) (component_at components place ∷ []) []) (sym old) ∙ sym more_new;
    empty = a.empty;
  }

-- ---- what is looked up behind the map

and_false : (b : Bool) → (b && false) ≡ false
and_false true = refl
and_false false = refl

and_sym : (a b : Bool) → (a && b) ≡ (b && a)
and_sym true true = refl
and_sym true false = refl
and_sym false true = refl
and_sym false false = refl

abbrev pub is_tagged : ℕ → Component → Bool
is_tagged tag component = eqb component.tag tag

abbrev pub is_on : ℕ → ComponentState → Bool
is_on pid slot = eqb slot.pid pid

-- the components of a map have distinct tags
pub one_of_each : (components : List Component) → AllPairs AreApart components → (tag : ℕ) → length (filter (is_tagged tag) components) ≤ 1
one_of_each components apart tag =
    at_most_one AreApart (is_tagged tag) (λ x y differ e. ne_eqb y.tag tag (λ same. differ.0 (eqb-true x.tag tag e ∙ sym same))) components apart

-- nothing is held before the first message
nothing_held : (number : ℕ) → bytes_held [] number ≡ None
unfolding bytes_held
nothing_held number = refl

module _ (components : List Component) (each : (tag : ℕ) → length (filter (is_tagged tag) components) ≤ 1) where
  pub kept_by_pid : (tag pid : ℕ) → is_kept components tag pid ≡ is_some (option_and_then (if_passes (λ (c : Component). eqb c.pid pid)) (find (is_tagged tag) components))
  kept_by_pid tag pid =
      sym (is_some-find (λ c. is_tagged tag c && eqb c.pid pid) components)
      ∙ ap (λ (o : Option Component). is_some o) (find-ext (λ c. is_tagged tag c && eqb c.pid pid) (λ c. eqb c.pid pid && is_tagged tag c) (λ c. and_sym (is_tagged tag c) (eqb c.pid pid)) components
      ∙ find-and (is_tagged tag) (λ c. eqb c.pid pid) components (each tag))

  some_if : (b : Bool) (c : Component) → is_some (cond b (Some c) None) ≡ b
  some_if true c = refl
  some_if false c = refl

  -- a slot of a component of the map is kept where it has the map's PID
  kept_slot : (tag : ℕ) (c : Component) → find (is_tagged tag) components ≡ Some c → (slot : ComponentState) → (is_kept components slot.tag slot.pid && has_tag tag slot) ≡ (is_on c.pid slot && has_tag tag slot)
  kept_slot tag c e slot = by_tag (has_tag tag slot) refl
    where
      by_tag : (b : Bool) → has_tag tag slot ≡ b → (is_kept components slot.tag slot.pid && b) ≡ (is_on c.pid slot && b)
      by_tag true same =
          ap (λ a. a && true) (ap (λ t. is_kept components t slot.pid) (eqb-true slot.tag tag same) ∙ kept_by_pid tag slot.pid
          ∙ ap (λ (o : Option Component). is_some (option_and_then (if_passes (λ (d : Component). eqb d.pid slot.pid)) o)) e ∙ some_if (eqb c.pid slot.pid) c ∙ eqb_sym c.pid slot.pid)
      by_tag false same = and_false (is_kept components slot.tag slot.pid) ∙ sym (and_false (is_on c.pid slot))

  -- and one of another component isn't
  lost_slot : (tag : ℕ) → find (is_tagged tag) components ≡ None → (slot : ComponentState) → (is_kept components slot.tag slot.pid && has_tag tag slot) ≡ false
  lost_slot tag e slot = by_tag (has_tag tag slot) refl
    where
      by_tag : (b : Bool) → has_tag tag slot ≡ b → (is_kept components slot.tag slot.pid && b) ≡ false
      by_tag true same =
          ap (λ a. a && true) (ap (λ t. is_kept components t slot.pid) (eqb-true slot.tag tag same) ∙ kept_by_pid tag slot.pid
          ∙ ap (λ (o : Option Component). is_some (option_and_then (if_passes (λ (d : Component). eqb d.pid slot.pid)) o)) e)
      by_tag false same = and_false (is_kept components slot.tag slot.pid)

  find_never : (l : List ComponentState) → find (λ slot. false) l ≡ None
  find_never [] = refl
  find_never (slot ∷ l) = find_never l

  pub not_kept : (tag : ℕ) (l : List ComponentState) → find (is_tagged tag) components ≡ None → component_with (kept_of components l) tag ≡ None
  not_kept tag l e =
      find-filter (has_tag tag) (λ slot. is_kept components slot.tag slot.pid) l
      ∙ find-ext (λ slot. is_kept components slot.tag slot.pid && has_tag tag slot) (λ slot. false) (lost_slot tag e) l ∙ find_never l

  -- what is kept of one of its components
  pub kept_at_tag : (tag : ℕ) (c : Component) (l : List ComponentState) → find (is_tagged tag) components ≡ Some c → length (filter (has_tag tag) l) ≤ 1
      → component_with (kept_of components l) tag ≡ option_and_then (if_passes (is_on c.pid)) (component_with l tag)
  kept_at_tag tag c l e few =
      find-filter (has_tag tag) (λ slot. is_kept components slot.tag slot.pid) l
      ∙ find-ext (λ slot. is_kept components slot.tag slot.pid && has_tag tag slot) (λ slot. is_on c.pid slot && has_tag tag slot) (kept_slot tag c e) l
      ∙ find-and (has_tag tag) (is_on c.pid) l few

  module _ (slots added : List ComponentState) (distinct : AreDistinct slots) (a : AreAdded slots components added) where
    -- those that are added have distinct tags too
    few_added : (tag : ℕ) → length (filter (has_tag tag) added) ≤ 1
    few_added tag =
        let same = sym (length-filter-map (is_tagged tag) component_of added) ∙ ap (λ l. length (filter (is_tagged tag) l)) a.are ∙ ap (λ (l : List Component). length l) (filter-filter (is_tagged tag) (is_new slots) components) in
        let fewer_new = fewer (is_tagged tag) (is_new slots) components in
        let one = each tag in
        omega arith

    added_component : (tag : ℕ) (c : Component) → find (is_tagged tag) components ≡ Some c → option_map component_of (component_with added tag) ≡ cond (is_new slots c) (Some c) None
    added_component tag c e =
        sym (find-map (is_tagged tag) component_of added) ∙ ap (λ l. find (is_tagged tag) l) a.are ∙ find-filter (is_tagged tag) (is_new slots) components
        ∙ find-and (is_tagged tag) (is_new slots) components (each tag) ∙ ap (λ (o : Option Component). option_and_then (if_passes (is_new slots)) o) e

    pub followed_there : (c : Component) → is_followed slots c ≡ is_some (option_and_then (if_passes (is_on c.pid)) (component_with slots c.tag))
    followed_there c =
        sym (is_some-find (λ slot. has_tag c.tag slot && is_on c.pid slot) slots)
        ∙ ap (λ (o : Option ComponentState). is_some o) (find-ext (λ slot. has_tag c.tag slot && is_on c.pid slot) (λ slot. is_on c.pid slot && has_tag c.tag slot) (λ slot. and_sym (has_tag c.tag slot) (is_on c.pid slot)) slots
        ∙ find-and (has_tag c.tag) (is_on c.pid) slots (distinct c.tag))

    abbrev all_kept : List ComponentState
    all_kept = kept_of components (slots ++ added)

    -- what is kept of a component of the map: what was kept of it on the same PID, or nothing yet
    abbrev pub KeptAs : Component → Type 0
    KeptAs c =
        ((slot : ComponentState) × (component_with all_kept c.tag ≡ Some slot) × (component_with slots c.tag ≡ Some slot) × (slot.pid ≡ c.pid))
        ⊎ ((slot : ComponentState) × (component_with all_kept c.tag ≡ Some slot) × (component_of slot ≡ c) × IsEmpty slot × (option_and_then (if_passes (is_on c.pid)) (component_with slots c.tag) ≡ None))

    both_kept : (tag : ℕ) (c : Component) → find (is_tagged tag) components ≡ Some c
        → component_with all_kept tag ≡ option_or (option_and_then (if_passes (is_on c.pid)) (component_with slots tag)) (option_and_then (if_passes (is_on c.pid)) (component_with added tag))
    both_kept tag c e =
        ap (λ l. find (has_tag tag) l) (filter-append (λ slot. is_kept components slot.tag slot.pid) slots added)
        ∙ find-append (has_tag tag) (kept_of components slots) (kept_of components added)
        ∙ ap (λ o. option_or o (component_with (kept_of components added) tag)) (kept_at_tag tag c slots e (distinct tag))
        ∙ ap (λ o. option_or (option_and_then (if_passes (is_on c.pid)) (component_with slots tag)) o) (kept_at_tag tag c added e (few_added tag))

    pub tag_of : (tag : ℕ) (c : Component) → find (is_tagged tag) components ≡ Some c → c.tag ≡ tag
    tag_of tag c e = eqb-true c.tag tag (found_passes (is_tagged tag) components c e)

    -- what was kept on the same PID
    on_pid : (o : Option ComponentState) (pid : ℕ) (slot : ComponentState) → option_and_then (if_passes (is_on pid)) o ≡ Some slot → (o ≡ Some slot) × (slot.pid ≡ pid)
    on_pid None pid slot e = absurd cc
    on_pid (Some s) pid slot e =
        let passes = cond_some (is_on pid s) s slot e in
        (ap (λ (x : ComponentState). Some x) passes.1, ap (λ (x : ComponentState). x.pid) (sym passes.1) ∙ eqb-true s.pid pid passes.0)

    -- what is added is on the map's PID
    added_on : (o : Option ComponentState) (c : Component) → option_map component_of o ≡ Some c → (slot : ComponentState) × (o ≡ Some slot) × (component_of slot ≡ c) × (option_and_then (if_passes (is_on c.pid)) o ≡ Some slot)
    added_on None c e = absurd cc
    added_on (Some slot) c e =
        let is : component_of slot ≡ c = cc in
        let placed : is_on c.pid slot ≡ true = eq-eqb slot.pid c.pid (ap (λ (x : Component). x.pid) is) in
        (slot, refl, is, ap (λ b. cond b (Some slot) None) placed)

    pub kept_as : (c : Component) → find (is_tagged c.tag) components ≡ Some c → KeptAs c
    kept_as c e = by_kept (option_and_then (if_passes (is_on c.pid)) (component_with slots c.tag)) refl
      where
        by_kept : (o : Option ComponentState) → option_and_then (if_passes (is_on c.pid)) (component_with slots c.tag) ≡ o → KeptAs c
        by_kept (Some slot) h =
            let was = on_pid (component_with slots c.tag) c.pid slot h in
            inl (slot, both_kept c.tag c e ∙ ap (λ o. option_or o (option_and_then (if_passes (is_on c.pid)) (component_with added c.tag))) h, was.0, was.1)
        by_kept None h =
            let is_added = added_component c.tag c e ∙ ap (λ b. cond (not b) (Some c) None) (followed_there c ∙ ap (λ (o : Option ComponentState). is_some o) h) in
            let new = added_on (component_with added c.tag) c is_added in
            inr (new.0, both_kept c.tag c e ∙ ap (λ o. option_or o (option_and_then (if_passes (is_on c.pid)) (component_with added c.tag))) h ∙ new.3, new.2, found_has IsEmpty (has_tag c.tag) added new.0 a.empty new.1, h)

    -- ---- at most one has each tag

    not_mapped : (o : Option ComponentState) → option_map component_of o ≡ None → o ≡ None
    not_mapped None e = refl
    not_mapped (Some slot) e = absurd cc

    still_few : (tag : ℕ) (c : Component) → find (is_tagged tag) components ≡ Some c → length (filter (has_tag tag) all_kept) ≤ 1
    still_few tag c e = by_kept (option_and_then (if_passes (is_on c.pid)) (component_with slots tag)) refl
      where
        on_tag : ComponentState → Bool
        on_tag slot = is_on c.pid slot && has_tag tag slot

        both : length (filter (has_tag tag) all_kept) ≡ length (filter on_tag slots) + length (filter on_tag added)
        both =
            ap (λ (l : List ComponentState). length l) (filter-filter (has_tag tag) (λ slot. is_kept components slot.tag slot.pid) (slots ++ added)
            ∙ filter-ext (λ slot. is_kept components slot.tag slot.pid && has_tag tag slot) on_tag (kept_slot tag c e) (slots ++ added) ∙ filter-append on_tag slots added)
            ∙ length-append (filter on_tag slots) (filter on_tag added)

        by_kept : (o : Option ComponentState) → option_and_then (if_passes (is_on c.pid)) (component_with slots tag) ≡ o → length (filter (has_tag tag) all_kept) ≤ 1
        by_kept None h =
            let none = none_pass on_tag slots (find-and (has_tag tag) (is_on c.pid) slots (distinct tag) ∙ h) in
            omega (arith, both, none, fewer (has_tag tag) (is_on c.pid) added, few_added tag)
        by_kept (Some slot) h =
            let followed : is_followed slots c ≡ true = followed_there c ∙ ap (λ t. is_some (option_and_then (if_passes (is_on c.pid)) (component_with slots t))) (tag_of tag c e) ∙ ap (λ (o : Option ComponentState). is_some o) h in
            let is_added = added_component tag c e ∙ ap (λ b. cond (not b) (Some c) None) followed in
            let none = none_pass (has_tag tag) added (not_mapped (component_with added tag) is_added) in
            omega (arith, both, none, fewer (has_tag tag) (is_on c.pid) added, fewer (has_tag tag) (is_on c.pid) slots, distinct tag)

    pub still_distinct : AreDistinct all_kept
    still_distinct tag = by_component (find (is_tagged tag) components) refl
      where
        by_component : (o : Option Component) → find (is_tagged tag) components ≡ o → length (filter (has_tag tag) all_kept) ≤ 1
        by_component None e = let none = none_pass (has_tag tag) all_kept (not_kept tag (slots ++ added) e) in omega arith
        by_component (Some c) e = still_few tag c e

    -- ---- the store

    pub has_components : (tag : ℕ) → is_some (component_with all_kept tag) ≡ is_some (find (is_tagged tag) components)
    has_components tag = by_component (find (is_tagged tag) components) refl
      where
        by_component : (o : Option Component) → find (is_tagged tag) components ≡ o → is_some (component_with all_kept tag) ≡ is_some o
        by_component None e = ap (λ (o : Option ComponentState). is_some o) (not_kept tag (slots ++ added) e)
        by_component (Some c) e = by_kept (kept_as c (subst (λ t. find (is_tagged t) components ≡ Some c) (sym (tag_of tag c e)) e)) (tag_of tag c e)
          where
            by_kept : KeptAs c → c.tag ≡ tag → is_some (component_with all_kept tag) ≡ true
            by_kept (inl k) same = ap (λ t. is_some (component_with all_kept t)) (sym same) ∙ ap (λ (o : Option ComponentState). is_some o) k.1
            by_kept (inr k) same = ap (λ t. is_some (component_with all_kept t)) (sym same) ∙ ap (λ (o : Option ComponentState). is_some o) k.1

    module _ (count : ℕ) (stored : Stored) (stands : StandsFor (record { components = slots; count = count }) stored) where
      -- a component that stays on its PID keeps its messages
      stays : (c : Component) (slot : ComponentState) → component_with slots c.tag ≡ Some slot → slot.pid ≡ c.pid → Follows slot (followed_from stored.components c) stored.deliveries
      stays c slot looked placed =
          let f = has_followed slots count stored stands c.tag slot looked in
          let on : eqb f.0.pid c.pid ≡ true = eq-eqb f.0.pid c.pid (sym f.3.pid ∙ placed) in
          let kept : f.0.messages ≡ messages_kept stored.components c = sym (ap (λ o. messages_on c.pid o) f.1 ∙ ap (λ b. cond b f.0.messages []) on) in
          record {
            pid = placed;
            carousel = subst (λ m. of_carousel.StandsFor slot.carousel m) kept f.3.carousel;
            numbers = λ number low is. ap (λ t. option_map number_at (last_place t number stored.deliveries)) (sym f.2) ∙ f.3.numbers number low (ap (λ m. is_some (bytes_held m number)) kept ∙ is);
          }

      -- every other begins with none
      no_messages : (c : Component) → option_and_then (if_passes (is_on c.pid)) (component_with slots c.tag) ≡ None → messages_kept stored.components c ≡ []
      no_messages c e = by_followed (component_in stored.components c.tag) refl
        where
          off : (slot : ComponentState) (f : Followed) → Follows slot f stored.deliveries → cond (is_on c.pid slot) (Some slot) None ≡ None → eqb f.pid c.pid ≡ false
          off slot f follows e = ap (λ p. eqb p c.pid) (sym follows.pid) ∙ off_by (is_on c.pid slot) slot e
            where
              off_by : (b : Bool) (slot : ComponentState) → cond b (Some slot) None ≡ None → b ≡ false
              off_by true slot e = absurd cc
              off_by false slot e = refl

          by_followed : (o : Option Followed) → component_in stored.components c.tag ≡ o → messages_on c.pid o ≡ []
          by_followed None h = refl
          by_followed (Some f) h = by_slot (component_with slots c.tag) refl
            where
              by_slot : (o : Option ComponentState) → component_with slots c.tag ≡ o → messages_on c.pid (Some f) ≡ []
              by_slot None same =
                  let there = stands.tags c.tag ∙ ap (λ (o : Option Followed). is_some o) h in
                  let not_there = ap (λ (o : Option ComponentState). is_some o) same in
                  absurd cc
              by_slot (Some slot) same =
                  let off_it = off slot f (stands.components c.tag slot f same h) (ap (λ o. option_and_then (if_passes (is_on c.pid)) o) (sym same) ∙ e) in
                  ap (λ b. cond b f.messages []) off_it

      begins : (c : Component) (slot : ComponentState) → component_of slot ≡ c → IsEmpty slot → messages_kept stored.components c ≡ [] → Follows slot (followed_from stored.components c) stored.deliveries
      begins c slot is empty none = record {
        pid = ap (λ (x : Component). x.pid) is;
        carousel = subst (λ m. of_carousel.StandsFor slot.carousel m) (sym none) empty;
        numbers = λ number low held_now. let not_held = ap (λ m. is_some (bytes_held m number)) none ∙ ap (λ (o : Option (List ℕ)). is_some o) (nothing_held number) in absurd cc;
      }

      follows_mapped : (tag : ℕ) (slot : ComponentState) (component : Followed) → component_with all_kept tag ≡ Some slot → component_in (map (followed_from stored.components) components) tag ≡ Some component → Follows slot component stored.deliveries
      follows_mapped tag slot component e h = by_component (find (is_tagged tag) components) refl (sym (find-map (λ f. eqb f.tag tag) (followed_from stored.components) components) ∙ h)
        where
          by_component : (o : Option Component) → find (is_tagged tag) components ≡ o → option_map (followed_from stored.components) o ≡ Some component → Follows slot component stored.deliveries
          by_component None found is = absurd cc
          by_component (Some c) found is =
              let same = tag_of tag c found in
              let component_is : followed_from stored.components c ≡ component = cc in
              subst (λ f. Follows slot f stored.deliveries) component_is (by_kept (kept_as c (subst (λ t. find (is_tagged t) components ≡ Some c) (sym same) found)) (ap (λ t. component_with all_kept t) same ∙ e))
            where
              by_kept : KeptAs c → component_with all_kept c.tag ≡ Some slot → Follows slot (followed_from stored.components c) stored.deliveries
              by_kept (inl k) at = let slot_is : k.0 ≡ slot = cc in subst (λ (x : ComponentState). Follows x (followed_from stored.components c) stored.deliveries) slot_is (stays c k.0 k.2 k.3)
              by_kept (inr k) at = let slot_is : k.0 ≡ slot = cc in subst (λ (x : ComponentState). Follows x (followed_from stored.components c) stored.deliveries) slot_is (begins c k.0 k.2 k.3 (no_messages c k.4))

      pub stands_mapped : StandsFor (record { components = all_kept; count = count }) (with_map components stored)
      stands_mapped = record {
        count = stands.count;
        tags = λ tag. has_components tag ∙ sym (ap (λ (o : Option Followed). is_some o) (find-map (λ f. eqb f.tag tag) (followed_from stored.components) components) ∙ is_some_map (find (is_tagged tag) components));
        components = follows_mapped;
      }
        where
          is_some_map : (o : Option Component) → is_some (option_map (followed_from stored.components) o) ≡ is_some o
          is_some_map None = refl
          is_some_map (Some c) = refl
