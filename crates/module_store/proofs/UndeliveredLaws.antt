-- A module that is held, and wasn't delivered, was held before.
use Rattle.std.proofs.Common.{◌≡◌, ◌≢◌, ◌∙◌, ℕ, ◌<◌, Bool, true, false, cond, eqb, List, [], ◌∷◌, ◌++◌, Option, Some, None, refl, sym, ap, subst, inl, inr, arith}
use Rattle.std.specs.Prelude.{◌⊎◌, ◌&&◌, not, map, find, is_some, option_map, option_and_then}
use Rattle.std.proofs.lemmas.Bool.{eqb-true}
use Rattle.std.proofs.lemmas.Bool.Decides.{eqb_tells}
use Rattle.psi_tables.specs.declared.components.Component.{Component}
use Rattle.dsmcc_messages.specs.declared.entry.Entry.{Entry}
use Rattle.carousel_blocks.specs.declared.standing.SkipCause.{SkipCause}
use Rattle.carousel_blocks.specs.declared.standing.Standing.{Standing}
use Rattle.carousel_blocks.specs.declared.changes.Change.{Change}
use Rattle.carousel_blocks.specs.Message.{Message, messages_of}
use Rattle.carousel_blocks.specs.InForce.{in_force, standing_of}
use Rattle.carousel_blocks.specs.Held.{bytes_held, same_standing}
use Rattle.carousel_blocks.specs.Changes.{change_at, change_of, changed, changes, completed, line_by, number_bound}
use Rattle.carousel_blocks.specs.Staging.{IsSameModule}
use Rattle.module_store.specs.Carousels.{MessageLaws}
use Rattle.module_store.specs.Resources.{Presence, presence, presence_at, presence_in, presence_unless}
use Rattle.module_store.specs.Resources.Presence.{Absent, Held}
use Rattle.module_store.specs.Staying.{is_delivered}
use Rattle.module_store.specs.Store.{Followed, Stored, changes_behind, changes_by, component_in, followed_from, followed_with, messages_on, with_map, with_section}
use Rattle.module_store.proofs.FindLaws.{find-map, found_passes}
use Rattle.module_store.proofs.FeedLaws.{component_behind, extended}
use Rattle.module_store.proofs.MapLaws.{is_tagged}
use Rattle.module_store.proofs.DeliveryLaws.{all_deliver, delivered_in}
use Rattle.module_store.proofs.StayingLaws.{number_is_low, same_behind}

-- ---- one module

-- it has no change, or is delivered
abbrev IsUnchangedOrDelivered : ℕ → Option Change → Type 0
IsUnchangedOrDelivered number change = (change ≡ None) ⊎ (delivered_in change ≡ Some number)

same_or_not : (number : ℕ) (entry : Entry) (same : Bool) (was : Option (List ℕ))
    → IsUnchangedOrDelivered number (cond same (cond (not (is_some was) && true) (Some (completed number entry)) None) (Some (changed number (line_by entry None true))))
same_or_not number entry true None = inr refl
same_or_not number entry true (Some bytes) = inl refl
same_or_not number entry false was = inr refl

held_now : (number : ℕ) (old new : Option Standing) (was now : Option (List ℕ)) (is_entity : Bool) (bytes : List ℕ) → presence_at new now ≡ Held is_entity bytes
    → IsUnchangedOrDelivered number (change_of number old new was now)
held_now number old None was now is_entity bytes e = absurd cc
held_now number old (Some s) was now is_entity bytes e = by_skip s.skip refl now e
  where
    by_old : (old : Option Standing) (content : List ℕ) → s.skip ≡ None → IsUnchangedOrDelivered number (change_of number old (Some s) was (Some content))
    by_old None content is = inr (rw is refl)
    by_old (Some o) content is =
        subst
        (λ skip. IsUnchangedOrDelivered number (cond (same_standing o s) (cond (not (is_some was) && true) (Some (completed number s.entry)) None) (Some (changed number (line_by s.entry skip true)))))
        (sym is) (same_or_not number s.entry (same_standing o s) was)

    by_skip : (skip : Option SkipCause) → s.skip ≡ skip → (now : Option (List ℕ)) → presence_unless skip s.entry.info now ≡ Held is_entity bytes
        → IsUnchangedOrDelivered number (change_of number old (Some s) was now)
    by_skip (Some cause) is now e = absurd cc
    by_skip None is None e = absurd cc
    by_skip None is (Some content) e = by_old old content is

-- a module that is the same is there as before
presence_from : Option (List ℕ) → Option SkipCause → Option (List ℕ) → Presence
presence_from None skip now = Absent
presence_from (Some info) skip now = presence_unless skip info now

presence_is : (o : Option Standing) (now : Option (List ℕ)) → presence_at o now ≡ presence_from (option_map (λ entry. entry.info) (option_map (λ (s : Standing). s.entry) o)) (option_and_then (λ (s : Standing). s.skip) o) now
unfolding presence_from
presence_is None now = refl
presence_is (Some s) now = refl

same_presence : (before now : List Message) (number : ℕ) → IsSameModule before now number → presence_in (Some now) number ≡ presence_in (Some before) number
same_presence before now number same =
    presence_is (standing_of (in_force now) number) (bytes_held now number)
    ∙ ap (λ o. presence_from o (option_and_then (λ (s : Standing). s.skip) (standing_of (in_force now) number)) (bytes_held now number)) same.info
    ∙ ap (λ o. presence_from (option_map (λ entry. entry.info) (option_map (λ (s : Standing). s.entry) (standing_of (in_force before) number))) o (bytes_held now number)) same.skip
    ∙ ap (λ o. presence_from (option_map (λ entry. entry.info) (option_map (λ (s : Standing). s.entry) (standing_of (in_force before) number))) (option_and_then (λ (s : Standing). s.skip) (standing_of (in_force before) number)) o) same.bytes
    ∙ sym (presence_is (standing_of (in_force before) number) (bytes_held before number))

-- ---- a section

delivered_of : (before now : List Message) (number : ℕ) → number < number_bound → delivered_in (change_at before now number) ≡ Some number → is_delivered number (changes before now) ≡ true
unfolding changes
delivered_of before now number low is = all_deliver (change_at before now) number 0 number_bound (omega arith) (omega arith) is

behind_section : MessageLaws → (messages : List Message) (section : List ℕ) (number : ℕ) (is_entity : Bool) (bytes : List ℕ) → number < 65536
    → presence_in (Some (messages ++ messages_of (section ∷ []))) number ≡ Held is_entity bytes
    → is_delivered number (changes messages (messages ++ messages_of (section ∷ []))) ≡ false
    → presence_in (Some messages) number ≡ Held is_entity bytes
behind_section laws messages section number is_entity bytes low held quiet =
    by_change (held_now number (standing_of (in_force messages) number) (standing_of (in_force now) number) (bytes_held messages number) (bytes_held now number) is_entity bytes held)
  where
    now : List Message
    now = messages ++ messages_of (section ∷ [])

    by_change : IsUnchangedOrDelivered number (change_at messages now number) → presence_in (Some messages) number ≡ Held is_entity bytes
    by_change (inl none) = sym (same_presence messages now number (same_behind laws messages section number none)) ∙ held
    by_change (inr delivered) = let d = delivered_of messages now number (number_is_low number low) delivered in absurd cc

pub section_undelivered : MessageLaws → (stored : Stored) (tag : ℕ) (section : List ℕ) (its_tag number : ℕ) (is_entity : Bool) (bytes : List ℕ) → number < 65536
    → presence (with_section tag section stored) its_tag number ≡ Held is_entity bytes
    → (tag ≡ its_tag → is_delivered number (changes_by tag section stored) ≡ false)
    → presence stored its_tag number ≡ Held is_entity bytes
section_undelivered laws stored tag section its_tag number is_entity bytes low held quiet = by_component (component_in stored.components its_tag) refl
  where
    -- its component behind the section
    behind : (o : Option Followed) → component_in stored.components its_tag ≡ o → presence_in (option_map (λ c. c.messages) (option_map (followed_with tag section) o)) number ≡ Held is_entity bytes
    behind o is =
        ap (λ (o : Option Followed). presence_in (option_map (λ c. c.messages) o) number)
        (ap (λ (o : Option Followed). option_map (followed_with tag section) o) (sym is) ∙ sym (component_behind tag its_tag section stored.components))
        ∙ held

    by_component : (o : Option Followed) → component_in stored.components its_tag ≡ o → presence_in (option_map (λ c. c.messages) o) number ≡ Held is_entity bytes
    by_component None is = let e = behind None is in absurd cc
    by_component (Some component) is = by_tag (eqb_tells component.tag tag)
      where
        tagged : component.tag ≡ its_tag
        tagged = eqb-true component.tag its_tag (found_passes (λ c. eqb c.tag its_tag) stored.components component is)

        untold : component.tag ≡ tag → is_delivered number (changes component.messages (component.messages ++ messages_of (section ∷ []))) ≡ false
        untold same =
            let here : component_in stored.components tag ≡ Some component = subst (λ t. component_in stored.components t ≡ Some component) (sym tagged ∙ same) is in
            ap (λ (o : Option Followed). is_delivered number (changes_behind (option_map (λ c. c.messages) o) section)) (sym here) ∙ quiet (sym same ∙ tagged)

        by_tag : ((eqb component.tag tag ≡ true) × (component.tag ≡ tag)) ⊎ ((eqb component.tag tag ≡ false) × (component.tag ≢ tag)) → presence_in (Some component.messages) number ≡ Held is_entity bytes
        by_tag (inl same) =
            behind_section laws component.messages section number is_entity bytes low
            (sym (ap (λ b. presence_in (Some (cond b (extended section component) component).messages) number) same.0) ∙ behind (Some component) is)
            (untold same.1)
        by_tag (inr differ) = sym (ap (λ b. presence_in (Some (cond b (extended section component) component).messages) number) differ.0) ∙ behind (Some component) is

-- ---- another component map

pub map_undelivered : (stored : Stored) (components : List Component) (its_tag number : ℕ) (is_entity : Bool) (bytes : List ℕ)
    → presence (with_map components stored) its_tag number ≡ Held is_entity bytes → presence stored its_tag number ≡ Held is_entity bytes
map_undelivered stored components its_tag number is_entity bytes held = by_found (find (is_tagged its_tag) components) refl
  where
    looked_up : component_in (map (followed_from stored.components) components) its_tag ≡ option_map (followed_from stored.components) (find (is_tagged its_tag) components)
    looked_up = find-map (λ f. eqb f.tag its_tag) (followed_from stored.components) components

    on_pid : (pid : ℕ) (o : Option Followed) → presence_in (Some (messages_on pid o)) number ≡ Held is_entity bytes → presence_in (option_map (λ f. f.messages) o) number ≡ Held is_entity bytes
    on_pid pid None e = absurd cc
    on_pid pid (Some f) e = by_test (eqb f.pid pid) e
      where
        by_test : (b : Bool) → presence_in (Some (cond b f.messages [])) number ≡ Held is_entity bytes → presence_in (Some f.messages) number ≡ Held is_entity bytes
        by_test true e = e
        by_test false e = absurd cc

    by_found : (o : Option Component) → find (is_tagged its_tag) components ≡ o → presence stored its_tag number ≡ Held is_entity bytes
    by_found None is =
        let e : presence_in None number ≡ Held is_entity bytes
        = sym (ap (λ (o : Option Followed). presence_in (option_map (λ f. f.messages) o) number) (looked_up ∙ ap (λ (o : Option Component). option_map (followed_from stored.components) o) is)) ∙ held in
        absurd cc
    by_found (Some c) is =
        let tagged : c.tag ≡ its_tag = eqb-true c.tag its_tag (found_passes (is_tagged its_tag) components c is) in
        on_pid c.pid (component_in stored.components its_tag)
        (ap (λ t. presence_in (Some (messages_on c.pid (component_in stored.components t))) number) (sym tagged)
        ∙ sym (ap (λ (o : Option Followed). presence_in (option_map (λ f. f.messages) o) number) (looked_up ∙ ap (λ (o : Option Component). option_map (followed_from stored.components) o) is))
        ∙ held)
