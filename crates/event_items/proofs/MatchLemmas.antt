-- What event items match.
use Rattle.std.proofs.Common.{◌≡◌, ◌≢◌, ◌↔◌, ℕ, Bool, true, false, ◌&&◌, List, [], ◌∷◌, Option, Some, None, refl, sym, ap, ◌∙◌}
use Rattle.std.specs.Prelude.{◌==◌, ◌||◌, find, if◌then◌else◌}
use Rattle.std.specs.Option.{option_map_or}
use Rattle.std.proofs.lemmas.Bool.{and_left, and_parts, and_right, and_from, eq-eqb, eqb-true}
use Rattle.bml_bytes.specs.Words.{is_same}
use Rattle.event_messages.specs.declared.messages.Message.{Message}
use Rattle.event_items.specs.declared.asked.Asked.{Asked}
use Rattle.event_items.specs.declared.asked.Asked.TheVariants.{Anything, Exactly, NoNumber}
use Rattle.event_items.specs.declared.asked.AskedComponent.{AskedComponent}
use Rattle.event_items.specs.declared.asked.AskedComponent.TheVariants.{AnyComponent, Component, NoComponent}
use Rattle.event_queue.specs.declared.item_kinds.ItemKind.{ItemKind}
use Rattle.event_queue.specs.declared.item_kinds.ItemKind.TheVariants as kinds
use Rattle.event_queue.specs.ItemKinds.{all_kinds, kind_name, kind_named}
use Rattle.event_items.specs.EventItems.{EventItem, answers, answers_or_any, any_id, is_component, is_kind, matches_message, matches_module}

-- ---- kinds

abbrev SameTexts : Type 0
SameTexts = (text other : List ℕ) → (is_same text other ≡ true) ↔ (text ≡ other)

kind-same : (its kind : ItemKind) → is_same (kind_name its) (kind_name kind) ≡ true → its ≡ kind
kind-same kinds.EventMessageFired kinds.EventMessageFired e = refl
kind-same kinds.ModuleUpdated kinds.ModuleUpdated e = refl
kind-same kinds.ModuleLocked kinds.ModuleLocked e = refl
kind-same kinds.DataButtonPressed kinds.DataButtonPressed e = refl
kind-same kinds.DataEventChanged kinds.DataEventChanged e = refl
kind-same its kind e = absurd (cc e)

kind-itself : (kind : ItemKind) → is_same (kind_name kind) (kind_name kind) ≡ true
kind-itself kinds.EventMessageFired = refl
kind-itself kinds.ModuleUpdated = refl
kind-itself kinds.ModuleLocked = refl
kind-itself kinds.DataButtonPressed = refl
kind-itself kinds.DataEventChanged = refl

kind-found : (test : ItemKind → Bool) (kind : ItemKind) (kinds : List ItemKind) → find test kinds ≡ Some kind → test kind ≡ true
kind-found test kind [] e = absurd (cc e)
kind-found test kind (first ∷ kinds) e = by (test first) refl e (kind-found test kind kinds)
  where
    by : (passes : Bool) → test first ≡ passes → (if passes then Some first else find test kinds) ≡ Some kind
        → (find test kinds ≡ Some kind → test kind ≡ true) → test kind ≡ true
    by true passes e more = let same : first ≡ kind = cc in sym (ap test same) ∙ passes
    by false passes e more = more e

named : (kind : ItemKind) → kind_named (kind_name kind) ≡ Some kind
named kinds.EventMessageFired = refl
named kinds.ModuleUpdated = refl
named kinds.ModuleLocked = refl
named kinds.DataButtonPressed = refl
named kinds.DataEventChanged = refl

pub kind-names : SameTexts → (name : List ℕ) (kind : ItemKind) → (kind_named name ≡ Some kind) ↔ (name ≡ kind_name kind)
kind-names same name kind = (
  λ e. (same name (kind_name kind)).0 (kind-found (λ (k : ItemKind). is_same name (kind_name k)) kind all_kinds e),
  λ e. ap kind_named e ∙ named kind,
)

pub kind-is : (kind : ItemKind) (its : Option ItemKind) → option_map_or (λ (i : ItemKind). is_same (kind_name i) (kind_name kind)) its false ≡ true → its ≡ Some kind
kind-is kind None e = absurd (cc e)
kind-is kind (Some its) e = ap (λ (i : ItemKind). Some i) (kind-same its kind e)

pub kind-passes : (kind : ItemKind) (item : EventItem) → item.kind ≡ Some kind → is_kind kind item ≡ true
kind-passes kind item e =
    ap (λ (its : Option ItemKind). option_map_or (λ (i : ItemKind). is_same (kind_name i) (kind_name kind)) its false) e ∙ kind-itself kind

-- ---- messages

not-true : (test : Bool) → (test ≡ true → ⊥) → test ≡ false
not-true true h = absurd (h refl)
not-true false h = refl

pub each-matches : (component : ℕ) (message : Message) (item : EventItem) → item.kind ≡ Some kinds.EventMessageFired
    → item.component ≡ AnyComponent → item.group ≡ Anything → item.id ≡ Anything → item.version ≡ Anything
    → matches_message component message item ≡ true
each-matches component message item kind of_any any_group any_number any_version =
    rw (kind-passes kinds.EventMessageFired item kind, of_any, any_group, any_number, any_version) refl

pub others-match-none : (component : ℕ) (message : Message) (item : EventItem) → item.kind ≢ Some kinds.EventMessageFired
    → matches_message component message item ≡ false
others-match-none component message item other =
    and_left _ _ (not-true (is_kind kinds.EventMessageFired item) (λ e. other (kind-is kinds.EventMessageFired item.kind e)))

-- a message that is asked for by none of the tests
pub bad-component : (component : ℕ) (message : Message) (item : EventItem) → item.component ≡ NoComponent → matches_message component message item ≡ false
bad-component component message item e =
    and_right (is_kind kinds.EventMessageFired item) _ (and_left _ _ (ap (λ (asked : AskedComponent). is_component asked component) e))

pub bad-group : (component : ℕ) (message : Message) (item : EventItem) → item.group ≡ NoNumber → matches_message component message item ≡ false
bad-group component message item e =
    and_right (is_kind kinds.EventMessageFired item) _
    (and_right (is_component item.component component) _ (and_left _ _ (ap (λ (asked : Asked). answers asked message.group) e)))

pub bad-id : (component : ℕ) (message : Message) (item : EventItem) → item.id ≡ NoNumber → matches_message component message item ≡ false
bad-id component message item e =
    and_right (is_kind kinds.EventMessageFired item) _
    (and_right (is_component item.component component) _
    (and_right (answers item.group message.group) _ (and_left _ _ (ap (λ (asked : Asked). answers_or_any asked message.id) e))))

pub bad-version : (component : ℕ) (message : Message) (item : EventItem) → item.version ≡ NoNumber → matches_message component message item ≡ false
bad-version component message item e =
    and_right (is_kind kinds.EventMessageFired item) _
    (and_right (is_component item.component component) _
    (and_right (answers item.group message.group) _
    (and_right (answers_or_any item.id message.id) _ (ap (λ (asked : Asked). answers_or_any asked message.version) e))))

-- 255 is each id and each version
any-answers : (asked : Asked) (number : ℕ) → asked ≡ Exactly any_id → answers_or_any asked number ≡ true
any-answers asked number e = ap (λ (a : Asked). answers_or_any a number) e

pub any-id : (component other : ℕ) (message : Message) (item : EventItem) → item.id ≡ Exactly any_id
    → matches_message component (record message { id = other }) item ≡ matches_message component message item
any-id component other message item e = rw (any-answers item.id other e, any-answers item.id message.id e) refl

pub any-version : (component other : ℕ) (message : Message) (item : EventItem) → item.version ≡ Exactly any_id
    → matches_message component (record message { version = other }) item ≡ matches_message component message item
any-version component other message item e = rw (any-answers item.version other e, any-answers item.version message.version e) refl

-- a group is that group alone
answered : (asked : Asked) (group number : ℕ) → asked ≡ Exactly group → answers asked number ≡ true → number ≡ group
answered asked group number e passes =
    sym (eqb-true group number (sym (ap (λ (a : Asked). answers a number) e) ∙ passes))

pub own-group : (component group : ℕ) (message : Message) (item : EventItem) → item.group ≡ Exactly group → matches_message component message item ≡ true → message.group ≡ group
own-group component group message item e passes =
    let kind = and_parts (is_kind kinds.EventMessageFired item) _ passes in
    let of_component = and_parts (is_component item.component component) _ kind.1 in
    let of_group = and_parts (answers item.group message.group) _ of_component.1 in
    answered item.group group message.group e of_group.0

-- an id or a version other than 255 is that one alone, and so is a component
own-number : (asked number : ℕ) (any same : Bool) → (asked == any_id) ≡ any → (asked == number) ≡ same → asked ≢ any_id → (any || same) ≡ true → number ≡ asked
own-number asked number true same any_is same_is other passes = absurd (other (eqb-true asked any_id any_is))
own-number asked number false same any_is same_is other passes = sym (eqb-true asked number (same_is ∙ passes))

answered_alone : (asked : Asked) (own number : ℕ) → asked ≡ Exactly own → own ≢ any_id → answers_or_any asked number ≡ true → number ≡ own
answered_alone asked own number e other passes =
    own-number own number (own == any_id) (own == number) refl refl other (sym (ap (λ (a : Asked). answers_or_any a number) e) ∙ passes)

pub own-id : (component own : ℕ) (message : Message) (item : EventItem) → item.id ≡ Exactly own → own ≢ any_id → matches_message component message item ≡ true → message.id ≡ own
own-id component own message item e other passes =
    let kind = and_parts (is_kind kinds.EventMessageFired item) _ passes in
    let of_component = and_parts (is_component item.component component) _ kind.1 in
    let of_group = and_parts (answers item.group message.group) _ of_component.1 in
    let of_id = and_parts (answers_or_any item.id message.id) _ of_group.1 in
    answered_alone item.id own message.id e other of_id.0

pub own-version : (component own : ℕ) (message : Message) (item : EventItem) → item.version ≡ Exactly own → own ≢ any_id → matches_message component message item ≡ true → message.version ≡ own
own-version component own message item e other passes =
    let kind = and_parts (is_kind kinds.EventMessageFired item) _ passes in
    let of_component = and_parts (is_component item.component component) _ kind.1 in
    let of_group = and_parts (answers item.group message.group) _ of_component.1 in
    let of_id = and_parts (answers_or_any item.id message.id) _ of_group.1 in
    answered_alone item.version own message.version e other of_id.1

pub own-component : (component own : ℕ) (message : Message) (item : EventItem) → item.component ≡ Component own → matches_message component message item ≡ true → component ≡ own
own-component component own message item e passes =
    let kind = and_parts (is_kind kinds.EventMessageFired item) _ passes in
    let of_component = and_parts (is_component item.component component) _ kind.1 in
    sym (eqb-true own component (sym (ap (λ (a : AskedComponent). is_component a component) e) ∙ of_component.0))

-- ---- modules

about-is : (component number : ℕ) (about : Option (ℕ × ℕ)) → option_map_or (λ (a : ℕ × ℕ). (a.0 == component) && (a.1 == number)) about false ≡ true → about ≡ Some (component, number)
about-is component number None e = absurd (cc e)
about-is component number (Some about) e =
    let parts = and_parts (about.0 == component) (about.1 == number) e in
    let of_component = eqb-true about.0 component parts.0 in
    let of_number = eqb-true about.1 number parts.1 in
    rw (← of_component, ← of_number) refl

about-passes : (component number : ℕ) → ((component == component) && (number == number)) ≡ true
about-passes component number = and_from _ _ (eq-eqb component component refl) (eq-eqb number number refl)

pub module-matches : (kind : ItemKind) (component number : ℕ) (item : EventItem) → (matches_module kind component number item ≡ true) ↔ ((item.kind ≡ Some kind) × (item.about ≡ Some (component, number)))
module-matches kind component number item = (
  λ passes.
      let parts = and_parts (is_kind kind item) _ passes in
      (kind-is kind item.kind parts.0, about-is component number item.about parts.1),
  λ is.
      let about = ap (λ (about : Option (ℕ × ℕ)). option_map_or (λ (a : ℕ × ℕ). (a.0 == component) && (a.1 == number)) about false) is.1 in
      and_from _ _ (kind-passes kind item is.0) (about ∙ about-passes component number),
)
