-- A message that is repeated fires no item again, where none of its events was lost.
use Rattle.std.proofs.Common.{◌≡◌, ℕ, Bool, true, false, ◌&&◌, List, [], ◌∷◌, ◌++◌, Option, Some, None, refl, sym, ◌∙◌, ap, subst, append-nil}
use Rattle.std.specs.Prelude.{All, if◌then◌else◌, nat_eq, unwrap_or}
use Rattle.std.specs.Map.{lookup}
use Rattle.std.specs.Option.{option_map_or}
use Rattle.std.proofs.lemmas.Bool.{and_right, eq-eqb, eqb-true}
use Rattle.std.proofs.lemmas.List.Elements.{All-cons, All-head, All-nil, All-tail}
use Rattle.indexmap.specs.IndexMap.{insert_entry}
use Rattle.multipart_entities.specs.declared.paths.Path.{Path}
use Rattle.event_messages.specs.declared.messages.Message.{Message}
use Rattle.event_messages.specs.ItemFirings.{KeptFirings, fires_again, no_firings, with_firing as with_message}
use Rattle.event_messages.specs.Kept.{FiringsOfItems, firings_of, item_fires, with_noted}
use Rattle.event_queue.specs.Events.{name_of}
use Rattle.event_queue.specs.declared.events.Event.{Event}
use Rattle.event_queue.specs.declared.events.Event.TheVariants as events
use Rattle.event_items.specs.EventItems.{EventItem, matches_message}
use Rattle.event_items.specs.Subscriptions.{ItemsState, fires_for_message, is_subscribed, with_firing}
use Rattle.document_stages.specs.Acting.{Acting, with_item_fired, has_room, message_posts, message_post, with_event, loss_line}
use Rattle.document_stages.specs.EventLines.{lost_line, lost_line_of}
use Rattle.acting_documents.specs.Documents.{Document}
use Rattle.acting_documents.specs.Handling.{message_effect}
use Rattle.acting_documents.specs.Runs.{Effect, Scene, acting_in, no_event, no_effect, with_acting}
use Rattle.page.specs.Inputs.{message_step}
use Rattle.page.specs.State.{State, Step, goes_on, scene_in, stays_or_goes, step_behind, step_of, still}
use Rattle.page_laws.proofs.EventItemLemmas.{told_in_turn}

-- that what fired for a message doesn't fire for it again
abbrev pub FiresOnce : Type 0
FiresOnce =
    (message : Message) (kept : KeptFirings)
    → fires_again message (with_message message kept) ≡ false

-- ---- look-ups

found-itself : (item : ℕ) (noted : KeptFirings) (kept : FiringsOfItems)
    → lookup (nat_eq item) (insert_entry nat_eq kept item noted) ≡ Some noted
found-itself item noted [] =
    ap (λ (t : Bool). if t then Some noted else None) (eq-eqb item item refl)
found-itself item noted (entry ∷ kept) =
    by (nat_eq item entry.0) refl (found-itself item noted kept)
  where
    by : (t : Bool) → nat_eq item entry.0 ≡ t
        → lookup (nat_eq item) (insert_entry nat_eq kept item noted) ≡ Some noted
        → lookup (nat_eq item)
        (if t then (entry.0, noted) ∷ kept else entry ∷ insert_entry nat_eq kept item noted)
        ≡ Some noted
    by true e more = ap (λ (t : Bool). if t then Some noted else lookup (nat_eq item) kept) e
    by false e more =
        ap (λ (t : Bool). if t then Some entry.1
        else lookup (nat_eq item) (insert_entry nat_eq kept item noted)) e
        ∙ more

found-other : (item other : ℕ) (noted : KeptFirings) (kept : FiringsOfItems)
    → nat_eq item other ≡ false
    → lookup (nat_eq item) (insert_entry nat_eq kept other noted) ≡ lookup (nat_eq item) kept
found-other item other noted [] apart = ap (λ (t : Bool). if t then Some noted else None) apart
found-other item other noted (entry ∷ kept) apart =
    by (nat_eq other entry.0) refl (found-other item other noted kept apart)
  where
    by : (t : Bool) → nat_eq other entry.0 ≡ t
        → lookup (nat_eq item) (insert_entry nat_eq kept other noted) ≡ lookup (nat_eq item) kept
        → lookup (nat_eq item)
        (if t then (entry.0, noted) ∷ kept else entry ∷ insert_entry nat_eq kept other noted)
        ≡ lookup (nat_eq item) (entry ∷ kept)
    by true e more =
        let passed : nat_eq item entry.0 ≡ false =
        subst (λ (n : ℕ). nat_eq item n ≡ false) (eqb-true other entry.0 e) apart in
        ap (λ (t : Bool). if t then Some noted else lookup (nat_eq item) kept) passed
        ∙ sym (ap (λ (t : Bool). if t then Some entry.1 else lookup (nat_eq item) kept) passed)
    by false e more =
        ap (λ (o : Option KeptFirings). if nat_eq item entry.0 then Some entry.1 else o) more

-- ---- tests and texts

last-fails : (x y z w : Bool) → (z ≡ false → w ≡ false) → (x && (y && z)) ≡ false
    → (x && (y && w)) ≡ false
last-fails true true z w fails e = fails e
last-fails true false z w fails e = refl
last-fails false y z w fails e = refl

front-empty : (front behind : List ℕ) → front ++ behind ≡ [] → front ≡ []
front-empty [] behind e = refl
front-empty (n ∷ front) behind e = absurd (cc e)

behind-empty : (front behind : List ℕ) → front ++ behind ≡ [] → behind ≡ []
behind-empty [] behind e = e
behind-empty (n ∷ front) behind e = absurd (cc e)

-- a loss is told
loss-told : (name : List ℕ) → lost_line_of name ≡ [] → ⊥
loss-told name e = cc e

-- the items stay, and nothing is launched
record KeepsRest (before after : Acting) : Type 0 where
  items : after.items.items ≡ before.items.items
  launched : after.launched ≡ before.launched

module _ (once : FiresOnce) (component : ℕ) (message : Message) where
  -- ---- which items fire

  noted-itself : (item : ℕ) (kept : FiringsOfItems)
      → item_fires item message (with_noted item message kept) ≡ false
  noted-itself item kept =
      ap (λ (found : Option KeptFirings). fires_again message (unwrap_or found no_firings))
      (found-itself item (with_message message (firings_of item kept)) kept)
      ∙ once message (firings_of item kept)

  -- an item that doesn't fire doesn't where another did, either
  noted-still : (item other : ℕ) (kept : FiringsOfItems) → item_fires item message kept ≡ false
      → item_fires item message (with_noted other message kept) ≡ false
  noted-still item other kept h = by (nat_eq item other) refl
    where
      by : (t : Bool) → nat_eq item other ≡ t
          → item_fires item message (with_noted other message kept) ≡ false
      by true e =
          subst (λ (n : ℕ). item_fires item message (with_noted n message kept) ≡ false)
          (eqb-true item other e) (noted-itself item kept)
      by false e =
          ap (λ (found : Option KeptFirings). fires_again message (unwrap_or found no_firings))
          (found-other item other (with_message message (firings_of other kept)) kept e)
          ∙ h

  abbrev IsQuiet : ItemsState → EventItem → Type 0
  IsQuiet s item = fires_for_message component message s item ≡ false

  fired-itself : (s : ItemsState) (item : EventItem)
      → IsQuiet (with_firing item.node message s) item
  fired-itself s item =
      and_right (is_subscribed item.node s) _
      (and_right (matches_message component message item) _ (noted-itself item.node s.fired))

  fired-still : (node : ℕ) (s : ItemsState) (item : EventItem) → IsQuiet s item
      → IsQuiet (with_firing node message s) item
  fired-still node s item h =
      last-fails (is_subscribed item.node s) (matches_message component message item)
      (item_fires item.node message s.fired)
      (item_fires item.node message (with_noted node message s.fired))
      (noted-still item.node node s.fired) h

  -- ---- the message comes to one item

  abbrev told : EventItem → Acting → Acting
  told item a = message_post component message item a

  abbrev event_for : EventItem → Event
  event_for item = events.Fired item.node component message

  -- its event is posted, and where there is room the firing is noted
  abbrev noted : Bool → EventItem → Acting → Acting
  noted room item a =
      if room then record (with_event (event_for item) a) {
        items = with_firing item.node message a.items;
      } else with_event (event_for item) a

  abbrev told_by : Bool → EventItem → Acting → Acting
  told_by t item a = if t then with_item_fired component message item.node a else a

  told-keeps : (item : EventItem) (a : Acting) → KeepsRest a (told item a)
  told-keeps item a = by (fires_for_message component message a.items item)
    where
      room : (r : Bool) → KeepsRest a (noted r item a)
      room true = record { items = refl; launched = refl }
      room false = record { items = refl; launched = refl }

      by : (t : Bool) → KeepsRest a (told_by t item a)
      by true = room (has_room a)
      by false = record { items = refl; launched = refl }

  told-still : (item other : EventItem) (a : Acting) → IsQuiet a.items other
      → IsQuiet (told item a).items other
  told-still item other a h = by (fires_for_message component message a.items item)
    where
      room : (r : Bool) → IsQuiet (noted r item a).items other
      room true = fired-still item.node a.items other h
      room false = h

      by : (t : Bool) → IsQuiet (told_by t item a).items other
      by true = room (has_room a)
      by false = h

  -- where nothing is printed then, nothing was before
  told-empty : (item : EventItem) (a : Acting) → (told item a).text ≡ [] → a.text ≡ []
  told-empty item a h = by (fires_for_message component message a.items item) h
    where
      room : (r : Bool) → (noted r item a).text ≡ [] → a.text ≡ []
      room true h = front-empty a.text (loss_line (event_for item) a.queue) h
      room false h = front-empty a.text (loss_line (event_for item) a.queue) h

      by : (t : Bool) → (told_by t item a).text ≡ [] → a.text ≡ []
      by true h = room (has_room a) h
      by false h = h

  -- and the item doesn't fire again
  told-itself : (item : EventItem) (a : Acting) → (told item a).text ≡ []
      → IsQuiet (told item a).items item
  told-itself item a h = by (fires_for_message component message a.items item) refl h
    where
      lost : has_room a ≡ false → loss_line (event_for item) a.queue ≡ lost_line (event_for item)
      lost e = ap (λ (r : Bool). if r then [] else lost_line (event_for item)) e

      room : (r : Bool) → has_room a ≡ r → (noted r item a).text ≡ []
          → IsQuiet (noted r item a).items item
      room true e h = fired-itself a.items item
      room false e h =
          absurd (loss-told (name_of (event_for item))
          (sym (lost e) ∙ behind-empty a.text (loss_line (event_for item) a.queue) h))

      by : (t : Bool) → fires_for_message component message a.items item ≡ t
          → (told_by t item a).text ≡ [] → IsQuiet (told_by t item a).items item
      by true e h = room (has_room a) refl h
      by false e h = e

  -- ---- it comes to all of them

  abbrev all_told : List EventItem → Acting → Acting
  all_told items a = told_in_turn (message_post component message) items a

  all-keep : (items : List EventItem) (a : Acting) → KeepsRest a (all_told items a)
  all-keep [] a = record { items = refl; launched = refl }
  all-keep (item ∷ items) a =
      let one = told-keeps item a in
      let rest = all-keep items (told item a) in
      record { items = rest.items ∙ one.items; launched = rest.launched ∙ one.launched }

  all-still : (items : List EventItem) (other : EventItem) (a : Acting) → IsQuiet a.items other
      → IsQuiet (all_told items a).items other
  all-still [] other a h = h
  all-still (item ∷ items) other a h =
      all-still items other (told item a) (told-still item other a h)

  all-empty : (items : List EventItem) (a : Acting) → (all_told items a).text ≡ []
      → a.text ≡ []
  all-empty [] a h = h
  all-empty (item ∷ items) a h = told-empty item a (all-empty items (told item a) h)

  all-quiet : (items : List EventItem) (a : Acting) → (all_told items a).text ≡ []
      → All (IsQuiet (all_told items a).items) items
  all-quiet [] a h = All-nil (IsQuiet a.items)
  all-quiet (item ∷ items) a h =
      let next : Acting = told item a in
      All-cons (IsQuiet (all_told items next).items) item items
      (all-still items item next (told-itself item a (all-empty items next h)))
      (all-quiet items next h)

  -- where none fires nothing is done
  none-told : (items : List EventItem) (a : Acting) → All (IsQuiet a.items) items
      → all_told items a ≡ a
  none-told [] a quiet = refl
  none-told (item ∷ items) a quiet =
      let same : told item a ≡ a =
      ap (λ (t : Bool). told_by t item a) (All-head (IsQuiet a.items) item items quiet) in
      ap (λ (b : Acting). all_told items b) same
      ∙ none-told items a (All-tail (IsQuiet a.items) item items quiet)

  -- ---- in a document

  abbrev AreQuiet : ItemsState → Type 0
  AreQuiet s = All (IsQuiet s) s.items

  abbrev effect_left : Scene → Acting → Effect
  effect_left scene a =
      record { scene = with_acting a scene; launched = a.launched; text = a.text }

  nothing-again : (scene : Scene) → AreQuiet scene.document.items
      → message_effect component message scene ≡ no_effect scene
  unfolding message_effect message_posts
  nothing-again scene quiet =
      ap (effect_left scene)
      (none-told scene.document.items.items (acting_in no_event scene) quiet)

  -- what all items leave is quiet, where nothing was printed
  left-quiet : (items : List EventItem) (a : Acting) → items ≡ a.items.items
      → (all_told items a).text ≡ [] → AreQuiet (all_told items a).items
  left-quiet items a same empty =
      subst (λ (now : List EventItem). All (IsQuiet (all_told items a).items) now)
      (same ∙ sym (all-keep items a).items) (all-quiet items a empty)

  -- ---- in a page

  again : (s : State) (scene : Scene) (text : List ℕ) (launched : Option Path)
      → launched ≡ None → (text ≡ [] → AreQuiet scene.document.items)
      → (step_behind text (stays_or_goes launched s scene)).text ≡ []
      → message_step component message (step_behind text (stays_or_goes launched s scene)).state
      ≡ still (step_behind text (stays_or_goes launched s scene)).state
  again s scene text None e quiet h =
      let next : State = goes_on s scene in
      ap (step_of next)
      (nothing-again (scene_in next scene.document) (quiet (sym (append-nil text) ∙ h)))
  again s scene text (Some path) e quiet h = absurd (cc e)

  abbrev stepped : State → Option Document → Step
  stepped s document =
      option_map_or (λ d. step_of s (message_effect component message (scene_in s d))) document
      (still s)

  repeated-in : (s : State) (document : Option Document) → s.document ≡ document
      → (stepped s document).text ≡ []
      → message_step component message (stepped s document).state
      ≡ still (stepped s document).state
  unfolding message_effect message_posts
  repeated-in s None e h = ap (λ (document : Option Document). stepped s document) e
  repeated-in s (Some d) e h =
      let a : Acting = acting_in no_event (scene_in s d) in
      let b : Acting = all_told d.items.items a in
      again s (with_acting b (scene_in s d)) b.text b.launched
      (all-keep d.items.items a).launched
      (λ empty. left-quiet d.items.items a refl empty) h

  pub repeated : (s : State) → (message_step component message s).text ≡ []
      → message_step component message (message_step component message s).state
      ≡ still (message_step component message s).state
  repeated s h = repeated-in s s.document refl h
