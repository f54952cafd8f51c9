-- What event items are told leaves what is acted on sound: messages, changes of modules, and the data button.
use Rattle.std.proofs.Common.{◌≡◌, ℕ, Bool, true, false, List, [], ◌∷◌, Option, Some, None, refl}
use Rattle.std.specs.Prelude.{◌==◌, All, if◌then◌else◌}
use Rattle.std.proofs.lemmas.List.Elements.{All-head, All-tail}
use Rattle.carousel_blocks.specs.declared.changes.Change.{Change}
use Rattle.dom_tree.specs.Items.{Item}
use Rattle.focus_keys.specs.KeyTables.{key_number}
use Rattle.focus_keys.specs.declared.keys.Key.TheVariants.{Data}
use Rattle.event_messages.specs.declared.messages.Message.{Message}
use Rattle.event_queue.specs.declared.events.Event.{Event}
use Rattle.event_queue.specs.declared.events.Event.TheVariants as events
use Rattle.event_items.specs.EventItems.{EventItem}
use Rattle.event_items.specs.Subscriptions.{fires_for_message, with_firing}
use Rattle.document_stages.specs.Acting.{Acting, button_posts, button_post, change_posts, each_item, with_item_fired, has_room, key_posts, lock_posts, lock_post, message_posts, message_post, module_post, with_event, with_event_where, with_press, update_posts}
use Rattle.page_laws.specs.Soundness.{has_element, is_good_event}
use Rattle.page_laws.proofs.ActingLemmas.{IsSoundActing, TreeLaws, posted-sound}
use Rattle.page_laws.proofs.EventItemLemmas.{IsOfElement, noted-good, told_in_turn}

module _ (laws : TreeLaws) (items : List Item) where
  -- what is done for an item that is an element leaves all sound
  abbrev KeepsSound : (EventItem → Acting → Acting) → Type 0
  KeepsSound step =
      (item : EventItem) (a : Acting) → IsOfElement items item → IsSoundActing items a
      → IsSoundActing items (step item a)

  in_turn-sound : (step : EventItem → Acting → Acting) → KeepsSound step
      → (told : List EventItem) → All (IsOfElement items) told → (a : Acting)
      → IsSoundActing items a → IsSoundActing items (told_in_turn step told a)
  in_turn-sound step keeps [] good a s = s
  in_turn-sound step keeps (item ∷ told) good a s =
      in_turn-sound step keeps told (All-tail (IsOfElement items) item told good) (step item a)
      (keeps item a (All-head (IsOfElement items) item told good) s)

  each-sound : (step : EventItem → Acting → Acting) → KeepsSound step → (a : Acting)
      → IsSoundActing items a → IsSoundActing items (each_item step a)
  each-sound step keeps a s = in_turn-sound step keeps a.items.items s.event_items.items a s

  where-sound : (t : Bool) (event : Event) (a : Acting) → is_good_event items event ≡ true
      → IsSoundActing items a → IsSoundActing items (with_event_where t event a)
  where-sound true event a h s = posted-sound laws items event a h s
  where-sound false event a h s = s

  -- ---- messages

  fired-sound : (component : ℕ) (message : Message) (node : ℕ) (a : Acting)
      → has_element items node ≡ true → IsSoundActing items a
      → IsSoundActing items (with_item_fired component message node a)
  fired-sound component message node a h s = by (has_room a)
    where
      event : Event
      event = events.Fired node component message

      after : IsSoundActing items (with_event event a)
      after = posted-sound laws items event a h s

      by : (room : Bool) → IsSoundActing items
          (if room then record (with_event event a) { items = with_firing node message a.items }
          else with_event event a)
      by true = record {
        nodes = after.nodes;
        focus = after.focus;
        event_items = noted-good items node message a.items h s.event_items;
        queue = after.queue;
        timers = after.timers;
        target = after.target;
      }
      by false = after

  told-sound : (component : ℕ) (message : Message) → KeepsSound (message_post component message)
  told-sound component message item a h s = by (fires_for_message component message a.items item)
    where
      by : (t : Bool)
          → IsSoundActing items (if t then with_item_fired component message item.node a else a)
      by true = fired-sound component message item.node a h s
      by false = s

  pub messages-sound : (component : ℕ) (message : Message) (a : Acting) → IsSoundActing items a
      → IsSoundActing items (message_posts component message a)
  unfolding message_posts
  messages-sound component message a s =
      each-sound (message_post component message) (told-sound component message) a s

  -- ---- locks and changes of modules

  pub locks-sound : (component number : ℕ) (a : Acting) → IsSoundActing items a
      → IsSoundActing items (lock_posts component number a)
  unfolding lock_posts
  locks-sound component number a s =
      each-sound (lock_post component number)
      (λ item b h t. where-sound _ (events.Locked item.node 0) b h t) a s

  updates-sound : (component number : ℕ) (status : Option ℕ) (a : Acting)
      → IsSoundActing items a → IsSoundActing items (update_posts component number status a)
  updates-sound component number None a s = s
  updates-sound component number (Some status) a s =
      each-sound (module_post component number status)
      (λ item b h t. where-sound _ (events.Updated item.node status) b h t) a s

  pub changes-sound : (component : ℕ) (change : Change) (a : Acting) → IsSoundActing items a
      → IsSoundActing items (change_posts component change a)
  unfolding change_posts
  changes-sound component change a s = by change.locked
    where
      updated : Acting
      updated = update_posts component change.«module» change.status a

      after : IsSoundActing items updated
      after = updates-sound component change.«module» change.status a s

      by : (locked : Bool) → IsSoundActing items
          (if locked then lock_posts component change.«module» updated else updated)
      by true = locks-sound component change.«module» updated after
      by false = after

  -- ---- keys

  button-sound : (a : Acting) → IsSoundActing items a → IsSoundActing items (button_posts a)
  unfolding button_posts
  button-sound a s =
      each-sound button_post (λ item b h t. where-sound _ (events.Button item.node) b h t) a s

  pub keys-sound : (down : Bool) (key : ℕ) (a : Acting) → IsSoundActing items a
      → IsSoundActing items (key_posts down key a)
  keys-sound true key a s = by (key == key_number Data)
    where
      pressed-sound : IsSoundActing items (with_press key a)
      pressed-sound =
          posted-sound laws items (events.Default key) _ refl
          (posted-sound laws items (events.KeyDown key) a refl s)

      by : (t : Bool)
          → IsSoundActing items (if t then button_posts (with_press key a) else with_press key a)
      by true = button-sound (with_press key a) pressed-sound
      by false = pressed-sound
  keys-sound false key a s = posted-sound laws items (events.KeyUp key) a refl s
