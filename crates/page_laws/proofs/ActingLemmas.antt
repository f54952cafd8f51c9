-- What handlers and default actions act on stays sound, whatever they do to it.
use Rattle.std.proofs.Common.{◌≡◌, ℕ, zero, suc, ◌<◌, ◌≤◌, Bool, true, false, List, length, Option, Some, None, refl, sym, ◌∙◌, ap, subst}
use Rattle.std.specs.Prelude.{All, codes, if◌then◌else◌, is_some, nat_lt, pos}
use Rattle.std.specs.Option.{option_map_or}
use Rattle.std.proofs.lemmas.Bool.{eqb-true}
use Rattle.bml_bytes.specs.Words.{is_same}
use Rattle.dom_tree.specs.Items.{IsElement, Item, changed_at, parent_of, tag_of, with_attribute, with_text}
use Rattle.dom_tree.specs.NodeNumbers.{number_of}
use Rattle.dom_tree.specs.Walks.{IsTree, KeepsPlaces}
use Rattle.dom_tree.specs.declared.node_ids.NodeId.{NodeId}
use Rattle.multipart_entities.specs.declared.paths.Path.{Path}
use Rattle.style_cascade.specs.States.{is_node}
use Rattle.style_cascade.specs.declared.states.Focus.{Focus}
use Rattle.focus_keys.specs.Defaults.{Action}
use Rattle.focus_keys.specs.Defaults.Action.{NoAction, Moves, Activates, Accesses}
use Rattle.focus_keys.specs.Targets.{can_have_focus, nav_target_of}
use Rattle.es_values.specs.declared.hosts.HostAnswer.{HostAnswer}
use Rattle.es_values.specs.declared.hosts.HostAnswer.TheVariants.{Value as Answer, Ended, NotCallable}
use Rattle.es_values.specs.declared.values.HostRef.{HostRef}
use Rattle.es_values.specs.declared.values.HostRef.TheVariants as ref
use Rattle.es_values.specs.declared.values.Value.{Value}
use Rattle.es_values.specs.declared.values.Value.TheVariants.{Bool as Truth, Undefined, Host, Str}
use Rattle.es_values.specs.Conversions.{text_of}
use Rattle.es_values.specs.Objects.{ObjectState}
use Rattle.es_values.specs.Values.{truth_of}
use Rattle.event_queue.specs.Queues.{most_events}
use Rattle.event_queue.specs.Timers.{TimersState, first_due, most_timers, with_fired, with_settled}
use Rattle.event_queue.specs.declared.events.Event.{Event}
use Rattle.event_queue.specs.declared.events.Event.TheVariants as events
use Rattle.event_items.specs.Subscriptions.{is_subscribed, with_subscribed}
use Rattle.browser_objects.specs.Calls.{BrowserParts}
use Rattle.browser_objects.specs.Registers.{register_text}
use Rattle.dom_objects.specs.Reads.{read_value}
use Rattle.dom_objects.specs.Writes.{Change, change_of, changed_items, changed_tree}
use Rattle.dom_objects.specs.Writes.Change.{NoChange, ChangesText, ChangesAttribute, ChangesStyle}
use Rattle.dom_objects.specs.declared.current_events.CurrentEvent.{CurrentEvent}
use Rattle.document_stages.specs.Acting.{Acting, CallAnswer, with_action, acting_with_timers, with_active, with_first_events, browser_value, document_call, with_due_events, element_call, first_focus, focus_on, with_focus_asked, gives, is_subscription, is_ending, launch, without_focus_of, with_focus_moved, no_focus, node_id, node_member, with_node_written, not_callable, parts_of, with_event, with_event_for, member_value, register_value, with_text_written, with_timer_fired, with_timer_event, with_timer_settled, with_timers_fired, with_browser, with_focus, with_line, with_member_set}
use Rattle.document_stages.specs.EventLines.{launch_line}
use Rattle.page_laws.specs.Soundness.{AreTimers, has_element, has_node, is_good, is_good_event, is_good_place, names_well}
use Rattle.page_laws.proofs.EventItemLemmas.{AreGoodItems, subscribed-good}
use Rattle.page_laws.proofs.ItemLemmas.{changed-tree}
use Rattle.page_laws.proofs.QueueLemmas.{posted-all, posted-room}
use Rattle.page_laws.proofs.ReadLemmas.{HangBefore, IsGiven, has_target, id-given, is_given, value-given}
use Rattle.page_laws.proofs.TargetLemmas.{IsGoodAction, focus-element, nav-element}
use Rattle.page_laws.proofs.TimerLemmas.{with_settled-sound, with_fired-sound}

-- what is known of trees
pub record TreeLaws : Type 0 where
  pub texts : (items : List Item) (node : ℕ) (text : List ℕ)
      → KeepsPlaces items (changed_at (with_text text) node items)
  pub attributes : (items : List Item) (node : ℕ) (name value : List ℕ)
      → KeepsPlaces items (changed_at (with_attribute name value) node items)
  pub within : (items : List Item) (node up : ℕ) → parent_of items node ≡ Some up
      → node < length items
  pub before : (items : List Item) → IsTree items → (node up : ℕ)
      → parent_of items node ≡ Some up → (up < node) × IsElement items up

-- the nodes are a tree, with the numbers and the tags of those at first
pub record AreAsFirst (items now : List Item) : Type 0 where
  pub tree : IsTree now
  pub count : length now ≡ length items
  pub tags : (node : ℕ) → tag_of now node ≡ tag_of items node

pub record IsGoodFocus (items : List Item) (focus : Focus) : Type 0 where
  pub has : is_good_place items (number_of focus.focus) ≡ true
  pub active : is_good_place items (number_of focus.active) ≡ true

pub record IsGoodQueue (items : List Item) (queue : List Event) : Type 0 where
  pub room : length queue ≤ most_events
  pub events : All (λ event. is_good_event items event ≡ true) queue

-- What is acted on is sound, by the nodes as they were at first.
pub record IsSoundActing (items : List Item) (a : Acting) : Type 0 where
  pub nodes : AreAsFirst items a.tree.items
  pub focus : IsGoodFocus items a.tree.focus
  pub event_items : AreGoodItems items a.items
  pub queue : IsGoodQueue items a.queue
  pub timers : AreTimers a.browser.timers
  pub target : has_target items a.event ≡ true

-- the value of an answer names what is there, if it has one
abbrev pub IsGivenAnswer : List Item → HostAnswer → Type 0
IsGivenAnswer items (Answer value) = IsGiven items value
IsGivenAnswer items Ended = Unit {0}
IsGivenAnswer items NotCallable = Unit {0}

-- and what is acted on behind it is sound, and these are the objects
pub record IsSoundAnswer (items : List Item) (heap : List ObjectState) (r : CallAnswer)
    : Type 0 where
  pub answer : IsGivenAnswer items r.answer
  pub acting : IsSoundActing items r.acting
  pub heap_is : r.heap ≡ heap

-- ---- what names well at first does so now, and the other way round

pub element-same : (items now : List Item) → AreAsFirst items now → (node : ℕ)
    → has_element now node ≡ has_element items node
element-same items now n node = ap is_some (n.tags node)

pub node-same : (items now : List Item) → AreAsFirst items now → (node : ℕ)
    → has_node now node ≡ has_node items node
node-same items now n node = ap (nat_lt node) n.count

pub place-same : (items now : List Item) → AreAsFirst items now → (node : Option ℕ)
    → is_good_place now node ≡ is_good_place items node
place-same items now n None = refl
place-same items now n (Some node) = element-same items now n node

target-same : (items now : List Item) → AreAsFirst items now → (current : CurrentEvent)
    → has_target now current ≡ has_target items current
target-same items now n current = by current.event
  where
    by : (event : Option Event)
        → option_map_or (λ event. has_node now current.target) event true
        ≡ option_map_or (λ event. has_node items current.target) event true
    by None = refl
    by (Some event) = node-same items now n current.target

names-same : (items now : List Item) → AreAsFirst items now → (reference : HostRef)
    → names_well now reference ≡ names_well items reference
names-same items now n (ref.Node node) = node-same items now n node
names-same items now n (ref.Style node state) = element-same items now n node
names-same items now n _ = refl

given-same : (items now : List Item) → AreAsFirst items now → (value : Value)
    → is_given now value ≡ is_given items value
given-same items now n (Host reference) = names-same items now n reference
given-same items now n _ = refl

pub good-same : (items now : List Item) → AreAsFirst items now → (limit : ℕ) (value : Value)
    → is_good now limit value ≡ is_good items limit value
good-same items now n limit (Host reference) = names-same items now n reference
good-same items now n limit _ = refl

pub event-same : (items now : List Item) → AreAsFirst items now → (event : Event)
    → is_good_event now event ≡ is_good_event items event
event-same items now n (events.Focus node) = element-same items now n node
event-same items now n (events.Blur node) = element-same items now n node
event-same items now n (events.Click node) = element-same items now n node
event-same items now n (events.Fired node component message) = element-same items now n node
event-same items now n (events.Updated node status) = element-same items now n node
event-same items now n (events.Locked node status) = element-same items now n node
event-same items now n (events.Button node) = element-same items now n node
event-same items now n (events.DataEvent node) = element-same items now n node
event-same items now n _ = refl

module _ (laws : TreeLaws) (items : List Item) where
  hang : (now : List Item) → IsTree now → HangBefore now
  hang now tree node up e = ((laws.before now tree node up e).0, laws.within now node up e)

  -- ---- posts

  pub posted-sound : (event : Event) (a : Acting) → is_good_event items event ≡ true
      → IsSoundActing items a → IsSoundActing items (with_event event a)
  posted-sound event a h s = record {
    nodes = s.nodes;
    focus = s.focus;
    event_items = s.event_items;
    queue = record {
      room = posted-room event a.queue s.queue.room;
      events = posted-all (λ e. is_good_event items e ≡ true) event a.queue h s.queue.events;
    };
    timers = s.timers;
    target = s.target;
  }

  focus-sound : (focus : Focus) (a : Acting) → IsGoodFocus items focus → IsSoundActing items a
      → IsSoundActing items (with_focus focus a)
  focus-sound focus a h s =
      record {
        nodes = s.nodes;
        focus = h;
        event_items = s.event_items;
        queue = s.queue;
        timers = s.timers;
        target = s.target;
      }

  on-good : (node : ℕ) → has_element items node ≡ true → IsGoodFocus items (focus_on node)
  on-good node h = record { has = h; active = refl }

  blur-sound : (node : Option ℕ) (a : Acting) → is_good_place items node ≡ true
      → IsSoundActing items a → IsSoundActing items (with_event_for events.Blur node a)
  blur-sound None a h s = s
  blur-sound (Some node) a h s = posted-sound (events.Blur node) a h s

  -- ---- moves of the focus

  pub moved-sound : (node : ℕ) (a : Acting) → has_element items node ≡ true
      → IsSoundActing items a → IsSoundActing items (with_focus_moved node a)
  unfolding with_focus_moved
  moved-sound node a h s = by (is_node node a.tree.focus.focus)
    where
      by : (has : Bool) → IsSoundActing items (if has then a
          else with_event (events.Focus node)
          (with_event_for events.Blur (number_of a.tree.focus.focus) (with_focus (focus_on node) a)))
      by true = s
      by false =
          posted-sound (events.Focus node) _ h
          (blur-sound (number_of a.tree.focus.focus) (with_focus (focus_on node) a) s.focus.has
          (focus-sound (focus_on node) a (on-good node h) s))

  has-element : (node : ℕ) (focus : Option NodeId) → is_node node focus ≡ true
      → is_good_place items (number_of focus) ≡ true → has_element items node ≡ true
  has-element node None e h = absurd (cc e)
  has-element node (Some found) e h =
      subst (λ (n : ℕ). has_element items n ≡ true) (eqb-true found.0 node e) h

  left-sound : (node : ℕ) (a : Acting) → IsSoundActing items a
      → IsSoundActing items (without_focus_of node a)
  unfolding without_focus_of
  left-sound node a s = by (is_node node a.tree.focus.focus) refl
    where
      by : (has : Bool) → is_node node a.tree.focus.focus ≡ has → IsSoundActing items
          (if has then with_event (events.Blur node) (with_focus no_focus a) else a)
      by true e =
          posted-sound (events.Blur node) (with_focus no_focus a)
          (has-element node a.tree.focus.focus e s.focus.has)
          (focus-sound no_focus a (record { has = refl; active = refl }) s)
      by false e = s

  activated-sound : (node : ℕ) (a : Acting) → has_element items node ≡ true
      → IsSoundActing items a → IsSoundActing items (with_active node a)
  activated-sound node a h s =
      posted-sound (events.Click node) _ h
      (focus-sound (record a.tree.focus { active = Some (node_id node) }) a
      (record { has = s.focus.has; active = h }) s)

  pub acted-sound : (action : Action) (a : Acting) → IsGoodAction items action
      → IsSoundActing items a → IsSoundActing items (with_action action a)
  acted-sound NoAction a h s = s
  acted-sound (Moves node) a h s = moved-sound node a h s
  acted-sound (Activates node) a h s = activated-sound node a h s
  acted-sound (Accesses node) a h s =
      posted-sound (events.Click node) (with_focus_moved node a) h (moved-sound node a h s)

  -- ---- timers

  timers-sound : (timers : TimersState) (a : Acting) → AreTimers timers → IsSoundActing items a
      → IsSoundActing items (acting_with_timers timers a)
  timers-sound timers a h s = record {
    nodes = s.nodes;
    focus = s.focus;
    event_items = s.event_items;
    queue = s.queue;
    timers = h;
    target = s.target;
  }

  timer_posted-sound : (number : ℕ) (a : Acting) → IsSoundActing items a
      → IsSoundActing items (with_timer_event number a)
  timer_posted-sound number a s = by (nat_lt (length a.queue) most_events)
    where
      event : Event
      event = events.Timer number

      by : (room : Bool) → IsSoundActing items
          (if room then with_event event a else with_timer_settled number (with_event event a))
      by true = posted-sound event a refl s
      by false =
          timers-sound (with_settled number a.browser.timers) (with_event event a)
          (with_settled-sound number a.browser.timers s.timers) (posted-sound event a refl s)

  fired-sound : (more moment : ℕ) (a : Acting) → IsSoundActing items a
      → IsSoundActing items (with_timers_fired more moment a)
  unfolding with_timers_fired
  fired-sound zero moment a s = s
  fired-sound (suc more) moment a s =
      by (fired-sound more moment) (first_due moment a.browser.timers)
    where
      by : ((a : Acting) → IsSoundActing items a → IsSoundActing items (with_timers_fired more moment a))
          → (number : Option ℕ) → IsSoundActing items (option_map_or
          (λ number. with_timers_fired more moment (with_timer_fired moment number a)) number a)
      by rest None = s
      by rest (Some number) =
          rest (with_timer_fired moment number a)
          (timer_posted-sound number _
          (timers-sound (with_fired moment a.browser.timers) a
          (with_fired-sound moment a.browser.timers s.timers) s))

  pub due-sound : (moment : ℕ) (a : Acting) → IsSoundActing items a
      → IsSoundActing items (with_due_events moment a)
  due-sound moment a s = fired-sound most_timers moment a s

  -- ---- the first focus

  first-good : (a : Acting) → IsSoundActing items a
      → is_good_place items (first_focus a) ≡ true
  first-good a s = by (is_some a.tree.focus.focus)
    where
      by : (has : Bool) → is_good_place items (if has then None
          else nav_target_of a.tree (pos 0)) ≡ true
      by true = refl
      by false =
          sym (place-same items a.tree.items s.nodes _)
          ∙ nav-element a.tree (pos 0)

  begun-by : (node : Option ℕ) (a : Acting) → is_good_place items node ≡ true
      → IsSoundActing items a → IsSoundActing items (with_first_events node a)
  begun-by None a h s = posted-sound events.Load a refl s
  begun-by (Some node) a h s =
      posted-sound (events.Focus node) _ h
      (posted-sound events.Load _ refl (focus-sound (focus_on node) a (on-good node h) s))

  pub begun-sound : (a : Acting) → IsSoundActing items a
      → IsSoundActing items (with_first_events (first_focus a) a)
  begun-sound a s = begun-by (first_focus a) a (first-good a s) s

  -- ---- what scripts read and write

  part-given : (a : Acting) → IsSoundActing items a → (base : HostRef) (name : List ℕ)
      → IsGiven items (read_value (parts_of a) base name)
  part-given a s base name =
      sym (given-same items a.tree.items s.nodes (read_value (parts_of a) base name))
      ∙ value-given (parts_of a) (hang a.tree.items s.nodes.tree)
      (place-same items a.tree.items s.nodes (number_of a.tree.focus.focus) ∙ s.focus.has)
      (target-same items a.tree.items s.nodes a.event ∙ s.target) base name

  either-given : (t : Bool) (one other : Value) → IsGiven items one → IsGiven items other
      → IsGiven items (if t then one else other)
  either-given true one other h more = h
  either-given false one other h more = more

  browser-given : (name : List ℕ) → IsGiven items (browser_value name)
  browser-given name =
      either-given (is_same name (codes "Ureg")) _ _ refl
      (either-given (is_same name (codes "Greg")) _ _ refl refl)

  register-given : (registers : List (List ℕ)) (name : List ℕ)
      → IsGiven items (register_value registers name)
  register-given registers name = by (register_text registers name)
    where
      by : (text : Option (List ℕ)) → IsGiven items (option_map_or Str text Undefined)
      by None = refl
      by (Some text) = refl

  node_read-given : (a : Acting) → IsSoundActing items a → (node : ℕ) (name : List ℕ)
      → IsGiven items (node_member a node name)
  node_read-given a s node name =
      either-given (is_subscription a node name) (Truth (is_subscribed node a.items))
      (read_value (parts_of a) (ref.Node node) name) refl (part-given a s (ref.Node node) name)

  pub read-given : (a : Acting) → IsSoundActing items a → (base : HostRef) (name : List ℕ)
      → IsGiven items (member_value a base name)
  read-given a s ref.Browser name = browser-given name
  read-given a s ref.Ureg name = register-given a.browser.ureg name
  read-given a s ref.Greg name = register-given a.browser.greg name
  read-given a s ref.Document name = part-given a s ref.Document name
  read-given a s ref.Event name = part-given a s ref.Event name
  read-given a s (ref.Node node) name = node_read-given a s node name
  read-given a s (ref.Style node state) name = part-given a s (ref.Style node state) name

  changed-nodes : (f : Item → Item) (place : ℕ)
      → ((now : List Item) → KeepsPlaces now (changed_at f place now)) → (now : List Item)
      → AreAsFirst items now → AreAsFirst items (changed_at f place now)
  changed-nodes f place keeps now n = record {
    tree = changed-tree f place keeps now n.tree;
    count = (keeps now).count ∙ n.count;
    tags = λ node. (keeps now).tags node ∙ n.tags node;
  }

  written-nodes : (change : Change) (now : List Item) → AreAsFirst items now
      → AreAsFirst items (changed_items change now)
  written-nodes NoChange now n = n
  written-nodes (ChangesText node text) now n =
      changed-nodes (with_text text) node (λ all. laws.texts all node text) now n
  written-nodes (ChangesAttribute node name value) now n =
      changed-nodes (with_attribute name value) node (λ all. laws.attributes all node name value)
      now n
  written-nodes (ChangesStyle node state property value) now n = n

  pub browser-sound : (browser : BrowserParts) (a : Acting) → AreTimers browser.timers
      → IsSoundActing items a → IsSoundActing items (with_browser browser a)
  browser-sound browser a h s = record {
    nodes = s.nodes;
    focus = s.focus;
    event_items = s.event_items;
    queue = s.queue;
    timers = h;
    target = s.target;
  }

  tree-sound : (a : Acting) → IsSoundActing items a → (base : HostRef) (name text : List ℕ)
      → IsSoundActing items
      (record a { tree = changed_tree (change_of a.tree.items base name text) a.tree })
  tree-sound a s base name text = record {
    nodes = written-nodes (change_of a.tree.items base name text) a.tree.items s.nodes;
    focus = s.focus;
    event_items = s.event_items;
    queue = s.queue;
    timers = s.timers;
    target = s.target;
  }

  text-sound : (a : Acting) → IsSoundActing items a → (base : HostRef) (name text : List ℕ)
      → IsSoundActing items (with_text_written a base name text)
  text-sound a s ref.Ureg name text = browser-sound _ a s.timers s
  text-sound a s ref.Greg name text = browser-sound _ a s.timers s
  text-sound a s ref.Browser name text = tree-sound a s ref.Browser name text
  text-sound a s ref.Document name text = tree-sound a s ref.Document name text
  text-sound a s ref.Event name text = tree-sound a s ref.Event name text
  text-sound a s (ref.Node node) name text = tree-sound a s (ref.Node node) name text
  text-sound a s (ref.Style node state) name text =
      tree-sound a s (ref.Style node state) name text

  subscribed-sound : (node : ℕ) (truth : Bool) (a : Acting) → IsSoundActing items a
      → IsSoundActing items (record a { items = with_subscribed node truth a.items })
  subscribed-sound node truth a s = record {
    nodes = s.nodes;
    focus = s.focus;
    event_items = subscribed-good items node truth a.items s.event_items;
    queue = s.queue;
    timers = s.timers;
    target = s.target;
  }

  node-sound : (a : Acting) → IsSoundActing items a → (node : ℕ) (name : List ℕ)
      (value : Value) (heap : List ObjectState)
      → IsSoundActing items (with_node_written a node name value heap)
  node-sound a s node name value heap = by (is_subscription a node name)
    where
      by : (t : Bool) → IsSoundActing items
          (if t then record a { items = with_subscribed node (truth_of value) a.items }
          else with_text_written a (ref.Node node) name (text_of heap value))
      by true = subscribed-sound node (truth_of value) a s
      by false = text-sound a s (ref.Node node) name (text_of heap value)

  pub written-sound : (a : Acting) → IsSoundActing items a → (base : HostRef) (name : List ℕ)
      (value : Value) (heap : List ObjectState)
      → IsSoundActing items (with_member_set a base name value heap)
  written-sound a s (ref.Node node) name value heap = node-sound a s node name value heap
  written-sound a s ref.Ureg name value heap =
      text-sound a s ref.Ureg name (text_of heap value)
  written-sound a s ref.Greg name value heap =
      text-sound a s ref.Greg name (text_of heap value)
  written-sound a s ref.Browser name value heap =
      text-sound a s ref.Browser name (text_of heap value)
  written-sound a s ref.Document name value heap =
      text-sound a s ref.Document name (text_of heap value)
  written-sound a s ref.Event name value heap =
      text-sound a s ref.Event name (text_of heap value)
  written-sound a s (ref.Style node state) name value heap =
      text-sound a s (ref.Style node state) name (text_of heap value)

  -- ---- what scripts call

  focused-sound : (node : ℕ) (a : Acting) → IsSoundActing items a
      → IsSoundActing items (with_focus_asked node a)
  focused-sound node a s =
      by (can_have_focus a.tree node) refl
    where
      by : (can : Bool) → can_have_focus a.tree node ≡ can
          → IsSoundActing items (if can then with_focus_moved node a else a)
      by true e =
          moved-sound node a
          (sym (element-same items a.tree.items s.nodes node)
          ∙ focus-element a.tree node e) s
      by false e = s

  module _ (heap : List ObjectState) where
    pub chosen-sound : (t : Bool) (one other : CallAnswer) → IsSoundAnswer items heap one
        → IsSoundAnswer items heap other → IsSoundAnswer items heap (if t then one else other)
    chosen-sound true one other h more = h
    chosen-sound false one other h more = more

    pub gives-sound : (value : Value) (a : Acting) → IsGiven items value → IsSoundActing items a
        → IsSoundAnswer items heap (gives value a heap)
    gives-sound value a h s = record { answer = h; acting = s; heap_is = refl }

    pub none-sound : (a : Acting) → IsSoundActing items a
        → IsSoundAnswer items heap (not_callable a heap)
    none-sound a s = record { answer = tt; acting = s; heap_is = refl }

    pub document-sound : (a : Acting) → IsSoundActing items a → (name id : List ℕ)
        → IsSoundAnswer items heap (document_call a name id heap)
    document-sound a s name id =
        chosen-sound (is_same name (codes "getElementById")) _ _
        (gives-sound _ a (sym (given-same items a.tree.items s.nodes _) ∙ id-given a.tree.items id)
        s)
        (none-sound a s)

    pub element-sound : (a : Acting) → IsSoundActing items a → (node : ℕ) (name : List ℕ)
        → IsSoundAnswer items heap (element_call a node name heap)
    element-sound a s node name =
        chosen-sound (is_same name (codes "focus")) _ _
        (gives-sound Undefined (with_focus_asked node a) refl (focused-sound node a s))
        (chosen-sound (is_same name (codes "blur")) _ _
        (gives-sound Undefined (without_focus_of node a) refl (left-sound node a s)) (none-sound a s))

    -- ---- launches

    pub line-sound : (line : List ℕ) (launched : Option Path) (a : Acting) → IsSoundActing items a
        → IsSoundActing items (record (with_line line a) { launched = launched })
    line-sound line launched a s = record {
      nodes = s.nodes;
      focus = s.focus;
      event_items = s.event_items;
      queue = s.queue;
      timers = s.timers;
      target = s.target;
    }

    pub launch-sound : (path : Path) (a : Acting) → IsSoundActing items a
        → IsSoundAnswer items heap (launch path a heap)
    launch-sound path a s =
        chosen-sound (is_ending a.event.event) _ _ (gives-sound _ a refl s)
        (record {
          answer = tt;
          acting = line-sound (launch_line path) (Some path) a s;
          heap_is = refl;
        })
