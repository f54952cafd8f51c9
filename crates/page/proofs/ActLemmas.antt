-- Keys, messages, changes in modules and timers launch no document, and do nothing with the modules.
use Rattle.std.proofs.Common.{◌≡◌, ◌∙◌, ℕ, zero, suc, Bool, true, false, cond, List, [], ◌∷◌, refl, sym, ap, subst, nat_lt, length}
use Rattle.std.specs.Prelude.{Option, Some, None, Result, Ok, Err, OnOk, fold}
use Rattle.std.specs.Option.{option_map_or}
use Rattle.carousel_blocks.specs.declared.changes.Change.{Change}
use Rattle.event_items.specs.EventItems.{EventItem}
use Rattle.event_items.specs.Subscriptions.{fires_for_message, fires_for_button, fires_for_module, with_firing}
use Rattle.event_messages.specs.declared.messages.Message.{Message}
use Rattle.event_queue.specs.Queues.{most_events}
use Rattle.event_queue.specs.Timers.{first_due, most_timers, with_fired}
use Rattle.event_queue.specs.declared.events.Event.{Event}
use Rattle.event_queue.specs.declared.events.Event.TheVariants as events
use Rattle.event_queue.specs.declared.item_kinds.ItemKind.TheVariants as kinds
use Rattle.document_stages.specs.Acting.{Acting, acting_with_timers, button_posts, button_post, change_posts, with_item_fired, has_room, key_posts, lock_post, lock_posts, message_posts, message_post, module_post, with_event, with_event_where, with_press, with_timer_fired, with_timer_settled, with_timers_fired, update_posts}
use Rattle.acting_documents.specs.Handling.{change_effect, due_effect, key_effect, message_effect}
use Rattle.acting_documents.specs.Notices.{notice_effect}
use Rattle.acting_documents.specs.declared.notices.Notice.{Notice}
use Rattle.acting_documents.specs.declared.notices.Notice.TheVariants as notices
use Rattle.browser_objects.specs.Calls.{BrowserParts}
use Rattle.acting_documents.specs.devices.Doings.{Does, DoesApart, IsScene, lent_modules}
use Rattle.acting_documents.specs.Documents.{Document, passes}
use Rattle.acting_documents.specs.devices.Kept.{IsDocument, KeptDocument}
use Rattle.acting_documents.specs.Runs.{Effect, Scene, acting_in, effect_of_change, no_event, no_effect}
use Rattle.module_locks.specs.Standing.{ModulesState, StandsFor}
use Rattle.page.specs.devices.Acts.{ActsApart, Ends, Lent, with_lent}

-- ---- event items

items_launch : (step : EventItem → Acting → Acting) → ((item : EventItem) (a : Acting) → (step item a).launched ≡ a.launched) → (items : List EventItem) (a : Acting) → (fold (λ acting item. step item acting) a items).launched ≡ a.launched
items_launch step keeps [] a = refl
items_launch step keeps (item ∷ items) a = items_launch step keeps items (step item a) ∙ keeps item a

where_launches : (test : Bool) (event : Event) (a : Acting) → (with_event_where test event a).launched ≡ a.launched
where_launches true event a = refl
where_launches false event a = refl

either_launches : (b : Bool) (one other : Acting) → one.launched ≡ other.launched → (cond b one other).launched ≡ other.launched
either_launches true one other same = same
either_launches false one other same = refl

-- ---- messages

firing_launches : (component : ℕ) (message : Message) (node : ℕ) (a : Acting) → (with_item_fired component message node a).launched ≡ a.launched
firing_launches component message node a = by (has_room a)
  where
    by : (b : Bool) → (let after = with_event (events.Fired node component message) a in cond b (record after { items = with_firing node message a.items }) after).launched ≡ a.launched
    by true = refl
    by false = refl

told_launches : (component : ℕ) (message : Message) (item : EventItem) (a : Acting) → (message_post component message item a).launched ≡ a.launched
told_launches component message item a = by (fires_for_message component message a.items item)
  where
    by : (b : Bool) → (cond b (with_item_fired component message item.node a) a).launched ≡ a.launched
    by true = firing_launches component message item.node a
    by false = refl

message_launches : (component : ℕ) (message : Message) (s : Scene) → (message_effect component message s).launched ≡ None
unfolding message_effect message_posts
message_launches component message s = items_launch (message_post component message) (told_launches component message) s.document.items.items (acting_in no_event s)

-- ---- changes in modules

module_launches : (component number status : ℕ) (item : EventItem) (a : Acting) → (module_post component number status item a).launched ≡ a.launched
module_launches component number status item a = where_launches (fires_for_module kinds.ModuleUpdated component number a.items item) (events.Updated item.node status) a

update_launches : (component number : ℕ) (told : Option ℕ) (a : Acting) → (update_posts component number told a).launched ≡ a.launched
update_launches component number None a = refl
update_launches component number (Some status) a = items_launch (module_post component number status) (module_launches component number status) a.items.items a

lock_launches : (component number : ℕ) (item : EventItem) (a : Acting) → (lock_post component number item a).launched ≡ a.launched
lock_launches component number item a = where_launches (fires_for_module kinds.ModuleLocked component number a.items item) (events.Locked item.node 0) a

locks_launch : (component number : ℕ) (a : Acting) → (lock_posts component number a).launched ≡ a.launched
unfolding lock_posts
locks_launch component number a = items_launch (lock_post component number) (lock_launches component number) a.items.items a

change_posts_launch : (component : ℕ) (change : Change) (a : Acting) → (change_posts component change a).launched ≡ a.launched
unfolding change_posts
change_posts_launch component change a =
    let updated = update_posts component change.«module» change.status a in
    either_launches change.locked (lock_posts component change.«module» updated) updated (locks_launch component change.«module» updated) ∙ update_launches component change.«module» change.status a

change_launches : (component : ℕ) (change : Change) (s : Scene) → (change_effect component change s).launched ≡ None
unfolding change_effect
change_launches component change s = change_posts_launch component change (acting_in no_event s)

-- ---- keys

button_launches : (a : Acting) → (button_posts a).launched ≡ a.launched
unfolding button_posts
button_launches a = items_launch button_post (λ item a. where_launches (fires_for_button a.items item) (events.Button item.node) a) a.items.items a

key_posts_launch : (down : Bool) (key : ℕ) (a : Acting) → (key_posts down key a).launched ≡ a.launched
key_posts_launch true key a = either_launches _ (button_posts (with_press key a)) (with_press key a) (button_launches (with_press key a))
key_posts_launch false key a = refl

key_launches : (key : ℕ) (down : Bool) (s : Scene) → (key_effect key down s).launched ≡ None
unfolding key_effect
key_launches key down s = by (passes key s.document)
  where
    by : (b : Bool) → (cond b (effect_of_change (key_posts down key) s) (no_effect s)).launched ≡ None
    by true = key_posts_launch down key (acting_in no_event s)
    by false = refl

-- ---- timers

post_launches : (number : ℕ) (b : Bool) (a : Acting) → (cond b (with_event (events.Timer number) a) (with_timer_settled number (with_event (events.Timer number) a))).launched ≡ a.launched
post_launches number true a = refl
post_launches number false a = refl

fired_launches : (moment number : ℕ) (a : Acting) → (with_timer_fired moment number a).launched ≡ a.launched
fired_launches moment number a =
    let b = acting_with_timers (with_fired moment a.browser.timers) a in
    post_launches number (nat_lt (length b.queue) most_events) b

all_launch : (left moment : ℕ) (a : Acting) → (with_timers_fired left moment a).launched ≡ a.launched
unfolding with_timers_fired
all_launch zero moment a = refl
all_launch (suc more) moment a = by (first_due moment a.browser.timers) (λ number. all_launch more moment (with_timer_fired moment number a))
  where
    by : (o : Option ℕ) → ((number : ℕ) → (with_timers_fired more moment (with_timer_fired moment number a)).launched ≡ (with_timer_fired moment number a).launched)
        → (option_map_or (λ number. with_timers_fired more moment (with_timer_fired moment number a)) o a).launched ≡ a.launched
    by None rest = refl
    by (Some number) rest = rest number ∙ fired_launches moment number a

due_launches : (moment : ℕ) (s : Scene) → (due_effect moment s).launched ≡ None
unfolding due_effect
due_launches moment s = all_launch most_timers moment (acting_in no_event (record s { now = moment }))

-- ---- what a document is told

pub notice_launches : (notice : Notice) (s : Scene) → (notice_effect notice s).launched ≡ None
notice_launches (notices.Key key down) s = key_launches key down s
notice_launches (notices.Message component message) s = message_launches component message.now s
notice_launches (notices.Change component change) s = change_launches component change.now s
notice_launches (notices.Moment moment) s = due_launches moment s

-- ---- what is lent

-- a document that is lent what belongs to the receiver
abbrev pub lent_browser : BrowserParts → ℕ → KeptDocument → KeptDocument
lent_browser browser now k = record k { lent = browser; now = now }

-- it is the same whatever it is lent
lent_is : (modules : ModulesState) (k : KeptDocument) (browser : BrowserParts) (now : ℕ) (d : Document) → IsDocument (lent_modules modules k) d → IsDocument (lent_browser browser now k) d
lent_is modules k browser now d is = record {
  programs = is.programs;
  others = ap (λ (x : KeptDocument). lent_modules k.modules (lent_browser browser now x)) is.others;
}

-- what it does while it is lent that, it does whatever modules it is lent
pub acts_apart : {A E : Type 0} (effect : Scene → Effect) (now : ℕ) (old lent did new : KeptDocument) (browser back given_back : BrowserParts) (before after : List ℕ) (result : Result A E) → ((s : Scene) → (effect s).launched ≡ None) → lent ≡ lent_browser browser now old
    → new ≡ lent_browser back now did → given_back ≡ did.lent → OnOk result (DoesApart effect lent did before after) → OnOk result (ActsApart effect now old new browser given_back before after)
acts_apart effect now old lent did new browser back given_back before after (Err fault) launches lent_as new_as back_as apart = tt
acts_apart effect now old lent did new browser back given_back before after (Ok done) launches lent_as new_as back_as apart = λ modules.
    let does = apart modules in
    record {
      text = does.text;
      printed = does.printed;
      acts = λ s scene.
          let has = does.does s (subst (λ (k : KeptDocument). IsScene (lent_modules modules k) s) (sym lent_as) scene) in
          record {
            launched_is = launches s;
            is = subst (λ (k : KeptDocument). IsDocument k (effect s).scene.document) (sym new_as) (lent_is modules did back now (effect s).scene.document has.is.is);
            browser_is = back_as ∙ has.is.lent_is;
            modules = has.is.modules;
            text_is = has.text_is;
          };
    }

-- ---- ends

-- what ends it while it is lent that
pub ends_lent : {A E : Type 0} (effect : Scene → Effect) (now : ℕ) (old lent did : KeptDocument) (given back : Lent) (before after : List ℕ) (result : Result A E) → lent ≡ with_lent old given now → back.browser ≡ did.lent → back.modules ≡ did.modules
    → OnOk result (Does effect lent did before after) → OnOk result (Ends effect now old given back before after)
ends_lent effect now old lent did given back before after (Err fault) lent_as browser_as modules_as does = tt
ends_lent effect now old lent did given back before after (Ok done) lent_as browser_as modules_as does = record {
  text = does.text;
  printed = does.printed;
  ends = λ s scene.
      let has = does.does s (subst (λ (k : KeptDocument). IsScene k s) (sym lent_as) scene) in
      record {
        browser_is = browser_as ∙ has.is.lent_is;
        modules = subst (λ (m : ModulesState). StandsFor m (effect s).scene.modules) (sym modules_as) has.is.modules;
        text_is = has.text_is;
      };
}
