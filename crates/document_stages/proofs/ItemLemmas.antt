-- How the event items of a document are told something, one behind the other.
use Rattle.std.proofs.Common.{◌≡◌, ℕ, zero, suc, ◌+◌, Bool, true, false, List, [], ◌∷◌, length, take, fold, Option, Some, None, refl, sym, ap, ◌∙◌, add-one, arith}
use Rattle.std.specs.Prelude.{if◌then◌else◌, slice_get}
use Rattle.std.specs.Option.{option_map_or}
use Rattle.std.proofs.lemmas.List.{take_all}
use Rattle.event_messages.specs.declared.messages.Message.{Message}
use Rattle.event_queue.specs.declared.item_kinds.ItemKind.TheVariants as kinds
use Rattle.event_items.specs.EventItems.{EventItem}
use Rattle.event_items.specs.Subscriptions.{fires_for_message, fires_for_button, fires_for_module}
use Rattle.document_stages.specs.Acting.{Acting, button_post, each_item, has_room, lock_post, message_post, module_post}

-- what is left where the item at a place is told, if there is one
abbrev pub told_at : (EventItem → Acting → Acting) → ℕ → List EventItem → Acting → Acting
told_at step place items a = option_map_or (λ item. step item a) (slice_get items place) a

-- which items there are stays, whichever is told
abbrev pub KeepsItems : (EventItem → Acting → Acting) → Type 0
KeepsItems step = (item : EventItem) (a : Acting) → (step item a).items.items ≡ a.items.items

-- the items at so many places were told, and there still are the same
pub record HaveBeenTold (step : EventItem → Acting → Acting) (count : ℕ) (first a : Acting) : Type 0 where
  pub told : a ≡ fold (λ acting item. step item acting) first (take count first.items.items)
  pub items_are : a.items.items ≡ first.items.items

fold-more : {A B : Type 0} (f : B → A → B) (b : B) (xs : List A) (place : ℕ)
    → fold f b (take (suc place) xs)
    ≡ option_map_or (f (fold f b (take place xs))) (slice_get xs place) (fold f b (take place xs))
fold-more f b [] zero = refl
fold-more f b [] (suc place) = refl
fold-more f b (x ∷ xs) zero = refl
fold-more f b (x ∷ xs) (suc place) = fold-more f (f b x) xs place

at-place-keeps : (step : EventItem → Acting → Acting) → KeepsItems step → (found : Option EventItem) (a : Acting)
    → (option_map_or (λ item. step item a) found a).items.items ≡ a.items.items
at-place-keeps step keeps (Some item) a = keeps item a
at-place-keeps step keeps None a = refl

pub none-told : (step : EventItem → Acting → Acting) (first : Acting) → HaveBeenTold step 0 first first
none-told step first = record { told = refl; items_are = refl }

pub one-more-told : (step : EventItem → Acting → Acting) → KeepsItems step → (count : ℕ) (first a b : Acting)
    → HaveBeenTold step count first a → b ≡ told_at step count a.items.items a
    → HaveBeenTold step (count + 1) first b
one-more-told step keeps count first a b before is =
    rw add-one record {
      told =
          is
          ∙ (ap (λ (items : List EventItem). told_at step count items a) before.items_are
          ∙ (ap (told_at step count first.items.items) before.told
          ∙ sym (fold-more (λ (acting : Acting) (item : EventItem). step item acting) first first.items.items count)));
      items_are =
          ap (λ (x : Acting). x.items.items) is
          ∙ (at-place-keeps step keeps (slice_get a.items.items count) a ∙ before.items_are);
    }

pub all-told : (step : EventItem → Acting → Acting) (count : ℕ) (first a : Acting)
    → count ≡ length first.items.items → HaveBeenTold step count first a → a ≡ each_item step first
all-told step count first a all before =
    before.told
    ∙ ap (fold (λ (acting : Acting) (item : EventItem). step item acting) first)
    (take_all count first.items.items (omega arith))

-- ---- each of the three keeps them

either-keeps : (test : Bool) (x y : Acting) (items : List EventItem) → x.items.items ≡ items → y.items.items ≡ items
    → (if test then x else y).items.items ≡ items
either-keeps true x y items e f = e
either-keeps false x y items e f = f

pub message-keeps : (component : ℕ) (message : Message) → KeepsItems (message_post component message)
message-keeps component message = λ item a.
    either-keeps (fires_for_message component message a.items item) _ _ a.items.items
    (either-keeps (has_room a) _ _ a.items.items refl refl) refl

pub module-keeps : (component number status : ℕ) → KeepsItems (module_post component number status)
module-keeps component number status = λ item a.
    either-keeps (fires_for_module kinds.ModuleUpdated component number a.items item) _ _ a.items.items refl refl

pub button-keeps : KeepsItems button_post
button-keeps = λ item a. either-keeps (fires_for_button a.items item) _ _ a.items.items refl refl

pub lock-keeps : (component number : ℕ) → KeepsItems (lock_post component number)
lock-keeps component number = λ item a.
    either-keeps (fires_for_module kinds.ModuleLocked component number a.items item) _ _ a.items.items refl refl
