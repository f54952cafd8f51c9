-- What is done in a document that ends for a data event.
use Rattle.std.proofs.Common.{◌≡◌, ◌∙◌, ℕ, ◌+◌, List, [], ◌∷◌, ◌++◌, length, map, take, refl, sym, ap, subst, append_assoc, append-nil}
use Rattle.std.specs.Io.{StartsWith}
use Rattle.std.proofs.lemmas.List.{map-append}
use Rattle.dom_tree.specs.declared.node_ids.NodeId.{NodeId}
use Rattle.event_items.specs.Subscriptions.{data_event_items}
use Rattle.event_queue.specs.declared.events.Event.TheVariants as events
use Rattle.acting_documents.specs.Beginnings.{data_event_effect, items_effect, without_waiting}
use Rattle.acting_documents.specs.Handling.{event_effect}
use Rattle.acting_documents.specs.Runs.{Effect, Scene, effect_behind, followed_by}
use Rattle.acting_documents.specs.devices.Doings.{Changes, Does, DoesInEnding, HasDone, IsScene}
use Rattle.acting_documents.specs.devices.Kept.{KeptDocument}
use Rattle.acting_documents.proofs.DoingLemmas.{does_as, does_changed, front_of, parts_of_kept}

-- ---- one behind the other

-- a thing is done, and then another
pub ending_done : (effect : Scene → Effect) (old new : KeptDocument) (before after : List ℕ) → Does effect old new before after
    → DoesInEnding effect old new before after
ending_done effect old new before after x = record {
  text = x.text;
  printed = x.printed;
  leaves = λ s k. (x.does s k).is;
  tells = λ s k. (x.does s k).text_is;
}

pub does_followed : (first more : Scene → Effect) (old middle new : KeptDocument) (before between after : List ℕ)
    → DoesInEnding first old middle before between → Does more middle new between after
    → Does (λ s. followed_by more (first s)) old new before after
does_followed first more old middle new before between after x y = record {
  text = x.text ++ y.text;
  printed = y.printed ∙ (ap (λ (t : List ℕ). t ++ y.text) x.printed ∙ append_assoc before x.text y.text);
  does = λ s k. done (first s) (x.tells s k) (y.does (first s).scene (x.leaves s k));
}
  where
    done : (e : Effect) → x.text ≡ e.text → HasDone new y.text (more e.scene) → HasDone new (x.text ++ y.text) (followed_by more e)
    done e same z = record {
      is = z.is;
      launched_is = z.launched_is;
      text_is = ap (λ (t : List ℕ). t ++ y.text) same ∙ ap (λ (t : List ℕ). e.text ++ t) z.text_is;
    }

pub ending_grows : (effect : Scene → Effect) (old new : KeptDocument) (before after : List ℕ) → DoesInEnding effect old new before after
    → StartsWith after before
ending_grows effect old new before after x = subst (λ (t : List ℕ). take (length before) t ≡ before) (sym x.printed) (front_of before x.text)

-- ---- the handlers of items

items-append : (items more : List ℕ) (s : Scene) → items_effect (items ++ more) s ≡ followed_by (items_effect more) (items_effect items s)
items-append [] more s = refl
items-append (item ∷ items) more s =
    let e : Effect = event_effect (events.DataEvent item) s in
    let rest : Effect = items_effect items e.scene in
    let last : Effect = items_effect more rest.scene in
    ap (effect_behind e.text) (items-append items more e.scene)
    ∙ ap (λ (t : List ℕ). record last { text = t }) (sym (append_assoc e.text rest.text last.text))

pub no-items : (old : KeptDocument) (before : List ℕ) → DoesInEnding (items_effect []) old old before before
no-items old before = record {
  text = [];
  printed = sym (append-nil before);
  leaves = λ s k. k;
  tells = λ s k. refl;
}

-- one more of them is handled
more-of : (items : List ℕ) (item : ℕ) (old middle new : KeptDocument) (before between after : List ℕ)
    → DoesInEnding (items_effect items) old middle before between → Does (event_effect (events.DataEvent item)) middle new between after
    → DoesInEnding (items_effect (items ++ item ∷ [])) old new before after
more-of items item old middle new before between after x y =
    let z = ending_done (λ s. followed_by (event_effect (events.DataEvent item)) (items_effect items s)) old new before after
    (does_followed (items_effect items) (event_effect (events.DataEvent item)) old middle new before between after x y) in
    record {
      text = z.text;
      printed = z.printed;
      leaves = λ s k. subst (λ (e : Effect). IsScene new e.scene) (sym (items-append items (item ∷ []) s)) (z.leaves s k);
      tells = λ s k. z.tells s k ∙ behind (items_effect items s) ∙ ap (λ (e : Effect). e.text) (sym (items-append items (item ∷ []) s));
    }
  where
    behind : (e : Effect) → (followed_by (event_effect (events.DataEvent item)) e).text ≡ (followed_by (items_effect (item ∷ [])) e).text
    behind e = ap (λ (t : List ℕ). e.text ++ t) (sym (append-nil (event_effect (events.DataEvent item) e.scene).text))

abbrev numbers : List NodeId → List ℕ
numbers nodes = map (λ (node : NodeId). node.0) nodes

pub more-items : (nodes : List NodeId) (index : ℕ) (node : NodeId) (old middle new : KeptDocument) (before between after : List ℕ)
    → take (index + 1) nodes ≡ take index nodes ++ node ∷ []
    → DoesInEnding (items_effect (numbers (take index nodes))) old middle before between
    → Does (event_effect (events.DataEvent node.0)) middle new between after
    → DoesInEnding (items_effect (numbers (take (index + 1) nodes))) old new before after
more-items nodes index node old middle new before between after one x y =
    subst (λ (items : List ℕ). DoesInEnding (items_effect items) old new before after)
    (sym (ap numbers one ∙ map-append (λ (node : NodeId). node.0) (take index nodes) (node ∷ [])))
    (more-of (numbers (take index nodes)) node.0 old middle new before between after x y)

-- ---- the end of a document

pub ends-for-data-event : (nodes : List NodeId) (old waiting middle new : KeptDocument) (before between after : List ℕ)
    → numbers nodes ≡ data_event_items old.items → Changes without_waiting old waiting
    → DoesInEnding (items_effect (numbers nodes)) waiting middle before between → Does (event_effect events.Unload) middle new between after
    → Does data_event_effect old new before after
unfolding data_event_effect
ends-for-data-event nodes old waiting middle new before between after asked c x y =
    does_as (λ s. followed_by (event_effect events.Unload) (items_effect (numbers nodes) (without_waiting s)))
    (λ s. followed_by (event_effect events.Unload) (items_effect (data_event_items s.document.items) (without_waiting s))) old new before after
    (λ s k. ap (λ (items : List ℕ). followed_by (event_effect events.Unload) (items_effect items (without_waiting s)))
    (ap data_event_items (sym (parts_of_kept old s.document k.is).items) ∙ sym asked))
    (does_changed without_waiting (λ s. followed_by (event_effect events.Unload) (items_effect (numbers nodes) s)) old waiting new before after c
    (does_followed (items_effect (numbers nodes)) (event_effect events.Unload) waiting middle new before between after x y))
