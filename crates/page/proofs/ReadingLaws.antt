-- What is loaded at a path stays so, where the same is seen of the document and of what it needs.
use Rattle.std.proofs.Common.{◌≡◌, ◌∙◌, ℕ, ◌-◌, ◌<◌, ◌^◌, Bool, true, false, cond, ◌&&◌, List, [], ◌∷◌, ◌++◌, refl, sym, ap, ap₂, subst}
use Rattle.std.specs.Prelude.{All, Option, Some, None, Result, Ok, Err, is_some, map}
use Rattle.std.specs.Option.{option_map_or, option_or}
use Rattle.std.specs.List.{list_all}
use Rattle.std.proofs.lemmas.Bool.{eqb-true, ltb-true}
use Rattle.std.proofs.lemmas.List.Elements.{All-head, All-tail}
use Rattle.carousel_blocks.specs.declared.standing.SkipCause.{SkipCause}
use Rattle.carousel_blocks.specs.declared.standing.Standing.{Standing}
use Rattle.carousel_blocks.specs.Message.{Message}
use Rattle.carousel_blocks.specs.InForce.{in_force, standing_of}
use Rattle.carousel_blocks.specs.Held.{bytes_held}
use Rattle.dsmcc_messages.specs.declared.dii.Dii.{Dii}
use Rattle.dom_tree.specs.Items.{Item}
use Rattle.bml_reader.specs.declared.faults.DocFault.{DocFault}
use Rattle.bml_reader.specs.Readings.{reading_of}
use Rattle.document_load.specs.Drafts.{DraftState, draft_of, with_gifts}
use Rattle.document_load.specs.Needs.{needs_of}
use Rattle.multipart_entities.specs.declared.paths.Path.{Path}
use Rattle.module_locks.specs.Histories.{Happening, behind_all}
use Rattle.module_locks.specs.Locks.{Modules, kept_now, kept_of, kept_on, look_kept, look_up, seen, seen_number}
use Rattle.module_store.specs.Copies.{KeptModule}
use Rattle.module_store.specs.Resources.{Resource, look, look_behind, look_by, look_in, look_unless, presence_at, presence_in, presence_unless}
use Rattle.module_store.specs.Resources.Resource.{Found, Waiting, Missing}
use Rattle.module_store.specs.Store.{messages_of_component, number_of}
use Rattle.page.specs.Loading.{are_settled, given_draft, is_settled, loadable_reading, reading_if_settled, reading_in, text_at, text_found}
use Rattle.page.specs.Remembering.{is_same_number, number_at, tells_delivery}
use Rattle.page.specs.devices.Memories.{FitsModule, is_as_kept, numbered}

pub both_true : (a b : Bool) → (a && b) ≡ true → (a ≡ true) × (b ≡ true)
both_true true b e = (refl, e)
both_true false b e = cc

-- ---- what can be loaded

-- a document was read at this path, and what is found of its needs is given, none of which is waited for
pub record IsLoadable (modules : Modules) (path : Path) (draft : DraftState) : Type 0 where
  pub bytes : List ℕ
  pub items : List Item
  pub found : look_up modules path ≡ Found bytes
  pub reading_is : reading_of bytes ≡ Ok items
  pub settled : are_settled modules (needs_of path items) ≡ true
  pub draft_is : draft ≡ given_draft modules path items

abbrev pub reading_where : Bool → DraftState → Option (Result DraftState DocFault)
reading_where b draft = cond b (Some (Ok draft)) None

settled_as : (modules : Modules) (path : Path) (draft : DraftState) (bytes : List ℕ) (items : List Item) → look_up modules path ≡ Found bytes → reading_of bytes ≡ Ok items → (b : Bool) → are_settled modules (needs_of path items) ≡ b
    → reading_where b (given_draft modules path items) ≡ Some (Ok draft) → IsLoadable modules path draft
settled_as modules path draft bytes items found reading true settled e = record {
  bytes = bytes;
  items = items;
  found = found;
  reading_is = reading;
  settled = settled;
  draft_is = cc;
}
settled_as modules path draft bytes items found reading false settled e = absurd (cc e)

read_as : (modules : Modules) (path : Path) (draft : DraftState) (bytes : List ℕ) (reading : Result (List Item) DocFault) → look_up modules path ≡ Found bytes → reading_of bytes ≡ reading → reading_if_settled modules path reading ≡ Some (Ok draft)
    → IsLoadable modules path draft
read_as modules path draft bytes (Ok items) found is e = settled_as modules path draft bytes items found is (are_settled modules (needs_of path items)) refl e
read_as modules path draft bytes (Err fault) found is e = absurd (cc e)

found_as : (modules : Modules) (path : Path) (draft : DraftState) (resource : Resource) → look_up modules path ≡ resource → reading_in modules path resource ≡ Some (Ok draft) → IsLoadable modules path draft
found_as modules path draft (Found bytes) found e = read_as modules path draft bytes (reading_of bytes) found refl e
found_as modules path draft Waiting found e = absurd (cc e)
found_as modules path draft Missing found e = absurd (cc e)

pub loadable : (modules : Modules) (path : Path) (draft : DraftState) → loadable_reading modules path ≡ Some (Ok draft) → IsLoadable modules path draft
loadable modules path draft e = found_as modules path draft (look_up modules path) refl e

-- ---- what isn't seen isn't found

skipped_text : (delivery : Option ℕ) (cause : Option SkipCause) (info : List ℕ) (bytes : Option (List ℕ)) (name : List ℕ) → kept_of delivery (presence_unless cause info bytes) ≡ None → text_found (look_unless cause info bytes name) ≡ None
skipped_text delivery None info None name e = refl
skipped_text delivery None info (Some bytes) name e = absurd (cc e)
skipped_text delivery (Some cause) info bytes name e = refl

standing_text : (delivery : Option ℕ) (standing : Option Standing) (bytes : Option (List ℕ)) (name : List ℕ) → kept_of delivery (presence_at standing bytes) ≡ None → text_found (look_by standing bytes name) ≡ None
standing_text delivery None bytes name e = refl
standing_text delivery (Some standing) bytes name e = skipped_text delivery standing.skip standing.entry.info bytes name e

entry_text : (delivery : Option ℕ) (messages : List Message) (number : ℕ) (name : List ℕ) (dii : Option Dii) → kept_of delivery (presence_at (standing_of dii number) (bytes_held messages number)) ≡ None → text_found (look_behind dii messages number name) ≡ None
entry_text delivery messages number name None e = refl
entry_text delivery messages number name (Some dii) e = standing_text delivery (standing_of (Some dii) number) (bytes_held messages number) name e

component_text : (delivery : Option ℕ) (messages : Option (List Message)) (number : ℕ) (name : List ℕ) → kept_of delivery (presence_in messages number) ≡ None → text_found (look_in messages number name) ≡ None
component_text delivery None number name e = refl
component_text delivery (Some messages) number name e = entry_text delivery messages number name (in_force messages) e

unseen_text : (modules : Modules) (path : Path) → seen modules path.component path.«module» ≡ None → text_at modules path ≡ None
unseen_text modules path e = by (kept_on modules.locks path.component path.«module») e
  where
    by : (o : Option KeptModule) → option_or o (kept_now modules.stored path.component path.«module») ≡ None → text_found (option_map_or (λ kept. look_kept kept path.name) o (look modules.stored path)) ≡ None
    by None none = component_text (number_of modules.stored path.component path.«module») (messages_of_component modules.stored path.component) path.«module» path.name none
    by (Some kept) none = absurd (cc none)

-- ---- where the same number is seen, the same is found

-- what the law of seen numbers says of paths
abbrev pub PathsStay : Type 0
PathsStay = (first more : List Happening) (path : Path) (delivery : ℕ) → path.«module» < 2 ^ 16 → delivery < 2 ^ 64 - 1
    → seen_number (behind_all first) path.component path.«module» ≡ Some delivery
    → seen_number (behind_all (first ++ more)) path.component path.«module» ≡ Some delivery
    → look_up (behind_all (first ++ more)) path ≡ look_up (behind_all first) path

-- and of when there is a number
abbrev pub NumbersTell : Type 0
NumbersTell = (happened : List Happening) (component number : ℕ) → number < 2 ^ 16
    → is_some (seen_number (behind_all happened) component number) ≡ is_some (seen (behind_all happened) component number)

none_of : {A : Type 0} (o : Option A) → is_some o ≡ false → o ≡ None
none_of None e = refl
none_of (Some x) e = absurd (cc e)

unnumbered_text : NumbersTell → (happened : List Happening) (path : Path) → FitsModule path → number_at (behind_all happened) path ≡ None → text_at (behind_all happened) path ≡ None
unnumbered_text numbers happened path fits none =
    unseen_text (behind_all happened) path (none_of (seen (behind_all happened) path.component path.«module») (sym (numbers happened path.component path.«module» fits) ∙ ap is_some none))

-- what is found has a number
pub number_there : NumbersTell → (happened : List Happening) (path : Path) (bytes : List ℕ) → FitsModule path → look_up (behind_all happened) path ≡ Found bytes → (number : ℕ) × (number_at (behind_all happened) path ≡ Some number)
number_there numbers happened path bytes fits found = by (number_at (behind_all happened) path) refl
  where
    by : (o : Option ℕ) → number_at (behind_all happened) path ≡ o → (number : ℕ) × (number_at (behind_all happened) path ≡ Some number)
    by None e =
        let none = unnumbered_text numbers happened path fits e in
        let some = ap text_found found in
        absurd (cc (none, some))
    by (Some number) e = (number, e)

text_stays : PathsStay → NumbersTell → (first more : List Happening) (need : Path) (number : Option ℕ) → FitsModule need → number_at (behind_all first) need ≡ number → number_at (behind_all (first ++ more)) need ≡ number → tells_delivery number ≡ true
    → text_at (behind_all (first ++ more)) need ≡ text_at (behind_all first) need
text_stays paths numbers first more need None fits was is tells = unnumbered_text numbers (first ++ more) need fits is ∙ sym (unnumbered_text numbers first need fits was)
text_stays paths numbers first more need (Some delivery) fits was is tells = ap text_found (paths first more need delivery fits (ltb-true delivery (2 ^ 64 - 1) tells) was is)

pub number_same : (a b : Option ℕ) → is_same_number a b ≡ true → a ≡ b
number_same None None e = refl
number_same (Some a) (Some b) e = ap (λ (n : ℕ). Some n) (eqb-true a b e)
number_same None (Some b) e = absurd (cc e)
number_same (Some a) None e = absurd (cc e)

-- of needs that are as they were kept none is waited for, what is found is what was found, and the numbers are those
pub record AreAsKept (was is : Modules) (needs : List Path) : Type 0 where
  pub settled : are_settled is needs ≡ true
  pub texts : map (text_at is) needs ≡ map (text_at was) needs
  pub numbers : map (number_at is) needs ≡ map (λ need. need.1) (map (numbered was) needs)

pub are_as_kept : PathsStay → NumbersTell → (first more : List Happening) (needs : List Path) → All FitsModule needs → list_all (is_as_kept (behind_all (first ++ more))) (map (numbered (behind_all first)) needs) ≡ true
    → AreAsKept (behind_all first) (behind_all (first ++ more)) needs
are_as_kept paths numbers first more [] fits e = record { settled = refl; texts = refl; numbers = refl }
are_as_kept paths numbers first more (need ∷ needs) fits e =
    let was = behind_all first in
    let is = behind_all (first ++ more) in
    let one = both_true (is_as_kept is (numbered was need)) (list_all (is_as_kept is) (map (numbered was) needs)) e in
    let same = both_true (is_same_number (number_at is need) (number_at was need) && tells_delivery (number_at was need)) (is_settled (look_up is need)) one.0 in
    let number = both_true (is_same_number (number_at is need) (number_at was need)) (tells_delivery (number_at was need)) same.0 in
    let others = are_as_kept paths numbers first more needs (All-tail FitsModule need needs fits) one.1 in
    let equal = number_same (number_at is need) (number_at was need) number.0 in
    record {
      settled = ap₂ (λ (a b : Bool). a && b) same.1 others.settled;
      texts = ap₂ (λ (text : Option (List ℕ)) (texts : List (Option (List ℕ))). text ∷ texts) (text_stays paths numbers first more need (number_at was need) (All-head FitsModule need needs fits) refl equal number.1) others.texts;
      numbers = ap₂ (λ (number : Option ℕ) (numbers : List (Option ℕ)). number ∷ numbers) equal others.numbers;
    }

-- ---- documents

-- the needs of a document that can be loaded are those of its nodes
pub needs_read : (modules : Modules) (path : Path) (draft : DraftState) (is : IsLoadable modules path draft) → draft.needs ≡ needs_of path is.items
needs_read modules path draft is = ap (λ (d : DraftState). d.needs) is.draft_is

-- where the module's number tells its delivery, the same is read
pub read_again : PathsStay → (first more : List Happening) (path : Path) (delivery : ℕ) (was is : DraftState) → FitsModule path → number_at (behind_all first) path ≡ Some delivery → number_at (behind_all (first ++ more)) path ≡ Some delivery
    → tells_delivery (Some delivery) ≡ true → loadable_reading (behind_all first) path ≡ Some (Ok was) → loadable_reading (behind_all (first ++ more)) path ≡ Some (Ok is) → is.needs ≡ was.needs
read_again paths first more path delivery was is fits number_was number_is tells reading_was reading_is =
    let one = loadable (behind_all first) path was reading_was in
    let other = loadable (behind_all (first ++ more)) path is reading_is in
    let same = sym other.found ∙ paths first more path delivery fits (ltb-true delivery (2 ^ 64 - 1) tells) number_was number_is ∙ one.found in
    let bytes : other.bytes ≡ one.bytes = cc same in
    let reading = sym other.reading_is ∙ ap reading_of bytes ∙ one.reading_is in
    let items : other.items ≡ one.items = cc reading in
    needs_read (behind_all (first ++ more)) path is other ∙ ap (needs_of path) items ∙ sym (needs_read (behind_all first) path was one)

-- a document whose needs are as they were kept, too, is the same
pub loads_again : PathsStay → NumbersTell → (first more : List Happening) (path : Path) (delivery : ℕ) (draft : DraftState) → FitsModule path → All FitsModule draft.needs → number_at (behind_all first) path ≡ Some delivery
    → number_at (behind_all (first ++ more)) path ≡ Some delivery → tells_delivery (Some delivery) ≡ true → loadable_reading (behind_all first) path ≡ Some (Ok draft)
    → list_all (is_as_kept (behind_all (first ++ more))) (map (numbered (behind_all first)) draft.needs) ≡ true → loadable_reading (behind_all (first ++ more)) path ≡ Some (Ok draft)
loads_again paths numbers first more path delivery draft fits needs_fit number_was number_is tells reading_was kept =
    let was = behind_all first in
    let is = behind_all (first ++ more) in
    let one = loadable was path draft reading_was in
    let needs = needs_read was path draft one in
    let same = are_as_kept paths numbers first more draft.needs needs_fit kept in
    let again = subst (AreAsKept was is) needs same in
    let found = paths first more path delivery fits (ltb-true delivery (2 ^ 64 - 1) tells) number_was number_is ∙ one.found in
    ap (reading_in is path) found ∙ ap (reading_if_settled is path) one.reading_is ∙ ap (λ (b : Bool). reading_where b (given_draft is path one.items)) again.settled
    ∙ ap (λ (gifts : List (Option (List ℕ))). reading_where true (with_gifts gifts (draft_of path one.items))) again.texts
    ∙ ap (reading_where true) (sym one.draft_is)
