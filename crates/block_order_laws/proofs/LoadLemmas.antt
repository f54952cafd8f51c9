-- The next load of a page, as a function of what its modules offer. What isn't waited for stays, so a load that is there stays.
use Rattle.std.proofs.Common.{◌≡◌, ℕ, Bool, true, false, ◌&&◌, List, [], ◌∷◌, map, refl, sym, ap, ap₂, ◌∙◌, subst, if◌then◌else◌}
use Rattle.std.specs.Prelude.{◌≢◌, All, Option, Some, None, option_map, option_and_then, Result, Ok, Err}
use Rattle.std.proofs.lemmas.Bool.{and_parts}
use Rattle.std.proofs.lemmas.List.Elements.{All-cons, All-nil}
use Rattle.dom_tree.specs.Items.{Item}
use Rattle.bml_reader.specs.declared.faults.DocFault.{DocFault}
use Rattle.bml_reader.specs.Readings.{reading_of}
use Rattle.document_load.specs.Drafts.{DraftState, draft_of, with_gifts}
use Rattle.document_load.specs.Needs.{needs_of}
use Rattle.multipart_entities.specs.declared.paths.Path.{Path}
use Rattle.module_locks.specs.Locks.{Modules, look_up, start_path}
use Rattle.module_store.specs.Resources.{Resource}
use Rattle.module_store.specs.Resources.Resource.{Found, Waiting, Missing}
use Rattle.page.specs.Dispatches.{dispatch, load_at, next_load}
use Rattle.page.specs.Loading.{are_settled, given_draft, is_settled, load, loadable_reading, reading_if_settled, reading_in, text_at, text_found, wanted_path}
use Rattle.page.specs.State.{State, Step, Wanted}
use Rattle.page.specs.State.Wanted.{StartDocument, DocumentAt, NoDocument}
use Rattle.block_order_laws.specs.Loads.{IsNextLoad, Load, given_to, needs_in, needs_of_bytes, read_in}
use Rattle.block_order_laws.proofs.PageLemmas.{dispatch_is, none_waits}

-- ---- the load that modules allow

abbrev load_of : Path → List ℕ → List Resource → Load
load_of path bytes gifts = record { path = path; bytes = bytes; gifts = gifts }

abbrev load_with : Modules → Path → Resource → Option Load
load_with modules path (Found bytes) =
    if are_settled modules (needs_of_bytes path bytes) then Some (load_of path bytes (map (look_up modules) (needs_of_bytes path bytes))) else None
load_with modules path Waiting = None
load_with modules path Missing = None

-- of a path, where it is found and none of its needs is waited for
abbrev load_under : Modules → Path → Option Load
load_under modules path = load_with modules path (look_up modules path)

abbrev pub load_now : Wanted → Modules → Option Load
load_now wanted modules = option_and_then (load_under modules) (wanted_path wanted modules)

-- ---- it is the page's

texts_are : (modules : Modules) (needs : List Path) → map (text_at modules) needs ≡ map text_found (map (look_up modules) needs)
texts_are modules [] = refl
texts_are modules (need ∷ needs) = ap (λ (l : List (Option (List ℕ))). text_at modules need ∷ l) (texts_are modules needs)

module _ (modules : Modules) (path : Path) where
  reading_is : loadable_reading modules path ≡ option_map read_in (load_under modules path)
  reading_is = by (look_up modules path) where
    -- by what is read of the bytes
    by_items : (bytes : List ℕ) (r : Result (List Item) DocFault) → reading_of bytes ≡ r
        → reading_if_settled modules path r
        ≡ option_map read_in (if are_settled modules (needs_in path r) then Some (load_of path bytes (map (look_up modules) (needs_in path r))) else None)
    by_items bytes (Err fault) e = ap (λ r. Some (given_to (load_of path bytes []) r)) (sym e)
    by_items bytes (Ok items) e = settled (are_settled modules (needs_of path items)) where
      settled : (t : Bool) → (if t then Some (Ok (given_draft modules path items)) else None)
          ≡ option_map read_in (if t then Some (load_of path bytes (map (look_up modules) (needs_of path items))) else None)
      settled false = refl
      settled true =
          ap (λ (gifts : List (Option (List ℕ))). Some (Ok (with_gifts gifts (draft_of path items)))) (texts_are modules (needs_of path items))
          ∙ ap (λ r. Some (given_to (load_of path bytes (map (look_up modules) (needs_of path items))) r)) (sym e)

    by : (r : Resource) → reading_in modules path r ≡ option_map read_in (load_with modules path r)
    by (Found bytes) = by_items bytes (reading_of bytes) refl
    by Waiting = refl
    by Missing = refl

-- the step that a load is
abbrev made : State → Load → Step
made s l = load s l.path (read_in l)

load_at_is : (s : State) (path : Path) → load_at s path ≡ option_map (made s) (load_under s.modules path)
load_at_is s path = ap (λ (o : Option (Result DraftState DocFault)). option_map (load s path) o) (reading_is s.modules path) ∙ by (look_up s.modules path) where
  by : (r : Resource) → option_map (load s path) (option_map read_in (load_with s.modules path r)) ≡ option_map (made s) (load_with s.modules path r)
  by Waiting = refl
  by Missing = refl
  by (Found bytes) = settled (are_settled s.modules (needs_of_bytes path bytes)) where
    gifts : List Resource
    gifts = map (look_up s.modules) (needs_of_bytes path bytes)

    settled : (t : Bool) → option_map (load s path) (option_map read_in (if t then Some (load_of path bytes gifts) else None))
        ≡ option_map (made s) (if t then Some (load_of path bytes gifts) else None)
    settled true = refl
    settled false = refl

next_is : (s : State) → next_load s ≡ option_map (made s) (load_now s.wanted s.modules)
unfolding next_load
next_is s = by (wanted_path s.wanted s.modules) where
  by : (o : Option Path) → option_and_then (load_at s) o ≡ option_map (made s) (option_and_then (load_under s.modules) o)
  by None = refl
  by (Some path) = load_at_is s path

-- where no data event waits, a dispatch of a page without a document is the load that its modules allow
pub dispatch_loads : (s : State) → s.document ≡ None → s.data_event ≡ false → dispatch s ≡ option_map (made s) (load_now s.wanted s.modules)
dispatch_loads s none waits = dispatch_is s none waits ∙ next_is s

pub no_load : (s : State) → s.document ≡ None → dispatch s ≡ None → load_now s.wanted s.modules ≡ None
no_load s none idle = by (load_now s.wanted s.modules) (sym (dispatch_loads s none (none_waits s idle)) ∙ idle) where
  by : (o : Option Load) → option_map (made s) o ≡ None → o ≡ None
  by None e = refl
  by (Some l) e = absurd cc

pub no_dispatch : (s : State) → s.document ≡ None → s.data_event ≡ false → load_now s.wanted s.modules ≡ None → dispatch s ≡ None
no_dispatch s none waits now = dispatch_loads s none waits ∙ ap (option_map (made s)) now

gifts_settled : (modules : Modules) (needs : List Path) → are_settled modules needs ≡ true → All (λ gift. is_settled gift ≡ true) (map (look_up modules) needs)
gifts_settled modules [] h = All-nil (λ (gift : Resource). is_settled gift ≡ true)
gifts_settled modules (need ∷ needs) h =
    let parts = and_parts (is_settled (look_up modules need)) (are_settled modules needs) h in
    All-cons (λ (gift : Resource). is_settled gift ≡ true) (look_up modules need) (map (look_up modules) needs) parts.0 (gifts_settled modules needs parts.1)

-- what a load tells of the modules
record IsAllowed (wanted : Wanted) (modules : Modules) (l : Load) : Type 0 where
  pub is_wanted : wanted_path wanted modules ≡ Some l.path
  pub is_found : look_up modules l.path ≡ Found l.bytes
  pub gifts_are : map (look_up modules) (needs_of_bytes l.path l.bytes) ≡ l.gifts
  pub gifts_settled : All (λ gift. is_settled gift ≡ true) l.gifts

allowed : (wanted : Wanted) (modules : Modules) (l : Load) → load_now wanted modules ≡ Some l → IsAllowed wanted modules l
allowed wanted modules l now = by (wanted_path wanted modules) refl now where
  by_found : (path : Path) → wanted_path wanted modules ≡ Some path → (r : Resource) → look_up modules path ≡ r → load_with modules path r ≡ Some l → IsAllowed wanted modules l
  by_found path w Waiting f e = absurd cc
  by_found path w Missing f e = absurd cc
  by_found path w (Found bytes) f e = settled (are_settled modules (needs_of_bytes path bytes)) refl e where
    settled : (t : Bool) → are_settled modules (needs_of_bytes path bytes) ≡ t
        → (if t then Some (load_of path bytes (map (look_up modules) (needs_of_bytes path bytes))) else None) ≡ Some l → IsAllowed wanted modules l
    settled false s e = absurd cc
    settled true s e =
        let same : load_of path bytes (map (look_up modules) (needs_of_bytes path bytes)) ≡ l = cc in
        subst (IsAllowed wanted modules) same (record {
          is_wanted = w;
          is_found = f;
          gifts_are = refl;
          gifts_settled = gifts_settled modules (needs_of_bytes path bytes) s;
        })

  by : (o : Option Path) → wanted_path wanted modules ≡ o → option_and_then (load_under modules) o ≡ Some l → IsAllowed wanted modules l
  by None w e = absurd cc
  by (Some path) w e = by_found path w (look_up modules path) refl e

pub next_load_is : (s : State) (l : Load) → s.document ≡ None → s.data_event ≡ false → load_now s.wanted s.modules ≡ Some l → IsNextLoad s l
next_load_is s l none waits now =
    let a = allowed s.wanted s.modules l now in
    record {
      wanted = a.is_wanted;
      found = a.is_found;
      gifts = a.gifts_are;
      settled = a.gifts_settled;
      dispatch = dispatch_loads s none waits ∙ ap (option_map (made s)) now;
    }

-- ---- modules that offer more

-- What isn't waited for in the one is the same in the other, and so is the start path.
pub record Settles (one other : Modules) : Type 0 where
  pub looks : (path : Path) → look_up one path ≢ Waiting → look_up other path ≡ look_up one path
  pub start : start_path other ≡ start_path one

not_waited : (r : Resource) → is_settled r ≡ true → r ≢ Waiting
not_waited r settled waits = let no : false ≡ true = sym (ap is_settled waits) ∙ settled in cc

module _ (one other : Modules) (settles : Settles one other) where
  stays : (path : Path) → is_settled (look_up one path) ≡ true → look_up other path ≡ look_up one path
  stays path settled = settles.looks path (not_waited (look_up one path) settled)

  stay_settled : (needs : List Path) → are_settled one needs ≡ true → are_settled other needs ≡ true
  stay_settled [] h = refl
  stay_settled (need ∷ needs) h =
      let parts = and_parts (is_settled (look_up one need)) (are_settled one needs) h in
      ap₂ (λ (a b : Bool). a && b) (ap is_settled (stays need parts.0) ∙ parts.0) (stay_settled needs parts.1)

  same_gifts : (needs : List Path) → are_settled one needs ≡ true → map (look_up other) needs ≡ map (look_up one) needs
  same_gifts [] h = refl
  same_gifts (need ∷ needs) h =
      let parts = and_parts (is_settled (look_up one need)) (are_settled one needs) h in
      ap₂ (λ (r : Resource) (l : List Resource). r ∷ l) (stays need parts.0) (same_gifts needs parts.1)

  load_stays : (path : Path) (l : Load) → load_under one path ≡ Some l → load_under other path ≡ Some l
  load_stays path l e = by (look_up one path) refl e where
    by : (r : Resource) → look_up one path ≡ r → load_with one path r ≡ Some l → load_under other path ≡ Some l
    by Waiting f e = absurd cc
    by Missing f e = absurd cc
    by (Found bytes) f e = settled (are_settled one (needs_of_bytes path bytes)) refl e where
      settled : (t : Bool) → are_settled one (needs_of_bytes path bytes) ≡ t
          → (if t then Some (load_of path bytes (map (look_up one) (needs_of_bytes path bytes))) else None) ≡ Some l → load_under other path ≡ Some l
      settled false s e = absurd cc
      settled true s e =
          ap (load_with other path) (stays path (ap is_settled f) ∙ f)
          ∙ ap (λ t. if t then Some (load_of path bytes (map (look_up other) (needs_of_bytes path bytes))) else None) (stay_settled (needs_of_bytes path bytes) s)
          ∙ ap (λ gifts. Some (load_of path bytes gifts)) (same_gifts (needs_of_bytes path bytes) s)
          ∙ e

  pub now_stays : (wanted : Wanted) (l : Load) → load_now wanted one ≡ Some l → load_now wanted other ≡ Some l
  now_stays StartDocument l e = ap (load_under other) settles.start ∙ load_stays (start_path one) l e
  now_stays (DocumentAt path) l e = load_stays path l e
  now_stays NoDocument l e = absurd cc

-- modules that offer the same allow the same load
pub same_load : (wanted : Wanted) (one other : Modules) → ((path : Path) → look_up one path ≡ look_up other path) → start_path one ≡ start_path other
    → load_now wanted one ≡ load_now wanted other
same_load wanted one other looks start = by (load_now wanted one) (load_now wanted other) refl refl where
  to : Settles one other
  to = record { looks = λ path there. sym (looks path); start = sym start }

  from : Settles other one
  from = record { looks = λ path there. looks path; start = start }

  by : (a b : Option Load) → load_now wanted one ≡ a → load_now wanted other ≡ b → a ≡ b
  by None None x y = refl
  by (Some l) b x y = sym (now_stays one other to wanted l x) ∙ y
  by None (Some l) x y = sym x ∙ now_stays other one from wanted l y
