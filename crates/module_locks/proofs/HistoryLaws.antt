-- What each delivery of a history brought, and that what is seen is what its number tells.
use Rattle.std.proofs.Common.{◌≡◌, ◌≢◌, ◌∙◌, ℕ, zero, suc, ◌+◌, ◌-◌, ◌^◌, ◌<◌, Bool, true, false, cond, eqb, List, [], ◌∷◌, ◌++◌, length, map, Option, Some, None, refl, sym, ap, inl, inr, arith}
use Rattle.std.specs.Prelude.{◌⊎◌, ◌&&◌, ◌||◌, not, filter, find, is_some, option_map, option_and_then, slice_get}
use Rattle.std.specs.Option.{option_or}
use Rattle.std.specs.List.{list_any}
use Rattle.std.proofs.lemmas.Bool.{and_parts, eqb-true}
use Rattle.std.proofs.lemmas.Bool.Decides.{eqb_tells}
use Rattle.std.proofs.lemmas.List.{length-append, length-map}
use Rattle.std.proofs.lemmas.Option.{slice_get-map}
use Rattle.psi_tables.specs.declared.components.Component.{Component}
use Rattle.carousel_blocks.specs.declared.changes.Change.{Change}
use Rattle.multipart_entities.specs.declared.paths.Path.{Path}
use Rattle.module_store.specs.Copies.{KeptModule}
use Rattle.module_store.specs.DataEvents.{data_event_by}
use Rattle.module_store.specs.Resources.{Presence, presence}
use Rattle.module_store.specs.Resources.Presence.{Absent, Announced, Held}
use Rattle.module_store.specs.Staying.{is_delivered}
use Rattle.module_store.specs.Store.{Stored, deliveries_of, last_place, last_place_from, number_at, number_of}
use Rattle.module_store.specs.Store as store
use Rattle.module_locks.specs.declared.answers.LockAnswer.{LockAnswer}
use Rattle.module_locks.specs.Histories.{Fed, Happening, Locked, Mapped, Unlocked, behind_all, modules_behind}
use Rattle.module_locks.specs.Locks.{Lock, Modules, at_start, delivers, is_lock_on, kept_now, kept_of, kept_on, lock_answer, lock_behind, locks_at, locks_behind, locks_left, look_up, seen, seen_number, with_lock, with_map, with_section, without_lock}
use Rattle.module_locks.proofs.KeptLaws.{behind_stays, kept_locked, kept_unlocked, locked_holds, with_bytes}
use Rattle.module_locks.proofs.ListLaws.{none_left}
use Rattle.module_locks.proofs.SeenLaws.{held_number, look_seen, number_in}

-- ---- places of lists

module _ {X : Type 0} where
  slice_get-front : (xs ys : List X) (i : ℕ) (x : X) → slice_get xs i ≡ Some x → slice_get (xs ++ ys) i ≡ Some x
  slice_get-front [] ys i x e = absurd cc
  slice_get-front (y ∷ xs) ys zero x e = e
  slice_get-front (y ∷ xs) ys (suc i) x e = slice_get-front xs ys i x e

  slice_get-behind : (xs ys : List X) (i : ℕ) → slice_get (xs ++ ys) (length xs + i) ≡ slice_get ys i
  slice_get-behind [] ys i = let e : 0 + i ≡ i = omega arith in ap (slice_get ys) e
  slice_get-behind (x ∷ xs) ys i = let e : suc (length xs) + i ≡ suc (length xs + i) = omega arith in ap (slice_get (x ∷ xs ++ ys)) e ∙ slice_get-behind xs ys i

-- ---- the last delivery of a module

abbrev of_component : ℕ → List ℕ → List (ℕ × ℕ)
of_component tag numbers = map (λ number. (tag, number)) numbers

or_none : (o : Option ℕ) → option_or o None ≡ o
or_none None = refl
or_none (Some x) = refl

or_assoc : (a b c : Option ℕ) → option_or (option_or a b) c ≡ option_or a (option_or b c)
or_assoc None b c = refl
or_assoc (Some x) b c = refl

last_place-append : (place tag number : ℕ) (before behind : List (ℕ × ℕ))
    → last_place_from place tag number (before ++ behind) ≡ option_or (last_place_from (place + length before) tag number behind) (last_place_from place tag number before)
last_place-append place tag number [] behind =
    let e : place + 0 ≡ place = omega arith in rw e (sym (or_none (last_place_from place tag number behind)))
last_place-append place tag number (d ∷ before) behind =
    let e : place + suc (length before) ≡ place + 1 + length before = omega arith in
    let here = cond (eqb d.0 tag && eqb d.1 number) (Some place) None in
    rw e (ap (λ o. option_or o here) (last_place-append (place + 1) tag number before behind)
    ∙ or_assoc (last_place_from (place + 1 + length before) tag number behind) (last_place_from (place + 1) tag number before) here)

-- where the last delivery is one of these, it stands at this place of them
record IsPlaced (start tag its_tag number place : ℕ) (numbers : List ℕ) : Type 0 where
  same : tag ≡ its_tag
  index : ℕ
  place_is : place ≡ start + index
  stands : slice_get numbers index ≡ Some number

placed : (start tag its_tag number place : ℕ) (numbers : List ℕ) → last_place_from start its_tag number (of_component tag numbers) ≡ Some place → IsPlaced start tag its_tag number place numbers
placed start tag its_tag number place [] e = absurd cc
placed start tag its_tag number place (n ∷ numbers) e =
    by_later (placed (start + 1) tag its_tag number place numbers) (last_place_from (start + 1) its_tag number (of_component tag numbers)) refl (eqb tag its_tag && eqb n number) refl e
  where
    by_later : (last_place_from (start + 1) its_tag number (of_component tag numbers) ≡ Some place → IsPlaced (start + 1) tag its_tag number place numbers)
        → (later : Option ℕ) → last_place_from (start + 1) its_tag number (of_component tag numbers) ≡ later → (b : Bool) → (eqb tag its_tag && eqb n number) ≡ b
        → option_or later (cond b (Some start) None) ≡ Some place → IsPlaced start tag its_tag number place (n ∷ numbers)
    by_later again (Some p) is b on e =
        let same : p ≡ place = cc in
        let behind = again (is ∙ ap (λ k. Some k) same) in
        let at = behind.place_is in
        record { same = behind.same; index = suc behind.index; place_is = omega arith; stands = behind.stands }
    by_later again None is true on e =
        let same : start ≡ place = cc in
        let its = and_parts (eqb tag its_tag) (eqb n number) on in
        record { same = eqb-true tag its_tag its.0; index = 0; place_is = omega (arith, same); stands = ap (λ k. Some k) (eqb-true n number its.1) }
    by_later again None is false on e = absurd cc

-- where none of these is, the module isn't delivered
none_delivered : (start tag number : ℕ) (numbers : List ℕ) → last_place_from start tag number (of_component tag numbers) ≡ None → list_any (λ n. eqb n number) numbers ≡ false
none_delivered start tag number [] e = refl
none_delivered start tag number (n ∷ numbers) e =
    by_later (none_delivered (start + 1) tag number numbers) (last_place_from (start + 1) tag number (of_component tag numbers)) refl (eqb_tells tag tag) (eqb n number) e
  where
    by_later : (last_place_from (start + 1) tag number (of_component tag numbers) ≡ None → list_any (λ n. eqb n number) numbers ≡ false)
        → (later : Option ℕ) → last_place_from (start + 1) tag number (of_component tag numbers) ≡ later
        → ((eqb tag tag ≡ true) × (tag ≡ tag)) ⊎ ((eqb tag tag ≡ false) × (tag ≢ tag))
        → (b : Bool) → option_or later (cond (eqb tag tag && b) (Some start) None) ≡ None → (b || list_any (λ n. eqb n number) numbers) ≡ false
    by_later again (Some p) is its b e = absurd cc
    by_later again None is (inr differ) b e = absurd (differ.1 refl)
    by_later again None is (inl same) true e = let some : option_or None (cond (true && true) (Some start) None) ≡ None = rw same.0 at e in absurd cc
    by_later again None is (inl same) false e = again is

-- ---- what the deliveries brought

abbrev Table : Type 0
Table = List (Option KeptModule)

-- what a section's deliveries bring
abbrev brought : ℕ → List ℕ → Modules → Table
brought component section modules =
    map (kept_now (store.with_section component section modules.stored) component) (deliveries_of (store.changes_by component section modules.stored))

abbrev table_behind : Modules → Table → List Happening → Table
table_behind modules table [] = table
table_behind modules table (Fed component section ∷ behind) = table_behind (with_section component section modules) (table ++ brought component section modules) behind
table_behind modules table (Mapped components ∷ behind) = table_behind (with_map components modules) table behind
table_behind modules table (Locked component number ∷ behind) = table_behind (with_lock component number modules) table behind
table_behind modules table (Unlocked component number ∷ behind) = table_behind (without_lock component number modules) table behind

-- it is what the delivery with its number brought
record IsNoted (table : Table) (kept : KeptModule) : Type 0 where
  place : ℕ
  number_is : kept.number ≡ Some (number_at (place + 1))
  noted : slice_get table place ≡ Some (Some kept)

still_noted : (table more : Table) (kept : KeptModule) → IsNoted table kept → IsNoted (table ++ more) kept
still_noted table more kept n = record { place = n.place; number_is = n.number_is; noted = slice_get-front table more n.place (Some kept) n.noted }

record IsTold (modules : Modules) (table : Table) : Type 0 where
  long : length table ≡ length modules.stored.deliveries
  held : (component number : ℕ) → number < 65536 → (kept : KeptModule) → kept_now modules.stored component number ≡ Some kept → IsNoted table kept
  locked : (component number : ℕ) → number < 65536 → (kept : KeptModule) → kept_on modules.locks component number ≡ Some kept → IsNoted table kept

-- what there is to be kept is the module as it is held
record IsHeldAs (stored : Stored) (component number : ℕ) (kept : KeptModule) : Type 0 where
  there : presence stored component number ≡ Held kept.is_entity kept.bytes
  number_is : kept.number ≡ number_of stored component number

held_as : (stored : Stored) (component number : ℕ) (kept : KeptModule) → kept_now stored component number ≡ Some kept → IsHeldAs stored component number kept
held_as stored component number kept e = by_presence (presence stored component number) refl e
  where
    last : Option ℕ
    last = number_of stored component number

    by_presence : (there : Presence) → presence stored component number ≡ there → kept_of last there ≡ Some kept → IsHeldAs stored component number kept
    by_presence Absent is e = absurd cc
    by_presence Announced is e = absurd cc
    by_presence (Held is_entity bytes) is e =
        let made : KeptModule = record { number = last; is_entity = is_entity; bytes = bytes } in
        let same : made ≡ kept = cc in
        record {
          there = is ∙ ap (λ (k : KeptModule). Held k.is_entity k.bytes) same;
          number_is = ap (λ (k : KeptModule). k.number) (sym same);
        }

as_held : (stored : Stored) (component number : ℕ) (kept : KeptModule) → presence stored component number ≡ Held kept.is_entity kept.bytes → kept.number ≡ number_of stored component number
    → kept_now stored component number ≡ Some kept
as_held stored component number kept there last =
    ap (λ p. kept_of (number_of stored component number) p) there
    ∙ ap (λ n. Some (let k : KeptModule = record { number = n; is_entity = kept.is_entity; bytes = kept.bytes } in k)) (sym last)

abbrev IsUndelivered : Type 0
IsUndelivered =
    (stored : Stored) (component : ℕ) (section : List ℕ) (its_component number : ℕ) (is_entity : Bool) (bytes : List ℕ) → number < 65536
    → presence (store.with_section component section stored) its_component number ≡ Held is_entity bytes
    → (component ≡ its_component → is_delivered number (store.changes_by component section stored) ≡ false)
    → presence stored its_component number ≡ Held is_entity bytes

abbrev IsUnmapped : Type 0
IsUnmapped =
    (stored : Stored) (components : List Component) (its_component number : ℕ) (is_entity : Bool) (bytes : List ℕ)
    → presence (store.with_map components stored) its_component number ≡ Held is_entity bytes → presence stored its_component number ≡ Held is_entity bytes

-- ---- a section

module _ (undelivered : IsUndelivered) (modules : Modules) (table : Table) (told : IsTold modules table) (component : ℕ) (section : List ℕ) where
  abbrev now : Stored
  now = store.with_section component section modules.stored

  abbrev numbers : List ℕ
  numbers = deliveries_of (store.changes_by component section modules.stored)

  abbrev start : ℕ
  start = 1 + length modules.stored.deliveries

  section_held : (its_component number : ℕ) → number < 65536 → (kept : KeptModule) → kept_now now its_component number ≡ Some kept → IsNoted (table ++ brought component section modules) kept
  section_held its_component number low kept e = by_last (last_place_from start its_component number (of_component component numbers)) refl
    where
      its : IsHeldAs now its_component number kept
      its = held_as now its_component number kept e

      last : last_place its_component number now.deliveries ≡ option_or (last_place_from start its_component number (of_component component numbers)) (last_place its_component number modules.stored.deliveries)
      last = last_place-append 1 its_component number modules.stored.deliveries (of_component component numbers)

      numbered : kept.number ≡ option_map number_at (last_place its_component number now.deliveries)
      numbered = its.number_is ∙ held_number now its_component number kept.is_entity kept.bytes its.there

      by_last : (o : Option ℕ) → last_place_from start its_component number (of_component component numbers) ≡ o → IsNoted (table ++ brought component section modules) kept
      by_last (Some place) is =
          let p = placed start component its_component number place numbers is in
          let long = told.long in
          let at = p.place_is in
          let counted : place ≡ (length table + p.index) + 1 = omega arith in
          record {
            place = length table + p.index;
            number_is = numbered ∙ ap (option_map number_at) (last ∙ ap (λ o. option_or o (last_place its_component number modules.stored.deliveries)) is) ∙ ap (λ k. Some (number_at k)) counted;
            noted = slice_get-behind table (brought component section modules) p.index
                ∙ slice_get-map (kept_now now component) numbers p.index
                ∙ ap (option_map (kept_now now component)) p.stands
                ∙ ap (λ c. Some (kept_now now c number)) p.same
                ∙ ap (λ o. Some o) e;
          }
      by_last None is =
          let quiet : component ≡ its_component → is_delivered number (store.changes_by component section modules.stored) ≡ false
          = λ same. none_delivered start component number numbers (ap (λ c. last_place_from start c number (of_component component numbers)) same ∙ is) in
          let before = undelivered modules.stored component section its_component number kept.is_entity kept.bytes low its.there quiet in
          let same_number : kept.number ≡ number_of modules.stored its_component number
          = numbered ∙ ap (option_map number_at) (last ∙ ap (λ o. option_or o (last_place its_component number modules.stored.deliveries)) is)
          ∙ sym (held_number modules.stored its_component number kept.is_entity kept.bytes before) in
          still_noted table (brought component section modules) kept
          (told.held its_component number low kept (as_held modules.stored its_component number kept before same_number))

  -- what a lock keeps behind it was kept, or is held now
  section_kept : (its_component number : ℕ) (kept : KeptModule) (locks : List Lock)
      → kept_on (map (lock_behind component (store.changes_by component section modules.stored) now) locks) its_component number ≡ Some kept
      → (kept_on locks its_component number ≡ Some kept) ⊎ (kept_now now its_component number ≡ Some kept)
  section_kept its_component number kept [] e = absurd cc
  section_kept its_component number kept (lock ∷ locks) e =
      by_test (section_kept its_component number kept locks) (is_lock_on its_component number lock) refl
      (sym (ap (λ b. option_and_then (λ (l : Lock). l.kept) (cond b (Some (f lock)) (find (is_lock_on its_component number) (map f locks)))) (behind_stays component changes now its_component number lock)) ∙ e)
    where
      changes : List Change
      changes = store.changes_by component section modules.stored

      f : Lock → Lock
      f = lock_behind component changes now

      own : is_lock_on its_component number lock ≡ true → (b : Bool) → ((eqb lock.component component && not (is_some lock.kept)) && delivers lock.«module» changes) ≡ b
          → (cond b (with_bytes (kept_now now component lock.«module») lock) lock).kept ≡ Some kept
          → (lock.kept ≡ Some kept) ⊎ (kept_now now its_component number ≡ Some kept)
      own on true taken h =
          let its = and_parts (eqb lock.component its_component) (eqb lock.«module» number) on in
          let here = and_parts (eqb lock.component component) (not (is_some lock.kept)) (and_parts (eqb lock.component component && not (is_some lock.kept)) (delivers lock.«module» changes) taken).0 in
          let tag : its_component ≡ component = sym (eqb-true lock.component its_component its.0) ∙ eqb-true lock.component component here.0 in
          inr (ap (λ t. kept_now now t number) tag ∙ ap (λ n. kept_now now component n) (sym (eqb-true lock.«module» number its.1)) ∙ h)
      own on false taken h = inl h

      by_test : (kept_on (map f locks) its_component number ≡ Some kept → (kept_on locks its_component number ≡ Some kept) ⊎ (kept_now now its_component number ≡ Some kept))
          → (b : Bool) → is_lock_on its_component number lock ≡ b
          → option_and_then (λ (l : Lock). l.kept) (cond b (Some (f lock)) (find (is_lock_on its_component number) (map f locks))) ≡ Some kept
          → (option_and_then (λ (l : Lock). l.kept) (cond b (Some lock) (find (is_lock_on its_component number) locks)) ≡ Some kept) ⊎ (kept_now now its_component number ≡ Some kept)
      by_test again true on h = own on ((eqb lock.component component && not (is_some lock.kept)) && delivers lock.«module» changes) refl h
      by_test again false on h = again h

  -- a data event leaves none
  left_kept : (event : Option Change) (its_component number : ℕ) (kept : KeptModule) → kept_on (locks_left event modules.locks) its_component number ≡ Some kept → kept_on modules.locks its_component number ≡ Some kept
  left_kept None its_component number kept e = e
  left_kept (Some event) its_component number kept e = absurd cc

  section_told : IsTold (with_section component section modules) (table ++ brought component section modules)
  section_told = record {
    long = length-append table (brought component section modules)
        ∙ ap (λ n. length table + n) (length-map numbers (kept_now now component) ∙ sym (length-map numbers (λ number. (component, number))))
        ∙ ap (λ n. n + length (of_component component numbers)) told.long
        ∙ sym (length-append modules.stored.deliveries (of_component component numbers));
    held = section_held;
    locked = λ its_component number low kept e. by_lock its_component number low kept (section_kept its_component number kept (locks_at component section modules) e);
  }
    where
      by_lock : (its_component number : ℕ) → number < 65536 → (kept : KeptModule) → (kept_on (locks_at component section modules) its_component number ≡ Some kept) ⊎ (kept_now now its_component number ≡ Some kept)
          → IsNoted (table ++ brought component section modules) kept
      by_lock its_component number low kept (inl old) = still_noted table (brought component section modules) kept (told.locked its_component number low kept (left_kept (data_event_by component section modules.stored) its_component number kept old))
      by_lock its_component number low kept (inr new) = section_held its_component number low kept new

-- ---- another component map

map_told : IsUnmapped → (modules : Modules) (table : Table) → IsTold modules table → (components : List Component) → IsTold (with_map components modules) table
map_told unmapped modules table told components = record {
  long = told.long;
  held = λ component number low kept e.
      let now = store.with_map components modules.stored in
      let its = held_as now component number kept e in
      let before = unmapped modules.stored components component number kept.is_entity kept.bytes its.there in
      told.held component number low kept
      (as_held modules.stored component number kept before
      (its.number_is ∙ held_number now component number kept.is_entity kept.bytes its.there ∙ sym (held_number modules.stored component number kept.is_entity kept.bytes before)));
  locked = told.locked;
}

-- ---- locks

-- what a lock keeps behind another one was kept, or is held
locked_kept : (modules : Modules) (component other : ℕ) (answer : LockAnswer) (its_component number : ℕ) (kept : KeptModule)
    → kept_on (locks_behind answer component other (kept_now modules.stored component other) modules.locks) its_component number ≡ Some kept
    → (kept_on modules.locks its_component number ≡ Some kept) ⊎ (kept_now modules.stored its_component number ≡ Some kept)
locked_kept modules component other answer its_component number kept = by_kept (kept_on modules.locks its_component number) refl
  where
    new : Option KeptModule
    new = kept_now modules.stored component other

    Comes : Option KeptModule → Type 0
    Comes o = o ≡ Some kept → (kept_on modules.locks its_component number ≡ Some kept) ⊎ (kept_now modules.stored its_component number ≡ Some kept)

    by_kept : (o : Option KeptModule) → kept_on modules.locks its_component number ≡ o → Comes (kept_on (locks_behind answer component other new modules.locks) its_component number)
    by_kept None is =
        locked_holds component other new its_component number Comes (λ e. absurd cc)
        (λ same its e. inr (ap (λ c. kept_now modules.stored c number) (sym same) ∙ ap (λ n. kept_now modules.stored component n) (sym its) ∙ e))
        answer modules.locks is
    by_kept (Some old) is = λ e. inl (is ∙ sym (kept_locked answer component other new modules.locks its_component number old is) ∙ e)

lock_told : (modules : Modules) (table : Table) → IsTold modules table → (component other : ℕ) → IsTold (with_lock component other modules) table
unfolding with_lock
lock_told modules table told component other = record {
  long = told.long;
  held = told.held;
  locked = λ its_component number low kept e. by_lock its_component number low kept (locked_kept modules component other (lock_answer component other modules) its_component number kept e);
}
  where
    by_lock : (its_component number : ℕ) → number < 65536 → (kept : KeptModule) → (kept_on modules.locks its_component number ≡ Some kept) ⊎ (kept_now modules.stored its_component number ≡ Some kept)
        → IsNoted table kept
    by_lock its_component number low kept (inl old) = told.locked its_component number low kept old
    by_lock its_component number low kept (inr new) = told.held its_component number low kept new

unlock_told : (modules : Modules) (table : Table) → IsTold modules table → (component other : ℕ) → IsTold (without_lock component other modules) table
unlock_told modules table told component other = record {
  long = told.long;
  held = told.held;
  locked = λ its_component number low kept e. told.locked its_component number low kept (by_tests its_component number kept (eqb_tells component its_component) (eqb_tells other number) e);
}
  where
    left : List Lock
    left = filter (λ lock. not (is_lock_on component other lock)) modules.locks

    by_tests : (its_component number : ℕ) (kept : KeptModule)
        → ((eqb component its_component ≡ true) × (component ≡ its_component)) ⊎ ((eqb component its_component ≡ false) × (component ≢ its_component))
        → ((eqb other number ≡ true) × (other ≡ number)) ⊎ ((eqb other number ≡ false) × (other ≢ number))
        → kept_on left its_component number ≡ Some kept → kept_on modules.locks its_component number ≡ Some kept
    by_tests its_component number kept (inr differ) its e = sym (kept_unlocked modules.locks component other its_component number (λ s. differ.1 s.0)) ∙ e
    by_tests its_component number kept (inl same) (inr differ) e = sym (kept_unlocked modules.locks component other its_component number (λ s. differ.1 s.1)) ∙ e
    by_tests its_component number kept (inl same) (inl its) e =
        let none : kept_on left component other ≡ None = ap (λ (o : Option Lock). option_and_then (λ (l : Lock). l.kept) o) (none_left (is_lock_on component other) modules.locks) in
        let some : kept_on left component other ≡ Some kept = ap (λ c. kept_on left c other) same.1 ∙ ap (λ n. kept_on left its_component n) its.1 ∙ e in
        absurd cc

-- ---- a whole history

module _ (undelivered : IsUndelivered) (unmapped : IsUnmapped) where
  told_behind : (modules : Modules) (table : Table) → IsTold modules table → (happened : List Happening) → IsTold (modules_behind modules happened) (table_behind modules table happened)
  told_behind modules table told [] = told
  told_behind modules table told (Fed component section ∷ behind) =
      told_behind (with_section component section modules) (table ++ brought component section modules) (section_told undelivered modules table told component section) behind
  told_behind modules table told (Mapped components ∷ behind) = told_behind (with_map components modules) table (map_told unmapped modules table told components) behind
  told_behind modules table told (Locked component number ∷ behind) = told_behind (with_lock component number modules) table (lock_told modules table told component number) behind
  told_behind modules table told (Unlocked component number ∷ behind) = told_behind (without_lock component number modules) table (unlock_told modules table told component number) behind

noted_behind : (modules : Modules) (table : Table) (kept : KeptModule) → IsNoted table kept → (happened : List Happening) → IsNoted (table_behind modules table happened) kept
noted_behind modules table kept n [] = n
noted_behind modules table kept n (Fed component section ∷ behind) =
    noted_behind (with_section component section modules) (table ++ brought component section modules) kept (still_noted table (brought component section modules) kept n) behind
noted_behind modules table kept n (Mapped components ∷ behind) = noted_behind (with_map components modules) table kept n behind
noted_behind modules table kept n (Locked component number ∷ behind) = noted_behind (with_lock component number modules) table kept n behind
noted_behind modules table kept n (Unlocked component number ∷ behind) = noted_behind (without_lock component number modules) table kept n behind

modules-append : (modules : Modules) (first more : List Happening) → modules_behind modules (first ++ more) ≡ modules_behind (modules_behind modules first) more
modules-append modules [] more = refl
modules-append modules (Fed component section ∷ first) more = modules-append (with_section component section modules) first more
modules-append modules (Mapped components ∷ first) more = modules-append (with_map components modules) first more
modules-append modules (Locked component number ∷ first) more = modules-append (with_lock component number modules) first more
modules-append modules (Unlocked component number ∷ first) more = modules-append (without_lock component number modules) first more

told_start : IsTold at_start []
told_start = record {
  long = refl;
  held = λ component number low kept e. absurd cc;
  locked = λ component number low kept e. absurd cc;
}

-- what is seen is noted
seen_noted : (modules : Modules) (table : Table) → IsTold modules table → (component number : ℕ) → number < 65536 → (kept : KeptModule) → seen modules component number ≡ Some kept → IsNoted table kept
seen_noted modules table told component number low kept e = by_kept (kept_on modules.locks component number) refl e
  where
    by_kept : (o : Option KeptModule) → kept_on modules.locks component number ≡ o → option_or o (kept_now modules.stored component number) ≡ Some kept → IsNoted table kept
    by_kept None is e = told.held component number low kept e
    by_kept (Some k) is e = told.locked component number low kept (is ∙ e)

-- two that are noted with one number are the same
same_noted : (table : Table) (one other : KeptModule) (delivery : ℕ) → IsNoted table one → IsNoted table other → delivery < 2 ^ 64 - 1 → one.number ≡ Some delivery → other.number ≡ Some delivery → other ≡ one
same_noted table one other delivery n m low e f =
    let first : number_at (n.place + 1) ≡ delivery = some-same (sym n.number_is ∙ e) in
    let second : number_at (m.place + 1) ≡ delivery = some-same (sym m.number_is ∙ f) in
    let places : m.place ≡ n.place = omega arith in
    let both : Some (Some other) ≡ Some (Some one) = sym m.noted ∙ ap (λ i. slice_get table i) places ∙ n.noted in
    cc
  where
    some-same : {a b : ℕ} → Some a ≡ Some b → a ≡ b
    some-same e = cc

module _ (undelivered : IsUndelivered) (unmapped : IsUnmapped) where
  -- where the same number is seen twice, the same is seen
  twice : (modules : Modules) (table : Table) → IsTold modules table → (more : List Happening) (component number delivery : ℕ) → number < 65536 → delivery < 2 ^ 64 - 1
      → seen_number modules component number ≡ Some delivery → seen_number (modules_behind modules more) component number ≡ Some delivery
      → seen (modules_behind modules more) component number ≡ seen modules component number
  twice modules table told more component number delivery low small e f =
      by_seen (seen modules component number) refl (seen (modules_behind modules more) component number) refl e f
    where
      by_seen : (one : Option KeptModule) → seen modules component number ≡ one → (other : Option KeptModule) → seen (modules_behind modules more) component number ≡ other
          → number_in one ≡ Some delivery → number_in other ≡ Some delivery → other ≡ one
      by_seen None is other its e f = absurd cc
      by_seen (Some one) is None its e f = absurd cc
      by_seen (Some one) is (Some other) its e f =
          let n = noted_behind modules table one (seen_noted modules table told component number low one is) more in
          let m = seen_noted (modules_behind modules more) (table_behind modules table more) (told_behind undelivered unmapped modules table told more) component number low other its in
          ap (λ (k : KeptModule). Some k) (same_noted (table_behind modules table more) one other delivery n m small e f)

  pub same_seen : (first more : List Happening) (component number delivery : ℕ) → number < 65536 → delivery < 2 ^ 64 - 1
      → seen_number (behind_all first) component number ≡ Some delivery → seen_number (behind_all (first ++ more)) component number ≡ Some delivery
      → seen (behind_all (first ++ more)) component number ≡ seen (behind_all first) component number
  same_seen first more component number delivery low small e f =
      let both = modules-append at_start first more in
      ap (λ (m : Modules). seen m component number) both
      ∙ twice (behind_all first) (table_behind at_start [] first) (told_behind undelivered unmapped at_start [] told_start first) more component number delivery low small e
      (sym (ap (λ (m : Modules). seen_number m component number) both) ∙ f)

  pub same_look : (first more : List Happening) (path : Path) (delivery : ℕ) → path.«module» < 65536 → delivery < 2 ^ 64 - 1
      → seen_number (behind_all first) path.component path.«module» ≡ Some delivery → seen_number (behind_all (first ++ more)) path.component path.«module» ≡ Some delivery
      → look_up (behind_all (first ++ more)) path ≡ look_up (behind_all first) path
  same_look first more path delivery low small e f =
      by_seen (seen (behind_all first) path.component path.«module») refl e
    where
      same : seen (behind_all (first ++ more)) path.component path.«module» ≡ seen (behind_all first) path.component path.«module»
      same = same_seen first more path.component path.«module» delivery low small e f

      by_seen : (o : Option KeptModule) → seen (behind_all first) path.component path.«module» ≡ o → number_in o ≡ Some delivery → look_up (behind_all (first ++ more)) path ≡ look_up (behind_all first) path
      by_seen None is e = absurd cc
      by_seen (Some kept) is e = look_seen (behind_all (first ++ more)) path kept (same ∙ is) ∙ sym (look_seen (behind_all first) path kept is)

  pub some_seen : (happened : List Happening) (component number : ℕ) → number < 65536
      → is_some (seen_number (behind_all happened) component number) ≡ is_some (seen (behind_all happened) component number)
  some_seen happened component number low = by_seen (seen (behind_all happened) component number) refl
    where
      by_seen : (o : Option KeptModule) → seen (behind_all happened) component number ≡ o → is_some (number_in o) ≡ is_some o
      by_seen None is = refl
      by_seen (Some kept) is =
          let n = seen_noted (behind_all happened) (table_behind at_start [] happened) (told_behind undelivered unmapped at_start [] told_start happened) component number low kept is in
          ap (λ (o : Option ℕ). is_some o) n.number_is
