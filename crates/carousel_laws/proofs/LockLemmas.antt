-- The locks after sections as long as the DII in force is only repeated, and what a look-up finds then.
use Rattle.std.proofs.Common.{◌≡◌, ℕ, ◌==◌, Bool, true, false, not, ◌&&◌, ◌||◌, List, [], ◌∷◌, ◌++◌, map, refl, sym, ap, ap₂, ◌∙◌, subst, eqb-true, ◌⊎◌, inl, inr, cond, find, if◌then◌else◌}
use Rattle.std.specs.Prelude.{◌≢◌, All, Option, Some, None, is_some, option_map, option_and_then, option_to_list}
use Rattle.std.specs.Option.{option_map_or}
use Rattle.std.proofs.lemmas.Bool.{and_parts}
use Rattle.std.proofs.lemmas.List.Elements.{All-map, All-weaker}
use Rattle.dsmcc_messages.specs.declared.dii.Dii.{Dii}
use Rattle.carousel_blocks.specs.declared.changes.Change.{Change}
use Rattle.carousel_blocks.specs.Held.{bytes_held}
use Rattle.carousel_blocks.specs.InForce.{in_force}
use Rattle.carousel_blocks.specs.Message.{Message, messages_of}
use Rattle.multipart_entities.specs.declared.paths.Path.{Path}
use Rattle.module_store.specs.Copies.{KeptModule}
use Rattle.module_store.specs.DataEvents.{data_event_by}
use Rattle.module_store.specs.Resources.{Resource, Waiting, look, presence, presence_in, start_component}
use Rattle.module_store.specs.Resources as resources
use Rattle.module_store.specs.Store.{Stored, held_in, messages_of_component}
use Rattle.module_store.specs.Store as store
use Rattle.module_locks.specs.Locks.{Lock, Modules, changes_by, change_told, delivers, is_lock_on, kept_now, kept_of, kept_on, lock_behind, lock_on, locks_at, locks_left, look_kept, look_up, module_changes_by, start_path, start_path_as, with_section}
use Rattle.carousel_laws.specs.Freedom.{OnlyRepeat, Repeats}
use Rattle.carousel_laws.specs.Services.{IsDelivery, KeepTheSame, lock_without_number, locks_without_numbers, modules_after, without_number}
use Rattle.carousel_laws.specs.Stores.{stored_after}
use Rattle.carousel_laws.proofs.RepeatLemmas.{ChangeLaws, all_deliveries, still_in_force}
use Rattle.carousel_laws.proofs.SectionLemmas.{OrderLaw, find_passes, first_repeats, others_repeat}
use Rattle.carousel_laws.proofs.StepLemmas.{delivered_new, its_after, kept_is_held, kept_stays, kept_there, look_of_kept, looks_stay, no_event, others_after, start_of_kept, start_stays, there_is}
use Rattle.carousel_laws.proofs.StoreLemmas.{held_alike, looks_alike, presence_alike, start_alike}

-- ---- lists

module _ {X : Type 0} where
  map_same : (f g : X → X) → ((x : X) → f x ≡ g x) → (xs : List X) → map f xs ≡ map g xs
  map_same f g same [] = refl
  map_same f g same (x ∷ xs) = ap₂ (λ (y : X) (l : List X). y ∷ l) (same x) (map_same f g same xs)

  map_itself : (f : X → X) → ((x : X) → f x ≡ x) → (xs : List X) → map f xs ≡ xs
  map_itself f same [] = refl
  map_itself f same (x ∷ xs) = ap₂ (λ (y : X) (l : List X). y ∷ l) (same x) (map_itself f same xs)

  map_twice : (f g h : X → X) → ((x : X) → f (g x) ≡ h x) → (xs : List X) → map f (map g xs) ≡ map h xs
  map_twice f g h same [] = refl
  map_twice f g h same (x ∷ xs) = ap₂ (λ (y : X) (l : List X). y ∷ l) (same x) (map_twice f g h same xs)

  map_square : (f g h k : X → X) → ((x : X) → f (g x) ≡ h (k x)) → (xs : List X) → map f (map g xs) ≡ map h (map k xs)
  map_square f g h k same [] = refl
  map_square f g h k same (x ∷ xs) = ap₂ (λ (y : X) (l : List X). y ∷ l) (same x) (map_square f g h k same xs)

  find_map : (p : X → Bool) (f : X → X) → ((x : X) → p (f x) ≡ p x) → (xs : List X) → find p (map f xs) ≡ option_map f (find p xs)
  find_map p f same [] = refl
  find_map p f same (x ∷ xs) = ap (λ t. cond t (Some (f x)) (find p (map f xs))) (same x) ∙ by (p x) (find_map p f same xs) where
    by : (t : Bool) → find p (map f xs) ≡ option_map f (find p xs) → cond t (Some (f x)) (find p (map f xs)) ≡ option_map f (cond t (Some x) (find p xs))
    by true again = refl
    by false again = again

-- ---- what is seen of locks without the numbers

kept_without : (locks : List Lock) (component number : ℕ) → kept_on (locks_without_numbers locks) component number ≡ option_map without_number (kept_on locks component number)
kept_without locks component number =
    ap (λ (o : Option Lock). option_and_then (λ (l : Lock). l.kept) o) (find_map (is_lock_on component number) lock_without_number (λ l. refl) locks)
    ∙ by (lock_on locks component number)
  where
    by : (o : Option Lock) → option_and_then (λ (l : Lock). l.kept) (option_map lock_without_number o) ≡ option_map without_number (option_and_then (λ (l : Lock). l.kept) o)
    by None = refl
    by (Some lock) = refl

-- by these look-ups find what they find
abbrev look_with : List Lock → Stored → Path → Resource
look_with locks stored path = option_map_or (λ kept. look_kept kept path.name) (kept_on locks path.component path.«module») (look stored path)

look_is : (modules : Modules) (path : Path) → look_up modules path ≡ look_with (locks_without_numbers modules.locks) modules.stored path
look_is modules path =
    by (kept_on modules.locks path.component path.«module»)
    ∙ sym (ap (λ o. option_map_or (λ kept. look_kept kept path.name) o (look modules.stored path)) (kept_without modules.locks path.component path.«module»))
  where
    by : (o : Option KeptModule) → option_map_or (λ kept. look_kept kept path.name) o (look modules.stored path)
        ≡ option_map_or (λ kept. look_kept kept path.name) (option_map without_number o) (look modules.stored path)
    by None = refl
    by (Some kept) = refl

-- and the start document has its path
abbrev start_with : List Lock → Stored → Path
start_with locks stored = option_map_or (λ kept. start_path_as kept.is_entity) (kept_on locks start_component 0) (resources.start_path stored)

start_is : (modules : Modules) → start_path modules ≡ start_with (locks_without_numbers modules.locks) modules.stored
start_is modules =
    by (kept_on modules.locks start_component 0)
    ∙ sym (ap (λ o. option_map_or (λ kept. start_path_as kept.is_entity) o (resources.start_path modules.stored)) (kept_without modules.locks start_component 0))
  where
    by : (o : Option KeptModule) → option_map_or (λ kept. start_path_as kept.is_entity) o (resources.start_path modules.stored)
        ≡ option_map_or (λ kept. start_path_as kept.is_entity) (option_map without_number o) (resources.start_path modules.stored)
    by None = refl
    by (Some kept) = refl

-- ---- a lock since a store, without the number

abbrev lock_as : ℕ → ℕ → Option KeptModule → Lock
lock_as component number kept = record { component = component; «module» = number; kept = kept }

-- A lock that was wanted on a module which wasn't held gets what there is to be kept of it since.
abbrev pub lock_since : Stored → Stored → Lock → Lock
lock_since was now lock =
    if is_some lock.kept || is_some (kept_there was lock.component lock.«module») then lock
    else lock_as lock.component lock.«module» (kept_there now lock.component lock.«module»)

none_of : {X : Type 0} (o : Option X) → is_some o ≡ false → o ≡ None
none_of None e = refl
none_of (Some x) e = absurd cc

-- what there is to be kept stays
abbrev KeptStays : Stored → Stored → Type 0
KeptStays was now = (component number : ℕ) (kept : KeptModule) → kept_there was component number ≡ Some kept → kept_there now component number ≡ Some kept

since_itself : (stored : Stored) (lock : Lock) → lock_since stored stored lock ≡ lock
since_itself stored lock = by lock.kept (kept_there stored lock.component lock.«module») where
  by : (kept now : Option KeptModule) → (if is_some kept || is_some now then lock_as lock.component lock.«module» kept else lock_as lock.component lock.«module» now) ≡ lock_as lock.component lock.«module» kept
  by (Some kept) now = refl
  by None (Some now) = refl
  by None None = refl

since_both : (was now last : Stored) → KeptStays was now → KeptStays now last → (lock : Lock) → lock_since now last (lock_since was now lock) ≡ lock_since was last lock
since_both was now last stays further lock =
    by lock.kept (kept_there was lock.component lock.«module») (kept_there now lock.component lock.«module») refl refl
  where
    its : Option KeptModule → Lock
    its kept = lock_as lock.component lock.«module» kept

    by : (kept a b : Option KeptModule) → kept_there was lock.component lock.«module» ≡ a → kept_there now lock.component lock.«module» ≡ b
        → lock_since now last (if is_some kept || is_some a then its kept else its b)
        ≡ (if is_some kept || is_some a then its kept else its (kept_there last lock.component lock.«module»))
    by (Some kept) a b x y = refl
    by None (Some k) b x y =
        ap (λ o. if is_some o then its None else its (kept_there last lock.component lock.«module»)) (stays lock.component lock.«module» k x)
    by None None (Some k) x y = ap its (sym (further lock.component lock.«module» k y))
    by None None None x y =
        ap (λ o. if is_some o then its None else its (kept_there last lock.component lock.«module»)) y

-- ---- one more section

module _ (laws : ChangeLaws) (modules : Modules) (tag : ℕ) (messages : List Message) (dii : Dii) (section : List ℕ)
    (its : messages_of_component modules.stored tag ≡ Some messages) (is : in_force messages ≡ Some dii) (repeat : OnlyRepeat dii.transaction (section ∷ [])) where
  abbrev was : Stored
  was = modules.stored

  abbrev now : Stored
  now = store.with_section tag section modules.stored

  stays : KeptStays was now
  stays = kept_stays laws was tag messages dii section its is repeat

  -- what a section makes of a lock
  lock_step : (lock : Lock) → lock_without_number (lock_behind tag (store.changes_by tag section was) now lock) ≡ lock_since was now (lock_without_number lock)
  lock_step lock = by lock.kept (lock.component == tag) refl where
    with_kept : Option KeptModule → Lock
    with_kept kept = lock_as lock.component lock.«module» kept

    there : Bool
    there = is_some (kept_there was lock.component lock.«module»)

    delivers_it : ℕ → Bool
    delivers_it number = delivers number (store.changes_by tag section was)

    tested : (t d : Bool) (k : KeptModule)
        → lock_without_number (if (t && false) && d then with_kept (kept_now now tag lock.«module») else with_kept (Some k)) ≡ with_kept (Some (without_number k))
    tested true d k = refl
    tested false d k = refl

    -- of another component
    other : (component : ℕ) → (component == tag) ≡ false → (number : ℕ)
        → lock_as component number None ≡ (if is_some (kept_there was component number) then lock_as component number None else lock_as component number (kept_there now component number))
    other component e number =
        tries (kept_there was component number)
        ∙ ap (λ (o : Option (List Message)). if is_some (kept_there was component number) then lock_as component number None else lock_as component number (kept_of None (presence_in o number)))
        (sym (others_after laws was tag messages dii section its is repeat component e))
      where
        tries : (o : Option KeptModule) → lock_as component number None ≡ (if is_some o then lock_as component number None else lock_as component number o)
        tries None = refl
        tries (Some k) = refl

    -- of the section's own
    own : (number : ℕ)
        → lock_without_number (if delivers_it number then lock_as tag number (kept_now now tag number) else lock_as tag number None)
        ≡ (if is_some (kept_there was tag number) then lock_as tag number None else lock_as tag number (kept_there now tag number))
    own number =
        without (delivers_it number)
        ∙ ap (λ (t : Bool). if t then lock_as tag number (kept_there now tag number) else lock_as tag number None)
        (delivered_new laws was tag messages dii section its is repeat number
        ∙ ap₂ (λ (a b : Bool). not a && b) (sym before_is) (sym now_is))
        ∙ tries (kept_there was tag number) (kept_there now tag number)
      where
        without : (t : Bool) → lock_without_number (if t then lock_as tag number (kept_now now tag number) else lock_as tag number None)
            ≡ (if t then lock_as tag number (kept_there now tag number) else lock_as tag number None)
        without true = ap (lock_as tag number) (there_is now tag number)
        without false = refl

        before_is : is_some (kept_there was tag number) ≡ is_some (bytes_held messages number)
        before_is = ap (λ o. is_some (kept_of None (presence_in o number))) its ∙ kept_is_held messages number

        now_is : is_some (kept_there now tag number) ≡ is_some (bytes_held (messages ++ messages_of (section ∷ [])) number)
        now_is =
            ap (λ o. is_some (kept_of None (presence_in o number))) (its_after laws was tag messages dii section its is repeat)
            ∙ kept_is_held (messages ++ messages_of (section ∷ [])) number

        tries : (a b : Option KeptModule) → (if not (is_some a) && is_some b then lock_as tag number b else lock_as tag number None)
            ≡ (if is_some a then lock_as tag number None else lock_as tag number b)
        tries (Some a) b = refl
        tries None (Some b) = refl
        tries None None = refl

    by : (kept : Option KeptModule) (t : Bool) → (lock.component == tag) ≡ t
        → lock_without_number (if (t && not (is_some kept)) && delivers_it lock.«module» then with_kept (kept_now now tag lock.«module») else with_kept kept)
        ≡ (if is_some (option_map without_number kept) || there then with_kept (option_map without_number kept) else with_kept (kept_there now lock.component lock.«module»))
    by (Some k) t e = tested t (delivers_it lock.«module») k
    by None false e = other lock.component e lock.«module»
    by None true e =
        ap (λ c. lock_without_number (if delivers_it lock.«module» then lock_as c lock.«module» (kept_now now tag lock.«module») else lock_as c lock.«module» None)) (eqb-true lock.component tag e)
        ∙ own lock.«module»
        ∙ sym (ap (λ c. if is_some (kept_there was c lock.«module») then lock_as c lock.«module» None else lock_as c lock.«module» (kept_there now c lock.«module»)) (eqb-true lock.component tag e))

  -- ---- what is kept behind it

  abbrev since : Lock → Lock
  since = lock_since was now

  abbrev locks_now : List Lock
  locks_now = locks_without_numbers modules.locks

  -- it is no data event, so no lock ends
  none : data_event_by tag section was ≡ None
  none = no_event laws was tag messages dii section its is repeat

  locks_stay : locks_at tag section modules ≡ modules.locks
  locks_stay = ap (λ event. locks_left event modules.locks) none

  locks_step : locks_without_numbers (with_section tag section modules).locks ≡ map since locks_now
  locks_step =
      ap (λ l. locks_without_numbers (map (lock_behind tag (store.changes_by tag section was) now) l)) locks_stay
      ∙ map_square lock_without_number (lock_behind tag (store.changes_by tag section was) now) since lock_without_number lock_step modules.locks

  -- the same lock is on the module
  lock_since_on : (component number : ℕ) (locks : List Lock) → lock_on (map since locks) component number ≡ option_map since (lock_on locks component number)
  lock_since_on component number = find_map (is_lock_on component number) since same where
    same : (lock : Lock) → is_lock_on component number (since lock) ≡ is_lock_on component number lock
    same lock = by (is_some lock.kept || is_some (kept_there was lock.component lock.«module»)) where
      by : (t : Bool) → is_lock_on component number (if t then lock else lock_as lock.component lock.«module» (kept_there now lock.component lock.«module»)) ≡ is_lock_on component number lock
      by true = refl
      by false = refl

  abbrev kept_since : ℕ → ℕ → Option KeptModule
  kept_since component number = kept_on (locks_without_numbers (with_section tag section modules).locks) component number

  kept_since_is : (component number : ℕ) → kept_since component number ≡ option_and_then (λ (l : Lock). l.kept) (option_map since (lock_on locks_now component number))
  kept_since_is component number =
      ap (λ (l : List Lock). kept_on l component number) locks_step
      ∙ ap (λ (o : Option Lock). option_and_then (λ (l : Lock). l.kept) o) (lock_since_on component number locks_now)

  -- what a lock keeps it keeps
  kept_again : (component number : ℕ) (kept : KeptModule) → kept_on locks_now component number ≡ Some kept → kept_since component number ≡ Some kept
  kept_again component number kept e = kept_since_is component number ∙ by (lock_on locks_now component number) e where
    by : (o : Option Lock) → option_and_then (λ (l : Lock). l.kept) o ≡ Some kept → option_and_then (λ (l : Lock). l.kept) (option_map since o) ≡ Some kept
    by None e = absurd cc
    by (Some lock) e =
        ap (λ o. (if is_some o || is_some (kept_there was lock.component lock.«module») then lock else lock_as lock.component lock.«module» (kept_there now lock.component lock.«module»)).kept) e
        ∙ e

  -- what one gets is what there is to be kept
  abbrev GotOr : ℕ → ℕ → Option KeptModule → Type 0
  GotOr component number kept = (kept ≡ None) ⊎ (kept ≡ kept_there now component number)

  got_or_none : (component number : ℕ) → kept_on locks_now component number ≡ None → GotOr component number (kept_since component number)
  got_or_none component number e = subst (GotOr component number) (sym (kept_since_is component number)) (by (lock_on locks_now component number) refl e) where
    by : (o : Option Lock) → lock_on locks_now component number ≡ o → option_and_then (λ (l : Lock). l.kept) o ≡ None
        → GotOr component number (option_and_then (λ (l : Lock). l.kept) (option_map since o))
    by None on e = inl refl
    by (Some lock) on e = subst (λ (k : Option KeptModule). GotOr component number k) (sym (ap gets e)) (tries (is_some (kept_there was lock.component lock.«module»))) where
      gets : Option KeptModule → Option KeptModule
      gets o = (if is_some o || is_some (kept_there was lock.component lock.«module») then lock else lock_as lock.component lock.«module» (kept_there now lock.component lock.«module»)).kept

      here : (lock.component ≡ component) × (lock.«module» ≡ number)
      here =
          let parts = and_parts (lock.component == component) (lock.«module» == number) (find_passes (is_lock_on component number) locks_now lock on) in
          (eqb-true lock.component component parts.0, eqb-true lock.«module» number parts.1)

      tries : (t : Bool) → GotOr component number (if t then lock else lock_as lock.component lock.«module» (kept_there now lock.component lock.«module»)).kept
      tries true = inl e
      tries false = inr (ap (λ c. kept_there now c lock.«module») here.0 ∙ ap (λ n. kept_there now component n) here.1)

  -- ---- what is found and isn't waited for stays

  pub look_step : (path : Path) → look_up modules path ≢ Waiting → look_up (with_section tag section modules) path ≡ look_up modules path
  look_step path there =
      look_is (with_section tag section modules) path
      ∙ by (kept_on locks_now path.component path.«module») refl
      ∙ sym (look_is modules path)
    where
      found : Option KeptModule → Stored → Resource
      found o stored = option_map_or (λ kept. look_kept kept path.name) o (look stored path)

      by_got : GotOr path.component path.«module» (kept_since path.component path.«module») → found (kept_since path.component path.«module») now ≡ look now path
      by_got (inl none) = ap (λ o. found o now) none
      by_got (inr got) = ap (λ o. found o now) got ∙ has (kept_there now path.component path.«module») refl where
        has : (o : Option KeptModule) → kept_there now path.component path.«module» ≡ o → found o now ≡ look now path
        has None e = refl
        has (Some kept) e = sym (look_of_kept now path kept e)

      by : (o : Option KeptModule) → kept_on locks_now path.component path.«module» ≡ o → found (kept_since path.component path.«module») now ≡ look_with locks_now was path
      by (Some kept) e = ap (λ o. found o now) (kept_again path.component path.«module» kept e) ∙ sym (ap (λ o. found o was) e)
      by None e =
          by_got (got_or_none path.component path.«module» e)
          ∙ looks_stay laws was tag messages dii section its is repeat path (λ waits. there (look_is modules path ∙ ap (λ o. found o was) e ∙ waits))
          ∙ sym (ap (λ o. found o was) e)

  pub start_step : start_path (with_section tag section modules) ≡ start_path modules
  start_step = start_is (with_section tag section modules) ∙ by (kept_on locks_now start_component 0) refl ∙ sym (start_is modules) where
    begun : Option KeptModule → Stored → Path
    begun o stored = option_map_or (λ kept. start_path_as kept.is_entity) o (resources.start_path stored)

    by_got : GotOr start_component 0 (kept_since start_component 0) → begun (kept_since start_component 0) now ≡ resources.start_path now
    by_got (inl none) = ap (λ o. begun o now) none
    by_got (inr got) = ap (λ o. begun o now) got ∙ has (kept_there now start_component 0) refl where
      has : (o : Option KeptModule) → kept_there now start_component 0 ≡ o → begun o now ≡ resources.start_path now
      has None e = refl
      has (Some kept) e = sym (start_of_kept now kept e)

    by : (o : Option KeptModule) → kept_on locks_now start_component 0 ≡ o → begun (kept_since start_component 0) now ≡ start_with locks_now was
    by (Some kept) e = ap (λ o. begun o now) (kept_again start_component 0 kept e) ∙ sym (ap (λ o. begun o was) e)
    by None e =
        by_got (got_or_none start_component 0 e)
        ∙ start_stays laws was tag messages dii section its is repeat
        ∙ sym (ap (λ o. begun o was) e)

  -- all that is told are deliveries
  pub told_deliveries : All IsDelivery (changes_by tag section modules)
  told_deliveries =
      subst (λ (o : Option Change). All IsDelivery (option_to_list o ++ module_changes_by tag section modules)) (sym none)
      (All-map IsDelivery (change_told tag (locks_at tag section modules)) (store.changes_by tag section was)
      (All-weaker IsDelivery (λ change. IsDelivery (change_told tag (locks_at tag section modules) change)) told (store.changes_by tag section was)
      (subst (λ o. All IsDelivery (store.changes_behind o section)) (sym its) (all_deliveries laws messages dii section is repeat))))
    where
      told : (change : Change) → IsDelivery change → IsDelivery (change_told tag (locks_at tag section modules) change)
      told change d = record { version = d.version; size = d.size; line_is = d.line_is }

-- ---- all sections

stored_of : (tag : ℕ) (sections : List (List ℕ)) (modules : Modules) → (modules_after modules tag sections).stored ≡ stored_after modules.stored tag sections
stored_of tag [] modules = refl
stored_of tag (section ∷ sections) modules = stored_of tag sections (with_section tag section modules)

module _ (laws : ChangeLaws) (tag : ℕ) (dii : Dii) where
  all_stay : (sections : List (List ℕ)) (stored : Stored) (messages : List Message) → messages_of_component stored tag ≡ Some messages → in_force messages ≡ Some dii
      → OnlyRepeat dii.transaction sections → KeptStays stored (stored_after stored tag sections)
  all_stay [] stored messages its is repeat = λ component number kept e. e
  all_stay (section ∷ sections) stored messages its is repeat = λ component number kept e.
      all_stay sections (store.with_section tag section stored) (messages ++ messages_of (section ∷ []))
      (its_after laws stored tag messages dii section its is (first_repeats dii.transaction section sections repeat))
      (still_in_force laws messages dii section is (first_repeats dii.transaction section sections repeat))
      (others_repeat dii.transaction section sections repeat)
      component number kept
      (kept_stays laws stored tag messages dii section its is (first_repeats dii.transaction section sections repeat) component number kept e)

  locks_since : (sections : List (List ℕ)) (modules : Modules) (messages : List Message) → messages_of_component modules.stored tag ≡ Some messages → in_force messages ≡ Some dii
      → OnlyRepeat dii.transaction sections
      → locks_without_numbers (modules_after modules tag sections).locks
      ≡ map (lock_since modules.stored (stored_after modules.stored tag sections)) (locks_without_numbers modules.locks)
  locks_since [] modules messages its is repeat = sym (map_itself (lock_since modules.stored modules.stored) (since_itself modules.stored) (locks_without_numbers modules.locks))
  locks_since (section ∷ sections) modules messages its is repeat =
      let one = first_repeats dii.transaction section sections repeat in
      let now = store.with_section tag section modules.stored in
      let its_now = its_after laws modules.stored tag messages dii section its is one in
      let is_now = still_in_force laws messages dii section is one in
      let last = stored_after now tag sections in
      locks_since sections (with_section tag section modules) (messages ++ messages_of (section ∷ [])) its_now is_now (others_repeat dii.transaction section sections repeat)
      ∙ ap (map (lock_since now last)) (locks_step laws modules tag messages dii section its is one)
      ∙ map_twice (lock_since now last) (lock_since modules.stored now) (lock_since modules.stored last)
      (since_both modules.stored now last (kept_stays laws modules.stored tag messages dii section its is one)
      (all_stay sections now (messages ++ messages_of (section ∷ [])) its_now is_now (others_repeat dii.transaction section sections repeat)))
      (locks_without_numbers modules.locks)

  -- ---- both lists

  module _ (order : OrderLaw) (modules : Modules) (messages : List Message) (first second : List (List ℕ))
      (its : messages_of_component modules.stored tag ≡ Some messages) (repeats : Repeats messages dii first second) where
    pub locks_alike : KeepTheSame (modules_after modules tag first).locks (modules_after modules tag second).locks
    locks_alike =
        locks_since first modules messages its repeats.force repeats.first_repeats
        ∙ map_same (lock_since modules.stored (stored_after modules.stored tag first)) (lock_since modules.stored (stored_after modules.stored tag second)) same (locks_without_numbers modules.locks)
        ∙ sym (locks_since second modules messages its repeats.force repeats.second_repeats)
      where
        same : (lock : Lock) → lock_since modules.stored (stored_after modules.stored tag first) lock ≡ lock_since modules.stored (stored_after modules.stored tag second) lock
        same lock =
            ap (λ p. if is_some lock.kept || is_some (kept_there modules.stored lock.component lock.«module») then lock else lock_as lock.component lock.«module» (kept_of None p))
            (presence_alike laws.reading order modules.stored tag messages dii first second lock.component lock.«module» its repeats)

    pub look_ups_alike : (path : Path) → look_up (modules_after modules tag first) path ≡ look_up (modules_after modules tag second) path
    look_ups_alike path =
        look_is (modules_after modules tag first) path
        ∙ ap₂ (λ (l : List Lock) (r : Resource). option_map_or (λ kept. look_kept kept path.name) (kept_on l path.component path.«module») r) locks_alike
        (ap (λ stored. look stored path) (stored_of tag first modules)
        ∙ looks_alike laws.reading order modules.stored tag messages dii first second path its repeats
        ∙ sym (ap (λ stored. look stored path) (stored_of tag second modules)))
        ∙ sym (look_is (modules_after modules tag second) path)

    pub start_paths_alike : start_path (modules_after modules tag first) ≡ start_path (modules_after modules tag second)
    start_paths_alike =
        start_is (modules_after modules tag first)
        ∙ ap₂ (λ (l : List Lock) (p : Path). option_map_or (λ kept. start_path_as kept.is_entity) (kept_on l start_component 0) p) locks_alike
        (ap resources.start_path (stored_of tag first modules)
        ∙ start_alike laws.reading order modules.stored tag messages dii first second its repeats
        ∙ sym (ap resources.start_path (stored_of tag second modules)))
        ∙ sym (start_is (modules_after modules tag second))

    pub presences_alike : (component number : ℕ) → presence (modules_after modules tag first).stored component number ≡ presence (modules_after modules tag second).stored component number
    presences_alike component number =
        ap (λ stored. presence stored component number) (stored_of tag first modules)
        ∙ presence_alike laws.reading order modules.stored tag messages dii first second component number its repeats
        ∙ sym (ap (λ stored. presence stored component number) (stored_of tag second modules))

    pub all_held_alike : (component number : ℕ) → held_in (modules_after modules tag first).stored component number ≡ held_in (modules_after modules tag second).stored component number
    all_held_alike component number =
        ap (λ stored. held_in stored component number) (stored_of tag first modules)
        ∙ held_alike laws.reading order modules.stored tag messages dii first second component number its repeats
        ∙ sym (ap (λ stored. held_in stored component number) (stored_of tag second modules))
