-- The numbers of deliveries.
use Rattle.std.proofs.Common.{◌≡◌, ◌≢◌, ◌∙◌, ℕ, zero, suc, ◌+◌, ◌-◌, ◌^◌, ◌<◌, ◌≤◌, min, Bool, true, false, cond, eqb, List, [], ◌∷◌, ◌++◌, length, Option, Some, None, refl, sym, ap, arith}
use Rattle.std.specs.Prelude.{◌&&◌, ◌||◌, ◌⊎◌, map, is_some, option_map, option_and_then}
use Rattle.std.specs.Option.{option_or, option_map_or}
use Rattle.std.specs.List.{filter_map, list_any, range_with_len, cons_option}
use Rattle.std.proofs.lemmas.Bool.{eqb-false, eqb-true, eq-eqb, ne_eqb}
use Rattle.std.proofs.Common.{inl, inr}
use Rattle.std.proofs.lemmas.Bool.Decides.{eqb_tells}
use Rattle.dsmcc_messages.specs.declared.entry.Entry.{Entry}
use Rattle.dsmcc_messages.specs.Ddb.{DataBlock}
use Rattle.carousel_blocks.specs.declared.standing.SkipCause.{SkipCause}
use Rattle.carousel_blocks.specs.declared.standing.Standing.{Standing}
use Rattle.carousel_blocks.specs.declared.changes.Change.{Change}
use Rattle.carousel_blocks.specs.Message.{Message}
use Rattle.carousel_blocks.specs.InForce.{in_force, standing_of}
use Rattle.carousel_blocks.specs.Held.{kept_with, bytes_held, counting_blocks, bytes_by, bytes_kept}
use Rattle.carousel_blocks.specs.Changes.{change_of, change_at, changes, changes_within, number_bound, completed, changed, delivered}
use Rattle.module_store.specs.Store.{delivered_by, deliveries_of, last_place_from, number_at}
use Rattle.module_store.specs.Noted.{noted, noted_count, with_number}

-- ---- places

-- deliveries of a component
abbrev pub of_component : ℕ → List ℕ → List (ℕ × ℕ)
of_component tag numbers = map (λ number. (tag, number)) numbers

or_none : {A : Type 0} (o : Option A) → option_or o None ≡ o
or_none None = refl
or_none (Some x) = refl

or_assoc : {A : Type 0} (a b c : Option A) → option_or (option_or a b) c ≡ option_or a (option_or b c)
or_assoc None b c = refl
or_assoc (Some x) b c = refl

is_delivery : ℕ → ℕ → ℕ → ℕ × ℕ → Option ℕ
is_delivery place tag number d = cond (eqb d.0 tag && eqb d.1 number) (Some place) None

pub last_place-append : (place tag number : ℕ) (before behind : List (ℕ × ℕ))
    → last_place_from place tag number (before ++ behind) ≡ option_or (last_place_from (place + length before) tag number behind) (last_place_from place tag number before)
last_place-append place tag number [] behind =
    let e : place + 0 ≡ place = omega arith in rw e (sym (or_none (last_place_from place tag number behind)))
last_place-append place tag number (d ∷ before) behind =
    let e : place + suc (length before) ≡ place + 1 + length before = omega arith in
    let here = cond (eqb d.0 tag && eqb d.1 number) (Some place) None in
    rw e (ap (λ o. option_or o here) (last_place-append (place + 1) tag number before behind)
    ∙ or_assoc (last_place_from (place + 1 + length before) tag number behind) (last_place_from (place + 1) tag number before) here)

-- a delivery of another component is none of the module
pub last_place-other : (place other tag number : ℕ) (numbers : List ℕ) → eqb tag other ≡ false → last_place_from place other number (of_component tag numbers) ≡ None
last_place-other place other tag number [] differ = refl
last_place-other place other tag number (n ∷ numbers) differ = rw (differ, last_place-other (place + 1) other tag number numbers differ) refl

-- ---- numbers

eqb_same : (n : ℕ) → eqb n n ≡ true
eqb_same n = eq-eqb n n refl

pub eqb_sym : (a b : ℕ) → eqb a b ≡ eqb b a
eqb_sym a b = by_test (eqb a b) refl
  where
    by_test : (t : Bool) → eqb a b ≡ t → eqb a b ≡ eqb b a
    by_test true e = e ∙ sym (eq-eqb b a (sym (eqb-true a b e)))
    by_test false e = e ∙ sym (ne_eqb b a (λ same. eqb-false a b e (sym same)))

capped : (count most : ℕ) → min (min count most + 1) most ≡ min (count + 1) most
capped count most = omega arith

next : (count : ℕ) → number_at (number_at count + 1) ≡ number_at (count + 1)
next count = capped count (2 ^ 64 - 1)

-- the number of a module behind one more delivery
one_more : (o : Option ℕ) (is_it : Bool) (count before : ℕ)
    → option_map_or number_at o (cond is_it (number_at count) before) ≡ option_map_or number_at (option_or o (cond is_it (Some count) None)) before
one_more None true count before = refl
one_more None false count before = refl
one_more (Some place) is_it count before = refl

pub noted_is : (count tag : ℕ) (numbers : List ℕ) (at : ℕ → ℕ) (number : ℕ)
    → noted (number_at count) numbers at number ≡ option_map_or number_at (last_place_from (count + 1) tag number (of_component tag numbers)) (at number)
noted_is count tag [] at number = refl
noted_is count tag (n ∷ numbers) at number =
    let later = last_place_from (count + 1 + 1) tag number (of_component tag numbers) in
    ap (λ k. noted k numbers (with_number n k at) number) (next count)
    ∙ noted_is (count + 1) tag numbers (with_number n (number_at (count + 1)) at) number
    ∙ one_more later (eqb number n) (count + 1) (at number)
    ∙ ap (λ t. option_map_or number_at (option_or later (cond t (Some (count + 1)) None)) (at number)) (eqb_sym number n)
    ∙ ap (λ t. option_map_or number_at (option_or later (cond (t && eqb n number) (Some (count + 1)) None)) (at number)) (sym (eqb_same tag))

pub noted_count_is : (count : ℕ) (numbers : List ℕ) → noted_count (number_at count) numbers ≡ number_at (count + length numbers)
noted_count_is count [] = let e : count ≡ count + 0 = omega arith in ap number_at e
noted_count_is count (n ∷ numbers) =
    let e : count + 1 + length numbers ≡ count + suc (length numbers) = omega arith in
    ap (λ k. noted_count k numbers) (next count) ∙ noted_count_is (count + 1) numbers ∙ ap number_at e

-- ---- what a section delivers

-- the module that a change delivers
abbrev pub delivered_in : Option Change → Option ℕ
delivered_in change = option_and_then (λ c. delivered_by c.module c.line) change

-- an entry that isn't skipped stands in force where its module is held
unskipped : (cause : Option SkipCause) (blocks : List (Option (List ℕ))) (bytes : List ℕ) → bytes_by cause blocks ≡ Some bytes → cause ≡ None
unskipped None blocks bytes e = refl
unskipped (Some cause) blocks bytes e = absurd cc

held_stands : (o : Option Standing) (blocks : List DataBlock) (bytes : List ℕ) → option_and_then bytes_kept (option_map (kept_with blocks) o) ≡ Some bytes → (s : Standing) × (o ≡ Some s) × (s.skip ≡ None)
held_stands None blocks bytes e = absurd cc
held_stands (Some s) blocks bytes e = (s, refl, unskipped s.skip (kept_with blocks s).blocks bytes e)

held_in_force : (messages : List Message) (number : ℕ) (bytes : List ℕ) → bytes_held messages number ≡ Some bytes → (s : Standing) × (standing_of (in_force messages) number ≡ Some s) × (s.skip ≡ None)
unfolding bytes_held
held_in_force messages number bytes e = held_stands (standing_of (in_force messages) number) (counting_blocks None number messages) bytes e

either : (same : Bool) (number : ℕ) (entry : Entry) → delivered_in (cond same (Some (completed number entry)) (Some (changed number (Some (delivered entry))))) ≡ Some number
either true number entry = refl
either false number entry = refl

-- a module that is held now and wasn't before is delivered
delivers : (number : ℕ) (old : Option Standing) (new : Standing) (bytes : List ℕ) → new.skip ≡ None → delivered_in (change_of number old (Some new) None (Some bytes)) ≡ Some number
delivers number None new bytes e = rw e refl
delivers number (Some old) new bytes e = rw e (either _ number new.entry)

pub newly_held : (before now : List Message) (number : ℕ) (bytes : List ℕ) → bytes_held before number ≡ None → bytes_held now number ≡ Some bytes → delivered_in (change_at before now number) ≡ Some number
newly_held before now number bytes was is =
    let stands = held_in_force now number bytes is in
    rw (stands.1, was, is) (delivers number (standing_of (in_force before) number) stands.0 bytes stands.2)

-- ---- what is among the deliveries

abbrev pub Delivers : ℕ → List ℕ → Type 0
Delivers number numbers = list_any (λ n. eqb n number) numbers ≡ true

has_here : (o : Option ℕ) (here behind : Bool) (place : ℕ) → is_some o ≡ behind → is_some (option_or o (cond here (Some place) None)) ≡ (here || behind)
has_here None true behind place e = refl
has_here None false behind place e = e
has_here (Some n) true behind place e = refl
has_here (Some n) false behind place e = e

pub has_place : (place tag number : ℕ) (numbers : List ℕ) → is_some (last_place_from place tag number (of_component tag numbers)) ≡ list_any (λ n. eqb n number) numbers
has_place place tag number [] = refl
has_place place tag number (n ∷ numbers) =
    rw (eqb_same tag) (has_here (last_place_from (place + 1) tag number (of_component tag numbers)) (eqb n number) (list_any (λ n. eqb n number) numbers) place (has_place (place + 1) tag number numbers))

first_delivers : (number : ℕ) (o : Option Change) (changes : List Change) → delivered_in o ≡ Some number → Delivers number (deliveries_of (cons_option o changes))
first_delivers number None changes e = absurd cc
first_delivers number (Some change) changes e = rw (e, eqb_same number) refl

later_delivers : (number : ℕ) (o : Option Change) (changes : List Change) → Delivers number (deliveries_of changes) → Delivers number (deliveries_of (cons_option o changes))
later_delivers number None changes h = h
later_delivers number (Some change) changes h = at_module (delivered_by change.module change.line) (deliveries_of changes) h
  where
    at_module : (o : Option ℕ) (numbers : List ℕ) → Delivers number numbers → Delivers number (cons_option o numbers)
    at_module None numbers h = h
    at_module (Some n) numbers h = elim (eqb n number) as (λ b. (b || list_any (λ n. eqb n number) numbers) ≡ true) [ true ↦ refl | false ↦ h ]

pub all_deliver : (change : ℕ → Option Change) (number from count : ℕ) → from ≤ number → number < from + count → delivered_in (change number) ≡ Some number
    → Delivers number (deliveries_of (filter_map change (range_with_len from count)))
all_deliver change number from zero low high is = absurd (omega arith)
all_deliver change number from (suc count) low high is =
    by_place (eqb_tells from number) (λ low. all_deliver change number (from + 1) count low (omega arith) is)
  where
    by_place : ((eqb from number ≡ true) × (from ≡ number)) ⊎ ((eqb from number ≡ false) × (from ≢ number))
        → (from + 1 ≤ number → Delivers number (deliveries_of (filter_map change (range_with_len (from + 1) count))))
        → Delivers number (deliveries_of (cons_option (change from) (filter_map change (range_with_len (from + 1) count))))
    by_place (inl same) behind = first_delivers number (change from) (filter_map change (range_with_len (from + 1) count)) (ap (λ n. delivered_in (change n)) same.1 ∙ is)
    by_place (inr differ) behind = later_delivers number (change from) (filter_map change (range_with_len (from + 1) count)) (behind (omega arith))

-- what the changes of a section deliver: each module that is held behind it and wasn't before
pub section_delivers : (before now : List Message) (number : ℕ) → number < number_bound → bytes_held before number ≡ None → is_some (bytes_held now number) ≡ true → Delivers number (deliveries_of (changes before now))
unfolding changes
section_delivers before now number low was is = by_held (bytes_held now number) refl is
  where
    by_held : (o : Option (List ℕ)) → bytes_held now number ≡ o → is_some o ≡ true → Delivers number (deliveries_of (changes_within number_bound before now))
    by_held None e h = absurd cc
    by_held (Some bytes) e h = all_deliver (change_at before now) number 0 number_bound (omega arith) (omega arith) (newly_held before now number bytes was e)
