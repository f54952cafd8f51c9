-- The numbers of a component's deliveries in a table.
use Rattle.std.proofs.Common.{◌≡◌, ◌≢◌, ◌∙◌, ℕ, zero, suc, ◌+◌, ◌<◌, ◌⊎◌, true, false, cond, eqb, List, [], ◌∷◌, length, get_or, set, replicate, Some, refl, sym, ap, inl, inr, arith}
use Rattle.std.specs.Prelude.{nat_eq, unwrap_or}
use Rattle.std.specs.List.{enumerate_from}
use Rattle.std.specs.Map.{lookup}
use Rattle.std.proofs.lemmas.Bool.{eq-eqb, ne_eqb}
use Rattle.std.proofs.lemmas.Bool.Decides.{eqb_tells}
use Rattle.std.proofs.lemmas.List.{get_or-set_same, get_or-set_other}
use Rattle.module_store.specs.Standing.{delivery_in}
use Rattle.module_store.specs.Store.{number_at}
use Rattle.module_store.specs.Noted.{HasRoom, IsTable, noted, with_number}
use Rattle.carousel_blocks.specs.Changes.{number_bound}

looked_up : (from place number : ℕ) (table : List ℕ) → from + place ≡ number → unwrap_or (lookup (nat_eq number) (enumerate_from from table)) 0 ≡ get_or table place 0
looked_up from place number [] e = refl
looked_up from zero number (n ∷ table) e =
    let here : nat_eq number from ≡ true = eq-eqb number from (omega arith) in
    ap (λ b. unwrap_or (cond b (Some n) (lookup (nat_eq number) (enumerate_from (from + 1) table))) 0) here
looked_up from (suc place) number (n ∷ table) e =
    let apart : nat_eq number from ≡ false = ne_eqb number from (omega arith) in
    ap (λ b. unwrap_or (cond b (Some n) (lookup (nat_eq number) (enumerate_from (from + 1) table))) 0) apart
    ∙ looked_up (from + 1) place number table (omega arith)

-- the number of a module stands at its place
pub delivery_at : (table : List ℕ) (number : ℕ) → delivery_in (enumerate_from 0 table) number ≡ get_or table number 0
unfolding delivery_in
delivery_at table number = looked_up 0 number number table (omega arith)

pub delivery_set : (table : List ℕ) (place number other : ℕ) → place < length table → delivery_in (enumerate_from 0 (set table place number)) other ≡ with_number place number (delivery_in (enumerate_from 0 table)) other
delivery_set table place number other low = delivery_at (set table place number) other ∙ by_place (eqb_tells other place)
  where
    by_place : ((eqb other place ≡ true) × (other ≡ place)) ⊎ ((eqb other place ≡ false) × (other ≢ place)) → get_or (set table place number) other 0 ≡ with_number place number (delivery_in (enumerate_from 0 table)) other
    by_place (inl same) =
        rw (same.0) (ap (λ k. get_or (set table place number) k 0) same.1 ∙ get_or-set_same table place number 0 low)
    by_place (inr differ) = rw (differ.0) (get_or-set_other table place other number 0 differ.1 ∙ sym (delivery_at table other))

-- numbers that are the same are so behind deliveries
pub noted_alike : (count : ℕ) (numbers : List ℕ) (one other : ℕ → ℕ) → ((number : ℕ) → one number ≡ other number) → (number : ℕ) → noted count numbers one number ≡ noted count numbers other number
noted_alike count [] one other same number = same number
noted_alike count (n ∷ numbers) one other same number =
    noted_alike (number_at (count + 1)) numbers (with_number n (number_at (count + 1)) one) (with_number n (number_at (count + 1)) other)
    (λ k. ap (λ v. cond (eqb k n) (number_at (count + 1)) v) (same k)) number

-- before the first delivery each number is 0
get_or-zeros : (count place : ℕ) → ◌≡◌ {A = ℕ} (get_or (replicate count 0) place 0) 0
get_or-zeros zero place = refl
get_or-zeros (suc count) zero = refl
get_or-zeros (suc count) (suc place) = get_or-zeros count place

pub delivery_zeros : (table zeros : List ℕ) (count : ℕ) → length table ≡ 0 → zeros ≡ replicate count 0 → (number : ℕ) → delivery_in (enumerate_from 0 zeros) number ≡ delivery_in (enumerate_from 0 table) number
delivery_zeros [] zeros count none e number =
    delivery_at zeros number ∙ ap (λ l. get_or l number 0) e ∙ get_or-zeros count number ∙ sym (delivery_at [] number)
delivery_zeros (n ∷ table) zeros count none e number = absurd (omega arith)

length-enumerated : (from : ℕ) (table : List ℕ) → length (enumerate_from from table) ≡ length table
length-enumerated from [] = refl
length-enumerated from (n ∷ table) = ap (λ k. suc k) (length-enumerated (from + 1) table)

pub has_room : (table : List ℕ) → length table ≡ number_bound → HasRoom (enumerate_from 0 table)
has_room table e = length-enumerated 0 table ∙ e

pub room_of : (table : List ℕ) → HasRoom (enumerate_from 0 table) → length table ≡ number_bound
room_of table e = sym (length-enumerated 0 table) ∙ e

pub table_room : (table : List ℕ) → IsTable table → (length table ≡ 0 → ⊥) → HasRoom (enumerate_from 0 table)
table_room table (inl none) some = absurd (some none)
table_room table (inr all) some = has_room table all
