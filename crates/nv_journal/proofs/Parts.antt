-- The slots of an image of which one was written.
use Rattle.std.proofs.Common.{◌≡◌, ◌≢◌, ℕ, ◌+◌, ◌<◌, ◌≤◌, ◌↔◌, Bool, true, false, cond, List, length, take, drop, get_or, Option, None, Some, refl, sym, ◌∙◌, ap, inl, inr, arith, length-drop, eqb, leb}
use Rattle.std.proofs.lemmas.List.{ext_get_or, length-take, get_or-take, get_or-drop}
use Rattle.std.proofs.lemmas.Bool.{cases_eq, cases_lt, le-leb, lt-leb, eq-eqb, ne_eqb, cond-true, cond-false}
use Rattle.nv_journal.specs.declared.slots.Slot.{Slot}
use Rattle.nv_journal.specs.declared.slots.Slot.TheVariants.{First, Second}
use Rattle.bml_bytes.specs.Areas.{area_length}
use Rattle.nv_journal.specs.Slots.{Open, place_of, slot_length, other, gate_at, after_gate, IsWhole, slot_at}
use Rattle.nv_journal.proofs.Torn.{Torn}

-- the same bytes from one place to another
pub same-part : (place size : ℕ) (x y : List ℕ) → place + size ≤ length x → place + size ≤ length y → ((k : ℕ) → place ≤ k → k < place + size → get_or y k 0 ≡ get_or x k 0)
    → take size (drop place y) ≡ take size (drop place x)
same-part place size x y in_x in_y same =
    ext_get_or 0 (take size (drop place y)) (take size (drop place x)) (omega (arith, length-take size (drop place y), length-take size (drop place x), length-drop place x, length-drop place y))
    (λ i within. let less : i < size = omega (arith, length-take size (drop place y)) in
    get_or-take size (drop place y) i 0 less ∙ get_or-drop place y i 0 ∙ same (place + i) (omega arith) (omega arith) ∙ sym (get_or-drop place x i 0) ∙ sym (get_or-take size (drop place x) i 0 less))

pub slot-short : (slot : Slot) (x : List ℕ) → length x < place_of slot + slot_length → slot_at slot x ≡ None
unfolding slot_at
slot-short slot x short = cond-false (leb (place_of slot + slot_length) (length x)) (cond (eqb (gate_at slot x) 1) (Some (after_gate slot x)) None) None (lt-leb (place_of slot + slot_length) (length x) short)

pub slot-shut : (slot : Slot) (x : List ℕ) → gate_at slot x ≢ 1 → slot_at slot x ≡ None
unfolding slot_at
slot-shut slot x shut =
    let inner : cond (eqb (gate_at slot x) 1) (Some (after_gate slot x)) None ≡ None = cond-false (eqb (gate_at slot x) 1) (Some (after_gate slot x)) None (ne_eqb (gate_at slot x) 1 shut) in
    ap (λ (o : Option Open). cond (leb (place_of slot + slot_length) (length x)) o None) inner ∙ both (leb (place_of slot + slot_length) (length x))
  where
    both : (b : Bool) → cond {A = Option Open} b None None ≡ None
    both true = refl
    both false = refl

pub slot-open : (slot : Slot) (x : List ℕ) → IsWhole slot x → gate_at slot x ≡ 1 → slot_at slot x ≡ Some (after_gate slot x)
unfolding slot_at
slot-open slot x whole gate =
    cond-true (leb (place_of slot + slot_length) (length x)) (cond (eqb (gate_at slot x) 1) (Some (after_gate slot x)) None) None (le-leb (place_of slot + slot_length) (length x) whole)
    ∙ cond-true (eqb (gate_at slot x) 1) (Some (after_gate slot x)) None (eq-eqb (gate_at slot x) 1 gate)

-- the same number and area stand behind the gate
pub same-behind : (slot : Slot) (x y : List ℕ) → IsWhole slot x → IsWhole slot y → ((k : ℕ) → place_of slot + 1 ≤ k → k < place_of slot + slot_length → get_or y k 0 ≡ get_or x k 0) → after_gate slot y ≡ after_gate slot x
same-behind slot x y in_x in_y same =
    let number = same (place_of slot + 1) (omega arith) (omega arith) in
    let area = same-part (place_of slot + 2) area_length x y (omega arith) (omega arith) (λ k low high. same k (omega arith) (omega arith)) in
    λ i. record { number = number i; area = area i }

-- a slot whose bytes are the same
pub same-slot : (slot : Slot) (x y : List ℕ) → IsWhole slot x ↔ IsWhole slot y → ((k : ℕ) → IsWhole slot x → place_of slot ≤ k → k < place_of slot + slot_length → get_or y k 0 ≡ get_or x k 0) → slot_at slot y ≡ slot_at slot x
same-slot slot x y whole same = elim (cases_lt (length x) (place_of slot + slot_length)) [
  | inl short ↦ slot-short slot y (elim (cases_lt (length y) (place_of slot + slot_length)) [ inl less ↦ less | inr long ↦ absurd (omega (arith, short, whole.1 long)) ]) ∙ sym (slot-short slot x short)
  | inr long ↦
      let gates : gate_at slot y ≡ gate_at slot x = same (place_of slot) long (omega arith) (omega arith) in
      elim (cases_eq (gate_at slot x) 1) [
        | inl open_gate ↦
            slot-open slot y (whole.0 long) (gates ∙ open_gate) ∙ ap (λ (o : Open). Some o) (same-behind slot x y long (whole.0 long) (λ k low high. same k long (omega arith) high)) ∙ sym (slot-open slot x long open_gate)
        | inr shut ↦ slot-shut slot y (λ is. shut (sym gates ∙ is)) ∙ sym (slot-shut slot x shut)
      ]
]

-- a write within one slot leaves the other
pub other-same : (slot : Slot) (place size : ℕ) (x y : List ℕ) → place_of slot ≤ place → place + size ≤ place_of slot + slot_length → place ≤ length x → Torn place size x y → slot_at (other slot) y ≡ slot_at (other slot) x
other-same First place size x y from to within t = same-slot Second x y (λ whole. omega (arith, t.no_shorter), λ whole. omega (arith, t.no_longer)) (λ k whole low high. t.above k (omega arith) (omega arith))
other-same Second place size x y from to within t = same-slot First x y (λ whole. omega (arith, t.no_shorter), λ whole. omega (arith, t.no_longer)) (λ k whole low high. t.below k (omega arith) (omega arith))
