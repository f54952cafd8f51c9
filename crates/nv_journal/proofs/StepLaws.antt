-- What the calls of a step leave at each moment, and what the steps have done at their end.
use Rattle.std.proofs.Common.{◌≡◌, ◌≢◌, ℕ, ◌+◌, ◌≤◌, ◌⊎◌, List, length, Option, None, Some, refl, sym, ◌∙◌, ap, inl, inr, arith, eqb}
use Rattle.std.proofs.lemmas.Bool.{cases_eq, cases_lt, eq-eqb, ne_eqb, cond-true, cond-false}
use Rattle.nv_journal.specs.declared.slots.Slot.{Slot}
use Rattle.nv_journal.specs.declared.slots.Slot.TheVariants.{First, Second}
use Rattle.bml_bytes.specs.Areas.{area_length}
use Rattle.nv_journal.specs.Slots.{Open, place_of, slot_length, other, gate_at, after_gate, next_number, number_after, IsWhole, slot_at, newer, newest, IsSpare, IsShut}
use Rattle.nv_journal.proofs.Torn.{Torn}
use Rattle.nv_journal.proofs.Parts.{slot-short, slot-shut, slot-open, same-behind, other-same}

-- ---- the newest of two slots

pub newer-none_first : (second : Option Open) → newer None second ≡ second
unfolding newer
newer-none_first second = refl

newer-none_second : (first : Option Open) → newer first None ≡ first
unfolding newer
newer-none_second None = refl
newer-none_second (Some first) = refl

newer-follows : (first second : Open) → second.number ≡ next_number first.number → newer (Some first) (Some second) ≡ Some second
unfolding newer
newer-follows first second follows = cond-true (eqb second.number (next_number first.number)) (Some second) (Some first) (eq-eqb second.number (next_number first.number) follows)

newer-stays : (first second : Open) → (second.number ≡ next_number first.number → ⊥) → newer (Some first) (Some second) ≡ Some first
unfolding newer
newer-stays first second other_number = cond-false (eqb second.number (next_number first.number)) (Some second) (Some first) (ne_eqb second.number (next_number first.number) other_number)

-- two on, modulo 3, is another number, whatever byte it was
two_on : (n : ℕ) → n ≡ next_number (next_number n) → ⊥
two_on n same = omega arith

-- with this slot shut or as it was, a spare slot changes nothing
spare-newest : (slot : Slot) (x y : List ℕ) → IsSpare slot x → slot_at (other slot) y ≡ slot_at (other slot) x → (slot_at slot y ≡ None) ⊎ (slot_at slot y ≡ slot_at slot x) → newest y ≡ newest x
spare-newest First x y spare same (inl none) = ap (λ (o : Option Open). newer o (slot_at Second y)) none ∙ newer-none_first (slot_at Second y) ∙ same ∙ sym spare
spare-newest First x y spare same (inr as_it_was) = λ i. newer (as_it_was i) (same i)
spare-newest Second x y spare same (inl none) = ap (λ (o : Option Open). newer (slot_at First y) o) none ∙ newer-none_second (slot_at First y) ∙ same ∙ sym spare
spare-newest Second x y spare same (inr as_it_was) = λ i. newer (same i) (as_it_was i)

shut-spare : (slot : Slot) (x : List ℕ) → slot_at slot x ≡ None → IsSpare slot x
shut-spare First x none = ap (λ (o : Option Open). newer o (slot_at Second x)) none ∙ newer-none_first (slot_at Second x)
shut-spare Second x none = ap (λ (o : Option Open). newer (slot_at First x) o) none ∙ newer-none_second (slot_at First x)

-- a slot with the number that is due is the newest
due-first : (new : Open) (second : Option Open) → new.number ≡ number_after second → newer (Some new) second ≡ Some new
due-first new None due = newer-none_second (Some new)
due-first new (Some second) due = newer-stays new second (λ same. two_on second.number (same ∙ ap next_number due))

due-second : (first : Option Open) (new : Open) → new.number ≡ number_after first → newer first (Some new) ≡ Some new
due-second None new due = newer-none_first (Some new)
due-second (Some first) new due = newer-follows first new due

due-newest : (slot : Slot) (y : List ℕ) (new : Open) → slot_at slot y ≡ Some new → new.number ≡ number_after (slot_at (other slot) y) → newest y ≡ Some new
due-newest First y new is due = ap (λ (o : Option Open). newer o (slot_at Second y)) is ∙ due-first new (slot_at Second y) due
due-newest Second y new is due = ap (λ (o : Option Open). newer (slot_at First y) o) is ∙ due-second (slot_at First y) new due

-- ---- what one write leaves

pub torn-close : (slot : Slot) (x y : List ℕ) → IsSpare slot x → place_of slot ≤ length x → (IsShut slot x → ⊥) → Torn (place_of slot) 1 x y → newest y ≡ newest x
torn-close slot x y spare within not_shut t = spare-newest slot x y spare (other-same slot (place_of slot) 1 x y (omega arith) (omega arith) within t) own
  where
    own : (slot_at slot y ≡ None) ⊎ (slot_at slot y ≡ slot_at slot x)
    own = elim (cases_lt (length y) (place_of slot + slot_length)) [
      | inl short ↦ inl (slot-short slot y short)
      | inr long ↦ elim (cases_eq (gate_at slot y) 1) [
        | inr shut ↦ inl (slot-shut slot y shut)
        | inl is_open ↦
            let whole : IsWhole slot x = omega (arith, t.no_longer, long) in
            elim (cases_eq (gate_at slot x) 1) [
              | inr shut ↦ absurd (not_shut (record { within = omega (arith, whole); gate = shut }))
              | inl was_open ↦ inr (slot-open slot y long is_open ∙ ap (λ (o : Open). Some o) (same-behind slot x y whole long (λ k low high. t.above k (omega (arith, whole)) low)) ∙ sym (slot-open slot x whole was_open))
            ]
      ]
    ]

pub same-gate : (slot : Slot) (size : ℕ) (x y : List ℕ) → IsShut slot x → Torn (place_of slot + 1) size x y → gate_at slot y ≢ 1
same-gate slot size x y shut t is = shut.gate (sym (t.below (place_of slot) shut.within (omega arith)) ∙ is)

pub torn-fill : (slot : Slot) (x y : List ℕ) → IsShut slot x → Torn (place_of slot + 1) (1 + area_length) x y → newest y ≡ newest x
torn-fill slot x y shut t =
    spare-newest slot x y (shut-spare slot x (slot-shut slot x shut.gate)) (other-same slot (place_of slot + 1) (1 + area_length) x y (omega arith) (omega arith) (omega (arith, shut.within)) t) (inl (slot-shut slot y (same-gate slot (1 + area_length) x y shut t)))

pub opened-slot : (slot : Slot) (x y : List ℕ) → IsWhole slot x → Torn (place_of slot) 1 x y → gate_at slot y ≡ 1 → slot_at slot y ≡ Some (after_gate slot x)
opened-slot slot x y whole t is_open =
    let long : IsWhole slot y = omega (arith, t.no_shorter, whole) in
    slot-open slot y long is_open ∙ ap (λ (o : Open). Some o) (same-behind slot x y whole long (λ k low high. t.above k (omega (arith, whole)) low))

pub opened-newest : (slot : Slot) (x y : List ℕ) → IsShut slot x → IsWhole slot x → (after_gate slot x).number ≡ number_after (newest x) → Torn (place_of slot) 1 x y → gate_at slot y ≡ 1 → newest y ≡ Some (after_gate slot x)
opened-newest slot x y shut whole due t is_open =
    let same = other-same slot (place_of slot) 1 x y (omega arith) (omega arith) (omega (arith, shut.within)) t in
    let own = opened-slot slot x y whole t is_open in
    due-newest slot y (after_gate slot x) own (due ∙ ap number_after (shut-spare slot x (slot-shut slot x shut.gate) ∙ sym same))

pub torn-open : (slot : Slot) (x y : List ℕ) → IsShut slot x → IsWhole slot x → (after_gate slot x).number ≡ number_after (newest x) → Torn (place_of slot) 1 x y → (newest y ≡ newest x) ⊎ (newest y ≡ Some (after_gate slot x))
torn-open slot x y shut whole due t = elim (cases_eq (gate_at slot y) 1) [
  | inl is_open ↦ inr (opened-newest slot x y shut whole due t is_open)
  | inr still_shut ↦ inl (spare-newest slot x y (shut-spare slot x (slot-shut slot x shut.gate)) (other-same slot (place_of slot) 1 x y (omega arith) (omega arith) (omega (arith, shut.within)) t) (inl (slot-shut slot y still_shut)))
]
