-- What a look at a slot tells, and which of two is the newest.
use Rattle.std.proofs.Common.{◌≡◌, ◌≢◌, ℕ, ◌+◌, ◌<◌, ◌≤◌, List, length, take, drop, get_or, Option, None, Some, Ok, refl, sym, ◌∙◌, ap, arith, eqb}
use Rattle.std.proofs.lemmas.List.{get_or-take, get_or-drop}
use Rattle.std.proofs.lemmas.Bool.{cond-true, cond-false, eq-eqb, ne_eqb}
use Rattle.std.specs.Option.{option_map}
use Rattle.nv_journal.specs.declared.slots.Slot.{Slot}
use Rattle.nv_journal.specs.declared.slots.Slot.TheVariants.{First, Second}
use Rattle.nv_journal.specs.Disks.{DiskContent, Reads, Told}
use Rattle.nv_journal.specs.Slots.{Open, place_of, slot_length, gate_at, after_gate, newer, next_number, number_after}
use Rattle.nv_journal.specs.devices.Stores.{IsNewestOf, LooksAt}
use Rattle.nv_journal.proofs.Parts.{slot-short, slot-shut, slot-open}

-- a byte of a buffer that was filled
filled-byte : (place size count k : ℕ) (into bytes : List ℕ) → k < count → take count into ≡ take count (drop place bytes) → get_or into k 0 ≡ get_or bytes (place + k) 0
filled-byte place size count k into bytes less same =
    sym (get_or-take count into k 0 less) ∙ ap (λ (l : List ℕ). get_or l k 0) same ∙ get_or-take count (drop place bytes) k 0 less ∙ get_or-drop place bytes k 0

look-short : (slot : Slot) (size count : ℕ) (into : List ℕ) (old new : DiskContent) → size ≡ slot_length → Reads (place_of slot) size into (Ok count) old new → (count ≡ slot_length → ⊥) → LooksAt slot (Ok None) old new
look-short slot size count into old new full r less = record {
  step = r.step;
  reads = r.reads;
  images = r.images;
  found = sym (ap (λ (o : Option Open). option_map (λ (s : Open). s.number) o) (slot-short slot old.reads (omega (arith, full, r.given.0, less))));
}

look-shut : (slot : Slot) (size count : ℕ) (into : List ℕ) (old new : DiskContent) → size ≡ slot_length → Reads (place_of slot) size into (Ok count) old new → count ≡ slot_length → get_or into 0 0 ≢ 1 → LooksAt slot (Ok None) old new
look-shut slot size count into old new full r whole shut =
    let zero_on : place_of slot + 0 ≡ place_of slot = omega arith in
    let gate : get_or into 0 0 ≡ gate_at slot old.reads = filled-byte (place_of slot) size count 0 into old.reads (omega (arith, whole)) r.given.1 ∙ ap (λ (n : ℕ). get_or old.reads n 0) zero_on in
    record {
      step = r.step;
      reads = r.reads;
      images = r.images;
      found = sym (ap (λ (o : Option Open). option_map (λ (s : Open). s.number) o) (slot-shut slot old.reads (λ is. shut (gate ∙ is))));
    }

look-open : (slot : Slot) (size count number : ℕ) (into : List ℕ) (old new : DiskContent) → size ≡ slot_length → Reads (place_of slot) size into (Ok count) old new → count ≡ slot_length → get_or into 0 0 ≡ 1 → number ≡ get_or into 1 0 → LooksAt slot (Ok (Some number)) old new
look-open slot size count number into old new full r whole is_open number_is =
    let zero_on : place_of slot + 0 ≡ place_of slot = omega arith in
    let gate : get_or into 0 0 ≡ gate_at slot old.reads = filled-byte (place_of slot) size count 0 into old.reads (omega (arith, whole)) r.given.1 ∙ ap (λ (n : ℕ). get_or old.reads n 0) zero_on in
    let number_at : number ≡ (after_gate slot old.reads).number = number_is ∙ filled-byte (place_of slot) size count 1 into old.reads (omega (arith, whole)) r.given.1 in
    let long : place_of slot + slot_length ≤ length old.reads = omega (arith, full, r.given.0, whole) in
    record {
      step = r.step;
      reads = r.reads;
      images = r.images;
      found = ap (λ (n : ℕ). Some n) number_at ∙ sym (ap (λ (o : Option Open). option_map (λ (s : Open). s.number) o) (slot-open slot old.reads long (sym gate ∙ is_open)));
    }

pub told-short : (slot : Slot) (size count : ℕ) (into : List ℕ) (o p : Option DiskContent) → size ≡ slot_length → Told (Reads (place_of slot) size into (Ok count)) o p → (count ≡ slot_length → ⊥) → Told (LooksAt slot (Ok None)) o p
told-short slot size count into None None full r less = tt
told-short slot size count into None (Some new) full r less = absurd r
told-short slot size count into (Some old) None full r less = absurd r
told-short slot size count into (Some old) (Some new) full r less = look-short slot size count into old new full r less

pub told-shut : (slot : Slot) (size count : ℕ) (into : List ℕ) (o p : Option DiskContent) → size ≡ slot_length → Told (Reads (place_of slot) size into (Ok count)) o p → count ≡ slot_length → get_or into 0 0 ≢ 1 → Told (LooksAt slot (Ok None)) o p
told-shut slot size count into None None full r whole shut = tt
told-shut slot size count into None (Some new) full r whole shut = absurd r
told-shut slot size count into (Some old) None full r whole shut = absurd r
told-shut slot size count into (Some old) (Some new) full r whole shut = look-shut slot size count into old new full r whole shut

pub told-open : (slot : Slot) (size count number : ℕ) (into : List ℕ) (o p : Option DiskContent) → size ≡ slot_length → Told (Reads (place_of slot) size into (Ok count)) o p → count ≡ slot_length → get_or into 0 0 ≡ 1 → number ≡ get_or into 1 0 → Told (LooksAt slot (Ok (Some number))) o p
told-open slot size count number into None None full r whole is_open number_is = tt
told-open slot size count number into None (Some new) full r whole is_open number_is = absurd r
told-open slot size count number into (Some old) None full r whole is_open number_is = absurd r
told-open slot size count number into (Some old) (Some new) full r whole is_open number_is = look-open slot size count number into old new full r whole is_open number_is

-- ---- which is the newest

pub with-none : (due : ℕ) (f : Open) (s : Option Open) → due ≡ next_number f.number → None ≡ option_map (λ (o : Open). o.number) s → IsNewestOf (record { newest = Some First; number = due }) (Some f) s
unfolding newer
with-none due f None is none = record { slot = (refl, refl); number = is }
with-none due f (Some s) is none = absurd (cc)

pub with-both : (due number : ℕ) (f : Open) (s : Option Open) → due ≡ next_number f.number → Some number ≡ option_map (λ (o : Open). o.number) s → (number ≡ due → ⊥) → IsNewestOf (record { newest = Some First; number = due }) (Some f) s
unfolding newer
with-both due number f None is some other_number = absurd (cc)
with-both due number f (Some s) is some other_number =
    let same : number ≡ s.number = cc in
    let first : newer (Some f) (Some s) ≡ Some f = cond-false (eqb s.number (next_number f.number)) (Some s) (Some f) (ne_eqb s.number (next_number f.number) (λ e. other_number (same ∙ e ∙ sym is))) in
    record { slot = (first, refl); number = is ∙ ap number_after (sym first) }

pub with-follows : (due number behind : ℕ) (f : Open) (s : Option Open) → due ≡ next_number f.number → Some number ≡ option_map (λ (o : Open). o.number) s → number ≡ due → behind ≡ next_number number → IsNewestOf (record { newest = Some Second; number = behind }) (Some f) s
unfolding newer
with-follows due number behind f None is some follows then = absurd (cc)
with-follows due number behind f (Some s) is some follows then =
    let same : number ≡ s.number = cc in
    let second : newer (Some f) (Some s) ≡ Some s = cond-true (eqb s.number (next_number f.number)) (Some s) (Some f) (eq-eqb s.number (next_number f.number) (sym same ∙ follows ∙ is)) in
    record { slot = (second, refl); number = then ∙ ap next_number same ∙ ap number_after (sym second) }

pub without-any : (f s : Option Open) → None ≡ option_map (λ (o : Open). o.number) f → None ≡ option_map (λ (o : Open). o.number) s → IsNewestOf (record { newest = None; number = 0 }) f s
unfolding newer
without-any None None a b = record { slot = refl; number = refl }
without-any None (Some s) a b = absurd (cc)
without-any (Some f) s a b = absurd (cc)

pub with-second : (number behind : ℕ) (f s : Option Open) → None ≡ option_map (λ (o : Open). o.number) f → Some number ≡ option_map (λ (o : Open). o.number) s → behind ≡ next_number number → IsNewestOf (record { newest = Some Second; number = behind }) f s
unfolding newer
with-second number behind None None a b then = absurd (cc)
with-second number behind None (Some s) a b then = let same : number ≡ s.number = cc in record { slot = (refl, refl); number = then ∙ ap next_number same }
with-second number behind (Some f) s a b then = absurd (cc)
