-- The places of a row, one after another.
use Rattle.std.proofs.Common.{◌≡◌, ℕ, suc, ◌+◌, ◌-◌, ◌<◌, ◌≤◌, List, [], ◌∷◌, ◌++◌, length, take, drop, get_or, Option, Some, None, refl, sym, ap, ◌∙◌, arith, length-append, drop-cons}
use Rattle.std.proofs.Math.ListN.{drop_of_length-le}
use Rattle.std.specs.Prelude.{option_map}
use Rattle.std.proofs.lemmas.List.{append-nil, append_assoc, drop_at, take-append-drop}
use Rattle.std.proofs.lemmas.Option.{same_Some, none-some}
use Rattle.bml_bytes.specs.Fields.{FieldLaws, ◌>>=◌, byte_at, bytes_at, with_left}
use Rattle.binary_table.specs.devices.Places.{behind_bytes, behind_text, places_behind, places_of, rests, with_length}
use Rattle.binary_table.proofs.RowLemmas.{bind_some, option_map-some}

-- bytes end with these
abbrev pub IsEnd : List ℕ → List ℕ → Type 0
IsEnd bytes left = (front : List ℕ) × (bytes ≡ front ++ left)

end-of-end : (bytes left next : List ℕ) → IsEnd bytes left → IsEnd left next → IsEnd bytes next
end-of-end bytes left next h g = (h.0 ++ g.0, h.1 ∙ ap (λ (l : List ℕ). h.0 ++ l) g.1 ∙ sym (append_assoc h.0 g.0 next))

pub end-short : (bytes left : List ℕ) → IsEnd bytes left → length left ≤ length bytes
end-short bytes left h = let l = ap length h.1 in let a = length-append h.0 left in omega arith

pub end-drop : (bytes left : List ℕ) → IsEnd bytes left → drop (length bytes - length left) bytes ≡ left
end-drop bytes left h =
    let l = ap length h.1 in
    let a = length-append h.0 left in
    let n : length h.0 ≡ length bytes - length left = omega arith in
    ap (drop (length bytes - length left)) h.1 ∙ drop_at h.0 left (length bytes - length left) n

-- what is told with a number
pub told : (new : List ℕ) (over : ℕ) (behind : Option (List ℕ)) → with_left (λ over. over) (Some over) new ≡ option_map with_length behind → (behind ≡ Some new) × (over ≡ length new)
told new over None e = absurd (none-some (over, new) (sym e))
told new over (Some next) e =
    let p = same_Some (over, new) (length next, next) e in
    let same : new ≡ next = ap (λ q. q.1) p in
    (ap (λ (l : List ℕ). Some l) (sym same), ap (λ q. q.0) p ∙ ap length (sym same))

pub untold : (new : List ℕ) (behind : Option (List ℕ)) → with_left {X = ℕ} (λ over. over) None new ≡ option_map with_length behind → behind ≡ None
untold new None e = refl
untold new (Some next) e = absurd (none-some (length next, next) e)

module _ (laws : FieldLaws) where
  behind-end : (count : ℕ) (left next : List ℕ) → behind_bytes count left ≡ Some next → IsEnd left next
  behind-end count left next e =
      let read = option_map-some (λ (read : List ℕ × List ℕ). read.1) (bytes_at count left) next e in
      let g = laws.bytes count left read.0 read.1 in
      (read.0.0, g.0 ∙ ap (λ (l : List ℕ). read.0.0 ++ l) read.2)

  text-end : (size : ℕ) (left next : List ℕ) → behind_text size left ≡ Some next → IsEnd left next
  text-end size left next e =
      let skipped = bind_some (behind_bytes size left) (λ next. byte_at next >>= λ count. behind_bytes count.0 count.1) next e in
      let count = bind_some (byte_at skipped.0) (λ count. behind_bytes count.0 count.1) next skipped.2 in
      let one : skipped.0 ≡ (count.0.0 ∷ []) ++ count.0.1 = laws.byte skipped.0 count.0 count.1 in
      end-of-end left skipped.0 next (behind-end size left skipped.0 skipped.1) (end-of-end skipped.0 count.0.1 next (count.0.0 ∷ [], one) (behind-end count.0.0 count.0.1 next count.2))

  pub next-end : (bytes left next : List ℕ) (size : ℕ) → IsEnd bytes left → behind_text size left ≡ Some next → IsEnd bytes next
  next-end bytes left next size h e = end-of-end bytes left next h (text-end size left next e)

  pub last-end : (bytes left next : List ℕ) (count : ℕ) → IsEnd bytes left → behind_bytes count left ≡ Some next → IsEnd bytes next
  last-end bytes left next count h e = end-of-end bytes left next h (behind-end count left next e)

abbrev pub with_places : List (List ℕ) → Option (List (List ℕ) × List ℕ) → Option (List (List ℕ) × List ℕ)
with_places before found = option_map (λ (found : List (List ℕ) × List ℕ). (before ++ found.0, found.1)) found

rests-more : (bytes places : List ℕ) (place : ℕ) → rests bytes (places ++ place ∷ []) ≡ rests bytes places ++ drop place bytes ∷ []
rests-more bytes [] place = refl
rests-more bytes (first ∷ places) place = ap (λ (l : List (List ℕ)). drop first bytes ∷ l) (rests-more bytes places place)

joined : (before : List (List ℕ)) (next : List ℕ) (found : Option (List (List ℕ) × List ℕ))
    → with_places before (option_map (λ (found : List (List ℕ) × List ℕ). (next ∷ found.0, found.1)) found) ≡ with_places (before ++ next ∷ []) found
joined before next None = refl
joined before next (Some found) = ap (λ (l : List (List ℕ)). Some (l, found.1)) (sym (append_assoc before (next ∷ []) found.0))

-- one more place
pub one-more : (tail stretch place : ℕ) (sizes bytes places new left next : List ℕ) (whole : Option (List (List ℕ) × List ℕ))
    → with_places (rests bytes places) (places_behind tail (stretch ∷ sizes) left) ≡ whole → behind_text stretch left ≡ Some next
    → new ≡ places ++ place ∷ [] → drop place bytes ≡ next → with_places (rests bytes new) (places_behind tail sizes next) ≡ whole
one-more tail stretch place sizes bytes places new left next whole e text f d =
    let same : rests bytes new ≡ rests bytes places ++ next ∷ [] = ap (rests bytes) f ∙ rests-more bytes places place ∙ ap (λ (l : List ℕ). rests bytes places ++ l ∷ []) d in
    ap (λ (b : List (List ℕ)). with_places b (places_behind tail sizes next)) same
    ∙ sym (joined (rests bytes places) next (places_behind tail sizes next))
    ∙ ap (λ (found : Option (List ℕ)). with_places (rests bytes places) (found >>= λ next. option_map (λ (found : List (List ℕ) × List ℕ). (next ∷ found.0, found.1)) (places_behind tail sizes next))) (sym text)
    ∙ e

-- a stretch that passes the end
pub no-more : (tail stretch : ℕ) (sizes bytes places left : List ℕ) (whole : Option (List (List ℕ) × List ℕ))
    → with_places (rests bytes places) (places_behind tail (stretch ∷ sizes) left) ≡ whole → behind_text stretch left ≡ None → whole ≡ None
no-more tail stretch sizes bytes places left whole e text =
    sym e ∙ ap (λ (found : Option (List ℕ)). with_places (rests bytes places) (found >>= λ next. option_map (λ (found : List (List ℕ) × List ℕ). (next ∷ found.0, found.1)) (places_behind tail sizes next))) text

-- the end of a row
pub row-end : (tail end : ℕ) (bytes places left next : List ℕ) (whole : Option (List (List ℕ) × List ℕ))
    → with_places (rests bytes places) (places_behind tail [] left) ≡ whole → behind_bytes tail left ≡ Some next → drop end bytes ≡ next
    → Some (rests bytes places, drop end bytes) ≡ whole
row-end tail end bytes places left next whole e read d =
    ap (λ (l : List ℕ). Some (rests bytes places, l)) d
    ∙ ap (λ (l : List (List ℕ)). Some (l, next)) (sym (append-nil (rests bytes places)))
    ∙ ap (λ (found : Option (List ℕ)). with_places (rests bytes places) (option_map (λ (rest : List ℕ). ([], rest)) found)) (sym read) ∙ e

pub no-end : (tail : ℕ) (bytes places left : List ℕ) (whole : Option (List (List ℕ) × List ℕ))
    → with_places (rests bytes places) (places_behind tail [] left) ≡ whole → behind_bytes tail left ≡ None → whole ≡ None
no-end tail bytes places left whole e read =
    sym e ∙ ap (λ (found : Option (List ℕ)). with_places (rests bytes places) (option_map (λ (rest : List ℕ). ([], rest)) found)) read

-- the first place
first-only : (left : List ℕ) (found : Option (List (List ℕ) × List ℕ)) → with_places (left ∷ []) found ≡ option_map (λ (found : List (List ℕ) × List ℕ). (left ∷ found.0, found.1)) found
first-only left None = refl
first-only left (Some found) = refl

pub first-place : (tail : ℕ) (sizes bytes places left : List ℕ) → rests bytes places ≡ left ∷ [] → with_places (rests bytes places) (places_behind tail sizes left) ≡ places_of tail sizes left
first-place tail sizes bytes places left e = ap (λ (b : List (List ℕ)). with_places b (places_behind tail sizes left)) e ∙ first-only left (places_behind tail sizes left)

head-same : (x y : List ℕ) (xs ys : List (List ℕ)) → x ∷ xs ≡ y ∷ ys → x ≡ y
head-same x y xs ys e = cc

pub first-end : (bytes places left : List ℕ) → rests bytes places ≡ left ∷ [] → IsEnd bytes left
first-end bytes [] left e = absurd (cc e)
first-end bytes (place ∷ places) left e =
    let same : drop place bytes ≡ left = head-same (drop place bytes) left (rests bytes places) [] e in
    (take place bytes, sym (take-append-drop place bytes) ∙ ap (λ (l : List ℕ). take place bytes ++ l) same)

-- ---- the same, as the loop has it
pub loop-more : (tail index place stretch : ℕ) (sizes bytes places new left next : List ℕ) (whole : Option (List (List ℕ) × List ℕ))
    → index < length sizes → get_or sizes index 0 ≡ stretch → with_places (rests bytes places) (places_behind tail (drop index sizes) left) ≡ whole
    → behind_text stretch left ≡ Some next → new ≡ places ++ place ∷ [] → drop place bytes ≡ next → with_places (rests bytes new) (places_behind tail (drop (index + 1) sizes) next) ≡ whole
loop-more tail index place stretch sizes bytes places new left next whole h s e text f d =
    let next_index : suc index ≡ index + 1 = omega arith in
    let split : drop index sizes ≡ stretch ∷ drop (index + 1) sizes = drop-cons sizes index 0 h ∙ ap (λ (n : ℕ). get_or sizes index 0 ∷ drop n sizes) next_index ∙ ap (λ (n : ℕ). n ∷ drop (index + 1) sizes) s in
    one-more tail stretch place (drop (index + 1) sizes) bytes places new left next whole (ap (λ (l : List ℕ). with_places (rests bytes places) (places_behind tail l left)) (sym split) ∙ e) text f d

pub loop-over : (tail index : ℕ) (sizes bytes places left : List ℕ) (whole : Option (List (List ℕ) × List ℕ))
    → length sizes ≤ index → with_places (rests bytes places) (places_behind tail (drop index sizes) left) ≡ whole → with_places (rests bytes places) (places_behind tail [] left) ≡ whole
loop-over tail index sizes bytes places left whole h e = ap (λ (l : List ℕ). with_places (rests bytes places) (places_behind tail l left)) (sym (drop_of_length-le sizes h)) ∙ e
