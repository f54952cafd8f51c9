-- The parts of a text: joined with the separator they give the text, and none of them holds it.
use Rattle.std.proofs.Common.{◌≡◌, ℕ, zero, suc, ◌+◌, ◌-◌, ◌<◌, ◌≤◌, Bool, true, false, List, [], ◌∷◌, ◌++◌, length, take, drop, map, refl, sym, ◌∙◌, ap, subst, arith, length-append, length-drop, append_assoc, ⊎_elim}
use Rattle.std.specs.Prelude.{nat_le, filter, if◌then◌else◌, Option, Some, None, All}
use Rattle.std.specs.Cmp.Lexicographic.{bytes_decides}
use Rattle.std.specs.List.{find, flat_map, range_with_len}
use Rattle.std.proofs.lemmas.Bool.{cases_lt}
use Rattle.std.proofs.lemmas.Bool.Decides.{nat_tests}
use Rattle.std.proofs.lemmas.List.{append-nil, drop-drop, length-take, take-append-drop}
use Rattle.std.proofs.lemmas.List.Elements.{All-cons, All-nil}
use Rattle.std.proofs.Math.Seq.{take-append_seam}
use Rattle.es_builtins.specs.Splitting.{joined_by}
use Rattle.es_builtins.specs.Texts.{first_place, parts_within, split, stands_at}
use Rattle.es_builtins.proofs.PartLemmas.{parts-none, parts-some, place-stands, place-within}

-- A text that stands at a place

stands-drop : (wanted text : List ℕ) (place : ℕ) → stands_at wanted text place ≡ true → drop place text ≡ wanted ++ drop (place + length wanted) text
stands-drop wanted text place h =
    let front : wanted ≡ take (length wanted) (drop place text) = (bytes_decides wanted (take (length wanted) (drop place text))).0 h in
    sym (take-append-drop (length wanted) (drop place text))
    ∙ (ap (λ (l : List ℕ). l ++ drop (length wanted) (drop place text)) (sym front)
    ∙ ap (λ (l : List ℕ). wanted ++ l) (drop-drop (length wanted) place text))

drop-stands : (wanted text more : List ℕ) (place : ℕ) → drop place text ≡ wanted ++ more → stands_at wanted text place ≡ true
drop-stands wanted text more place h =
    let front : wanted ≡ take (length wanted) (drop place text) = sym (ap (take (length wanted)) h ∙ take-append_seam wanted more) in
    (bytes_decides wanted (take (length wanted) (drop place text))).1 front

stands-fits : (wanted text : List ℕ) (place : ℕ) → 0 < length wanted → stands_at wanted text place ≡ true → place + length wanted ≤ length text
stands-fits wanted text place some h =
    let size : length (drop place text) ≡ length text - place = length-drop place text in
    let parts : length (drop place text) ≡ length wanted + length (drop (place + length wanted) text) = ap length (stands-drop wanted text place h) ∙ length-append wanted (drop (place + length wanted) text) in
    omega (arith, some, size, parts)

drop-front : (j : ℕ) (xs ys : List ℕ) → j ≤ length xs → drop j (xs ++ ys) ≡ drop j xs ++ ys
drop-front zero xs ys h = refl
drop-front (suc j) [] ys h = let e : suc j ≤ 0 = h in absurd (omega arith)
drop-front (suc j) (x ∷ xs) ys h = drop-front j xs ys (omega arith)

-- Where a first place is, and where none

from-zero : (x : ℕ) → nat_le 0 x ≡ true
from-zero x = grind (arith, nat_tests)

found-first : (x : ℕ) (xs : List ℕ) → find (nat_le 0) (x ∷ xs) ≡ Some x
found-first x xs = ap (λ t. if t then Some x else find (nat_le 0) xs) (from-zero x)

none-passes : (p : ℕ → Bool) (from n : ℕ) → find (nat_le 0) (filter p (range_with_len from n)) ≡ None → (j : ℕ) → from ≤ j → j < from + n → p j ≡ false
none-passes p from zero h j low high = absurd (omega arith)
none-passes p from (suc n) h j low high = by (p from) refl h (λ k next. none-passes p (from + 1) n k j next (omega arith))
  where
    more : List ℕ
    more = filter p (range_with_len (from + 1) n)

    by : (t : Bool) → p from ≡ t → find (nat_le 0) (if t then from ∷ more else more) ≡ None → (find (nat_le 0) more ≡ None → from + 1 ≤ j → p j ≡ false) → p j ≡ false
    by true e k rest = absurd (cc (sym (found-first from more) ∙ k))
    by false e k rest = ⊎_elim
        (λ (behind : from < j). rest k (omega arith))
        (λ (here : j ≤ from). let same : from ≡ j = omega arith in ap p (sym same) ∙ e)
        (cases_lt from j)

first-before : (p : ℕ → Bool) (from n place : ℕ) → find (nat_le 0) (filter p (range_with_len from n)) ≡ Some place → (j : ℕ) → from ≤ j → j < place → p j ≡ false
first-before p from zero place h j low high = absurd (cc h)
first-before p from (suc n) place h j low high = by (p from) refl h (λ k next. first-before p (from + 1) n place k j next high)
  where
    more : List ℕ
    more = filter p (range_with_len (from + 1) n)

    by : (t : Bool) → p from ≡ t → find (nat_le 0) (if t then from ∷ more else more) ≡ Some place → (find (nat_le 0) more ≡ Some place → from + 1 ≤ j → p j ≡ false) → p j ≡ false
    by true e k rest = let same : from ≡ place = cc (sym (found-first from more) ∙ k) in absurd (omega arith)
    by false e k rest = ⊎_elim
        (λ (behind : from < j). rest k (omega arith))
        (λ (here : j ≤ from). let same : from ≡ j = omega arith in ap p (sym same) ∙ e)
        (cases_lt from j)

nowhere : (wanted text : List ℕ) → 0 < length wanted → first_place wanted text 0 ≡ None → (place : ℕ) → stands_at wanted text place ≡ false
unfolding first_place
nowhere wanted text some h place = by (stands_at wanted text place) refl
  where
    by : (t : Bool) → stands_at wanted text place ≡ t → stands_at wanted text place ≡ false
    by true e =
        let fits = stands-fits wanted text place some e in
        none-passes (stands_at wanted text) 0 (suc (length text)) h place (omega arith) (omega (arith, fits))
    by false e = e

not-before : (wanted text : List ℕ) (place : ℕ) → first_place wanted text 0 ≡ Some place → (j : ℕ) → j < place → stands_at wanted text j ≡ false
unfolding first_place
not-before wanted text place h j below = first-before (stands_at wanted text) 0 (suc (length text)) place h j (omega arith) below

-- what stands in front of the first place
nowhere-front : (wanted text : List ℕ) (place : ℕ) → 0 < length wanted → first_place wanted text 0 ≡ Some place → (j : ℕ) → stands_at wanted (take place text) j ≡ false
nowhere-front wanted text place some h j = by (stands_at wanted (take place text) j) refl
  where
    front : List ℕ
    front = take place text

    by : (t : Bool) → stands_at wanted front j ≡ t → stands_at wanted front j ≡ false
    by true e =
        let fits : j + length wanted ≤ length front = stands-fits wanted front j some e in
        let short = length-take place text in
        let whole : text ≡ front ++ drop place text = sym (take-append-drop place text) in
        let there : drop j text ≡ wanted ++ (drop (j + length wanted) front ++ drop place text) =
        ap (drop j) whole
        ∙ (drop-front j front (drop place text) (omega (arith, fits))
        ∙ (ap (λ (l : List ℕ). l ++ drop place text) (stands-drop wanted front j e)
        ∙ append_assoc wanted (drop (j + length wanted) front) (drop place text))) in
        let stands = drop-stands wanted text (drop (j + length wanted) front ++ drop place text) j there in
        absurd (cc (sym (not-before wanted text place h j (omega (arith, fits, short, some))) ∙ stands))
    by false e = e

-- Parts

parts-some_first : (more : ℕ) (separator text : List ℕ) → (part : List ℕ) × (parts : List (List ℕ)) × (parts_within more separator text ≡ part ∷ parts)
unfolding parts_within
parts-some_first zero separator text = (text, [], refl)
parts-some_first (suc more) separator text = by (first_place separator text 0) refl
  where
    by : (o : Option ℕ) → first_place separator text 0 ≡ o → (part : List ℕ) × (parts : List (List ℕ)) × (parts_within (suc more) separator text ≡ part ∷ parts)
    by None e = (text, [], parts-none (suc more) separator text e)
    by (Some place) e = (take place text, parts_within more separator (drop (place + length separator) text), parts-some more separator text place e)

abbrev behind : List ℕ → List (List ℕ) → List ℕ
behind separator parts = flat_map (λ other. separator ++ other) parts

behind-joined : (more : ℕ) (separator text : List ℕ) → behind separator (parts_within more separator text) ≡ separator ++ joined_by separator (parts_within more separator text)
behind-joined more separator text =
    let shape = parts-some_first more separator text in
    ap (behind separator) shape.2
    ∙ (append_assoc separator shape.0 (behind separator shape.1)
    ∙ ap (λ (l : List (List ℕ)). separator ++ joined_by separator l) (sym shape.2))

joined-parts : (more : ℕ) (separator text : List ℕ) → joined_by separator (parts_within more separator text) ≡ text
unfolding parts_within
joined-parts zero separator text = append-nil text
joined-parts (suc more) separator text = by (first_place separator text 0) refl (λ place. joined-parts more separator (drop (place + length separator) text))
  where
    by : (o : Option ℕ) → first_place separator text 0 ≡ o → ((place : ℕ) → joined_by separator (parts_within more separator (drop (place + length separator) text)) ≡ drop (place + length separator) text) → joined_by separator (parts_within (suc more) separator text) ≡ text
    by None e rest = ap (joined_by separator) (parts-none (suc more) separator text e) ∙ append-nil text
    by (Some place) e rest =
        let left = drop (place + length separator) text in
        ap (joined_by separator) (parts-some more separator text place e)
        ∙ (ap (λ (l : List ℕ). take place text ++ l) (behind-joined more separator left ∙ ap (λ (l : List ℕ). separator ++ l) (rest place))
        ∙ (ap (λ (l : List ℕ). take place text ++ l) (sym (stands-drop separator text place (place-stands separator text place e)))
        ∙ take-append-drop place text))

-- the separator stands nowhere in the part
abbrev IsApart : List ℕ → List ℕ → Type 0
IsApart separator part = (place : ℕ) → stands_at separator part place ≡ false

whole-apart : (more : ℕ) (separator text : List ℕ) → 0 < length separator → first_place separator text 0 ≡ None → All (IsApart separator) (parts_within more separator text)
whole-apart more separator text some e = subst (All (IsApart separator)) (sym (parts-none more separator text e)) (All-cons (IsApart separator) text [] (nowhere separator text some e) (All-nil (IsApart separator)))

parts-apart : (more : ℕ) (separator text : List ℕ) → 0 < length separator → length text ≤ more → All (IsApart separator) (parts_within more separator text)
parts-apart zero separator text some fits = by (first_place separator text 0) refl
  where
    by : (o : Option ℕ) → first_place separator text 0 ≡ o → All (IsApart separator) (parts_within zero separator text)
    by None e = whole-apart zero separator text some e
    by (Some place) e = absurd (omega (arith, fits, some, place-within separator text place some e))
parts-apart (suc more) separator text some fits = by (first_place separator text 0) refl (λ place less. parts-apart more separator (drop (place + length separator) text) some less)
  where
    by : (o : Option ℕ) → first_place separator text 0 ≡ o → ((place : ℕ) → length (drop (place + length separator) text) ≤ more → All (IsApart separator) (parts_within more separator (drop (place + length separator) text))) → All (IsApart separator) (parts_within (suc more) separator text)
    by None e rest = whole-apart (suc more) separator text some e
    by (Some place) e rest =
        let size : length (drop (place + length separator) text) ≡ length text - (place + length separator) = length-drop (place + length separator) text in
        let within = place-within separator text place some e in
        subst (All (IsApart separator)) (sym (parts-some more separator text place e))
        (All-cons (IsApart separator) (take place text) (parts_within more separator (drop (place + length separator) text)) (nowhere-front separator text place some e)
        (rest place (omega (arith, fits, some, size, within))))

-- Codes

behind-codes : (codes : List ℕ) → behind [] (map (λ code. code ∷ []) codes) ≡ codes
behind-codes [] = refl
behind-codes (code ∷ codes) = ap (λ (l : List ℕ). code ∷ l) (behind-codes codes)

joined-codes : (codes : List ℕ) → joined_by [] (map (λ code. code ∷ []) codes) ≡ codes
joined-codes [] = refl
joined-codes (code ∷ codes) = ap (λ (l : List ℕ). code ∷ l) (behind-codes codes)

pub split-joined : (text separator : List ℕ) → joined_by separator (split text (Some separator)) ≡ text
unfolding split
split-joined text [] = joined-codes text
split-joined text (x ∷ xs) = joined-parts (length text) (x ∷ xs) text

pub split-apart : (text separator : List ℕ) → 0 < length separator → All (λ part. (place : ℕ) → stands_at separator part place ≡ false) (split text (Some separator))
unfolding split
split-apart text [] some = let e : 0 < 0 = some in absurd (omega arith)
split-apart text (x ∷ xs) some = parts-apart (length text) (x ∷ xs) text some (omega arith)
