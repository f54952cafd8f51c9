-- Fronts of a text at the places of another.
use Rattle.std.proofs.Common.{◌≡◌, ℕ, zero, suc, ◌+◌, ◌-◌, ◌<◌, ◌≤◌, Bool, true, false, List, [], ◌∷◌, ◌++◌, length, drop, refl, sym, ◌∙◌, ap, subst, arith, length-drop}
use Rattle.std.specs.Prelude.{nat_eq, nat_lt, if◌then◌else◌, ◌&&◌, slice_index}
use Rattle.std.proofs.lemmas.Bool.Decides.{nat_tests}
use Rattle.std.specs.Prelude.{Some, None}
use Rattle.std.specs.List.{starts_with}
use Rattle.std.proofs.lemmas.List.{drop-drop, drop_all, get_or_append_left, get_or_push, length_push}
use Rattle.es_builtins.specs.declared.separators.Window.{Window}
use Rattle.es_builtins.proofs.PlaceLemmas.{first_place-found, first_place-next, first_place-past}
use Rattle.es_builtins.specs.Fronts.{AreFronts, IsWindow, common_front, front_at}
use Rattle.es_builtins.specs.Texts.{first_place, stands_at}

-- ---- codes in common

eq-is : (x y : ℕ) → nat_eq x y ≡ true → x ≡ y
eq-is x y e = grind (arith, nat_tests)

nat_eq-true : (a b : ℕ) → a ≡ b → nat_eq a b ≡ true
nat_eq-true a b e = grind (arith, nat_tests)

nat_eq-false : (a b : ℕ) → ¬ (a ≡ b) → nat_eq a b ≡ false
nat_eq-false a b e = grind (arith, nat_tests)

eq-self : (x : ℕ) → nat_eq x x ≡ true
eq-self x = grind (arith, nat_tests)

common-le : (xs ys : List ℕ) → common_front xs ys ≤ length xs
common-le [] ys = omega arith
common-le (x ∷ xs) [] = omega arith
common-le (x ∷ xs) (y ∷ ys) = by (nat_eq x y) (common-le xs ys)
  where
    by : (t : Bool) → common_front xs ys ≤ length xs → (if t then 1 + common_front xs ys else 0) ≤ suc (length xs)
    by true h = omega arith
    by false h = omega arith

pub common-le_other : (xs ys : List ℕ) → common_front xs ys ≤ length ys
common-le_other [] ys = omega arith
common-le_other (x ∷ xs) [] = omega arith
common-le_other (x ∷ xs) (y ∷ ys) = by (nat_eq x y) (common-le_other xs ys)
  where
    by : (t : Bool) → common_front xs ys ≤ length ys → (if t then 1 + common_front xs ys else 0) ≤ suc (length ys)
    by true h = omega arith
    by false h = omega arith

pub common-self : (xs : List ℕ) → common_front xs xs ≡ length xs
common-self [] = refl
common-self (x ∷ xs) = rw (eq-self x, common-self xs) (omega arith)

-- behind codes that are in common
common-step : (k : ℕ) (xs ys : List ℕ) → k ≤ common_front xs ys → common_front xs ys ≡ k + common_front (drop k xs) (drop k ys)
common-step zero xs ys h = omega arith
common-step (suc k) [] ys h = absurd (omega arith)
common-step (suc k) (x ∷ xs) [] h = absurd (omega arith)
common-step (suc k) (x ∷ xs) (y ∷ ys) h = by (nat_eq x y) h (common-step k xs ys)
  where
    by : (t : Bool) → suc k ≤ (if t then 1 + common_front xs ys else 0) → (k ≤ common_front xs ys → common_front xs ys ≡ k + common_front (drop k xs) (drop k ys)) → (if t then 1 + common_front xs ys else 0) ≡ suc k + common_front (drop k xs) (drop k ys)
    by true h step = let e = step (omega arith) in omega (arith, e)
    by false h step = absurd (omega (arith, h))

-- three texts, of which two pairs have codes in common
common-less : (xs ys zs : List ℕ) → common_front xs ys < common_front ys zs → common_front xs zs ≡ common_front xs ys
common-less [] ys zs h = refl
common-less (x ∷ xs) [] zs h = absurd (omega (arith, h))
common-less (x ∷ xs) (y ∷ ys) [] h = absurd (omega (arith, h))
common-less (x ∷ xs) (y ∷ ys) (z ∷ zs) h = by (nat_eq y z) refl h (common-less xs ys zs)
  where
    deep : (t : Bool) → (if t then 1 + common_front xs ys else 0) < 1 + common_front ys zs → (common_front xs ys < common_front ys zs → common_front xs zs ≡ common_front xs ys) → (if t then 1 + common_front xs zs else 0) ≡ (if t then 1 + common_front xs ys else 0)
    deep true h step = ap (λ n. 1 + n) (step (omega arith))
    deep false h step = refl

    by : (t : Bool) → nat_eq y z ≡ t → common_front (x ∷ xs) (y ∷ ys) < (if t then 1 + common_front ys zs else 0) → (common_front xs ys < common_front ys zs → common_front xs zs ≡ common_front xs ys) → common_front (x ∷ xs) (z ∷ zs) ≡ common_front (x ∷ xs) (y ∷ ys)
    by true e h step =
        let same : nat_eq x z ≡ nat_eq x y = ap (nat_eq x) (sym (eq-is y z e)) in
        ap (λ t. if t then 1 + common_front xs zs else 0) same ∙ deep (nat_eq x y) h step
    by false e h step = absurd (omega (arith, h))

common-least : (n : ℕ) (xs ys zs : List ℕ) → n ≤ common_front xs ys → n ≤ common_front ys zs → n ≤ common_front xs zs
common-least zero xs ys zs h g = omega arith
common-least (suc n) [] ys zs h g = absurd (omega (arith, h))
common-least (suc n) (x ∷ xs) [] zs h g = absurd (omega (arith, h))
common-least (suc n) (x ∷ xs) (y ∷ ys) [] h g = absurd (omega (arith, g))
common-least (suc n) (x ∷ xs) (y ∷ ys) (z ∷ zs) h g = by (nat_eq x y) (nat_eq y z) refl refl h g (common-least n xs ys zs)
  where
    by : (t u : Bool) → nat_eq x y ≡ t → nat_eq y z ≡ u → suc n ≤ (if t then 1 + common_front xs ys else 0) → suc n ≤ (if u then 1 + common_front ys zs else 0) → (n ≤ common_front xs ys → n ≤ common_front ys zs → n ≤ common_front xs zs) → suc n ≤ common_front (x ∷ xs) (z ∷ zs)
    by true true e f h g step =
        let same : nat_eq x z ≡ true = ap (nat_eq x) (sym (eq-is y z f)) ∙ e in
        rw same (let deep = step (omega arith) (omega arith) in omega arith)
    by true false e f h g step = absurd (omega (arith, g))
    by false u e f h g step = absurd (omega (arith, h))

-- ---- fronts at the places of a text

pub front_at-le : (wanted text : List ℕ) (place : ℕ) → front_at wanted text place ≤ length wanted
front_at-le wanted text place = common-le wanted (drop place text)

pub front_at-within : (wanted text : List ℕ) (place : ℕ) → place ≤ length text → place + front_at wanted text place ≤ length text
front_at-within wanted text place h =
    let e : length (drop place text) ≡ length text - place = length-drop place text in
    omega (arith, common-le_other wanted (drop place text), e)

-- a place in a window is one of the front that stands there
inside : (wanted text : List ℕ) (start end place : ℕ) → IsWindow wanted text start end → start ≤ place → place ≤ end → end - place ≤ common_front (drop (place - start) wanted) (drop place text)
inside wanted text start end place w low high =
    let step = common-step (place - start) wanted (drop start text) (omega (arith, w.front, w.ordered)) in
    let behind : drop (place - start) (drop start text) ≡ drop place text = drop-drop (place - start) start text ∙ ap (λ k. drop k text) (omega arith) in
    let same : common_front wanted (drop start text) ≡ (place - start) + common_front (drop (place - start) wanted) (drop place text) =
    step ∙ ap (λ l. (place - start) + common_front (drop (place - start) wanted) l) behind in
    omega (arith, same, w.front, w.ordered)

-- where the front is known to end in the window, it ends there
pub front_at-known : (wanted text : List ℕ) (start end place known : ℕ) → IsWindow wanted text start end → start ≤ place → place ≤ end → known ≡ front_at wanted wanted (place - start) → known < end - place → known ≡ front_at wanted text place
front_at-known wanted text start end place known w low high e short =
    e ∙ sym (common-less wanted (drop (place - start) wanted) (drop place text) (omega (arith, e, inside wanted text start end place w low high)))

-- and else it goes on behind the window
pub front_at-on : (wanted text : List ℕ) (start end place known : ℕ) → IsWindow wanted text start end → start ≤ place → place ≤ end → known ≡ front_at wanted wanted (place - start) → end - place ≤ known → (end - place) + common_front (drop (end - place) wanted) (drop end text) ≡ front_at wanted text place
front_at-on wanted text start end place known w low high e long =
    let least = common-least (end - place) wanted (drop (place - start) wanted) (drop place text) (omega (arith, e)) (inside wanted text start end place w low high) in
    let behind : drop (end - place) (drop place text) ≡ drop end text = drop-drop (end - place) place text ∙ ap (λ k. drop k text) (omega arith) in
    sym (common-step (end - place) wanted (drop place text) least ∙ ap (λ l. (end - place) + common_front (drop (end - place) wanted) l) behind)

pub known_within : (wanted fronts : List ℕ) (k : ℕ) → AreFronts wanted fronts → k < length fronts → slice_index fronts k ≤ length wanted
known_within wanted fronts k a h = omega (arith, a.each k h, front_at-le wanted wanted k)

-- ---- places where the whole text stands

suc-same : (a b : ℕ) → nat_eq (1 + a) (suc b) ≡ nat_eq a b
suc-same a b = by (nat_eq a b) refl
  where
    by : (t : Bool) → nat_eq a b ≡ t → nat_eq (1 + a) (suc b) ≡ t
    by true e = grind (arith, nat_tests)
    by false e = grind (arith, nat_tests)

whole-front : (wanted text : List ℕ) → starts_with nat_eq text wanted ≡ nat_eq (common_front wanted text) (length wanted)
whole-front [] text = refl
whole-front (x ∷ xs) [] = sym (zero-apart (length xs))
  where
    zero-apart : (n : ℕ) → nat_eq 0 (suc n) ≡ false
    zero-apart n = grind (arith, nat_tests)
whole-front (x ∷ xs) (y ∷ ys) = by (nat_eq x y) (whole-front xs ys)
  where
    by : (t : Bool) → starts_with nat_eq ys xs ≡ nat_eq (common_front xs ys) (length xs) → (t && starts_with nat_eq ys xs) ≡ nat_eq (if t then 1 + common_front xs ys else 0) (suc (length xs))
    by true h = h ∙ sym (suc-same (common_front xs ys) (length xs))
    by false h = sym (grind (arith, nat_tests))

pub stands-front : (wanted text : List ℕ) (place : ℕ) → stands_at wanted text place ≡ nat_eq (front_at wanted text place) (length wanted)
stands-front wanted text place = whole-front wanted (drop place text)

-- where all of it stands, and where not all of it does
pub found-front : (wanted text : List ℕ) (place size : ℕ) → size ≡ front_at wanted text place → size ≡ length wanted → place ≤ length text → first_place wanted text place ≡ Some place
found-front wanted text place size e whole h =
    first_place-found wanted text place (stands-front wanted text place ∙ nat_eq-true (front_at wanted text place) (length wanted) (sym e ∙ whole)) h

pub missed-front : (wanted text : List ℕ) (place size : ℕ) → size ≡ front_at wanted text place → ¬ (size ≡ length wanted) → first_place wanted text place ≡ first_place wanted text (place + 1)
missed-front wanted text place size e part =
    first_place-next wanted text place (stands-front wanted text place ∙ nat_eq-false (front_at wanted text place) (length wanted) (λ whole. part (e ∙ whole)))

-- from the end of the text on there is none
pub none-left : (wanted text : List ℕ) (place : ℕ) → 0 < length wanted → length text ≤ place → first_place wanted text place ≡ None
none-left wanted text place some h =
    let all : drop place text ≡ [] = drop_all place text h in
    let none : front_at wanted text place ≤ 0 = subst (λ l. common_front wanted (drop place text) ≤ length l) all (common-le_other wanted (drop place text)) in
    missed-front wanted text place (front_at wanted text place) refl (λ whole. absurd (omega arith))
    ∙ first_place-past wanted text (place + 1) (omega arith)

-- ---- windows

pub or_window : (wanted text : List ℕ) (t : Bool) (new at old : Window) → new ≡ (if t then at else old) → IsWindow wanted text at.start at.end → IsWindow wanted text old.start old.end → IsWindow wanted text new.start new.end
or_window wanted text true new at old e there here = let P : Window → Type 0 = λ w. IsWindow wanted text w.start w.end in subst P (sym e) there
or_window wanted text false new at old e there here = let P : Window → Type 0 = λ w. IsWindow wanted text w.start w.end in subst P (sym e) here

pub window_at : (wanted text : List ℕ) (place size : ℕ) → size ≡ front_at wanted text place → place ≤ length text → IsWindow wanted text place (place + size)
window_at wanted text place size e h = record {
  ordered = omega arith;
  within = omega (arith, e, front_at-within wanted text place h);
  front = omega (arith, e);
}

pub starts_behind : (t : Bool) (place end : ℕ) (new old : Window) → new ≡ (if t then record { start = place; end = end } else old) → old.start ≤ place → new.start ≤ place + 1
starts_behind true place end new old e h = let start : new.start ≡ place = ap (λ (w : Window). w.start) e in omega arith
starts_behind false place end new old e h = let start : new.start ≡ old.start = ap (λ (w : Window). w.start) e in omega arith

-- ---- what is remembered, place by place

pub fronts-first : (wanted fronts : List ℕ) → fronts ≡ length wanted ∷ [] → AreFronts wanted fronts
fronts-first wanted fronts e = subst (AreFronts wanted) (sym e) (record { each = each })
  where
    each : (place : ℕ) → place < length (length wanted ∷ []) → slice_index (length wanted ∷ []) place ≡ front_at wanted wanted place
    each zero h = sym (common-self wanted)
    each (suc place) h = absurd (omega (arith, h))

pub fronts-push : (wanted fronts new : List ℕ) (place size : ℕ) → AreFronts wanted fronts → length fronts ≡ place → size ≡ front_at wanted wanted place → new ≡ fronts ++ size ∷ [] → AreFronts wanted new
fronts-push wanted fronts new place size a count e step = subst (AreFronts wanted) (sym step) (record { each = λ k h. by k (nat_lt k place) refl h })
  where
    by : (k : ℕ) (t : Bool) → nat_lt k place ≡ t → k < length (fronts ++ size ∷ []) → slice_index (fronts ++ size ∷ []) k ≡ front_at wanted wanted k
    by k true below h =
        let within : k < length fronts = grind (arith, nat_tests) in
        get_or_append_left fronts (size ∷ []) 0 k within ∙ a.each k within
    by k false above h =
        let is : k ≡ place = grind (arith, nat_tests, length_push fronts size) in
        get_or_push fronts size 0 k (count ∙ sym is) ∙ (e ∙ ap (front_at wanted wanted) (sym is))

pub starts_from : (t : Bool) (place end : ℕ) (new old : Window) → new ≡ (if t then record { start = place; end = end } else old) → 1 ≤ old.start → 1 ≤ place → 1 ≤ new.start
starts_from true place end new old e h g = let start : new.start ≡ place = ap (λ (w : Window). w.start) e in omega arith
starts_from false place end new old e h g = let start : new.start ≡ old.start = ap (λ (w : Window). w.start) e in omega arith
