-- What the definitions say together.
use Rattle.std.proofs.Common.{◌≡◌, ℕ, zero, suc, ◌^◌, Bool, true, false, List, [], ◌∷◌, ◌++◌, length, refl, sym, ◌∙◌, ap, arith, ◌⊎◌, inl, inr}
use Rattle.std.specs.Prelude.{ℤ, pos, negsuc, ◌+ℤ◌, Option, Some, None, unwrap_or, is_some, if◌then◌else◌, slice_set, ◌||◌, ◌&&◌, not, map, max}
use Rattle.std.specs.Option.{option_map_or}
use Rattle.std.specs.Int.{w32, int_wrap}
use Rattle.std.specs.List.{list_any}
use Rattle.std.specs.Map.{lookup, remove_entry}
use Rattle.std.specs.Cmp.Lexicographic.{bytes_decides}
use Rattle.std.proofs.lemmas.Int.{ints, int_wrap-add_right}
use Rattle.std.proofs.Math.ListN.{length-set}
use Rattle.indexmap.specs.IndexMap.{insert_entry}
use Rattle.bml_bytes.specs.Words.{is_same}
use Rattle.es_values.specs.declared.numbers.Num.{Num}
use Rattle.es_values.specs.declared.numbers.Num.TheVariants.{NotANumber, Whole}
use Rattle.es_values.specs.declared.values.Value.{Value}
use Rattle.es_values.specs.declared.values.Value.TheVariants.{Undefined, Number}
use Rattle.es_values.specs.Values.{IsLiveAmong, is_function}
use Rattle.es_values.specs.Objects.{ObjectState}
use Rattle.es_values.specs.Conversions.{number_of}
use Rattle.es_values.specs.Operators.{put_in, with_put}
use Rattle.es_values.specs.Heaps.{AreLiveAmong, IsSound, cut_at, holds_function, is_array_length, is_element_from, is_length, length_for, new_object, object_at, value_in, value_of, with_length, with_object, with_property, without_property}
use Rattle.es_values.proofs.SoundLemmas.{live-at, live-with_length, live-with_property, sound-set}

-- Wrapping

wrap-turn : int_wrap w32 (pos (2 ^ 32)) ≡ pos 0
unfolding int_wrap
wrap-turn = refl

plus-nothing : (z : ℤ) → z +ℤ pos 0 ≡ z
plus-nothing z = omega (arith, ints)

pub wrapped-turn : (z : ℤ) → int_wrap w32 (z +ℤ pos (2 ^ 32)) ≡ int_wrap w32 z
wrapped-turn z = sym (int_wrap-add_right w32 z (pos (2 ^ 32))) ∙ (ap (λ y. int_wrap w32 (z +ℤ y)) wrap-turn ∙ ap (int_wrap w32) (plus-nothing z))

-- Properties

pub same-itself : (a : List ℕ) → is_same a a ≡ true
same-itself a = (bytes_decides a a).1 refl

pub other-way : (a b : List ℕ) → is_same a b ≡ false → is_same b a ≡ false
other-way a b h = by (is_same b a) refl
  where
    by : (t : Bool) → is_same b a ≡ t → t ≡ false
    by true e =
        let both : is_same a b ≡ true = (bytes_decides a b).1 (sym ((bytes_decides b a).0 e)) in
        sym both ∙ h
    by false e = refl

pub found : (es : List (List ℕ × Value)) (name : List ℕ) (v : Value) → lookup (is_same name) (insert_entry is_same es name v) ≡ Some v
found [] name v = ap (λ b. if b then Some v else None) (same-itself name)
found (e ∷ es) name v = by (is_same name e.0) refl (found es name v)
  where
    by : (t : Bool) → is_same name e.0 ≡ t → lookup (is_same name) (insert_entry is_same es name v) ≡ Some v → lookup (is_same name) (if t then (e.0, v) ∷ es else e ∷ insert_entry is_same es name v) ≡ Some v
    by true h more = ap (λ b. if b then Some v else lookup (is_same name) es) h
    by false h more = ap (λ b. if b then Some e.1 else lookup (is_same name) (insert_entry is_same es name v)) h ∙ more

pub kept : (es : List (List ℕ × Value)) (name other : List ℕ) (v : Value) → is_same name other ≡ false → lookup (is_same other) (insert_entry is_same es name v) ≡ lookup (is_same other) es
kept [] name other v h = ap (λ b. if b then Some v else None) (other-way name other h)
kept (e ∷ es) name other v h = by (is_same name e.0) refl (kept es name other v h)
  where
    by : (t : Bool) → is_same name e.0 ≡ t → lookup (is_same other) (insert_entry is_same es name v) ≡ lookup (is_same other) es → lookup (is_same other) (if t then (e.0, v) ∷ es else e ∷ insert_entry is_same es name v) ≡ lookup (is_same other) (e ∷ es)
    by true k more =
        let apart : is_same other e.0 ≡ false = ap (is_same other) (sym ((bytes_decides name e.0).0 k)) ∙ other-way name other h in
        ap (λ b. if b then Some v else lookup (is_same other) es) apart ∙ sym (ap (λ b. if b then Some e.1 else lookup (is_same other) es) apart)
    by false k more = ap (λ o. if is_same other e.0 then Some e.1 else o) more

longer-some : (a : Option ℕ) (n : ℕ) → is_some (option_map_or (λ old. Some (max old n)) a None) ≡ is_some a
longer-some None n = refl
longer-some (Some m) n = refl

array-stays : (o : ObjectState) (name other : List ℕ) (v : Value) → is_array_length (with_property o name v) other ≡ is_array_length o other
array-stays o name other v = ap (λ b. b && is_length other) (longer-some o.array_length (length_for name))

pub put-there : (o : ObjectState) (name : List ℕ) (v : Value) → is_array_length o name ≡ false → value_of (with_property o name v) name ≡ v
put-there o name v h =
    let plain : is_array_length (with_property o name v) name ≡ false = array-stays o name name v ∙ h in
    ap (λ b. if b then Number (Whole (pos (unwrap_or (with_property o name v).array_length 0))) else value_in (with_property o name v).properties name) plain
    ∙ ap (λ x. unwrap_or x Undefined) (found o.properties name v)

pub put-others : (o : ObjectState) (name other : List ℕ) (v : Value) → is_same name other ≡ false → is_array_length o other ≡ false → value_of (with_property o name v) other ≡ value_of o other
put-others o name other v apart h =
    let plain : is_array_length (with_property o name v) other ≡ false = array-stays o name other v ∙ h in
    ap (λ b. if b then Number (Whole (pos (unwrap_or (with_property o name v).array_length 0))) else value_in (with_property o name v).properties other) plain
    ∙ (ap (λ x. unwrap_or x Undefined) (kept o.properties name other v apart)
    ∙ sym (ap (λ b. if b then Number (Whole (pos (unwrap_or o.array_length 0))) else value_in o.properties other) h))

pub listed : (es : List (List ℕ × Value)) (name : List ℕ) → list_any (is_same name) (map (λ e. e.0) es) ≡ is_some (lookup (is_same name) es)
listed [] name = refl
listed (e ∷ es) name = by (is_same name e.0) (listed es name)
  where
    by : (t : Bool) → list_any (is_same name) (map (λ p. p.0) es) ≡ is_some (lookup (is_same name) es) → (t || list_any (is_same name) (map (λ p. p.0) es)) ≡ is_some (if t then Some e.1 else lookup (is_same name) es)
    by true more = refl
    by false more = more

-- Live values

pub sound-put : (heap : List ObjectState) (object : ℕ) (name : List ℕ) (v : Value) → IsSound heap → IsLiveAmong (length heap) v → IsSound (with_put heap object name v)
sound-put heap object name v h l = sound-set heap object (put_in heap (object_at heap object) name v) h (by (is_array_length (object_at heap object) name))
  where
    by : (t : Bool) → AreLiveAmong (length heap) (if t then with_length (object_at heap object) (number_of heap v) else with_property (object_at heap object) name v)
    by true = live-with_length (length heap) (object_at heap object) (number_of heap v) (live-at heap object h)
    by false = live-with_property (length heap) (object_at heap object) name v (live-at heap object h) l

pub count-put : (heap : List ObjectState) (object : ℕ) (name : List ℕ) (v : Value) → length (with_put heap object name v) ≡ length heap
count-put heap object name v = length-set heap object (put_in heap (object_at heap object) name v)

-- Functions

pub or-cases : (a b : Bool) → (a || b) ≡ true → (a ≡ true) ⊎ (b ≡ true)
or-cases true b h = inl refl
or-cases false b h = inr h

pub or-left : (a b : Bool) → a ≡ true → (a || b) ≡ true
or-left a b h = ap (λ t. t || b) h

pub or-right : (a b : Bool) → b ≡ true → (a || b) ≡ true
or-right true b h = refl
or-right false b h = h

abbrev pub function_in : ℕ → List (List ℕ × Value) → Bool
function_in number es = list_any (λ p. is_function number p.1) es

read-in : (number : ℕ) (es : List (List ℕ × Value)) (name : List ℕ) → is_function number (value_in es name) ≡ true → function_in number es ≡ true
read-in number [] name h = h
read-in number (e ∷ es) name h = by (is_same name e.0) (read-in number es name) h
  where
    by : (t : Bool) → (is_function number (value_in es name) ≡ true → function_in number es ≡ true) → is_function number (unwrap_or (if t then Some e.1 else lookup (is_same name) es) Undefined) ≡ true → (is_function number e.1 || function_in number es) ≡ true
    by true more k = or-left (is_function number e.1) (function_in number es) k
    by false more k = or-right (is_function number e.1) (function_in number es) (more k)

read-of : (number : ℕ) (o : ObjectState) (name : List ℕ) → is_function number (value_of o name) ≡ true → function_in number o.properties ≡ true
read-of number o name h = by (is_array_length o name) h
  where
    by : (t : Bool) → is_function number (if t then Number (Whole (pos (unwrap_or o.array_length 0))) else value_in o.properties name) ≡ true → function_in number o.properties ≡ true
    by true k = absurd (cc k)
    by false k = read-in number o.properties name k

pub held-at : (number : ℕ) (heap : List ObjectState) (i : ℕ) → function_in number (object_at heap i).properties ≡ true → holds_function number heap ≡ true
held-at number [] i h = h
held-at number (o ∷ heap) zero h = or-left (function_in number o.properties) (holds_function number heap) h
held-at number (o ∷ heap) (suc i) h = or-right (function_in number o.properties) (holds_function number heap) (held-at number heap i h)

pub function-read : (heap : List ObjectState) (object number : ℕ) (name : List ℕ) → is_function number (value_of (object_at heap object) name) ≡ true → holds_function number heap ≡ true
function-read heap object number name h = held-at number heap object (read-of number (object_at heap object) name h)

function-inserted : (number : ℕ) (es : List (List ℕ × Value)) (name : List ℕ) (v : Value) → function_in number (insert_entry is_same es name v) ≡ true → (function_in number es || is_function number v) ≡ true
function-inserted number [] name v h = by (is_function number v) h
  where
    by : (t : Bool) → (t || false) ≡ true → (false || t) ≡ true
    by true k = refl
    by false k = k
function-inserted number (e ∷ es) name v h = by (is_same name e.0) (function-inserted number es name v) h
  where
    last : (a b c : Bool) → (c || b) ≡ true → ((a || b) || c) ≡ true
    last true b c k = refl
    last false true c k = refl
    last false false true k = refl
    last false false false k = k

    front : (a b c d : Bool) → (d ≡ true → (b || c) ≡ true) → (a || d) ≡ true → ((a || b) || c) ≡ true
    front true b c d f k = refl
    front false b c d f k = f k

    by : (t : Bool) → (function_in number (insert_entry is_same es name v) ≡ true → (function_in number es || is_function number v) ≡ true) → function_in number (if t then (e.0, v) ∷ es else e ∷ insert_entry is_same es name v) ≡ true → ((is_function number e.1 || function_in number es) || is_function number v) ≡ true
    by true more k = last (is_function number e.1) (function_in number es) (is_function number v) k
    by false more k = front (is_function number e.1) (function_in number es) (is_function number v) (function_in number (insert_entry is_same es name v)) more k

function-cut : (number place : ℕ) (es : List (List ℕ × Value)) → function_in number (cut_at place es) ≡ true → function_in number es ≡ true
function-cut number place [] h = h
function-cut number place (e ∷ es) h = by (not (is_element_from place e)) (function-cut number place es) h
  where
    by : (t : Bool) → (function_in number (cut_at place es) ≡ true → function_in number es ≡ true) → function_in number (if t then e ∷ cut_at place es else cut_at place es) ≡ true → (is_function number e.1 || function_in number es) ≡ true
    by true more k = elim (or-cases (is_function number e.1) (function_in number (cut_at place es)) k) [ inl x ↦ or-left (is_function number e.1) (function_in number es) x | inr x ↦ or-right (is_function number e.1) (function_in number es) (more x) ]
    by false more k = or-right (is_function number e.1) (function_in number es) (more k)

function-removed : (number : ℕ) (es : List (List ℕ × Value)) (name : List ℕ) → function_in number (remove_entry (is_same name) es) ≡ true → function_in number es ≡ true
function-removed number [] name h = h
function-removed number (e ∷ es) name h = by (is_same name e.0) (function-removed number es name) h
  where
    by : (t : Bool) → (function_in number (remove_entry (is_same name) es) ≡ true → function_in number es ≡ true) → function_in number (if t then es else e ∷ remove_entry (is_same name) es) ≡ true → (is_function number e.1 || function_in number es) ≡ true
    by true more k = or-right (is_function number e.1) (function_in number es) k
    by false more k = elim (or-cases (is_function number e.1) (function_in number (remove_entry (is_same name) es)) k) [ inl x ↦ or-left (is_function number e.1) (function_in number es) x | inr x ↦ or-right (is_function number e.1) (function_in number es) (more x) ]

function-length : (number : ℕ) (o : ObjectState) (n : Num) → function_in number (with_length o n).properties ≡ true → function_in number o.properties ≡ true
function-length number o NotANumber h = h
function-length number o (Whole (negsuc k)) h = h
function-length number o (Whole (pos k)) h = function-cut number k o.properties h

pub set-holds : (number : ℕ) (heap : List ObjectState) (i : ℕ) (o : ObjectState) (x : Bool) → (function_in number o.properties ≡ true → (function_in number (object_at heap i).properties || x) ≡ true) → holds_function number (slice_set heap i o) ≡ true → (holds_function number heap || x) ≡ true
set-holds number [] i o x f h = absurd (cc h)
set-holds number (a ∷ heap) zero o x f h =
    elim (or-cases (function_in number o.properties) (holds_function number heap) h) [
      | inl k ↦ first (function_in number a.properties) (holds_function number heap) x (f k)
      | inr k ↦ second (function_in number a.properties) (holds_function number heap) x k
    ]
  where
    first : (a b c : Bool) → (a || c) ≡ true → ((a || b) || c) ≡ true
    first true b c k = refl
    first false b c k = or-right b c k

    second : (a b c : Bool) → b ≡ true → ((a || b) || c) ≡ true
    second a b c k = or-left (a || b) c (or-right a b k)
set-holds number (a ∷ heap) (suc i) o x f h =
    elim (or-cases (function_in number a.properties) (holds_function number (slice_set heap i o)) h) [
      | inl k ↦ or-left (function_in number a.properties || holds_function number heap) x (or-left (function_in number a.properties) (holds_function number heap) k)
      | inr k ↦ later (function_in number a.properties) (holds_function number heap) x (set-holds number heap i o x f k)
    ]
  where
    later : (a b c : Bool) → (b || c) ≡ true → ((a || b) || c) ≡ true
    later true b c k = refl
    later false b c k = k

pub function-put : (heap : List ObjectState) (object number : ℕ) (name : List ℕ) (v : Value) → holds_function number (with_put heap object name v) ≡ true → (holds_function number heap || is_function number v) ≡ true
function-put heap object number name v h =
    set-holds number heap object (put_in heap (object_at heap object) name v) (is_function number v) (by (is_array_length (object_at heap object) name)) h
  where
    by : (t : Bool) → function_in number (if t then with_length (object_at heap object) (number_of heap v) else with_property (object_at heap object) name v).properties ≡ true → (function_in number (object_at heap object).properties || is_function number v) ≡ true
    by true k = or-left (function_in number (object_at heap object).properties) (is_function number v) (function-length number (object_at heap object) (number_of heap v) k)
    by false k = function-inserted number (object_at heap object).properties name v k

pub or-nothing : (a : Bool) → (a || false) ≡ true → a ≡ true
or-nothing true h = refl
or-nothing false h = h

pub function-remove : (heap : List ObjectState) (object number : ℕ) (name : List ℕ) → holds_function number (with_object heap object (without_property (object_at heap object) name)) ≡ true → holds_function number heap ≡ true
function-remove heap object number name h =
    or-nothing (holds_function number heap) (set-holds number heap object (without_property (object_at heap object) name) false (λ k. or-left (function_in number (object_at heap object).properties) false (by (is_array_length (object_at heap object) name) k)) h)
  where
    by : (t : Bool) → function_in number (if t then object_at heap object else record { array_length = (object_at heap object).array_length; properties = remove_entry (is_same name) (object_at heap object).properties }).properties ≡ true → function_in number (object_at heap object).properties ≡ true
    by true k = k
    by false k = function-removed number (object_at heap object).properties name k

pub function-add : (heap : List ObjectState) (array : Bool) (number : ℕ) → holds_function number (heap ++ new_object array ∷ []) ≡ holds_function number heap
function-add [] array number = refl
function-add (o ∷ heap) array number = ap (λ b. function_in number o.properties || b) (function-add heap array number)
