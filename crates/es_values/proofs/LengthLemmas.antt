-- That an array's indices are below its length.
use Rattle.std.proofs.Common.{◌≡◌, ℕ, zero, suc, ◌+◌, ◌-◌, ◌/◌, ◌<◌, ◌≤◌, Bool, true, false, List, [], ◌∷◌, ◌++◌, length, refl, sym, ◌∙◌, ap, subst, arith}
use Rattle.std.specs.Prelude.{All, Option, Some, None, unwrap_or, cond, max, nat_le, nat_lt, not, is_some, pos, negsuc, ◌&&◌, if◌then◌else◌, option_to_list, slice_set}
use Rattle.std.specs.List.{cons_option, filter_map, flat_map, range_with_len}
use Rattle.std.specs.Option.{ForSome, option_map_or}
use Rattle.std.specs.Map.{lookup, remove_entry}
use Rattle.std.specs.Cmp.Lexicographic.{bytes_decides}
use Rattle.std.proofs.lemmas.Bool.Decides.{nat_tests}
use Rattle.std.proofs.lemmas.List.Elements.{All-append, All-cons, All-head, All-nil, All-push, All-set, All-tail, All-weaker}
use Rattle.indexmap.specs.IndexMap.{insert_entry}
use Rattle.bml_bytes.specs.Numerals.{decimal_digits, decimal_number}
use Rattle.bml_bytes.specs.Words.{is_same}
use Rattle.es_values.specs.declared.numbers.Num.{Num}
use Rattle.es_values.specs.declared.numbers.Num.TheVariants.{NotANumber, Whole}
use Rattle.es_values.specs.declared.values.Value.{Value}
use Rattle.es_values.specs.Objects.{ObjectState}
use Rattle.es_values.specs.Heaps.{HasSoundLength, HaveSoundLengths, IsBelow, cut_at, index_of, is_array_length, is_element_from, length_for, new_object, object_at, with_length, with_object, with_property, without_property}
use Rattle.es_values.specs.Arrays.{array_of, element_at, named, new_element, new_elements, turned, turned_object, turned_properties, with_elements, with_first_elements}
use Rattle.es_values.specs.Conversions.{number_of}
use Rattle.es_values.specs.Operators.{put_in, with_put}
use Rattle.es_values.proofs.ArrayLemmas.{HasName, turned-name}
use Rattle.es_values.proofs.JoinLemmas.{index_of-digits}

some-is : (a b : ℕ) → Some a ≡ Some b → a ≡ b
some-is a b e = ap (λ o. unwrap_or o 0) e

all-weaker : (m n : ℕ) (es : List (List ℕ × Value)) → m ≤ n → All (IsBelow m) es → All (IsBelow n) es
all-weaker m n es h l = All-weaker (IsBelow m) (IsBelow n) (λ p below. omega (arith, below, h)) es l

inserted : (n : ℕ) (es : List (List ℕ × Value)) (name : List ℕ) (v : Value) → All (IsBelow n) es → length_for name ≤ n → All (IsBelow n) (insert_entry is_same es name v)
inserted n [] name v h l = All-cons (IsBelow n) (name, v) [] l h
inserted n (e ∷ es) name v h l =
    by (is_same name e.0) (inserted n es name v (All-tail (IsBelow n) e es h) l)
  where
    by : (t : Bool) → All (IsBelow n) (insert_entry is_same es name v) → All (IsBelow n) (if t then (e.0, v) ∷ es else e ∷ insert_entry is_same es name v)
    by true more = All-cons (IsBelow n) (e.0, v) es (All-head (IsBelow n) e es h) (All-tail (IsBelow n) e es h)
    by false more = All-cons (IsBelow n) e (insert_entry is_same es name v) (All-head (IsBelow n) e es h) more

removed : (n : ℕ) (es : List (List ℕ × Value)) (name : List ℕ) → All (IsBelow n) es → All (IsBelow n) (remove_entry (is_same name) es)
removed n [] name h = h
removed n (e ∷ es) name h =
    by (is_same name e.0) (removed n es name (All-tail (IsBelow n) e es h))
  where
    by : (t : Bool) → All (IsBelow n) (remove_entry (is_same name) es) → All (IsBelow n) (if t then es else e ∷ remove_entry (is_same name) es)
    by true more = All-tail (IsBelow n) e es h
    by false more = All-cons (IsBelow n) e (remove_entry (is_same name) es) (All-head (IsBelow n) e es h) more

-- ---- a new object, a put, a length and a removal

pub new-below : (array : Bool) → HasSoundLength (new_object array)
new-below array n e = All-nil (IsBelow n)

pub put-below : (o : ObjectState) (name : List ℕ) (v : Value) → HasSoundLength o → HasSoundLength (with_property o name v)
put-below o name v h n e = by o.array_length refl e
  where
    by : (a : Option ℕ) → o.array_length ≡ a → option_map_or (λ old. Some (max old (length_for name))) a None ≡ Some n → All (IsBelow n) (insert_entry is_same o.properties name v)
    by None f g = absurd (cc g)
    by (Some m) f g =
        let is : max m (length_for name) ≡ n = some-is (max m (length_for name)) n g in
        let old : m ≤ n = grind (arith, is) in
        let new : length_for name ≤ n = grind (arith, is) in
        inserted n o.properties name v (all-weaker m n o.properties old (h m f)) new

below-by : (n : ℕ) (i : Option ℕ) → not (option_map_or (nat_le n) i false) ≡ true → option_map_or (λ index. index + 1) i 0 ≤ n
below-by n None h = omega arith
below-by n (Some i) h = grind (arith, nat_tests)

cut-below : (n : ℕ) (es : List (List ℕ × Value)) → All (IsBelow n) (cut_at n es)
cut-below n [] = All-nil (IsBelow n)
cut-below n (e ∷ es) = by (not (is_element_from n e)) refl (cut-below n es)
  where
    by : (t : Bool) → not (is_element_from n e) ≡ t → All (IsBelow n) (cut_at n es) → All (IsBelow n) (cond t (e ∷ cut_at n es) (cut_at n es))
    by true f more = All-cons (IsBelow n) e (cut_at n es) (below-by n (index_of e.0) f) more
    by false f more = more

pub length-below : (o : ObjectState) (number : Num) → HasSoundLength o → HasSoundLength (with_length o number)
length-below o NotANumber h = h
length-below o (Whole (negsuc k)) h = h
length-below o (Whole (pos k)) h = λ n e. subst (λ m. All (IsBelow m) (cut_at k o.properties)) (some-is k n e) (cut-below k o.properties)

pub without-below : (o : ObjectState) (name : List ℕ) → HasSoundLength o → HasSoundLength (without_property o name)
without-below o name h = by (is_array_length o name)
  where
    by : (t : Bool) → HasSoundLength (if t then o else record { array_length = o.array_length; properties = remove_entry (is_same name) o.properties })
    by true = h
    by false = λ n e. removed n o.properties name (h n e)

-- ---- elements

elements-below : (o : ObjectState) (place : ℕ) (vs : List Value) → HasSoundLength o → HasSoundLength (with_elements o place vs)
elements-below o place [] h = h
elements-below o place (v ∷ vs) h = elements-below (with_property o (decimal_digits place) v) (place + 1) vs (put-below o (decimal_digits place) v h)

pub made-below : (vs : List Value) → HasSoundLength (array_of vs)
made-below vs = elements-below (new_object true) 0 vs (new-below true)

pub set-below : (o : ObjectState) (vs : List Value) → ForSome o.array_length (λ count. length vs ≤ count) → HasSoundLength (with_first_elements o vs)
set-below o vs few n e =
    all-weaker (length vs) n (cut_at (length vs) (with_elements o 0 vs).properties) (few n e) (cut-below (length vs) (with_elements o 0 vs).properties)

-- ---- an array that is turned round

turned-below : (n : ℕ) (es ps : List (List ℕ × Value)) → All (IsBelow n) ps → All (IsBelow n) (filter_map (turned n es) ps)
turned-below n es [] h = All-nil (IsBelow n)
turned-below n es (p ∷ ps) h = by (turned n es p) (turned-name n es p) (turned-below n es ps (All-tail (IsBelow n) p ps h))
  where
    by : (o : Option (List ℕ × Value)) → HasName p.0 o → All (IsBelow n) (filter_map (turned n es) ps) → All (IsBelow n) (cons_option o (filter_map (turned n es) ps))
    by None same more = more
    by (Some q) same more = All-cons (IsBelow n) q (filter_map (turned n es) ps) (subst (λ name. length_for name ≤ n) (sym same) (All-head (IsBelow n) p ps h)) more

digits-length : ((n : ℕ) → decimal_number (decimal_digits n) ≡ n) → (k n : ℕ) → k < n → length_for (decimal_digits k) ≤ n
unfolding index_of
digits-length back k n h = by (nat_lt (decimal_number (decimal_digits k)) 2147483647 && is_same (decimal_digits k) (decimal_digits (decimal_number (decimal_digits k))))
  where
    by : (t : Bool) → option_map_or (λ index. index + 1) (if t then Some (decimal_number (decimal_digits k)) else None) 0 ≤ n
    by true = omega (arith, back k, h)
    by false = omega arith

new-element-below : ((n : ℕ) → decimal_number (decimal_digits n) ≡ n) → (n : ℕ) (es : List (List ℕ × Value)) (place other : ℕ) → place < n → All (IsBelow n) (new_element es place other)
new-element-below back n es place other h = by (is_some (element_at es place)) (element_at es other)
  where
    by : (t : Bool) (o : Option Value) → All (IsBelow n) (if t then [] else option_to_list (named (decimal_digits place) o))
    by true o = All-nil (IsBelow n)
    by false None = All-nil (IsBelow n)
    by false (Some v) = All-cons (IsBelow n) (decimal_digits place, v) [] (digits-length back place n h) (All-nil (IsBelow n))

news-below : ((n : ℕ) → decimal_number (decimal_digits n) ≡ n) → (n : ℕ) (es : List (List ℕ × Value)) (from k : ℕ) → from + k ≤ n → All (IsBelow n) (flat_map (new_elements n es) (range_with_len from k))
news-below back n es from zero h = All-nil (IsBelow n)
news-below back n es from (suc k) h =
    let rest = flat_map (new_elements n es) (range_with_len (from + 1) k) in
    let here : All (IsBelow n) (new_elements n es from) =
    All-append (IsBelow n) (new_element es from (n - 1 - from)) (new_element es (n - 1 - from) from)
    (new-element-below back n es from (n - 1 - from) (omega (arith, h)))
    (new-element-below back n es (n - 1 - from) from (omega (arith, h))) in
    All-append (IsBelow n) (new_elements n es from) rest here (news-below back n es (from + 1) k (omega (arith, h)))

pub reversed-below : ((n : ℕ) → decimal_number (decimal_digits n) ≡ n) → (o : ObjectState) → HasSoundLength o → HasSoundLength (turned_object o)
unfolding turned_properties
reversed-below back o h n e =
    let half : 0 + n / 2 ≤ n = omega arith in
    let both : All (IsBelow n) (turned_properties n o.properties) =
    All-append (IsBelow n) (filter_map (turned n o.properties) o.properties) (flat_map (new_elements n o.properties) (range_with_len 0 (n / 2)))
    (turned-below n o.properties o.properties (h n e)) (news-below back n o.properties 0 (n / 2) half) in
    subst (λ a. All (IsBelow n) (option_map_or (λ count. turned_properties count o.properties) a o.properties)) (sym e) both

-- ---- an element that stands

pub element-below : ((n : ℕ) → decimal_number (decimal_digits n) ≡ n) → (n : ℕ) (es : List (List ℕ × Value)) (k : ℕ) → k < 2147483647 → All (IsBelow n) es → is_some (element_at es k) ≡ true → k < n
element-below back n [] k s h e = absurd (cc e)
element-below back n (p ∷ es) k s h e =
    by (is_same (decimal_digits k) p.0) refl (element-below back n es k s (All-tail (IsBelow n) p es h))
  where
    by : (t : Bool) → is_same (decimal_digits k) p.0 ≡ t → (is_some (element_at es k) ≡ true → k < n) → k < n
    by true f more =
        let same : decimal_digits k ≡ p.0 = (bytes_decides (decimal_digits k) p.0).0 f in
        let place : length_for p.0 ≡ k + 1 = ap length_for (sym same) ∙ ap (λ i. option_map_or (λ index. index + 1) i 0) (index_of-digits back k s) in
        let head : length_for p.0 ≤ n = All-head (IsBelow n) p es h in
        omega (arith, place, head)
    by false f more =
        more (sym (ap is_some (ap (λ b. if b then Some p.1 else lookup (is_same (decimal_digits k)) es) f)) ∙ e)

-- ---- heaps

pub lengths-add : (heap : List ObjectState) (o : ObjectState) → HaveSoundLengths heap → HasSoundLength o → HaveSoundLengths (heap ++ o ∷ [])
lengths-add heap o h l = All-push HasSoundLength heap o h l

length-at : (heap : List ObjectState) (i : ℕ) → HaveSoundLengths heap → HasSoundLength (object_at heap i)
length-at [] i h = new-below false
length-at (o ∷ heap) zero h = All-head HasSoundLength o heap h
length-at (o ∷ heap) (suc i) h = length-at heap i (All-tail HasSoundLength o heap h)

lengths-set : (heap : List ObjectState) (i : ℕ) (o : ObjectState) → HaveSoundLengths heap → HasSoundLength o → HaveSoundLengths (slice_set heap i o)
lengths-set heap i o h l = All-set HasSoundLength heap i o l h

pub lengths-put : (heap : List ObjectState) (i : ℕ) (name : List ℕ) (v : Value) → HaveSoundLengths heap → HaveSoundLengths (with_put heap i name v)
lengths-put heap i name v h = lengths-set heap i (put_in heap (object_at heap i) name v) h (by (is_array_length (object_at heap i) name))
  where
    by : (t : Bool) → HasSoundLength (if t then with_length (object_at heap i) (number_of heap v) else with_property (object_at heap i) name v)
    by true = length-below (object_at heap i) (number_of heap v) (length-at heap i h)
    by false = put-below (object_at heap i) name v (length-at heap i h)

pub lengths-removed : (heap : List ObjectState) (i : ℕ) (name : List ℕ) → HaveSoundLengths heap → HaveSoundLengths (with_object heap i (without_property (object_at heap i) name))
lengths-removed heap i name h = lengths-set heap i (without_property (object_at heap i) name) h (without-below (object_at heap i) name (length-at heap i h))

pub lengths-elements : (heap : List ObjectState) (i : ℕ) (vs : List Value) → HaveSoundLengths heap → ForSome (object_at heap i).array_length (λ count. length vs ≤ count) → HaveSoundLengths (with_object heap i (with_first_elements (object_at heap i) vs))
lengths-elements heap i vs h few = lengths-set heap i (with_first_elements (object_at heap i) vs) h (set-below (object_at heap i) vs few)

pub lengths-reversed : ((n : ℕ) → decimal_number (decimal_digits n) ≡ n) → (heap : List ObjectState) (i : ℕ) → HaveSoundLengths heap → HaveSoundLengths (with_object heap i (turned_object (object_at heap i)))
lengths-reversed back heap i h = lengths-set heap i (turned_object (object_at heap i)) h (reversed-below back (object_at heap i) (length-at heap i h))
