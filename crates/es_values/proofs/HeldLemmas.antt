-- What arrays hold comes from what they are made of.
use Rattle.std.proofs.Common.{◌≡◌, ℕ, ◌+◌, ◌-◌, ◌/◌, Bool, true, false, List, [], ◌∷◌, ◌++◌, length, refl, sym, ◌∙◌, ap, subst, inl, inr}
use Rattle.std.specs.Prelude.{All, Option, Some, None, IfSome, nat_lt, ◌||◌, if◌then◌else◌, is_some, not, option_to_list, pos, negsuc}
use Rattle.std.specs.Option.{option_map_or}
use Rattle.std.specs.List.{cons_option, filter_map, flat_map, list_any, range_with_len}
use Rattle.std.proofs.lemmas.List.Elements.{All-append, All-cons, All-filter, All-head, All-nil, All-tail}
use Rattle.std.proofs.lemmas.List.Folds.{list_any_none}
use Rattle.std.proofs.lemmas.Map.Entries.{All-lookup}
use Rattle.bml_bytes.specs.Numerals.{decimal_digits}
use Rattle.bml_bytes.specs.Words.{is_same}
use Rattle.es_values.specs.declared.numbers.Num.{Num}
use Rattle.es_values.specs.declared.numbers.Num.TheVariants.{NotANumber, Whole}
use Rattle.es_values.specs.declared.values.Value.{Value}
use Rattle.es_values.specs.Values.{is_function}
use Rattle.es_values.specs.Objects.{ObjectState}
use Rattle.es_values.specs.Heaps.{IsLive, IsSound, holds_function, index_of, is_element_from, new_object, object_at, object_of, with_length, with_object, with_property}
use Rattle.es_values.specs.Arrays.{array_of, element_at, elements_below, elements_of, named, new_element, new_elements, turned, turned_object, turned_properties, with_elements, with_first_elements}
use Rattle.es_values.proofs.LawLemmas.{function_in, held-at, or-cases, or-left, or-nothing, or-right, set-holds}
use Rattle.es_values.proofs.SoundLemmas.{inserted, live-at, live-with_length, sound-add, sound-object, sound-set}

-- Lists

All-filter_map : {X Y : Type 0} (P : Y → Type 0) (f : X → Option Y) (xs : List X) → All (λ x. IfSome (f x) P) xs → All P (filter_map f xs)
All-filter_map P f [] h = All-nil P
All-filter_map {Y = Y} P f (x ∷ xs) h = by (f x) (All-head (λ y. IfSome (f y) P) x xs h) (All-filter_map P f xs (All-tail (λ y. IfSome (f y) P) x xs h))
  where
    by : (o : Option Y) → IfSome o P → All P (filter_map f xs) → All P (cons_option o (filter_map f xs))
    by None one more = more
    by (Some y) one more = All-cons P y (filter_map f xs) one more

All-flat_map : {X Y : Type 0} (P : Y → Type 0) (f : X → List Y) (xs : List X) → ((x : X) → All P (f x)) → All P (flat_map f xs)
All-flat_map P f [] h = All-nil P
All-flat_map P f (x ∷ xs) h = All-append P (f x) (flat_map f xs) (h x) (All-flat_map P f xs h)

All-from : {X : Type 0} (P : X → Type 0) (xs : List X) → ((x : X) → P x) → All P xs
All-from P [] h = All-nil P
All-from P (x ∷ xs) h = All-cons P x xs (h x) (All-from P xs h)

All-some : {X : Type 0} (P : X → Type 0) (o : Option X) → IfSome o P → All P (option_to_list o)
All-some P None h = All-nil P
All-some P (Some x) h = All-cons P x [] h (All-nil P)

-- Whatever each value of an array's parts is, each value of the array is

module _ (P : Value → Type 0) where
  abbrev Holds : List (List ℕ × Value) → Type 0
  Holds es = All (λ p. P p.1) es

  elements-hold : (o : ObjectState) (place : ℕ) (vs : List Value) → Holds o.properties → All P vs → Holds (with_elements o place vs).properties
  elements-hold o place [] h all = h
  elements-hold o place (v ∷ vs) h all =
      elements-hold (with_property o (decimal_digits place) v) (place + 1) vs (inserted P o.properties (decimal_digits place) v h (All-head P v vs all)) (All-tail P v vs all)

  pub array-holds : (vs : List Value) → All P vs → Holds (array_of vs).properties
  array-holds vs all = elements-hold (new_object true) 0 vs (All-nil (λ p. P p.1)) all

  pub first-holds : (o : ObjectState) (vs : List Value) → Holds o.properties → All P vs → Holds (with_first_elements o vs).properties
  first-holds o vs h all = All-filter (λ p. not (is_element_from (length vs) p)) (λ p. P p.1) (with_elements o 0 vs).properties (elements-hold o 0 vs h all)

  element-holds : (es : List (List ℕ × Value)) (place : ℕ) → Holds es → IfSome (element_at es place) P
  element-holds es place h = All-lookup P (is_same (decimal_digits place)) es h

  pub elements-held : (o : ObjectState) → Holds o.properties → All P (elements_of o)
  elements-held o h = by o.array_length
    where
      by : (size : Option ℕ) → All P (option_map_or (λ count. elements_below count o.properties) size [])
      by None = All-nil P
      by (Some count) = All-filter_map P (element_at o.properties) (range_with_len 0 count) (All-from (λ place. IfSome (element_at o.properties place) P) (range_with_len 0 count) (λ place. element-holds o.properties place h))

  named-holds : (name : List ℕ) (v : Option Value) → IfSome v P → IfSome (named name v) (λ p. P p.1)
  named-holds name None h = tt
  named-holds name (Some v) h = h

  turned-holds : (count : ℕ) (es ps : List (List ℕ × Value)) → Holds es → Holds ps → Holds (filter_map (turned count es) ps)
  turned-holds count es [] h all = All-nil (λ p. P p.1)
  turned-holds count es (p ∷ ps) h all =
      step (turned count es p) (by (index_of p.0)) (turned-holds count es ps h (All-tail (λ q. P q.1) p ps all))
    where
      within : (place : ℕ) (t : Bool) → IfSome (if t then named p.0 (element_at es (count - 1 - place)) else Some p) (λ q. P q.1)
      within place true = named-holds p.0 (element_at es (count - 1 - place)) (element-holds es (count - 1 - place) h)
      within place false = All-head (λ q. P q.1) p ps all

      by : (o : Option ℕ) → IfSome (option_map_or (λ place. if nat_lt place count then named p.0 (element_at es (count - 1 - place)) else Some p) o (Some p)) (λ q. P q.1)
      by None = All-head (λ q. P q.1) p ps all
      by (Some place) = within place (nat_lt place count)

      step : (o : Option (List ℕ × Value)) → IfSome o (λ q. P q.1) → Holds (filter_map (turned count es) ps) → Holds (cons_option o (filter_map (turned count es) ps))
      step None one more = more
      step (Some q) one more = All-cons (λ r. P r.1) q (filter_map (turned count es) ps) one more

  new-holds : (es : List (List ℕ × Value)) (place other : ℕ) → Holds es → Holds (new_element es place other)
  new-holds es place other h = by (is_some (element_at es place))
    where
      by : (t : Bool) → Holds (if t then [] else option_to_list (named (decimal_digits place) (element_at es other)))
      by true = All-nil (λ p. P p.1)
      by false = All-some (λ p. P p.1) (named (decimal_digits place) (element_at es other)) (named-holds (decimal_digits place) (element_at es other) (element-holds es other h))

  properties-hold : (count : ℕ) (es : List (List ℕ × Value)) → Holds es → Holds (turned_properties count es)
  unfolding turned_properties
  properties-hold count es h =
      All-append (λ p. P p.1) (filter_map (turned count es) es) (flat_map (new_elements count es) (range_with_len 0 (count / 2))) (turned-holds count es es h h)
      (All-flat_map (λ p. P p.1) (new_elements count es) (range_with_len 0 (count / 2)) (λ place. All-append (λ p. P p.1) (new_element es place (count - 1 - place)) (new_element es (count - 1 - place) place) (new-holds es place (count - 1 - place) h) (new-holds es (count - 1 - place) place h)))

  pub reversed-holds : (o : ObjectState) → Holds o.properties → Holds (turned_object o).properties
  reversed-holds o h = by o.array_length
    where
      by : (size : Option ℕ) → Holds (option_map_or (λ count. turned_properties count o.properties) size o.properties)
      by None = h
      by (Some count) = properties-hold count o.properties h

-- Functions: what none of the parts is, the whole isn't

or-false : (a b : Bool) → (a || b) ≡ false → (a ≡ false) × (b ≡ false)
or-false true b h = absurd (cc h)
or-false false b h = (refl, h)

none-held : {X : Type 0} (p : X → Bool) (xs : List X) → list_any p xs ≡ false → All (λ x. p x ≡ false) xs
none-held p [] h = All-nil (λ x. p x ≡ false)
none-held p (x ∷ xs) h =
    let parts = or-false (p x) (list_any p xs) h in
    All-cons (λ y. p y ≡ false) x xs parts.0 (none-held p xs parts.1)

otherwise : (a b : Bool) → (a ≡ false → b ≡ false) → b ≡ true → a ≡ true
otherwise true b f h = refl
otherwise false b f h = absurd (cc (f refl))

abbrev IsOther : ℕ → Value → Type 0
IsOther number v = is_function number v ≡ false

none-in : (number : ℕ) (es : List (List ℕ × Value)) → function_in number es ≡ false → Holds (IsOther number) es
none-in number es h = none-held (λ p. is_function number p.1) es h

in-none : (number : ℕ) (es : List (List ℕ × Value)) → Holds (IsOther number) es → function_in number es ≡ false
in-none number es h = list_any_none (λ p. is_function number p.1) es h

pub function-array : (number : ℕ) (vs : List Value) → function_in number (array_of vs).properties ≡ true → list_any (is_function number) vs ≡ true
function-array number vs =
    otherwise (list_any (is_function number) vs) (function_in number (array_of vs).properties)
    (λ h. in-none number (array_of vs).properties (array-holds (IsOther number) vs (none-held (is_function number) vs h)))

function-first : (number : ℕ) (o : ObjectState) (vs : List Value) → function_in number (with_first_elements o vs).properties ≡ true → (function_in number o.properties || list_any (is_function number) vs) ≡ true
function-first number o vs =
    otherwise (function_in number o.properties || list_any (is_function number) vs) (function_in number (with_first_elements o vs).properties)
    (λ h.
    let parts = or-false (function_in number o.properties) (list_any (is_function number) vs) h in
    in-none number (with_first_elements o vs).properties (first-holds (IsOther number) o vs (none-in number o.properties parts.0) (none-held (is_function number) vs parts.1)))

function-turned : (number : ℕ) (o : ObjectState) → function_in number (turned_object o).properties ≡ true → function_in number o.properties ≡ true
function-turned number o =
    otherwise (function_in number o.properties) (function_in number (turned_object o).properties)
    (λ h. in-none number (turned_object o).properties (reversed-holds (IsOther number) o (none-in number o.properties h)))

pub function-elements : (heap : List ObjectState) (object number : ℕ) → list_any (is_function number) (elements_of (object_at heap object)) ≡ true → holds_function number heap ≡ true
function-elements heap object number h =
    let o = object_at heap object in
    held-at number heap object
    (otherwise (function_in number o.properties) (list_any (is_function number) (elements_of o))
    (λ k. list_any_none (is_function number) (elements_of o) (elements-held (IsOther number) o (none-in number o.properties k))) h)

pub function-push : (heap : List ObjectState) (o : ObjectState) (number : ℕ) → holds_function number (heap ++ o ∷ []) ≡ true → (holds_function number heap || function_in number o.properties) ≡ true
function-push [] o number h = or-nothing (function_in number o.properties) h
function-push (a ∷ heap) o number h =
    elim (or-cases (function_in number a.properties) (holds_function number (heap ++ o ∷ [])) h) [
      | inl k ↦ or-left (function_in number a.properties || holds_function number heap) (function_in number o.properties) (or-left (function_in number a.properties) (holds_function number heap) k)
      | inr k ↦ later (function_in number a.properties) (holds_function number heap) (function_in number o.properties) (function-push heap o number k)
    ]
  where
    later : (a b c : Bool) → (b || c) ≡ true → ((a || b) || c) ≡ true
    later true b c k = refl
    later false b c k = k

-- an array of a length alone has no properties
nothing-held : (size : Num) → (with_length (new_object true) size).properties ≡ []
nothing-held NotANumber = refl
nothing-held (Whole (pos n)) = refl
nothing-held (Whole (negsuc n)) = refl

pub function-sized : (heap : List ObjectState) (number : ℕ) (size : Num) → holds_function number (heap ++ with_length (new_object true) size ∷ []) ≡ true → holds_function number heap ≡ true
function-sized heap number size h =
    or-nothing (holds_function number heap) (sym (ap (λ es. holds_function number heap || function_in number es) (nothing-held size)) ∙ function-push heap (with_length (new_object true) size) number h)

pub function-added : (heap : List ObjectState) (vs : List Value) (number : ℕ) → holds_function number (heap ++ array_of vs ∷ []) ≡ true → (holds_function number heap || list_any (is_function number) vs) ≡ true
function-added heap vs number h =
    elim (or-cases (holds_function number heap) (function_in number (array_of vs).properties) (function-push heap (array_of vs) number h)) [
      | inl k ↦ or-left (holds_function number heap) (list_any (is_function number) vs) k
      | inr k ↦ or-right (holds_function number heap) (list_any (is_function number) vs) (function-array number vs k)
    ]

pub function-set : (heap : List ObjectState) (object number : ℕ) (vs : List Value) → holds_function number (with_object heap object (with_first_elements (object_at heap object) vs)) ≡ true → (holds_function number heap || list_any (is_function number) vs) ≡ true
function-set heap object number vs h =
    set-holds number heap object (with_first_elements (object_at heap object) vs) (list_any (is_function number) vs) (function-first number (object_at heap object) vs) h

pub function-reversed : (heap : List ObjectState) (object number : ℕ) → holds_function number (with_object heap object (turned_object (object_at heap object))) ≡ true → holds_function number heap ≡ true
function-reversed heap object number h =
    or-nothing (holds_function number heap)
    (set-holds number heap object (turned_object (object_at heap object)) false (λ k. or-left (function_in number (object_at heap object).properties) false (function-turned number (object_at heap object) k)) h)

-- Live values

pub sound-array : (heap : List ObjectState) (vs : List Value) → IsSound heap → All (IsLive heap) vs → IsSound (heap ++ array_of vs ∷ [])
sound-array heap vs h all = sound-add heap (array_of vs) h (array-holds (IsLive heap) vs all)

pub sound-sized : (heap : List ObjectState) (size : Num) → IsSound heap → IsSound (heap ++ with_length (new_object true) size ∷ [])
sound-sized heap size h =
    sound-add heap (with_length (new_object true) size) h (live-with_length (length heap) (new_object true) size (All-nil (λ p. IsLive heap p.1)))

pub live-elements : (heap : List ObjectState) (object : ℕ) → IsSound heap → All (IsLive heap) (elements_of (object_at heap object))
live-elements heap object h = elements-held (IsLive heap) (object_at heap object) (live-at heap object h)

pub sound-first : (heap : List ObjectState) (object : ℕ) (vs : List Value) → IsSound heap → All (IsLive heap) vs → IsSound (with_object heap object (with_first_elements (object_at heap object) vs))
sound-first heap object vs h all = sound-set heap object (with_first_elements (object_at heap object) vs) h (first-holds (IsLive heap) (object_at heap object) vs (live-at heap object h) all)

pub sound-turned : (heap : List ObjectState) (object : ℕ) → IsSound heap → IsSound (with_object heap object (turned_object (object_at heap object)))
sound-turned heap object h = sound-set heap object (turned_object (object_at heap object)) h (reversed-holds (IsLive heap) (object_at heap object) (live-at heap object h))

pub sound-pushed_object : (heap inside next : List ObjectState) (o : ObjectState) (ps : List (List ℕ × Value)) → IsSound inside → inside ≡ heap → o ≡ object_of ps → next ≡ inside ++ o ∷ [] → All (λ p. IsLive heap p.1) ps → IsSound next
sound-pushed_object heap inside next o ps h e made step all =
    subst IsSound (sym (step ∙ (ap (λ (x : ObjectState). inside ++ x ∷ []) made ∙ ap (λ (l : List ObjectState). l ++ object_of ps ∷ []) e)))
    (sound-object heap ps (subst IsSound e h) all)

pub sound-pushed : (heap inside next : List ObjectState) (o : ObjectState) (vs : List Value) → IsSound inside → inside ≡ heap → o ≡ array_of vs → next ≡ inside ++ o ∷ [] → All (IsLive heap) vs → IsSound next
sound-pushed heap inside next o vs h e made step all =
    subst IsSound (sym (step ∙ (ap (λ (x : ObjectState). inside ++ x ∷ []) made ∙ ap (λ (l : List ObjectState). l ++ array_of vs ∷ []) e)))
    (sound-array heap vs (subst IsSound e h) all)
