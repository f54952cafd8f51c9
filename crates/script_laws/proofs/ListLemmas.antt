-- What each value of a list of properties is, those that become of it are.
use Rattle.std.proofs.Common.{ℕ, ◌+◌, ◌-◌, ◌/◌, Bool, true, false, List, [], ◌∷◌, length}
use Rattle.std.specs.Prelude.{All, Option, Some, None, IfSome, nat_lt, if◌then◌else◌, is_some, not, option_to_list, pos, negsuc, unwrap_or}
use Rattle.std.specs.Option.{option_map_or}
use Rattle.std.specs.List.{cons_option, filter_map, flat_map, range_with_len}
use Rattle.std.specs.Map.{lookup, remove_entry}
use Rattle.std.proofs.lemmas.List.Elements.{All-append, All-cons, All-filter, All-head, All-nil, All-tail}
use Rattle.std.proofs.lemmas.Map.Entries.{All-lookup}
use Rattle.bml_bytes.specs.Numerals.{decimal_digits}
use Rattle.bml_bytes.specs.Words.{is_same}
use Rattle.es_values.specs.declared.numbers.Num.{Num}
use Rattle.es_values.specs.declared.numbers.Num.TheVariants.{NotANumber, Whole}
use Rattle.es_values.specs.declared.values.Value.{Value}
use Rattle.es_values.specs.declared.values.Value.TheVariants.{Undefined}
use Rattle.es_values.specs.Objects.{ObjectState}
use Rattle.es_values.specs.Heaps.{index_of, is_element_from, new_object, value_in, with_length, with_property, with_value}
use Rattle.es_values.specs.Arrays.{array_of, element_at, elements_below, elements_of, named, new_element, new_elements, turned, turned_object, turned_properties, with_elements, with_first_elements}

-- ---- lists

All-filter_map : {X Y : Type 0} (P : Y → Type 0) (f : X → Option Y) (xs : List X)
    → All (λ x. IfSome (f x) P) xs → All P (filter_map f xs)
All-filter_map P f [] h = All-nil P
All-filter_map {Y = Y} P f (x ∷ xs) h =
    by (f x) (All-head (λ y. IfSome (f y) P) x xs h)
    (All-filter_map P f xs (All-tail (λ y. IfSome (f y) P) x xs h))
  where
    by : (o : Option Y) → IfSome o P → All P (filter_map f xs)
        → All P (cons_option o (filter_map f xs))
    by None one more = more
    by (Some y) one more = All-cons P y (filter_map f xs) one more

All-flat_map : {X Y : Type 0} (P : Y → Type 0) (f : X → List Y) (xs : List X)
    → ((x : X) → All P (f x)) → All P (flat_map f xs)
All-flat_map P f [] h = All-nil P
All-flat_map P f (x ∷ xs) h = All-append P (f x) (flat_map f xs) (h x) (All-flat_map P f xs h)

All-from : {X : Type 0} (P : X → Type 0) (xs : List X) → ((x : X) → P x) → All P xs
All-from P [] h = All-nil P
All-from P (x ∷ xs) h = All-cons P x xs (h x) (All-from P xs h)

All-some : {X : Type 0} (P : X → Type 0) (o : Option X) → IfSome o P → All P (option_to_list o)
All-some P None h = All-nil P
All-some P (Some x) h = All-cons P x [] h (All-nil P)

-- ---- properties

module _ (P : Value → Type 0) where
  abbrev pub Holds : List (List ℕ × Value) → Type 0
  Holds properties = All (λ property. P property.1) properties

  pub written-holds : (es : List (List ℕ × Value)) (name : List ℕ) (v : Value) → Holds es → P v
      → Holds (with_value es name v)
  written-holds [] name v h l = All-cons (λ p. P p.1) (name, v) [] l h
  written-holds (e ∷ es) name v h l =
      by (is_same name e.0) (written-holds es name v (All-tail (λ p. P p.1) e es h) l)
    where
      by : (t : Bool) → Holds (with_value es name v)
          → Holds (if t then (e.0, v) ∷ es else e ∷ with_value es name v)
      by true more = All-cons (λ p. P p.1) (e.0, v) es l (All-tail (λ p. P p.1) e es h)
      by false more =
          All-cons (λ p. P p.1) e (with_value es name v) (All-head (λ p. P p.1) e es h) more

  pub removed-holds : (es : List (List ℕ × Value)) (name : List ℕ) → Holds es
      → Holds (remove_entry (is_same name) es)
  removed-holds [] name h = h
  removed-holds (e ∷ es) name h =
      by (is_same name e.0) (removed-holds es name (All-tail (λ p. P p.1) e es h))
    where
      by : (t : Bool) → Holds (remove_entry (is_same name) es)
          → Holds (if t then es else e ∷ remove_entry (is_same name) es)
      by true more = All-tail (λ p. P p.1) e es h
      by false more =
          All-cons (λ p. P p.1) e (remove_entry (is_same name) es) (All-head (λ p. P p.1) e es h)
          more

  pub value-holds : (es : List (List ℕ × Value)) (name : List ℕ) → P Undefined → Holds es
      → P (value_in es name)
  value-holds [] name u h = u
  value-holds (e ∷ es) name u h =
      by (is_same name e.0) (value-holds es name u (All-tail (λ p. P p.1) e es h))
    where
      by : (t : Bool) → P (value_in es name)
          → P (unwrap_or (if t then Some e.1 else lookup (is_same name) es) Undefined)
      by true more = All-head (λ p. P p.1) e es h
      by false more = more

  pub length-holds : (o : ObjectState) (number : Num) → Holds o.properties
      → Holds (with_length o number).properties
  length-holds o NotANumber h = h
  length-holds o (Whole (negsuc k)) h = h
  length-holds o (Whole (pos k)) h =
      All-filter (λ p. not (is_element_from k p)) (λ p. P p.1) o.properties h

  -- ---- arrays

  elements-hold : (o : ObjectState) (place : ℕ) (vs : List Value) → Holds o.properties → All P vs
      → Holds (with_elements o place vs).properties
  elements-hold o place [] h all = h
  elements-hold o place (v ∷ vs) h all =
      elements-hold (with_property o (decimal_digits place) v) (place + 1) vs
      (written-holds o.properties (decimal_digits place) v h (All-head P v vs all))
      (All-tail P v vs all)

  pub array-holds : (vs : List Value) → All P vs → Holds (array_of vs).properties
  array-holds vs all = elements-hold (new_object true) 0 vs (All-nil (λ p. P p.1)) all

  pub first-holds : (o : ObjectState) (vs : List Value) → Holds o.properties → All P vs
      → Holds (with_first_elements o vs).properties
  first-holds o vs h all =
      All-filter (λ p. not (is_element_from (length vs) p)) (λ p. P p.1)
      (with_elements o 0 vs).properties (elements-hold o 0 vs h all)

  element-holds : (es : List (List ℕ × Value)) (place : ℕ) → Holds es
      → IfSome (element_at es place) P
  element-holds es place h = All-lookup P (is_same (decimal_digits place)) es h

  pub elements-held : (o : ObjectState) → Holds o.properties → All P (elements_of o)
  elements-held o h = by o.array_length
    where
      by : (size : Option ℕ)
          → All P (option_map_or (λ count. elements_below count o.properties) size [])
      by None = All-nil P
      by (Some count) =
          All-filter_map P (element_at o.properties) (range_with_len 0 count)
          (All-from (λ place. IfSome (element_at o.properties place) P) (range_with_len 0 count)
          (λ place. element-holds o.properties place h))

  -- ---- arrays that are turned round

  named-holds : (name : List ℕ) (v : Option Value) → IfSome v P
      → IfSome (named name v) (λ p. P p.1)
  named-holds name None h = tt
  named-holds name (Some v) h = h

  turned-holds : (count : ℕ) (es ps : List (List ℕ × Value)) → Holds es → Holds ps
      → Holds (filter_map (turned count es) ps)
  turned-holds count es [] h all = All-nil (λ p. P p.1)
  turned-holds count es (p ∷ ps) h all =
      step (turned count es p) (by (index_of p.0))
      (turned-holds count es ps h (All-tail (λ q. P q.1) p ps all))
    where
      within : (place : ℕ) (t : Bool) → IfSome
          (if t then named p.0 (element_at es (count - 1 - place)) else Some p) (λ q. P q.1)
      within place true =
          named-holds p.0 (element_at es (count - 1 - place))
          (element-holds es (count - 1 - place) h)
      within place false = All-head (λ q. P q.1) p ps all

      by : (o : Option ℕ) → IfSome
          (option_map_or
          (λ place. if nat_lt place count then named p.0 (element_at es (count - 1 - place))
          else Some p) o (Some p)) (λ q. P q.1)
      by None = All-head (λ q. P q.1) p ps all
      by (Some place) = within place (nat_lt place count)

      step : (o : Option (List ℕ × Value)) → IfSome o (λ q. P q.1)
          → Holds (filter_map (turned count es) ps)
          → Holds (cons_option o (filter_map (turned count es) ps))
      step None one more = more
      step (Some q) one more =
          All-cons (λ r. P r.1) q (filter_map (turned count es) ps) one more

  new-holds : (es : List (List ℕ × Value)) (place other : ℕ) → Holds es
      → Holds (new_element es place other)
  new-holds es place other h = by (is_some (element_at es place))
    where
      by : (t : Bool) → Holds
          (if t then [] else option_to_list (named (decimal_digits place) (element_at es other)))
      by true = All-nil (λ p. P p.1)
      by false =
          All-some (λ p. P p.1) (named (decimal_digits place) (element_at es other))
          (named-holds (decimal_digits place) (element_at es other) (element-holds es other h))

  properties-hold : (count : ℕ) (es : List (List ℕ × Value)) → Holds es
      → Holds (turned_properties count es)
  unfolding turned_properties
  properties-hold count es h =
      All-append (λ p. P p.1) (filter_map (turned count es) es)
      (flat_map (new_elements count es) (range_with_len 0 (count / 2)))
      (turned-holds count es es h h)
      (All-flat_map (λ p. P p.1) (new_elements count es) (range_with_len 0 (count / 2))
      (λ place. All-append (λ p. P p.1) (new_element es place (count - 1 - place))
      (new_element es (count - 1 - place) place) (new-holds es place (count - 1 - place) h)
      (new-holds es (count - 1 - place) place h)))

  pub reversed-holds : (o : ObjectState) → Holds o.properties
      → Holds (turned_object o).properties
  reversed-holds o h = by o.array_length
    where
      by : (size : Option ℕ) → Holds
          (option_map_or (λ count. turned_properties count o.properties) size o.properties)
      by None = h
      by (Some count) = properties-hold count o.properties h
