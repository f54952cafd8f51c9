-- What each value of a heap is, those of the heaps that become of it are, and what is read from it.
use Rattle.std.proofs.Common.{ℕ, zero, suc, Bool, true, false, List, [], ◌∷◌, ◌++◌}
use Rattle.std.specs.Prelude.{All, if◌then◌else◌, pos, unwrap_or, not, filter}
use Rattle.std.specs.Map.{remove_entry}
use Rattle.std.proofs.lemmas.List.Elements.{All-append, All-cons, All-filter, All-head, All-nil, All-push, All-set, All-tail}
use Rattle.bml_bytes.specs.Words.{is_same}
use Rattle.es_values.specs.declared.numbers.Num.{Num}
use Rattle.es_values.specs.declared.numbers.Num.TheVariants.{Whole}
use Rattle.es_values.specs.declared.values.Value.{Value}
use Rattle.es_values.specs.declared.values.Value.TheVariants.{Undefined, Number}
use Rattle.es_values.specs.Conversions.{number_of}
use Rattle.es_values.specs.Heaps.{is_array_length, object_at, value_in, value_of, with_length, with_object, with_property, without_property}
use Rattle.es_values.specs.Objects.{ObjectState}
use Rattle.es_values.specs.Operators.{put_in, with_put}
use Rattle.es_builtins.specs.Arrays.{by_text, comes_after, is_undefined, put_among, sorted}
use Rattle.script_laws.proofs.ListLemmas.{Holds, length-holds, removed-holds, value-holds, written-holds}

module _ (P : Value → Type 0) where
  abbrev pub HeapHolds : List ObjectState → Type 0
  HeapHolds heap = All (λ object. Holds P object.properties) heap

  pub object-holds : (heap : List ObjectState) (i : ℕ) → HeapHolds heap
      → Holds P (object_at heap i).properties
  object-holds [] i h = All-nil (λ p. P p.1)
  object-holds (o ∷ heap) zero h = All-head (λ object. Holds P object.properties) o heap h
  object-holds (o ∷ heap) (suc i) h =
      object-holds heap i (All-tail (λ object. Holds P object.properties) o heap h)

  pub read-holds : (heap : List ObjectState) (i : ℕ) (name : List ℕ) → P Undefined
      → ((number : Num) → P (Number number)) → HeapHolds heap
      → P (value_of (object_at heap i) name)
  read-holds heap i name u n h = by (is_array_length (object_at heap i) name)
    where
      by : (t : Bool)
          → P (if t then Number (Whole (pos (unwrap_or (object_at heap i).array_length 0)))
          else value_in (object_at heap i).properties name)
      by true = n _
      by false = value-holds P (object_at heap i).properties name u (object-holds heap i h)

  pub set-holds : (heap : List ObjectState) (i : ℕ) (o : ObjectState) → HeapHolds heap
      → Holds P o.properties → HeapHolds (with_object heap i o)
  set-holds heap i o h l = All-set (λ object. Holds P object.properties) heap i o l h

  pub put-holds : (heap : List ObjectState) (i : ℕ) (name : List ℕ) (v : Value) → HeapHolds heap
      → P v → HeapHolds (with_put heap i name v)
  put-holds heap i name v h l =
      set-holds heap i (put_in heap (object_at heap i) name v) h
      (by (is_array_length (object_at heap i) name))
    where
      by : (t : Bool) → Holds P
          (if t then with_length (object_at heap i) (number_of heap v)
          else with_property (object_at heap i) name v).properties
      by true = length-holds P (object_at heap i) (number_of heap v) (object-holds heap i h)
      by false = written-holds P (object_at heap i).properties name v (object-holds heap i h) l

  pub deleted-holds : (heap : List ObjectState) (i : ℕ) (name : List ℕ) → HeapHolds heap
      → HeapHolds (with_object heap i (without_property (object_at heap i) name))
  deleted-holds heap i name h =
      set-holds heap i (without_property (object_at heap i) name) h
      (by (is_array_length (object_at heap i) name))
    where
      by : (t : Bool) → Holds P (if t then object_at heap i else record {
        array_length = (object_at heap i).array_length;
        properties = remove_entry (is_same name) (object_at heap i).properties;
      }).properties
      by true = object-holds heap i h
      by false = removed-holds P (object_at heap i).properties name (object-holds heap i h)

  pub added-holds : (heap : List ObjectState) (o : ObjectState) → HeapHolds heap
      → Holds P o.properties → HeapHolds (heap ++ o ∷ [])
  added-holds heap o h l = All-push (λ object. Holds P object.properties) heap o h l

  -- ---- sorted values

  put-all : (heap : List ObjectState) (v : Value) (ws : List Value) → P v → All P ws
      → All P (put_among heap v ws)
  put-all heap v [] h all = All-cons P v [] h (All-nil P)
  put-all heap v (w ∷ ws) h all =
      by (comes_after heap v w) (put-all heap v ws h (All-tail P w ws all))
    where
      by : (b : Bool) → All P (put_among heap v ws)
          → All P (if b then w ∷ put_among heap v ws else v ∷ (w ∷ ws))
      by true more = All-cons P w (put_among heap v ws) (All-head P w ws all) more
      by false more = All-cons P v (w ∷ ws) h all

  by_text-all : (heap : List ObjectState) (vs : List Value) → All P vs → All P (by_text heap vs)
  by_text-all heap [] all = All-nil P
  by_text-all heap (v ∷ vs) all =
      put-all heap v (by_text heap vs) (All-head P v vs all)
      (by_text-all heap vs (All-tail P v vs all))

  pub sorted-all : (heap : List ObjectState) (vs : List Value) → All P vs
      → All P (sorted heap vs)
  unfolding sorted
  sorted-all heap vs all =
      All-append P (by_text heap (filter (λ value. not (is_undefined value)) vs))
      (filter is_undefined vs)
      (by_text-all heap (filter (λ value. not (is_undefined value)) vs)
      (All-filter (λ value. not (is_undefined value)) P vs all))
      (All-filter is_undefined P vs all)
