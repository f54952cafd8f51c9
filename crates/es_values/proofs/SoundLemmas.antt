-- That what a heap holds is live.
use Rattle.std.proofs.Common.{◌≡◌, ℕ, zero, suc, ◌<◌, ◌≤◌, Bool, true, false, List, [], ◌∷◌, ◌++◌, length, get_or, refl, sym, ◌∙◌, ap, subst, arith, length-append}
use Rattle.std.specs.Prelude.{All, Some, unwrap_or, if◌then◌else◌, slice_set as set, not, Result, Ok, Err, OnOk, OnErr}
use Rattle.std.specs.Map.{lookup, remove_entry}
use Rattle.std.proofs.Math.ListN.{length-set}
use Rattle.std.proofs.lemmas.List.Elements.{All-nil, All-cons, All-head, All-tail, All-set, All-push, All-weaker, All-filter}
use Rattle.std.proofs.lemmas.Option.{slice_get_read}
use Rattle.indexmap.specs.IndexMap.{insert_entry}
use Rattle.bml_bytes.specs.Words.{is_same}
use Rattle.es_values.specs.declared.numbers.Num.{Num}
use Rattle.es_values.specs.declared.numbers.Num.TheVariants.{NotANumber, Whole}
use Rattle.es_values.specs.declared.values.Value.{Value}
use Rattle.es_values.specs.declared.values.Value.TheVariants.{Undefined, Null, Bool as Boolean, Number, Str, Object, Function, Host}
use Rattle.es_values.specs.Values.{IsLiveAmong}
use Rattle.es_values.specs.Objects.{ObjectState}
use Rattle.es_values.specs.Heaps.{AreLiveAmong, IsSound, is_element_from, is_array_length, new_object, object_at, object_of, value_in, value_of, with_length, with_object, with_properties, with_property, without_property}
use Rattle.std.specs.Prelude.{pos, negsuc}

pub live-weaker : (m n : ℕ) (v : Value) → m ≤ n → IsLiveAmong m v → IsLiveAmong n v
live-weaker m n (Object k) h l = let small : k < m = l in omega arith
live-weaker m n Undefined h l = tt
live-weaker m n Null h l = tt
live-weaker m n (Boolean b) h l = tt
live-weaker m n (Number b) h l = tt
live-weaker m n (Str b) h l = tt
live-weaker m n (Function b) h l = tt
live-weaker m n (Host b) h l = tt

object-weaker : (m n : ℕ) (o : ObjectState) → m ≤ n → AreLiveAmong m o → AreLiveAmong n o
object-weaker m n o h l = All-weaker (λ p. IsLiveAmong m p.1) (λ p. IsLiveAmong n p.1) (λ p. live-weaker m n p.1 h) o.properties l

pub sound-add : (heap : List ObjectState) (o : ObjectState) → IsSound heap → AreLiveAmong (length heap) o → IsSound (heap ++ o ∷ [])
sound-add heap o h l =
    let n = length (heap ++ o ∷ []) in
    let more : length heap ≤ n = omega (arith, length-append heap (o ∷ [])) in
    All-push (AreLiveAmong n) heap o (All-weaker (AreLiveAmong (length heap)) (AreLiveAmong n) (λ x. object-weaker (length heap) n x more) heap h) (object-weaker (length heap) n o more l)

pub sound-new : (heap : List ObjectState) (array : Bool) → IsSound heap → IsSound (heap ++ new_object array ∷ [])
sound-new heap array h = sound-add heap (new_object array) h (All-nil (λ p. IsLiveAmong (length heap) p.1))

pub sound-set : (heap : List ObjectState) (i : ℕ) (o : ObjectState) → IsSound heap → AreLiveAmong (length heap) o → IsSound (set heap i o)
sound-set heap i o h l =
    subst (λ n. All (AreLiveAmong n) (set heap i o)) (sym (length-set heap i o)) (All-set (AreLiveAmong (length heap)) heap i o l h)

pub inserted : (P : Value → Type 0) (es : List (List ℕ × Value)) (name : List ℕ) (v : Value) → All (λ p. P p.1) es → P v → All (λ p. P p.1) (insert_entry is_same es name v)
inserted P [] name v h l = All-cons (λ p. P p.1) (name, v) [] l h
inserted P (e ∷ es) name v h l =
    by (is_same name e.0) (inserted P es name v (All-tail (λ p. P p.1) e es h) l)
  where
    by : (t : Bool) → All (λ p. P p.1) (insert_entry is_same es name v) → All (λ p. P p.1) (if t then (e.0, v) ∷ es else e ∷ insert_entry is_same es name v)
    by true more = All-cons (λ p. P p.1) (e.0, v) es l (All-tail (λ p. P p.1) e es h)
    by false more = All-cons (λ p. P p.1) e (insert_entry is_same es name v) (All-head (λ p. P p.1) e es h) more

removed : (n : ℕ) (es : List (List ℕ × Value)) (name : List ℕ) → All (λ p. IsLiveAmong n p.1) es → All (λ p. IsLiveAmong n p.1) (remove_entry (is_same name) es)
removed n [] name h = h
removed n (e ∷ es) name h =
    by (is_same name e.0) (removed n es name (All-tail (λ p. IsLiveAmong n p.1) e es h))
  where
    by : (t : Bool) → All (λ p. IsLiveAmong n p.1) (remove_entry (is_same name) es) → All (λ p. IsLiveAmong n p.1) (if t then es else e ∷ remove_entry (is_same name) es)
    by true more = All-tail (λ p. IsLiveAmong n p.1) e es h
    by false more = All-cons (λ p. IsLiveAmong n p.1) e (remove_entry (is_same name) es) (All-head (λ p. IsLiveAmong n p.1) e es h) more

pub live-with_property : (n : ℕ) (o : ObjectState) (name : List ℕ) (v : Value) → AreLiveAmong n o → IsLiveAmong n v → AreLiveAmong n (with_property o name v)
live-with_property n o name v h l = inserted (IsLiveAmong n) o.properties name v h l

pub live-with_properties : (n : ℕ) (o : ObjectState) (ps : List (List ℕ × Value)) → AreLiveAmong n o → All (λ p. IsLiveAmong n p.1) ps → AreLiveAmong n (with_properties o ps)
live-with_properties n o [] h all = h
live-with_properties n o (p ∷ ps) h all =
    live-with_properties n (with_property o p.0 p.1) ps
    (live-with_property n o p.0 p.1 h (All-head (λ p. IsLiveAmong n p.1) p ps all))
    (All-tail (λ p. IsLiveAmong n p.1) p ps all)

pub sound-object : (heap : List ObjectState) (ps : List (List ℕ × Value)) → IsSound heap → All (λ p. IsLiveAmong (length heap) p.1) ps → IsSound (heap ++ object_of ps ∷ [])
sound-object heap ps h all =
    sound-add heap (object_of ps) h
    (live-with_properties (length heap) (new_object false) ps
    (All-nil (λ p. IsLiveAmong (length heap) p.1)) all)

-- one more property
pub properties-put : (o : ObjectState) (ps : List (List ℕ × Value)) (p : List ℕ × Value) → with_properties o (ps ++ p ∷ []) ≡ with_property (with_properties o ps) p.0 p.1
properties-put o [] p = refl
properties-put o (q ∷ ps) p = properties-put (with_property o q.0 q.1) ps p

pub live-with_length : (n : ℕ) (o : ObjectState) (number : Num) → AreLiveAmong n o → AreLiveAmong n (with_length o number)
live-with_length n o NotANumber h = h
live-with_length n o (Whole (negsuc k)) h = h
live-with_length n o (Whole (pos k)) h = All-filter (λ p. not (is_element_from k p)) (λ p. IsLiveAmong n p.1) o.properties h

pub live-without : (n : ℕ) (o : ObjectState) (name : List ℕ) → AreLiveAmong n o → AreLiveAmong n (without_property o name)
live-without n o name h = by (is_array_length o name)
  where
    by : (t : Bool) → AreLiveAmong n (if t then o else record { array_length = o.array_length; properties = remove_entry (is_same name) o.properties })
    by true = h
    by false = removed n o.properties name h

pub value-in : (P : Value → Type 0) (es : List (List ℕ × Value)) (name : List ℕ) → P Undefined → All (λ p. P p.1) es → P (value_in es name)
value-in P [] name u h = u
value-in P (e ∷ es) name u h = by (is_same name e.0) (value-in P es name u (All-tail (λ p. P p.1) e es h))
  where
    by : (t : Bool) → P (value_in es name) → P (unwrap_or (if t then Some e.1 else lookup (is_same name) es) Undefined)
    by true more = All-head (λ p. P p.1) e es h
    by false more = more

live-of : (n : ℕ) (o : ObjectState) (name : List ℕ) → AreLiveAmong n o → IsLiveAmong n (value_of o name)
live-of n o name h = by (is_array_length o name)
  where
    by : (t : Bool) → IsLiveAmong n (if t then Number (Whole (pos (unwrap_or o.array_length 0))) else value_in o.properties name)
    by true = tt
    by false = value-in (IsLiveAmong n) o.properties name tt h

live-among : (n : ℕ) (l : List ObjectState) (k : ℕ) → All (AreLiveAmong n) l → AreLiveAmong n (object_at l k)
live-among n [] k h = All-nil (λ p. IsLiveAmong n p.1)
live-among n (o ∷ l) zero h = All-head (AreLiveAmong n) o l h
live-among n (o ∷ l) (suc k) h = live-among n l k (All-tail (AreLiveAmong n) o l h)

pub live-at : (heap : List ObjectState) (i : ℕ) → IsSound heap → AreLiveAmong (length heap) (object_at heap i)
live-at heap i h = live-among (length heap) heap i h

pub live-value : (heap : List ObjectState) (i : ℕ) (name : List ℕ) → IsSound heap → IsLiveAmong (length heap) (value_of (object_at heap i) name)
live-value heap i name h = live-of (length heap) (object_at heap i) name (live-at heap i h)

-- One object is changed, which was read at its place

pub object-read : (heap inside : List ObjectState) (i : ℕ) (x : ObjectState) → inside ≡ heap → i < length heap → x ≡ get_or inside i x → x ≡ object_at heap i
object-read heap inside i x e within there =
    let there' : x ≡ get_or heap i x = subst (λ l. x ≡ get_or l i x) e there in
    sym (ap (λ o. unwrap_or o (new_object false)) (slice_get_read heap (length heap) i x refl within there'))

pub set-read : (heap inside : List ObjectState) (i : ℕ) (x new : ObjectState) (f : ObjectState → ObjectState) → inside ≡ heap → i < length heap → x ≡ get_or inside i x → new ≡ f x → set inside i new ≡ with_object heap i (f (object_at heap i))
set-read heap inside i x new f e within there step =
    ap (λ l. set l i new) e ∙ ap (set heap i) (step ∙ ap f (object-read heap inside i x e within there))

pub sound-read : (heap inside : List ObjectState) (i : ℕ) (x new : ObjectState) (f : ObjectState → ObjectState) → IsSound inside → inside ≡ heap → i < length heap → x ≡ get_or inside i x → new ≡ f x → (AreLiveAmong (length inside) (object_at inside i) → AreLiveAmong (length inside) (f (object_at inside i))) → IsSound (set inside i new)
sound-read heap inside i x new f h e within there step keeps =
    let within' : i < length inside = omega (arith, ap length e) in
    let is : x ≡ object_at inside i = object-read inside inside i x refl within' there in
    subst (λ o. IsSound (set inside i o)) (sym (step ∙ ap f is)) (sound-set inside i (f (object_at inside i)) h (keeps (live-at inside i h)))

pub sound-read_if : {A E : Type 0} (r : Result A E) (heap inside : List ObjectState) (i : ℕ) (x new : ObjectState) (f : ObjectState → ObjectState) → IsSound inside → inside ≡ heap → i < length heap → x ≡ get_or inside i x → OnOk r (new ≡ f x) → OnErr r (new ≡ x) → (AreLiveAmong (length inside) (object_at inside i) → AreLiveAmong (length inside) (f (object_at inside i))) → IsSound (set inside i new)
sound-read_if (Ok a) heap inside i x new f h e within there step stays keeps = sound-read heap inside i x new f h e within there step keeps
sound-read_if (Err a) heap inside i x new f h e within there step stays keeps = sound-read heap inside i x new (λ o. o) h e within there stays (λ live. live)
