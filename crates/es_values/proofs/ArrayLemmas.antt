-- Elements of arrays: their list, a list as the elements, and their order turned round.
use Rattle.std.proofs.Common.{◌≡◌, ℕ, zero, suc, ◌+◌, ◌-◌, ◌<◌, Bool, true, false, List, [], ◌∷◌, ◌++◌, length, refl, sym, ◌∙◌, ap, arith, add-one}
use Rattle.std.specs.Prelude.{nat_lt, if◌then◌else◌, Option, Some, None, option_to_list, is_some, IfSome}
use Rattle.std.specs.Option.{option_map_or}
use Rattle.std.specs.Map.{lookup}
use Rattle.std.specs.List.{cons_option, filter_map, flat_map, range_with_len}
use Rattle.std.proofs.lemmas.List.Elements.{filter_map-append}
use Rattle.indexmap.specs.IndexMap.{insert_all, insert_entry}
use Rattle.bml_bytes.specs.Numerals.{decimal_digits, decimal_number}
use Rattle.bml_bytes.specs.Words.{is_same}
use Rattle.es_values.specs.declared.values.Value.{Value}
use Rattle.es_values.specs.Objects.{ObjectState}
use Rattle.es_values.specs.Heaps.{cut_at, index_of, with_property}
use Rattle.es_values.specs.Arrays.{element_at, elements_below, named, new_element, new_elements, turned, with_elements, with_first_elements}
use Rattle.es_values.specs.Slots.{placed}
use Rattle.es_values.proofs.JoinLemmas.{digits-other}

-- Lists

range-more : (from n : ℕ) → range_with_len from (suc n) ≡ range_with_len from n ++ (from + n) ∷ []
range-more from zero = let e : from ≡ from + 0 = omega arith in ap (λ k. k ∷ []) e
range-more from (suc n) =
    let e : from + 1 + n ≡ from + suc n = omega arith in
    ap (λ l. from ∷ l) (range-more (from + 1) n ∙ ap (λ k. range_with_len (from + 1) n ++ k ∷ []) e)

pub range-next : (n : ℕ) → range_with_len 0 (n + 1) ≡ range_with_len 0 n ++ n ∷ []
range-next n = let e : 0 + n ≡ n = omega arith in rw add-one (range-more 0 n ∙ ap (λ k. range_with_len 0 n ++ k ∷ []) e)

pub filter_map-last : {X Y : Type 0} (f : X → Option Y) (xs : List X) (x : X) → filter_map f (xs ++ x ∷ []) ≡ filter_map f xs ++ option_to_list (f x)
filter_map-last f xs x = filter_map-append f xs (x ∷ []) ∙ ap (λ l. filter_map f xs ++ l) (by (f x))
  where
    by : {Y : Type 0} (o : Option Y) → cons_option o [] ≡ option_to_list o
    by None = refl
    by (Some y) = refl

pub elements-next : (es : List (List ℕ × Value)) (place : ℕ) (old new : List Value) → new ≡ old ++ option_to_list (element_at es place) → old ≡ elements_below place es → new ≡ elements_below (place + 1) es
elements-next es place old new step e =
    step ∙ (ap (λ l. l ++ option_to_list (element_at es place)) e
    ∙ (sym (filter_map-last (element_at es) (range_with_len 0 place) place)
    ∙ ap (filter_map (element_at es)) (sym (range-next place))))

-- A name that is absent

lookup-first : {X : Type 0} (t : Bool) (x : X) (o : Option X) → (if t then Some x else o) ≡ None → (t ≡ false) × (o ≡ None)
lookup-first true x o h = absurd (cc h)
lookup-first false x o h = (refl, h)

pub absent-rest : (test : List ℕ → Bool) (e : List ℕ × Value) (es : List (List ℕ × Value)) → lookup test (e ∷ es) ≡ None → (test e.0 ≡ false) × (lookup test es ≡ None)
absent-rest test e es h = lookup-first (test e.0) e.1 (lookup test es) h

pub absent-cons : (test : List ℕ → Bool) (e : List ℕ × Value) (es : List (List ℕ × Value)) → test e.0 ≡ false → lookup test es ≡ None → lookup test (e ∷ es) ≡ None
absent-cons test e es h none = ap (λ b. if b then Some e.1 else lookup test es) h ∙ none

pub absent-append : (test : List ℕ → Bool) (es fs : List (List ℕ × Value)) → lookup test es ≡ None → lookup test fs ≡ None → lookup test (es ++ fs) ≡ None
absent-append test [] fs h k = k
absent-append test (e ∷ es) fs h k =
    let parts = absent-rest test e es h in
    absent-cons test e (es ++ fs) parts.0 (absent-append test es fs parts.1 k)

pub insert-new : (es : List (List ℕ × Value)) (name : List ℕ) (v : Value) → lookup (is_same name) es ≡ None → insert_entry is_same es name v ≡ es ++ (name, v) ∷ []
insert-new [] name v h = refl
insert-new (e ∷ es) name v h =
    let parts = absent-rest (is_same name) e es h in
    ap (λ b. if b then (e.0, v) ∷ es else e ∷ insert_entry is_same es name v) parts.0 ∙ ap (λ l. e ∷ l) (insert-new es name v parts.1)

-- Elements turned round

-- what stands of a property has its name
abbrev pub HasName : List ℕ → Option (List ℕ × Value) → Type 0
HasName name o = IfSome o (λ p. p.0 ≡ name)

pub named-name : (name : List ℕ) (v : Option Value) → HasName name (named name v)
named-name name None = tt
named-name name (Some v) = refl

pub turned-name : (count : ℕ) (es : List (List ℕ × Value)) (p : List ℕ × Value) → HasName p.0 (turned count es p)
turned-name count es p = by (index_of p.0)
  where
    within : (place : ℕ) (t : Bool) → HasName p.0 (if t then named p.0 (element_at es (count - 1 - place)) else Some p)
    within place true = named-name p.0 (element_at es (count - 1 - place))
    within place false = refl

    by : (o : Option ℕ) → HasName p.0 (option_map_or (λ place. if nat_lt place count then named p.0 (element_at es (count - 1 - place)) else Some p) o (Some p))
    by None = refl
    by (Some place) = within place (nat_lt place count)

pub absent-turned : (count : ℕ) (es : List (List ℕ × Value)) (name : List ℕ) (ps : List (List ℕ × Value)) → lookup (is_same name) ps ≡ None → lookup (is_same name) (filter_map (turned count es) ps) ≡ None
absent-turned count es name [] h = h
absent-turned count es name (p ∷ ps) h =
    let parts = absent-rest (is_same name) p ps h in
    by (turned count es p) (turned-name count es p) parts.0 (absent-turned count es name ps parts.1)
  where
    by : (o : Option (List ℕ × Value)) → HasName p.0 o → is_same name p.0 ≡ false → lookup (is_same name) (filter_map (turned count es) ps) ≡ None → lookup (is_same name) (cons_option o (filter_map (turned count es) ps)) ≡ None
    by None same apart more = more
    by (Some q) same apart more = absent-cons (is_same name) q (filter_map (turned count es) ps) (ap (is_same name) same ∙ apart) more

-- New elements

pub absent-new : ((n : ℕ) → decimal_number (decimal_digits n) ≡ n) → (es : List (List ℕ × Value)) (place other i : ℕ) → (i ≡ place → ⊥) → lookup (is_same (decimal_digits i)) (new_element es place other) ≡ None
absent-new back es place other i apart = by (is_some (element_at es place)) (element_at es other)
  where
    by : (t : Bool) (o : Option Value) → lookup (is_same (decimal_digits i)) (if t then [] else option_to_list (named (decimal_digits place) o)) ≡ None
    by true o = refl
    by false None = refl
    by false (Some v) = absent-cons (is_same (decimal_digits i)) (decimal_digits place, v) [] (digits-other back i place apart) refl

pub absent-news : ((n : ℕ) → decimal_number (decimal_digits n) ≡ n) → (count : ℕ) (es : List (List ℕ × Value)) (i from n : ℕ) → ((j : ℕ) → j < from + n → (i ≡ j → ⊥) × (i ≡ count - 1 - j → ⊥)) → lookup (is_same (decimal_digits i)) (flat_map (new_elements count es) (range_with_len from n)) ≡ None
absent-news back count es i from zero apart = refl
absent-news back count es i from (suc n) apart =
    let here = apart from (omega arith) in
    let rest = flat_map (new_elements count es) (range_with_len (from + 1) n) in
    absent-append (is_same (decimal_digits i)) (new_elements count es from) rest
    (absent-append (is_same (decimal_digits i)) (new_element es from (count - 1 - from)) (new_element es (count - 1 - from) from) (absent-new back es from (count - 1 - from) i here.0) (absent-new back es (count - 1 - from) from i here.1))
    (absent-news back count es i (from + 1) n (λ j below. apart j (omega arith)))

-- Values as elements

pub elements-put : (o : ObjectState) (place : ℕ) (vs : List Value) (v : Value) → with_elements o place (vs ++ v ∷ []) ≡ with_property (with_elements o place vs) (decimal_digits (place + length vs)) v
elements-put o place [] v = let e : place ≡ place + 0 = omega arith in ap (λ k. with_property o (decimal_digits k) v) e
elements-put o place (w ∷ vs) v =
    let e : place + 1 + length vs ≡ place + suc (length vs) = omega arith in
    elements-put (with_property o (decimal_digits place) w) (place + 1) vs v
    ∙ ap (λ k. with_property (with_elements o place (w ∷ vs)) (decimal_digits k) v) e

elements-insert : (o : ObjectState) (place : ℕ) (vs : List Value) → (with_elements o place vs).properties ≡ insert_all is_same o.properties (placed place vs)
elements-insert o place [] = refl
elements-insert o place (v ∷ vs) = elements-insert (with_property o (decimal_digits place) v) (place + 1) vs

-- the values go into an object as its elements, and all behind them go
pub first-elements : (o : ObjectState) (vs : List Value) (size : Option ℕ) (from to left : List (List ℕ × Value)) (count : ℕ) → (record { array_length = size; properties = from }) ≡ o → to ≡ insert_all is_same from (placed 0 vs) → left ≡ cut_at count to → count ≡ length vs → (record { array_length = size; properties = left }) ≡ with_first_elements o vs
first-elements o vs size from to left count is step less n =
    let all : to ≡ (with_elements o 0 vs).properties =
    step ∙ (ap (λ (x : ObjectState). insert_all is_same x.properties (placed 0 vs)) is
    ∙ sym (elements-insert o 0 vs)) in
    let rest : left ≡ cut_at (length vs) (with_elements o 0 vs).properties = less ∙ (ap (cut_at count) all ∙ ap (λ k. cut_at k (with_elements o 0 vs).properties) n) in
    ap (λ (l : List (List ℕ × Value)). record { array_length = size; properties = l }) rest
    ∙ ap (λ (k : Option ℕ). record { array_length = k; properties = cut_at (length vs) (with_elements o 0 vs).properties }) (ap (λ (x : ObjectState). x.array_length) is)

pub elements-next_put : (o done next : ObjectState) (yielded : List Value) (v : Value) (place : ℕ) (name : List ℕ) → done ≡ with_elements o 0 yielded → place ≡ length yielded → name ≡ decimal_digits place → next ≡ with_property done name v → next ≡ with_elements o 0 (yielded ++ v ∷ [])
elements-next_put o done next yielded v place name e counted named step =
    let at : place ≡ 0 + length yielded = omega arith in
    step ∙ (ap (λ (d : ObjectState). with_property d name v) e
    ∙ (ap (λ (n : List ℕ). with_property (with_elements o 0 yielded) n v) (named ∙ ap decimal_digits at)
    ∙ sym (elements-put o 0 yielded v)))
