-- The elements of an array that is turned round, each at its place.
use Rattle.std.proofs.Common.{◌≡◌, ℕ, zero, suc, ◌+◌, ◌-◌, ◌<◌, ◌≤◌, ◌/◌, Bool, true, false, List, [], ◌∷◌, ◌++◌, refl, sym, ◌∙◌, ap, arith, ⊎_elim}
use Rattle.std.specs.Prelude.{nat_eq, nat_lt, if◌then◌else◌, Option, Some, None, option_to_list, is_some}
use Rattle.std.specs.Option.{option_map_or}
use Rattle.std.specs.Map.{lookup}
use Rattle.std.specs.List.{cons_option, filter_map, flat_map, range_with_len}
use Rattle.std.proofs.lemmas.Bool.{cases_lt}
use Rattle.std.proofs.lemmas.Bool.Decides.{nat_tests}
use Rattle.std.proofs.lemmas.List.Concat.{flat_map-append}
use Rattle.bml_bytes.specs.Numerals.{decimal_digits, decimal_number}
use Rattle.bml_bytes.specs.Words.{is_same}
use Rattle.es_values.specs.declared.values.Value.{Value}
use Rattle.es_values.specs.Objects.{ObjectState}
use Rattle.es_values.specs.Heaps.{index_of}
use Rattle.es_values.specs.Arrays.{element_at, named, new_element, new_elements, turned, turned_object, turned_properties}
use Rattle.es_values.proofs.ArrayLemmas.{HasName, absent-append, absent-new, turned-name}
use Rattle.es_values.proofs.JoinLemmas.{index_of-digits}
use Rattle.es_values.proofs.LawLemmas.{same-itself}
use Rattle.es_values.proofs.SlotLemmas.{same-name}
use Rattle.es_values.proofs.TurnLemmas.{news}

-- Look-ups in two lists

first-of : {X : Type 0} → Option X → Option X → Option X
first-of None o = o
first-of (Some x) o = Some x

lookup-append : (test : List ℕ → Bool) (xs ys : List (List ℕ × Value)) → lookup test (xs ++ ys) ≡ first-of (lookup test xs) (lookup test ys)
unfolding first-of
lookup-append test [] ys = refl
lookup-append test (x ∷ xs) ys = by (test x.0) (lookup-append test xs ys)
  where
    by : (t : Bool) → lookup test (xs ++ ys) ≡ first-of (lookup test xs) (lookup test ys) → (if t then Some x.1 else lookup test (xs ++ ys)) ≡ first-of (if t then Some x.1 else lookup test xs) (lookup test ys)
    by true e = refl
    by false e = e

in-front : (test : List ℕ → Bool) (xs ys : List (List ℕ × Value)) → lookup test ys ≡ None → lookup test (xs ++ ys) ≡ lookup test xs
unfolding first-of
in-front test xs ys none = lookup-append test xs ys ∙ (ap (first-of (lookup test xs)) none ∙ by (lookup test xs))
  where
    by : (o : Option Value) → first-of o None ≡ o
    by None = refl
    by (Some v) = refl

behind : (test : List ℕ → Bool) (xs ys : List (List ℕ × Value)) → lookup test xs ≡ None → lookup test (xs ++ ys) ≡ lookup test ys
unfolding first-of
behind test xs ys none = lookup-append test xs ys ∙ ap (λ (o : Option Value). first-of o (lookup test ys)) none

-- What stands in place of an element that stands

stands-turned : ((n : ℕ) → decimal_number (decimal_digits n) ≡ n) → (count : ℕ) (es : List (List ℕ × Value)) (k : ℕ) → k < 2147483647 → k < count → (ps : List (List ℕ × Value)) → lookup (is_same (decimal_digits k)) (filter_map (turned count es) ps) ≡ (if is_some (lookup (is_same (decimal_digits k)) ps) then element_at es (count - 1 - k) else None)
stands-turned back count es k small below [] = refl
stands-turned back count es k small below (p ∷ ps) = by (is_same name p.0) refl (stands-turned back count es k small below ps)
  where
    name : List ℕ
    name = decimal_digits k

    value : Option Value
    value = element_at es (count - 1 - k)

    rest : List (List ℕ × Value)
    rest = filter_map (turned count es) ps

    becomes : is_same name p.0 ≡ true → turned count es p ≡ named p.0 value
    becomes e =
        ap (λ (o : Option ℕ). option_map_or (λ place. if nat_lt place count then named p.0 (element_at es (count - 1 - place)) else Some p) o (Some p)) (ap index_of (sym (same-name name p.0 e)) ∙ index_of-digits back k small)
        ∙ ap (λ t. if t then named p.0 value else Some p) within
      where
        within : nat_lt k count ≡ true
        within = grind (arith, nat_tests, below)

    here : (o : Option Value) → is_same name p.0 ≡ true → value ≡ o → lookup (is_same name) rest ≡ (if is_some (lookup (is_same name) ps) then value else None) → lookup (is_same name) (cons_option (named p.0 o) rest) ≡ o
    here None same is e = e ∙ none (is_some (lookup (is_same name) ps)) value is
      where
        none : (t : Bool) (o : Option Value) → o ≡ None → (if t then o else None) ≡ None
        none true o h = h
        none false o h = refl
    here (Some v) same is e = ap (λ t. if t then Some v else lookup (is_same name) rest) same

    other : (o : Option (List ℕ × Value)) → HasName p.0 o → is_same name p.0 ≡ false → lookup (is_same name) (cons_option o rest) ≡ lookup (is_same name) rest
    other None is apart = refl
    other (Some q) is apart = ap (λ t. if t then Some q.1 else lookup (is_same name) rest) (ap (is_same name) is ∙ apart)

    by : (t : Bool) → is_same name p.0 ≡ t → lookup (is_same name) rest ≡ (if is_some (lookup (is_same name) ps) then value else None) → lookup (is_same name) (cons_option (turned count es p) rest) ≡ (if is_some (if t then Some p.1 else lookup (is_same name) ps) then value else None)
    by true e more = ap (λ (o : Option (List ℕ × Value)). lookup (is_same name) (cons_option o rest)) (becomes e) ∙ here value e refl more
    by false e more = other (turned count es p) (turned-name count es p) e ∙ more

-- New elements

-- none has the name of an element that stands
new-stands : ((n : ℕ) → decimal_number (decimal_digits n) ≡ n) → (es : List (List ℕ × Value)) (k place other : ℕ) → is_some (element_at es k) ≡ true → lookup (is_same (decimal_digits k)) (new_element es place other) ≡ None
new-stands back es k place other there = by (nat_eq k place) refl
  where
    by : (t : Bool) → nat_eq k place ≡ t → lookup (is_same (decimal_digits k)) (new_element es place other) ≡ None
    by true e =
        let same : k ≡ place = grind (arith, nat_tests, e) in
        ap (λ t. lookup (is_same (decimal_digits k)) (if t then [] else option_to_list (named (decimal_digits place) (element_at es other)))) (ap (λ i. is_some (element_at es i)) (sym same) ∙ there)
    by false e =
        let apart : k ≡ place → ⊥ = λ same. differ k place e same in
        absent-new back es place other k apart
      where
        differ : (a b : ℕ) → nat_eq a b ≡ false → a ≡ b → ⊥
        differ a b e same = let t : nat_eq a b ≡ true = grind (arith, nat_tests, same) in absurd (cc (sym e ∙ t))

news-stand : ((n : ℕ) → decimal_number (decimal_digits n) ≡ n) → (count : ℕ) (es : List (List ℕ × Value)) (k from n : ℕ) → is_some (element_at es k) ≡ true → lookup (is_same (decimal_digits k)) (flat_map (new_elements count es) (range_with_len from n)) ≡ None
news-stand back count es k from zero there = refl
news-stand back count es k from (suc n) there =
    absent-append (is_same (decimal_digits k)) (new_elements count es from) (flat_map (new_elements count es) (range_with_len (from + 1) n))
    (absent-append (is_same (decimal_digits k)) (new_element es from (count - 1 - from)) (new_element es (count - 1 - from) from) (new-stands back es k from (count - 1 - from) there) (new-stands back es k (count - 1 - from) from there))
    (news-stand back count es k (from + 1) n there)

-- none has the name of an element at another place than these
news-apart : ((n : ℕ) → decimal_number (decimal_digits n) ≡ n) → (count : ℕ) (es : List (List ℕ × Value)) (k from n : ℕ) → ((j : ℕ) → from ≤ j → j < from + n → (k ≡ j → ⊥) × (k ≡ count - 1 - j → ⊥)) → lookup (is_same (decimal_digits k)) (flat_map (new_elements count es) (range_with_len from n)) ≡ None
news-apart back count es k from zero apart = refl
news-apart back count es k from (suc n) apart =
    let here = apart from (omega arith) (omega arith) in
    absent-append (is_same (decimal_digits k)) (new_elements count es from) (flat_map (new_elements count es) (range_with_len (from + 1) n))
    (absent-append (is_same (decimal_digits k)) (new_element es from (count - 1 - from)) (new_element es (count - 1 - from) from) (absent-new back es from (count - 1 - from) k here.0) (absent-new back es (count - 1 - from) from k here.1))
    (news-apart back count es k (from + 1) n (λ j low high. apart j (omega arith) (omega arith)))

-- a new element has the value of the other place
new-here : (es : List (List ℕ × Value)) (k other : ℕ) → element_at es k ≡ None → lookup (is_same (decimal_digits k)) (new_element es k other) ≡ element_at es other
new-here es k other none =
    ap (λ (o : Option Value). lookup (is_same (decimal_digits k)) (if is_some o then [] else option_to_list (named (decimal_digits k) (element_at es other)))) none
    ∙ by (element_at es other)
  where
    by : (o : Option Value) → lookup (is_same (decimal_digits k)) (option_to_list (named (decimal_digits k) o)) ≡ o
    by None = refl
    by (Some v) = ap (λ t. if t then Some v else None) (same-itself (decimal_digits k))

range-split : (from a b : ℕ) → range_with_len from (a + b) ≡ range_with_len from a ++ range_with_len (from + a) b
range-split from zero b =
    let n : zero + b ≡ b = omega arith in
    let m : from ≡ from + zero = omega arith in
    ap (range_with_len from) n ∙ ap (λ k. range_with_len k b) m
range-split from (suc a) b =
    let n : suc a + b ≡ suc (a + b) = omega arith in
    let m : from + 1 + a ≡ from + suc a = omega arith in
    ap (range_with_len from) n ∙ ap (λ l. from ∷ l) (range-split (from + 1) a b ∙ ap (λ k. range_with_len (from + 1) a ++ range_with_len k b) m)

-- the new elements in front of those of a place, those of the place, and those behind
news-split : (count : ℕ) (es : List (List ℕ × Value)) (a b : ℕ) → news count es (a + suc b) ≡ news count es a ++ (new_elements count es a ++ flat_map (new_elements count es) (range_with_len (a + 1) b))
news-split count es a b =
    let start : 0 + a ≡ a = omega arith in
    ap (flat_map (new_elements count es)) (range-split 0 a (suc b) ∙ ap (λ k. range_with_len 0 a ++ range_with_len k (suc b)) start)
    ∙ flat_map-append (new_elements count es) (range_with_len 0 a) (range_with_len a (suc b))

missing-at : ((n : ℕ) → decimal_number (decimal_digits n) ≡ n) → (count : ℕ) (es : List (List ℕ × Value)) (k a : ℕ) (value : Option Value) → a < count / 2 → ((j : ℕ) → j < count / 2 → (j ≡ a → ⊥) → (k ≡ j → ⊥) × (k ≡ count - 1 - j → ⊥)) → lookup (is_same (decimal_digits k)) (new_elements count es a) ≡ value → lookup (is_same (decimal_digits k)) (news count es (count / 2)) ≡ value
missing-at back count es k a value within apart here =
    let rest = flat_map (new_elements count es) (range_with_len (a + 1) (count / 2 - 1 - a)) in
    let whole : count / 2 ≡ a + suc (count / 2 - 1 - a) = omega arith in
    ap (λ n. lookup (is_same (decimal_digits k)) (news count es n)) whole
    ∙ (ap (lookup (is_same (decimal_digits k))) (news-split count es a (count / 2 - 1 - a))
    ∙ (behind (is_same (decimal_digits k)) (news count es a) (new_elements count es a ++ rest)
    (news-apart back count es k 0 a (λ j low high. apart j (omega arith) (λ same. omega arith)))
    ∙ (in-front (is_same (decimal_digits k)) (new_elements count es a) rest
    (news-apart back count es k (a + 1) (count / 2 - 1 - a) (λ j low high. apart j (omega arith) (λ same. omega arith)))
    ∙ here)))

missing-turned : ((n : ℕ) → decimal_number (decimal_digits n) ≡ n) → (count : ℕ) (es : List (List ℕ × Value)) (k : ℕ) → k < count → element_at es k ≡ None → lookup (is_same (decimal_digits k)) (news count es (count / 2)) ≡ element_at es (count - 1 - k)
missing-turned back count es k below none = ⊎_elim
    (λ (front : k < count / 2).
    missing-at back count es k k (element_at es (count - 1 - k)) front (λ j low other. (λ same. other (sym same), λ same. omega arith))
    (in-front (is_same (decimal_digits k)) (new_element es k (count - 1 - k)) (new_element es (count - 1 - k) k) (absent-new back es (count - 1 - k) k k (λ same. omega arith))
    ∙ new-here es k (count - 1 - k) none))
    (λ (far : count / 2 ≤ k). ⊎_elim
    (λ (end : count - 1 - k < count / 2).
    let other = count - 1 - k in
    let place : count - 1 - other ≡ k = omega arith in
    missing-at back count es k other (element_at es other) end (λ j low away. (λ same. omega arith, λ same. away (omega arith)))
    (behind (is_same (decimal_digits k)) (new_element es other (count - 1 - other)) (new_element es (count - 1 - other) other) (absent-new back es other (count - 1 - other) k (λ same. omega arith))
    ∙ (ap (λ i. lookup (is_same (decimal_digits k)) (new_element es i other)) place
    ∙ new-here es k other none)))
    (λ (middle : count / 2 ≤ count - 1 - k).
    let same : count - 1 - k ≡ k = omega arith in
    news-apart back count es k 0 (count / 2) (λ j low high. (λ e. omega arith, λ e. omega arith))
    ∙ (sym none ∙ ap (element_at es) (sym same)))
    (cases_lt (count - 1 - k) (count / 2)))
    (cases_lt k (count / 2))

pub turned-element : ((n : ℕ) → decimal_number (decimal_digits n) ≡ n) → (o : ObjectState) (count k : ℕ) → o.array_length ≡ Some count → count ≤ 2147483647 → k < count → element_at (turned_object o).properties k ≡ element_at o.properties (count - 1 - k)
unfolding turned_properties
turned-element back o count k size few below =
    ap (λ (a : Option ℕ). element_at (option_map_or (λ n. turned_properties n o.properties) a o.properties) k) size
    ∙ by (element_at o.properties k) refl
  where
    es : List (List ℕ × Value)
    es = o.properties

    front : List (List ℕ × Value)
    front = filter_map (turned count es) es

    stands : lookup (is_same (decimal_digits k)) front ≡ (if is_some (element_at es k) then element_at es (count - 1 - k) else None)
    stands = stands-turned back count es k (omega arith) below es

    by : (e : Option Value) → element_at es k ≡ e → element_at (front ++ news count es (count / 2)) k ≡ element_at es (count - 1 - k)
    by None e =
        behind (is_same (decimal_digits k)) front (news count es (count / 2)) (stands ∙ ap (λ (v : Option Value). if is_some v then element_at es (count - 1 - k) else None) e)
        ∙ missing-turned back count es k below e
    by (Some v) e =
        in-front (is_same (decimal_digits k)) front (news count es (count / 2)) (news-stand back count es k 0 (count / 2) (ap is_some e))
        ∙ (stands ∙ ap (λ (w : Option Value). if is_some w then element_at es (count - 1 - k) else None) e)

-- Every other name

turned-same : (count : ℕ) (es : List (List ℕ × Value)) (name : List ℕ) → index_of name ≡ None → (ps : List (List ℕ × Value)) → lookup (is_same name) (filter_map (turned count es) ps) ≡ lookup (is_same name) ps
turned-same count es name none [] = refl
turned-same count es name none (p ∷ ps) = by (is_same name p.0) refl (turned-same count es name none ps)
  where
    rest : List (List ℕ × Value)
    rest = filter_map (turned count es) ps

    stays : is_same name p.0 ≡ true → turned count es p ≡ Some p
    stays e =
        ap (λ (o : Option ℕ). option_map_or (λ place. if nat_lt place count then named p.0 (element_at es (count - 1 - place)) else Some p) o (Some p)) (ap index_of (sym (same-name name p.0 e)) ∙ none)

    other : (o : Option (List ℕ × Value)) → HasName p.0 o → is_same name p.0 ≡ false → lookup (is_same name) (cons_option o rest) ≡ lookup (is_same name) rest
    other None is apart = refl
    other (Some q) is apart = ap (λ t. if t then Some q.1 else lookup (is_same name) rest) (ap (is_same name) is ∙ apart)

    by : (t : Bool) → is_same name p.0 ≡ t → lookup (is_same name) rest ≡ lookup (is_same name) ps → lookup (is_same name) (cons_option (turned count es p) rest) ≡ (if t then Some p.1 else lookup (is_same name) ps)
    by true e more =
        ap (λ (o : Option (List ℕ × Value)). lookup (is_same name) (cons_option o rest)) (stays e)
        ∙ ap (λ t. if t then Some p.1 else lookup (is_same name) rest) e
    by false e more = other (turned count es p) (turned-name count es p) e ∙ more

name-apart : ((n : ℕ) → decimal_number (decimal_digits n) ≡ n) → (name : List ℕ) (i : ℕ) → index_of name ≡ None → i < 2147483647 → is_same name (decimal_digits i) ≡ false
name-apart back name i none small = by (is_same name (decimal_digits i)) refl
  where
    by : (t : Bool) → is_same name (decimal_digits i) ≡ t → is_same name (decimal_digits i) ≡ false
    by true e = let found = ap index_of (same-name name (decimal_digits i) e) ∙ index_of-digits back i small in absurd (cc (sym none ∙ found))
    by false e = e

new-other : ((n : ℕ) → decimal_number (decimal_digits n) ≡ n) → (es : List (List ℕ × Value)) (name : List ℕ) (place other : ℕ) → index_of name ≡ None → place < 2147483647 → lookup (is_same name) (new_element es place other) ≡ None
new-other back es name place other none small = by (is_some (element_at es place)) (element_at es other)
  where
    by : (t : Bool) (o : Option Value) → lookup (is_same name) (if t then [] else option_to_list (named (decimal_digits place) o)) ≡ None
    by true o = refl
    by false None = refl
    by false (Some v) = ap (λ t. if t then Some v else None) (name-apart back name place none small)

news-other : ((n : ℕ) → decimal_number (decimal_digits n) ≡ n) → (count : ℕ) (es : List (List ℕ × Value)) (name : List ℕ) (from n : ℕ) → index_of name ≡ None → count ≤ 2147483647 → from + n ≤ count / 2 → lookup (is_same name) (flat_map (new_elements count es) (range_with_len from n)) ≡ None
news-other back count es name from zero none few within = refl
news-other back count es name from (suc n) none few within =
    absent-append (is_same name) (new_elements count es from) (flat_map (new_elements count es) (range_with_len (from + 1) n))
    (absent-append (is_same name) (new_element es from (count - 1 - from)) (new_element es (count - 1 - from) from) (new-other back es name from (count - 1 - from) none (omega arith)) (new-other back es name (count - 1 - from) from none (omega arith)))
    (news-other back count es name (from + 1) n none few (omega arith))

pub turned-other_name : ((n : ℕ) → decimal_number (decimal_digits n) ≡ n) → (o : ObjectState) (count : ℕ) (name : List ℕ) → o.array_length ≡ Some count → count ≤ 2147483647 → index_of name ≡ None → lookup (is_same name) (turned_object o).properties ≡ lookup (is_same name) o.properties
unfolding turned_properties
turned-other_name back o count name size few none =
    ap (λ (a : Option ℕ). lookup (is_same name) (option_map_or (λ n. turned_properties n o.properties) a o.properties)) size
    ∙ (in-front (is_same name) (filter_map (turned count o.properties) o.properties) (news count o.properties (count / 2)) (news-other back count o.properties name 0 (count / 2) none few (omega arith))
    ∙ turned-same count o.properties name none o.properties)
