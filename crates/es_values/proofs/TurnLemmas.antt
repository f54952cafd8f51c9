-- The elements of an array turned round, one after the other.
use Rattle.std.proofs.Common.{◌≡◌, ℕ, zero, suc, ◌+◌, ◌-◌, ◌<◌, ◌≤◌, ◌/◌, Bool, true, false, List, [], ◌∷◌, ◌++◌, map, refl, sym, ◌∙◌, ap, arith, append_assoc}
use Rattle.std.specs.Prelude.{nat_lt, if◌then◌else◌, Option, Some, None, option_to_list, is_some, slice_set}
use Rattle.std.specs.Option.{option_map_or}
use Rattle.std.specs.Map.{lookup, remove_entry, set_value}
use Rattle.std.specs.List.{AllByRecursion, cons_option, filter_map, flat_map, range_with_len}
use Rattle.std.proofs.lemmas.Bool.Decides.{nat_tests}
use Rattle.std.proofs.lemmas.List.{append-nil}
use Rattle.std.proofs.lemmas.List.Concat.{flat_map-append}
use Rattle.std.proofs.lemmas.Map.Keys.{IsDistinct-head, IsDistinct-tail}
use Rattle.indexmap.specs.IndexMap.{insert_all, insert_entry}
use Rattle.bml_bytes.specs.Numerals.{decimal_digits, decimal_number}
use Rattle.bml_bytes.specs.Words.{is_same}
use Rattle.es_values.specs.declared.values.Value.{Value}
use Rattle.es_values.specs.Heaps.{index_of}
use Rattle.es_values.specs.Arrays.{element_at, named, new_element, new_elements, turned_properties}
use Rattle.es_values.specs.Slots.{HaveOwnNames, place_of, standing}
use Rattle.es_values.specs.devices.Turning.{all_changed, change_at, changed, changes_below, turned_below}
use Rattle.es_values.proofs.ArrayLemmas.{HasName, absent-append, absent-new, absent-news, absent-rest, filter_map-last, insert-new, named-name, range-next}
use Rattle.es_values.proofs.JoinLemmas.{index_of-digits, index_of-is}
use Rattle.es_values.proofs.LawLemmas.{same-itself}
use Rattle.es_values.proofs.SlotLemmas.{place-standing, same-name, standing-replaced}

-- Another value for a name that stands

inserted-set : (es : List (List ℕ × Value)) (name : List ℕ) (v : Value) → is_some (lookup (is_same name) es) ≡ true → insert_entry is_same es name v ≡ set_value (is_same name) es v
inserted-set [] name v there = absurd (cc there)
inserted-set (e ∷ es) name v there = by (is_same name e.0) there (inserted-set es name v)
  where
    by : (t : Bool) → is_some (if t then Some e.1 else lookup (is_same name) es) ≡ true → (is_some (lookup (is_same name) es) ≡ true → insert_entry is_same es name v ≡ set_value (is_same name) es v) → (if t then (e.0, v) ∷ es else e ∷ insert_entry is_same es name v) ≡ (if t then (e.0, v) ∷ es else e ∷ set_value (is_same name) es v)
    by true h more = refl
    by false h more = ap (λ l. e ∷ l) (more h)

there-of : (name : List ℕ) (slots : List (Option (List ℕ × Value))) (i : ℕ) → place_of name slots ≡ Some i → is_some (lookup (is_same name) (standing slots)) ≡ true
there-of name slots i at = sym (place-standing name slots) ∙ ap is_some at

pub standing-inserted : (name : List ℕ) (v : Value) (slots : List (Option (List ℕ × Value))) (i : ℕ) → place_of name slots ≡ Some i → (standing (slice_set slots i (Some (name, v))) ≡ insert_entry is_same (standing slots) name v) × (is_some (lookup (is_same name) (standing slots)) ≡ true)
standing-inserted name v slots i at = (standing-replaced name v slots i at, there-of name slots i at)

pub standing-set : (name : List ℕ) (v : Value) (slots : List (Option (List ℕ × Value))) (i : ℕ) → place_of name slots ≡ Some i → standing (slice_set slots i (Some (name, v))) ≡ set_value (is_same name) (standing slots) v
standing-set name v slots i at = standing-replaced name v slots i at ∙ inserted-set (standing slots) name v (there-of name slots i at)

pub set-nothing : (name : List ℕ) (v : Value) (es : List (List ℕ × Value)) → lookup (is_same name) es ≡ None → es ≡ set_value (is_same name) es v
set-nothing name v [] h = refl
set-nothing name v (e ∷ es) h =
    let parts = absent-rest (is_same name) e es h in
    ap (λ l. e ∷ l) (set-nothing name v es parts.1)
    ∙ sym (ap (λ t. if t then (e.0, v) ∷ es else e ∷ set_value (is_same name) es v) parts.0)

-- One change

changed-other : (name : List ℕ) (o : Option Value) (q : List ℕ × Value) (xs : List (List ℕ × Value)) → is_same name q.0 ≡ false → changed (q ∷ xs) (name, o) ≡ q ∷ changed xs (name, o)
changed-other name None q xs h = ap (λ t. if t then xs else q ∷ remove_entry (is_same name) xs) h
changed-other name (Some v) q xs h = ap (λ t. if t then (q.0, v) ∷ xs else q ∷ set_value (is_same name) xs v) h

changed-here : (name : List ℕ) (o : Option Value) (p : List ℕ × Value) (xs : List (List ℕ × Value)) → is_same name p.0 ≡ true → changed (p ∷ xs) (name, o) ≡ cons_option (named p.0 o) xs
changed-here name None p xs h = ap (λ t. if t then xs else p ∷ remove_entry (is_same name) xs) h
changed-here name (Some v) p xs h = ap (λ t. if t then (p.0, v) ∷ xs else p ∷ set_value (is_same name) xs v) h

all_changed-append : (xs : List (List ℕ × Value)) (cs ds : List (List ℕ × Option Value)) → all_changed xs (cs ++ ds) ≡ all_changed (all_changed xs cs) ds
all_changed-append xs [] ds = refl
all_changed-append xs (c ∷ cs) ds = all_changed-append (changed xs c) cs ds

pub changed-next : (xs done next : List (List ℕ × Value)) (cs : List (List ℕ × Option Value)) (c : List ℕ × Option Value) → next ≡ changed done c → done ≡ all_changed xs cs → next ≡ all_changed xs (cs ++ c ∷ [])
changed-next xs done next cs c step e = step ∙ (ap (λ (l : List (List ℕ × Value)). changed l c) e ∙ sym (all_changed-append xs cs (c ∷ [])))

-- What a change makes of the properties

apart-of : (k : ℕ) (p : List ℕ × Value) → is_same (decimal_digits k) p.0 ≡ false → index_of p.0 ≡ Some k → ⊥
apart-of k p h at =
    let same = (index_of-is p.0 k at).0 in
    let itself : is_same (decimal_digits k) p.0 ≡ true = ap (is_same (decimal_digits k)) same ∙ same-itself (decimal_digits k) in
    absurd (cc (sym h ∙ itself))

turned-other : (count k : ℕ) (es : List (List ℕ × Value)) (p : List ℕ × Value) → is_same (decimal_digits k) p.0 ≡ false → turned_below count (k + 1) es p ≡ turned_below count k es p
turned-other count k es p h = by (index_of p.0) (apart-of k p h)
  where
    by : (o : Option ℕ) → (o ≡ Some k → ⊥) → option_map_or (λ place. if nat_lt place (k + 1) then named p.0 (element_at es (count - 1 - place)) else Some p) o (Some p) ≡ option_map_or (λ place. if nat_lt place k then named p.0 (element_at es (count - 1 - place)) else Some p) o (Some p)
    by None apart = refl
    by (Some i) apart =
        let away : i ≡ k → ⊥ = λ e. apart (ap (λ n. Some n) e) in
        let same : nat_lt i (k + 1) ≡ nat_lt i k = below i away in
        ap (λ t. if t then named p.0 (element_at es (count - 1 - i)) else Some p) same
      where
        below : (i : ℕ) → (i ≡ k → ⊥) → nat_lt i (k + 1) ≡ nat_lt i k
        below i away = grind (arith, nat_tests, away)

turned-none : (count k : ℕ) (es ps : List (List ℕ × Value)) → lookup (is_same (decimal_digits k)) ps ≡ None → filter_map (turned_below count (k + 1) es) ps ≡ filter_map (turned_below count k es) ps
turned-none count k es [] h = refl
turned-none count k es (p ∷ ps) h =
    let parts = absent-rest (is_same (decimal_digits k)) p ps h in
    ap (λ (o : Option (List ℕ × Value)). cons_option o (filter_map (turned_below count (k + 1) es) ps)) (turned-other count k es p parts.0)
    ∙ ap (cons_option (turned_below count k es p)) (turned-none count k es ps parts.1)

below-name : (count k : ℕ) (es : List (List ℕ × Value)) (p : List ℕ × Value) → HasName p.0 (turned_below count k es p)
below-name count k es p = by (index_of p.0)
  where
    within : (place : ℕ) (t : Bool) → HasName p.0 (if t then named p.0 (element_at es (count - 1 - place)) else Some p)
    within place true = named-name p.0 (element_at es (count - 1 - place))
    within place false = refl

    by : (o : Option ℕ) → HasName p.0 (option_map_or (λ place. if nat_lt place k then named p.0 (element_at es (count - 1 - place)) else Some p) o (Some p))
    by None = refl
    by (Some place) = within place (nat_lt place k)

apart-none : (name : List ℕ) (ps : List (List ℕ × Value)) → AllByRecursion (λ y. is_same name y ≡ false) (map (λ p. p.0) ps) → lookup (is_same name) ps ≡ None
apart-none name [] all = refl
apart-none name (p ∷ ps) all = ap (λ t. if t then Some p.1 else lookup (is_same name) ps) all.0 ∙ apart-none name ps all.1

-- the element at a place stands, and gets its value or goes
turned-there : ((n : ℕ) → decimal_number (decimal_digits n) ≡ n) → (count k : ℕ) (es ps news : List (List ℕ × Value)) → k < 2147483647 → HaveOwnNames ps → is_some (lookup (is_same (decimal_digits k)) ps) ≡ true → changed (filter_map (turned_below count k es) ps ++ news) (decimal_digits k, element_at es (count - 1 - k)) ≡ filter_map (turned_below count (k + 1) es) ps ++ news
turned-there back count k es [] news small distinct there = absurd (cc there)
turned-there back count k es (p ∷ ps) news small distinct there = by (is_same (decimal_digits k) p.0) refl there (λ h. turned-there back count k es ps news small (IsDistinct-tail is_same p.0 keys distinct) h)
  where
    name : List ℕ
    name = decimal_digits k

    value : Option Value
    value = element_at es (count - 1 - k)

    rest : List (List ℕ × Value)
    rest = filter_map (turned_below count k es) ps

    more : List (List ℕ × Value)
    more = filter_map (turned_below count (k + 1) es) ps

    keys : List (List ℕ)
    keys = map (λ (q : List ℕ × Value). q.0) ps

    at : is_same name p.0 ≡ true → index_of p.0 ≡ Some k
    at e = ap index_of (sym (same-name name p.0 e)) ∙ index_of-digits back k small

    stays : is_same name p.0 ≡ true → turned_below count k es p ≡ Some p
    stays e =
        ap (λ (o : Option ℕ). option_map_or (λ place. if nat_lt place k then named p.0 (element_at es (count - 1 - place)) else Some p) o (Some p)) (at e)
        ∙ ap (λ t. if t then named p.0 (element_at es (count - 1 - k)) else Some p) itself
      where
        itself : nat_lt k k ≡ false
        itself = grind (arith, nat_tests)

    becomes : is_same name p.0 ≡ true → turned_below count (k + 1) es p ≡ named p.0 value
    becomes e =
        ap (λ (o : Option ℕ). option_map_or (λ place. if nat_lt place (k + 1) then named p.0 (element_at es (count - 1 - place)) else Some p) o (Some p)) (at e)
        ∙ ap (λ t. if t then named p.0 (element_at es (count - 1 - k)) else Some p) next
      where
        next : nat_lt k (k + 1) ≡ true
        next = grind (arith, nat_tests)

    other : (o : Option (List ℕ × Value)) → HasName p.0 o → is_same name p.0 ≡ false → changed (rest ++ news) (name, value) ≡ more ++ news → changed (cons_option o rest ++ news) (name, value) ≡ cons_option o more ++ news
    other None same apart e = e
    other (Some q) same apart e = changed-other name value q (rest ++ news) (ap (is_same name) same ∙ apart) ∙ ap (λ l. q ∷ l) e

    here : (o : Option (List ℕ × Value)) → cons_option o (rest ++ news) ≡ cons_option o rest ++ news
    here None = refl
    here (Some q) = refl

    by : (t : Bool) → is_same name p.0 ≡ t → is_some (if t then Some p.1 else lookup (is_same name) ps) ≡ true → (is_some (lookup (is_same name) ps) ≡ true → changed (rest ++ news) (name, value) ≡ more ++ news) → changed (cons_option (turned_below count k es p) rest ++ news) (name, value) ≡ cons_option (turned_below count (k + 1) es p) more ++ news
    by true e h behind =
        let absent : lookup (is_same name) ps ≡ None = ap (λ (n : List ℕ). lookup (is_same n) ps) (same-name name p.0 e) ∙ apart-none p.0 ps (IsDistinct-head is_same p.0 keys distinct) in
        ap (λ (o : Option (List ℕ × Value)). changed (cons_option o rest ++ news) (name, value)) (stays e)
        ∙ (changed-here name value p (rest ++ news) e
        ∙ (here (named p.0 value)
        ∙ (ap (λ (l : List (List ℕ × Value)). cons_option (named p.0 value) l ++ news) (sym (turned-none count k es ps absent))
        ∙ ap (λ (o : Option (List ℕ × Value)). cons_option o more ++ news) (sym (becomes e)))))
    by false e h behind =
        other (turned_below count k es p) (below-name count k es p) e (behind h)
        ∙ ap (λ (o : Option (List ℕ × Value)). cons_option o more ++ news) (sym (turned-other count k es p e))

turned-nothing : (count : ℕ) (es ps : List (List ℕ × Value)) → filter_map (turned_below count 0 es) ps ≡ ps
turned-nothing count es [] = refl
turned-nothing count es (p ∷ ps) = ap (λ (o : Option (List ℕ × Value)). cons_option o (filter_map (turned_below count 0 es) ps)) (by (index_of p.0)) ∙ ap (λ l. p ∷ l) (turned-nothing count es ps)
  where
    by : (o : Option ℕ) → option_map_or (λ place. if nat_lt place 0 then named p.0 (element_at es (count - 1 - place)) else Some p) o (Some p) ≡ Some p
    by None = refl
    by (Some i) = ap (λ t. if t then named p.0 (element_at es (count - 1 - i)) else Some p) (below i)
      where
        below : (i : ℕ) → nat_lt i 0 ≡ false
        below i = grind (arith, nat_tests)

none-of : {X : Type 0} (o : Option X) → is_some o ≡ false → o ≡ None
none-of None h = refl
none-of (Some x) h = absurd (cc h)

all-turned : ((n : ℕ) → decimal_number (decimal_digits n) ≡ n) → (count : ℕ) (es news : List (List ℕ × Value)) (n : ℕ) → n ≤ 2147483647 → HaveOwnNames es → all_changed (es ++ news) (changes_below count n es) ≡ filter_map (turned_below count n es) es ++ news
all-turned back count es news zero small distinct = ap (λ (l : List (List ℕ × Value)). l ++ news) (sym (turned-nothing count es es))
all-turned back count es news (suc n) small distinct =
    ap (λ (l : List ℕ). all_changed (es ++ news) (filter_map (change_at count es) l)) range
    ∙ (ap (all_changed (es ++ news)) (filter_map-last (change_at count es) (range_with_len 0 n) n)
    ∙ (all_changed-append (es ++ news) (changes_below count n es) (option_to_list (change_at count es n))
    ∙ (ap (λ (l : List (List ℕ × Value)). all_changed l (option_to_list (change_at count es n))) (all-turned back count es news n (omega arith) distinct)
    ∙ (by (is_some (element_at es n)) refl ∙ ap (λ k. filter_map (turned_below count k es) es ++ news) next))))
  where
    next : n + 1 ≡ suc n
    next = omega arith

    range : range_with_len 0 (suc n) ≡ range_with_len 0 n ++ n ∷ []
    range = ap (range_with_len 0) (sym next) ∙ range-next n

    by : (t : Bool) → is_some (element_at es n) ≡ t → all_changed (filter_map (turned_below count n es) es ++ news) (option_to_list (if t then Some (decimal_digits n, element_at es (count - 1 - n)) else None)) ≡ filter_map (turned_below count (n + 1) es) es ++ news
    by true e = turned-there back count n es es news (omega arith) distinct e
    by false e = ap (λ (l : List (List ℕ × Value)). l ++ news) (sym (turned-none count n es es (none-of (element_at es n) e)))

-- New elements

insert_all-append : (es xs ys : List (List ℕ × Value)) → insert_all is_same es (xs ++ ys) ≡ insert_all is_same (insert_all is_same es xs) ys
insert_all-append es [] ys = refl
insert_all-append es (x ∷ xs) ys = insert_all-append (insert_entry is_same es x.0 x.1) xs ys

insert-element : (es done : List (List ℕ × Value)) (place other : ℕ) → (element_at es place ≡ None → element_at done place ≡ None) → insert_all is_same done (new_element es place other) ≡ done ++ new_element es place other
insert-element es done place other absent = by (is_some (element_at es place)) refl (element_at es other)
  where
    by : (t : Bool) → is_some (element_at es place) ≡ t → (o : Option Value) → insert_all is_same done (if t then [] else option_to_list (named (decimal_digits place) o)) ≡ done ++ (if t then [] else option_to_list (named (decimal_digits place) o))
    by true e o = sym (append-nil done)
    by false e None = sym (append-nil done)
    by false e (Some v) = insert-new done (decimal_digits place) v (absent (none-of (element_at es place) e))

-- the new elements of the first places, and of those as far from the end
abbrev pub news : ℕ → List (List ℕ × Value) → ℕ → List (List ℕ × Value)
news count es place = flat_map (new_elements count es) (range_with_len 0 place)

news-next : (count : ℕ) (es : List (List ℕ × Value)) (place : ℕ) → news count es place ++ new_elements count es place ≡ news count es (place + 1)
news-next count es place =
    ap (λ (l : List (List ℕ × Value)). news count es place ++ l) (sym (append-nil (new_elements count es place)))
    ∙ (sym (flat_map-append (new_elements count es) (range_with_len 0 place) (place ∷ []))
    ∙ ap (flat_map (new_elements count es)) (sym (range-next place)))

all-inserted : ((n : ℕ) → decimal_number (decimal_digits n) ≡ n) → (count : ℕ) (es : List (List ℕ × Value)) (n : ℕ) → n ≤ count / 2 → insert_all is_same es (news count es n) ≡ es ++ news count es n
all-inserted back count es zero within = sym (append-nil es)
all-inserted back count es (suc n) within =
    ap (λ k. insert_all is_same es (news count es k)) (sym next)
    ∙ (ap (insert_all is_same es) (sym (news-next count es n))
    ∙ (insert_all-append es (news count es n) (new_elements count es n)
    ∙ (ap (λ (l : List (List ℕ × Value)). insert_all is_same l (new_elements count es n)) (all-inserted back count es n (omega arith))
    ∙ (insert_all-append done first second
    ∙ (ap (λ (l : List (List ℕ × Value)). insert_all is_same l second) (insert-element es done n other absent-front)
    ∙ (insert-element es (done ++ first) other n absent-behind
    ∙ (append_assoc done first second
    ∙ (append_assoc es (news count es n) (first ++ second)
    ∙ (ap (λ (l : List (List ℕ × Value)). es ++ l) (news-next count es n) ∙ ap (λ k. es ++ news count es k) next)))))))))
  where
    next : n + 1 ≡ suc n
    next = omega arith

    other : ℕ
    other = count - 1 - n

    done : List (List ℕ × Value)
    done = es ++ news count es n

    first : List (List ℕ × Value)
    first = new_element es n other

    second : List (List ℕ × Value)
    second = new_element es other n

    absent-front : element_at es n ≡ None → element_at done n ≡ None
    absent-front h = absent-append (is_same (decimal_digits n)) es (news count es n) h (absent-news back count es n 0 n (λ j k. (λ same. omega arith, λ same. omega arith)))

    absent-behind : element_at es other ≡ None → element_at (done ++ first) other ≡ None
    absent-behind h =
        absent-append (is_same (decimal_digits other)) done first
        (absent-append (is_same (decimal_digits other)) es (news count es n) h (absent-news back count es other 0 n (λ j k. (λ same. omega arith, λ same. omega arith))))
        (absent-new back es n other other (λ same. omega arith))

pub turned-all : ((n : ℕ) → decimal_number (decimal_digits n) ≡ n) → (count : ℕ) (es added mid last : List (List ℕ × Value)) (changes : List (List ℕ × Option Value)) → count ≤ 2147483647 → HaveOwnNames es → changes ≡ changes_below count count es → added ≡ news count es (count / 2) → mid ≡ insert_all is_same es added → last ≡ all_changed mid changes → last ≡ turned_properties count es
unfolding turned_properties
turned-all back count es added mid last changes small distinct are adds one two =
    two ∙ (ap (λ (l : List (List ℕ × Value)). all_changed l changes) (one ∙ (ap (insert_all is_same es) adds ∙ all-inserted back count es (count / 2) (omega arith)))
    ∙ (ap (all_changed (es ++ news count es (count / 2))) are
    ∙ all-turned back count es (news count es (count / 2)) count small distinct))

-- The loops

pub changes-next : (count : ℕ) (es : List (List ℕ × Value)) (place : ℕ) (old new : List (List ℕ × Option Value)) → new ≡ old ++ option_to_list (change_at count es place) → old ≡ changes_below count place es → new ≡ changes_below count (place + 1) es
changes-next count es place old new step e =
    step ∙ (ap (λ (l : List (List ℕ × Option Value)). l ++ option_to_list (change_at count es place)) e
    ∙ (sym (filter_map-last (change_at count es) (range_with_len 0 place) place)
    ∙ ap (filter_map (change_at count es)) (sym (range-next place))))

pub added-next : (count : ℕ) (es : List (List ℕ × Value)) (place other : ℕ) (old next last : List (List ℕ × Value)) → other ≡ count - 1 - place → next ≡ old ++ new_element es place other → last ≡ next ++ new_element es other place → old ≡ news count es place → last ≡ news count es (place + 1)
added-next count es place other old next last far one two e =
    two ∙ (ap (λ (l : List (List ℕ × Value)). l ++ new_element es other place) (one ∙ ap (λ (l : List (List ℕ × Value)). l ++ new_element es place other) e)
    ∙ (append_assoc (news count es place) (new_element es place other) (new_element es other place)
    ∙ (ap (λ k. news count es place ++ (new_element es place k ++ new_element es k place)) far
    ∙ news-next count es place)))

pub change-none : (count : ℕ) (es : List (List ℕ × Value)) (place : ℕ) (old : List (List ℕ × Option Value)) → element_at es place ≡ None → old ≡ old ++ option_to_list (change_at count es place)
change-none count es place old none =
    sym (append-nil old)
    ∙ ap (λ (o : Option Value). old ++ option_to_list (if is_some o then Some (decimal_digits place, element_at es (count - 1 - place)) else None)) (sym none)

pub new-none : (es : List (List ℕ × Value)) (place other : ℕ) (old : List (List ℕ × Value)) → element_at es other ≡ None → old ≡ old ++ new_element es place other
new-none es place other old none =
    sym (append-nil old)
    ∙ (by (is_some (element_at es place))
    ∙ ap (λ (o : Option Value). old ++ (if is_some (element_at es place) then [] else option_to_list (named (decimal_digits place) o))) (sym none))
  where
    by : (t : Bool) → old ++ [] ≡ old ++ (if t then [] else option_to_list (named (decimal_digits place) None))
    by true = refl
    by false = refl
