-- Slots of properties and the index of their names.
use Rattle.std.proofs.Common.{◌≡◌, ℕ, zero, suc, ◌+◌, ◌<◌, ◌≤◌, Bool, true, false, List, [], ◌∷◌, ◌++◌, length, take, refl, sym, ◌∙◌, ap, subst, arith, map}
use Rattle.std.specs.Prelude.{if◌then◌else◌, Option, Some, None, option_map, unwrap_or, is_some, filter, slice_get, slice_index_or, slice_set, Result, Ok, Err, IsOk, OnOk}
use Rattle.std.specs.Option.{option_map_or}
use Rattle.std.specs.List.{IsDistinct, AllByRecursion}
use Rattle.std.specs.Map.{lookup, remove_entry, set_value}
use Rattle.std.specs.Cmp.Lexicographic.{bytes_decides}
use Rattle.std.proofs.lemmas.Map.Keys.{IsDistinct-cons, IsDistinct-head, IsDistinct-tail}
use Rattle.std.proofs.lemmas.Map.Entries.{lookup-filter-keys}
use Rattle.std.proofs.lemmas.Option.{slice_get_read}
use Rattle.indexmap.specs.IndexMap.{insert_all, insert_entry}
use Rattle.bml_bytes.specs.Numerals.{decimal_digits}
use Rattle.bml_bytes.specs.Words.{is_same}
use Rattle.es_values.specs.declared.values.Value.{Value}
use Rattle.es_values.specs.Slots.{HaveOwnNames, Indexes, IsIndexOfNames, is_named, place_of, placed, standing}
use Rattle.es_values.proofs.LawLemmas.{other-way, same-itself}
use Rattle.es_values.proofs.ListSteps.{standing-last}

-- Names

pub same-name : (a b : List ℕ) → is_same a b ≡ true → a ≡ b
same-name a b h = (bytes_decides a b).0 h

-- Places

first-place : (t : Bool) (o : Option ℕ) → (if t then Some 0 else option_map (λ n. suc n) o) ≡ Some 0 → t ≡ true
first-place true o h = refl
first-place false None h = absurd (cc h)
first-place false (Some k) h = let e : suc k ≡ 0 = cc h in absurd (omega arith)

later-place : (t : Bool) (o : Option ℕ) (j : ℕ) → (if t then Some 0 else option_map (λ n. suc n) o) ≡ Some (suc j) → (t ≡ false) × (o ≡ Some j)
later-place true o j h = let e : 0 ≡ suc j = cc h in absurd (omega arith)
later-place false None j h = absurd (cc h)
later-place false (Some k) j h = let e : suc k ≡ suc j = cc h in let d : k ≡ j = omega arith in (refl, ap (λ n. Some n) d)

no-place : (t : Bool) (o : Option ℕ) → (if t then Some 0 else option_map (λ n. suc n) o) ≡ None → (t ≡ false) × (o ≡ None)
no-place true o h = absurd (cc h)
no-place false None h = (refl, refl)
no-place false (Some k) h = absurd (cc h)

pub found-none : (name : List ℕ) (slots : List (Option (List ℕ × Value))) → place_of name slots ≡ None → lookup (is_same name) (standing slots) ≡ None
found-none name [] h = refl
found-none name (None ∷ slots) h = found-none name slots (no-place false (place_of name slots) h).1
found-none name (Some p ∷ slots) h =
    let parts = no-place (is_same name p.0) (place_of name slots) h in
    ap (λ t. if t then Some p.1 else lookup (is_same name) (standing slots)) parts.0 ∙ found-none name slots parts.1

pub found-some : (name : List ℕ) (slots : List (Option (List ℕ × Value))) (i : ℕ) → place_of name slots ≡ Some i → lookup (is_same name) (standing slots) ≡ option_map (λ p. p.1) (unwrap_or (slice_get slots i) None)
found-some name [] i h = absurd (cc h)
found-some name (None ∷ slots) zero h = absurd (cc (first-place false (place_of name slots) h))
found-some name (Some p ∷ slots) zero h =
    ap (λ t. if t then Some p.1 else lookup (is_same name) (standing slots)) (first-place (is_same name p.0) (place_of name slots) h)
found-some name (None ∷ slots) (suc j) h = found-some name slots j (later-place false (place_of name slots) j h).1
found-some name (Some p ∷ slots) (suc j) h =
    let parts = later-place (is_same name p.0) (place_of name slots) j h in
    ap (λ t. if t then Some p.1 else lookup (is_same name) (standing slots)) parts.0 ∙ found-some name slots j parts.1

pub place-within : (name : List ℕ) (slots : List (Option (List ℕ × Value))) (i : ℕ) → place_of name slots ≡ Some i → i < length slots
place-within name [] i h = absurd (cc h)
place-within name (s ∷ slots) zero h = omega arith
place-within name (s ∷ slots) (suc j) h =
    let more : j < length slots = place-within name slots j (later-place (is_named name s) (place_of name slots) j h).1 in
    omega arith

named-slot : (name : List ℕ) (slots : List (Option (List ℕ × Value))) (i : ℕ) → place_of name slots ≡ Some i → is_named name (unwrap_or (slice_get slots i) None) ≡ true
named-slot name [] i h = absurd (cc h)
named-slot name (s ∷ slots) zero h = first-place (is_named name s) (place_of name slots) h
named-slot name (s ∷ slots) (suc j) h = named-slot name slots j (later-place (is_named name s) (place_of name slots) j h).1

-- a name has a place just where it stands
pub place-standing : (name : List ℕ) (slots : List (Option (List ℕ × Value))) → is_some (place_of name slots) ≡ is_some (lookup (is_same name) (standing slots))
place-standing name [] = refl
place-standing name (None ∷ slots) = mapped (place_of name slots) ∙ place-standing name slots
  where
    mapped : (o : Option ℕ) → is_some (option_map (λ n. suc n) o) ≡ is_some o
    mapped None = refl
    mapped (Some n) = refl
place-standing name (Some p ∷ slots) = by (is_same name p.0) (place_of name slots) (place-standing name slots)
  where
    by : (t : Bool) (o : Option ℕ) → is_some o ≡ is_some (lookup (is_same name) (standing slots)) → is_some (if t then Some 0 else option_map (λ n. suc n) o) ≡ is_some (if t then Some p.1 else lookup (is_same name) (standing slots))
    by true o h = refl
    by false None h = h
    by false (Some n) h = h

none-some : {X Y : Type 0} (a : Option X) (b : Option Y) → is_some a ≡ is_some b → a ≡ None → b ≡ None
none-some None None h e = refl
none-some None (Some b) h e = absurd (cc h)
none-some (Some a) b h e = absurd (cc e)

-- A property in the place of one of its name

pub standing-replaced : (name : List ℕ) (v : Value) (slots : List (Option (List ℕ × Value))) (i : ℕ) → place_of name slots ≡ Some i → standing (slice_set slots i (Some (name, v))) ≡ insert_entry is_same (standing slots) name v
standing-replaced name v [] i h = absurd (cc h)
standing-replaced name v (None ∷ slots) zero h = absurd (cc (first-place false (place_of name slots) h))
standing-replaced name v (Some p ∷ slots) zero h =
    let e : is_same name p.0 ≡ true = first-place (is_same name p.0) (place_of name slots) h in
    ap (λ (n : List ℕ). (n, v) ∷ standing slots) (same-name name p.0 e)
    ∙ sym (ap (λ t. if t then (p.0, v) ∷ standing slots else p ∷ insert_entry is_same (standing slots) name v) e)
standing-replaced name v (None ∷ slots) (suc j) h = standing-replaced name v slots j (later-place false (place_of name slots) j h).1
standing-replaced name v (Some p ∷ slots) (suc j) h =
    let parts = later-place (is_same name p.0) (place_of name slots) j h in
    ap (λ l. p ∷ l) (standing-replaced name v slots j parts.1)
    ∙ sym (ap (λ t. if t then (p.0, v) ∷ standing slots else p ∷ insert_entry is_same (standing slots) name v) parts.0)

pub place-replaced : (name other : List ℕ) (v : Value) (slots : List (Option (List ℕ × Value))) (i : ℕ) → place_of name slots ≡ Some i → place_of other (slice_set slots i (Some (name, v))) ≡ place_of other slots
place-replaced name other v [] i h = absurd (cc h)
place-replaced name other v (None ∷ slots) zero h = absurd (cc (first-place false (place_of name slots) h))
place-replaced name other v (Some p ∷ slots) zero h =
    let e : is_same name p.0 ≡ true = first-place (is_same name p.0) (place_of name slots) h in
    ap (λ (n : List ℕ). if is_same other n then Some 0 else option_map (λ n. suc n) (place_of other slots)) (same-name name p.0 e)
place-replaced name other v (s ∷ slots) (suc j) h =
    ap (λ o. if is_named other s then Some 0 else option_map (λ n. suc n) o) (place-replaced name other v slots j (later-place (is_named name s) (place_of name slots) j h).1)

names-inserted : (es : List (List ℕ × Value)) (name : List ℕ) (v : Value) → is_some (lookup (is_same name) es) ≡ true → map (λ p. p.0) (insert_entry is_same es name v) ≡ map (λ p. p.0) es
names-inserted [] name v h = absurd (cc h)
names-inserted (e ∷ es) name v h = by (is_same name e.0) h (names-inserted es name v)
  where
    by : (t : Bool) → is_some (if t then Some e.1 else lookup (is_same name) es) ≡ true → (is_some (lookup (is_same name) es) ≡ true → map (λ p. p.0) (insert_entry is_same es name v) ≡ map (λ p. p.0) es) → map (λ p. p.0) (if t then (e.0, v) ∷ es else e ∷ insert_entry is_same es name v) ≡ e.0 ∷ map (λ p. p.0) es
    by true k more = refl
    by false k more = ap (λ l. e.0 ∷ l) (more k)

pub indexes-replaced : (places : List (List ℕ × ℕ)) (slots : List (Option (List ℕ × Value))) (name : List ℕ) (v : Value) (i : ℕ) → Indexes places slots → lookup (is_same name) places ≡ Some i → Indexes places (slice_set slots i (Some (name, v)))
indexes-replaced places slots name v i h k =
    let at : place_of name slots ≡ Some i = sym (h.found name) ∙ k in
    let there : is_some (lookup (is_same name) (standing slots)) ≡ true = sym (place-standing name slots) ∙ ap is_some at in
    let names = ap (map (λ (p : List ℕ × Value). p.0)) (standing-replaced name v slots i at) ∙ names-inserted (standing slots) name v there in
    record {
      found = λ other. h.found other ∙ sym (place-replaced name other v slots i at);
      distinct = subst (IsDistinct is_same) (sym names) h.distinct;
    }

-- A property behind the last one

either_place : Option ℕ → Option ℕ → Option ℕ
either_place None p = p
either_place (Some i) p = Some i

place-added : (name other : List ℕ) (v : Value) (slots : List (Option (List ℕ × Value))) → place_of other (slots ++ Some (name, v) ∷ []) ≡ either_place (place_of other slots) (if is_same other name then Some (length slots) else None)
unfolding either_place
place-added name other v [] = by (is_same other name)
  where
    by : (t : Bool) → (if t then Some 0 else option_map (λ n. suc n) None) ≡ (if t then Some 0 else None)
    by true = refl
    by false = refl
place-added name other v (s ∷ slots) =
    ap (λ o. if is_named other s then Some 0 else option_map (λ n. suc n) o) (place-added name other v slots)
    ∙ by (is_named other s) (place_of other slots) (is_same other name)
  where
    by : (t : Bool) (o : Option ℕ) (u : Bool) → (if t then Some 0 else option_map (λ n. suc n) (either_place o (if u then Some (length slots) else None))) ≡ either_place (if t then Some 0 else option_map (λ n. suc n) o) (if u then Some (suc (length slots)) else None)
    by true o u = refl
    by false (Some n) u = refl
    by false None true = refl
    by false None false = refl

lookup-added : (name other : List ℕ) (n : ℕ) (es : List (List ℕ × ℕ)) → lookup (is_same other) (es ++ (name, n) ∷ []) ≡ either_place (lookup (is_same other) es) (if is_same other name then Some n else None)
unfolding either_place
lookup-added name other n [] = refl
lookup-added name other n (e ∷ es) = by (is_same other e.0) (lookup-added name other n es)
  where
    by : (t : Bool) → lookup (is_same other) (es ++ (name, n) ∷ []) ≡ either_place (lookup (is_same other) es) (if is_same other name then Some n else None) → (if t then Some e.1 else lookup (is_same other) (es ++ (name, n) ∷ [])) ≡ either_place (if t then Some e.1 else lookup (is_same other) es) (if is_same other name then Some n else None)
    by true more = refl
    by false more = more

lookup-first : {X : Type 0} (t : Bool) (x : X) (o : Option X) → (if t then Some x else o) ≡ None → (t ≡ false) × (o ≡ None)
lookup-first true x o h = absurd (cc h)
lookup-first false x o h = (refl, h)

inserted-last : {X : Type 0} (es : List (List ℕ × X)) (name : List ℕ) (x : X) → lookup (is_same name) es ≡ None → insert_entry is_same es name x ≡ es ++ (name, x) ∷ []
inserted-last [] name x h = refl
inserted-last (e ∷ es) name x h =
    let parts = lookup-first (is_same name e.0) e.1 (lookup (is_same name) es) h in
    ap (λ b. if b then (e.0, x) ∷ es else e ∷ insert_entry is_same es name x) parts.0 ∙ ap (λ l. e ∷ l) (inserted-last es name x parts.1)

pub standing-added : (slots : List (Option (List ℕ × Value))) (name : List ℕ) (v : Value) → place_of name slots ≡ None → standing (slots ++ Some (name, v) ∷ []) ≡ insert_entry is_same (standing slots) name v
standing-added slots name v h = standing-last slots (Some (name, v)) ∙ sym (inserted-last (standing slots) name v (found-none name slots h))

all-last : (P : List ℕ → Type 0) (es : List (List ℕ × Value)) (name : List ℕ) (v : Value) → AllByRecursion P (map (λ p. p.0) es) → P name → AllByRecursion P (map (λ p. p.0) (es ++ (name, v) ∷ []))
all-last P [] name v all one = (one, tt)
all-last P (e ∷ es) name v all one = (all.0, all-last P es name v all.1 one)

distinct-last : (es : List (List ℕ × Value)) (name : List ℕ) (v : Value) → HaveOwnNames es → lookup (is_same name) es ≡ None → HaveOwnNames (es ++ (name, v) ∷ [])
distinct-last [] name v distinct h = IsDistinct-cons is_same name [] tt distinct
distinct-last (e ∷ es) name v distinct h =
    let parts = lookup-first (is_same name e.0) e.1 (lookup (is_same name) es) h in
    let names = map (λ (p : List ℕ × Value). p.0) es in
    IsDistinct-cons is_same e.0 (map (λ p. p.0) (es ++ (name, v) ∷ []))
    (all-last (λ y. is_same e.0 y ≡ false) es name v (IsDistinct-head is_same e.0 names distinct) (other-way name e.0 parts.0))
    (distinct-last es name v (IsDistinct-tail is_same e.0 names distinct) parts.1)

pub indexes-added : (places next : List (List ℕ × ℕ)) (slots : List (Option (List ℕ × Value))) (name : List ℕ) (v : Value) (n : ℕ) → Indexes places slots → lookup (is_same name) places ≡ None → next ≡ insert_entry is_same places name n → n ≡ length slots → Indexes next (slots ++ Some (name, v) ∷ [])
indexes-added places next slots name v n h k step size =
    let at : place_of name slots ≡ None = sym (h.found name) ∙ k in
    record {
      found = λ other.
          ap (lookup (is_same other)) (step ∙ inserted-last places name n k)
          ∙ (lookup-added name other n places
          ∙ (ap (λ o. either_place o (if is_same other name then Some n else None)) (h.found other)
          ∙ (ap (λ m. either_place (place_of other slots) (if is_same other name then Some m else None)) size
          ∙ sym (place-added name other v slots))));
      distinct = subst HaveOwnNames (sym (standing-last slots (Some (name, v)))) (distinct-last (standing slots) name v h.distinct (found-none name slots at));
    }

-- A property that goes

pub standing-cleared : (name : List ℕ) (slots : List (Option (List ℕ × Value))) (i : ℕ) → place_of name slots ≡ Some i → standing (slice_set slots i None) ≡ remove_entry (is_same name) (standing slots)
standing-cleared name [] i h = absurd (cc h)
standing-cleared name (None ∷ slots) zero h = absurd (cc (first-place false (place_of name slots) h))
standing-cleared name (Some p ∷ slots) zero h =
    sym (ap (λ t. if t then standing slots else p ∷ remove_entry (is_same name) (standing slots)) (first-place (is_same name p.0) (place_of name slots) h))
standing-cleared name (None ∷ slots) (suc j) h = standing-cleared name slots j (later-place false (place_of name slots) j h).1
standing-cleared name (Some p ∷ slots) (suc j) h =
    let parts = later-place (is_same name p.0) (place_of name slots) j h in
    ap (λ l. p ∷ l) (standing-cleared name slots j parts.1)
    ∙ sym (ap (λ t. if t then standing slots else p ∷ remove_entry (is_same name) (standing slots)) parts.0)

pub removed-absent : (name : List ℕ) (es : List (List ℕ × Value)) → lookup (is_same name) es ≡ None → remove_entry (is_same name) es ≡ es
removed-absent name [] h = refl
removed-absent name (e ∷ es) h =
    let parts = lookup-first (is_same name e.0) e.1 (lookup (is_same name) es) h in
    ap (λ t. if t then es else e ∷ remove_entry (is_same name) es) parts.0 ∙ ap (λ l. e ∷ l) (removed-absent name es parts.1)

-- a name that differs from all that stand has no place
absent-place : (name : List ℕ) (slots : List (Option (List ℕ × Value))) → AllByRecursion (λ y. is_same name y ≡ false) (map (λ p. p.0) (standing slots)) → place_of name slots ≡ None
absent-place name [] h = refl
absent-place name (None ∷ slots) h = ap (option_map (λ n. suc n)) (absent-place name slots h)
absent-place name (Some p ∷ slots) h =
    ap (λ t. if t then Some 0 else option_map (λ n. suc n) (place_of name slots)) h.0
    ∙ ap (option_map (λ n. suc n)) (absent-place name slots h.1)

distinct-behind : (s : Option (List ℕ × Value)) (slots : List (Option (List ℕ × Value))) → HaveOwnNames (standing (s ∷ slots)) → HaveOwnNames (standing slots)
distinct-behind None slots h = h
distinct-behind (Some p) slots h = IsDistinct-tail is_same p.0 (map (λ q. q.0) (standing slots)) h

-- the places once the slot of a name is empty
place-cleared : (name other : List ℕ) (slots : List (Option (List ℕ × Value))) (i : ℕ) → HaveOwnNames (standing slots) → place_of name slots ≡ Some i → place_of other (slice_set slots i None) ≡ (if is_same name other then None else place_of other slots)
place-cleared name other [] i distinct h = absurd (cc h)
place-cleared name other (None ∷ slots) zero distinct h = absurd (cc (first-place false (place_of name slots) h))
place-cleared name other (Some p ∷ slots) zero distinct h = by (is_same name other) refl
  where
    same : name ≡ p.0
    same = same-name name p.0 (first-place (is_same name p.0) (place_of name slots) h)

    by : (t : Bool) → is_same name other ≡ t → option_map (λ n. suc n) (place_of other slots) ≡ (if t then None else if is_same other p.0 then Some 0 else option_map (λ n. suc n) (place_of other slots))
    by true e =
        let it : other ≡ p.0 = sym (same-name name other e) ∙ same in
        ap (option_map (λ n. suc n)) (ap (λ (n : List ℕ). place_of n slots) it ∙ absent-place p.0 slots (IsDistinct-head is_same p.0 (map (λ q. q.0) (standing slots)) distinct))
    by false e =
        let apart : is_same other p.0 ≡ false = ap (is_same other) (sym same) ∙ other-way name other e in
        sym (ap (λ t. if t then Some 0 else option_map (λ n. suc n) (place_of other slots)) apart)
place-cleared name other (s ∷ slots) (suc j) distinct h =
    let parts = later-place (is_named name s) (place_of name slots) j h in
    ap (λ o. if is_named other s then Some 0 else option_map (λ n. suc n) o) (place-cleared name other slots j (distinct-behind s slots distinct) parts.1)
    ∙ by (is_same name other) refl parts.0
  where
    by : (t : Bool) → is_same name other ≡ t → is_named name s ≡ false → (if is_named other s then Some 0 else option_map (λ n. suc n) (if t then None else place_of other slots)) ≡ (if t then None else if is_named other s then Some 0 else option_map (λ n. suc n) (place_of other slots))
    by true e k =
        let other-apart : is_named other s ≡ false = ap (λ (n : List ℕ). is_named n s) (sym (same-name name other e)) ∙ k in
        ap (λ t. if t then Some 0 else None) other-apart
    by false e k = refl

all-removed : (P : List ℕ → Type 0) (test : List ℕ → Bool) (es : List (List ℕ × Value)) → AllByRecursion P (map (λ p. p.0) es) → AllByRecursion P (map (λ p. p.0) (remove_entry test es))
all-removed P test [] all = all
all-removed P test (e ∷ es) all = by (test e.0) (all-removed P test es all.1)
  where
    by : (t : Bool) → AllByRecursion P (map (λ p. p.0) (remove_entry test es)) → AllByRecursion P (map (λ p. p.0) (if t then es else e ∷ remove_entry test es))
    by true more = all.1
    by false more = (all.0, more)

distinct-removed : (test : List ℕ → Bool) (es : List (List ℕ × Value)) → HaveOwnNames es → HaveOwnNames (remove_entry test es)
distinct-removed test [] h = h
distinct-removed test (e ∷ es) h =
    let names = map (λ (p : List ℕ × Value). p.0) es in
    by (test e.0) (distinct-removed test es (IsDistinct-tail is_same e.0 names h))
  where
    by : (t : Bool) → HaveOwnNames (remove_entry test es) → HaveOwnNames (if t then es else e ∷ remove_entry test es)
    by true more = IsDistinct-tail is_same e.0 (map (λ p. p.0) es) h
    by false more =
        IsDistinct-cons is_same e.0 (map (λ p. p.0) (remove_entry test es))
        (all-removed (λ y. is_same e.0 y ≡ false) test es (IsDistinct-head is_same e.0 (map (λ p. p.0) es) h)) more

pub indexes-cleared : (places next : List (List ℕ × ℕ)) (slots : List (Option (List ℕ × Value))) (name : List ℕ) (i : ℕ) → Indexes places slots → lookup (is_same name) places ≡ Some i → ((other : List ℕ) → lookup (is_same other) next ≡ (if is_same name other then None else lookup (is_same other) places)) → Indexes next (slice_set slots i None)
indexes-cleared places next slots name i h k step =
    let at : place_of name slots ≡ Some i = sym (h.found name) ∙ k in
    record {
      found = λ other.
          step other
          ∙ (ap (λ o. if is_same name other then None else o) (h.found other)
          ∙ sym (place-cleared name other slots i h.distinct at));
      distinct = subst HaveOwnNames (sym (standing-cleared name slots i at)) (distinct-removed (is_same name) (standing slots) h.distinct);
    }

-- What stands where a call can't fail

pub on-ok : {A E : Type 0} (r : Result A E) (P : Type 0) → IsOk r → OnOk r P → P
on-ok (Ok x) P h k = k
on-ok (Err e) P h k = absurd (cc h)

-- What stands in a slot

pub read-slot : (places : List (List ℕ × ℕ)) (slots : List (Option (List ℕ × Value))) (name : List ℕ) (i : ℕ) (s : Option (List ℕ × Value)) → Indexes places slots → Some i ≡ lookup (is_same name) places → s ≡ slice_index_or slots i s → lookup (is_same name) (standing slots) ≡ option_map (λ p. p.1) s
read-slot places slots name i s h k read =
    let at : place_of name slots ≡ Some i = sym (h.found name) ∙ sym k in
    let there : slice_get slots i ≡ Some s = slice_get_read slots (length slots) i s refl (place-within name slots i at) read in
    found-some name slots i at ∙ ap (λ (o : Option (Option (List ℕ × Value))). option_map (λ p. p.1) (unwrap_or o None)) there

-- The names numbered anew

-- the number of a name below k is its place, and one at k or behind it any
unfoldable pub IsNumbered : ℕ → Option ℕ → Option ℕ → Type 0
IsNumbered k None number = number ≡ None
IsNumbered k (Some i) number = (i < k → number ≡ Some i) × (is_some number ≡ true)

abbrev pub AreNumbered : ℕ → List (List ℕ × ℕ) → List (Option (List ℕ × Value)) → Type 0
AreNumbered k places slots = (name : List ℕ) → IsNumbered k (place_of name slots) (lookup (is_same name) places)

pub numbered-none : (places : List (List ℕ × ℕ)) (slots : List (Option (List ℕ × Value))) → IsIndexOfNames places (standing slots) → AreNumbered 0 places slots
unfolding IsNumbered
numbered-none places slots h name = by (place_of name slots) (lookup (is_same name) places) (h name ∙ sym (place-standing name slots))
  where
    by : (o number : Option ℕ) → is_some number ≡ is_some o → IsNumbered 0 o number
    by None None e = refl
    by None (Some n) e = absurd (cc e)
    by (Some i) number e = (λ (k : i < 0). absurd (omega arith), e)

pub numbered-all : (k : ℕ) (places : List (List ℕ × ℕ)) (slots : List (Option (List ℕ × Value))) → length slots ≤ k → HaveOwnNames (standing slots) → AreNumbered k places slots → Indexes places slots
unfolding IsNumbered
numbered-all k places slots long distinct h = record {
  found = λ name. by name (place_of name slots) refl (h name);
  distinct = distinct;
}
  where
    by : (name : List ℕ) (o : Option ℕ) → place_of name slots ≡ o → IsNumbered k o (lookup (is_same name) places) → lookup (is_same name) places ≡ o
    by name None e n = n
    by name (Some i) e n = let below : i < length slots = place-within name slots i e in n.0 (omega arith)

all-at : (P : List ℕ → Type 0) (slots : List (Option (List ℕ × Value))) (k : ℕ) (p : List ℕ × Value) → AllByRecursion P (map (λ q. q.0) (standing slots)) → slice_get slots k ≡ Some (Some p) → P p.0
all-at P [] k p all h = absurd (cc h)
all-at P (None ∷ slots) zero p all h = absurd (cc h)
all-at P (Some q ∷ slots) zero p all h = let e : q ≡ p = cc h in subst (λ (r : List ℕ × Value). P r.0) e all.0
all-at P (None ∷ slots) (suc k) p all h = all-at P slots k p all h
all-at P (Some q ∷ slots) (suc k) p all h = all-at P slots k p all.1 h

-- the name of a property isn't among those in front of it
pub absent-in_front : (slots : List (Option (List ℕ × Value))) (k : ℕ) (p : List ℕ × Value) → HaveOwnNames (standing slots) → slice_get slots k ≡ Some (Some p) → lookup (is_same p.0) (standing (take k slots)) ≡ None
absent-in_front slots zero p distinct h = refl
absent-in_front [] (suc k) p distinct h = refl
absent-in_front (None ∷ slots) (suc k) p distinct h = absent-in_front slots k p distinct h
absent-in_front (Some q ∷ slots) (suc k) p distinct h =
    let names = map (λ (r : List ℕ × Value). r.0) (standing slots) in
    let apart : is_same q.0 p.0 ≡ false = all-at (λ y. is_same q.0 y ≡ false) slots k p (IsDistinct-head is_same q.0 names distinct) h in
    ap (λ t. if t then Some q.1 else lookup (is_same p.0) (standing (take k slots))) (other-way q.0 p.0 apart)
    ∙ absent-in_front slots k p (IsDistinct-tail is_same q.0 names distinct) h

-- the name of a property has its slot as its place
own-place : (slots : List (Option (List ℕ × Value))) (k : ℕ) (p : List ℕ × Value) → HaveOwnNames (standing slots) → slice_get slots k ≡ Some (Some p) → place_of p.0 slots ≡ Some k
own-place [] k p distinct h = absurd (cc h)
own-place (None ∷ slots) zero p distinct h = absurd (cc h)
own-place (Some q ∷ slots) zero p distinct h =
    let e : q ≡ p = cc h in
    let same : is_same p.0 q.0 ≡ true = ap (λ (r : List ℕ × Value). is_same p.0 r.0) e ∙ same-itself p.0 in
    ap (λ t. if t then Some 0 else option_map (λ n. suc n) (place_of p.0 slots)) same
own-place (None ∷ slots) (suc k) p distinct h = ap (option_map (λ n. suc n)) (own-place slots k p distinct h)
own-place (Some q ∷ slots) (suc k) p distinct h =
    let names = map (λ (r : List ℕ × Value). r.0) (standing slots) in
    let apart : is_same q.0 p.0 ≡ false = all-at (λ y. is_same q.0 y ≡ false) slots k p (IsDistinct-head is_same q.0 names distinct) h in
    ap (λ t. if t then Some 0 else option_map (λ n. suc n) (place_of p.0 slots)) (other-way q.0 p.0 apart)
    ∙ ap (option_map (λ n. suc n)) (own-place slots k p (IsDistinct-tail is_same q.0 names distinct) h)

pub set-absent : (name : List ℕ) (w : ℕ) (es : List (List ℕ × ℕ)) → lookup (is_same name) es ≡ None → es ≡ set_value (is_same name) es w
set-absent name w [] h = refl
set-absent name w (e ∷ es) h =
    let parts = lookup-first (is_same name e.0) e.1 (lookup (is_same name) es) h in
    ap (λ l. e ∷ l) (set-absent name w es parts.1)
    ∙ sym (ap (λ t. if t then (e.0, w) ∷ es else e ∷ set_value (is_same name) es w) parts.0)

lookup-set : (name other : List ℕ) (w : ℕ) (es : List (List ℕ × ℕ)) → is_some (lookup (is_same name) es) ≡ true → lookup (is_same other) (set_value (is_same name) es w) ≡ (if is_same name other then Some w else lookup (is_same other) es)
lookup-set name other w [] h = absurd (cc h)
lookup-set name other w (e ∷ es) h = by (is_same name e.0) (is_same name other) refl refl h (lookup-set name other w es)
  where
    by : (t u : Bool) → is_same name e.0 ≡ t → is_same name other ≡ u → is_some (if t then Some e.1 else lookup (is_same name) es) ≡ true → (is_some (lookup (is_same name) es) ≡ true → lookup (is_same other) (set_value (is_same name) es w) ≡ (if is_same name other then Some w else lookup (is_same other) es)) → lookup (is_same other) (if t then (e.0, w) ∷ es else e ∷ set_value (is_same name) es w) ≡ (if u then Some w else if is_same other e.0 then Some e.1 else lookup (is_same other) es)
    by true true a b k more =
        let it : is_same other e.0 ≡ true = ap (λ (n : List ℕ). is_same n e.0) (sym (same-name name other b)) ∙ a in
        ap (λ t. if t then Some w else lookup (is_same other) es) it
    by true false a b k more =
        let it : is_same other e.0 ≡ false = ap (is_same other) (sym (same-name name e.0 a)) ∙ other-way name other b in
        ap (λ t. if t then Some w else lookup (is_same other) es) it ∙ sym (ap (λ t. if t then Some e.1 else lookup (is_same other) es) it)
    by false true a b k more =
        let it : is_same other e.0 ≡ false = ap (λ (n : List ℕ). is_same n e.0) (sym (same-name name other b)) ∙ a in
        ap (λ t. if t then Some e.1 else lookup (is_same other) (set_value (is_same name) es w)) it
        ∙ (more k ∙ ap (λ t. if t then Some w else lookup (is_same other) es) b)
    by false false a b k more =
        ap (λ o. if is_same other e.0 then Some e.1 else o) (more k ∙ ap (λ t. if t then Some w else lookup (is_same other) es) b)

-- the number of a name that doesn't stand at k
numbered-other : (k : ℕ) (o old new : Option ℕ) → IsNumbered k o old → new ≡ old → ((i : ℕ) → o ≡ Some i → i ≡ k → ⊥) → IsNumbered (k + 1) o new
unfolding IsNumbered
numbered-other k None old new h e apart = e ∙ h
numbered-other k (Some i) old new h e apart = (λ (below : i < k + 1). e ∙ h.0 (let no : i ≡ k → ⊥ = apart i refl in omega arith), ap is_some e ∙ h.1)

numbered-here : (k : ℕ) (o new : Option ℕ) → o ≡ Some k → new ≡ Some k → IsNumbered (k + 1) o new
unfolding IsNumbered
numbered-here k o new at e = subst (λ (x : Option ℕ). IsNumbered (k + 1) x new) (sym at) (λ (below : k < k + 1). e, ap is_some e)

numbered-there : (k : ℕ) (o old : Option ℕ) → IsNumbered k o old → o ≡ Some k → is_some old ≡ true
unfolding IsNumbered
numbered-there k None old h e = absurd (cc e)
numbered-there k (Some i) old h e = h.1

pub numbered-next : (k : ℕ) (places next : List (List ℕ × ℕ)) (slots : List (Option (List ℕ × Value))) (s : Option (List ℕ × Value)) → HaveOwnNames (standing slots) → slice_get slots k ≡ Some s → next ≡ option_map_or (λ p. set_value (is_same p.0) places k) s places → AreNumbered k places slots → AreNumbered (k + 1) next slots
numbered-next k places next slots None distinct at step h name =
    numbered-other k (place_of name slots) (lookup (is_same name) places) (lookup (is_same name) next) (h name) (ap (lookup (is_same name)) step) apart
  where
    apart : (i : ℕ) → place_of name slots ≡ Some i → i ≡ k → ⊥
    apart i e same =
        let there : slice_get slots i ≡ Some None = ap (slice_get slots) same ∙ at in
        let named : false ≡ true = sym (ap (λ (o : Option (Option (List ℕ × Value))). is_named name (unwrap_or o None)) there) ∙ named-slot name slots i e in
        absurd (cc named)
numbered-next k places next slots (Some p) distinct at step h name = by (is_same p.0 name) refl
  where
    place : place_of p.0 slots ≡ Some k
    place = own-place slots k p distinct at

    found : lookup (is_same name) next ≡ (if is_same p.0 name then Some k else lookup (is_same name) places)
    found = ap (lookup (is_same name)) step ∙ lookup-set p.0 name k places (numbered-there k (place_of p.0 slots) (lookup (is_same p.0) places) (h p.0) place)

    apart : is_same p.0 name ≡ false → (i : ℕ) → place_of name slots ≡ Some i → i ≡ k → ⊥
    apart other i e same =
        let there : slice_get slots i ≡ Some (Some p) = ap (slice_get slots) same ∙ at in
        let named : is_same name p.0 ≡ true = sym (ap (λ (o : Option (Option (List ℕ × Value))). is_named name (unwrap_or o None)) there) ∙ named-slot name slots i e in
        absurd (cc (sym named ∙ other-way p.0 name other))

    by : (t : Bool) → is_same p.0 name ≡ t → IsNumbered (k + 1) (place_of name slots) (lookup (is_same name) next)
    by true e =
        numbered-here k (place_of name slots) (lookup (is_same name) next)
        (ap (λ (n : List ℕ). place_of n slots) (sym (same-name p.0 name e)) ∙ place)
        (found ∙ ap (λ t. if t then Some k else lookup (is_same name) places) e)
    by false e =
        numbered-other k (place_of name slots) (lookup (is_same name) places) (lookup (is_same name) next) (h name)
        (found ∙ ap (λ t. if t then Some k else lookup (is_same name) places) e) (apart e)

-- The slots that are kept

pub standing-full : (slots : List (Option (List ℕ × Value))) → standing (filter (λ s. is_some s) slots) ≡ standing slots
standing-full [] = refl
standing-full (None ∷ slots) = standing-full slots
standing-full (Some p ∷ slots) = ap (λ l. p ∷ l) (standing-full slots)

pub standing-kept : (q : List ℕ → Bool) (slots : List (Option (List ℕ × Value))) → standing (filter (λ s. option_map_or (λ p. q p.0) s false) slots) ≡ filter (λ p. q p.0) (standing slots)
standing-kept q [] = refl
standing-kept q (None ∷ slots) = standing-kept q slots
standing-kept q (Some p ∷ slots) = by (q p.0) (standing-kept q slots)
  where
    by : (t : Bool) → standing (filter (λ s. option_map_or (λ p. q p.0) s false) slots) ≡ filter (λ p. q p.0) (standing slots) → standing (if t then Some p ∷ filter (λ s. option_map_or (λ p. q p.0) s false) slots else filter (λ s. option_map_or (λ p. q p.0) s false) slots) ≡ (if t then p ∷ filter (λ p. q p.0) (standing slots) else filter (λ p. q p.0) (standing slots))
    by true more = ap (λ l. p ∷ l) more
    by false more = more

-- an index names what stands
pub names-index : (places : List (List ℕ × ℕ)) (slots : List (Option (List ℕ × Value))) → Indexes places slots → IsIndexOfNames places (standing slots)
names-index places slots h name = ap is_some (h.found name) ∙ place-standing name slots

pub names-kept : (q : List ℕ → Bool) (places : List (List ℕ × ℕ)) (slots : List (Option (List ℕ × Value))) → Indexes places slots → IsIndexOfNames (filter (λ e. q e.0) places) (filter (λ p. q p.0) (standing slots))
names-kept q places slots h name =
    ap is_some (kept places)
    ∙ (by (q name) ∙ sym (ap is_some (kept (standing slots))))
  where
    kept : {X : Type 0} (es : List (List ℕ × X)) → lookup (is_same name) (filter (λ e. q e.0) es) ≡ (if q name then lookup (is_same name) es else None)
    kept es = lookup-filter-keys (is_same name) q (q name) (λ k e. ap q (sym (same-name name k e))) es

    by : (t : Bool) → is_some (if t then lookup (is_same name) places else None) ≡ is_some (if t then lookup (is_same name) (standing slots) else None)
    by true = names-index places slots h name
    by false = refl

-- Properties in turn

pub insert_all-last : (es ps : List (List ℕ × Value)) (p : List ℕ × Value) → insert_all is_same es (ps ++ p ∷ []) ≡ insert_entry is_same (insert_all is_same es ps) p.0 p.1
insert_all-last es [] p = refl
insert_all-last es (q ∷ ps) p = insert_all-last (insert_entry is_same es q.0 q.1) ps p

placed-last : (place : ℕ) (vs : List Value) (v : Value) → placed place (vs ++ v ∷ []) ≡ placed place vs ++ (decimal_digits (place + length vs), v) ∷ []
placed-last place [] v = let e : place ≡ place + 0 = omega arith in ap (λ n. (decimal_digits n, v) ∷ []) e
placed-last place (w ∷ vs) v =
    let e : place + 1 + length vs ≡ place + suc (length vs) = omega arith in
    ap (λ l. (decimal_digits place, w) ∷ l) (placed-last (place + 1) vs v ∙ ap (λ n. placed (place + 1) vs ++ (decimal_digits n, v) ∷ []) e)

pub placed-next : (vs : List Value) (v : Value) (place : ℕ) (name : List ℕ) (old new : List (List ℕ × Value)) (p : List ℕ × Value) → old ≡ placed 0 vs → place ≡ length vs → name ≡ decimal_digits place → p ≡ (name, v) → new ≡ old ++ p ∷ [] → new ≡ placed 0 (vs ++ v ∷ [])
placed-next vs v place name old new p done counted named made step =
    let at : place ≡ 0 + length vs = omega arith in
    step ∙ (ap (λ l. l ++ p ∷ []) done
    ∙ (ap (λ q. placed 0 vs ++ q ∷ []) (made ∙ ap (λ n. (n, v)) (named ∙ ap decimal_digits at))
    ∙ sym (placed-last 0 vs v)))
