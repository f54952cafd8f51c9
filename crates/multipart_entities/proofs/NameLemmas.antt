-- Parts by their names, from the entries of the map that holds their places.
use Rattle.std.proofs.Common.{◌≡◌, ℕ, Bool, true, false, cond, nat_eq, List, [], ◌∷◌, ◌++◌, append-nil, Option, Some, None, refl, sym, ◌∙◌, ap}
use Rattle.std.specs.Prelude.{◌||◌, not, map, filter, find, option_map, is_some}
use Rattle.std.specs.List.{list_any}
use Rattle.std.specs.Option.{option_to_list}
use Rattle.std.specs.Cmp.Lexicographic.{pointwise}
use Rattle.std.specs.HashMap.{HashMap, get}
use Rattle.std.specs.Map.{lookup}
use Rattle.std.proofs.lemmas.Cmp.{nat_list_eq_equiv}
use Rattle.indexmap.specs.IndexMap.{insert_entry}
use Rattle.indexmap.proofs.CallerLemmas.{insert_entry-new}
use Rattle.multipart_entities.specs.declared.parts.Part.{Part}
use Rattle.multipart_entities.specs.Parts.{first_of_each, is_named, place_of}
use Rattle.multipart_entities.specs.PartViews.{with_part}
use Rattle.multipart_entities.specs.Places.{part_of_entry}

abbrev pub place : Part → ℕ × ℕ
place part = (part.start, part.end)

place-cond : (b c : Bool) (e : List ℕ × (ℕ × ℕ)) (o : Option Part) (p : Option (ℕ × ℕ)) → b ≡ c → option_map place o ≡ p → option_map place (cond b (Some (part_of_entry e)) o) ≡ cond c (Some e.1) p
place-cond true true e o p q h = refl
place-cond true false e o p q h = absurd (cc)
place-cond false true e o p q h = absurd (cc)
place-cond false false e o p q h = h

place_of-entries : (entries : List (List ℕ × (ℕ × ℕ))) (name : List ℕ) → place_of name (map part_of_entry entries) ≡ lookup (pointwise nat_eq name) entries
place_of-entries [] name = refl
place_of-entries (e ∷ entries) name =
    place-cond (pointwise nat_eq e.0 name) (pointwise nat_eq name e.0) e (find (is_named name) (map part_of_entry entries)) (lookup (pointwise nat_eq name) entries) (nat_list_eq_equiv.symm e.0 name) (place_of-entries entries name)

-- what the map gives for a name is the place of the part with that name
pub get-place_of : {S : Type 0} (m : HashMap (List ℕ) (ℕ × ℕ) S) (name : List ℕ) → get (pointwise nat_eq) m name ≡ place_of name (map part_of_entry m.entries)
get-place_of m name = sym (place_of-entries m.entries name)

-- ---- one part more

any-cond : (b u : Bool) (p : Part) (o : Option Part) → is_some (option_map place o) ≡ u → is_some (option_map place (cond b (Some p) o)) ≡ (b || u)
any-cond true u p o e = refl
any-cond false u p o e = e

pub place-any : (name : List ℕ) (parts : List Part) → is_some (place_of name parts) ≡ list_any (is_named name) parts
place-any name [] = refl
place-any name (part ∷ parts) = any-cond (is_named name part) (list_any (is_named name) parts) part (find (is_named name) parts) (place-any name parts)

-- ---- of parts with one name the first counts

filter-by : {A : Type 0} → (t : Bool) (x : A) (xs ys zs : List A) → xs ≡ ys ++ zs → cond t (x ∷ xs) xs ≡ cond t (x ∷ ys) ys ++ zs
filter-by true x xs ys zs e = ap (λ l. x ∷ l) e
filter-by false x xs ys zs e = e

filter-append : {A : Type 0} → (test : A → Bool) (xs : List A) (y : A) → filter test (xs ++ y ∷ []) ≡ filter test xs ++ cond (test y) (y ∷ []) []
filter-append test [] y = refl
filter-append test (x ∷ xs) y = filter-by (test x) x (filter test (xs ++ y ∷ [])) (filter test xs) (cond (test y) (y ∷ []) []) (filter-append test xs y)

any-filter-by : (t k u v : Bool) (rest : List Part) (test : Part → Bool) (x : Part) → test x ≡ t → (t ≡ true → k ≡ true) → list_any test rest ≡ u → u ≡ v → list_any test (cond k (x ∷ rest) rest) ≡ (t || v)
any-filter-by t true u v rest test x e f p q = rw (e, p, q) refl
any-filter-by true false u v rest test x e f p q = absurd (cc (f refl))
any-filter-by false false u v rest test x e f p q = p ∙ q

-- a filter keeps all that pass the test
any-filter : (test keeps : Part → Bool) (parts : List Part) → ((part : Part) → test part ≡ true → keeps part ≡ true) → list_any test (filter keeps parts) ≡ list_any test parts
any-filter test keeps [] f = refl
any-filter test keeps (part ∷ parts) f =
    any-filter-by (test part) (keeps part) (list_any test (filter keeps parts)) (list_any test parts) (filter keeps parts) test part refl (f part) refl (any-filter test keeps parts f)

-- the other has another name
abbrev is_other : Part → Part → Bool
is_other part other = not (is_named part.name other)

other-name : (q p part : Part) → is_named q.name p ≡ false → is_named p.name part ≡ true → is_other q part ≡ true
other-name q p part e f = ap not (nat_list_eq_equiv.congr part.name p.name q.name f ∙ e)

push-by : (q p : Part) (rest : List Part) (s a : Bool) → is_named q.name p ≡ s → list_any (is_named p.name) rest ≡ a
    → q ∷ filter (is_other q) (cond a rest (rest ++ p ∷ [])) ≡ cond (s || list_any (is_named p.name) (filter (is_other q) rest)) (q ∷ filter (is_other q) rest) ((q ∷ filter (is_other q) rest) ++ p ∷ [])
push-by q p rest true true e f = refl
push-by q p rest true false e f = ap (λ l. q ∷ l) (filter-append (is_other q) rest p ∙ (ap (λ b. filter (is_other q) rest ++ cond (not b) (p ∷ []) []) e ∙ append-nil (filter (is_other q) rest)))
push-by q p rest false true e f =
    let any : list_any (is_named p.name) (filter (is_other q) rest) ≡ true = any-filter (is_named p.name) (is_other q) rest (λ part g. other-name q p part e g) ∙ f in
    rw any refl
push-by q p rest false false e f =
    let any : list_any (is_named p.name) (filter (is_other q) rest) ≡ false = any-filter (is_named p.name) (is_other q) rest (λ part g. other-name q p part e g) ∙ f in
    rw any (ap (λ l. q ∷ l) (filter-append (is_other q) rest p ∙ ap (λ b. filter (is_other q) rest ++ cond (not b) (p ∷ []) []) e))

with-any : (parts : List Part) (part : Part) → with_part parts part ≡ cond (list_any (is_named part.name) parts) parts (parts ++ part ∷ [])
with-any parts part = ap (λ b. cond b parts (parts ++ part ∷ [])) (place-any part.name parts)

pub first-push : (parts : List Part) (part : Part) → first_of_each (parts ++ part ∷ []) ≡ with_part (first_of_each parts) part
unfolding first_of_each
first-push [] part = refl
first-push (q ∷ parts) part =
    let rest = first_of_each parts in
    ap (λ l. q ∷ filter (is_other q) l) (first-push parts part ∙ with-any rest part)
    ∙ (push-by q part rest (is_named q.name part) (list_any (is_named part.name) rest) refl refl
    ∙ (ap (λ b. cond (b || list_any (is_named part.name) (filter (is_other q) rest)) (q ∷ filter (is_other q) rest) ((q ∷ filter (is_other q) rest) ++ part ∷ [])) (nat_list_eq_equiv.symm part.name q.name)
    ∙ sym (with-any (q ∷ filter (is_other q) rest) part)))

pub first-none : first_of_each [] ≡ []
unfolding first_of_each
first-none = refl

pub first-one : (o : Option Part) → first_of_each (option_to_list o) ≡ option_to_list o
unfolding first_of_each
first-one None = refl
first-one (Some part) = refl

-- ---- the map that holds the places

map-last : (entries : List (List ℕ × (ℕ × ℕ))) (e : List ℕ × (ℕ × ℕ)) → map part_of_entry (entries ++ e ∷ []) ≡ map part_of_entry entries ++ part_of_entry e ∷ []
map-last [] e = refl
map-last (x ∷ entries) e = ap (λ z. part_of_entry x ∷ z) (map-last entries e)

-- a new part goes last
pub entries-last : {S : Type 0} (old new : HashMap (List ℕ) (ℕ × ℕ) S) (part : Part) → get (pointwise nat_eq) old part.name ≡ None → new.entries ≡ insert_entry (pointwise nat_eq) old.entries part.name (part.start, part.end)
    → map part_of_entry new.entries ≡ with_part (map part_of_entry old.entries) part
entries-last old new part n e =
    let absent : is_some (place_of part.name (map part_of_entry old.entries)) ≡ false = ap is_some (sym (get-place_of old part.name) ∙ n) in
    ap (map part_of_entry) (e ∙ insert_entry-new (pointwise nat_eq) old part.name (part.start, part.end) n)
    ∙ (map-last old.entries (part.name, (part.start, part.end))
    ∙ sym (ap (λ b. cond b (map part_of_entry old.entries) (map part_of_entry old.entries ++ part ∷ [])) absent))

pub none-some : {A : Type 0} → (o : Option A) → is_some o ≡ false → o ≡ None
none-some None e = refl
none-some (Some x) e = absurd (cc e)
