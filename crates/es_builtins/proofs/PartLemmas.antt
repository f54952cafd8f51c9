-- The parts of a text between separators.
use Rattle.std.proofs.Common.{◌≡◌, ℕ, zero, suc, ◌+◌, ◌-◌, ◌<◌, ◌≤◌, Bool, true, false, List, [], ◌∷◌, ◌++◌, length, take, drop, map, refl, sym, ◌∙◌, ap, subst, arith, length-drop, append_assoc}
use Rattle.std.specs.Prelude.{nat_eq, nat_le, filter, if◌then◌else◌, Option, Some, None, Result, Ok, Err, OnOk, All}
use Rattle.std.specs.List.{find, range_with_len}
use Rattle.std.proofs.lemmas.Bool.Decides.{nat_tests}
use Rattle.std.proofs.lemmas.List.Elements.{All-cons, All-nil}
use Rattle.es_values.specs.declared.values.Value.{Value}
use Rattle.es_values.specs.declared.values.Value.TheVariants.{Str}
use Rattle.es_values.specs.Values.{IsLiveAmong}
use Rattle.es_builtins.specs.Fronts.{front_at}
use Rattle.es_builtins.specs.Texts.{first_place, parts_within, split, stands_at}
use Rattle.es_builtins.proofs.FrontLemmas.{common-le_other, stands-front}

-- ---- a place that is found

passes : (p q : ℕ → Bool) (xs : List ℕ) (place : ℕ) → find q (filter p xs) ≡ Some place → p place ≡ true
passes p q [] place e = absurd (cc)
passes p q (x ∷ xs) place e = by (p x) refl e (passes p q xs place)
  where
    here : (u : Bool) → p x ≡ true → (if u then Some x else find q (filter p xs)) ≡ Some place → (find q (filter p xs) ≡ Some place → p place ≡ true) → p place ≡ true
    here true hit e rest = let same : x ≡ place = cc in ap p (sym same) ∙ hit
    here false hit e rest = rest e

    by : (t : Bool) → p x ≡ t → find q (if t then x ∷ filter p xs else filter p xs) ≡ Some place → (find q (filter p xs) ≡ Some place → p place ≡ true) → p place ≡ true
    by true hit e rest = here (q x) hit e rest
    by false hit e rest = rest e

eq-of : (a b : ℕ) → nat_eq a b ≡ true → a ≡ b
eq-of a b e = grind (arith, nat_tests)

pub place-stands : (wanted text : List ℕ) (place : ℕ) → first_place wanted text 0 ≡ Some place → stands_at wanted text place ≡ true
unfolding first_place
place-stands wanted text place e = passes (stands_at wanted text) (nat_le 0) (range_with_len 0 (suc (length text))) place e

pub place-within : (wanted text : List ℕ) (place : ℕ) → 0 < length wanted → first_place wanted text 0 ≡ Some place → place + length wanted ≤ length text
unfolding first_place
place-within wanted text place some e =
    let stands : stands_at wanted text place ≡ true = passes (stands_at wanted text) (nat_le 0) (range_with_len 0 (suc (length text))) place e in
    let whole : front_at wanted text place ≡ length wanted = eq-of (front_at wanted text place) (length wanted) (sym (stands-front wanted text place) ∙ stands) in
    let size : length (drop place text) ≡ length text - place = length-drop place text in
    omega (arith, whole, size, common-le_other wanted (drop place text))

-- ---- parts, one by one

pub parts-none : (more : ℕ) (separator text : List ℕ) → first_place separator text 0 ≡ None → parts_within more separator text ≡ text ∷ []
unfolding parts_within
parts-none zero separator text e = refl
parts-none (suc more) separator text e = rw (parts_within, e) refl

pub parts-some : (more : ℕ) (separator text : List ℕ) (place : ℕ) → first_place separator text 0 ≡ Some place → parts_within (suc more) separator text ≡ take place text ∷ parts_within more separator (drop (place + length separator) text)
unfolding parts_within
parts-some more separator text place e = rw (parts_within, e) refl

-- however many parts are allowed, where they are as many as there are codes
parts-more : (more other : ℕ) (separator text : List ℕ) → 0 < length separator → length text ≤ more → length text ≤ other → parts_within more separator text ≡ parts_within other separator text
parts-more zero other separator text some h g = by (first_place separator text 0) refl
  where
    by : (o : Option ℕ) → first_place separator text 0 ≡ o → parts_within zero separator text ≡ parts_within other separator text
    by None e = parts-none zero separator text e ∙ sym (parts-none other separator text e)
    by (Some place) e = absurd (omega (arith, place-within separator text place some e))
parts-more (suc more) zero separator text some h g = by (first_place separator text 0) refl
  where
    by : (o : Option ℕ) → first_place separator text 0 ≡ o → parts_within (suc more) separator text ≡ parts_within zero separator text
    by None e = parts-none (suc more) separator text e ∙ sym (parts-none zero separator text e)
    by (Some place) e = absurd (omega (arith, place-within separator text place some e))
parts-more (suc more) (suc other) separator text some h g =
    by (first_place separator text 0) refl (λ place low high. parts-more more other separator (drop (place + length separator) text) some low high)
  where
    by : (o : Option ℕ) → first_place separator text 0 ≡ o → ((place : ℕ) → length (drop (place + length separator) text) ≤ more → length (drop (place + length separator) text) ≤ other → parts_within more separator (drop (place + length separator) text) ≡ parts_within other separator (drop (place + length separator) text)) → parts_within (suc more) separator text ≡ parts_within (suc other) separator text
    by None e rest = parts-none (suc more) separator text e ∙ sym (parts-none (suc other) separator text e)
    by (Some place) e rest =
        let size : length (drop (place + length separator) text) ≡ length text - (place + length separator) = length-drop (place + length separator) text in
        let within = place-within separator text place some e in
        parts-some more separator text place e
        ∙ (ap (λ l. take place text ∷ l) (rest place (omega arith) (omega arith))
        ∙ sym (parts-some other separator text place e))

abbrev pub all_parts : List ℕ → List ℕ → List (List ℕ)
all_parts separator text = parts_within (length text) separator text

pub all_parts-none : (separator text : List ℕ) → first_place separator text 0 ≡ None → all_parts separator text ≡ text ∷ []
all_parts-none separator text e = parts-none (length text) separator text e

pub all_parts-short : (separator text : List ℕ) → length text < length separator → all_parts separator text ≡ text ∷ []
all_parts-short separator text h = by (first_place separator text 0) refl
  where
    by : (o : Option ℕ) → first_place separator text 0 ≡ o → all_parts separator text ≡ text ∷ []
    by None e = all_parts-none separator text e
    by (Some place) e = absurd (omega (arith, place-within separator text place (omega arith) e))

all_parts-some : (separator text : List ℕ) (place : ℕ) → 0 < length separator → first_place separator text 0 ≡ Some place → all_parts separator text ≡ take place text ∷ all_parts separator (drop (place + length separator) text)
all_parts-some separator text place some e = by (length text) refl
  where
    size : length (drop (place + length separator) text) ≡ length text - (place + length separator)
    size = length-drop (place + length separator) text

    within : place + length separator ≤ length text
    within = place-within separator text place some e

    by : (n : ℕ) → length text ≡ n → parts_within n separator text ≡ take place text ∷ all_parts separator (drop (place + length separator) text)
    by zero count = absurd (omega (arith, within))
    by (suc n) count =
        parts-some n separator text place e
        ∙ ap (λ l. take place text ∷ l) (parts-more n (length (drop (place + length separator) text)) separator (drop (place + length separator) text) some (omega (arith, size, within)) (omega arith))

-- a part is put behind the others, and the rest is parted
pub parted-next : (separator text rest : List ℕ) (place : ℕ) (old new : List Value) → 0 < length separator → first_place separator text 0 ≡ Some place → rest ≡ drop (place + length separator) text → new ≡ old ++ Str (take place text) ∷ [] → new ++ map (λ part. Str part) (all_parts separator rest) ≡ old ++ map (λ part. Str part) (all_parts separator text)
parted-next separator text rest place old new some e behind step =
    let parts : List ℕ → List Value = λ t. map (λ part. Str part) (all_parts separator t) in
    ap (λ l. l ++ parts rest) step
    ∙ (append_assoc old (Str (take place text) ∷ []) (parts rest)
    ∙ (ap (λ t. old ++ Str (take place text) ∷ parts t) behind
    ∙ ap (λ ps. old ++ map (λ part. Str part) ps) (sym (all_parts-some separator text place some e))))

-- at the end, and where the text is shorter than the separator
pub parted-last : {E : Type 0} (r : Result (Unit {0}) E) (separator text rest : List ℕ) (first old new : List Value) → all_parts separator rest ≡ rest ∷ [] → OnOk r (new ≡ old ++ Str rest ∷ []) → old ++ map (λ part. Str part) (all_parts separator rest) ≡ first ++ map (λ part. Str part) (all_parts separator text) → OnOk r (new ≡ first ++ map (λ part. Str part) (all_parts separator text))
parted-last (Ok u) separator text rest first old new one step all = step ∙ (ap (λ ps. old ++ map (λ part. Str part) ps) (sym one) ∙ all)
parted-last (Err e) separator text rest first old new one step all = tt

-- ---- the three ways to split

pub split-whole : (text : List ℕ) (separator : Option (List ℕ)) (parts : List Value) → separator ≡ None → parts ≡ Str text ∷ [] → parts ≡ map (λ part. Str part) (split text separator)
unfolding split
split-whole text separator parts e step = rw e step

pub split-codes : (text other : List ℕ) (separator : Option (List ℕ)) (parts : List Value) → separator ≡ Some other → length other ≡ 0 → parts ≡ map (λ part. Str part) (map (λ code. code ∷ []) text) → parts ≡ map (λ part. Str part) (split text separator)
unfolding split
split-codes text [] separator parts e none step = rw e step
split-codes text (x ∷ xs) separator parts e none step = absurd (omega (arith, none))

pub split-parts : (text other : List ℕ) (separator : Option (List ℕ)) (parts : List Value) → separator ≡ Some other → 0 < length other → parts ≡ map (λ part. Str part) (all_parts other text) → parts ≡ map (λ part. Str part) (split text separator)
unfolding split
split-parts text [] separator parts e some step = absurd (omega (arith, some))
split-parts text (x ∷ xs) separator parts e some step = rw e step

-- texts live in every heap
pub live-texts : (count : ℕ) (texts : List (List ℕ)) (values : List Value) → values ≡ map (λ part. Str part) texts → All (IsLiveAmong count) values
live-texts count texts values e = subst (All (IsLiveAmong count)) (sym e) (each texts)
  where
    each : (texts : List (List ℕ)) → All (IsLiveAmong count) (map (λ part. Str part) texts)
    each [] = All-nil (IsLiveAmong count)
    each (text ∷ more) = All-cons (IsLiveAmong count) (Str text) (map (λ part. Str part) more) tt (each more)
