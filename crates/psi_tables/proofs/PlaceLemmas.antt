-- The last item that counts, by its place.
use Rattle.std.proofs.Common.{◌≡◌, ℕ, zero, suc, ◌<◌, List, [], ◌∷◌, ◌++◌, take, Option, Some, None, refl, sym, ap, ◌∙◌, append_assoc, arith}
use Rattle.std.specs.Prelude.{slice_get, option_map, unwrap_or}
use Rattle.std.specs.List.{filter_map, cons_option}
use Rattle.std.proofs.lemmas.List.{append-nil}
use Rattle.psi_tables.specs.declared.pat.PatEntry.{PatEntry}
use Rattle.psi_tables.specs.declared.pmt.Pmt.{Pmt}
use Rattle.psi_tables.specs.declared.services.Selection.{Selection}
use Rattle.psi_tables.specs.Components.{components_of}
use Rattle.psi_tables.specs.History.{Handled, last_of, moments, service_named, service_of, pmt_for, pmt_counting, map_at_first, map_of}
use Rattle.psi_tables.specs.Places.{NamesAt, CountsAt, IsLast}

abbrev found : {A : Type 0} → A → Option A
found x = Some x

same : {A : Type 0} (x y : A) → found x ≡ found y → x ≡ y
same x y e = cc

never : {A P : Type 0} (x : A) (o : Option A) → o ≡ None → o ≡ Some x → P
never x o e f = absurd cc

-- where it can't be Some it is None
none_from : {A : Type 0} (o : Option A) → ((x : A) → ¬ (o ≡ Some x)) → o ≡ None
none_from None h = refl
none_from (Some x) h = absurd (h x refl)

all_none : {A B : Type 0} (f : A → Option B) (xs : List A) → ((place : ℕ) (y : A) → slice_get xs place ≡ Some y → f y ≡ None) → filter_map f xs ≡ []
all_none f [] h = refl
all_none {A} {B} f (x ∷ xs) h = ap (λ (o : Option B). cons_option o (filter_map f xs)) (h 0 x refl) ∙ all_none f xs (λ place y e. h (suc place) y e)

behind_first : {B : Type 0} (z : Option B) (bs : List B) (b : B) → last_of bs ≡ Some b → last_of (cons_option z bs) ≡ Some b
unfolding last_of
behind_first None bs b e = e
behind_first (Some z) [] b e = absurd cc
behind_first (Some z) (w ∷ bs) b e = e

-- the value at the last place that has one
last_at : {A B : Type 0} (f : A → Option B) (xs : List A) (place : ℕ) (x : A) (b : B) → slice_get xs place ≡ Some x → f x ≡ Some b → ((later : ℕ) (y : A) → place < later → slice_get xs later ≡ Some y → f y ≡ None) → last_of (filter_map f xs) ≡ Some b
unfolding last_of
last_at f [] place x b e is h = absurd cc
last_at {A} {B} f (y ∷ xs) zero x b e is h =
    let first : f y ≡ Some b = ap f (same y x e) ∙ is in
    ap (λ (o : Option B). last_of (cons_option o (filter_map f xs))) first ∙ ap (λ (bs : List B). last_of (b ∷ bs)) (all_none f xs (λ place y e. h (suc place) y (omega arith) e))
last_at f (y ∷ xs) (suc place) x b e is h = behind_first (f y) (filter_map f xs) b (last_at f xs place x b e is (λ later y lt e. h (suc later) y (omega arith) e))

-- the moments of a history, by their places
moment_at : {A : Type 0} (before xs : List A) (place : ℕ) (x : A) → slice_get xs place ≡ Some x → slice_get (moments before xs) place ≡ Some (before ++ take place xs, x)
unfolding moments
moment_at before [] place x e = absurd cc
moment_at {A} before (y ∷ xs) zero x e = ap (λ (z : A). Some (before, z)) (same y x e) ∙ ap (λ (front : List A). Some (front, x)) (sym (append-nil before))
moment_at {A} before (y ∷ xs) (suc place) x e =
    moment_at (before ++ y ∷ []) xs place x e ∙ ap (λ (front : List A). Some (front, x)) (append_assoc before (y ∷ []) (take place xs))

at_moment : {A : Type 0} (before xs : List A) (place : ℕ) (m : List A × A) → slice_get (moments before xs) place ≡ Some m → (slice_get xs place ≡ Some m.1) × (m.0 ≡ before ++ take place xs)
unfolding moments
at_moment before [] place m e = absurd cc
at_moment {A} before (y ∷ xs) zero m e =
    let is : (before, y) ≡ m = same (before, y) m e in
    (ap (λ (n : List A × A). Some n.1) is, sym (ap (λ (n : List A × A). n.0) is) ∙ sym (append-nil before))
at_moment before (y ∷ xs) (suc place) m e =
    let p = at_moment (before ++ y ∷ []) xs place m e in
    (p.0, p.1 ∙ append_assoc before (y ∷ []) (take place xs))

-- the service

pub service_last : (selection : Selection) (history : List Handled) (place : ℕ) (service : PatEntry) → IsLast (NamesAt selection history) place service → service_of selection history ≡ Some service
service_last selection history place service is =
    last_at (service_named selection) history place is.holds.handled service is.holds.stands is.holds.names
    (λ later y lt e. none_from (service_named selection y) (λ other f. is.last later other lt (record { handled = y; stands = e; names = f })))

pub service_none : (selection : Selection) (history : List Handled) → ((place : ℕ) (service : PatEntry) → ¬ NamesAt selection history place service) → service_of selection history ≡ None
unfolding last_of
service_none selection history h =
    ap last_of (all_none (service_named selection) history (λ place y e. none_from (service_named selection y) (λ other f. h place other (record { handled = y; stands = e; names = f }))))

-- the map

-- what a moment gives is what counts at its place
counting_at : (selection : Selection) (history : List Handled) (place : ℕ) (m : List Handled × Handled) (pmt : Pmt) → slice_get (moments [] history) place ≡ Some m → pmt_counting selection m ≡ Some pmt → CountsAt selection history place pmt
counting_at selection history place m pmt e counts =
    let p = at_moment [] history place m e in
    record { handled = m.1; stands = p.0; counts = ap (λ (before : List Handled). pmt_for (service_of selection before) m.1) (sym p.1) ∙ counts }

pub map_last : (selection : Selection) (history : List Handled) (place : ℕ) (pmt : Pmt) → IsLast (CountsAt selection history) place pmt → map_of selection history ≡ components_of pmt.streams
map_last selection history place pmt is =
    let last : last_of (filter_map (pmt_counting selection) (moments [] history)) ≡ Some pmt =
    last_at (pmt_counting selection) (moments [] history) place (take place history, is.holds.handled) pmt (moment_at [] history place is.holds.handled is.holds.stands) is.holds.counts
    (λ later m lt e. none_from (pmt_counting selection m) (λ other f. is.last later other lt (counting_at selection history later m other e f))) in
    ap (λ (o : Option Pmt). unwrap_or (option_map (λ (pmt : Pmt). components_of pmt.streams) o) (map_at_first selection)) last

pub map_none : (selection : Selection) (history : List Handled) → ((place : ℕ) (pmt : Pmt) → ¬ CountsAt selection history place pmt) → map_of selection history ≡ map_at_first selection
unfolding last_of
map_none selection history h =
    ap (λ (all : List Pmt). unwrap_or (option_map (λ (pmt : Pmt). components_of pmt.streams) (last_of all)) (map_at_first selection))
    (all_none (pmt_counting selection) (moments [] history) (λ place m e. none_from (pmt_counting selection m) (λ other f. h place other (counting_at selection history place m other e f))))
