-- Where functions are declared: their places, one behind the other, are those of all functions.
use Rattle.std.proofs.Common.{◌≡◌, ℕ, zero, suc, ◌+◌, ◌-◌, ◌<◌, ◌≤◌, List, [], ◌∷◌, ◌++◌, drop, take, length, map, Option, Some, None, get_or, refl, ap, ◌∙◌, sym, arith, append_assoc, length-append, length-take-le, Bor, ltb, false, true}
use Rattle.std.specs.Prelude.{nat_le, slice_get, is_some, IfSome}
use Rattle.std.specs.List.{flat_map}
use Rattle.std.specs.Option.{option_and_then, option_copied, option_map}
use Rattle.std.proofs.lemmas.List.{append-nil, length-map, map-append, take-append-drop, take_all, take_more}
use Rattle.std.proofs.lemmas.List.Folds.{length-flat_map-take}
use Rattle.std.proofs.lemmas.Grind.{flat_map-append}
use Rattle.std.proofs.lemmas.List.Concat.{flat_map-cons}
use Rattle.std.proofs.lemmas.Option.{same_Some, slice_get-map, slice_get_past, slice_get_read}
use Rattle.es_reader.specs.Programs.{ToldFunction, ToldProgram}
use Rattle.es_shapes.specs.declared.functions.Declared.{Declared}
use Rattle.std.proofs.lemmas.Bool.{ltb-false, ltb-true}
use Rattle.std.proofs.lemmas.Bool.Decides.{nat_tests}
use Rattle.es_shapes.specs.Functions.{declared_function, first_function}
use Rattle.es_shapes.specs.devices.Parts.{IsFound, declared_at, places_from, places_in}
use Rattle.es_shapes.specs.Codes.{declared_by, function_at}
use Rattle.es_shapes.specs.Syntax.{Function}

-- ---- places of one program

abbrev pub at_place : ℕ → ℕ → Declared
at_place program place = record { program = program; function = place }

places_in-suc : (program start : ℕ) (functions : List ToldFunction) (i : ℕ) → i < length functions
    → places_in program start (take (suc i) functions)
    ≡ places_in program start (take i functions) ++ at_place program (start + i) ∷ []
places_in-suc program start [] i h = absurd (omega arith)
places_in-suc program start (told ∷ functions) zero h =
    let none : start + 0 ≡ start = omega arith in rw none refl
places_in-suc program start (told ∷ functions) (suc i) h =
    let up : start + suc i ≡ (start + 1) + i = omega arith in
    rw up (ap (λ xs. at_place program start ∷ xs)
    (places_in-suc program (start + 1) functions i (omega arith)))

pub places_in-more : (program : ℕ) (functions : List ToldFunction) (i : ℕ) → i < length functions
    → places_in program 0 (take (i + 1) functions)
    ≡ places_in program 0 (take i functions) ++ at_place program i ∷ []
places_in-more program functions i h =
    let up : i + 1 ≡ suc i = omega arith in
    let none : 0 + i ≡ i = omega arith in
    rw up (places_in-suc program 0 functions i h
    ∙ ap (λ k. places_in program 0 (take i functions) ++ at_place program k ∷ [])
    none)

-- ---- places of programs, one behind the other

pub places_from-append : (start : ℕ) (xs ys : List ToldProgram) → places_from start (xs ++ ys)
    ≡ places_from start xs ++ places_from (start + length xs) ys
places_from-append start [] ys =
    let none : start + 0 ≡ start = omega arith in rw none refl
places_from-append start (told ∷ xs) ys =
    let up : start + suc (length xs) ≡ (start + 1) + length xs = omega arith in
    rw (up, append_assoc)
    (ap (λ zs. places_in start 0 told.functions ++ zs) (places_from-append (start + 1) xs ys))

-- ---- lists

slice-seam : {A : Type 0} (xs : List A) (y : A) (ys : List A)
    → slice_get (xs ++ y ∷ ys) (length xs) ≡ Some y
slice-seam [] y ys = refl
slice-seam (x ∷ xs) y ys = slice-seam xs y ys

slice-left : {A : Type 0} (xs ys : List A) (k : ℕ) → k < length xs
    → slice_get (xs ++ ys) k ≡ slice_get xs k
slice-left [] ys k h = absurd (omega arith)
slice-left (x ∷ xs) ys zero h = refl
slice-left (x ∷ xs) ys (suc k) h = slice-left xs ys k (omega arith)

-- what `get` answers
pub got-slice : {A : Type 0} (got : Option (Bor A)) (xs : List A) (k : ℕ)
    → is_some got ≡ ltb k (length xs) → IfSome got (λ x. x.now ≡ get_or xs k x.now)
    → option_copied got ≡ slice_get xs k
got-slice None xs k there is = sym (slice_get_past xs k (ltb-false k (length xs) (sym there)))
got-slice (Some x) xs k there is =
    sym (slice_get_read xs (length xs) k x.now refl (ltb-true k (length xs) (sym there)) is)

-- ---- the functions at the places

function-there : (programs : List ToldProgram) (told : ToldProgram) (program place : ℕ)
    (function : ToldFunction) → slice_get programs program ≡ Some told
    → slice_get told.functions place ≡ Some function
    → declared_at programs (at_place program place) ≡ Some (function_at told.rows function)
unfolding declared_at
function-there programs told program place function h there = rw h (rw there refl)

-- those of a program, from a place on
functions-in : (programs : List ToldProgram) (program : ℕ) (told : ToldProgram)
    (before functions : List ToldFunction) (place : ℕ) → slice_get programs program ≡ Some told
    → place ≡ length before → told.functions ≡ before ++ functions
    → map (declared_at programs) (places_in program place functions)
    ≡ map Some (map (function_at told.rows) functions)
functions-in programs program told before [] place there at whole = refl
functions-in programs program told before (function ∷ functions) place there at whole =
    let here : slice_get told.functions place ≡ Some function =
    rw whole (rw at (slice-seam before function functions)) in
    let first : declared_at programs (at_place program place) ≡ Some (function_at told.rows function) =
    function-there programs told program place function there here in
    let up : place + 1 ≡ length (before ++ function ∷ []) =
    omega (arith, length-append before (function ∷ [])) in
    let others : map (declared_at programs) (places_in program (place + 1) functions)
    ≡ map Some (map (function_at told.rows) functions) =
    functions-in programs program told (before ++ function ∷ []) functions (place + 1) there up
    (whole ∙ sym (append_assoc before (function ∷ []) functions)) in
    rw first (ap (λ xs. Some (function_at told.rows function) ∷ xs) others)

-- those of programs, from one on
functions-from : (all before programs : List ToldProgram) (place : ℕ) → place ≡ length before
    → all ≡ before ++ programs
    → map (declared_at all) (places_from place programs) ≡ map Some (declared_by programs)
unfolding declared_by
functions-from all before [] place at whole = refl
functions-from all before (told ∷ programs) place at whole =
    let there : slice_get all place ≡ Some told = rw whole (rw at (slice-seam before told programs)) in
    let first : map (declared_at all) (places_in place 0 told.functions)
    ≡ map Some (map (function_at told.rows) told.functions) =
    functions-in all place told [] told.functions 0 there refl refl in
    let up : place + 1 ≡ length (before ++ told ∷ []) =
    omega (arith, length-append before (told ∷ [])) in
    let others : map (declared_at all) (places_from (place + 1) programs)
    ≡ map Some (declared_by programs) =
    functions-from all (before ++ told ∷ []) programs (place + 1) up
    (whole ∙ sym (append_assoc before (told ∷ []) programs)) in
    map-append (declared_at all) (places_in place 0 told.functions) (places_from (place + 1) programs)
    ∙ ap (λ xs. xs ++ map (declared_at all) (places_from (place + 1) programs)) first
    ∙ ap (λ xs. map Some (map (function_at told.rows) told.functions) ++ xs) others
    ∙ sym (map-append Some (map (function_at told.rows) told.functions) (declared_by programs))
    ∙ ap (map Some) (sym (flat_map-cons (λ told. map (function_at told.rows) told.functions) told programs))

found-at : (programs : List ToldProgram) (k : ℕ)
    → option_map (declared_at programs) (slice_get (places_from 0 programs) k)
    ≡ option_map Some (slice_get (declared_by programs) k)
found-at programs k =
    sym (slice_get-map (declared_at programs) (places_from 0 programs) k)
    ∙ ap (λ xs. slice_get xs k) (functions-from programs [] programs 0 refl refl)
    ∙ slice_get-map Some (declared_by programs) k

same_found : {A B : Type 0} (f : A → Option B) (there : Option A) (found : Option B)
    → option_map f there ≡ option_map Some found → found ≡ option_and_then f there
same_found f None None h = refl
same_found f (Some x) (Some y) h = sym (same_Some (f x) (Some y) h)
same_found f None (Some y) h = absurd (cc)
same_found f (Some x) None h = absurd (cc)

-- the function of a number is that of the number's place
pub declared-place : (programs : List ToldProgram) (k : ℕ) → slice_get (declared_by programs) k
    ≡ option_and_then (declared_at programs) (slice_get (places_from 0 programs) k)
declared-place programs k =
    same_found (declared_at programs) (slice_get (places_from 0 programs) k)
    (slice_get (declared_by programs) k) (found-at programs k)

is_found : {A B : Type 0} (f : A → Option B) (x : A) (there : Option A) (found : Option B)
    → option_map f there ≡ option_map Some found → there ≡ Some x → f x ≡ None → ⊥
is_found f x None found h there gone = absurd (cc)
is_found f x (Some y) None h there gone = absurd (cc)
is_found f x (Some y) (Some z) h there gone =
    let same : f y ≡ Some z = same_Some (f y) (Some z) h in
    let at : y ≡ x = same_Some y x there in
    absurd (cc)

pub place-there : (programs : List ToldProgram) (k : ℕ) (declared : Declared)
    → slice_get (places_from 0 programs) k ≡ Some declared → declared_at programs declared ≡ None
    → ⊥
place-there programs k declared there gone =
    is_found (declared_at programs) declared (slice_get (places_from 0 programs) k)
    (slice_get (declared_by programs) k) (found-at programs k) there gone

-- ---- the places that were found

pub found-within : (programs : List ToldProgram) (count : ℕ) (found : List Declared)
    → IsFound programs count found → (k : ℕ) → k < length found
    → slice_get found k ≡ slice_get (places_from 0 programs) k
found-within programs count found h k within =
    let all : places_from 0 programs ≡ places_from 0 (take count programs)
    ++ places_from (0 + length (take count programs)) (drop count programs) =
    ap (places_from 0) (sym (take-append-drop count programs))
    ∙ places_from-append 0 (take count programs) (drop count programs) in
    rw (all, ← h.places)
    (sym (slice-left found (places_from (0 + length (take count programs)) (drop count programs)) k within))

pub found-all : (programs : List ToldProgram) (count : ℕ) (found : List Declared)
    → IsFound programs count found → length programs ≤ count → found ≡ places_from 0 programs
found-all programs count found h read =
    h.places ∙ ap (places_from 0) (take_all count programs read)

pub found-more : (programs : List ToldProgram) (count : ℕ) (found : List Declared)
    (told : ToldProgram) → IsFound programs count found → count < length programs
    → told ≡ get_or programs count told
    → IsFound programs (count + 1) (found ++ places_in count 0 told.functions)
found-more programs count found told h more is =
    let front : take (count + 1) programs ≡ take count programs ++ told ∷ [] =
    take_more programs count told more ∙ ap (λ x. take count programs ++ x ∷ []) (sym is) in
    let place : 0 + length (take count programs) ≡ count = omega (arith, length-take-le count programs (omega arith)) in
    let places : places_from 0 (take (count + 1) programs)
    ≡ places_from 0 (take count programs) ++ places_in count 0 told.functions =
    ap (places_from 0) front ∙ places_from-append 0 (take count programs) (told ∷ [])
    ∙ ap (λ xs. places_from 0 (take count programs) ++ xs)
    (append-nil (places_in (0 + length (take count programs)) 0 told.functions)
    ∙ ap (λ k. places_in k 0 told.functions) place) in
    record {
      within = omega arith;
      places = ap (λ xs. xs ++ places_in count 0 told.functions) h.places ∙ sym places;
    }

-- ---- functions by their numbers

pub number-below : (programs : List ToldProgram) (number : ℕ) → number < 16
    → declared_function (declared_by programs) number ≡ None
unfolding first_function
number-below programs number h =
    let low : nat_le 16 number ≡ false = grind (arith, nat_tests) in rw low refl

pub number-at : (programs : List ToldProgram) (number place : ℕ) (found : Option Declared)
    → number ≡ place + 16 → found ≡ slice_get (places_from 0 programs) place
    → declared_function (declared_by programs) number
    ≡ option_and_then (declared_at programs) found
unfolding first_function
number-at programs number place found h is =
    let high : nat_le 16 number ≡ true = grind (arith, nat_tests) in
    let at : number - 16 ≡ place = omega arith in
    rw (high, at) (declared-place programs place
    ∙ ap (option_and_then (declared_at programs)) (sym is))

-- ---- how many functions

pub count-more : (programs : List ToldProgram) (i : ℕ) (told : ToldProgram)
    → i < length programs → told ≡ get_or programs i told
    → length (declared_by (take (i + 1) programs))
    ≡ length (declared_by (take i programs)) + length told.functions
unfolding declared_by
count-more programs i told h is =
    let f : ToldProgram → List Function = λ told. map (function_at told.rows) told.functions in
    let front : take (i + 1) programs ≡ take i programs ++ told ∷ [] =
    take_more programs i told h ∙ ap (λ x. take i programs ++ x ∷ []) (sym is) in
    let parts : flat_map f (take (i + 1) programs)
    ≡ flat_map f (take i programs) ++ (f told ++ []) =
    ap (flat_map f) front ∙ flat_map-append f (take i programs) (told ∷ [])
    ∙ ap (λ xs. flat_map f (take i programs) ++ xs) (flat_map-cons f told []) in
    ap length parts ∙ length-append (flat_map f (take i programs)) (f told ++ [])
    ∙ ap (λ n. length (flat_map f (take i programs)) + n)
    (ap length (append-nil (f told)) ∙ length-map told.functions (function_at told.rows))

pub count-within : (programs : List ToldProgram) (i : ℕ) (told : ToldProgram)
    → i < length programs → told ≡ get_or programs i told
    → length (declared_by (take i programs)) + length told.functions
    ≤ length (declared_by programs)
unfolding declared_by
count-within programs i told h is =
    let f : ToldProgram → List Function = λ told. map (function_at told.rows) told.functions in
    let within : length (flat_map f (take i programs)) + length (f (get_or programs i told))
    ≤ length (flat_map f programs) = length-flat_map-take f programs i told h in
    let same : length (f (get_or programs i told)) ≡ length told.functions =
    ap (λ x. length (f x)) (sym is) ∙ length-map told.functions (function_at told.rows) in
    omega arith
