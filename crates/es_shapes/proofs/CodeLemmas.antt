-- Children and statements in a row, at a place that is there, and past the last one.
use Rattle.std.proofs.Common.{◌≡◌, ℕ, zero, suc, ◌+◌, ◌<◌, ◌≤◌, true, false, List, [], ◌∷◌, drop, length, Option, Some, None, refl, ap, ◌∙◌, sym, arith}
use Rattle.std.specs.Prelude.{nat_lt, slice_get}
use Rattle.std.specs.Option.{option_map_or}
use Rattle.std.proofs.lemmas.Option.{same_Some}
use Rattle.es_expressions.specs.Nodes.{NodeRow}
use Rattle.es_expressions.specs.Trees.Trees.{NoTrees, OneMore}
use Rattle.es_reader.specs.Programs.{ToldFunction, ToldProgram}
use Rattle.es_shapes.specs.declared.codes.Code.{Code}
use Rattle.es_shapes.specs.declared.codes.Listing.TheVariants.{Top, Body}
use Rattle.es_shapes.specs.devices.Numbers.{body_of, top_of}
use Rattle.es_shapes.specs.Codes.{below, tree_at, trees_at}
use Rattle.es_shapes.specs.devices.Parts.{children_of, listed, rows_of, tree_of, trees_from}

-- ---- lists from a place on

drop-next : {A : Type 0} (xs : List A) (n : ℕ) (x : A) → slice_get xs n ≡ Some x
    → drop n xs ≡ x ∷ drop (suc n) xs
drop-next [] n x h = absurd (cc)
drop-next (y ∷ ys) zero x h = ap (λ z. z ∷ ys) (same_Some y x h)
drop-next (y ∷ ys) (suc n) x h = drop-next ys n x h

drop-there : {A : Type 0} (xs : List A) (n : ℕ) (x : A) → slice_get xs n ≡ Some x
    → drop n xs ≡ x ∷ drop (n + 1) xs
drop-there xs n x h =
    let up : suc n ≡ n + 1 = omega arith in drop-next xs n x h ∙ ap (λ k. x ∷ drop k xs) up

drop-past : {A : Type 0} (xs : List A) (n : ℕ) → slice_get xs n ≡ None → drop n xs ≡ []
drop-past [] zero h = refl
drop-past [] (suc n) h = refl
drop-past (y ∷ ys) zero h = absurd (cc)
drop-past (y ∷ ys) (suc n) h = drop-past ys n h

drop-end : {A : Type 0} (xs : List A) (n : ℕ) → length xs ≤ n → drop n xs ≡ []
drop-end [] zero past = refl
drop-end [] (suc n) past = refl
drop-end (x ∷ xs) zero past = absurd (omega arith)
drop-end (x ∷ xs) (suc n) past = drop-end xs n (omega arith)

drop-none : {A : Type 0} (n : ℕ) → drop {A = A} n [] ≡ []
drop-none zero = refl
drop-none (suc n) = refl

-- ---- children

pub child-below : (number child : ℕ) (children : List ℕ) → child < number
    → below number (child ∷ children) ≡ child ∷ below number children
child-below number child children h =
    let e : nat_lt child number ≡ true = grind arith in rw e refl

child-above : (number child : ℕ) (children : List ℕ) → number ≤ child
    → below number (child ∷ children) ≡ []
child-above number child children h =
    let e : nat_lt child number ≡ false = grind arith in rw e refl

pub from-there : (programs : List ToldProgram) (code : Code) (place child : ℕ)
    → slice_get (children_of programs code) place ≡ Some child → child < code.node
    → trees_from programs code place
    ≡ OneMore (tree_of programs (record { program = code.program; node = child }))
    (trees_from programs code (place + 1))
unfolding trees_from tree_of
from-there programs code place child h l =
    ap (λ xs. trees_at (rows_of programs code.program) (below code.node xs))
    (drop-there (children_of programs code) place child h)
    ∙ ap (trees_at (rows_of programs code.program))
    (child-below code.node child (drop (place + 1) (children_of programs code)) l)

pub from-above : (programs : List ToldProgram) (code : Code) (place child : ℕ)
    → slice_get (children_of programs code) place ≡ Some child → code.node ≤ child
    → trees_from programs code place ≡ NoTrees
unfolding trees_from
from-above programs code place child h l =
    ap (λ xs. trees_at (rows_of programs code.program) (below code.node xs))
    (drop-there (children_of programs code) place child h)
    ∙ ap (trees_at (rows_of programs code.program))
    (child-above code.node child (drop (place + 1) (children_of programs code)) l)

pub from-past : (programs : List ToldProgram) (code : Code) (place : ℕ)
    → slice_get (children_of programs code) place ≡ None
    → trees_from programs code place ≡ NoTrees
unfolding trees_from
from-past programs code place h =
    ap (λ xs. trees_at (rows_of programs code.program) (below code.node xs))
    (drop-past (children_of programs code) place h)

-- there is none behind the last
pub no-part : (programs : List ToldProgram) (code : Code) (place : ℕ)
    → length (children_of programs code) ≤ place → trees_from programs code place ≡ NoTrees
unfolding trees_from
no-part programs code place past =
    ap (λ numbers. trees_at (rows_of programs code.program) (below code.node numbers))
    (drop-end (children_of programs code) place past)

-- ---- statements in a row

trees-there : (rows : List NodeRow) (xs : List ℕ) (place n : ℕ) → slice_get xs place ≡ Some n
    → trees_at rows (drop place xs) ≡ OneMore (tree_at rows n) (trees_at rows (drop (place + 1) xs))
trees-there rows xs place n h = ap (trees_at rows) (drop-there xs place n h)

trees-past : (rows : List NodeRow) (xs : List ℕ) (place : ℕ) → slice_get xs place ≡ None
    → trees_at rows (drop place xs) ≡ NoTrees
trees-past rows xs place h = ap (trees_at rows) (drop-past xs place h)

top-told : (place : ℕ) (found : Option ToldProgram)
    → option_map_or (λ told. trees_at told.rows (drop place told.top)) found NoTrees
    ≡ trees_at (option_map_or (λ told. told.rows) found [])
    (drop place (option_map_or (λ told. told.top) found []))
top-told place None = rw drop-none refl
top-told place (Some told) = refl

body-told : (place : ℕ) (told : ToldProgram) (found : Option ToldFunction)
    → option_map_or (λ found. trees_at told.rows (drop place found.body)) found NoTrees
    ≡ trees_at told.rows (drop place (option_map_or (λ found. found.body) found []))
body-told place told None = rw drop-none refl
body-told place told (Some found) = refl

bodies-told : (function place : ℕ) (found : Option ToldProgram)
    → option_map_or (λ told. option_map_or (λ found. trees_at told.rows (drop place found.body))
    (slice_get told.functions function) NoTrees) found NoTrees
    ≡ trees_at (option_map_or (λ told. told.rows) found [])
    (drop place (option_map_or
    (λ told. option_map_or (λ found. found.body) (slice_get told.functions function) []) found []))
bodies-told function place None = rw drop-none refl
bodies-told function place (Some told) = body-told place told (slice_get told.functions function)

top-is : (programs : List ToldProgram) (program place : ℕ)
    → listed programs (Top program) place
    ≡ trees_at (rows_of programs program) (drop place (top_of programs program))
unfolding listed
top-is programs program place = top-told place (slice_get programs program)

body-is : (programs : List ToldProgram) (program function place : ℕ)
    → listed programs (Body program function) place
    ≡ trees_at (rows_of programs program) (drop place (body_of programs program function))
unfolding listed
body-is programs program function place =
    bodies-told function place (slice_get programs program)

pub top-there : (programs : List ToldProgram) (program place n : ℕ)
    → slice_get (top_of programs program) place ≡ Some n
    → listed programs (Top program) place
    ≡ OneMore (tree_of programs (record { program = program; node = n }))
    (listed programs (Top program) (place + 1))
unfolding tree_of
top-there programs program place n h =
    top-is programs program place
    ∙ (trees-there (rows_of programs program) (top_of programs program) place n h
    ∙ ap (OneMore (tree_at (rows_of programs program) n))
    (sym (top-is programs program (place + 1))))

pub top-past : (programs : List ToldProgram) (program place : ℕ)
    → slice_get (top_of programs program) place ≡ None
    → listed programs (Top program) place ≡ NoTrees
top-past programs program place h =
    top-is programs program place
    ∙ trees-past (rows_of programs program) (top_of programs program) place h

pub body-there : (programs : List ToldProgram) (program function place n : ℕ)
    → slice_get (body_of programs program function) place ≡ Some n
    → listed programs (Body program function) place
    ≡ OneMore (tree_of programs (record { program = program; node = n }))
    (listed programs (Body program function) (place + 1))
unfolding tree_of
body-there programs program function place n h =
    body-is programs program function place
    ∙ (trees-there (rows_of programs program) (body_of programs program function) place n h
    ∙ ap (OneMore (tree_at (rows_of programs program) n))
    (sym (body-is programs program function (place + 1))))

pub body-past : (programs : List ToldProgram) (program function place : ℕ)
    → slice_get (body_of programs program function) place ≡ None
    → listed programs (Body program function) place ≡ NoTrees
body-past programs program function place h =
    body-is programs program function place
    ∙ trees-past (rows_of programs program) (body_of programs program function) place h

pub ruleset child_found = (from-there, from-above, from-past)

pub ruleset statement_found = (top-there, top-past, body-there, body-past)
