-- What the turns that are left of a loop do.
use Rattle.std.proofs.Common.{◌≡◌, ◌∙◌, ◌+◌, ◌<◌, ◌≤◌, ℕ, zero, suc, true, false, List, [], ◌∷◌, length, drop, get_or, ap, sym, refl, drop-cons, arith}
use Rattle.es_values.specs.declared.values.Value.TheVariants.{Str}
use Rattle.es_values.specs.Heaps.{has_property, object_at}
use Rattle.es_eval.specs.Actions.{Next, and_then, behind}
use Rattle.es_eval.specs.Members.{write_place}
use Rattle.es_eval.specs.Rows.{Completion, behind_body, visited_place}
use Rattle.es_eval.specs.Rows.Completion.{Normal}
use Rattle.es_eval.specs.Rows.Task.{Visit}
use Rattle.es_shapes.specs.Syntax.{Function, Statement, Visitor}
use Rattle.es_eval.specs.Unbounded.{done, entered, run_statement}
use Rattle.es_eval.specs.Worlds.{World}
use Rattle.es_eval.proofs.UnboundedLemmas.{done-row}

-- ---- `for .. in`

pub drop-at : {A : Type 0} (xs : List A) (n : ℕ) (x : A) → n < length xs → x ≡ get_or xs n x
    → drop n xs ≡ x ∷ drop (n + 1) xs
drop-at xs n x inside is =
    let up : suc n ≡ n + 1 = omega arith in
    drop-cons xs n x inside ∙ ap (λ y. y ∷ drop (suc n) xs) (sym is)
    ∙ ap (λ k. x ∷ drop k xs) up

pub drop-end : {A : Type 0} (xs : List A) (n : ℕ) → length xs ≤ n → drop n xs ≡ []
drop-end [] zero past = refl
drop-end [] (suc n) past = refl
drop-end (x ∷ xs) zero past = absurd (omega arith)
drop-end (x ∷ xs) (suc n) past = drop-end xs n (omega arith)

pub visited-none : (functions : List Function) (visitor : Visitor) (object : ℕ)
    (names : List (List ℕ)) (body : Statement) (w : World) (next : Next Completion)
    → names ≡ [] → done functions (Visit visitor object names body) w next ≡ next Normal w
visited-none functions visitor object names body w next none =
    ap (λ names. done functions (Visit visitor object names body) w next) none
    ∙ done-row functions (Visit visitor object [] body) w next

-- a name that was removed meanwhile
pub visit-skips : (functions : List Function) (visitor : Visitor) (object : ℕ) (name : List ℕ)
    (names : List (List ℕ)) (body : Statement) (w : World) (next : Next Completion)
    → has_property (object_at w.heap object) name ≡ false
    → done functions (Visit visitor object (name ∷ names) body) w next
    ≡ done functions (Visit visitor object names body) w next
visit-skips functions visitor object name names body w next gone =
    rw (done-row functions (Visit visitor object (name ∷ names) body) w next, gone)
    (sym (done-row functions (Visit visitor object names body) w next))

pub visit-turn : (functions : List Function) (visitor : Visitor) (object : ℕ) (name : List ℕ)
    (names : List (List ℕ)) (body : Statement) (w : World) (next : Next Completion)
    → has_property (object_at w.heap object) name ≡ true
    → done functions (Visit visitor object (name ∷ names) body) w next
    ≡ behind (visited_place (entered functions) visitor) (λ place.
    and_then (write_place place (Str name)) (behind (run_statement functions body)
    (behind_body (done functions (Visit visitor object names body))))) w next
visit-turn functions visitor object name names body w next there =
    rw (done-row functions (Visit visitor object (name ∷ names) body) w next, there) refl
