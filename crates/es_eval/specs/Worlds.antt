-- What a script has while it runs, and what it asks of its host. (This project's own.)
use Rattle.std.specs.Prelude.{ℕ, ◌+◌, List, Option, is_some, if◌then◌else◌}
use Rattle.std.specs.Map.{lookup}
use Rattle.bml_bytes.specs.Words.{is_same}
use Rattle.es_values.specs.declared.hosts.HostAnswer.{HostAnswer}
use Rattle.es_values.specs.declared.values.HostRef.{HostRef}
use Rattle.es_values.specs.declared.values.Value.{Value}
use Rattle.es_values.specs.Heaps.{IsLive, with_value}
use Rattle.es_values.specs.Objects.{ObjectState}
use Rattle.es_eval.specs.declared.outcomes.Outcome.{Outcome}

-- the globals; the locals and the `this` of the call that runs, how many calls are open; the objects; and
-- the steps that are left
pub record World : Type 0 where
  pub globals : List (List ℕ × Value)
  pub locals : List (List ℕ × Value)
  pub this : Value
  pub depth : ℕ
  pub heap : List ObjectState
  pub left : ℕ

-- a name whose value's object, where it is one, is in the heap
abbrev pub IsNamedLive : List ObjectState → List ℕ × Value → Type 0
IsNamedLive heap named = IsLive heap named.1

abbrev pub global : World → List ℕ → Option Value
global w name = lookup (is_same name) w.globals

abbrev pub local : World → List ℕ → Option Value
local w name = lookup (is_same name) w.locals

abbrev pub with_global : List ℕ → Value → World → World
with_global name value w = record w { globals = with_value w.globals name value }

abbrev pub with_local : List ℕ → Value → World → World
with_local name value w = record w { locals = with_value w.locals name value }

-- a name that is written: a local, and else a global, which is made where it is new
abbrev pub with_name : List ℕ → Value → World → World
with_name name value w =
    if is_some (local w name) then with_local name value w else with_global name value w

-- with so many steps more left
abbrev pub with_more : ℕ → World → World
with_more more w = record w { left = w.left + more }

-- ---- what a run comes to

-- It is over; or it asks its host, and goes on with what that answers: it reads a member, writes one, or
-- calls one, which may change the heap.
pub data Run : Type 0 where
  Over : (outcome : Outcome) → (w : World) → Run
  Reads : (base : HostRef) → (name : List ℕ) → (go : Value → Run) → Run
  Writes : (base : HostRef) → (name : List ℕ) → (value : Value) → (heap : List ObjectState)
      → (go : Run) → Run
  Calls : (base : HostRef) → (name : List ℕ) → (arguments : List Value)
      → (heap : List ObjectState) → (go : HostAnswer → List ObjectState → Run) → Run
