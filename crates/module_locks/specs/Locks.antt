-- The modules of a service with the locks on them: what a lock keeps, what a look-up finds then, and what becomes of locks
-- (after lockModuleOnMemory and unlockModuleOnMemory of BML, ARIB STD-B24, volume 2; how many locks there may be, and when
-- one keeps what, is this project's own).
use Rattle.std.specs.Prelude.{ℕ, nat_lt, ◌==◌, Bool, ◌&&◌, not, if◌then◌else◌, List, [], ◌∷◌, ◌++◌, length, filter, find, map, Option, Some, None, codes, is_some, option_and_then, option_to_list}
use Rattle.std.specs.List.{list_any}
use Rattle.std.specs.Option.{option_map_or, option_or}
use Rattle.carousel_blocks.specs.declared.changes.Change.{Change}
use Rattle.multipart_entities.specs.declared.paths.Path.{Path}
use Rattle.psi_tables.specs.declared.components.Component.{Component}
use Rattle.module_store.specs.Copies.{KeptModule}
use Rattle.module_store.specs.Resources.{Presence, Resource, found_or_missing, look, named_as, presence, start_component}
use Rattle.module_store.specs.Resources as resources
use Rattle.module_store.specs.Resources.Presence.{Absent, Announced, Held}
use Rattle.module_store.specs.DataEvents.{data_event_by}
use Rattle.module_store.specs.Store.{Stored, delivered_by, number_of}
use Rattle.module_store.specs.Store as store
use Rattle.module_locks.specs.declared.answers.LockAnswer.{LockAnswer}
use Rattle.module_locks.specs.declared.answers.LockAnswer.TheVariants as answers

-- A lock on a module of a component, by the component_tag and the moduleId. It keeps the module as it was held, or it is
-- wanted still.
pub record Lock : Type 0 where
  pub component : ℕ
  pub «module» : ℕ
  pub kept : Option KeptModule

-- what the carousels of the component map hold, and the locks, the oldest first
pub record Modules : Type 0 where
  pub stored : Stored
  pub locks : List Lock

-- before anything came there are neither components nor locks
abbrev pub at_start : Modules
at_start = record { stored = store.at_start; locks = [] }

-- ---- the locks that stand

abbrev pub is_lock_on : ℕ → ℕ → Lock → Bool
is_lock_on component number lock = (lock.component == component) && (lock.«module» == number)

-- the lock on a module
abbrev pub lock_on : List Lock → ℕ → ℕ → Option Lock
lock_on locks component number = find (is_lock_on component number) locks

-- what it keeps
abbrev pub kept_on : List Lock → ℕ → ℕ → Option KeptModule
kept_on locks component number = option_and_then (λ lock. lock.kept) (lock_on locks component number)

-- so many locks stand at most
unfoldable pub most_locks : ℕ
most_locks = 64

-- ---- what a look-up finds

-- what a module that is kept has under a name
abbrev pub look_kept : KeptModule → List ℕ → Resource
look_kept kept name = found_or_missing (named_as kept.is_entity kept.bytes name)

-- Of a module that a lock keeps a look-up sees what is kept. Of every other, also of one whose lock is still wanted, it sees
-- what the carousels have.
abbrev pub look_up : Modules → Path → Resource
look_up modules path =
    option_map_or (λ kept. look_kept kept path.name) (kept_on modules.locks path.component path.«module»)
    (look modules.stored path)

-- what a lock gets of a module, where it is held, with the number of the delivery that brought it
abbrev pub kept_of : Option ℕ → Presence → Option KeptModule
kept_of delivery Absent = None
kept_of delivery Announced = None
kept_of delivery (Held is_entity bytes) =
    Some (record { number = delivery; is_entity = is_entity; bytes = bytes })

abbrev pub kept_now : Stored → ℕ → ℕ → Option KeptModule
kept_now stored component number =
    kept_of (number_of stored component number) (presence stored component number)

-- What a look-up sees of a module as a whole: what a lock keeps of it, and else the module, where it is held; and the number
-- of the delivery that brought that.
abbrev pub seen : Modules → ℕ → ℕ → Option KeptModule
seen modules component number =
    option_or (kept_on modules.locks component number) (kept_now modules.stored component number)

abbrev pub seen_number : Modules → ℕ → ℕ → Option ℕ
seen_number modules component number =
    option_and_then (λ kept. kept.number) (seen modules component number)

-- ---- the start document

-- its path, where its module holds an entity or is one resource
abbrev pub start_path_as : Bool → Path
start_path_as is_entity =
    record {
      component = start_component;
      «module» = 0;
      name = if is_entity then codes "startup.bml" else [];
    }

-- The Type of its module is the one that a look-up sees: that of what a lock keeps, and else that of the entry in force.
abbrev pub start_path : Modules → Path
start_path modules =
    option_map_or (λ kept. start_path_as kept.is_entity) (kept_on modules.locks start_component 0)
    (resources.start_path modules.stored)

-- ---- a module is locked, or unlocked

-- a place is left for one more lock
abbrev pub has_place : List Lock → Bool
has_place locks = nat_lt (length locks) most_locks

-- What comes of a lock on a module with an entry: of the lock that stands on it, where one does, and of what there is to
-- be kept of it.
abbrev pub answer_by : Bool → Option Lock → Option KeptModule → LockAnswer
answer_by place None (Some kept) = if place then answers.Kept else answers.Full
answer_by place None None = if place then answers.Wanted else answers.Full
answer_by place (Some lock) now =
    if is_some lock.kept then answers.Had else if is_some now then answers.Kept else answers.Wanted

-- A module without an unskipped entry can't be locked. One on which no lock stands can't be, where no place is left.
abbrev pub answer_at : Presence → Bool → Option Lock → Option KeptModule → LockAnswer
answer_at Absent place lock now = answers.NoEntry
answer_at Announced place lock now = answer_by place lock now
answer_at (Held is_entity bytes) place lock now = answer_by place lock now

unfoldable pub lock_answer : ℕ → ℕ → Modules → LockAnswer
lock_answer component number modules =
    answer_at (presence modules.stored component number) (has_place modules.locks)
    (lock_on modules.locks component number) (kept_now modules.stored component number)

-- the lock on a module, which is wanted, gets what there is to be kept; one that keeps something keeps it
abbrev pub lock_with : ℕ → ℕ → Option KeptModule → Lock → Lock
lock_with component number now lock =
    if is_lock_on component number lock && not (is_some lock.kept) then record lock { kept = now }
    else lock

-- a lock that stands on the module may get its bytes, and a new one stands behind the others
abbrev pub locks_with : ℕ → ℕ → Option KeptModule → List Lock → List Lock
locks_with component number now locks =
    if is_some (lock_on locks component number) then map (lock_with component number now) locks
    else locks ++ record { component = component; «module» = number; kept = now } ∷ []

-- where the module can't be locked nothing changes
abbrev pub locks_behind : LockAnswer → ℕ → ℕ → Option KeptModule → List Lock → List Lock
locks_behind answers.NoEntry component number now locks = locks
locks_behind answers.Full component number now locks = locks
locks_behind answers.Had component number now locks = locks
locks_behind answers.Kept component number now locks = locks_with component number now locks
locks_behind answers.Wanted component number now locks = locks_with component number now locks

unfoldable pub with_lock : ℕ → ℕ → Modules → Modules
with_lock component number modules =
    record modules {
      locks = locks_behind (lock_answer component number modules) component number
          (kept_now modules.stored component number) modules.locks;
    }

-- the lock on a module goes, whether it keeps something or is wanted
abbrev pub without_lock : ℕ → ℕ → Modules → Modules
without_lock component number modules =
    record modules { locks = filter (λ lock. not (is_lock_on component number lock)) modules.locks }

-- ---- one more section of a component

-- a change delivers its module
abbrev pub is_delivery : Change → Bool
is_delivery change = is_some (delivered_by change.«module» change.line)

-- a lock on a module is wanted
abbrev pub is_wanted : ℕ → ℕ → List Lock → Bool
is_wanted component number locks =
    list_any (λ lock. is_lock_on component number lock && not (is_some lock.kept)) locks

-- At a data event every lock ends, wanted or not, before entries are compared.
abbrev pub locks_left : Option Change → List Lock → List Lock
locks_left None locks = locks
locks_left (Some event) locks = []

-- the locks that stand when the section's changes are found
abbrev pub locks_at : ℕ → List ℕ → Modules → List Lock
locks_at component section modules =
    locks_left (data_event_by component section modules.stored) modules.locks

-- A change is told with whether a lock that was wanted on the module gets its bytes.
abbrev pub change_told : ℕ → List Lock → Change → Change
change_told component locks change =
    record change { locked = is_wanted component change.«module» locks && is_delivery change }

-- what a section changes in the component's modules, in ascending module number
abbrev pub module_changes_by : ℕ → List ℕ → Modules → List Change
module_changes_by component section modules =
    map (change_told component (locks_at component section modules))
    (store.changes_by component section modules.stored)

-- what a section changes: the data event comes first, where it is one
abbrev pub changes_by : ℕ → List ℕ → Modules → List Change
changes_by component section modules =
    option_to_list (data_event_by component section modules.stored)
    ++ module_changes_by component section modules

-- one of these changes delivers the module
abbrev pub delivers : ℕ → List Change → Bool
delivers number changes =
    list_any (λ change. (change.«module» == number) && is_delivery change) changes

-- A lock that was wanted on a module of the component keeps it from then on when it is delivered.
abbrev pub lock_behind : ℕ → List Change → Stored → Lock → Lock
lock_behind component changes now lock =
    if ((lock.component == component) && not (is_some lock.kept)) && delivers lock.«module» changes
    then record lock { kept = kept_now now component lock.«module» } else lock

abbrev pub with_section : ℕ → List ℕ → Modules → Modules
with_section component section modules =
    let now = store.with_section component section modules.stored in
    record {
      stored = now;
      locks = map
          (lock_behind component (store.changes_by component section modules.stored) now)
          (locks_at component section modules);
    }

-- ---- another component map

-- the locks stay, also on modules of components that left the map or got another PID
abbrev pub with_map : List Component → Modules → Modules
with_map components modules =
    record modules { stored = store.with_map components modules.stored }
