-- What scripts call: the rows of the document and of the browser object, with the modules that calls lock, unlock and read
-- (after the DOM interfaces and the browser object of BML, ARIB STD-B24 volume 2, in this project's own profile).
use Rattle.std.specs.Prelude.{ℕ, Bool, if◌then◌else◌, List, Option, Some, None, is_some}
use Rattle.multipart_entities.specs.declared.paths.Path.{Path}
use Rattle.module_locks.specs.Locks.{Modules, lock_answer, lock_on, look_up, with_lock, without_lock}
use Rattle.module_locks.specs.declared.answers.LockAnswer.{LockAnswer}
use Rattle.module_locks.specs.declared.answers.LockAnswer.TheVariants as answers
use Rattle.module_store.specs.Resources.{Resource}
use Rattle.module_store.specs.Resources.Resource.{Found, Waiting, Missing}
use Rattle.persistent_arrays.specs.declared.kinds.FieldKind.{FieldKind}
use Rattle.es_values.specs.declared.hosts.HostAnswer.{HostAnswer}
use Rattle.es_values.specs.declared.values.HostRef.{HostRef}
use Rattle.es_values.specs.declared.values.HostRef.TheVariants.{Browser, Document, Node}
use Rattle.es_values.specs.declared.values.Value.{Value}
use Rattle.es_values.specs.Conversions.{text_of}
use Rattle.es_values.specs.Objects.{ObjectState}
use Rattle.browser_objects.specs.Calls.{CallOutcome, CallResult, call_of, number, table_opened}
use Rattle.browser_objects.specs.declared.effects.Effect.{Effect}
use Rattle.browser_objects.specs.declared.effects.Effect.TheVariants as effects
use Rattle.document_stages.specs.Acting.{Acting, CallAnswer, document_call, first_argument, gives, launch, lock_posts, node_call, not_callable, gives_nan, with_browser, with_line}
use Rattle.document_stages.specs.EventLines.{kept_line, sound_line}

-- what scripts act on: the document with what it is lent, and the modules
pub record HostParts : Type 0 where
  pub acting : Acting
  pub modules : Modules

-- the answer of a call, what is acted on behind it, and the objects behind it
pub record Reply : Type 0 where
  pub answer : HostAnswer
  pub hosted : HostParts
  pub heap : List ObjectState

-- the answer of a call that has these modules behind it
abbrev pub reply_with : Modules → CallAnswer → Reply
reply_with modules answered =
    record {
      answer = answered.answer;
      hosted = record { acting = answered.acting; modules = modules };
      heap = answered.heap;
    }

-- ---- locks

-- 1 where the module is kept, or will be from when it is held; NaN where it has no unskipped entry, also where a lock stands
-- on it, or no place is left for a lock. The items are told of a module that is kept from now on.
abbrev pub answer_of_lock : LockAnswer → Path → Acting → List ObjectState → CallAnswer
answer_of_lock answers.Kept path a heap =
    gives (number 1) (lock_posts path.component path.«module» a) heap
answer_of_lock answers.Had path a heap = gives (number 1) a heap
answer_of_lock answers.Wanted path a heap = gives (number 1) a heap
answer_of_lock answers.NoEntry path a heap = gives_nan a heap
answer_of_lock answers.Full path a heap = gives_nan a heap

-- `lockModuleOnMemory`, at a path; a name in it doesn't count
abbrev pub lock : Path → HostParts → List ObjectState → Reply
lock path h heap =
    reply_with (with_lock path.component path.«module» h.modules)
    (answer_of_lock (lock_answer path.component path.«module» h.modules) path h.acting heap)

-- 1, and NaN where no lock stood on the module
abbrev pub answer_of_unlock : Bool → Acting → List ObjectState → CallAnswer
answer_of_unlock stood a heap = if stood then gives (number 1) a heap else gives_nan a heap

-- `unlockModuleOnMemory`
abbrev pub unlock : Path → HostParts → List ObjectState → Reply
unlock path h heap =
    reply_with (without_lock path.component path.«module» h.modules)
    (answer_of_unlock (is_some (lock_on h.modules.locks path.component path.«module»)) h.acting
    heap)

-- ---- tables

-- the bytes that a look-up found
abbrev pub bytes_found : Resource → Option (List ℕ)
bytes_found (Found bytes) = Some bytes
bytes_found Waiting = None
bytes_found Missing = None

-- what a call of the browser object gave, and left of what belongs to it
abbrev pub answer_of_call : CallResult → Acting → List ObjectState → CallAnswer
answer_of_call called a heap = gives called.value (with_browser called.state a) heap

-- `openTable`, at a path: what a look-up finds there now is tried
abbrev pub open_table : Path → List FieldKind → HostParts → List ObjectState → Reply
open_table path kinds h heap =
    reply_with h.modules
    (answer_of_call (table_opened (bytes_found (look_up h.modules path)) kinds h.acting.browser)
    h.acting heap)

-- ---- calls of the browser object

-- What is done for a call: a line is printed, a document is launched, a module is locked or unlocked, or a table is opened.
-- The value is the answer of a call for which nothing is to be asked then; launches, locks, unlocks and tables have answers
-- of their own.
abbrev pub reply_of_effect : Effect → Value → HostParts → List ObjectState → Reply
reply_of_effect effects.Nothing value h heap = reply_with h.modules (gives value h.acting heap)
reply_of_effect (effects.Sound sound) value h heap =
    reply_with h.modules (gives value (with_line (sound_line sound) h.acting) heap)
reply_of_effect (effects.Kept slot size) value h heap =
    reply_with h.modules (gives value (with_line (kept_line slot size) h.acting) heap)
reply_of_effect (effects.Launch path) value h heap =
    reply_with h.modules (launch path h.acting heap)
reply_of_effect (effects.Lock path) value h heap = lock path h heap
reply_of_effect (effects.Unlock path) value h heap = unlock path h heap
reply_of_effect (effects.Table path kinds) value h heap = open_table path kinds h heap

abbrev pub reply_of_outcome : CallOutcome → HostParts → Reply
reply_of_outcome outcome h =
    reply_of_effect outcome.called.effect outcome.called.value
    (record h { acting = with_browser outcome.called.state h.acting }) outcome.heap

abbrev pub browser_call : HostParts → List ℕ → List Value → List ObjectState → Reply
browser_call h name arguments heap =
    reply_of_outcome (call_of name h.acting.path h.acting.now arguments heap h.acting.browser) h

-- ---- all calls

-- what a call of a member of a reference answers and does
unfoldable pub reply_of_call : HostParts → HostRef → List ℕ → List Value → List ObjectState → Reply
reply_of_call h Document name arguments heap =
    reply_with h.modules
    (document_call h.acting name (text_of heap (first_argument arguments)) heap)
reply_of_call h (Node node) name arguments heap =
    reply_with h.modules (node_call h.acting node name heap)
reply_of_call h Browser name arguments heap = browser_call h name arguments heap
reply_of_call h other name arguments heap = reply_with h.modules (not_callable h.acting heap)
