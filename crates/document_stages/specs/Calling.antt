-- What the calls of a script come to, as relations on its host before and behind them. (This project's own.)
use Rattle.std.specs.Prelude.{◌≡◌, ℕ, List}
use Rattle.es_values.specs.Objects.{ObjectState}
use Rattle.es_values.specs.declared.hosts.HostAnswer.{HostAnswer}
use Rattle.es_values.specs.declared.values.HostRef.{HostRef}
use Rattle.es_values.specs.declared.values.Value.{Value}
use Rattle.module_locks.specs.Standing.{ForModules, StandsFor}
use Rattle.document_stages.specs.Acting.{member_value, with_member_set}
use Rattle.document_stages.specs.Hosting.{Reply, reply_of_call}
use Rattle.document_stages.specs.declared.script_hosts.ScriptHost.{ScriptHost}

pub record HasRead (old : ScriptHost) (base : HostRef) (name : List ℕ) (value : Value)
    (new : ScriptHost) : Type 0 where
  pub value_is : value ≡ member_value old.stage.acting base name
  pub same : new.stage.acting ≡ old.stage.acting
  pub modules : new.modules ≡ old.modules

pub record HasWritten (old : ScriptHost) (base : HostRef) (name : List ℕ) (value : Value)
    (heap : List ObjectState) (new : ScriptHost) : Type 0 where
  pub acting_is : new.stage.acting ≡ with_member_set old.stage.acting base name value heap
  pub modules : new.modules ≡ old.modules

-- it answered so, and is what is acted on behind that
pub record Replies (new : ScriptHost) (answer : HostAnswer) (heap : List ObjectState)
    (reply : Reply) : Type 0 where
  pub answer_is : answer ≡ reply.answer
  pub acting_is : new.stage.acting ≡ reply.hosted.acting
  pub modules_stand : StandsFor new.modules reply.hosted.modules
  pub heap_is : heap ≡ reply.heap

abbrev pub HasCalled : ScriptHost → HostRef → List ℕ → List Value → List ObjectState → HostAnswer
    → ScriptHost → List ObjectState → Type 0
HasCalled old base name arguments heap answer new after =
    ForModules old.modules (λ modules. Replies new answer after
    (reply_of_call (record { acting = old.stage.acting; modules = modules }) base name arguments
    heap))
