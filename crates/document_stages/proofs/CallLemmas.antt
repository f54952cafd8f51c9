-- What calls of nodes and launches come to, with the modules beside them.
use Rattle.std.proofs.Common.{◌≡◌, ℕ, Bool, true, false, List, Option, refl, subst, sym, codes}
use Rattle.std.specs.Prelude.{if◌then◌else◌, is_some, IfOk, OnOk, Result, Ok, Err}
use Rattle.bml_bytes.specs.Words.{is_same}
use Rattle.dom_tree.specs.Items.{tag_of}
use Rattle.es_values.specs.declared.hosts.HostAnswer.{HostAnswer}
use Rattle.es_values.specs.declared.hosts.HostAnswer.TheVariants.{Value as Answer}
use Rattle.es_values.specs.declared.values.HostRef.{HostRef}
use Rattle.es_values.specs.declared.values.HostRef.TheVariants.{Node}
use Rattle.es_values.specs.declared.values.Value.{Value}
use Rattle.es_values.specs.Objects.{ObjectState}
use Rattle.multipart_entities.specs.declared.paths.Path.{Path}
use Rattle.persistent_arrays.specs.declared.kinds.FieldKind.{FieldKind}
use Rattle.browser_objects.specs.Calls.{table_opened}
use Rattle.browser_objects.specs.declared.effects.Effect.{Effect}
use Rattle.browser_objects.specs.declared.effects.Effect.TheVariants as effects
use Rattle.module_locks.specs.Locks.{look_up}
use Rattle.module_locks.specs.Standing.{ForModules}
use Rattle.document_stages.specs.Acting.{Acting, CallAnswer, is_ending, launch, node_call, with_browser}
use Rattle.document_stages.specs.Calling.{HasCalled, Replies}
use Rattle.document_stages.specs.Hosting.{answer_of_call, bytes_found, open_table, reply_of_call, reply_of_effect, reply_with}
use Rattle.document_stages.specs.declared.script_hosts.ScriptHost.{ScriptHost}

either-heap : (test : Bool) (x y : CallAnswer) (heap : List ObjectState) → x.heap ≡ heap → y.heap ≡ heap → (if test then x else y).heap ≡ heap
either-heap true x y heap e f = e
either-heap false x y heap e f = f

-- calls of nodes leave the objects
node-heap : (a : Acting) (node : ℕ) (name : List ℕ) (heap : List ObjectState) → (node_call a node name heap).heap ≡ heap
node-heap a node name heap =
    either-heap (is_some (tag_of a.tree.items node)) _ _ heap
    (either-heap (is_same name (codes "focus")) _ _ heap refl
    (either-heap (is_same name (codes "blur")) _ _ heap refl refl))
    refl

-- and so do launches
launch-heap : (path : Path) (a : Acting) (heap : List ObjectState) → (launch path a heap).heap ≡ heap
launch-heap path a heap = either-heap (is_ending a.event.event) _ _ heap refl refl

-- a call that leaves the modules
left-modules : {E : Type 0} (r : Result HostAnswer E) (old new : ScriptHost) (answered : CallAnswer) (heap : List ObjectState) → IfOk r (λ (answer : HostAnswer). answer ≡ answered.answer) → OnOk r (new.stage.acting ≡ answered.acting) → new.modules ≡ old.modules → answered.heap ≡ heap → IfOk r (λ (answer : HostAnswer). ForModules old.modules (λ modules. Replies new answer heap (reply_with modules answered)))
left-modules (Ok answer) old new answered heap gave left same kept =
    λ modules stand. record { answer_is = gave; acting_is = left; modules_stand = rw same stand; heap_is = sym kept }
left-modules (Err e) old new answered heap gave left same kept = gave

pub launch-done : {E : Type 0} (r : Result HostAnswer E) (old new : ScriptHost) (effect : Effect) (value : Value) (path : Path) (heap : List ObjectState) → effect ≡ effects.Launch path → IfOk r (λ (answer : HostAnswer). answer ≡ (launch path old.stage.acting heap).answer) → OnOk r (new.stage.acting ≡ (launch path old.stage.acting heap).acting) → new.modules ≡ old.modules → IfOk r (λ (answer : HostAnswer). ForModules old.modules (λ modules. Replies new answer heap (reply_of_effect effect value (record { acting = old.stage.acting; modules = modules }) heap)))
launch-done r old new effect value path heap is gave left same =
    rw is (left-modules r old new (launch path old.stage.acting heap) heap gave left same (launch-heap path old.stage.acting heap))

pub node-called : {E : Type 0} (r : Result HostAnswer E) (old new : ScriptHost) (base : HostRef) (node : ℕ) (name : List ℕ) (arguments : List Value) (heap : List ObjectState) → base ≡ Node node → IfOk r (λ (answer : HostAnswer). answer ≡ (node_call old.stage.acting node name heap).answer) → OnOk r (new.stage.acting ≡ (node_call old.stage.acting node name heap).acting) → new.modules ≡ old.modules → IfOk r (λ (answer : HostAnswer). HasCalled old base name arguments heap answer new heap)
unfolding reply_of_call
node-called r old new base node name arguments heap is gave left same =
    rw is (left-modules r old new (node_call old.stage.acting node name heap) heap gave left same (node-heap old.stage.acting node name heap))

-- what a look-up found is tried as a table
pub table-done : {E : Type 0} (r : Result HostAnswer E) (old new : ScriptHost) (found : Option (List ℕ)) (path : Path) (kinds : List FieldKind) (heap : List ObjectState) → ForModules old.modules (λ modules. bytes_found (look_up modules path) ≡ found) → IfOk r (λ (answer : HostAnswer). answer ≡ Answer (table_opened found kinds old.stage.acting.browser).value) → OnOk r (new.stage.acting ≡ with_browser (table_opened found kinds old.stage.acting.browser).state old.stage.acting) → new.modules ≡ old.modules → IfOk r (λ (answer : HostAnswer). ForModules old.modules (λ modules. Replies new answer heap (open_table path kinds (record { acting = old.stage.acting; modules = modules }) heap)))
table-done (Ok answer) old new found path kinds heap is gave left same =
    λ modules stand. subst (λ (o : Option (List ℕ)). Replies new answer heap (reply_with modules (answer_of_call (table_opened o kinds old.stage.acting.browser) old.stage.acting heap))) (sym (is modules stand)) (record { answer_is = gave; acting_is = left; modules_stand = rw same stand; heap_is = refl })
table-done (Err e) old new found path kinds heap is gave left same = gave
