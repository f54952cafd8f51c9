-- What scripts act on stays sound, with the modules, whatever they call.
use Rattle.std.proofs.Common.{ℕ, ◌≤◌, ◌≡◌, true, List, length, refl, sym, ap, subst, arith}
use Rattle.std.specs.Prelude.{◌||◌, Option, Some, None, Bool, false, if◌then◌else◌, is_some, nat_lt, option_and_then}
use Rattle.std.specs.List.{list_any}
use Rattle.dom_tree.specs.Items.{Item, tag_of}
use Rattle.module_locks.specs.Locks.{Modules, lock_answer, lock_on, look_up, most_locks, with_lock, without_lock}
use Rattle.module_locks.specs.declared.answers.LockAnswer.{LockAnswer}
use Rattle.module_locks.specs.declared.answers.LockAnswer.TheVariants as answers
use Rattle.multipart_entities.specs.declared.paths.Path.{Path}
use Rattle.es_values.specs.declared.hosts.HostAnswer.{HostAnswer}
use Rattle.es_values.specs.declared.hosts.HostAnswer.TheVariants.{Value as Answer, Ended, NotCallable}
use Rattle.es_values.specs.declared.values.HostRef.{HostRef}
use Rattle.es_values.specs.declared.values.HostRef.TheVariants as ref
use Rattle.es_values.specs.declared.values.Value.{Value}
use Rattle.es_values.specs.declared.numbers.Num.TheVariants.{NotANumber}
use Rattle.es_values.specs.declared.values.Value.TheVariants.{Function, Number, Object}
use Rattle.persistent_arrays.specs.declared.kinds.FieldKind.{FieldKind}
use Rattle.es_values.specs.Conversions.{text_of}
use Rattle.es_values.specs.Hosts.{IsAnswer, KeepsHeap}
use Rattle.es_values.specs.Objects.{ObjectState}
use Rattle.es_values.specs.Values.{is_function}
use Rattle.script_laws.specs.Staying.{AnswerPasses, IsFit}
use Rattle.binary_table.specs.Tables.{TableState}
use Rattle.browser_objects.specs.Calls.{CallOutcome, call_of, number, table_opened}
use Rattle.browser_objects.specs.OpenTables.{TablesState, after_try, answer_of_try, most_tries, opening, table_of}
use Rattle.browser_objects.specs.declared.effects.Effect.{Effect}
use Rattle.browser_objects.specs.declared.effects.Effect.TheVariants as effects
use Rattle.document_stages.specs.Acting.{Acting, CallAnswer, first_argument, gives, lock_posts, node_call, gives_nan, with_browser, with_line}
use Rattle.document_stages.specs.EventLines.{kept_line, sound_line}
use Rattle.document_stages.specs.Hosting.{HostParts, Reply, browser_call, bytes_found, open_table, reply_of_call, reply_of_effect, lock, answer_of_lock, reply_with, unlock}
use Rattle.page_laws.specs.Soundness.{AreTimers, is_good}
use Rattle.page_laws.proofs.ActingLemmas.{IsGivenAnswer, IsSoundActing, IsSoundAnswer, TreeLaws, browser-sound, chosen-sound, document-sound, element-sound, gives-sound, launch-sound, line-sound, none-sound}
use Rattle.page_laws.proofs.ArrayLemmas.{CallLaws, call-fit}
use Rattle.page_laws.proofs.BrowserLemmas.{bare-good, call-good, is_bare}
use Rattle.page_laws.proofs.ItemPostLemmas.{locks-sound}
use Rattle.page_laws.proofs.ReadLemmas.{IsGiven, given-good}
use Rattle.page_laws.proofs.TimerLemmas.{calls-sound}

-- few locks stand
abbrev pub HasFewLocks : Modules → Type 0
HasFewLocks modules = length modules.locks ≤ most_locks

-- that few locks stand behind what scripts do to them
pub record LockLaws : Type 0 where
  pub locks : (modules : Modules) (component number : ℕ) → HasFewLocks modules
      → HasFewLocks (with_lock component number modules)
  pub unlocks : (modules : Modules) (component number : ℕ) → HasFewLocks modules
      → HasFewLocks (without_lock component number modules)

-- what is known of what scripts call
pub record HostLaws : Type 0 where
  pub few : LockLaws
  pub calls : CallLaws

pub record IsSoundHosted (items : List Item) (h : HostParts) : Type 0 where
  pub acting : IsSoundActing items h.acting
  pub locks : HasFewLocks h.modules

-- What a call may leave of the objects: none goes, no function comes into one, and they go on to name what is there.
pub record LeavesObjects (items : List Item) (limit : ℕ) (arguments : List Value)
    (old new : List ObjectState) : Type 0 where
  pub keeps : KeepsHeap old arguments new
  pub fit : IsFit (is_good items limit) old → IsFit (is_good items limit) new

-- the answer of a call is what it may be, and names what is there; and what is acted on behind it is sound
pub record IsSoundReply (items : List Item) (limit : ℕ) (arguments : List Value)
    (heap : List ObjectState) (r : Reply) : Type 0 where
  pub answer : IsAnswer r.heap r.answer
  pub passes : AnswerPasses (is_good items limit) r.answer
  pub objects : LeavesObjects items limit arguments heap r.heap
  pub hosted : IsSoundHosted items r.hosted

-- ---- answers

given-answer : (heap : List ObjectState) (items : List Item) (value : Value)
    → IsGiven items value → IsAnswer heap (Answer value)
given-answer heap items (Object number) h = absurd (cc h)
given-answer heap items (Function number) h = absurd (cc h)
given-answer heap items _ h = (refl, tt)

answer-is : (items : List Item) (heap : List ObjectState) (answer : HostAnswer)
    → IsGivenAnswer items answer → IsAnswer heap answer
answer-is items heap (Answer value) h = given-answer heap items value h
answer-is items heap Ended h = tt
answer-is items heap NotCallable h = tt

answer-passes : (items : List Item) (limit : ℕ) (answer : HostAnswer)
    → IsGivenAnswer items answer → AnswerPasses (is_good items limit) answer
answer-passes items limit (Answer value) h = given-good items limit value h
answer-passes items limit Ended h = tt
answer-passes items limit NotCallable h = tt

-- what a try to open a table answers
opened-given : (items : List Item) (table : Option TableState) (s : TablesState)
    → IsGiven items (opening table s).0
opened-given items table s = by (nat_lt s.tries most_tries) table
  where
    by : (left : Bool) (table : Option TableState) → IsGiven items
        (if◌then◌else◌ {A = Value × TablesState} left (answer_of_try table s, after_try table s)
        (Number NotANumber, s)).0
    by false table = refl
    by true None = refl
    by true (Some table) = refl

module _ (laws : TreeLaws) (hosts : HostLaws) (items : List Item) (limit : ℕ)
    (arguments : List Value) (heap : List ObjectState) where
  abbrev Leaves : List ObjectState → Type 0
  Leaves after = LeavesObjects items limit arguments heap after

  abbrev RepliesSoundly : Reply → Type 0
  RepliesSoundly r = IsSoundReply items limit arguments heap r

  -- a heap that a call leaves as it is
  same-objects : Leaves heap
  same-objects = record {
    keeps = record {
      objects = omega arith;
      functions = λ number e. ap (λ t. t || list_any (is_function number) arguments) e;
    };
    fit = λ fit. fit;
  }

  module _ (after : List ObjectState) (leaves : Leaves after) where
    reply-sound : (modules : Modules) (r : CallAnswer) → HasFewLocks modules
        → IsSoundAnswer items after r → RepliesSoundly (reply_with modules r)
    reply-sound modules r few s = record {
      answer = answer-is items r.heap r.answer s.answer;
      passes = answer-passes items limit r.answer s.answer;
      objects = subst Leaves (sym s.heap_is) leaves;
      hosted = record { acting = s.acting; locks = few };
    }

    -- ---- locks

    one-sound : (a : Acting) → IsSoundActing items a
        → IsSoundAnswer items after (gives (number 1) a after)
    one-sound a s = gives-sound laws items after (number 1) a refl s

    refused-sound : (a : Acting) → IsSoundActing items a
        → IsSoundAnswer items after (gives_nan a after)
    refused-sound a s = gives-sound laws items after _ a refl s

    answered-sound : (answer : LockAnswer) (path : Path) (a : Acting) → IsSoundActing items a
        → IsSoundAnswer items after (answer_of_lock answer path a after)
    answered-sound answers.Kept path a s =
        one-sound (lock_posts path.component path.«module» a)
        (locks-sound laws items path.component path.«module» a s)
    answered-sound answers.Had path a s = one-sound a s
    answered-sound answers.Wanted path a s = one-sound a s
    answered-sound answers.NoEntry path a s = refused-sound a s
    answered-sound answers.Full path a s = refused-sound a s

    lock-sound : (path : Path) (h : HostParts) → IsSoundHosted items h
        → RepliesSoundly (lock path h after)
    lock-sound path h s =
        reply-sound (with_lock path.component path.«module» h.modules) _
        (hosts.few.locks h.modules path.component path.«module» s.locks)
        (answered-sound (lock_answer path.component path.«module» h.modules) path h.acting
        s.acting)

    unlock-sound : (path : Path) (h : HostParts) → IsSoundHosted items h
        → RepliesSoundly (unlock path h after)
    unlock-sound path h s =
        reply-sound (without_lock path.component path.«module» h.modules) _
        (hosts.few.unlocks h.modules path.component path.«module» s.locks)
        (chosen-sound laws items after
        (is_some (lock_on h.modules.locks path.component path.«module»)) _ _
        (one-sound h.acting s.acting) (refused-sound h.acting s.acting))

    -- ---- tables

    table-sound : (path : Path) (kinds : List FieldKind) (h : HostParts) → IsSoundHosted items h
        → RepliesSoundly (open_table path kinds h after)
    table-sound path kinds h s =
        let found = bytes_found (look_up h.modules path) in
        let opened = table_opened found kinds h.acting.browser in
        reply-sound h.modules _ s.locks
        (gives-sound laws items after opened.value (with_browser opened.state h.acting)
        (opened-given items (option_and_then (λ bytes. table_of bytes kinds) found)
        h.acting.browser.tables)
        (browser-sound laws items opened.state h.acting s.acting.timers s.acting))

    -- ---- what is done for a call of the browser object

    value-sound : (value : Value) (h : HostParts) → is_bare value ≡ true
        → IsAnswer after (Answer value) → IsSoundHosted items h
        → RepliesSoundly (reply_with h.modules (gives value h.acting after))
    value-sound value h bare answer s = record {
      answer = answer;
      passes = bare-good items limit value bare;
      objects = leaves;
      hosted = record { acting = s.acting; locks = s.locks };
    }

    line-told : (line : List ℕ) (h : HostParts) → IsSoundHosted items h
        → IsSoundHosted items (record h { acting = with_line line h.acting })
    line-told line h s = record {
      acting = line-sound laws items after line h.acting.launched h.acting s.acting;
      locks = s.locks;
    }

    done-sound : (effect : Effect) (value : Value) (h : HostParts) → is_bare value ≡ true
        → IsAnswer after (Answer value) → IsSoundHosted items h
        → RepliesSoundly (reply_of_effect effect value h after)
    done-sound effects.Nothing value h bare answer s = value-sound value h bare answer s
    done-sound (effects.Sound sound) value h bare answer s =
        value-sound value (record h { acting = with_line (sound_line sound) h.acting }) bare answer
        (line-told (sound_line sound) h s)
    done-sound (effects.Kept slot size) value h bare answer s =
        value-sound value (record h { acting = with_line (kept_line slot size) h.acting }) bare
        answer (line-told (kept_line slot size) h s)
    done-sound (effects.Launch path) value h bare answer s =
        reply-sound h.modules _ s.locks (launch-sound laws items after path h.acting s.acting)
    done-sound (effects.Lock path) value h bare answer s = lock-sound path h s
    done-sound (effects.Unlock path) value h bare answer s = unlock-sound path h s
    done-sound (effects.Table path kinds) value h bare answer s = table-sound path kinds h s

  -- ---- calls of the browser object

  browser_call-sound : (h : HostParts) → IsSoundHosted items h → (name : List ℕ)
      → RepliesSoundly (browser_call h name arguments heap)
  browser_call-sound h s name =
      let a : Acting = h.acting in
      let outcome : CallOutcome = call_of name a.path a.now arguments heap a.browser in
      let good =
      call-good AreTimers a.now a.browser (calls-sound a.now a.browser.timers s.acting.timers) name
      a.path arguments heap in
      let leaves : Leaves outcome.heap =
      record {
        keeps = hosts.calls.heaps name a.path a.now arguments heap a.browser;
        fit = call-fit hosts.calls items limit name a.path a.now arguments heap a.browser;
      } in
      done-sound outcome.heap leaves outcome.called.effect outcome.called.value
      (record h { acting = with_browser outcome.called.state a }) good.value
      (hosts.calls.answers name a.path a.now arguments heap a.browser)
      (record {
        acting = browser-sound laws items outcome.called.state a good.timers s.acting;
        locks = s.locks;
      })

  -- ---- all calls

  node-sound : (a : Acting) → IsSoundActing items a → (node : ℕ) (name : List ℕ)
      → IsSoundAnswer items heap (node_call a node name heap)
  node-sound a s node name =
      chosen-sound laws items heap (is_some (tag_of a.tree.items node)) _ _
      (element-sound laws items heap a s node name) (none-sound laws items heap a s)

  pub called-sound : (h : HostParts) → IsSoundHosted items h → (base : HostRef) (name : List ℕ)
      → RepliesSoundly (reply_of_call h base name arguments heap)
  unfolding reply_of_call
  called-sound h s ref.Document name =
      reply-sound heap same-objects h.modules _ s.locks
      (document-sound laws items heap h.acting s.acting name
      (text_of heap (first_argument arguments)))
  called-sound h s (ref.Node node) name =
      reply-sound heap same-objects h.modules _ s.locks (node-sound h.acting s.acting node name)
  called-sound h s ref.Browser name = browser_call-sound h s name
  called-sound h s _ name =
      reply-sound heap same-objects h.modules _ s.locks
      (none-sound laws items heap h.acting s.acting)
