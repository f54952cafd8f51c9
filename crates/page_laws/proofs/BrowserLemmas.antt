-- What scripts call on the browser object gives neither a function nor a reference, and leaves timers as they are, with
-- one that is set, or without one.
use Rattle.std.proofs.Common.{◌≡◌, ◌≤◌, ℕ, Bool, true, false, List, Option, Some, None, refl, arith}
use Rattle.std.specs.Prelude.{if◌then◌else◌, ◌%◌, ◌+◌, is_some, nat_le, option_and_then, ℤ, pos, negsuc}
use Rattle.std.specs.Option.{option_map_or}
use Rattle.std.proofs.lemmas.Bool.{leb-true}
use Rattle.dom_tree.specs.Items.{Item}
use Rattle.multipart_entities.specs.declared.paths.Path.{Path}
use Rattle.es_date.specs.declared.moments.Moment.{Moment}
use Rattle.es_values.specs.Objects.{ObjectState}
use Rattle.es_values.specs.declared.values.Value.{Value}
use Rattle.es_values.specs.declared.values.Value.TheVariants.{Function, Host, Null}
use Rattle.persistent_arrays.specs.Arrays.{array_in}
use Rattle.persistent_arrays.specs.Names.{array_named}
use Rattle.persistent_arrays.specs.Reading.{unpacked}
use Rattle.persistent_arrays.specs.Structures.{structure_spelled}
use Rattle.persistent_arrays.specs.declared.fields.Field.{Field}
use Rattle.persistent_arrays.specs.declared.fields.Field.TheVariants as fields
use Rattle.persistent_arrays.specs.declared.kinds.FieldKind.{FieldKind}
use Rattle.event_queue.specs.Timers.{TimersState, has_place, timer_of, timer_set, with_timer, without_timer}
use Rattle.browser_objects.specs.ArrayCalls.{values_of_array}
use Rattle.browser_objects.specs.Calls.{BrowserParts, date_argument, give_cell, give_date, opens, read_cell, search_rows, table_argument, unit_argument, CallOutcome, CallResult, argument, give_array, write_bytes, call_named, call_of, outcome_of_call, end_timer, count_argument, draw_up_to, first_word, gives, interval_of, least_interval, number, other_words, over, packed_values, path_argument, play_sound, gives_nan, sound_of, text_argument, begin_timer, whole_argument, with_interval, with_named, with_path}
use Rattle.browser_objects.specs.Dates.{later_moment, present_moment, units_since}
use Rattle.browser_objects.specs.Functions.{named_function}
use Rattle.browser_objects.specs.OpenTables.{cell_at, limit_of, row_numbers, rows_found}
use Rattle.binary_table.specs.Tables.{TableState}
use Rattle.browser_objects.specs.declared.calls.BrowserCall.{BrowserCall}
use Rattle.browser_objects.specs.declared.calls.BrowserCall.TheVariants as the
use Rattle.browser_objects.specs.declared.effects.Effect.{Effect}
use Rattle.browser_objects.specs.declared.effects.Effect.TheVariants.{Launch, Lock, Unlock}
use Rattle.page_laws.specs.Soundness.{is_good}
use Rattle.page_laws.proofs.TimerLemmas.{HoldsOfTimers}

-- neither a function nor a reference
abbrev pub is_bare : Value → Bool
is_bare (Function number) = false
is_bare (Host reference) = false
is_bare other = true

pub bare-good : (items : List Item) (limit : ℕ) (value : Value) → is_bare value ≡ true
    → is_good items limit value ≡ true
bare-good items limit (Function number) h = absurd (cc h)
bare-good items limit (Host reference) h = absurd (cc h)
bare-good items limit _ h = refl

pub record IsGoodCall (Good : TimersState → Type 0) (c : CallResult) : Type 0 where
  pub value : is_bare c.value ≡ true
  pub timers : Good c.state.timers

interval-least : (interval : ℤ) → least_interval ≤ interval_of interval
interval-least (negsuc n) = omega arith
interval-least (pos n) = by (nat_le least_interval n) refl
  where
    by : (t : Bool) → nat_le least_interval n ≡ t
        → least_interval ≤ (if t then n else least_interval)
    by true e = leb-true least_interval n e
    by false e = omega arith

module _ (Good : TimersState → Type 0) (now : ℕ) (s : BrowserParts)
    (holds : HoldsOfTimers Good now s.timers) where
  abbrev Holds : CallResult → Type 0
  Holds c = IsGoodCall Good c

  refused-good : Holds (gives_nan s)
  refused-good = record { value = refl; timers = holds.stays }

  chosen-good : (t : Bool) (one : CallResult) → (t ≡ true → Holds one)
      → Holds (if t then one else gives_nan s)
  chosen-good true one good = good refl
  chosen-good false one good = refused-good

  may-good : {A : Type 0} (f : A → CallResult) (o : Option A) → ((x : A) → Holds (f x))
      → Holds (option_map_or f o (gives_nan s))
  may-good f None good = refused-good
  may-good f (Some x) good = good x

  -- ---- timers

  set-good : (function : List ℕ) (interval turns : ℕ) → least_interval ≤ interval
      → Holds (with_interval now function interval turns s)
  set-good function interval turns least =
      chosen-good (has_place s.timers)
      (gives (number s.timers.next) (record s {
        timers = with_timer (timer_set s.timers.next function interval turns now) s.timers;
      }))
      (λ place. record {
        value = refl;
        timers = holds.sets function interval turns place least;
      })

  timer-good : (function : Option (List ℕ)) (interval : Option ℤ) (turns : Option ℕ)
      → Holds (begin_timer now function interval turns s)
  timer-good None interval turns = refused-good
  timer-good (Some function) None turns = refused-good
  timer-good (Some function) (Some interval) None = refused-good
  timer-good (Some function) (Some interval) (Some turns) =
      set-good function (interval_of interval) turns (interval-least interval)

  cleared-good : (n : ℕ) → Holds (end_timer n s)
  cleared-good n =
      chosen-good (is_some (timer_of n s.timers))
      (gives (number 1) (record s { timers = without_timer n s.timers }))
      (λ there. record { value = refl; timers = holds.ends n })

  -- ---- paths, random numbers and sounds

  path-good : (effect : Path → Effect) (path : Option Path) → Holds (with_path effect path s)
  path-good effect path = may-good _ path (λ path. record { value = refl; timers = holds.stays })

  drawn-good : (n : ℕ) → Holds (draw_up_to n s)
  drawn-good n =
      chosen-good (nat_le 1 n)
      (gives (number (1 + first_word s.random % n))
      (record s { random = other_words s.random }))
      (λ one. record { value = refl; timers = holds.stays })

  sound-good : (arguments : List Value) (heap : List ObjectState)
      → Holds (play_sound arguments heap s)
  sound-good arguments heap =
      may-good _ (sound_of (text_argument heap arguments 0))
      (λ sound. record { value = refl; timers = holds.stays })

  -- ---- persistent arrays

  named-good : (call : ℕ → List FieldKind → CallOutcome) (heap : List ObjectState)
      → ((slot : ℕ) (kinds : List FieldKind) → Holds (call slot kinds).called)
      → (slot : Option ℕ) (kinds : Option (List FieldKind))
      → Holds (with_named call slot kinds (over heap (gives_nan s))).called
  named-good call heap good (Some slot) (Some kinds) = good slot kinds
  named-good call heap good None kinds = refused-good
  named-good call heap good (Some slot) None = refused-good

  read-good : (values : Option (List Field)) (heap : List ObjectState)
      → Holds (give_array values heap s).called
  read-good None heap = record { value = refl; timers = holds.stays }
  read-good (Some values) heap = record { value = refl; timers = holds.stays }

  written-good : (slot : ℕ) (bytes : Option (List ℕ)) → Holds (write_bytes slot bytes s)
  written-good slot None = refused-good
  written-good slot (Some bytes) = record { value = refl; timers = holds.stays }

  -- ---- dates

  dated-good : (moment : Option Moment) (heap : List ObjectState)
      → Holds (give_date moment heap s).called
  dated-good None heap = refused-good
  dated-good (Some moment) heap = record { value = refl; timers = holds.stays }

  present-good : (heap : List ObjectState) (date : Option (ℤ × ℕ × ℕ)) → Holds (option_map_or
      (λ date. give_date (present_moment now date) heap s) date (over heap (gives Null s))).called
  present-good heap None = record { value = refl; timers = holds.stays }
  present-good heap (Some date) = dated-good (present_moment now date) heap

  -- ---- binary tables

  opens-good : (path : Option Path) (kinds : Option (List FieldKind)) → Holds (opens path kinds s)
  opens-good None kinds = refused-good
  opens-good (Some path) None = refused-good
  opens-good (Some path) (Some kinds) = record { value = refl; timers = holds.stays }

  cell-good : (found : Option Field) → Holds (give_cell found s)
  cell-good None = record { value = refl; timers = holds.stays }
  cell-good (Some (fields.Bit bit)) = record { value = refl; timers = holds.stays }
  cell-good (Some (fields.Whole number)) = record { value = refl; timers = holds.stays }
  cell-good (Some (fields.Words text)) = record { value = refl; timers = holds.stays }

  read_cell-good : (table : Option TableState) (row column : Option ℤ)
      → Holds (read_cell table row column s)
  read_cell-good None row column = refused-good
  read_cell-good (Some table) None column = refused-good
  read_cell-good (Some table) (Some row) None = refused-good
  read_cell-good (Some table) (Some row) (Some column) = cell-good (cell_at table row column)

  found-good : (table : Option TableState) (from column limit : Option ℕ) (value : Value)
      (heap : List ObjectState) → Holds (search_rows table from column limit value heap s).called
  found-good None from column limit value heap = refused-good
  found-good (Some table) None column limit value heap = refused-good
  found-good (Some table) (Some from) None limit value heap = refused-good
  found-good (Some table) (Some from) (Some column) None value heap = refused-good
  found-good (Some table) (Some from) (Some column) (Some limit) value heap =
      read-good (Some (row_numbers (rows_found table from column limit heap value))) heap

  -- ---- the table

  one-good : (call : BrowserCall) (base : Path) (arguments : List Value)
      (heap : List ObjectState) → Holds (outcome_of_call call base now arguments heap s).called
  one-good the.SetInterval base arguments heap =
      timer-good (named_function (text_argument heap arguments 0))
      (whole_argument heap arguments 1) (count_argument heap arguments 2)
  one-good the.ClearTimer base arguments heap =
      may-good _ (count_argument heap arguments 0) cleared-good
  one-good the.LaunchDocument base arguments heap =
      path-good Launch (path_argument base arguments heap)
  one-good the.LockModuleOnMemory base arguments heap =
      path-good Lock (path_argument base arguments heap)
  one-good the.UnlockModuleOnMemory base arguments heap =
      path-good Unlock (path_argument base arguments heap)
  one-good the.ReadPersistentArray base arguments heap =
      named-good _ heap
      (λ slot kinds. read-good (unpacked kinds (array_in s.area slot)) heap)
      (array_named (text_argument heap arguments 0))
      (structure_spelled (text_argument heap arguments 1))
  one-good the.WritePersistentArray base arguments heap =
      named-good _ heap
      (λ slot kinds. written-good slot
      (packed_values heap kinds (values_of_array heap (argument arguments 2))))
      (array_named (text_argument heap arguments 0))
      (structure_spelled (text_argument heap arguments 1))
  one-good the.Random base arguments heap =
      may-good _ (count_argument heap arguments 0) drawn-good
  one-good the.PlayRomSound base arguments heap = sound-good arguments heap
  one-good the.CurrentDate base arguments heap = present-good heap s.date
  one-good the.AddDate base arguments heap =
      dated-good (later_moment (date_argument heap arguments 0) (whole_argument heap arguments 1)
      (unit_argument heap arguments 2)) heap
  one-good the.SubDate base arguments heap =
      may-good _ (units_since (date_argument heap arguments 0) (date_argument heap arguments 1)
      (unit_argument heap arguments 2)) (λ units. record { value = refl; timers = holds.stays })
  one-good the.OpenTable base arguments heap =
      opens-good (path_argument base arguments heap)
      (structure_spelled (text_argument heap arguments 1))
  one-good the.TableRows base arguments heap =
      may-good _ (table_argument arguments heap s)
      (λ table. record { value = refl; timers = holds.stays })
  one-good the.TableCell base arguments heap =
      read_cell-good (table_argument arguments heap s) (whole_argument heap arguments 1)
      (whole_argument heap arguments 2)
  one-good the.TableSearch base arguments heap =
      found-good (table_argument arguments heap s) (count_argument heap arguments 1)
      (count_argument heap arguments 2)
      (option_and_then limit_of (count_argument heap arguments 4)) (argument arguments 3) heap

  pub call-good : (name : List ℕ) (base : Path) (arguments : List Value)
      (heap : List ObjectState) → Holds (call_of name base now arguments heap s).called
  call-good name base arguments heap = by (call_named name)
    where
      by : (call : Option BrowserCall) → Holds (option_map_or
          (λ call. outcome_of_call call base now arguments heap s) call (over heap (gives_nan s))).called
      by None = refused-good
      by (Some call) = one-good call base arguments heap
