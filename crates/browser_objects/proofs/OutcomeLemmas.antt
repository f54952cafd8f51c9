-- What calls give and leave is what hosts of scripts promise.
use Rattle.std.proofs.Common.{◌≡◌, ℕ, ◌<◌, nat_le, Bool, true, false, cond, List, [], ◌∷◌, ◌++◌, length, map, Option, Some, None, ℤ, ◌⊎◌, inl, inr, refl, sym, subst, arith, length-append}
use Rattle.std.specs.Prelude.{◌||◌, is_some, option_and_then}
use Rattle.std.specs.List.{list_any}
use Rattle.std.specs.Option.{option_map_or}
use Rattle.multipart_entities.specs.declared.paths.Path.{Path}
use Rattle.date_objects.specs.Dates.{date_object}
use Rattle.es_date.specs.declared.moments.Moment.{Moment}
use Rattle.es_values.specs.declared.numbers.Num.TheVariants.{Whole}
use Rattle.es_values.specs.declared.hosts.HostAnswer.TheVariants.{Value as Answered}
use Rattle.es_values.specs.declared.values.Value.{Value}
use Rattle.es_values.specs.declared.values.Value.TheVariants as values
use Rattle.es_values.specs.Arrays.{array_of}
use Rattle.es_values.specs.Heaps.{holds_function}
use Rattle.es_values.specs.Hosts.{IsAnswer, KeepsHeap}
use Rattle.es_values.specs.Objects.{ObjectState}
use Rattle.es_values.specs.Values.{is_function, is_plain}
use Rattle.persistent_arrays.specs.declared.fields.Field.{Field}
use Rattle.persistent_arrays.specs.declared.fields.Field.TheVariants as fields
use Rattle.persistent_arrays.specs.declared.kinds.FieldKind.{FieldKind}
use Rattle.persistent_arrays.specs.Arrays.{array_in}
use Rattle.persistent_arrays.specs.Names.{array_named}
use Rattle.persistent_arrays.specs.Reading.{unpacked}
use Rattle.persistent_arrays.specs.Structures.{structure_spelled}
use Rattle.event_queue.specs.Timers.{has_place, timer_of}
use Rattle.browser_objects.specs.declared.calls.BrowserCall.{BrowserCall}
use Rattle.browser_objects.specs.declared.calls.BrowserCall.TheVariants as the
use Rattle.browser_objects.specs.declared.effects.Effect.TheVariants.{Sound, Launch, Lock, Unlock, Table}
use Rattle.browser_objects.specs.ArrayCalls.{value_of_field, values_of_array, with_array_of}
use Rattle.browser_objects.specs.Dates.{later_moment, present_moment, units_since}
use Rattle.browser_objects.specs.Functions.{named_function}
use Rattle.browser_objects.specs.OpenTables.{cell_at, limit_of, row_numbers, rows_found}
use Rattle.binary_table.specs.Tables.{TableState}
use Rattle.browser_objects.specs.Calls.{
  count_rows,
  give_cell,
  open_table,
  opens,
  read_cell,
  search_rows,
  table_argument,
  table_cell,
  date_argument,
  give_date,
  sub_date,
  unit_argument,
  BrowserParts,
  CallResult,
  CallOutcome,
  argument,
  give_array,
  write_bytes,
  call_named,
  call_of,
  outcome_of_call,
  clear_timer,
  end_timer,
  count_argument,
  draw_up_to,
  gives,
  hands_on,
  interval_of,
  number,
  over,
  packed_values,
  path_argument,
  play_sound,
  draw_random,
  gives_nan,
  set_interval,
  sound_of,
  text_argument,
  begin_timer,
  whole_argument,
  with_interval,
  with_named,
  with_path,
}

-- ---- calls whose value is neither an object nor a function

abbrev IsPlain : CallResult → Type 0
IsPlain called = is_plain called.value ≡ true

either : (test : Bool) (one other : CallResult) → IsPlain one → IsPlain other → IsPlain (cond test one other)
either true one other p q = p
either false one other p q = q

mapped : {X : Type 0} (make : X → CallResult) (found : Option X) (other : CallResult) → ((x : X) → IsPlain (make x)) → IsPlain other
    → IsPlain (option_map_or make found other)
mapped make None other p q = q
mapped make (Some x) other p q = p x

with-interval : (now : ℕ) (function : List ℕ) (interval turns : ℕ) (s : BrowserParts)
    → IsPlain (with_interval now function interval turns s)
with-interval now function interval turns s = either (has_place s.timers) _ _ refl refl

timer : (now : ℕ) (function : Option (List ℕ)) (interval : Option ℤ) (turns : Option ℕ) (s : BrowserParts)
    → IsPlain (begin_timer now function interval turns s)
timer now None interval turns s = refl
timer now (Some function) None turns s = refl
timer now (Some function) (Some interval) None s = refl
timer now (Some function) (Some interval) (Some turns) s = with-interval now function (interval_of interval) turns s

written : (slot : ℕ) (bytes : Option (List ℕ)) (s : BrowserParts) → IsPlain (write_bytes slot bytes s)
written slot None s = refl
written slot (Some bytes) s = refl

opening : (path : Option Path) (kinds : Option (List FieldKind)) (s : BrowserParts) → IsPlain (opens path kinds s)
opening None kinds s = refl
opening (Some path) None s = refl
opening (Some path) (Some kinds) s = refl

plain-field : (found : Option Field) (s : BrowserParts) → IsPlain (give_cell found s)
plain-field None s = refl
plain-field (Some (fields.Bit bit)) s = refl
plain-field (Some (fields.Whole whole)) s = refl
plain-field (Some (fields.Words text)) s = refl

cell-read : (table : Option TableState) (row column : Option ℤ) (s : BrowserParts) → IsPlain (read_cell table row column s)
cell-read None row column s = refl
cell-read (Some table) None column s = refl
cell-read (Some table) (Some row) None s = refl
cell-read (Some table) (Some row) (Some column) s = plain-field (cell_at table row column) s

-- ---- what a call gives and leaves

-- no object is new, or an array of fields' values is, or a Date
abbrev pub IsMore : List ObjectState → List ObjectState → Type 0
IsMore heap new = (new ≡ heap) ⊎ ((values : List Field) × (new ≡ with_array_of heap values))
    ⊎ ((moment : Moment) × (new ≡ heap ++ date_object (Some moment) ∷ []))

-- a value is one of a host, and what objects there are behind the call
record IsGiven (heap : List ObjectState) (outcome : CallOutcome) : Type 0 where
  answer : IsAnswer outcome.heap (Answered outcome.called.value)
  objects : IsMore heap outcome.heap

plain-answer : (heap : List ObjectState) (value : Value) → is_plain value ≡ true → IsAnswer heap (Answered value)
plain-answer heap values.Undefined e = (refl, tt)
plain-answer heap values.Null e = (refl, tt)
plain-answer heap (values.Bool truth) e = (refl, tt)
plain-answer heap (values.Number number) e = (refl, tt)
plain-answer heap (values.Str text) e = (refl, tt)
plain-answer heap (values.Object object) e = absurd cc
plain-answer heap (values.Function function) e = absurd cc
plain-answer heap (values.Host reference) e = (refl, tt)

plain : (heap : List ObjectState) (called : CallResult) → IsPlain called → IsGiven heap (over heap called)
plain heap called e = record { answer = plain-answer heap called.value e; objects = inl refl }

named : (heap : List ObjectState) (call : ℕ → List FieldKind → CallOutcome) (slot : Option ℕ) (kinds : Option (List FieldKind)) (wrong : CallOutcome)
    → ((slot : ℕ) (kinds : List FieldKind) → IsGiven heap (call slot kinds)) → IsGiven heap wrong → IsGiven heap (with_named call slot kinds wrong)
named heap call None kinds wrong p q = q
named heap call (Some slot) None wrong p q = q
named heap call (Some slot) (Some kinds) wrong p q = p slot kinds

one-more : (heap : List ObjectState) (object : ObjectState) → length heap < length (heap ++ object ∷ [])
one-more heap object = let l = length-append heap (object ∷ []) in omega arith

read : (found : Option (List Field)) (heap : List ObjectState) (s : BrowserParts) → IsGiven heap (give_array found heap s)
read None heap s = plain heap (gives values.Null s) refl
read (Some found) heap s = record { answer = (refl, one-more heap (array_of (map value_of_field found))); objects = inr (inl (found, refl)) }

dated : (moment : Option Moment) (heap : List ObjectState) (s : BrowserParts) → IsGiven heap (give_date moment heap s)
dated None heap s = plain heap (gives_nan s) refl
dated (Some moment) heap s = record { answer = (refl, one-more heap (date_object (Some moment))); objects = inr (inr (moment, refl)) }

found-rows : (table : Option TableState) (from column limit : Option ℕ) (value : Value) (heap : List ObjectState) (s : BrowserParts)
    → IsGiven heap (search_rows table from column limit value heap s)
found-rows None from column limit value heap s = plain heap (gives_nan s) refl
found-rows (Some table) None column limit value heap s = plain heap (gives_nan s) refl
found-rows (Some table) (Some from) None limit value heap s = plain heap (gives_nan s) refl
found-rows (Some table) (Some from) (Some column) None value heap s = plain heap (gives_nan s) refl
found-rows (Some table) (Some from) (Some column) (Some limit) value heap s =
    read (Some (row_numbers (rows_found table from column limit heap value))) heap s

present : (now : ℕ) (date : Option (ℤ × ℕ × ℕ)) (heap : List ObjectState) (s : BrowserParts)
    → IsGiven heap (option_map_or (λ date. give_date (present_moment now date) heap s) date (over heap (gives values.Null s)))
present now None heap s = plain heap (gives values.Null s) refl
present now (Some date) heap s = dated (present_moment now date) heap s

table : (call : BrowserCall) (base : Path) (now : ℕ) (arguments : List Value) (heap : List ObjectState) (s : BrowserParts)
    → IsGiven heap (outcome_of_call call base now arguments heap s)
table the.SetInterval base now arguments heap s =
    plain heap (set_interval now arguments heap s)
    (timer now (named_function (text_argument heap arguments 0)) (whole_argument heap arguments 1) (count_argument heap arguments 2) s)
table the.ClearTimer base now arguments heap s =
    plain heap (clear_timer arguments heap s)
    (mapped (λ n. end_timer n s) (count_argument heap arguments 0) (gives_nan s)
    (λ n. either (is_some (timer_of n s.timers)) _ _ refl refl) refl)
table the.LaunchDocument base now arguments heap s =
    plain heap (with_path (λ path. Launch path) (path_argument base arguments heap) s)
    (mapped (λ path. hands_on (Launch path) s) (path_argument base arguments heap) (gives_nan s) (λ path. refl) refl)
table the.LockModuleOnMemory base now arguments heap s =
    plain heap (with_path (λ path. Lock path) (path_argument base arguments heap) s)
    (mapped (λ path. hands_on (Lock path) s) (path_argument base arguments heap) (gives_nan s) (λ path. refl) refl)
table the.UnlockModuleOnMemory base now arguments heap s =
    plain heap (with_path (λ path. Unlock path) (path_argument base arguments heap) s)
    (mapped (λ path. hands_on (Unlock path) s) (path_argument base arguments heap) (gives_nan s) (λ path. refl) refl)
table the.ReadPersistentArray base now arguments heap s =
    named heap (λ slot kinds. give_array (unpacked kinds (array_in s.area slot)) heap s) (array_named (text_argument heap arguments 0))
    (structure_spelled (text_argument heap arguments 1)) (over heap (gives_nan s))
    (λ slot kinds. read (unpacked kinds (array_in s.area slot)) heap s) (plain heap (gives_nan s) refl)
table the.WritePersistentArray base now arguments heap s =
    named heap (λ slot kinds. over heap (write_bytes slot (packed_values heap kinds (values_of_array heap (argument arguments 2))) s))
    (array_named (text_argument heap arguments 0)) (structure_spelled (text_argument heap arguments 1)) (over heap (gives_nan s))
    (λ slot kinds. plain heap (write_bytes slot (packed_values heap kinds (values_of_array heap (argument arguments 2))) s)
    (written slot (packed_values heap kinds (values_of_array heap (argument arguments 2))) s))
    (plain heap (gives_nan s) refl)
table the.Random base now arguments heap s =
    plain heap (draw_random arguments heap s)
    (mapped (λ n. draw_up_to n s) (count_argument heap arguments 0) (gives_nan s) (λ n. either (nat_le 1 n) _ _ refl refl) refl)
table the.PlayRomSound base now arguments heap s =
    plain heap (play_sound arguments heap s)
    (mapped (λ sound. record { value = number 1; effect = Sound sound; state = s })
    (sound_of (text_argument heap arguments 0)) (gives_nan s) (λ sound. refl) refl)
table the.CurrentDate base now arguments heap s = present now s.date heap s
table the.AddDate base now arguments heap s =
    dated (later_moment (date_argument heap arguments 0) (whole_argument heap arguments 1) (unit_argument heap arguments 2)) heap s
table the.SubDate base now arguments heap s =
    plain heap (sub_date arguments heap s)
    (mapped (λ units. gives (values.Number (Whole units)) s)
    (units_since (date_argument heap arguments 0) (date_argument heap arguments 1) (unit_argument heap arguments 2)) (gives_nan s)
    (λ units. refl) refl)
table the.OpenTable base now arguments heap s =
    plain heap (open_table base arguments heap s)
    (opening (path_argument base arguments heap) (structure_spelled (text_argument heap arguments 1)) s)
table the.TableRows base now arguments heap s =
    plain heap (count_rows arguments heap s)
    (mapped (λ table. gives (number (length table.rows)) s) (table_argument arguments heap s) (gives_nan s) (λ table. refl) refl)
table the.TableCell base now arguments heap s =
    plain heap (table_cell arguments heap s)
    (cell-read (table_argument arguments heap s) (whole_argument heap arguments 1) (whole_argument heap arguments 2) s)
table the.TableSearch base now arguments heap s =
    found-rows (table_argument arguments heap s) (count_argument heap arguments 1) (count_argument heap arguments 2)
    (option_and_then limit_of (count_argument heap arguments 4)) (argument arguments 3) heap s

given : (name : List ℕ) (base : Path) (now : ℕ) (arguments : List Value) (heap : List ObjectState) (s : BrowserParts)
    → IsGiven heap (call_of name base now arguments heap s)
given name base now arguments heap s = by (call_named name)
  where
    by : (call : Option BrowserCall) → IsGiven heap (option_map_or (λ call. outcome_of_call call base now arguments heap s) call (over heap (gives_nan s)))
    by None = plain heap (gives_nan s) refl
    by (Some call) = table call base now arguments heap s

pub always-answer : (name : List ℕ) (base : Path) (now : ℕ) (arguments : List Value) (heap : List ObjectState) (s : BrowserParts)
    → IsAnswer (call_of name base now arguments heap s).heap (Answered (call_of name base now arguments heap s).called.value)
always-answer name base now arguments heap s = (given name base now arguments heap s).answer

pub new-objects : (name : List ℕ) (base : Path) (now : ℕ) (arguments : List Value) (heap : List ObjectState) (s : BrowserParts)
    → IsMore heap (call_of name base now arguments heap s).heap
new-objects name base now arguments heap s = (given name base now arguments heap s).objects

-- ---- functions

-- what `law_of_array_functions` says of arrays that are made
abbrev MadeArrays : Type 0
MadeArrays = (heap : List ObjectState) (number : ℕ) (values : List Value) → holds_function number (heap ++ array_of values ∷ []) ≡ true
    → (holds_function number heap || list_any (is_function number) values) ≡ true

no-function : (number : ℕ) (found : List Field) → list_any (is_function number) (map value_of_field found) ≡ false
no-function number [] = refl
no-function number (fields.Bit bit ∷ found) = no-function number found
no-function number (fields.Whole whole ∷ found) = no-function number found
no-function number (fields.Words text ∷ found) = no-function number found

held : (a b c : Bool) → b ≡ false → (a || b) ≡ true → (a || c) ≡ true
held true b c e h = refl
held false b c e h = absurd cc

at-least : (a c : Bool) → a ≡ true → (a || c) ≡ true
at-least true c e = refl
at-least false c e = absurd cc

kept : MadeArrays → (heap : List ObjectState) (arguments : List Value) (found : List Field) → KeepsHeap heap arguments (with_array_of heap found)
kept made heap arguments found = record {
  objects = (let more = one-more heap (array_of (map value_of_field found)) in omega arith);
  functions = λ number h.
      held (holds_function number heap) (list_any (is_function number) (map value_of_field found)) (list_any (is_function number) arguments)
      (no-function number found) (made heap number (map value_of_field found) h);
}

-- what `law_of_new_dates` says of Dates that are made
abbrev MadeDates : Type 0
MadeDates = (heap : List ObjectState) (moment : Option Moment) (number : ℕ) → holds_function number (heap ++ date_object moment ∷ []) ≡ true
    → holds_function number heap ≡ true

kept-date : MadeDates → (heap : List ObjectState) (arguments : List Value) (moment : Option Moment)
    → KeepsHeap heap arguments (heap ++ date_object moment ∷ [])
kept-date made heap arguments moment = record {
  objects = (let more = one-more heap (date_object moment) in omega arith);
  functions = λ number h.
      at-least (holds_function number heap) (list_any (is_function number) arguments) (made heap moment number h);
}

same : (heap : List ObjectState) (arguments : List Value) → KeepsHeap heap arguments heap
same heap arguments = record {
  objects = omega arith;
  functions = λ number h. at-least (holds_function number heap) (list_any (is_function number) arguments) h;
}

pub always-kept : MadeArrays → MadeDates → (name : List ℕ) (base : Path) (now : ℕ) (arguments : List Value) (heap : List ObjectState) (s : BrowserParts)
    → KeepsHeap heap arguments (call_of name base now arguments heap s).heap
always-kept made dates name base now arguments heap s = by (call_of name base now arguments heap s).heap (new-objects name base now arguments heap s)
  where
    by : (new : List ObjectState) → IsMore heap new → KeepsHeap heap arguments new
    by new (inl e) = subst (KeepsHeap heap arguments) (sym e) (same heap arguments)
    by new (inr (inl array)) = subst (KeepsHeap heap arguments) (sym array.1) (kept made heap arguments array.0)
    by new (inr (inr date)) = subst (KeepsHeap heap arguments) (sym date.1) (kept-date dates heap arguments (Some date.0))
