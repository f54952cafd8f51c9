-- What scripts call on the browser object (after ARIB STD-B24 volume 2, in this project's own
-- profile): for each call its value, what the page has to do beside, and what becomes of timers,
-- random words, the persistent area and the objects of scripts.
use Rattle.std.specs.Prelude.{◌≡◌, ℕ, ◌+◌, ◌%◌, nat_le, ◌&&◌, if◌then◌else◌, pos, negsuc, ℤ, List, [], ◌∷◌, ◌++◌, find, length, take, drop, Option, Some, None, unwrap_or, is_some, codes, option_and_then, slice_get}
use Rattle.std.specs.Option.{option_map_or}
use Rattle.bml_bytes.specs.Numerals.{decimal_field}
use Rattle.bml_bytes.specs.Words.{is_same}
use Rattle.binary_table.specs.Tables.{TableState}
use Rattle.multipart_entities.specs.declared.paths.Path.{Path}
use Rattle.multipart_entities.specs.Paths.{path_of_text}
use Rattle.date_objects.specs.Dates.{date_object, moment_of}
use Rattle.es_date.specs.declared.moments.Moment.{Moment}
use Rattle.es_date.specs.declared.units.DateUnit.{DateUnit}
use Rattle.es_date.specs.Moments.{unit_of}
use Rattle.es_values.specs.declared.numbers.Num.{Num}
use Rattle.es_values.specs.declared.numbers.Num.TheVariants.{NotANumber, Whole}
use Rattle.es_values.specs.declared.values.Value.{Value}
use Rattle.es_values.specs.declared.values.Value.TheVariants.{Null, Number, Object, Undefined}
use Rattle.es_values.specs.Conversions.{number_of, text_of}
use Rattle.es_values.specs.Objects.{ObjectState}
use Rattle.persistent_arrays.specs.declared.fields.Field.{Field}
use Rattle.persistent_arrays.specs.declared.kinds.FieldKind.{FieldKind}
use Rattle.persistent_arrays.specs.Arrays.{array_in, with_array}
use Rattle.persistent_arrays.specs.Names.{array_named}
use Rattle.persistent_arrays.specs.Packing.{packed_in_array}
use Rattle.persistent_arrays.specs.Reading.{unpacked}
use Rattle.persistent_arrays.specs.Structures.{structure_spelled}
use Rattle.event_queue.specs.Timers.{TimersState, has_place, no_timers, timer_of, timer_set, with_timer, without_timer}
use Rattle.browser_objects.specs.declared.calls.BrowserCall.{BrowserCall}
use Rattle.browser_objects.specs.declared.calls.BrowserCall.TheVariants as the
use Rattle.browser_objects.specs.declared.effects.Effect.{Effect}
use Rattle.browser_objects.specs.declared.effects.Effect.TheVariants.{Nothing, Kept, Sound, Launch, Lock, Unlock, Table}
use Rattle.browser_objects.specs.ArrayCalls.{fields_of, value_of_field, values_of_array, with_array_of}
use Rattle.browser_objects.specs.Dates.{later_moment, present_moment, units_since}
use Rattle.browser_objects.specs.Functions.{named_function}
use Rattle.browser_objects.specs.OpenTables.{TablesState, cell_at, limit_of, no_tables, opening, row_numbers, rows_found, table_numbered, table_of}

-- what calls act on
pub record BrowserParts : Type 0 where
  pub ureg : List (List ℕ)
  pub greg : List (List ℕ)
  -- the persistent area
  pub area : List ℕ
  pub timers : TimersState
  -- the random words that are left
  pub random : List ℕ
  -- the day and the second that the record told last, and the clock then
  pub date : Option (ℤ × ℕ × ℕ)
  -- the tables that the document has open
  pub tables : TablesState

-- what is left when a document ends: its timers and its tables end with it
abbrev pub without_document : BrowserParts → BrowserParts
without_document s = record s { timers = no_timers; tables = no_tables }

-- what a call gives, what the page has to do, and what it leaves
pub record CallResult : Type 0 where
  pub value : Value
  pub effect : Effect
  pub state : BrowserParts

-- a call with the objects that it leaves
pub record CallOutcome : Type 0 where
  pub called : CallResult
  pub heap : List ObjectState

-- a call answered so, and left this
pub record Answers (called : CallResult) (answer : Value × Effect) (left : BrowserParts)
    : Type 0 where
  pub value : answer.0 ≡ called.value
  pub effect : answer.1 ≡ called.effect
  pub state : left ≡ called.state

-- ---- the names of the calls

abbrev pub name_of_call : BrowserCall → List ℕ
name_of_call the.SetInterval = codes "setInterval"
name_of_call the.ClearTimer = codes "clearTimer"
name_of_call the.LaunchDocument = codes "launchDocument"
name_of_call the.LockModuleOnMemory = codes "lockModuleOnMemory"
name_of_call the.UnlockModuleOnMemory = codes "unlockModuleOnMemory"
name_of_call the.Random = codes "random"
name_of_call the.ReadPersistentArray = codes "readPersistentArray"
name_of_call the.WritePersistentArray = codes "writePersistentArray"
name_of_call the.PlayRomSound = codes "playRomSound"
name_of_call the.CurrentDate = codes "currentDate"
name_of_call the.AddDate = codes "addDate"
name_of_call the.SubDate = codes "subDate"
name_of_call the.OpenTable = codes "openTable"
name_of_call the.TableRows = codes "tableRows"
name_of_call the.TableCell = codes "tableCell"
name_of_call the.TableSearch = codes "tableSearch"

abbrev pub all_calls : List BrowserCall
all_calls =
    the.SetInterval ∷ the.ClearTimer ∷ the.LaunchDocument ∷ the.LockModuleOnMemory
    ∷ the.UnlockModuleOnMemory ∷ the.ReadPersistentArray ∷ the.WritePersistentArray ∷ the.Random
    ∷ the.PlayRomSound ∷ the.CurrentDate ∷ the.AddDate ∷ the.SubDate ∷ the.OpenTable ∷ the.TableRows
    ∷ the.TableCell ∷ the.TableSearch ∷ []

abbrev pub call_named : List ℕ → Option BrowserCall
call_named name = find (λ call. is_same name (name_of_call call)) all_calls

-- ---- answers

abbrev pub number : ℕ → Value
number n = Number (Whole (pos n))

abbrev pub gives : Value → BrowserParts → CallResult
gives value s = record { value = value; effect = Nothing; state = s }

-- an unknown name, or arguments of a wrong form: NaN, and nothing else
abbrev pub gives_nan : BrowserParts → CallResult
gives_nan s = gives (Number NotANumber) s

-- The page does this, and the value is what it comes to: that which stands here is never given.
abbrev pub hands_on : Effect → BrowserParts → CallResult
hands_on effect s = record { value = Undefined; effect = effect; state = s }

-- ---- arguments

-- an absent one is Undefined
abbrev pub argument : List Value → ℕ → Value
argument arguments place = unwrap_or (slice_get arguments place) Undefined

abbrev pub text_argument : List ObjectState → List Value → ℕ → List ℕ
text_argument heap arguments place = text_of heap (argument arguments place)

-- a whole number; none is NaN
abbrev pub whole_in : Num → Option ℤ
whole_in NotANumber = None
whole_in (Whole number) = Some number

abbrev pub whole_argument : List ObjectState → List Value → ℕ → Option ℤ
whole_argument heap arguments place = whole_in (number_of heap (argument arguments place))

-- a whole number that isn't negative
abbrev pub count_in : Num → Option ℕ
count_in NotANumber = None
count_in (Whole (pos n)) = Some n
count_in (Whole (negsuc n)) = None

abbrev pub count_argument : List ObjectState → List Value → ℕ → Option ℕ
count_argument heap arguments place = count_in (number_of heap (argument arguments place))

-- ---- timers

abbrev pub least_interval : ℕ
least_interval = 100

-- an interval is raised to the least one
abbrev pub interval_of : ℤ → ℕ
interval_of (pos n) = if nat_le least_interval n then n else least_interval
interval_of (negsuc n) = least_interval

-- a timer of this function, with this interval and so many firings: its number
abbrev pub with_interval : ℕ → List ℕ → ℕ → ℕ → BrowserParts → CallResult
with_interval now function interval turns s =
    if has_place s.timers
    then gives (number s.timers.next)
    (record s {
      timers = with_timer (timer_set s.timers.next function interval turns now) s.timers;
    })
    else gives_nan s

-- a timer of these arguments, if each is of its form
abbrev pub begin_timer : ℕ → Option (List ℕ) → Option ℤ → Option ℕ → BrowserParts → CallResult
begin_timer now (Some function) (Some interval) (Some turns) s =
    with_interval now function (interval_of interval) turns s
begin_timer now None interval turns s = gives_nan s
begin_timer now (Some function) None turns s = gives_nan s
begin_timer now (Some function) (Some interval) None s = gives_nan s

abbrev pub set_interval : ℕ → List Value → List ObjectState → BrowserParts → CallResult
set_interval now arguments heap s =
    begin_timer now (named_function (text_argument heap arguments 0))
    (whole_argument heap arguments 1) (count_argument heap arguments 2) s

-- the timer of this number ends
abbrev pub end_timer : ℕ → BrowserParts → CallResult
end_timer n s =
    if is_some (timer_of n s.timers)
    then gives (number 1) (record s { timers = without_timer n s.timers }) else gives_nan s

abbrev pub clear_timer : List Value → List ObjectState → BrowserParts → CallResult
clear_timer arguments heap s =
    option_map_or (λ n. end_timer n s) (count_argument heap arguments 0) (gives_nan s)

-- ---- paths

abbrev pub path_argument : Path → List Value → List ObjectState → Option Path
path_argument base arguments heap = path_of_text (text_argument heap arguments 0) base

-- what is done with a path, where there is one
abbrev pub with_path : (Path → Effect) → Option Path → BrowserParts → CallResult
with_path effect path s = option_map_or (λ path. hands_on (effect path) s) path (gives_nan s)

-- ---- random numbers

-- the next random word, 0 where none is left, and those behind it
abbrev pub first_word : List ℕ → ℕ
first_word [] = 0
first_word (word ∷ words) = word

abbrev pub other_words : List ℕ → List ℕ
other_words [] = []
other_words (word ∷ words) = words

-- from 1 to n, by the next random word
abbrev pub draw_up_to : ℕ → BrowserParts → CallResult
draw_up_to n s =
    if nat_le 1 n
    then gives (number (1 + first_word s.random % n)) (record s { random = other_words s.random })
    else gives_nan s

abbrev pub draw_random : List Value → List ObjectState → BrowserParts → CallResult
draw_random arguments heap s =
    option_map_or (λ n. draw_up_to n s) (count_argument heap arguments 0) (gives_nan s)

-- ---- sounds

-- what stands in front of the number of a sound
abbrev pub sound_front : List ℕ
sound_front = codes "romsound://"

-- the number of the sound that a text names
abbrev pub sound_of : List ℕ → Option ℕ
sound_of text =
    if nat_le 11 (length text) && is_same (take 11 text) sound_front
    then decimal_field (drop 11 text) else None

abbrev pub play_sound : List Value → List ObjectState → BrowserParts → CallResult
play_sound arguments heap s =
    option_map_or (λ sound. record { value = number 1; effect = Sound sound; state = s })
    (sound_of (text_argument heap arguments 0)) (gives_nan s)

-- ---- persistent arrays

-- a call that makes no object
abbrev pub over : List ObjectState → CallResult → CallOutcome
over heap called = record { called = called; heap = heap }

-- What is done with the array and the fields that the first two arguments name. Where one of them
-- names none, the form is wrong.
abbrev pub with_named : (ℕ → List FieldKind → CallOutcome) → Option ℕ → Option (List FieldKind)
    → CallOutcome → CallOutcome
with_named call (Some slot) (Some kinds) wrong = call slot kinds
with_named call None kinds wrong = wrong
with_named call (Some slot) None wrong = wrong

abbrev pub with_names : (ℕ → List FieldKind → CallOutcome) → List Value → List ObjectState
    → BrowserParts → CallOutcome
with_names call arguments heap s =
    with_named call (array_named (text_argument heap arguments 0))
    (structure_spelled (text_argument heap arguments 1)) (over heap (gives_nan s))

-- a new array of what was read, and Null where a field passes the end of the persistent array
abbrev pub give_array : Option (List Field) → List ObjectState → BrowserParts → CallOutcome
give_array None heap s = over heap (gives Null s)
give_array (Some values) heap s =
    record { called = gives (Object (length heap)) s; heap = with_array_of heap values }

abbrev pub read_array : List Value → List ObjectState → BrowserParts → CallOutcome
read_array arguments heap s =
    with_names (λ slot kinds. give_array (unpacked kinds (array_in s.area slot)) heap s) arguments
    heap s

-- The number of the bytes that are written, which the page tells; where none can be, the form is
-- wrong.
abbrev pub write_bytes : ℕ → Option (List ℕ) → BrowserParts → CallResult
write_bytes slot None s = gives_nan s
write_bytes slot (Some bytes) s = record {
  value = number (length bytes);
  effect = Kept slot (length bytes);
  state = record s { area = with_array s.area slot bytes };
}

-- the values of an array as those of fields, and their bytes
abbrev pub packed_values : List ObjectState → List FieldKind → Option (List Value) → Option (List ℕ)
packed_values heap kinds values =
    option_and_then (packed_in_array kinds) (option_and_then (fields_of heap kinds) values)

abbrev pub write_array : List Value → List ObjectState → BrowserParts → CallOutcome
write_array arguments heap s =
    with_names (λ slot kinds. over heap (write_bytes slot
    (packed_values heap kinds (values_of_array heap (argument arguments 2))) s)) arguments heap s

-- ---- dates

-- the moment of the argument at a place, where it is a good Date
abbrev pub date_argument : List ObjectState → List Value → ℕ → Option Moment
date_argument heap arguments place = moment_of heap (argument arguments place)

-- the unit that it names
abbrev pub unit_argument : List ObjectState → List Value → ℕ → Option DateUnit
unit_argument heap arguments place = option_and_then unit_of (whole_argument heap arguments place)

-- a new Date of a moment
abbrev pub give_date : Option Moment → List ObjectState → BrowserParts → CallOutcome
give_date None heap s = over heap (gives_nan s)
give_date (Some moment) heap s =
    record { called = gives (Object (length heap)) s; heap = heap ++ date_object (Some moment) ∷ [] }

-- Null where the record told no date yet
abbrev pub current_date : ℕ → List ObjectState → BrowserParts → CallOutcome
current_date now heap s =
    option_map_or (λ date. give_date (present_moment now date) heap s) s.date
    (over heap (gives Null s))

abbrev pub add_date : List Value → List ObjectState → BrowserParts → CallOutcome
add_date arguments heap s =
    give_date (later_moment (date_argument heap arguments 0) (whole_argument heap arguments 1)
    (unit_argument heap arguments 2)) heap s

abbrev pub sub_date : List Value → List ObjectState → BrowserParts → CallResult
sub_date arguments heap s =
    option_map_or (λ units. gives (Number (Whole units)) s)
    (units_since (date_argument heap arguments 0) (date_argument heap arguments 1)
    (unit_argument heap arguments 2)) (gives_nan s)

-- ---- binary tables

-- The page looks the resource of a path up, and tries to open it as a table of these fields. Where a text is no path or no
-- structure, the form is wrong.
abbrev pub opens : Option Path → Option (List FieldKind) → BrowserParts → CallResult
opens (Some path) (Some kinds) s = hands_on (Table path kinds) s
opens None kinds s = gives_nan s
opens (Some path) None s = gives_nan s

abbrev pub open_table : Path → List Value → List ObjectState → BrowserParts → CallResult
open_table base arguments heap s =
    opens (path_argument base arguments heap) (structure_spelled (text_argument heap arguments 1)) s

-- what a call of `openTable` comes to where these bytes were found, or none
abbrev pub table_opened : Option (List ℕ) → List FieldKind → BrowserParts → CallResult
table_opened found kinds s =
    let opened = opening (option_and_then (λ bytes. table_of bytes kinds) found) s.tables in
    gives opened.0 (record s { tables = opened.1 })

-- the open table that the first argument numbers
abbrev pub table_argument : List Value → List ObjectState → BrowserParts → Option TableState
table_argument arguments heap s =
    option_and_then (table_numbered s.tables) (count_argument heap arguments 0)

abbrev pub count_rows : List Value → List ObjectState → BrowserParts → CallResult
count_rows arguments heap s =
    option_map_or (λ table. gives (number (length table.rows)) s) (table_argument arguments heap s)
    (gives_nan s)

-- the value of a cell, and Null where there is no such cell
abbrev pub give_cell : Option Field → BrowserParts → CallResult
give_cell None s = gives Null s
give_cell (Some field) s = gives (value_of_field field) s

-- the cell of a table in a row and a column; NaN where one of the three is missing
abbrev pub read_cell : Option TableState → Option ℤ → Option ℤ → BrowserParts → CallResult
read_cell (Some table) (Some row) (Some column) s = give_cell (cell_at table row column) s
read_cell None row column s = gives_nan s
read_cell (Some table) None column s = gives_nan s
read_cell (Some table) (Some row) None s = gives_nan s

abbrev pub table_cell : List Value → List ObjectState → BrowserParts → CallResult
table_cell arguments heap s =
    read_cell (table_argument arguments heap s) (whole_argument heap arguments 1)
    (whole_argument heap arguments 2) s

-- a search of a table from a row on, in a column, for a value, up to a limit; NaN where one of the numbers is missing
abbrev pub search_rows : Option TableState → Option ℕ → Option ℕ → Option ℕ → Value
    → List ObjectState → BrowserParts → CallOutcome
search_rows (Some table) (Some from) (Some column) (Some limit) value heap s =
    give_array (Some (row_numbers (rows_found table from column limit heap value))) heap s
search_rows None from column limit value heap s = over heap (gives_nan s)
search_rows (Some table) None column limit value heap s = over heap (gives_nan s)
search_rows (Some table) (Some from) None limit value heap s = over heap (gives_nan s)
search_rows (Some table) (Some from) (Some column) None value heap s = over heap (gives_nan s)

abbrev pub table_search : List Value → List ObjectState → BrowserParts → CallOutcome
table_search arguments heap s =
    search_rows (table_argument arguments heap s) (count_argument heap arguments 1)
    (count_argument heap arguments 2)
    (option_and_then limit_of (count_argument heap arguments 4)) (argument arguments 3) heap s

-- ---- the table of all calls

abbrev pub outcome_of_call : BrowserCall → Path → ℕ → List Value → List ObjectState → BrowserParts
    → CallOutcome
outcome_of_call the.SetInterval base now arguments heap s =
    over heap (set_interval now arguments heap s)
outcome_of_call the.ClearTimer base now arguments heap s = over heap (clear_timer arguments heap s)
outcome_of_call the.LaunchDocument base now arguments heap s =
    over heap (with_path Launch (path_argument base arguments heap) s)
outcome_of_call the.LockModuleOnMemory base now arguments heap s =
    over heap (with_path Lock (path_argument base arguments heap) s)
outcome_of_call the.UnlockModuleOnMemory base now arguments heap s =
    over heap (with_path Unlock (path_argument base arguments heap) s)
outcome_of_call the.ReadPersistentArray base now arguments heap s = read_array arguments heap s
outcome_of_call the.WritePersistentArray base now arguments heap s = write_array arguments heap s
outcome_of_call the.Random base now arguments heap s = over heap (draw_random arguments heap s)
outcome_of_call the.PlayRomSound base now arguments heap s = over heap (play_sound arguments heap s)
outcome_of_call the.CurrentDate base now arguments heap s = current_date now heap s
outcome_of_call the.AddDate base now arguments heap s = add_date arguments heap s
outcome_of_call the.SubDate base now arguments heap s = over heap (sub_date arguments heap s)
outcome_of_call the.OpenTable base now arguments heap s =
    over heap (open_table base arguments heap s)
outcome_of_call the.TableRows base now arguments heap s = over heap (count_rows arguments heap s)
outcome_of_call the.TableCell base now arguments heap s = over heap (table_cell arguments heap s)
outcome_of_call the.TableSearch base now arguments heap s = table_search arguments heap s

-- the call of this name, which has to be one of these
abbrev pub call_of : List ℕ → Path → ℕ → List Value → List ObjectState → BrowserParts
    → CallOutcome
call_of name base now arguments heap s =
    option_map_or (λ call. outcome_of_call call base now arguments heap s) (call_named name)
    (over heap (gives_nan s))
