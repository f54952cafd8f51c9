-- The record: a file that says line by line what is done with the stream. Its form is this
-- project's own.
use Rattle.std.specs.Prelude.{◌≡◌, ℕ, ◌+◌, ◌<◌, ◌≤◌, Bool, true, false, ◌||◌, ◌&&◌, ◌==◌, ◌⊎◌}
use Rattle.std.specs.Prelude.{ℤ, pos, nat_le, nat_lt, if◌then◌else◌, List, [], ◌∷◌, map, length, filter}
use Rattle.std.specs.Prelude.{position, codes, IsTrue}
use Rattle.std.specs.Prelude.{Option, Some, None, option_map, option_and_then}
use Rattle.std.specs.List.{slice_split}
use Rattle.std.specs.Str.Lines.{lines}
use Rattle.bml_bytes.specs.Numerals.{decimal_field}
use Rattle.bml_bytes.specs.Words.{is_same}
use Rattle.text_lines.specs.declared.row_lines.Align.{Align}
use Rattle.text_lines.specs.declared.row_lines.Align.TheVariants.{Left, Center, Right}
use Rattle.receiver_core.specs.declared.broadcast.Input.TheVariants.{Date, Key, Release, Random}
use Rattle.receiver_core.specs.declared.broadcast.Input.TheVariants.{Rows, Show}
use Rattle.receiver_core.specs.Receiving.{IsDate, day_length, last_day}
use Rattle.replay_run.specs.declared.record.RecordItem.{RecordItem}
use Rattle.replay_run.specs.declared.record.RecordItem.TheVariants.{All, Packets, Tick, Input}
use Rattle.replay_run.specs.declared.record.Line.{Line}
use Rattle.replay_run.specs.declared.record.Line.TheVariants.{Item as Read, Nothing, Bad}

-- the codes of ASCII that shape a record
abbrev pub line_feed : ℕ
line_feed = 10

abbrev pub carriage_return : ℕ
carriage_return = 13

abbrev pub number_sign : ℕ
number_sign = 35

abbrev pub space : ℕ
space = 32

abbrev pub tab : ℕ
tab = 9

-- the most bytes of a line without its end
abbrev pub line_limit : ℕ
line_limit = 128

-- a blank is a space or a tab
abbrev pub is_blank : ℕ → Bool
is_blank byte = (byte == space) || (byte == tab)

-- a piece between blanks that isn't empty
abbrev pub is_field : List ℕ → Bool
is_field [] = false
is_field (_ ∷ _) = true

-- the fields of a line: its pieces between blanks, without the empty ones
unfoldable pub fields : List ℕ → List (List ℕ)
fields line = filter is_field (slice_split is_blank line)

-- `all` or `show`
abbrev pub plain_item : List ℕ → Option RecordItem
plain_item name =
    if is_same name (codes "all") then Some All
    else if is_same name (codes "show") then Some (Input Show)
    else None

-- the numbers of the keys: the arrows and the digits, and enter, back, data and the colours
abbrev pub is_key : ℕ → Bool
is_key number = (nat_le 1 number && nat_le number 14) || (nat_le 18 number && nat_le number 24)

-- the most milliseconds that one item lets pass: an hour
abbrev pub tick_limit : ℕ
tick_limit = 3600000

-- the item, where the test holds
abbrev pub item_where : Bool → RecordItem → Option RecordItem
item_where test item = if test then Some item else None

-- at least one millisecond, a random word
abbrev pub numbered_value : List ℕ → ℕ → Option RecordItem
numbered_value name number =
    if is_same name (codes "tick")
    then item_where (nat_le 1 number && nat_le number tick_limit) (Tick number)
    else if is_same name (codes "random") then Some (Input (Random number))
    else None

-- a key that is pressed or released, or one of these
abbrev pub numbered_input : List ℕ → ℕ → Option RecordItem
numbered_input name number =
    if is_same name (codes "key") then item_where (is_key number) (Input (Key number))
    else if is_same name (codes "release") then item_where (is_key number) (Input (Release number))
    else numbered_value name number

-- at least one packet, or an input
abbrev pub numbered_item : List ℕ → ℕ → Option RecordItem
numbered_item name number =
    if is_same name (codes "packets") then item_where (nat_le 1 number) (Packets number)
    else numbered_input name number

-- the most space between two codes of a row, in pixels
abbrev pub spacing_limit : ℕ
spacing_limit = 64

-- where rows stand, by a word
abbrev pub align_of : List ℕ → Option Align
align_of word =
    if is_same word (codes "left") then Some Left
    else if is_same word (codes "center") then Some Center
    else if is_same word (codes "right") then Some Right
    else None

-- the display list with its rows
abbrev pub rows_item : ℕ → Align → Option RecordItem
rows_item spacing align = item_where (nat_le spacing spacing_limit) (Input (Rows spacing align))

-- `rows`, the space between two codes, and where rows stand
abbrev pub worded_item : List ℕ → ℕ → List ℕ → Option RecordItem
worded_item name number word =
    if is_same name (codes "rows") then option_and_then (rows_item number) (align_of word)
    else None

-- a second of a day
abbrev pub date_item : ℕ → ℕ → Option RecordItem
date_item day second =
    item_where (nat_le day last_day && nat_lt second day_length) (Input (Date (pos day) second))

-- `date`, a day and a second, or a name with a number and a word
abbrev pub longer_item : List ℕ → ℕ → List ℕ → Option RecordItem
longer_item name number last =
    if is_same name (codes "date") then option_and_then (date_item number) (decimal_field last)
    else worded_item name number last

-- the item that the fields are: `all` or `show`; `packets`, `key`, `release`, `tick` or `random`
-- and a number; `rows`, a number and a word; or `date` and two numbers
abbrev pub item_of : List (List ℕ) → Option RecordItem
item_of (name ∷ []) = plain_item name
item_of (name ∷ number ∷ []) = option_and_then (numbered_item name) (decimal_field number)
item_of (name ∷ number ∷ last ∷ []) =
    option_and_then (λ number. longer_item name number last) (decimal_field number)
item_of _ = None

-- a line with the item that its fields are, and a bad one where they are none
abbrev pub item_line : Option RecordItem → Line
item_line (Some item) = Read item
item_line None = Bad

-- the field begins with `#`
abbrev pub is_comment : List ℕ → Bool
is_comment [] = false
is_comment (byte ∷ _) = byte == number_sign

-- what a line with these fields is: nothing where there are none and where the first begins a
-- comment
abbrev pub line_with : List (List ℕ) → Line
line_with [] = Nothing
line_with (name ∷ more) = if is_comment name then Nothing else item_line (item_of (name ∷ more))

-- what a line is, which is given without its end. One that is too long is bad
unfoldable pub line_of : List ℕ → Line
line_of bytes = if nat_le (length bytes) line_limit then line_with (fields bytes) else Bad

-- what the lines of a record are, in order. Its lines are those of std: each is ended by a line
-- feed, and one carriage return before that belongs to the end; the last may lack its end, and then
-- keeps a carriage return
unfoldable pub lines_of : List ℕ → List Line
lines_of bytes = map line_of (lines bytes)

-- whether a line is bad
abbrev pub is_bad : Line → Bool
is_bad (Read _) = false
is_bad Nothing = false
is_bad Bad = true

-- the items of the lines up to the first bad one
abbrev pub items_until_bad : List Line → List RecordItem
items_until_bad [] = []
items_until_bad (Read item ∷ more) = item ∷ items_until_bad more
items_until_bad (Nothing ∷ more) = items_until_bad more
items_until_bad (Bad ∷ _) = []

-- the items of a record before its first bad line
abbrev pub items_before_bad : List ℕ → List RecordItem
items_before_bad bytes = items_until_bad (lines_of bytes)

-- the number of a record's first bad line, counted from 1, where it has one. All lines count
abbrev pub first_bad : List ℕ → Option ℕ
first_bad bytes = option_map (λ place. place + 1) (position is_bad (lines_of bytes))

-- ---- how lines are written

-- the fields are this name and a number
abbrev pub HasNumber : List ℕ → ℕ → List (List ℕ) → Type 0
HasNumber name count words =
    (number : List ℕ) × (words ≡ name ∷ number ∷ []) × (decimal_field number ≡ Some count)

-- the word for where rows stand
abbrev pub align_word : Align → List ℕ
align_word Left = codes "left"
align_word Center = codes "center"
align_word Right = codes "right"

-- the fields are `rows`, this space and the word for where rows stand
abbrev pub AskForRows : ℕ → Align → List (List ℕ) → Type 0
AskForRows spacing align words =
    (number : List ℕ) × (words ≡ codes "rows" ∷ number ∷ align_word align ∷ [])
    × (decimal_field number ≡ Some spacing)

-- the fields are `date`, the number of this day and this second of it
abbrev pub TellDate : ℤ → ℕ → List (List ℕ) → Type 0
TellDate day second words =
    (first : List ℕ) × (last : List ℕ) × (words ≡ codes "date" ∷ first ∷ last ∷ [])
    × (option_map pos (decimal_field first) ≡ Some day) × (decimal_field last ≡ Some second)

-- the fields of an item
abbrev pub IsWritten : RecordItem → List (List ℕ) → Type 0
IsWritten All words = words ≡ codes "all" ∷ []
IsWritten (Packets count) words = HasNumber (codes "packets") count words × (0 < count)
IsWritten (Input (Key key)) words = HasNumber (codes "key") key words × IsTrue (is_key key)
IsWritten (Input (Release key)) words = HasNumber (codes "release") key words × IsTrue (is_key key)
IsWritten (Tick count) words =
    HasNumber (codes "tick") count words × (0 < count) × (count ≤ tick_limit)
IsWritten (Input (Random word)) words = HasNumber (codes "random") word words
IsWritten (Input (Date day second)) words = TellDate day second words × IsDate day second
IsWritten (Input Show) words = words ≡ codes "show" ∷ []
IsWritten (Input (Rows spacing align)) words =
    AskForRows spacing align words × (spacing ≤ spacing_limit)

-- the fields of a line that asks for nothing: there are none, or the first begins with `#`
abbrev pub AsksNothing : List (List ℕ) → Type 0
AsksNothing words =
    (words ≡ [])
    ⊎ ((name : List ℕ) × (more : List (List ℕ)) × (words ≡ (number_sign ∷ name) ∷ more))

-- the item of a line that has one
abbrev pub item_in : Line → Option RecordItem
item_in (Read item) = Some item
item_in Nothing = None
item_in Bad = None
