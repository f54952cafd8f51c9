-- The words of the command line, behind the program's name. Each is a list of codes. The commands
-- are this project's own.
use Rattle.std.specs.Prelude.{◌≡◌, ◌≢◌, ℕ, ◌≤◌, Bool, false, ◌&&◌, not, ◌==◌, nat_le}
use Rattle.std.specs.Prelude.{if◌then◌else◌, List, [], ◌∷◌, ◌++◌, slice_get, codes, Option, Some}
use Rattle.std.specs.Prelude.{None, option_map, option_and_then}
use Rattle.bml_bytes.specs.Numerals.{decimal_field}
use Rattle.std.specs.Option.{option_or}
use Rattle.bml_bytes.specs.Words.{is_same}
use Rattle.psi_tables.specs.declared.services.Selection.{Selection}
use Rattle.psi_tables.specs.declared.services.Selection.TheVariants.{First, Service, Pid}

-- what a replay is of: which service or data is received, and the names of the stream's file and of
-- the record's
pub record ReplayWords : Type 0 where
  pub selection : Selection
  pub stream : List ℕ
  pub notes : List ℕ

-- what words can ask for: a replay, or files that are generated of a seed, with so many modules
pub data Command : Type 0 where
  Replay : ReplayWords → Command
  Generate : ℕ → ℕ → Command

-- the words ask for a replay
abbrev pub IsAReplay : Option Command → Type 0
IsAReplay None = ⊥
IsAReplay (Some (Replay request)) = Unit {0}
IsAReplay (Some (Generate seed count)) = ⊥

-- the code of a hyphen (ASCII)
abbrev pub hyphen : ℕ
hyphen = 45

-- the numbers that a program can have (ISO/IEC 13818-1, 2.4.4.5; 0 is the network's)
abbrev pub first_program : ℕ
first_program = 1

abbrev pub last_program : ℕ
last_program = 65535

-- the PIDs that data can be on (ISO/IEC 13818-1, table 2-3, without the null packets)
abbrev pub first_data_pid : ℕ
first_data_pid = 16

abbrev pub last_data_pid : ℕ
last_data_pid = 8190

-- the name of a file: it isn't empty and doesn't begin with a hyphen
abbrev pub is_file_name : List ℕ → Bool
is_file_name [] = false
is_file_name (first ∷ _) = not (first == hyphen)

-- a number of this range
abbrev pub is_between : ℕ → ℕ → ℕ → Bool
is_between least most number = nat_le least number && nat_le number most

-- the service with a program's number
abbrev pub service : List ℕ → Option Selection
service word =
    option_and_then
    (λ number. if is_between first_program last_program number then Some (Service number) else None)
    (decimal_field word)

-- the data on a PID that data can be on
abbrev pub data_pid : List ℕ → Option Selection
data_pid word =
    option_and_then
    (λ pid. if is_between first_data_pid last_data_pid pid then Some (Pid pid) else None)
    (decimal_field word)

-- what an option and its number ask for
abbrev pub selection_of : List ℕ → List ℕ → Option Selection
selection_of option number =
    if is_same option (codes "--service") then service number
    else if is_same option (codes "--data-pid") then data_pid number
    else None

-- the replay of these files, where the first word is `replay` and something is asked for
abbrev pub replay_of : List ℕ → Option Selection → List ℕ → List ℕ → Option Command
replay_of name selection stream notes =
    if is_same name (codes "replay") && (is_file_name stream && is_file_name notes)
    then option_map (λ asked. Replay (record { selection = asked; stream = stream; notes = notes }))
    selection
    else None

-- how many modules can be generated
abbrev pub least_modules : ℕ
least_modules = 1

abbrev pub most_modules : ℕ
most_modules = 100

abbrev pub module_count : List ℕ → Option ℕ
module_count word =
    option_and_then
    (λ count. if is_between least_modules most_modules count then Some count else None)
    (decimal_field word)

-- the files of this seed and this many modules, where the first word is `gen`
abbrev pub generation_of : List ℕ → Option ℕ → Option ℕ → Option Command
generation_of name seed count =
    if is_same name (codes "gen")
    then option_and_then (λ seed. option_map (λ count. Generate seed count) count) seed
    else None

-- `replay STREAM RECORD`, with at most one option in front of the names, and `gen SEED COUNT` are
-- commands, and no other list of words is one
abbrev pub command : List (List ℕ) → Option Command
command (name ∷ first ∷ second ∷ []) =
    option_or (replay_of name (Some First) first second)
    (generation_of name (decimal_field first) (module_count second))
command (name ∷ option ∷ number ∷ stream ∷ notes ∷ []) =
    replay_of name (selection_of option number) stream notes
command _ = None

-- a name that a file can have on the command line
pub record IsFileName (name : List ℕ) : Type 0 where
  pub some : name ≢ []
  pub no_option : slice_get name 0 ≢ Some hyphen

-- an option with a number of this range
pub record IsOption (name : List ℕ) (least most value : ℕ) (words : List (List ℕ)) : Type 0 where
  pub number : List ℕ
  pub written : words ≡ name ∷ number ∷ []
  pub field : decimal_field number ≡ Some value
  pub least_is : least ≤ value
  pub most_is : value ≤ most

-- the words in front of the names that ask for it: none for the first service
abbrev pub AskFor : Selection → List (List ℕ) → Type 0
AskFor First words = words ≡ []
AskFor (Service number) words = IsOption (codes "--service") first_program last_program number words
AskFor (Pid pid) words = IsOption (codes "--data-pid") first_data_pid last_data_pid pid words

-- the words of a replay, as they are written
pub record IsReplay (words : List (List ℕ)) (asked : ReplayWords) : Type 0 where
  pub option : List (List ℕ)
  pub written : words ≡ codes "replay" ∷ (option ++ asked.stream ∷ asked.notes ∷ [])
  pub asks : AskFor asked.selection option
  pub stream : IsFileName asked.stream
  pub notes : IsFileName asked.notes

-- the words of generated files, as they are written
pub record IsGeneration (words : List (List ℕ)) (seed count : ℕ) : Type 0 where
  pub first : List ℕ
  pub second : List ℕ
  pub written : words ≡ codes "gen" ∷ first ∷ second ∷ []
  pub seed_is : decimal_field first ≡ Some seed
  pub count_is : decimal_field second ≡ Some count
  pub least : least_modules ≤ count
  pub most : count ≤ most_modules

-- the words of a command, as they are written
abbrev pub IsCommand : List (List ℕ) → Command → Type 0
IsCommand words (Replay asked) = IsReplay words asked
IsCommand words (Generate seed count) = IsGeneration words seed count
