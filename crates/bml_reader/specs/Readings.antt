-- What bytes read as. `IsReading` says it by the grammar: the nodes of the document that they are,
-- or the first fault that they have. `reading_of` is the same as a function of the bytes, computed
-- piece by piece; its law is `law_of_readings`: a result is `reading_of bytes` exactly where it is
-- the bytes' reading. So whoever meets `reading_of` may take `IsReading` for it, and needs neither
-- `Machine` nor `Lexing`. (This project's own; the grammar is that of `Grammar`, the faults and
-- their order those of `Faults`.)
use Rattle.std.specs.Prelude.{◌≢◌, ℕ, zero, suc, nat_le, Bool, true, false, not, if◌then◌else◌, List, [], ◌∷◌, length, Option, Some, None, option_and_then, Result, Ok, Err, codes as ascii}
use Rattle.bml_bytes.specs.Words.{is_same}
use Rattle.dom_tree.specs.Items.{Item, tag_in}
use Rattle.dom_tree.specs.Walks.{most_nodes}
use Rattle.bml_reader.specs.Faults.{HasFault, ReadsWell}
use Rattle.bml_reader.specs.Markup.{Markup}
use Rattle.bml_reader.specs.devices.Lexing.{Found, markup_at}
use Rattle.bml_reader.specs.devices.Machine.{State, start_state, step}
use Rattle.bml_reader.specs.declared.faults.DocFault.{DocFault}
use Rattle.bml_reader.specs.declared.faults.DocFault.TheVariants.{Malformed, WrongRoot, TooDeep, TooManyNodes, NoMemory}
use Rattle.bml_reader.specs.declared.phases.Phase.{Phase}
use Rattle.bml_reader.specs.declared.phases.Phase.TheVariants.{BeforeDoctype, BeforeRoot, Inside, Behind}

-- By the grammar

-- the result is the nodes of the document that the bytes are, in document order, or the first fault
-- that they have: Malformed where no tree stands for them, and else what is wrong with the one that
-- does; want of memory is no fault of bytes
abbrev pub IsReading : List ℕ → Result (List Item) DocFault → Type 0
IsReading bytes (Ok items) = ReadsWell bytes items
IsReading bytes (Err fault) = (fault ≢ NoMemory) × HasFault bytes fault

-- As a function of the bytes (a device of the proofs, up to `reading_of`)

-- what the pieces at the front of the bytes leave, one after the other, to the end; at most so many
unfoldable pub read_markup : ℕ → List ℕ → State → Option State
read_markup zero bytes s = None
read_markup (suc most) [] s = Some s
read_markup (suc most) (byte ∷ bytes) s =
    option_and_then (λ (f : Found Markup). option_and_then (read_markup most f.rest) (step f.it s))
    (markup_at (byte ∷ bytes))

-- the root is another element than `bml`
abbrev pub is_other_root : Option (List ℕ) → Bool
is_other_root None = false
is_other_root (Some tag) = not (is_same tag (ascii "bml"))

abbrev pub has_other_root : List Item → Bool
has_other_root [] = false
has_other_root (root ∷ _) = is_other_root (tag_in root.content)

-- the root has ended
abbrev pub is_behind : Phase → Bool
is_behind BeforeDoctype = false
is_behind BeforeRoot = false
is_behind Inside = false
is_behind Behind = true

-- a document with these nodes, whose root is another element than `bml` or not, and in which an
-- element stands past the last level or not: the first fault that it has, or its nodes in document
-- order
abbrev pub result_of_nodes : Bool → Bool → List Item → Result (List Item) DocFault
result_of_nodes other deep items =
    if other then Err WrongRoot
    else (if deep then Err TooDeep
    else (if nat_le (length items) most_nodes then Ok items else Err TooManyNodes))

-- what bytes come to that are read to their end, where this is known of them
abbrev pub result_of_state : State → Result (List Item) DocFault
result_of_state s =
    if is_behind s.phase then result_of_nodes (has_other_root s.items) s.is_deep s.items
    else Err Malformed

-- and where they are read to their end or not
abbrev pub result_where_read : Option State → Result (List Item) DocFault
result_where_read None = Err Malformed
result_where_read (Some s) = result_of_state s

-- what bytes read as, which `law_of_readings` ties to `IsReading`; each piece has a byte, so that
-- there are never more pieces than bytes
unfoldable pub reading_of : List ℕ → Result (List Item) DocFault
reading_of bytes = result_where_read (read_markup (suc (length bytes)) bytes start_state)
