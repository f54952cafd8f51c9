-- What the next section of a component changes in its modules (after ARIB STD-B24, volume 3; this project's own).
--
-- A module gone has the line Gone and status 1. A new one has status 2, and one in both DIIs in force and changed has
-- status 0: where the entry is skipped its line is Skipped with the cause, where the module is held at once its line is
-- Delivered, else it has none. A block that completes a module gives the line Delivered and no status.
use Rattle.std.specs.Prelude.{ℕ, Bool, true, false, ◌&&◌, not, if◌then◌else◌, List, [], Option, Some, None, is_some}
use Rattle.std.specs.List.{filter_map, range_with_len}
use Rattle.dsmcc_messages.specs.declared.entry.Entry.{Entry}
use Rattle.carousel_blocks.specs.declared.standing.SkipCause.{SkipCause}
use Rattle.carousel_blocks.specs.declared.standing.Standing.{Standing}
use Rattle.carousel_blocks.specs.declared.changes.Change.{Change}
use Rattle.carousel_blocks.specs.declared.changes.ChangeLine.{ChangeLine}
use Rattle.carousel_blocks.specs.declared.changes.ChangeLine.TheVariants.{Delivered, Gone, Skipped}
use Rattle.carousel_blocks.specs.Message.{Message}
use Rattle.carousel_blocks.specs.InForce.{in_force, standing_of}
use Rattle.carousel_blocks.specs.Held.{same_standing, bytes_held}

-- the line of a module that is held
abbrev pub delivered : Entry → ChangeLine
delivered entry = Delivered entry.version entry.size

-- the line of an entry that is new, or another than before: why it is skipped, or that it is held at once
abbrev pub line_by : Entry → Option SkipCause → Bool → Option ChangeLine
line_by entry (Some cause) is_held = Some (Skipped cause)
line_by entry None true = Some (delivered entry)
line_by entry None false = None

abbrev pub line_of : Standing → Option (List ℕ) → Option ChangeLine
line_of standing bytes = line_by standing.entry standing.skip (is_some bytes)

-- what is told of a module whose entry went, changed or came
abbrev pub gone : ℕ → Change
gone number = record { «module» = number; status = Some 1; line = Some Gone; locked = false }

abbrev pub changed : ℕ → Option ChangeLine → Change
changed number line = record { «module» = number; status = Some 0; line = line; locked = false }

abbrev pub appeared : ℕ → Option ChangeLine → Change
appeared number line = record { «module» = number; status = Some 2; line = line; locked = false }

-- what is told of a module that its last block completed
abbrev pub completed : ℕ → Entry → Change
completed number entry = record { «module» = number; status = None; line = Some (delivered entry); locked = false }

-- One module's change: its number, its entry before and now, and its bytes before and now.
abbrev pub change_of : ℕ → Option Standing → Option Standing → Option (List ℕ) → Option (List ℕ) → Option Change
change_of number None None was now = None
change_of number (Some old) None was now = Some (gone number)
change_of number None (Some new) was now = Some (appeared number (line_of new now))
change_of number (Some old) (Some new) was now =
    if same_standing old new then (if not (is_some was) && is_some now then Some (completed number new.entry) else None)
    else Some (changed number (line_of new now))

-- the change of the module with that number, from the messages before to those now
abbrev pub change_at : List Message → List Message → ℕ → Option Change
change_at before now number =
    change_of number (standing_of (in_force before) number) (standing_of (in_force now) number) (bytes_held before number) (bytes_held now number)

-- all changes of modules with numbers below a bound, in ascending number
abbrev pub changes_within : ℕ → List Message → List Message → List Change
changes_within bound before now = filter_map (change_at before now) (range_with_len 0 bound)

-- module numbers have two bytes
unfoldable pub number_bound : ℕ
number_bound = 65536

-- all changes, in ascending module number
unfoldable pub changes : List Message → List Message → List Change
changes before now = changes_within number_bound before now

-- what goes where the component leaves
abbrev pub departures : List Message → List Change
departures messages = changes messages []
