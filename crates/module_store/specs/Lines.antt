-- The lines that tell of the modules of a component, each with the line feed that ends it. This project's own. Numbers of a
-- component and of a version have two hexadecimal digits, that of a module four, and other numbers are decimal.
use Rattle.std.specs.Prelude.{ℕ, List, [], ◌++◌, codes}
use Rattle.std.specs.Option.{option_map_or}
use Rattle.bml_bytes.specs.Numerals.{decimal_digits, hex_digits}
use Rattle.carousel_blocks.specs.declared.standing.SkipCause.{SkipCause}
use Rattle.carousel_blocks.specs.declared.standing.SkipCause.TheVariants.{Compressed, Large}
use Rattle.carousel_blocks.specs.declared.changes.Change.{Change}
use Rattle.carousel_blocks.specs.declared.changes.ChangeLine.{ChangeLine}
use Rattle.carousel_blocks.specs.declared.changes.ChangeLine.TheVariants.{DataEvent, Delivered, Gone, Skipped}

-- ` cc` of a component
abbrev pub component_field : ℕ → List ℕ
component_field component = codes " " ++ hex_digits 2 component

-- ` cc mmmm` of a component's module
abbrev pub module_fields : ℕ → ℕ → List ℕ
module_fields component number =
    component_field component ++ (codes " " ++ hex_digits 4 number)

-- ` vv size` of what was delivered
abbrev pub delivery_fields : ℕ → ℕ → List ℕ
delivery_fields version size =
    codes " " ++ (hex_digits 2 version ++ (codes " " ++ decimal_digits size))

abbrev pub cause_name : SkipCause → List ℕ
cause_name Compressed = codes "compressed"
cause_name Large = codes "large"

-- ` b a`: the data_event_ids before and after
abbrev pub event_fields : ℕ → ℕ → List ℕ
event_fields before after =
    codes " " ++ (decimal_digits before ++ (codes " " ++ decimal_digits after))

-- what is said of a module: `module cc mmmm vv size`, `gone cc mmmm`, `skip cc mmmm CAUSE`; and of a component:
-- `dataevent cc b a`
abbrev pub line_name : ChangeLine → List ℕ
line_name (Delivered version size) = codes "module"
line_name Gone = codes "gone"
line_name (Skipped cause) = codes "skip"
line_name (DataEvent before after) = codes "dataevent"

abbrev pub line_fields : ℕ → ℕ → ChangeLine → List ℕ
line_fields component number (Delivered version size) =
    module_fields component number ++ delivery_fields version size
line_fields component number Gone = module_fields component number
line_fields component number (Skipped cause) =
    module_fields component number ++ (codes " " ++ cause_name cause)
line_fields component number (DataEvent before after) =
    component_field component ++ event_fields before after

abbrev pub line_with : ℕ → ℕ → ChangeLine → List ℕ
line_with component number line =
    line_name line ++ (line_fields component number line ++ codes "\n")

-- the line of a change, where it has one
abbrev pub line_of_change : ℕ → Change → List ℕ
line_of_change component change = option_map_or (line_with component change.module) change.line []
