-- The texts that are paths, as a writer of documents spells them. (The law of paths says that these
-- and no others resolve. After ARIB STD-B24, volume 2; the forms are this project's own.)
use Rattle.std.specs.Prelude.{◌≡◌, ◌≢◌, ℕ, ◌≤◌, ◌<◌, false, List, [], ◌++◌, length, map, Option, Some, None, All, codes as ascii}
use Rattle.std.specs.List.{AllPass}
use Rattle.bml_bytes.specs.Codes.{bytes_of, codes}
use Rattle.bml_bytes.specs.Escapes.{is_escaped}
use Rattle.bml_bytes.specs.Numbers.{number_in}
use Rattle.bml_bytes.specs.declared.line_fields.Escapes.TheVariants.{ControlsAndSpace}
use Rattle.multipart_entities.specs.declared.paths.Path.{Path}
use Rattle.multipart_entities.specs.Paths.{hex_value, is_hex_digit, most_name_codes}

-- the parts of a text: a field has no slash, a name has 1 to 64 codes besides, and digits are
-- hexadecimal and so many
abbrev pub IsField : List ℕ → Type 0
IsField field = All (λ code. code ≢ 47) field

pub record IsName (name : List ℕ) : Type 0 where
  pub some : 1 ≤ length name
  pub most : length name ≤ most_name_codes
  pub field : IsField name

pub record AreDigits (count : ℕ) (digits : List ℕ) : Type 0 where
  pub count_is : length digits ≡ count
  pub digits_only : AllPass is_hex_digit digits

abbrev pub number_of : List ℕ → ℕ
number_of digits = number_in 16 (map hex_value digits)

-- what stands in front of a component: `/`, or `arib-dc://host/`
abbrev pub root_text : Option (List ℕ) → List ℕ
root_text None = ascii "/"
root_text (Some host) = ascii "arib-dc://" ++ (host ++ ascii "/")

abbrev pub IsRoot : Option (List ℕ) → Type 0
IsRoot None = Unit {0}
IsRoot (Some host) = IsField host

-- The forms: `name`, `../mmmm/name`, and `/cc/mmmm` and `/cc/mmmm/name` or the same behind
-- `arib-dc://host`.
pub data PathText : Type 0 where
  ByName : (name : List ℕ) → PathText
  InComponent : (digits name : List ℕ) → PathText
  OfModule : (host : Option (List ℕ)) (component digits : List ℕ) → PathText
  OfResource : (host : Option (List ℕ)) (component digits name : List ℕ) → PathText

abbrev pub IsPathText : PathText → Type 0
IsPathText (ByName name) = IsName name
IsPathText (InComponent digits name) = AreDigits 4 digits × IsName name
IsPathText (OfModule host component digits) =
    IsRoot host × AreDigits 2 component × AreDigits 4 digits
IsPathText (OfResource host component digits name) =
    IsRoot host × AreDigits 2 component × AreDigits 4 digits × IsName name

abbrev pub text_of : PathText → List ℕ
text_of (ByName name) = name
text_of (InComponent digits name) = ascii "../" ++ (digits ++ (ascii "/" ++ name))
text_of (OfModule host component digits) = root_text host ++ (component ++ (ascii "/" ++ digits))
text_of (OfResource host component digits name) =
    root_text host ++ (component ++ (ascii "/" ++ (digits ++ (ascii "/" ++ name))))

-- the path that such a text names, seen from a base
abbrev pub named_by : Path → PathText → Path
named_by base (ByName name) =
    record { component = base.component; «module» = base.module; name = name }
named_by base (InComponent digits name) =
    record { component = base.component; «module» = number_of digits; name = name }
named_by base (OfModule host component digits) =
    record { component = number_of component; «module» = number_of digits; name = [] }
named_by base (OfResource host component digits name) =
    record { component = number_of component; «module» = number_of digits; name = name }

-- A path that is read back from how it is printed: its numbers fit, its name has at most 64 codes
-- and no slash, no byte of the name is escaped, and the bytes of the name are read as the codes
-- that they were.
pub record IsPrintable (path : Path) : Type 0 where
  pub component_fits : path.component < 256
  pub module_fits : path.module < 65536
  pub most : length path.name ≤ most_name_codes
  pub field : IsField path.name
  pub plain : All (λ byte. is_escaped ControlsAndSpace byte ≡ false) (bytes_of path.name)
  pub pairs : codes (bytes_of path.name) ≡ path.name
