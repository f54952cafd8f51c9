-- The lines that tell of documents, each with the line feed that ends it. This project's own. Numbers are
-- decimal.
use Rattle.std.specs.Prelude.{ℕ, List, ◌++◌, codes}
use Rattle.std.specs.List.{flat_map}
use Rattle.bml_bytes.specs.Numerals.{decimal_digits}
use Rattle.bml_reader.specs.declared.faults.DocFault.{DocFault}
use Rattle.bml_reader.specs.declared.faults.DocFault.TheVariants as faults
use Rattle.multipart_entities.specs.declared.paths.Path.{Path}
use Rattle.multipart_entities.specs.Paths.{path_text}

-- the fault's name
abbrev pub fault_name : DocFault → List ℕ
fault_name faults.Malformed = codes "Malformed"
fault_name faults.WrongRoot = codes "WrongRoot"
fault_name faults.TooDeep = codes "TooDeep"
fault_name faults.TooManyNodes = codes "TooManyNodes"
fault_name faults.NoMemory = codes "NoMemory"

-- a script of the document at this path is bad; the first has the number 1
abbrev pub bad_script_line : Path → ℕ → List ℕ
bad_script_line path number =
    codes "badscript "
    ++ (path_text path ++ (codes " " ++ (decimal_digits number ++ codes "\n")))

-- the document at this path was loaded, and of its scripts those with these numbers are bad
abbrev pub load_lines : Path → List ℕ → List ℕ
load_lines path bad =
    codes "load " ++ (path_text path ++ (codes "\n" ++ flat_map (bad_script_line path) bad))

-- it was refused for this fault
abbrev pub refuse_line : Path → DocFault → List ℕ
refuse_line path fault =
    codes "refuse " ++ (path_text path ++ (codes " " ++ (fault_name fault ++ codes "\n")))
