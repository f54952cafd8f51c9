-- The names of the locals of functions, and whose nodes tell them. (A device of the proofs.)
use Rattle.std.specs.Prelude.{◌≡◌, ℕ, List, [], Some, slice_get}
use Rattle.std.specs.Option.{option_and_then, option_map_or}
use Rattle.es_reader.specs.Locals.{StandsIn, name_told}
use Rattle.es_reader.specs.Programs.{ToldProgram}
use Rattle.es_shapes.specs.declared.codes.Code.{Code}
use Rattle.es_shapes.specs.declared.functions.Declared.{Declared}

abbrev pub names_told : ToldProgram → ℕ → List (List ℕ)
names_told told function =
    option_map_or (λ declared. declared.locals) (slice_get told.functions function) []

abbrev pub local_names : List ToldProgram → Declared → List (List ℕ)
local_names programs declared =
    option_map_or (λ told. told.locals)
    (option_and_then (λ told. slice_get told.functions declared.function)
    (slice_get programs declared.program)) []

-- the node is a Name or a Declarator of this name, and stands in the function that is declared there
pub record IsNamedIn (programs : List ToldProgram) (code : Code) (declared : Declared) (name : List ℕ) : Type 0 where
  pub beside : code.program ≡ declared.program
  pub told : ToldProgram
  pub is : slice_get programs code.program ≡ Some told
  pub stands : StandsIn told code.node declared.function
  pub named : name_told told.rows code.node ≡ Some name
