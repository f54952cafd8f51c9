-- Which nodes are locals of functions, and which of them (ECMA-262 second edition, sections
-- 10.1.3 and 10.1.4: a function's parameters and its `var`s are its variables; that they are
-- numbered is this project's own).
use Rattle.std.specs.Prelude.{◌≡◌, ℕ, ◌<◌, List, [], ◌∷◌, Option, Some, None, slice_get}
use Rattle.std.specs.List.{position}
use Rattle.std.specs.Option.{option_and_then}
use Rattle.bml_bytes.specs.Words.{is_same}
use Rattle.es_expressions.specs.Nodes.{NodeRow}
use Rattle.es_expressions.specs.declared.lexemes.Symbol.{Symbol}
use Rattle.es_expressions.specs.declared.lexemes.Symbol.TheVariants as symbol
use Rattle.es_expressions.specs.declared.nodes.Node.{Node}
use Rattle.es_expressions.specs.declared.nodes.Form.{Form}
use Rattle.es_expressions.specs.declared.nodes.Form.TheVariants as form
use Rattle.es_reader.specs.Programs.{ToldFunction, ToldProgram}

-- From a node one comes down to this one, by the child at each of these places in turn. Each
-- child stands in front of its node, as it does in every program that is read (`law_of_walks`).
abbrev pub LeadsDown : List NodeRow → ℕ → List ℕ → ℕ → Type 0
LeadsDown rows from [] number = from ≡ number
LeadsDown rows from (place ∷ places) number =
    (row : NodeRow) × (slice_get rows from ≡ Some row)
    × (child : ℕ) × (slice_get row.children place ≡ Some child) × (child < from)
    × LeadsDown rows child places number

-- the node is inside the function of this number: a statement of its body leads down to it
pub record IsInside (told : ToldProgram) (function number : ℕ) : Type 0 where
  pub declared : ToldFunction
  pub is : slice_get told.functions function ≡ Some declared
  pub place : ℕ
  pub start : ℕ
  pub begins : slice_get declared.body place ≡ Some start
  pub places : List ℕ
  pub leads : LeadsDown told.rows start places number

-- a node of the program stands in the function of this number, the first that it is inside of
pub record StandsIn (told : ToldProgram) (number function : ℕ) : Type 0 where
  pub row : NodeRow
  pub there : slice_get told.rows number ≡ Some row
  pub inside : IsInside told function number
  pub first : (other : ℕ) → other < function → IsInside told other number → ⊥

abbrev pub name_in_symbol : Option Symbol → Option (List ℕ)
name_in_symbol (Some (symbol.Name name)) = Some name
name_in_symbol _ = None

abbrev pub name_by_form : Form → Option Symbol → Option (List ℕ)
name_by_form form.Name symbol = name_in_symbol symbol
name_by_form form.Declarator symbol = name_in_symbol symbol
name_by_form _ symbol = None

-- the name of a Name or a Declarator
abbrev pub name_by : Node → Option (List ℕ)
name_by node = name_by_form node.form node.symbol

abbrev pub name_told : List NodeRow → ℕ → Option (List ℕ)
name_told rows number = option_and_then (λ row. name_by row.node) (slice_get rows number)

-- the node is a Name or a Declarator in a function, and its name has this place among that
-- function's locals
pub record IsLocalAt (told : ToldProgram) (number place : ℕ) : Type 0 where
  pub function : ℕ
  pub stands : StandsIn told number function
  pub declared : ToldFunction
  pub is : slice_get told.functions function ≡ Some declared
  pub name : List ℕ
  pub named : name_told told.rows number ≡ Some name
  pub at_place : position (is_same name) declared.locals ≡ Some place
