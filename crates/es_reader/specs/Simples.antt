-- A device of the proofs: declarations, simple statements and heads that stand among tokens, and what is kept of them.
use Rattle.std.specs.Prelude.{◌≡◌, ℕ, ◌≤◌, ◌<◌, Bool, true, false, not, List, [], ◌∷◌, Some, length, drop, slice_get, min}
use Rattle.es_lexer.specs.declared.punctuators.Punctuator.TheVariants.{Comma}
use Rattle.es_expressions.specs.Nodes.{NodeRow, IsTreeAt}
use Rattle.es_expressions.specs.declared.lexemes.Lexeme.{Lexeme}
use Rattle.es_reader.specs.Statements.{Declaration, FurtherDeclaration, Declarations, Simple, spelled_declaration, spelled_declarations, spelled_simple}
use Rattle.es_reader.specs.Statements.Declaration.{Bare, Valued}
use Rattle.es_reader.specs.Grammar.{IsMark, IsDeclaration, AreDeclarations, DeclarationGoesOn, last_of, Setting, IsSimple}
use Rattle.es_reader.specs.Meaning.{declaration_end, declaration_tree, declaration_trees, declarations_end, simple_tree, simple_end}
use Rattle.es_reader.specs.Levels.{declaration_levels, var_levels, simple_levels}
use Rattle.es_reader.specs.Programs.{declared_name, declared_names, simple_names, AreTreesOf}
use Rattle.es_reader.specs.Told.{with_name, with_names}
use Rattle.es_reader.specs.declared.simples.Stated.{Stated}
use Rattle.es_reader.specs.declared.declarations.Declared.{Declared}
use Rattle.es_reader.specs.declared.declarations.DeclaredNames.{DeclaredNames}

abbrev pub is_bare : Declaration → Bool
is_bare (Bare name) = true
is_bare (Valued name operator value) = false

-- one name without a value
abbrev pub is_only_bare : Declaration → List FurtherDeclaration → Bool
is_only_bare first [] = is_bare first
is_only_bare first (other ∷ others) = false

abbrev pub are_bare : Declarations → Bool
are_bare declarations = is_only_bare declarations.first declarations.others

-- the tokens don't go on with the declaration, but for a comma
abbrev pub DeclarationStops : List Lexeme → ℕ → Declaration → Type 0
DeclarationStops tokens place d =
    (t : Lexeme) → slice_get tokens place ≡ Some t → (IsMark Comma t → ⊥) → DeclarationGoesOn d t → ⊥

pub record IsDeclaredAt (tokens : List Lexeme) (place : ℕ) (rows : List NodeRow) (d : Declaration)
    (before after : List (List ℕ)) (declared : Declared) : Type 0 where
  pub from : place < declared.behind
  pub within : declared.behind ≤ length tokens
  pub is : IsDeclaration d
  pub is_spelled : spelled_declaration d (drop declared.behind tokens) ≡ drop place tokens
  pub no_more : DeclarationStops tokens declared.behind d
  pub tree : IsTreeAt (declaration_tree d) rows declared.node
  pub height : declared.height ≡ min 65 (declaration_levels d)
  pub has_value : declared.has_value ≡ not (is_bare d)
  pub stops : declared.«end» ≡ declaration_end d
  pub names : after ≡ with_name before (declared_name d)

pub record AreDeclaredAt (tokens : List Lexeme) (place : ℕ) (rows : List NodeRow) (d : Declarations)
    (before after : List (List ℕ)) (declared : DeclaredNames) : Type 0 where
  pub from : place < declared.behind
  pub within : declared.behind ≤ length tokens
  pub are : AreDeclarations d
  pub is_spelled : spelled_declarations d (drop declared.behind tokens) ≡ drop place tokens
  pub no_more : DeclarationStops tokens declared.behind (last_of d.first d.others)
  pub trees : AreTreesOf (declaration_trees d) rows declared.nodes.items
  pub height : declared.height ≡ min 65 (var_levels d)
  pub bare : declared.is_bare ≡ are_bare d
  pub stops : declared.«end» ≡ declarations_end d
  pub names : after ≡ with_names before (declared_names d)

-- a statement that holds no other stands there, and this is kept of it
pub record IsSimpleAt (setting : Setting) (tokens : List Lexeme) (place : ℕ) (rows : List NodeRow) (x : Simple)
    (before after : List (List ℕ)) (stated : Stated) : Type 0 where
  pub from : place < stated.behind
  pub within : stated.behind ≤ length tokens
  pub is : IsSimple setting x (drop stated.behind tokens)
  pub is_spelled : spelled_simple x (drop stated.behind tokens) ≡ drop place tokens
  pub tree : IsTreeAt (simple_tree x) rows stated.node
  pub height : stated.height ≡ min 65 (simple_levels x)
  pub stops : stated.«end» ≡ simple_end x
  pub names : after ≡ with_names before (simple_names x)
