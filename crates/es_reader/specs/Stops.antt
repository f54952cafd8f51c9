-- A device of the proofs: parts of programs that begin with the tokens that were read, and with what stands behind them
-- none goes on.
use Rattle.std.specs.Prelude.{◌≡◌, ◌⊎◌, ℕ, ◌≤◌, true, List, [], ◌∷◌, ◌++◌, Option, length, drop}
use Rattle.es_lexer.specs.declared.words.ReservedWord.TheVariants.{Break, Continue, In, Return as ReturnWord, Var as VarWord}
use Rattle.es_lexer.specs.declared.punctuators.Punctuator.TheVariants.{Semicolon}
use Rattle.es_expressions.specs.Phrases.{Phrase, spelled as spelled_expression}
use Rattle.es_expressions.specs.Grammar.{IsExpression}
use Rattle.es_expressions.specs.Beginnings.{Begins as BeginsExpression, least}
use Rattle.es_expressions.specs.declared.expressions.Extent.TheVariants.{WithCommas}
use Rattle.es_expressions.specs.declared.lexemes.Lexeme.{Lexeme}
use Rattle.es_reader.specs.Statements.{Declaration, FurtherDeclaration, Declarations, Simple, First, Visitor, Head, spelled_end, spelled_declaration, spelled_others, spelled_declarations, spelled_simple, spelled_first, spelled_visitor, spelled_head}
use Rattle.es_reader.specs.Grammar.{IsWord, IsMark, IsEnd, GoesOn, IsDeclaration, AreFurther, AreDeclarations, DeclarationGoesOn, last_of, Setting, IsSimple, IsFirst, IsVisitor, IsHead}
use Rattle.es_reader.specs.Openings.{Front, IsFront, spelled_front, first_of}
use Rattle.es_reader.specs.ExpressionFacts.{ExpressionFacts}
use Rattle.es_reader.specs.Parts.{IsThere}

-- no more tokens, or one with which something does not go on
abbrev pub EndsBy : (Lexeme → Type 0) → List Lexeme → Type 0
EndsBy GoOn [] = Unit {0}
EndsBy GoOn (token ∷ tokens) = GoOn token → ⊥

pub record DeclarationFrom (read : List Lexeme) : Type 0 where
  pub declaration : Declaration
  pub left : List Lexeme
  pub is : IsDeclaration declaration
  pub same : spelled_declaration declaration [] ≡ read ++ left

pub record DeclarationsFrom (read : List Lexeme) : Type 0 where
  pub declarations : Declarations
  pub left : List Lexeme
  pub are : AreDeclarations declarations
  pub same : spelled_declarations declarations [] ≡ read ++ left

pub record SimpleFrom (p : Setting) (read : List Lexeme) : Type 0 where
  pub simple : Simple
  pub left : List Lexeme
  pub is : (rest : List Lexeme) → IsSimple p simple rest
  pub same : spelled_simple simple [] ≡ read ++ left

pub record HeadFrom (read : List Lexeme) : Type 0 where
  pub head : Head
  pub left : List Lexeme
  pub is : IsHead head
  pub same : spelled_head head [] ≡ read ++ left

pub record FrontFrom (word : Lexeme) (read : List Lexeme) : Type 0 where
  pub front : Front
  pub left : List Lexeme
  pub is : IsFront front
  pub begins : front.word ≡ word
  pub same : spelled_front front [] ≡ read ++ left

pub record ValueStops (x others : List Lexeme) : Type 0 where
  pub goes_on : BeginsExpression (least WithCommas) x
  pub never : (e : Phrase) (semicolon : Option Lexeme) (rest behind : List Lexeme) → IsExpression e
      → IsEnd (GoesOn WithCommas e) semicolon rest → first_of behind ≡ first_of others
      → spelled_expression e (spelled_end semicolon rest) ≡ x ++ behind → ⊥

pub record DeclarationStops (x others : List Lexeme) : Type 0 where
  pub goes_on : DeclarationFrom x
  pub never : (d : Declaration) (more : List FurtherDeclaration) (R behind : List Lexeme) → IsDeclaration d → AreFurther more
      → EndsBy (DeclarationGoesOn (last_of d more)) R → first_of behind ≡ first_of others
      → spelled_declaration d (spelled_others more R) ≡ x ++ behind → ⊥

pub record DeclarationsStop (x others : List Lexeme) : Type 0 where
  pub goes_on : DeclarationsFrom x
  pub never : (ds : Declarations) (R behind : List Lexeme) → AreDeclarations ds
      → EndsBy (DeclarationGoesOn (last_of ds.first ds.others)) R → first_of behind ≡ first_of others
      → spelled_declarations ds R ≡ x ++ behind → ⊥

-- a statement begins with the tokens that were read, and none goes on with what stands behind them
pub record SimpleStops (p : Setting) (x others : List Lexeme) : Type 0 where
  pub goes_on : SimpleFrom p x
  pub never : (s : Simple) (rest behind : List Lexeme) → IsSimple p s rest → first_of behind ≡ first_of others
      → spelled_simple s rest ≡ x ++ behind → ⊥

-- a head begins with the tokens that were read, and none goes on with what stands behind them
pub record HeadStops (x others : List Lexeme) : Type 0 where
  pub goes_on : HeadFrom x
  pub never : (h : Head) (rest behind : List Lexeme) → IsHead h → first_of behind ≡ first_of others
      → spelled_head h rest ≡ x ++ behind → ⊥

-- the front of a function begins with the tokens that were read, and none goes on with what stands behind them
pub record FrontStops (word : Lexeme) (x others : List Lexeme) : Type 0 where
  pub goes_on : FrontFrom word x
  pub never : (f : Front) (rest behind : List Lexeme) → IsFront f → first_of behind ≡ first_of others
      → spelled_front f rest ≡ x ++ behind → ⊥

pub record FirstFrom (read : List Lexeme) : Type 0 where
  pub first : First
  pub left : List Lexeme
  pub is : IsFirst first
  pub same : spelled_first first [] ≡ read ++ left

pub record FirstStops (x others : List Lexeme) : Type 0 where
  pub goes_on : FirstFrom x
  pub never_first : (f : First) (t : Lexeme) (R behind : List Lexeme) → IsFirst f → IsMark Semicolon t
      → first_of behind ≡ first_of others → spelled_first f (t ∷ R) ≡ x ++ behind → ⊥
  pub never_visitor : (v : Visitor) (t : Lexeme) (R behind : List Lexeme) → IsVisitor v → IsWord In t
      → first_of behind ≡ first_of others → spelled_visitor v (t ∷ R) ≡ x ++ behind → ⊥

-- some tokens are read up to the place, and with what stands there they go on no more
pub record StopsAt (Stops : List Lexeme → List Lexeme → Type 0) (tokens : List Lexeme) (start place : ℕ) : Type 0 where
  pub within : place ≤ length tokens
  pub read : List Lexeme
  pub parts : read ++ drop place tokens ≡ drop start tokens
  pub stops : ExpressionFacts → Stops read (drop place tokens)

-- the same, where a word of this kind is the first of them
pub record BehindWord (Is : Lexeme → Type 0) (Stops : Lexeme → List Lexeme → List Lexeme → Type 0) (tokens : List Lexeme)
    (start place : ℕ) : Type 0 where
  pub within : place ≤ length tokens
  pub word : Lexeme
  pub is : Is word
  pub more : List Lexeme
  pub parts : word ∷ (more ++ drop place tokens) ≡ drop start tokens
  pub stops : ExpressionFacts → Stops word (word ∷ more) (drop place tokens)

-- the words that begin a statement that holds no other
abbrev pub IsSimpleWord : Lexeme → Type 0
IsSimpleWord token = (IsWord VarWord token ⊎ IsWord ReturnWord token) ⊎ (IsWord Break token ⊎ IsWord Continue token)

-- a token that begins such a statement as an expression does, if at all
pub record IsOther (setting : Setting) (token : Lexeme) : Type 0 where
  pub no_var : IsWord VarWord token → ⊥
  pub no_semicolon : IsMark Semicolon token → ⊥
  pub no_jump : setting.in_loop ≡ true → IsWord Break token ⊎ IsWord Continue token → ⊥
  pub no_return : setting.in_function ≡ true → IsWord ReturnWord token → ⊥

abbrev pub SimpleBad : Setting → List Lexeme → ℕ → ℕ → Type 0
SimpleBad setting tokens start place =
    BehindWord IsSimpleWord (λ word. SimpleStops setting) tokens start place
    ⊎ (StopsAt ValueStops tokens start place × IsThere (IsOther setting) tokens start)
