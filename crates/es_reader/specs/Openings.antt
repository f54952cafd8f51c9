-- A device of the proofs: a program that is read up to a place, and what may still come there.
use Rattle.std.specs.Prelude.{◌≡◌, ◌⊎◌, true, false, List, [], ◌∷◌, ◌++◌, Option, Some, None}
use Rattle.es_lexer.specs.declared.words.ReservedWord.TheVariants.{Else, Function as FunctionWord}
use Rattle.es_lexer.specs.declared.punctuators.Punctuator.TheVariants.{OpenBrace, CloseBrace, OpenParenthesis, CloseParenthesis}
use Rattle.es_expressions.specs.declared.lexemes.Lexeme.{Lexeme}
use Rattle.es_reader.specs.Statements.{Head, Statement, Statements, Parameters, Item, spelled, spelled_all, spelled_head, spelled_parameters, spelled_items}
use Rattle.es_reader.specs.Grammar.{Setting, setting, behind_head, is_if, IsWord, IsMark, IsName, IsHead, IsStatement, AreStatements, AreItems, AreParameters, NoElse, parameter_names}
use Rattle.std.specs.List.{IsDistinct}
use Rattle.bml_bytes.specs.Words.{is_same}

-- a form whose statement is still to come or, of a block, whose next one is
pub data Opening : Type 0 where
  InBlock : (open_mark : Lexeme) → (done : Statements) → Opening
  InHead : (head : Head) → Opening
  InElse : (head : Head) → (body : Statement) → (else_word : Lexeme) → Opening

-- the front of a function, up to its `{`
pub record Front : Type 0 where
  pub word : Lexeme
  pub name : Lexeme
  pub open_mark : Lexeme
  pub parameters : Parameters
  pub close_mark : Lexeme
  pub open_brace : Lexeme

pub record IsFront (front : Front) : Type 0 where
  pub word : IsWord FunctionWord front.word
  pub name : IsName front.name
  pub open_mark : IsMark OpenParenthesis front.open_mark
  pub parameters : AreParameters front.parameters
  pub differ : IsDistinct is_same (parameter_names front.parameters)
  pub close_mark : IsMark CloseParenthesis front.close_mark
  pub open_brace : IsMark OpenBrace front.open_brace

abbrev pub spelled_front : Front → List Lexeme → List Lexeme
spelled_front front rest =
    front.word ∷ (front.name ∷ (front.open_mark ∷ spelled_parameters front.parameters
    (front.close_mark ∷ (front.open_brace ∷ rest))))

-- what stands round all forms: the program, or a function in it
pub data Outer : Type 0 where
  InProgram : (done : List Item) → Outer
  InFunction : (done : List Item) → (front : Front) → (body : Statements) → Outer

abbrev pub outer_setting : Outer → Setting
outer_setting (InProgram done) = setting false false
outer_setting (InFunction done front body) = setting false true

-- where the next statement stands, with the innermost form first
abbrev pub place_in : List Opening → Outer → Setting
place_in [] outer = outer_setting outer
place_in (InBlock open_mark done ∷ openings) outer = place_in openings outer
place_in (InHead head ∷ openings) outer = behind_head head (place_in openings outer)
place_in (InElse head body else_word ∷ openings) outer = place_in openings outer

-- all tokens of what is read, in front of others
abbrev pub written : List Opening → Outer → List Lexeme → List Lexeme
written [] (InProgram done) rest = spelled_items done rest
written [] (InFunction done front body) rest = spelled_items done (spelled_front front (spelled_all body rest))
written (InBlock open_mark done ∷ openings) outer rest = written openings outer (open_mark ∷ spelled_all done rest)
written (InHead head ∷ openings) outer rest = written openings outer (spelled_head head rest)
written (InElse head body else_word ∷ openings) outer rest =
    written openings outer (spelled_head head (spelled body (else_word ∷ rest)))

-- what is read is as the grammar has it, in front of these tokens
abbrev pub AreRead : List Opening → Outer → List Lexeme → Type 0
AreRead [] (InProgram done) rest = AreItems done rest
AreRead [] (InFunction done front body) rest =
    AreItems done (spelled_front front (spelled_all body rest)) × IsFront front
    × AreStatements (setting false true) body rest
AreRead (InBlock open_mark done ∷ openings) outer rest =
    IsMark OpenBrace open_mark × AreStatements (place_in openings outer) done rest
    × AreRead openings outer (open_mark ∷ spelled_all done rest)
AreRead (InHead head ∷ openings) outer rest = IsHead head × AreRead openings outer (spelled_head head rest)
AreRead (InElse head body else_word ∷ openings) outer rest =
    IsHead head × (is_if head ≡ true) × IsStatement (place_in openings outer) body (else_word ∷ rest)
    × IsWord Else else_word
    × AreRead openings outer (spelled_head head (spelled body (else_word ∷ rest)))

-- what may come behind a statement that is whole
abbrev pub MayFollow : List Opening → Outer → List Lexeme → Type 0
MayFollow [] (InProgram done) coming =
    (items : List Item) × AreItems items [] × (spelled_items items [] ≡ coming)
MayFollow [] (InFunction done front body) coming =
    (inner : Statements) × (close_brace : Lexeme) × (items : List Item)
    × AreStatements (setting false true) inner (close_brace ∷ spelled_items items [])
    × IsMark CloseBrace close_brace × AreItems items []
    × (spelled_all inner (close_brace ∷ spelled_items items []) ≡ coming)
MayFollow (InBlock open_mark done ∷ openings) outer coming =
    (inner : Statements) × (close_mark : Lexeme) × (rest : List Lexeme)
    × AreStatements (place_in openings outer) inner (close_mark ∷ rest) × IsMark CloseBrace close_mark
    × (spelled_all inner (close_mark ∷ rest) ≡ coming) × MayFollow openings outer rest
MayFollow (InHead head ∷ openings) outer coming =
    (NoElse head coming × MayFollow openings outer coming)
    ⊎ ((is_if head ≡ true)
    × ((else_word : Lexeme) × (other : Statement) × (rest : List Lexeme)
    × (coming ≡ else_word ∷ spelled other rest) × IsWord Else else_word
    × IsStatement (place_in openings outer) other rest × MayFollow openings outer rest))
MayFollow (InElse head body else_word ∷ openings) outer coming = MayFollow openings outer coming

-- what may come where a statement is to come or, in a block, a function or the program, may come
abbrev pub MayCome : List Opening → Outer → List Lexeme → Type 0
MayCome (InHead head ∷ openings) outer coming =
    (body : Statement) × (rest : List Lexeme)
    × IsStatement (behind_head head (place_in openings outer)) body rest × (spelled body rest ≡ coming)
    × MayFollow (InHead head ∷ openings) outer rest
MayCome (InElse head body else_word ∷ openings) outer coming =
    (other : Statement) × (rest : List Lexeme)
    × IsStatement (place_in openings outer) other rest × (spelled other rest ≡ coming)
    × MayFollow openings outer rest
MayCome openings outer coming = MayFollow openings outer coming

abbrev pub first_of : List Lexeme → Option Lexeme
first_of [] = None
first_of (token ∷ tokens) = Some token

-- each program with these tokens in front of some that begin like the others goes on as the forms have it
abbrev pub Leads : (List Lexeme → Type 0) → List Lexeme → List Lexeme → Type 0
Leads GoesSo read others =
    (items : List Item) (coming : List Lexeme) → AreItems items [] → spelled_items items [] ≡ read ++ coming
    → first_of coming ≡ first_of others → GoesSo coming
