-- The tokens of a phrase in front of others are its tokens and then the others.
use Rattle.std.proofs.Common.{◌≡◌, List, [], ◌∷◌, ◌++◌, Option, Some, None, refl, ◌∙◌, ap}
use Rattle.es_expressions.specs.Phrases.{Phrase, spelled as spelled_expression}
use Rattle.es_expressions.specs.Phrases.Phrase.{Leaf, Group, Index, Member, CallEmpty, CallWith, NewPlain, NewEmpty, NewWith, Postfix, Signed, Stepped, Binary, Choice, Assign, Comma}
use Rattle.es_expressions.specs.declared.lexemes.Lexeme.{Lexeme}
use Rattle.es_reader.specs.Statements.{Declaration, FurtherDeclaration, Declarations, Simple, First, Visitor, Head, Statement, Statements, FurtherName, Parameters, Declared, Item, spelled_end, spelled_part, spelled_declaration, spelled_others, spelled_declarations, spelled_simple, spelled_first, spelled_visitor, spelled_head, spelled, spelled_all, spelled_names, spelled_parameters, spelled_function, spelled_items}
use Rattle.es_reader.specs.Statements.Declaration.{Bare, Valued}
use Rattle.es_reader.specs.Statements.Simple.{Var, Empty, Expression, Jump, Return}
use Rattle.es_reader.specs.Statements.First.{NoFirst, FirstExpression, FirstVar}
use Rattle.es_reader.specs.Statements.Visitor.{Target, Variable}
use Rattle.es_reader.specs.Statements.Head.{If, While, For, ForIn}
use Rattle.es_reader.specs.Statements.Statement.{Alone, Block, Headed, IfElse}
use Rattle.es_reader.specs.Statements.Statements.{NoStatements, OneMore}
use Rattle.es_reader.specs.Statements.Parameters.{NoParameters, SomeParameters}
use Rattle.es_reader.specs.Statements.Item.{Function, Single}
use Rattle.es_reader.specs.Openings.{Opening, Front, Outer, spelled_front, written}
use Rattle.es_reader.specs.Openings.Opening.{InBlock, InHead, InElse}
use Rattle.es_reader.specs.Openings.Outer.{InProgram, InFunction}

-- with some of the others behind the tokens first

pub expression-onward : (e : Phrase) (a b : List Lexeme) → spelled_expression e (a ++ b) ≡ spelled_expression e a ++ b
expression-onward (Leaf t) a b = refl
expression-onward (Group o e c) a b = ap (λ x. o ∷ x) (expression-onward e (c ∷ a) b)
expression-onward (Index f o e c) a b = ap (λ x. spelled_expression f (o ∷ x)) (expression-onward e (c ∷ a) b) ∙ expression-onward f (o ∷ spelled_expression e (c ∷ a)) b
expression-onward (Member f d x) a b = expression-onward f (d ∷ (x ∷ a)) b
expression-onward (CallEmpty f o c) a b = expression-onward f (o ∷ (c ∷ a)) b
expression-onward (CallWith f o e c) a b = ap (λ x. spelled_expression f (o ∷ x)) (expression-onward e (c ∷ a) b) ∙ expression-onward f (o ∷ spelled_expression e (c ∷ a)) b
expression-onward (NewPlain n f) a b = ap (λ x. n ∷ x) (expression-onward f a b)
expression-onward (NewEmpty n f o c) a b = ap (λ x. n ∷ x) (expression-onward f (o ∷ (c ∷ a)) b)
expression-onward (NewWith n f o e c) a b = ap (λ x. n ∷ spelled_expression f (o ∷ x)) (expression-onward e (c ∷ a) b) ∙ ap (λ x. n ∷ x) (expression-onward f (o ∷ spelled_expression e (c ∷ a)) b)
expression-onward (Postfix e k) a b = expression-onward e (k ∷ a) b
expression-onward (Signed k e) a b = ap (λ x. k ∷ x) (expression-onward e a b)
expression-onward (Stepped k e) a b = ap (λ x. k ∷ x) (expression-onward e a b)
expression-onward (Binary f k e) a b = ap (λ x. spelled_expression f (k ∷ x)) (expression-onward e a b) ∙ expression-onward f (k ∷ spelled_expression e a) b
expression-onward (Choice f q e c d) a b =
    ap (λ x. spelled_expression f (q ∷ spelled_expression e (c ∷ x))) (expression-onward d a b)
    ∙ (ap (λ x. spelled_expression f (q ∷ x)) (expression-onward e (c ∷ spelled_expression d a) b)
    ∙ expression-onward f (q ∷ spelled_expression e (c ∷ spelled_expression d a)) b)
expression-onward (Assign f k e) a b = ap (λ x. spelled_expression f (k ∷ x)) (expression-onward e a b) ∙ expression-onward f (k ∷ spelled_expression e a) b
expression-onward (Comma f k e) a b = ap (λ x. spelled_expression f (k ∷ x)) (expression-onward e a b) ∙ expression-onward f (k ∷ spelled_expression e a) b

pub end-onward : (s : Option Lexeme) (a b : List Lexeme) → spelled_end s (a ++ b) ≡ spelled_end s a ++ b
end-onward None a b = refl
end-onward (Some s) a b = refl

pub part-onward : (e : Option Phrase) (a b : List Lexeme) → spelled_part e (a ++ b) ≡ spelled_part e a ++ b
part-onward None a b = refl
part-onward (Some e) a b = expression-onward e a b

pub declaration-onward : (d : Declaration) (a b : List Lexeme) → spelled_declaration d (a ++ b) ≡ spelled_declaration d a ++ b
declaration-onward (Bare name) a b = refl
declaration-onward (Valued name operator value) a b = ap (λ x. name ∷ (operator ∷ x)) (expression-onward value a b)

pub others-onward : (ds : List FurtherDeclaration) (a b : List Lexeme) → spelled_others ds (a ++ b) ≡ spelled_others ds a ++ b
others-onward [] a b = refl
others-onward (d ∷ ds) a b =
    ap (λ x. d.comma ∷ spelled_declaration d.declaration x) (others-onward ds a b)
    ∙ ap (λ x. d.comma ∷ x) (declaration-onward d.declaration (spelled_others ds a) b)

pub declarations-onward : (d : Declarations) (a b : List Lexeme) → spelled_declarations d (a ++ b) ≡ spelled_declarations d a ++ b
declarations-onward d a b =
    ap (λ x. spelled_declaration d.first x) (others-onward d.others a b)
    ∙ declaration-onward d.first (spelled_others d.others a) b

pub simple-onward : (s : Simple) (a b : List Lexeme) → spelled_simple s (a ++ b) ≡ spelled_simple s a ++ b
simple-onward (Var word declarations semicolon) a b =
    ap (λ x. word ∷ spelled_declarations declarations x) (end-onward semicolon a b)
    ∙ ap (λ x. word ∷ x) (declarations-onward declarations (spelled_end semicolon a) b)
simple-onward (Empty semicolon) a b = refl
simple-onward (Expression expression semicolon) a b =
    ap (λ x. spelled_expression expression x) (end-onward semicolon a b)
    ∙ expression-onward expression (spelled_end semicolon a) b
simple-onward (Jump word semicolon) a b = ap (λ x. word ∷ x) (end-onward semicolon a b)
simple-onward (Return word value semicolon) a b =
    ap (λ x. word ∷ spelled_part value x) (end-onward semicolon a b)
    ∙ ap (λ x. word ∷ x) (part-onward value (spelled_end semicolon a) b)

pub first-onward : (f : First) (a b : List Lexeme) → spelled_first f (a ++ b) ≡ spelled_first f a ++ b
first-onward NoFirst a b = refl
first-onward (FirstExpression expression) a b = expression-onward expression a b
first-onward (FirstVar word declarations) a b = ap (λ x. word ∷ x) (declarations-onward declarations a b)

pub visitor-onward : (v : Visitor) (a b : List Lexeme) → spelled_visitor v (a ++ b) ≡ spelled_visitor v a ++ b
visitor-onward (Target target) a b = expression-onward target a b
visitor-onward (Variable word name) a b = refl

pub head-onward : (h : Head) (a b : List Lexeme) → spelled_head h (a ++ b) ≡ spelled_head h a ++ b
head-onward (If word open_mark test close_mark) a b =
    ap (λ x. word ∷ (open_mark ∷ x)) (expression-onward test (close_mark ∷ a) b)
head-onward (While word open_mark test close_mark) a b =
    ap (λ x. word ∷ (open_mark ∷ x)) (expression-onward test (close_mark ∷ a) b)
head-onward (For word open_mark first semicolon test second_semicolon step close_mark) a b =
    ap (λ x. word ∷ (open_mark ∷ spelled_first first (semicolon ∷ spelled_part test (second_semicolon ∷ x))))
    (part-onward step (close_mark ∷ a) b)
    ∙ (ap (λ x. word ∷ (open_mark ∷ spelled_first first (semicolon ∷ x)))
    (part-onward test (second_semicolon ∷ spelled_part step (close_mark ∷ a)) b)
    ∙ ap (λ x. word ∷ (open_mark ∷ x))
    (first-onward first (semicolon ∷ spelled_part test (second_semicolon ∷ spelled_part step (close_mark ∷ a))) b))
head-onward (ForIn word open_mark visitor in_word object close_mark) a b =
    ap (λ x. word ∷ (open_mark ∷ spelled_visitor visitor (in_word ∷ x))) (expression-onward object (close_mark ∷ a) b)
    ∙ ap (λ x. word ∷ (open_mark ∷ x)) (visitor-onward visitor (in_word ∷ spelled_expression object (close_mark ∷ a)) b)

mutual
  pub statement-onward : (s : Statement) (a b : List Lexeme) → spelled s (a ++ b) ≡ spelled s a ++ b
  statement-onward (Alone simple) a b = simple-onward simple a b
  statement-onward (Block open_mark inner close_mark) a b =
      ap (λ x. open_mark ∷ x) (statements-onward inner (close_mark ∷ a) b)
  statement-onward (Headed head body) a b =
      ap (λ x. spelled_head head x) (statement-onward body a b) ∙ head-onward head (spelled body a) b
  statement-onward (IfElse head body else_word other) a b =
      ap (λ x. spelled_head head (spelled body (else_word ∷ x))) (statement-onward other a b)
      ∙ (ap (λ x. spelled_head head x) (statement-onward body (else_word ∷ spelled other a) b)
      ∙ head-onward head (spelled body (else_word ∷ spelled other a)) b)

  pub statements-onward : (ss : Statements) (a b : List Lexeme) → spelled_all ss (a ++ b) ≡ spelled_all ss a ++ b
  statements-onward NoStatements a b = refl
  statements-onward (OneMore first others) a b =
      ap (λ x. spelled first x) (statements-onward others a b) ∙ statement-onward first (spelled_all others a) b

pub names-onward : (ns : List FurtherName) (a b : List Lexeme) → spelled_names ns (a ++ b) ≡ spelled_names ns a ++ b
names-onward [] a b = refl
names-onward (n ∷ ns) a b = ap (λ x. n.comma ∷ (n.name ∷ x)) (names-onward ns a b)

pub parameters-onward : (ps : Parameters) (a b : List Lexeme) → spelled_parameters ps (a ++ b) ≡ spelled_parameters ps a ++ b
parameters-onward NoParameters a b = refl
parameters-onward (SomeParameters first others) a b = ap (λ x. first ∷ x) (names-onward others a b)

pub front-onward : (f : Front) (a b : List Lexeme) → spelled_front f (a ++ b) ≡ spelled_front f a ++ b
front-onward f a b =
    ap (λ x. f.word ∷ (f.name ∷ (f.open_mark ∷ x)))
    (parameters-onward f.parameters (f.close_mark ∷ (f.open_brace ∷ a)) b)

pub function-onward : (d : Declared) (a b : List Lexeme) → spelled_function d (a ++ b) ≡ spelled_function d a ++ b
function-onward d a b =
    ap (λ x. d.word ∷ (d.name ∷ (d.open_mark ∷ spelled_parameters d.parameters (d.close_mark ∷ (d.open_brace ∷ x)))))
    (statements-onward d.body (d.close_brace ∷ a) b)
    ∙ ap (λ x. d.word ∷ (d.name ∷ (d.open_mark ∷ x)))
    (parameters-onward d.parameters (d.close_mark ∷ (d.open_brace ∷ spelled_all d.body (d.close_brace ∷ a))) b)

pub items-onward : (is : List Item) (a b : List Lexeme) → spelled_items is (a ++ b) ≡ spelled_items is a ++ b
items-onward [] a b = refl
items-onward (Function d ∷ is) a b =
    ap (λ x. spelled_function d x) (items-onward is a b) ∙ function-onward d (spelled_items is a) b
items-onward (Single s ∷ is) a b =
    ap (λ x. spelled s x) (items-onward is a b) ∙ statement-onward s (spelled_items is a) b

pub written-onward : (os : List Opening) (outer : Outer) (a b : List Lexeme) → written os outer (a ++ b) ≡ written os outer a ++ b
written-onward [] (InProgram done) a b = items-onward done a b
written-onward [] (InFunction done front body) a b =
    ap (λ x. spelled_items done (spelled_front front x)) (statements-onward body a b)
    ∙ (ap (λ x. spelled_items done x) (front-onward front (spelled_all body a) b)
    ∙ items-onward done (spelled_front front (spelled_all body a)) b)
written-onward (InBlock open_mark done ∷ os) outer a b =
    ap (λ x. written os outer (open_mark ∷ x)) (statements-onward done a b)
    ∙ written-onward os outer (open_mark ∷ spelled_all done a) b
written-onward (InHead head ∷ os) outer a b =
    ap (λ x. written os outer x) (head-onward head a b) ∙ written-onward os outer (spelled_head head a) b
written-onward (InElse head body else_word ∷ os) outer a b =
    ap (λ x. written os outer (spelled_head head x)) (statement-onward body (else_word ∷ a) b)
    ∙ (ap (λ x. written os outer x) (head-onward head (spelled body (else_word ∷ a)) b)
    ∙ written-onward os outer (spelled_head head (spelled body (else_word ∷ a))) b)

-- behind nothing first

pub expression-spelled : (e : Phrase) (rest : List Lexeme) → spelled_expression e rest ≡ spelled_expression e [] ++ rest
expression-spelled e rest = expression-onward e [] rest

pub end-spelled : (s : Option Lexeme) (rest : List Lexeme) → spelled_end s rest ≡ spelled_end s [] ++ rest
end-spelled s rest = end-onward s [] rest

pub part-spelled : (e : Option Phrase) (rest : List Lexeme) → spelled_part e rest ≡ spelled_part e [] ++ rest
part-spelled e rest = part-onward e [] rest

pub declaration-spelled : (d : Declaration) (rest : List Lexeme) → spelled_declaration d rest ≡ spelled_declaration d [] ++ rest
declaration-spelled d rest = declaration-onward d [] rest

pub others-spelled : (ds : List FurtherDeclaration) (rest : List Lexeme) → spelled_others ds rest ≡ spelled_others ds [] ++ rest
others-spelled ds rest = others-onward ds [] rest

pub declarations-spelled : (d : Declarations) (rest : List Lexeme) → spelled_declarations d rest ≡ spelled_declarations d [] ++ rest
declarations-spelled d rest = declarations-onward d [] rest

pub simple-spelled : (s : Simple) (rest : List Lexeme) → spelled_simple s rest ≡ spelled_simple s [] ++ rest
simple-spelled s rest = simple-onward s [] rest

pub first-spelled : (f : First) (rest : List Lexeme) → spelled_first f rest ≡ spelled_first f [] ++ rest
first-spelled f rest = first-onward f [] rest

pub visitor-spelled : (v : Visitor) (rest : List Lexeme) → spelled_visitor v rest ≡ spelled_visitor v [] ++ rest
visitor-spelled v rest = visitor-onward v [] rest

pub head-spelled : (h : Head) (rest : List Lexeme) → spelled_head h rest ≡ spelled_head h [] ++ rest
head-spelled h rest = head-onward h [] rest

pub statement-spelled : (s : Statement) (rest : List Lexeme) → spelled s rest ≡ spelled s [] ++ rest
statement-spelled s rest = statement-onward s [] rest

pub statements-spelled : (ss : Statements) (rest : List Lexeme) → spelled_all ss rest ≡ spelled_all ss [] ++ rest
statements-spelled ss rest = statements-onward ss [] rest

pub names-spelled : (ns : List FurtherName) (rest : List Lexeme) → spelled_names ns rest ≡ spelled_names ns [] ++ rest
names-spelled ns rest = names-onward ns [] rest

pub parameters-spelled : (ps : Parameters) (rest : List Lexeme) → spelled_parameters ps rest ≡ spelled_parameters ps [] ++ rest
parameters-spelled ps rest = parameters-onward ps [] rest

pub front-spelled : (f : Front) (rest : List Lexeme) → spelled_front f rest ≡ spelled_front f [] ++ rest
front-spelled f rest = front-onward f [] rest

pub function-spelled : (d : Declared) (rest : List Lexeme) → spelled_function d rest ≡ spelled_function d [] ++ rest
function-spelled d rest = function-onward d [] rest

pub items-spelled : (is : List Item) (rest : List Lexeme) → spelled_items is rest ≡ spelled_items is [] ++ rest
items-spelled is rest = items-onward is [] rest

pub written-spelled : (os : List Opening) (outer : Outer) (rest : List Lexeme) → written os outer rest ≡ written os outer [] ++ rest
written-spelled os outer rest = written-onward os outer [] rest
