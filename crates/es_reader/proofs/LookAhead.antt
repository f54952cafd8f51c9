-- What is read stays as the grammar has it in front of other tokens that begin alike, and of those that end or
-- begin with a `}`.
use Rattle.std.proofs.Common.{◌≡◌, true, false, ◌⊎◌, inl, inr, List, [], ◌∷◌, Option, Some, None, refl, subst}
use Rattle.std.proofs.lemmas.Option.{same_Some}
use Rattle.es_lexer.specs.declared.words.ReservedWord.TheVariants.{Else}
use Rattle.es_lexer.specs.declared.punctuators.Punctuator.TheVariants.{CloseBrace}
use Rattle.es_expressions.specs.Phrases.{Phrase, spelled as spelled_expression}
use Rattle.es_expressions.specs.Phrases.Phrase.{Leaf, Group, Index, Member, CallEmpty, CallWith, NewPlain, NewEmpty, NewWith, Postfix, Signed, Stepped, Binary, Choice, Assign, Comma as CommaPhrase}
use Rattle.es_expressions.specs.declared.expressions.Extent.TheVariants.{WithCommas, WithoutCommas}
use Rattle.es_expressions.specs.declared.lexemes.Lexeme.{Lexeme}
use Rattle.es_reader.specs.Statements.{Declaration, FurtherDeclaration, Simple, Head, Statement, Statements, Declared, Item, spelled_simple, spelled_head, spelled, spelled_all, spelled_items, spelled_end}
use Rattle.es_reader.specs.Statements.Declaration.{Bare, Valued}
use Rattle.es_reader.specs.Statements.Simple.{Var, Empty, Expression, Jump, Return}
use Rattle.es_reader.specs.Statements.Head.{If, While, For, ForIn}
use Rattle.es_reader.specs.Statements.Statement.{Alone, Block, Headed, IfElse}
use Rattle.es_reader.specs.Statements.Statements.{NoStatements, OneMore}
use Rattle.es_reader.specs.Statements.Item.{Function, Single}
use Rattle.es_reader.specs.Grammar.{IsWord, IsMark, GoesOn, EndsIn, IsEnd, IsReturnEnd, IsDeclaration, AreFurther, last_of, DeclarationGoesOn, Setting, setting, IsSimple, behind_head, NoElse, IsStatement, AreStatements, IsFunction, AreItems}
use Rattle.es_reader.specs.Openings.{Opening, Outer, place_in, spelled_front, AreRead, first_of}
use Rattle.es_reader.specs.Openings.Opening.{InBlock, InHead, InElse}
use Rattle.es_reader.specs.Openings.Outer.{InProgram, InFunction}
use Rattle.es_reader.proofs.ExpressionFacts.{ExpressionFacts}
use Rattle.es_reader.proofs.Tokens.{stops, brace-stops}

-- no more tokens, or a `}`
abbrev pub Closes : List Lexeme → Type 0
Closes [] = Unit {0}
Closes (token ∷ tokens) = IsMark CloseBrace token

abbrev pub Ahead : List Lexeme → List Lexeme → Type 0
Ahead rest other = (first_of rest ≡ first_of other) ⊎ Closes other

-- what begins does not depend on what stands behind

pub expression-front : (e : Phrase) (a b : List Lexeme) → first_of (spelled_expression e a) ≡ first_of (spelled_expression e b)
expression-front (Leaf t) a b = refl
expression-front (Group o e c) a b = refl
expression-front (Index f o e c) a b = expression-front f (o ∷ spelled_expression e (c ∷ a)) (o ∷ spelled_expression e (c ∷ b))
expression-front (Member f d x) a b = expression-front f (d ∷ (x ∷ a)) (d ∷ (x ∷ b))
expression-front (CallEmpty f o c) a b = expression-front f (o ∷ (c ∷ a)) (o ∷ (c ∷ b))
expression-front (CallWith f o e c) a b = expression-front f (o ∷ spelled_expression e (c ∷ a)) (o ∷ spelled_expression e (c ∷ b))
expression-front (NewPlain n f) a b = refl
expression-front (NewEmpty n f o c) a b = refl
expression-front (NewWith n f o e c) a b = refl
expression-front (Postfix e k) a b = expression-front e (k ∷ a) (k ∷ b)
expression-front (Signed k e) a b = refl
expression-front (Stepped k e) a b = refl
expression-front (Binary f k e) a b = expression-front f (k ∷ spelled_expression e a) (k ∷ spelled_expression e b)
expression-front (Choice f q e c d) a b = expression-front f (q ∷ spelled_expression e (c ∷ spelled_expression d a)) (q ∷ spelled_expression e (c ∷ spelled_expression d b))
expression-front (Assign f k e) a b = expression-front f (k ∷ spelled_expression e a) (k ∷ spelled_expression e b)
expression-front (CommaPhrase f k e) a b = expression-front f (k ∷ spelled_expression e a) (k ∷ spelled_expression e b)

pub simple-front : (s : Simple) (a b : List Lexeme) → first_of (spelled_simple s a) ≡ first_of (spelled_simple s b)
simple-front (Var word declarations semicolon) a b = refl
simple-front (Empty semicolon) a b = refl
simple-front (Expression expression semicolon) a b = expression-front expression (spelled_end semicolon a) (spelled_end semicolon b)
simple-front (Jump word semicolon) a b = refl
simple-front (Return word value semicolon) a b = refl

pub head-front : (h : Head) (a b : List Lexeme) → first_of (spelled_head h a) ≡ first_of (spelled_head h b)
head-front (If word open_mark test close_mark) a b = refl
head-front (While word open_mark test close_mark) a b = refl
head-front (For word open_mark first semicolon test second_semicolon step close_mark) a b = refl
head-front (ForIn word open_mark visitor in_word object close_mark) a b = refl

pub statement-front : (s : Statement) (a b : List Lexeme) → first_of (spelled s a) ≡ first_of (spelled s b)
statement-front (Alone simple) a b = simple-front simple a b
statement-front (Block open_mark inner close_mark) a b = refl
statement-front (Headed head body) a b = head-front head (spelled body a) (spelled body b)
statement-front (IfElse head body else_word other) a b =
    head-front head (spelled body (else_word ∷ spelled other a)) (spelled body (else_word ∷ spelled other b))

pub ahead-all : (ss : Statements) (a b : List Lexeme) → Ahead a b → Ahead (spelled_all ss a) (spelled_all ss b)
ahead-all NoStatements a b h = h
ahead-all (OneMore first others) a b h = inl (statement-front first (spelled_all others a) (spelled_all others b))

pub ahead-items : (is : List Item) (a b : List Lexeme) → Ahead a b → Ahead (spelled_items is a) (spelled_items is b)
ahead-items [] a b h = h
ahead-items (Function declared ∷ items) a b h = inl refl
ahead-items (Single statement ∷ items) a b h = inl (statement-front statement (spelled_items items a) (spelled_items items b))

-- the ends of statements

pub end-ahead : (GoOn : Lexeme → Type 0) (s : Option Lexeme) (rest other : List Lexeme) → Ahead rest other → ((t : Lexeme) → IsMark CloseBrace t → GoOn t → ⊥) → IsEnd GoOn s rest → IsEnd GoOn s other
end-ahead GoOn (Some semicolon) rest other a n h = h
end-ahead GoOn None rest [] a n h = tt
end-ahead GoOn None rest (t ∷ ts) (inr b) n h = record { may = inl b; no_semicolon = λ s. absurd (cc); no_more = n t b }
end-ahead GoOn None [] (t ∷ ts) (inl e) n h = absurd (cc)
end-ahead GoOn None (u ∷ us) (t ∷ ts) (inl e) n h = subst (λ x. EndsIn GoOn x) (same_Some u t e) h

pub return-end-ahead : (s : Option Lexeme) (rest other : List Lexeme) → Ahead rest other → IsReturnEnd s rest → IsReturnEnd s other
return-end-ahead (Some semicolon) rest other a h = h
return-end-ahead None rest [] a h = tt
return-end-ahead None rest (t ∷ ts) (inr b) h = inl b
return-end-ahead None [] (t ∷ ts) (inl e) h = absurd (cc)
return-end-ahead None (u ∷ us) (t ∷ ts) (inl e) h = subst (λ x. IsMark CloseBrace x ⊎ (x.after_break ≡ true)) (same_Some u t e) h

last-declaration : (d : Declaration) (ds : List FurtherDeclaration) → IsDeclaration d → AreFurther ds → IsDeclaration (last_of d ds)
last-declaration d [] h hs = h
last-declaration d (f ∷ ds) h hs = last-declaration f.declaration ds hs.1 hs.2

brace-declaration : (facts : ExpressionFacts) (d : Declaration) (t : Lexeme) → IsDeclaration d → IsMark CloseBrace t → DeclarationGoesOn d t → ⊥
brace-declaration facts (Bare name) t h b (inl comma) = absurd (cc)
brace-declaration facts (Bare name) t h b (inr assign) = absurd (cc)
brace-declaration facts (Valued name operator value) t h b (inl comma) = absurd (cc)
brace-declaration facts (Valued name operator value) t h b (inr g) = stops facts WithoutCommas value t h.2 (brace-stops WithoutCommas t b) g

pub simple-ahead : (facts : ExpressionFacts) (place : Setting) (s : Simple) (rest other : List Lexeme) → Ahead rest other → IsSimple place s rest → IsSimple place s other
simple-ahead facts place (Var word declarations semicolon) rest other a h = (
  h.0,
  h.1,
  end-ahead (DeclarationGoesOn (last_of declarations.first declarations.others)) semicolon rest other a
      (λ t b. brace-declaration facts (last_of declarations.first declarations.others) t (last-declaration declarations.first declarations.others h.1.0 h.1.1) b) h.2,
)
simple-ahead facts place (Empty semicolon) rest other a h = h
simple-ahead facts place (Expression expression semicolon) rest other a h =
    (h.0, end-ahead (GoesOn WithCommas expression) semicolon rest other a (λ t b. stops facts WithCommas expression t h.0 (brace-stops WithCommas t b)) h.1)
simple-ahead facts place (Jump word semicolon) rest other a h = (h.0, h.1, end-ahead (λ next. ⊥) semicolon rest other a (λ t b x. x) h.2)
simple-ahead facts place (Return word None semicolon) rest other a h = (h.0, h.1, return-end-ahead semicolon rest other a h.2)
simple-ahead facts place (Return word (Some value) semicolon) rest other a h =
    (h.0, h.1, h.2, h.3, end-ahead (GoesOn WithCommas value) semicolon rest other a (λ t b. stops facts WithCommas value t h.2 (brace-stops WithCommas t b)) h.4)

-- statements, functions and programs

pub no-else-ahead : (head : Head) (rest other : List Lexeme) → Ahead rest other → NoElse head rest → NoElse head other
no-else-ahead (If word open_mark test close_mark) rest [] a h = tt
no-else-ahead (If word open_mark test close_mark) rest (t ∷ ts) (inr b) h = λ e. absurd (cc)
no-else-ahead (If word open_mark test close_mark) [] (t ∷ ts) (inl e) h = absurd (cc)
no-else-ahead (If word open_mark test close_mark) (u ∷ us) (t ∷ ts) (inl e) h = subst (λ x. IsWord Else x → ⊥) (same_Some u t e) h
no-else-ahead (While word open_mark test close_mark) rest other a h = tt
no-else-ahead (For word open_mark first semicolon test second_semicolon step close_mark) rest other a h = tt
no-else-ahead (ForIn word open_mark visitor in_word object close_mark) rest other a h = tt

mutual
  pub statement-ahead : (facts : ExpressionFacts) (place : Setting) (s : Statement) (rest other : List Lexeme) → Ahead rest other → IsStatement place s rest → IsStatement place s other
  statement-ahead facts place (Alone simple) rest other a h = simple-ahead facts place simple rest other a h
  statement-ahead facts place (Block open_mark inner close_mark) rest other a h =
      (h.0, statements-ahead facts place inner (close_mark ∷ rest) (close_mark ∷ other) (inl refl) h.1, h.2)
  statement-ahead facts place (Headed head body) rest other a h =
      (h.0, statement-ahead facts (behind_head head place) body rest other a h.1, no-else-ahead head rest other a h.2)
  statement-ahead facts place (IfElse head body else_word last) rest other a h = (
    h.0,
    h.1,
    statement-ahead facts place body (else_word ∷ spelled last rest) (else_word ∷ spelled last other) (inl refl) h.2,
    h.3,
    statement-ahead facts place last rest other a h.4,
  )

  pub statements-ahead : (facts : ExpressionFacts) (place : Setting) (ss : Statements) (rest other : List Lexeme) → Ahead rest other → AreStatements place ss rest → AreStatements place ss other
  statements-ahead facts place NoStatements rest other a h = tt
  statements-ahead facts place (OneMore first others) rest other a h = (
    statement-ahead facts place first (spelled_all others rest) (spelled_all others other) (ahead-all others rest other a) h.0,
    statements-ahead facts place others rest other a h.1,
  )

pub function-ahead : (facts : ExpressionFacts) (d : Declared) (rest other : List Lexeme) → IsFunction d rest → IsFunction d other
function-ahead facts d rest other h = record {
  word = h.word;
  name = h.name;
  open_mark = h.open_mark;
  parameters = h.parameters;
  differ = h.differ;
  close_mark = h.close_mark;
  open_brace = h.open_brace;
  body = statements-ahead facts (setting false true) d.body (d.close_brace ∷ rest) (d.close_brace ∷ other) (inl refl) h.body;
  close_brace = h.close_brace;
}

pub items-ahead : (facts : ExpressionFacts) (is : List Item) (rest other : List Lexeme) → Ahead rest other → AreItems is rest → AreItems is other
items-ahead facts [] rest other a h = tt
items-ahead facts (Function declared ∷ items) rest other a h = (
  function-ahead facts declared (spelled_items items rest) (spelled_items items other) h.0,
  items-ahead facts items rest other a h.1,
)
items-ahead facts (Single statement ∷ items) rest other a h = (
  statement-ahead facts (setting false false) statement (spelled_items items rest) (spelled_items items other) (ahead-items items rest other a) h.0,
  items-ahead facts items rest other a h.1,
)

-- what is read

pub read-ahead : (facts : ExpressionFacts) (os : List Opening) (outer : Outer) (rest other : List Lexeme) → Ahead rest other → AreRead os outer rest → AreRead os outer other
read-ahead facts [] (InProgram done) rest other a h = items-ahead facts done rest other a h
read-ahead facts [] (InFunction done front body) rest other a h = (
  items-ahead facts done (spelled_front front (spelled_all body rest)) (spelled_front front (spelled_all body other)) (inl refl) h.0,
  h.1,
  statements-ahead facts (setting false true) body rest other a h.2,
)
read-ahead facts (InBlock open_mark done ∷ os) outer rest other a h = (
  h.0,
  statements-ahead facts (place_in os outer) done rest other a h.1,
  read-ahead facts os outer (open_mark ∷ spelled_all done rest) (open_mark ∷ spelled_all done other) (inl refl) h.2,
)
read-ahead facts (InHead head ∷ os) outer rest other a h =
    (h.0, read-ahead facts os outer (spelled_head head rest) (spelled_head head other) (inl (head-front head rest other)) h.1)
read-ahead facts (InElse head body else_word ∷ os) outer rest other a h = (
  h.0,
  h.1,
  statement-ahead facts (place_in os outer) body (else_word ∷ rest) (else_word ∷ other) (inl refl) h.2,
  h.3,
  read-ahead facts os outer (spelled_head head (spelled body (else_word ∷ rest))) (spelled_head head (spelled body (else_word ∷ other)))
      (inl (head-front head (spelled body (else_word ∷ rest)) (spelled body (else_word ∷ other)))) h.4,
)
