-- Statements that hold no other and heads, by their first tokens.
use Rattle.std.proofs.Common.{◌≡◌, true, false, inl, inr, List, [], ◌∷◌, Option, Some, None, refl, sym, ◌∙◌, ap}
use Rattle.es_lexer.specs.declared.words.ReservedWord.TheVariants.{In}
use Rattle.es_lexer.specs.declared.punctuators.Punctuator.TheVariants.{OpenParenthesis, CloseParenthesis, CloseBrace, Semicolon}
use Rattle.es_expressions.specs.Phrases.{Phrase, spelled as spelled_expression}
use Rattle.es_expressions.specs.Grammar.{IsExpression}
use Rattle.es_expressions.specs.declared.expressions.Extent.TheVariants.{WithCommas}
use Rattle.es_expressions.specs.declared.lexemes.Lexeme.{Lexeme}
use Rattle.es_reader.specs.Statements.{Declarations, Simple, First, Visitor, Head, spelled_end, spelled_part, spelled_declarations, spelled_simple, spelled_first, spelled_visitor, spelled_head}
use Rattle.es_reader.specs.Statements.Simple.{Var, Empty, Expression, Jump, Return}
use Rattle.es_reader.specs.Statements.Head.{If, While, For, ForIn}
use Rattle.es_reader.specs.Grammar.{IsWord, IsMark, IsOnLine, MayBe, GoesOn, IsEnd, IsReturnEnd, BeginsOnLine, AreDeclarations, last_of, DeclarationGoesOn, Setting, IsSimple, IsFirst, IsVisitor, IsHead}
use Rattle.es_reader.proofs.ExpressionFacts.{ExpressionFacts}
use Rattle.es_reader.proofs.Tokens.{kind_of}
use Rattle.es_reader.proofs.Tokens.Kind.{AtVar, AtEmpty, AtIf, AtWhile, AtFor, AtJump, AtReturn, AtExpression}
use Rattle.es_reader.proofs.Uniqueness.{same-head, same-tail, same-kind, begun, simple_kind, head_kind, simple-begun, head-begun}

simple-token-kind : (facts : ExpressionFacts) (p : Setting) (s : Simple) (rest : List Lexeme) (t : Lexeme) (more : List Lexeme) → IsSimple p s rest → spelled_simple s rest ≡ t ∷ more → simple_kind s ≡ kind_of t
simple-token-kind facts p s rest t more h e =
    same-kind (spelled_simple s rest) (t ∷ more) (simple_kind s) (kind_of t) (simple-begun facts p s rest h) (begun t more (kind_of t) refl) e

head-token-kind : (h : Head) (rest : List Lexeme) (t : Lexeme) (more : List Lexeme) → IsHead h → spelled_head h rest ≡ t ∷ more → head_kind h ≡ kind_of t
head-token-kind h rest t more i e =
    same-kind (spelled_head h rest) (t ∷ more) (head_kind h) (kind_of t) (head-begun h rest i) (begun t more (kind_of t) refl) e

-- `var`
pub record VarForm (rest more : List Lexeme) : Type 0 where
  pub declarations : Declarations
  pub semicolon : Option Lexeme
  pub are : AreDeclarations declarations
  pub ends : IsEnd (DeclarationGoesOn (last_of declarations.first declarations.others)) semicolon rest
  pub same : spelled_declarations declarations (spelled_end semicolon rest) ≡ more

var-form : (p : Setting) (s : Simple) (rest : List Lexeme) (t : Lexeme) (more : List Lexeme) → IsSimple p s rest → spelled_simple s rest ≡ t ∷ more → simple_kind s ≡ AtVar → VarForm rest more
var-form p (Var word declarations semicolon) rest t more h e k = record {
  declarations = declarations;
  semicolon = semicolon;
  are = h.1;
  ends = h.2;
  same = same-tail word t (spelled_declarations declarations (spelled_end semicolon rest)) more e;
}
var-form p _ rest t more h e k = absurd (cc)

pub as-var : (facts : ExpressionFacts) (p : Setting) (s : Simple) (rest : List Lexeme) (t : Lexeme) (more : List Lexeme) → IsSimple p s rest → spelled_simple s rest ≡ t ∷ more → kind_of t ≡ AtVar → VarForm rest more
as-var facts p s rest t more h e k = var-form p s rest t more h e (simple-token-kind facts p s rest t more h e ∙ k)

-- `;`
empty-form : (p : Setting) (s : Simple) (rest : List Lexeme) (t : Lexeme) (more : List Lexeme) → spelled_simple s rest ≡ t ∷ more → simple_kind s ≡ AtEmpty → rest ≡ more
empty-form p (Empty semicolon) rest t more e k = same-tail semicolon t rest more e
empty-form p _ rest t more e k = absurd (cc)

pub as-empty : (facts : ExpressionFacts) (p : Setting) (s : Simple) (rest : List Lexeme) (t : Lexeme) (more : List Lexeme) → IsSimple p s rest → spelled_simple s rest ≡ t ∷ more → kind_of t ≡ AtEmpty → rest ≡ more
as-empty facts p s rest t more h e k = empty-form p s rest t more e (simple-token-kind facts p s rest t more h e ∙ k)

-- an expression
pub record ExpressionForm (rest tokens : List Lexeme) : Type 0 where
  pub expression : Phrase
  pub semicolon : Option Lexeme
  pub is : IsExpression expression
  pub ends : IsEnd (GoesOn WithCommas expression) semicolon rest
  pub same : spelled_expression expression (spelled_end semicolon rest) ≡ tokens

expression-form : (p : Setting) (s : Simple) (rest tokens : List Lexeme) → IsSimple p s rest → spelled_simple s rest ≡ tokens → simple_kind s ≡ AtExpression → ExpressionForm rest tokens
expression-form p (Expression expression semicolon) rest tokens h e k = record { expression = expression; semicolon = semicolon; is = h.0; ends = h.1; same = e }
expression-form p _ rest tokens h e k = absurd (cc)

pub as-expression : (facts : ExpressionFacts) (p : Setting) (s : Simple) (rest : List Lexeme) (t : Lexeme) (more : List Lexeme) → IsSimple p s rest → spelled_simple s rest ≡ t ∷ more → kind_of t ≡ AtExpression → ExpressionForm rest (t ∷ more)
as-expression facts p s rest t more h e k = expression-form p s rest (t ∷ more) h e (simple-token-kind facts p s rest t more h e ∙ k)

-- `break` and `continue`, in a loop alone
pub record JumpForm (p : Setting) (rest more : List Lexeme) : Type 0 where
  pub semicolon : Option Lexeme
  pub in_loop : p.in_loop ≡ true
  pub ends : IsEnd (λ next. ⊥) semicolon rest
  pub same : spelled_end semicolon rest ≡ more

jump-form : (p : Setting) (s : Simple) (rest : List Lexeme) (t : Lexeme) (more : List Lexeme) → IsSimple p s rest → spelled_simple s rest ≡ t ∷ more → simple_kind s ≡ AtJump → JumpForm p rest more
jump-form p (Jump word semicolon) rest t more h e k = record { semicolon = semicolon; in_loop = h.1; ends = h.2; same = same-tail word t (spelled_end semicolon rest) more e }
jump-form p _ rest t more h e k = absurd (cc)

pub as-jump : (facts : ExpressionFacts) (p : Setting) (s : Simple) (rest : List Lexeme) (t : Lexeme) (more : List Lexeme) → IsSimple p s rest → spelled_simple s rest ≡ t ∷ more → kind_of t ≡ AtJump → JumpForm p rest more
as-jump facts p s rest t more h e k = jump-form p s rest t more h e (simple-token-kind facts p s rest t more h e ∙ k)

-- `return`, in a function alone: with no value, or with one on its line
pub data ReturnForm (p : Setting) (rest more : List Lexeme) : Type 0 where
  NoValue : (semicolon : Option Lexeme) → p.in_function ≡ true → IsReturnEnd semicolon rest → spelled_end semicolon rest ≡ more
      → ReturnForm p rest more
  WithValue : (value : Phrase) → (semicolon : Option Lexeme) → p.in_function ≡ true → IsExpression value
      → BeginsOnLine (spelled_expression value []) → IsEnd (GoesOn WithCommas value) semicolon rest
      → spelled_expression value (spelled_end semicolon rest) ≡ more → ReturnForm p rest more

return-form : (p : Setting) (s : Simple) (rest : List Lexeme) (t : Lexeme) (more : List Lexeme) → IsSimple p s rest → spelled_simple s rest ≡ t ∷ more → simple_kind s ≡ AtReturn → ReturnForm p rest more
return-form p (Return word None semicolon) rest t more h e k = NoValue semicolon h.1 h.2 (same-tail word t (spelled_end semicolon rest) more e)
return-form p (Return word (Some value) semicolon) rest t more h e k =
    WithValue value semicolon h.1 h.2 h.3 h.4 (same-tail word t (spelled_expression value (spelled_end semicolon rest)) more e)
return-form p (Var word declarations semicolon) rest t more h e k = absurd (cc)
return-form p (Empty semicolon) rest t more h e k = absurd (cc)
return-form p (Expression expression semicolon) rest t more h e k = absurd (cc)
return-form p (Jump word semicolon) rest t more h e k = absurd (cc)

pub as-return : (facts : ExpressionFacts) (p : Setting) (s : Simple) (rest : List Lexeme) (t : Lexeme) (more : List Lexeme) → IsSimple p s rest → spelled_simple s rest ≡ t ∷ more → kind_of t ≡ AtReturn → ReturnForm p rest more
as-return facts p s rest t more h e k = return-form p s rest t more h e (simple-token-kind facts p s rest t more h e ∙ k)

-- `if` and `while`
pub record TestForm (rest more : List Lexeme) : Type 0 where
  pub open_mark : Lexeme
  pub test : Phrase
  pub close_mark : Lexeme
  pub opens : IsMark OpenParenthesis open_mark
  pub is : IsExpression test
  pub closes : IsMark CloseParenthesis close_mark
  pub same : open_mark ∷ spelled_expression test (close_mark ∷ rest) ≡ more

if-form : (h : Head) (rest : List Lexeme) (t : Lexeme) (more : List Lexeme) → IsHead h → spelled_head h rest ≡ t ∷ more → head_kind h ≡ AtIf → (f : TestForm rest more) × (h ≡ If t f.open_mark f.test f.close_mark)
if-form (If word open_mark test close_mark) rest t more i e k = (
  record { open_mark = open_mark; test = test; close_mark = close_mark; opens = i.1; is = i.2; closes = i.3; same = same-tail word t (open_mark ∷ spelled_expression test (close_mark ∷ rest)) more e },
  ap (λ w. If w open_mark test close_mark) (same-head word t (open_mark ∷ spelled_expression test (close_mark ∷ rest)) more e),
)
if-form _ rest t more i e k = absurd (cc)

pub as-if : (h : Head) (rest : List Lexeme) (t : Lexeme) (more : List Lexeme) → IsHead h → spelled_head h rest ≡ t ∷ more → kind_of t ≡ AtIf → (f : TestForm rest more) × (h ≡ If t f.open_mark f.test f.close_mark)
as-if h rest t more i e k = if-form h rest t more i e (head-token-kind h rest t more i e ∙ k)

while-form : (h : Head) (rest : List Lexeme) (t : Lexeme) (more : List Lexeme) → IsHead h → spelled_head h rest ≡ t ∷ more → head_kind h ≡ AtWhile → (f : TestForm rest more) × (h ≡ While t f.open_mark f.test f.close_mark)
while-form (If word open_mark test close_mark) rest t more i e k = absurd (cc)
while-form (While word open_mark test close_mark) rest t more i e k = (
  record { open_mark = open_mark; test = test; close_mark = close_mark; opens = i.1; is = i.2; closes = i.3; same = same-tail word t (open_mark ∷ spelled_expression test (close_mark ∷ rest)) more e },
  ap (λ w. While w open_mark test close_mark) (same-head word t (open_mark ∷ spelled_expression test (close_mark ∷ rest)) more e),
)
while-form (For word open_mark first semicolon test second_semicolon step close_mark) rest t more i e k = absurd (cc)
while-form (ForIn word open_mark visitor in_word object close_mark) rest t more i e k = absurd (cc)

pub as-while : (h : Head) (rest : List Lexeme) (t : Lexeme) (more : List Lexeme) → IsHead h → spelled_head h rest ≡ t ∷ more → kind_of t ≡ AtWhile → (f : TestForm rest more) × (h ≡ While t f.open_mark f.test f.close_mark)
as-while h rest t more i e k = while-form h rest t more i e (head-token-kind h rest t more i e ∙ k)

-- the two of `for`
pub data ForForm (h : Head) (word : Lexeme) (rest more : List Lexeme) : Type 0 where
  WithSteps : (open_mark : Lexeme) → (first : First) → (semicolon : Lexeme) → (test : Option Phrase) → (second : Lexeme)
      → (step : Option Phrase) → (close_mark : Lexeme) → h ≡ For word open_mark first semicolon test second step close_mark
      → IsMark OpenParenthesis open_mark → IsFirst first → IsMark Semicolon semicolon → MayBe test → IsMark Semicolon second
      → MayBe step → IsMark CloseParenthesis close_mark
      → open_mark ∷ spelled_first first (semicolon ∷ spelled_part test (second ∷ spelled_part step (close_mark ∷ rest))) ≡ more
      → ForForm h word rest more
  WithVisitor : (open_mark : Lexeme) → (visitor : Visitor) → (in_word : Lexeme) → (object : Phrase) → (close_mark : Lexeme)
      → h ≡ ForIn word open_mark visitor in_word object close_mark → IsMark OpenParenthesis open_mark → IsVisitor visitor
      → IsWord In in_word → IsExpression object → IsMark CloseParenthesis close_mark
      → open_mark ∷ spelled_visitor visitor (in_word ∷ spelled_expression object (close_mark ∷ rest)) ≡ more
      → ForForm h word rest more

for-form : (h : Head) (rest : List Lexeme) (t : Lexeme) (more : List Lexeme) → IsHead h → spelled_head h rest ≡ t ∷ more → head_kind h ≡ AtFor → ForForm h t rest more
for-form (If word open_mark test close_mark) rest t more i e k = absurd (cc)
for-form (While word open_mark test close_mark) rest t more i e k = absurd (cc)
for-form (For word open_mark first semicolon test second step close_mark) rest t more i e k =
    let x : List Lexeme = open_mark ∷ spelled_first first (semicolon ∷ spelled_part test (second ∷ spelled_part step (close_mark ∷ rest))) in
    WithSteps open_mark first semicolon test second step close_mark
    (ap (λ w. For w open_mark first semicolon test second step close_mark) (same-head word t x more e))
    i.1 i.2 i.3 i.4 i.5 i.6 i.7 (same-tail word t x more e)
for-form (ForIn word open_mark visitor in_word object close_mark) rest t more i e k =
    let x : List Lexeme = open_mark ∷ spelled_visitor visitor (in_word ∷ spelled_expression object (close_mark ∷ rest)) in
    WithVisitor open_mark visitor in_word object close_mark
    (ap (λ w. ForIn w open_mark visitor in_word object close_mark) (same-head word t x more e))
    i.1 i.2 i.3 i.4 i.5 (same-tail word t x more e)

pub as-for : (h : Head) (rest : List Lexeme) (t : Lexeme) (more : List Lexeme) → IsHead h → spelled_head h rest ≡ t ∷ more → kind_of t ≡ AtFor → ForForm h t rest more
as-for h rest t more i e k = for-form h rest t more i e (head-token-kind h rest t more i e ∙ k)

-- the ends of statements

-- a token that neither ends a statement nor stands behind a line break
pub no-end : (GoOn : Lexeme → Type 0) (s : Option Lexeme) (rest : List Lexeme) (t : Lexeme) (more : List Lexeme) → IsEnd GoOn s rest → spelled_end s rest ≡ t ∷ more → (IsMark Semicolon t → ⊥) → (IsMark CloseBrace t → ⊥) → IsOnLine t → ⊥
no-end GoOn (Some s) rest t more h e n b l = n (ap (λ x. x.symbol) (sym (same-head s t rest more e)) ∙ h)
no-end GoOn None [] t more h e n b l = absurd (cc)
no-end GoOn None (r ∷ rest) t more h e n b l =
    let u : r ≡ t = same-head r t rest more e in
    elim h.may [ inl m ↦ b (ap (λ x. x.symbol) (sym u) ∙ m) | inr m ↦ (let k : r.after_break ≡ false = ap (λ x. x.after_break) u ∙ l in absurd (cc (m, k))) ]

pub no-return-end : (s : Option Lexeme) (rest : List Lexeme) (t : Lexeme) (more : List Lexeme) → IsReturnEnd s rest → spelled_end s rest ≡ t ∷ more → (IsMark Semicolon t → ⊥) → (IsMark CloseBrace t → ⊥) → IsOnLine t → ⊥
no-return-end (Some s) rest t more h e n b l = n (ap (λ x. x.symbol) (sym (same-head s t rest more e)) ∙ h.0)
no-return-end None [] t more h e n b l = absurd (cc)
no-return-end None (r ∷ rest) t more h e n b l =
    let u : r ≡ t = same-head r t rest more e in
    elim h [ inl m ↦ b (ap (λ x. x.symbol) (sym u) ∙ m) | inr m ↦ (let k : r.after_break ≡ false = ap (λ x. x.after_break) u ∙ l in absurd (cc (m, k))) ]
