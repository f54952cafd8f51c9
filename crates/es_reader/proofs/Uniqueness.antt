-- Tokens are those of at most one head, statement, function and program.
use Rattle.std.proofs.Common.{◌≡◌, ◌≢◌, true, false, inl, inr, List, [], ◌∷◌, Option, Some, None, refl, sym, ◌∙◌, ap, subst}
use Rattle.es_lexer.specs.declared.words.ReservedWord.TheVariants.{Else, In, Function as FunctionWord}
use Rattle.es_lexer.specs.declared.punctuators.Punctuator.TheVariants.{CloseBrace, CloseParenthesis, Semicolon, Comma}
use Rattle.es_expressions.specs.Roles.{is_name}
use Rattle.es_expressions.specs.Phrases.{Phrase, spelled as spelled_expression}
use Rattle.es_expressions.specs.declared.expressions.Extent.TheVariants.{WithCommas}
use Rattle.es_expressions.specs.declared.lexemes.Lexeme.{Lexeme}
use Rattle.es_expressions.specs.declared.lexemes.Symbol.TheVariants.{Mark}
use Rattle.es_reader.specs.Statements.{Simple, First, Visitor, Head, Statement, Statements, FurtherName, Parameters, Declared, Item, spelled_part, spelled_declarations, spelled_simple, spelled_first, spelled_visitor, spelled_head, spelled, spelled_all, spelled_names, spelled_parameters, spelled_function, spelled_items}
use Rattle.es_reader.specs.Statements.Declaration.{Bare}
use Rattle.es_reader.specs.Statements.Simple.{Var, Empty, Expression, Jump, Return}
use Rattle.es_reader.specs.Statements.First.{NoFirst, FirstExpression, FirstVar}
use Rattle.es_reader.specs.Statements.Visitor.{Target, Variable}
use Rattle.es_reader.specs.Statements.Head.{If, While, For, ForIn}
use Rattle.es_reader.specs.Statements.Statement.{Alone, Block, Headed, IfElse}
use Rattle.es_reader.specs.Statements.Statements.{NoStatements, OneMore}
use Rattle.es_reader.specs.Statements.Parameters.{NoParameters, SomeParameters}
use Rattle.es_reader.specs.Statements.Item.{Function, Single}
use Rattle.es_reader.specs.Grammar.{IsWord, IsMark, IsName, MayBe, DeclarationGoesOn, Setting, setting, IsFirst, IsVisitor, IsHead, is_if, behind_head, NoElse, IsStatement, AreStatements, AreNames, AreParameters, IsFunction, AreItems, IsProgram}
use Rattle.es_reader.specs.Openings.{Front, IsFront, spelled_front}
use Rattle.es_reader.proofs.ExpressionFacts.{ExpressionFacts}
use Rattle.es_reader.proofs.Tokens.{Kind, kind_of, IsStop, semicolon-stops, close-stops, word-stops, var-kind, if-kind, while-kind, for-kind, function-kind, open-kind, semicolon-kind, brace-kind, close-kind}
use Rattle.es_reader.proofs.Tokens.Kind.{AtBlock, AtVar, AtEmpty, AtIf, AtWhile, AtFor, AtJump, AtReturn, AtExpression, AtFunction, AtNothing}
pub use Rattle.es_reader.proofs.PhraseUniqueness.{same-head, same-tail, EndsBy, ended, end-by, same-end, same-return-end, Cut, cut, same-expression, same-expression-before, Begun, same-kind, begun, expression-begun, ValueGoesOn, value-ends, comma-ends, comma-goes-on, same-declaration, same-declared-all, same-declarations, last-declaration, semicolon-declaration, semicolon-last, simple_kind, simple-begun, ended-expression, same-simple}

-- heads

abbrev pub first_kind : First → Kind
first_kind NoFirst = AtEmpty
first_kind (FirstExpression expression) = AtExpression
first_kind (FirstVar word declarations) = AtVar

pub first-begun : (facts : ExpressionFacts) (f : First) (s : Lexeme) (R : List Lexeme) → IsFirst f → IsMark Semicolon s → Begun (spelled_first f (s ∷ R)) (first_kind f)
first-begun facts NoFirst s R h m = begun s R AtEmpty (semicolon-kind s m)
first-begun facts (FirstExpression expression) s R h m = expression-begun facts WithCommas expression (s ∷ R) h
first-begun facts (FirstVar word declarations) s R h m = begun word (spelled_declarations declarations (s ∷ R)) AtVar (var-kind word h.0)

pub same-first : (facts : ExpressionFacts) (f g : First) (s t : Lexeme) (R S : List Lexeme) → IsFirst f → IsFirst g → IsMark Semicolon s → IsMark Semicolon t → spelled_first f (s ∷ R) ≡ spelled_first g (t ∷ S) → (f ≡ g) × ((s ≡ t) × (R ≡ S))
same-first facts NoFirst NoFirst s t R S h g m n i = (refl, (same-head s t R S i, same-tail s t R S i))
same-first facts (FirstExpression e) (FirstExpression f) s t R S h g m n i =
    let r = same-expression-before facts e f s t R S h g (semicolon-stops WithCommas s m) (semicolon-stops WithCommas t n) i in
    (ap (λ x. FirstExpression x) r.0, r.1)
same-first facts (FirstVar word d) (FirstVar other e) s t R S h g m n i =
    let x : List Lexeme = spelled_declarations d (s ∷ R) in
    let y : List Lexeme = spelled_declarations e (t ∷ S) in
    let w : word ≡ other = same-head word other x y i in
    let r = same-declarations facts d e (s ∷ R) (t ∷ S) h.1 g.1 (semicolon-last facts d s h.1 m) (semicolon-last facts e t g.1 n) (same-tail word other x y i) in
    ((λ j. FirstVar (w j) (r.0 j)), (same-head s t R S r.1, same-tail s t R S r.1))
same-first facts f g s t R S h p m n i =
    let k : first_kind f ≡ first_kind g = same-kind (spelled_first f (s ∷ R)) (spelled_first g (t ∷ S)) (first_kind f) (first_kind g) (first-begun facts f s R h m) (first-begun facts g t S p n) i in
    absurd (cc)

-- a part of the head of a `for`, in front of a token that no expression begins with
pub same-part : (facts : ExpressionFacts) (e f : Option Phrase) (s t : Lexeme) (R S : List Lexeme) → MayBe e → MayBe f → IsStop WithCommas s → IsStop WithCommas t → kind_of s ≢ AtExpression → kind_of t ≢ AtExpression → spelled_part e (s ∷ R) ≡ spelled_part f (t ∷ S) → (e ≡ f) × ((s ≡ t) × (R ≡ S))
same-part facts None None s t R S h g m n p q i = (refl, (same-head s t R S i, same-tail s t R S i))
same-part facts (Some e) (Some f) s t R S h g m n p q i =
    let r = same-expression-before facts e f s t R S h g m n i in (ap (λ x. Some x) r.0, r.1)
same-part facts None (Some f) s t R S h g m n p q i =
    absurd (p (same-kind (s ∷ R) (spelled_expression f (t ∷ S)) (kind_of s) AtExpression (begun s R (kind_of s) refl) (expression-begun facts WithCommas f (t ∷ S) g) i))
same-part facts (Some e) None s t R S h g m n p q i =
    absurd (q (same-kind (t ∷ S) (spelled_expression e (s ∷ R)) (kind_of t) AtExpression (begun t S (kind_of t) refl) (expression-begun facts WithCommas e (s ∷ R) h) (sym i)))

pub semicolon-apart : (t : Lexeme) → IsMark Semicolon t → kind_of t ≢ AtExpression
semicolon-apart t m e = let k : kind_of t ≡ AtEmpty = semicolon-kind t m in absurd (cc)

pub close-apart : (t : Lexeme) → IsMark CloseParenthesis t → kind_of t ≢ AtExpression
close-apart t m e = let k : kind_of t ≡ AtNothing = close-kind t m in absurd (cc)

abbrev pub visitor_kind : Visitor → Kind
visitor_kind (Target target) = AtExpression
visitor_kind (Variable word name) = AtVar

pub visitor-begun : (facts : ExpressionFacts) (v : Visitor) (R : List Lexeme) → IsVisitor v → Begun (spelled_visitor v R) (visitor_kind v)
visitor-begun facts (Target target) R h = expression-begun facts WithCommas target R h.0
visitor-begun facts (Variable word name) R h = begun word (name ∷ R) AtVar (var-kind word h.0)

pub same-visitor : (facts : ExpressionFacts) (v w : Visitor) (s t : Lexeme) (R S : List Lexeme) → IsVisitor v → IsVisitor w → IsWord In s → IsWord In t → spelled_visitor v (s ∷ R) ≡ spelled_visitor w (t ∷ S) → (v ≡ w) × ((s ≡ t) × (R ≡ S))
same-visitor facts (Target e) (Target f) s t R S h g m n i =
    let r = same-expression-before facts e f s t R S h.0 g.0 (word-stops WithCommas In s m) (word-stops WithCommas In t n) i in
    (ap (λ x. Target x) r.0, r.1)
same-visitor facts (Variable word name) (Variable other more) s t R S h g m n i =
    let w : word ≡ other = same-head word other (name ∷ (s ∷ R)) (more ∷ (t ∷ S)) i in
    let j : name ∷ (s ∷ R) ≡ more ∷ (t ∷ S) = same-tail word other (name ∷ (s ∷ R)) (more ∷ (t ∷ S)) i in
    let k : name ≡ more = same-head name more (s ∷ R) (t ∷ S) j in
    let l : s ∷ R ≡ t ∷ S = same-tail name more (s ∷ R) (t ∷ S) j in
    ((λ x. Variable (w x) (k x)), (same-head s t R S l, same-tail s t R S l))
same-visitor facts v w s t R S h g m n i =
    let k : visitor_kind v ≡ visitor_kind w = same-kind (spelled_visitor v (s ∷ R)) (spelled_visitor w (t ∷ S)) (visitor_kind v) (visitor_kind w) (visitor-begun facts v (s ∷ R) h) (visitor-begun facts w (t ∷ S) g) i in
    absurd (cc)

semicolon-no-in : (s t : Lexeme) → IsMark Semicolon s → IsWord In t → s ≡ t → ⊥
semicolon-no-in s t m n e = let k : s.symbol ≡ t.symbol = ap (λ x. x.symbol) e in absurd (cc)

pub in-no-value : (name : Lexeme) (t : Lexeme) → IsWord In t → DeclarationGoesOn (Bare name) t → ⊥
in-no-value name t n (inl c) = absurd (cc)
in-no-value name t n (inr a) = absurd (cc)

-- the two heads of a `for` never begin alike up to a `;` and an `in`
pub first-no-visitor : (facts : ExpressionFacts) (f : First) (v : Visitor) (s t : Lexeme) (R S : List Lexeme) → IsFirst f → IsVisitor v → IsMark Semicolon s → IsWord In t → spelled_first f (s ∷ R) ≡ spelled_visitor v (t ∷ S) → ⊥
first-no-visitor facts (FirstExpression e) (Target f) s t R S h g m n i =
    let r = same-expression-before facts e f s t R S h g.0 (semicolon-stops WithCommas s m) (word-stops WithCommas In t n) i in
    semicolon-no-in s t m n r.1.0
first-no-visitor facts (FirstVar word d) (Variable other name) s t R S h g m n i =
    let j : spelled_declarations d (s ∷ R) ≡ name ∷ (t ∷ S) = same-tail word other (spelled_declarations d (s ∷ R)) (name ∷ (t ∷ S)) i in
    let r = same-declared-all facts d.first (Bare name) d.others [] (s ∷ R) (t ∷ S) h.1.0 g.1 h.1.1 tt (semicolon-last facts d s h.1 m) (in-no-value name t n) j in
    semicolon-no-in s t m n (same-head s t R S r.1.1)
first-no-visitor facts NoFirst (Target f) s t R S h g m n i =
    let k : AtEmpty ≡ AtExpression = same-kind (s ∷ R) (spelled_expression f (t ∷ S)) AtEmpty AtExpression (begun s R AtEmpty (semicolon-kind s m)) (visitor-begun facts (Target f) (t ∷ S) g) i in
    absurd (cc)
first-no-visitor facts f v s t R S h g m n i =
    let k : first_kind f ≡ visitor_kind v = same-kind (spelled_first f (s ∷ R)) (spelled_visitor v (t ∷ S)) (first_kind f) (visitor_kind v) (first-begun facts f s R h m) (visitor-begun facts v (t ∷ S) g) i in
    absurd (cc)

abbrev pub head_kind : Head → Kind
head_kind (If word open_mark test close_mark) = AtIf
head_kind (While word open_mark test close_mark) = AtWhile
head_kind (For word open_mark first semicolon test second_semicolon step close_mark) = AtFor
head_kind (ForIn word open_mark visitor in_word object close_mark) = AtFor

pub head-begun : (h : Head) (R : List Lexeme) → IsHead h → Begun (spelled_head h R) (head_kind h)
head-begun (If word open_mark test close_mark) R h = begun word (open_mark ∷ spelled_expression test (close_mark ∷ R)) AtIf (if-kind word h.0)
head-begun (While word open_mark test close_mark) R h = begun word (open_mark ∷ spelled_expression test (close_mark ∷ R)) AtWhile (while-kind word h.0)
head-begun (For word open_mark first semicolon test second_semicolon step close_mark) R h =
    begun word (open_mark ∷ spelled_first first (semicolon ∷ spelled_part test (second_semicolon ∷ spelled_part step (close_mark ∷ R)))) AtFor (for-kind word h.0)
head-begun (ForIn word open_mark visitor in_word object close_mark) R h =
    begun word (open_mark ∷ spelled_visitor visitor (in_word ∷ spelled_expression object (close_mark ∷ R))) AtFor (for-kind word h.0)

-- a word, a mark, and what stands behind them
pub same-two : (a b c d : Lexeme) (R S : List Lexeme) → a ∷ (b ∷ R) ≡ c ∷ (d ∷ S) → (a ≡ c) × ((b ≡ d) × (R ≡ S))
same-two a b c d R S i =
    let j : b ∷ R ≡ d ∷ S = same-tail a c (b ∷ R) (d ∷ S) i in
    (same-head a c (b ∷ R) (d ∷ S) i, (same-head b d R S j, same-tail b d R S j))

pub same-heads : (facts : ExpressionFacts) (h g : Head) (R S : List Lexeme) → IsHead h → IsHead g → spelled_head h R ≡ spelled_head g S → (h ≡ g) × (R ≡ S)
same-heads facts (If w o e c) (If v p f d) R S h g i =
    let t = same-two w o v p (spelled_expression e (c ∷ R)) (spelled_expression f (d ∷ S)) i in
    let r = same-expression-before facts e f c d R S h.2 g.2 (close-stops WithCommas c h.3) (close-stops WithCommas d g.3) t.1.1 in
    ((λ j. If (t.0 j) (t.1.0 j) (r.0 j) (r.1.0 j)), r.1.1)
same-heads facts (While w o e c) (While v p f d) R S h g i =
    let t = same-two w o v p (spelled_expression e (c ∷ R)) (spelled_expression f (d ∷ S)) i in
    let r = same-expression-before facts e f c d R S h.2 g.2 (close-stops WithCommas c h.3) (close-stops WithCommas d g.3) t.1.1 in
    ((λ j. While (t.0 j) (t.1.0 j) (r.0 j) (r.1.0 j)), r.1.1)
same-heads facts (For w o a s e m x c) (For v p b t f n y d) R S h g i =
    let u = same-two w o v p (spelled_first a (s ∷ spelled_part e (m ∷ spelled_part x (c ∷ R)))) (spelled_first b (t ∷ spelled_part f (n ∷ spelled_part y (d ∷ S)))) i in
    let q = same-first facts a b s t (spelled_part e (m ∷ spelled_part x (c ∷ R))) (spelled_part f (n ∷ spelled_part y (d ∷ S))) h.2 g.2 h.3 g.3 u.1.1 in
    let r = same-part facts e f m n (spelled_part x (c ∷ R)) (spelled_part y (d ∷ S)) h.4 g.4 (semicolon-stops WithCommas m h.5) (semicolon-stops WithCommas n g.5) (semicolon-apart m h.5) (semicolon-apart n g.5) q.1.1 in
    let z = same-part facts x y c d R S h.6 g.6 (close-stops WithCommas c h.7) (close-stops WithCommas d g.7) (close-apart c h.7) (close-apart d g.7) r.1.1 in
    ((λ j. For (u.0 j) (u.1.0 j) (q.0 j) (q.1.0 j) (r.0 j) (r.1.0 j) (z.0 j) (z.1.0 j)), z.1.1)
same-heads facts (ForIn w o a s e c) (ForIn v p b t f d) R S h g i =
    let u = same-two w o v p (spelled_visitor a (s ∷ spelled_expression e (c ∷ R))) (spelled_visitor b (t ∷ spelled_expression f (d ∷ S))) i in
    let q = same-visitor facts a b s t (spelled_expression e (c ∷ R)) (spelled_expression f (d ∷ S)) h.2 g.2 h.3 g.3 u.1.1 in
    let r = same-expression-before facts e f c d R S h.4 g.4 (close-stops WithCommas c h.5) (close-stops WithCommas d g.5) q.1.1 in
    ((λ j. ForIn (u.0 j) (u.1.0 j) (q.0 j) (q.1.0 j) (r.0 j) (r.1.0 j)), r.1.1)
same-heads facts (For w o a s e m x c) (ForIn v p b t f d) R S h g i =
    let u = same-two w o v p (spelled_first a (s ∷ spelled_part e (m ∷ spelled_part x (c ∷ R)))) (spelled_visitor b (t ∷ spelled_expression f (d ∷ S))) i in
    absurd (first-no-visitor facts a b s t (spelled_part e (m ∷ spelled_part x (c ∷ R))) (spelled_expression f (d ∷ S)) h.2 g.2 h.3 g.3 u.1.1)
same-heads facts (ForIn w o a s e c) (For v p b t f n y d) R S h g i =
    let u = same-two w o v p (spelled_visitor a (s ∷ spelled_expression e (c ∷ R))) (spelled_first b (t ∷ spelled_part f (n ∷ spelled_part y (d ∷ S)))) i in
    absurd (first-no-visitor facts b a t s (spelled_part f (n ∷ spelled_part y (d ∷ S))) (spelled_expression e (c ∷ R)) g.2 h.2 g.3 h.3 (sym u.1.1))
same-heads facts h g R S p q i =
    let k : head_kind h ≡ head_kind g = same-kind (spelled_head h R) (spelled_head g S) (head_kind h) (head_kind g) (head-begun h R p) (head-begun g S q) i in
    absurd (cc)

-- statements

abbrev pub statement_kind : Statement → Kind
statement_kind (Alone simple) = simple_kind simple
statement_kind (Block open_mark inner close_mark) = AtBlock
statement_kind (Headed head body) = head_kind head
statement_kind (IfElse head body else_word other) = head_kind head

pub statement-begun : (facts : ExpressionFacts) (p : Setting) (s : Statement) (R : List Lexeme) → IsStatement p s R → Begun (spelled s R) (statement_kind s)
statement-begun facts p (Alone simple) R h = simple-begun facts p simple R h
statement-begun facts p (Block open_mark inner close_mark) R h = begun open_mark (spelled_all inner (close_mark ∷ R)) AtBlock (open-kind open_mark h.0)
statement-begun facts p (Headed head body) R h = head-begun head (spelled body R) h.0
statement-begun facts p (IfElse head body else_word other) R h = head-begun head (spelled body (else_word ∷ spelled other R)) h.0

-- the kinds of statements

abbrev pub IsSimpleKind : Kind → Type 0
IsSimpleKind k = ((k ≢ AtBlock) × (k ≢ AtIf) × (k ≢ AtWhile) × (k ≢ AtFor)) × ((k ≢ AtFunction) × (k ≢ AtNothing))

abbrev pub IsHeadKind : Kind → Type 0
IsHeadKind k = ((k ≢ AtBlock) × (k ≢ AtVar) × (k ≢ AtEmpty) × (k ≢ AtJump) × (k ≢ AtReturn) × (k ≢ AtExpression)) × ((k ≢ AtFunction) × (k ≢ AtNothing))

pub simple-kinds : (s : Simple) → IsSimpleKind (simple_kind s)
simple-kinds (Var word declarations semicolon) = (((λ e. absurd (cc)), (λ e. absurd (cc)), (λ e. absurd (cc)), (λ e. absurd (cc))), ((λ e. absurd (cc)), (λ e. absurd (cc))))
simple-kinds _ = (((λ e. absurd (cc)), (λ e. absurd (cc)), (λ e. absurd (cc)), (λ e. absurd (cc))), ((λ e. absurd (cc)), (λ e. absurd (cc))))

pub head-kinds : (h : Head) → IsHeadKind (head_kind h)
head-kinds (If word open_mark test close_mark) = (((λ e. absurd (cc)), (λ e. absurd (cc)), (λ e. absurd (cc)), (λ e. absurd (cc)), (λ e. absurd (cc)), (λ e. absurd (cc))), ((λ e. absurd (cc)), (λ e. absurd (cc))))
head-kinds _ = (((λ e. absurd (cc)), (λ e. absurd (cc)), (λ e. absurd (cc)), (λ e. absurd (cc)), (λ e. absurd (cc)), (λ e. absurd (cc))), ((λ e. absurd (cc)), (λ e. absurd (cc))))

-- no statement begins with `function`, nor with a token that begins nothing
pub statement-kinds : (s : Statement) → (statement_kind s ≢ AtFunction) × (statement_kind s ≢ AtNothing)
statement-kinds (Alone simple) = (simple-kinds simple).1
statement-kinds (Block open_mark inner close_mark) = ((λ e. absurd (cc)), (λ e. absurd (cc)))
statement-kinds (Headed head body) = (head-kinds head).1
statement-kinds (IfElse head body else_word other) = (head-kinds head).1

pub simple-no-head : (s : Simple) (h : Head) → simple_kind s ≡ head_kind h → ⊥
simple-no-head s (If word open_mark test close_mark) e = (simple-kinds s).0.1 e
simple-no-head s (While word open_mark test close_mark) e = (simple-kinds s).0.2 e
simple-no-head s (For word open_mark first semicolon test second_semicolon step close_mark) e = (simple-kinds s).0.3 e
simple-no-head s (ForIn word open_mark visitor in_word object close_mark) e = (simple-kinds s).0.3 e

pub no-simple-head : (k : Kind) (h : Head) → IsSimpleKind k → k ≡ head_kind h → ⊥
no-simple-head k (If word open_mark test close_mark) s e = s.0.1 e
no-simple-head k (While word open_mark test close_mark) s e = s.0.2 e
no-simple-head k (For word open_mark first semicolon test second_semicolon step close_mark) s e = s.0.3 e
no-simple-head k (ForIn word open_mark visitor in_word object close_mark) s e = s.0.3 e

pub no-head-simple : (k : Kind) (s : Simple) → IsHeadKind k → k ≡ simple_kind s → ⊥
no-head-simple k (Var word declarations semicolon) h e = h.0.1 e
no-head-simple k (Empty semicolon) h e = h.0.2 e
no-head-simple k (Jump word semicolon) h e = h.0.3 e
no-head-simple k (Return word value semicolon) h e = h.0.4 e
no-head-simple k (Expression expression semicolon) h e = h.0.5 e

-- behind the statement of an `if` that has no `else` stands none
no-else : (h : Head) (R : List Lexeme) (t : Lexeme) (more : List Lexeme) → is_if h ≡ true → NoElse h R → R ≡ t ∷ more → IsWord Else t → ⊥
no-else (If word open_mark test close_mark) R t more i n e = subst (λ x. NoElse (If word open_mark test close_mark) x) e n
no-else _ R t more i n e = absurd (cc)

mutual
  pub same-statement : (facts : ExpressionFacts) (p q : Setting) (s t : Statement) (R S : List Lexeme) → IsStatement p s R → IsStatement q t S → spelled s R ≡ spelled t S → (s ≡ t) × (R ≡ S)
  same-statement facts p q (Alone s) (Alone t) R S h g i =
      let r = same-simple facts p q s t R S h g i in (ap (λ x. Alone x) r.0, r.1)
  same-statement facts p q (Block o xs c) (Block m ys d) R S h g i =
      let x : List Lexeme = spelled_all xs (c ∷ R) in
      let y : List Lexeme = spelled_all ys (d ∷ S) in
      let k : o ≡ m = same-head o m x y i in
      let r = same-statements facts p q xs ys c d R S h.1 g.1 h.2 g.2 (same-tail o m x y i) in
      ((λ j. Block (k j) (r.0 j) (r.1.0 j)), r.1.1)
  same-statement facts p q (Headed a s) (Headed b t) R S h g i =
      let u = same-heads facts a b (spelled s R) (spelled t S) h.0 g.0 i in
      let r = same-statement facts (behind_head a p) (behind_head b q) s t R S h.1 g.1 u.1 in
      ((λ j. Headed (u.0 j) (r.0 j)), r.1)
  same-statement facts p q (IfElse a s e x) (IfElse b t f y) R S h g i =
      let u = same-heads facts a b (spelled s (e ∷ spelled x R)) (spelled t (f ∷ spelled y S)) h.0 g.0 i in
      let r = same-statement facts p q s t (e ∷ spelled x R) (f ∷ spelled y S) h.2 g.2 u.1 in
      let k : e ≡ f = same-head e f (spelled x R) (spelled y S) r.1 in
      let z = same-statement facts p q x y R S h.4 g.4 (same-tail e f (spelled x R) (spelled y S) r.1) in
      ((λ j. IfElse (u.0 j) (r.0 j) (k j) (z.0 j)), z.1)
  same-statement facts p q (Headed a s) (IfElse b t f y) R S h g i =
      let u = same-heads facts a b (spelled s R) (spelled t (f ∷ spelled y S)) h.0 g.0 i in
      let r = same-statement facts (behind_head a p) q s t R (f ∷ spelled y S) h.1 g.2 u.1 in
      absurd (no-else a R f (spelled y S) (ap (λ x. is_if x) u.0 ∙ g.1) h.2 r.1 g.3)
  same-statement facts p q (IfElse a s e x) (Headed b t) R S h g i =
      let u = same-heads facts a b (spelled s (e ∷ spelled x R)) (spelled t S) h.0 g.0 i in
      let r = same-statement facts p (behind_head b q) s t (e ∷ spelled x R) S h.2 g.1 u.1 in
      absurd (no-else b S e (spelled x R) (ap (λ y. is_if y) (sym u.0) ∙ h.1) g.2 (sym r.1) h.3)
  same-statement facts p q (Alone s) (Block m ys d) R S h g i =
      absurd ((simple-kinds s).0.0 (same-kind (spelled_simple s R) (m ∷ spelled_all ys (d ∷ S)) (simple_kind s) AtBlock (simple-begun facts p s R h) (statement-begun facts q (Block m ys d) S g) i))
  same-statement facts p q (Block o xs c) (Alone t) R S h g i =
      absurd ((simple-kinds t).0.0 (same-kind (spelled_simple t S) (o ∷ spelled_all xs (c ∷ R)) (simple_kind t) AtBlock (simple-begun facts q t S g) (statement-begun facts p (Block o xs c) R h) (sym i)))
  same-statement facts p q (Alone s) (Headed b t) R S h g i =
      absurd (simple-no-head s b (same-kind (spelled_simple s R) (spelled_head b (spelled t S)) (simple_kind s) (head_kind b) (simple-begun facts p s R h) (head-begun b (spelled t S) g.0) i))
  same-statement facts p q (Alone s) (IfElse b t f y) R S h g i =
      absurd (simple-no-head s b (same-kind (spelled_simple s R) (spelled_head b (spelled t (f ∷ spelled y S))) (simple_kind s) (head_kind b) (simple-begun facts p s R h) (head-begun b (spelled t (f ∷ spelled y S)) g.0) i))
  same-statement facts p q (Headed a s) (Alone t) R S h g i =
      absurd (simple-no-head t a (same-kind (spelled_simple t S) (spelled_head a (spelled s R)) (simple_kind t) (head_kind a) (simple-begun facts q t S g) (head-begun a (spelled s R) h.0) (sym i)))
  same-statement facts p q (IfElse a s e x) (Alone t) R S h g i =
      absurd (simple-no-head t a (same-kind (spelled_simple t S) (spelled_head a (spelled s (e ∷ spelled x R))) (simple_kind t) (head_kind a) (simple-begun facts q t S g) (head-begun a (spelled s (e ∷ spelled x R)) h.0) (sym i)))
  same-statement facts p q (Block o xs c) (Headed b t) R S h g i =
      absurd ((head-kinds b).0.0 (same-kind (spelled_head b (spelled t S)) (o ∷ spelled_all xs (c ∷ R)) (head_kind b) AtBlock (head-begun b (spelled t S) g.0) (statement-begun facts p (Block o xs c) R h) (sym i)))
  same-statement facts p q (Block o xs c) (IfElse b t f y) R S h g i =
      absurd ((head-kinds b).0.0 (same-kind (spelled_head b (spelled t (f ∷ spelled y S))) (o ∷ spelled_all xs (c ∷ R)) (head_kind b) AtBlock (head-begun b (spelled t (f ∷ spelled y S)) g.0) (statement-begun facts p (Block o xs c) R h) (sym i)))
  same-statement facts p q (Headed a s) (Block m ys d) R S h g i =
      absurd ((head-kinds a).0.0 (same-kind (spelled_head a (spelled s R)) (m ∷ spelled_all ys (d ∷ S)) (head_kind a) AtBlock (head-begun a (spelled s R) h.0) (statement-begun facts q (Block m ys d) S g) i))
  same-statement facts p q (IfElse a s e x) (Block m ys d) R S h g i =
      absurd ((head-kinds a).0.0 (same-kind (spelled_head a (spelled s (e ∷ spelled x R))) (m ∷ spelled_all ys (d ∷ S)) (head_kind a) AtBlock (head-begun a (spelled s (e ∷ spelled x R)) h.0) (statement-begun facts q (Block m ys d) S g) i))

  pub same-statements : (facts : ExpressionFacts) (p q : Setting) (xs ys : Statements) (c d : Lexeme) (R S : List Lexeme) → AreStatements p xs (c ∷ R) → AreStatements q ys (d ∷ S) → IsMark CloseBrace c → IsMark CloseBrace d → spelled_all xs (c ∷ R) ≡ spelled_all ys (d ∷ S) → (xs ≡ ys) × ((c ≡ d) × (R ≡ S))
  same-statements facts p q NoStatements NoStatements c d R S h g m n i = (refl, (same-head c d R S i, same-tail c d R S i))
  same-statements facts p q NoStatements (OneMore y ys) c d R S h g m n i =
      absurd ((statement-kinds y).1 (same-kind (spelled y (spelled_all ys (d ∷ S))) (c ∷ R) (statement_kind y) AtNothing (statement-begun facts q y (spelled_all ys (d ∷ S)) g.0) (begun c R AtNothing (brace-kind c m)) (sym i)))
  same-statements facts p q (OneMore x xs) NoStatements c d R S h g m n i =
      absurd ((statement-kinds x).1 (same-kind (spelled x (spelled_all xs (c ∷ R))) (d ∷ S) (statement_kind x) AtNothing (statement-begun facts p x (spelled_all xs (c ∷ R)) h.0) (begun d S AtNothing (brace-kind d n)) i))
  same-statements facts p q (OneMore x xs) (OneMore y ys) c d R S h g m n i =
      let u = same-statement facts p q x y (spelled_all xs (c ∷ R)) (spelled_all ys (d ∷ S)) h.0 g.0 i in
      let r = same-statements facts p q xs ys c d R S h.1 g.1 m n u.1 in
      ((λ j. OneMore (u.0 j) (r.0 j)), r.1)

-- functions

pub same-names : (ms ns : List FurtherName) (c d : Lexeme) (R S : List Lexeme) → AreNames ms → AreNames ns → IsMark CloseParenthesis c → IsMark CloseParenthesis d → spelled_names ms (c ∷ R) ≡ spelled_names ns (d ∷ S) → (ms ≡ ns) × ((c ≡ d) × (R ≡ S))
same-names [] [] c d R S h g m n i = (refl, (same-head c d R S i, same-tail c d R S i))
same-names [] (y ∷ ys) c d R S h g m n i =
    let k : c.symbol ≡ y.comma.symbol = ap (λ x. x.symbol) (same-head c y.comma R (y.name ∷ spelled_names ys (d ∷ S)) i) in
    let l : y.comma.symbol ≡ Mark Comma = g.0 in
    absurd (cc)
same-names (x ∷ xs) [] c d R S h g m n i =
    let k : x.comma.symbol ≡ d.symbol = ap (λ y. y.symbol) (same-head x.comma d (x.name ∷ spelled_names xs (c ∷ R)) S i) in
    let l : x.comma.symbol ≡ Mark Comma = h.0 in
    absurd (cc)
same-names (x ∷ xs) (y ∷ ys) c d R S h g m n i =
    let t = same-two x.comma x.name y.comma y.name (spelled_names xs (c ∷ R)) (spelled_names ys (d ∷ S)) i in
    let r = same-names xs ys c d R S h.2 g.2 m n t.1.1 in
    ((λ j. record { comma = t.0 j; name = t.1.0 j } ∷ r.0 j), r.1)

close-no-name : (c t : Lexeme) → IsMark CloseParenthesis c → IsName t → c ≡ t → ⊥
close-no-name c t m n e =
    let k : is_name c.symbol ≡ true = ap (λ x. is_name x.symbol) e ∙ n in
    let l : is_name c.symbol ≡ false = ap (λ x. is_name x) m in
    absurd (cc)

pub same-parameters : (ps qs : Parameters) (c d : Lexeme) (R S : List Lexeme) → AreParameters ps → AreParameters qs → IsMark CloseParenthesis c → IsMark CloseParenthesis d → spelled_parameters ps (c ∷ R) ≡ spelled_parameters qs (d ∷ S) → (ps ≡ qs) × ((c ≡ d) × (R ≡ S))
same-parameters NoParameters NoParameters c d R S h g m n i = (refl, (same-head c d R S i, same-tail c d R S i))
same-parameters NoParameters (SomeParameters y ys) c d R S h g m n i =
    absurd (close-no-name c y m g.0 (same-head c y R (spelled_names ys (d ∷ S)) i))
same-parameters (SomeParameters x xs) NoParameters c d R S h g m n i =
    absurd (close-no-name d x n h.0 (sym (same-head x d (spelled_names xs (c ∷ R)) S i)))
same-parameters (SomeParameters x xs) (SomeParameters y ys) c d R S h g m n i =
    let k : x ≡ y = same-head x y (spelled_names xs (c ∷ R)) (spelled_names ys (d ∷ S)) i in
    let r = same-names xs ys c d R S h.1 g.1 m n (same-tail x y (spelled_names xs (c ∷ R)) (spelled_names ys (d ∷ S)) i) in
    ((λ j. SomeParameters (k j) (r.0 j)), r.1)

pub same-front : (f g : Front) (R S : List Lexeme) → IsFront f → IsFront g → spelled_front f R ≡ spelled_front g S → (f ≡ g) × (R ≡ S)
same-front f g R S h k i =
    let t = same-two f.word f.name g.word g.name (f.open_mark ∷ spelled_parameters f.parameters (f.close_mark ∷ (f.open_brace ∷ R))) (g.open_mark ∷ spelled_parameters g.parameters (g.close_mark ∷ (g.open_brace ∷ S))) i in
    let x : List Lexeme = spelled_parameters f.parameters (f.close_mark ∷ (f.open_brace ∷ R)) in
    let y : List Lexeme = spelled_parameters g.parameters (g.close_mark ∷ (g.open_brace ∷ S)) in
    let o : f.open_mark ≡ g.open_mark = same-head f.open_mark g.open_mark x y t.1.1 in
    let r = same-parameters f.parameters g.parameters f.close_mark g.close_mark (f.open_brace ∷ R) (g.open_brace ∷ S) h.parameters k.parameters h.close_mark k.close_mark (same-tail f.open_mark g.open_mark x y t.1.1) in
    let b : f.open_brace ≡ g.open_brace = same-head f.open_brace g.open_brace R S r.1.1 in
    ((λ j. record { word = t.0 j; name = t.1.0 j; open_mark = o j; parameters = r.0 j; close_mark = r.1.0 j; open_brace = b j }), same-tail f.open_brace g.open_brace R S r.1.1)

-- the front of a function
abbrev pub front_of : Declared → Front
front_of d = record { word = d.word; name = d.name; open_mark = d.open_mark; parameters = d.parameters; close_mark = d.close_mark; open_brace = d.open_brace }

abbrev pub declared_of : Front → Statements → Lexeme → Declared
declared_of f body c = record { word = f.word; name = f.name; open_mark = f.open_mark; parameters = f.parameters; close_mark = f.close_mark; open_brace = f.open_brace; body = body; close_brace = c }

pub is-front : (d : Declared) (R : List Lexeme) → IsFunction d R → IsFront (front_of d)
is-front d R h = record { word = h.word; name = h.name; open_mark = h.open_mark; parameters = h.parameters; differ = h.differ; close_mark = h.close_mark; open_brace = h.open_brace }

pub is-function : (f : Front) (body : Statements) (c : Lexeme) (R : List Lexeme) → IsFront f → AreStatements (setting false true) body (c ∷ R) → IsMark CloseBrace c → IsFunction (declared_of f body c) R
is-function f body c R h b m = record { word = h.word; name = h.name; open_mark = h.open_mark; parameters = h.parameters; differ = h.differ; close_mark = h.close_mark; open_brace = h.open_brace; body = b; close_brace = m }

pub same-function : (facts : ExpressionFacts) (d e : Declared) (R S : List Lexeme) → IsFunction d R → IsFunction e S → spelled_function d R ≡ spelled_function e S → (d ≡ e) × (R ≡ S)
same-function facts d e R S h g i =
    let f = same-front (front_of d) (front_of e) (spelled_all d.body (d.close_brace ∷ R)) (spelled_all e.body (e.close_brace ∷ S)) (is-front d R h) (is-front e S g) i in
    let r = same-statements facts (setting false true) (setting false true) d.body e.body d.close_brace e.close_brace R S h.body g.body h.close_brace g.close_brace f.1 in
    ((λ j. declared_of (f.0 j) (r.0 j) (r.1.0 j)), r.1.1)

-- programs

pub function-no-statement : (facts : ExpressionFacts) (d : Declared) (p : Setting) (s : Statement) (R S : List Lexeme) → IsWord FunctionWord d.word → IsStatement p s S → spelled_function d R ≡ spelled s S → ⊥
function-no-statement facts d p s R S h g i =
    (statement-kinds s).0 (same-kind (spelled s S) (spelled_function d R) (statement_kind s) AtFunction (statement-begun facts p s S g)
    (begun d.word (d.name ∷ (d.open_mark ∷ spelled_parameters d.parameters (d.close_mark ∷ (d.open_brace ∷ spelled_all d.body (d.close_brace ∷ R))))) AtFunction (function-kind d.word h)) (sym i))

statement-some : (facts : ExpressionFacts) (p : Setting) (s : Statement) (R : List Lexeme) → IsStatement p s R → [] ≡ spelled s R → ⊥
statement-some facts p s R h i = let b : Begun (spelled s R) (statement_kind s) = statement-begun facts p s R h in let k : [] ≡ b.token ∷ b.more = i ∙ b.begins in absurd (cc)

pub same-items : (facts : ExpressionFacts) (is js : List Item) → AreItems is [] → AreItems js [] → spelled_items is [] ≡ spelled_items js [] → is ≡ js
same-items facts [] [] h g i = refl
same-items facts [] (Function e ∷ js) h g i = absurd (cc)
same-items facts (Function d ∷ is) [] h g i = absurd (cc)
same-items facts [] (Single t ∷ js) h g i = absurd (statement-some facts (setting false false) t (spelled_items js []) g.0 i)
same-items facts (Single s ∷ is) [] h g i = absurd (statement-some facts (setting false false) s (spelled_items is []) h.0 (sym i))
same-items facts (Function d ∷ is) (Function e ∷ js) h g i =
    let r = same-function facts d e (spelled_items is []) (spelled_items js []) h.0 g.0 i in
    let t : is ≡ js = same-items facts is js h.1 g.1 r.1 in
    (λ j. Function (r.0 j) ∷ t j)
same-items facts (Single s ∷ is) (Single t ∷ js) h g i =
    let r = same-statement facts (setting false false) (setting false false) s t (spelled_items is []) (spelled_items js []) h.0 g.0 i in
    let u : is ≡ js = same-items facts is js h.1 g.1 r.1 in
    (λ j. Single (r.0 j) ∷ u j)
same-items facts (Function d ∷ is) (Single t ∷ js) h g i =
    absurd (function-no-statement facts d (setting false false) t (spelled_items is []) (spelled_items js []) h.0.word g.0 i)
same-items facts (Single s ∷ is) (Function e ∷ js) h g i =
    absurd (function-no-statement facts e (setting false false) s (spelled_items js []) (spelled_items is []) g.0.word h.0 (sym i))

pub same-program : (facts : ExpressionFacts) (tokens : List Lexeme) (is js : List Item) → IsProgram tokens is → IsProgram tokens js → is ≡ js
same-program facts tokens is js h g = same-items facts is js h.are g.are (h.is_spelled ∙ sym g.is_spelled)
