-- The steps of the reader: what may come behind what is read.
use Rattle.std.proofs.Common.{◌≡◌, ◌≢◌, true, false, inl, inr, List, [], ◌∷◌, Some, refl, sym, ◌∙◌, ap, subst}
use Rattle.es_lexer.specs.declared.words.ReservedWord.TheVariants.{Else}
use Rattle.es_lexer.specs.declared.punctuators.Punctuator.TheVariants.{OpenBrace, CloseBrace}
use Rattle.es_expressions.specs.declared.lexemes.Lexeme.{Lexeme}
use Rattle.es_reader.specs.Statements.{Simple, Head, Statement, Statements, Declared, Item, spelled_simple, spelled_head, spelled, spelled_all, spelled_function, spelled_items, spelled_parameters}
use Rattle.es_reader.specs.Statements.Head.{If, While, For, ForIn}
use Rattle.es_reader.specs.Statements.Statement.{Alone, Block, Headed, IfElse}
use Rattle.es_reader.specs.Statements.Statements.{NoStatements, OneMore}
use Rattle.es_reader.specs.Statements.Item.{Function, Single}
use Rattle.es_reader.specs.Grammar.{IsWord, IsMark, Setting, setting, IsSimple, IsHead, is_if, behind_head, NoElse, IsStatement, AreStatements, IsFunction, AreItems}
use Rattle.es_reader.specs.Openings.{Opening, Front, IsFront, Outer, place_in, spelled_front, MayFollow, MayCome, first_of}
use Rattle.es_reader.specs.Openings.Opening.{InBlock, InHead, InElse}
use Rattle.es_reader.specs.Openings.Outer.{InProgram, InFunction}
use Rattle.es_reader.proofs.ExpressionFacts.{ExpressionFacts}
use Rattle.es_reader.proofs.Tokens.{Kind, kind_of, function-kind, open-kind, brace-kind}
use Rattle.es_reader.proofs.Tokens.Kind.{AtBlock, AtFunction, AtNothing}
use Rattle.es_reader.proofs.Uniqueness.{same-head, same-tail, Begun, same-kind, begun, simple_kind, head_kind, statement_kind, simple-begun, head-begun, statement-begun, simple-kinds, head-kinds, statement-kinds, simple-no-head, IsSimpleKind, IsHeadKind, no-simple-head, no-head-simple, same-heads, same-statement, same-front, front_of, is-front}
pub use Rattle.es_reader.proofs.Completion.{followed, and_then, followed-spelled, are-followed, items-followed, are-items-followed, Completes, place-behind, then-spelled, are-then, read-in-block, written-in-block, read-in-function, written-in-function, read-in-program, written-in-program, read-headed, is-headed, read-else, read-if-else, is-if-else, read-block, is-block, read-function, written-function, read-front, Goes, joins, whole-program, completes, begins-read, completes-statement, begins-statement, begins-head, begins-front}

-- what comes, by cases

-- in a block or a function: its `}`, or a statement
pub data BlockComes (place : Setting) (Within Behind : List Lexeme → Type 0) (coming : List Lexeme) : Type 0 where
  Closing : (close_mark : Lexeme) → (rest : List Lexeme) → IsMark CloseBrace close_mark → coming ≡ close_mark ∷ rest → Behind rest
      → BlockComes place Within Behind coming
  Running : (statement : Statement) → (rest : List Lexeme) → IsStatement place statement rest → coming ≡ spelled statement rest
      → Within rest → BlockComes place Within Behind coming

-- in a program: its end, a function, or a statement
pub data ProgramComes (coming : List Lexeme) : Type 0 where
  Ending : coming ≡ [] → ProgramComes coming
  Declaring : (declared : Declared) → (rest : List Lexeme) → IsFunction declared rest → coming ≡ spelled_function declared rest
      → MayFollow [] (InProgram []) rest → ProgramComes coming
  Stating : (statement : Statement) → (rest : List Lexeme) → IsStatement (setting false false) statement rest
      → coming ≡ spelled statement rest → MayFollow [] (InProgram []) rest → ProgramComes coming

block-cases : (os : List Opening) (outer : Outer) (o : Lexeme) (done inner : Statements) (c : Lexeme) (rest coming : List Lexeme) → AreStatements (place_in os outer) inner (c ∷ rest) → IsMark CloseBrace c → spelled_all inner (c ∷ rest) ≡ coming → MayFollow os outer rest → BlockComes (place_in os outer) (MayFollow (InBlock o done ∷ os) outer) (MayFollow os outer) coming
block-cases os outer o done NoStatements c rest coming h m e f = Closing c rest m (sym e) f
block-cases os outer o done (OneMore s ss) c rest coming h m e f = Running s (spelled_all ss (c ∷ rest)) h.0 (sym e) (ss, c, rest, h.1, m, refl, f)

pub block-comes : (os : List Opening) (outer : Outer) (o : Lexeme) (done : Statements) (coming : List Lexeme) → MayCome (InBlock o done ∷ os) outer coming → BlockComes (place_in os outer) (MayFollow (InBlock o done ∷ os) outer) (MayFollow os outer) coming
block-comes os outer o done coming m = block-cases os outer o done m.0 m.1 m.2 coming m.3 m.4 m.5 m.6

function-cases : (done : List Item) (front : Front) (body inner : Statements) (c : Lexeme) (items : List Item) (coming : List Lexeme) → AreStatements (setting false true) inner (c ∷ spelled_items items []) → IsMark CloseBrace c → AreItems items [] → spelled_all inner (c ∷ spelled_items items []) ≡ coming → BlockComes (setting false true) (MayFollow [] (InFunction done front body)) (MayFollow [] (InProgram done)) coming
function-cases done front body NoStatements c items coming h m f e = Closing c (spelled_items items []) m (sym e) (items, f, refl)
function-cases done front body (OneMore s ss) c items coming h m f e = Running s (spelled_all ss (c ∷ spelled_items items [])) h.0 (sym e) (ss, c, items, h.1, m, f, refl)

pub function-comes : (done : List Item) (front : Front) (body : Statements) (coming : List Lexeme) → MayCome [] (InFunction done front body) coming → BlockComes (setting false true) (MayFollow [] (InFunction done front body)) (MayFollow [] (InProgram done)) coming
function-comes done front body coming m = function-cases done front body m.0 m.1 m.2 coming m.3 m.4 m.5 m.6

program-cases : (items : List Item) (coming : List Lexeme) → AreItems items [] → spelled_items items [] ≡ coming → ProgramComes coming
program-cases [] coming h e = Ending (sym e)
program-cases (Function d ∷ items) coming h e = Declaring d (spelled_items items []) h.0 (sym e) (items, h.1, refl)
program-cases (Single s ∷ items) coming h e = Stating s (spelled_items items []) h.0 (sym e) (items, h.1, refl)

pub program-comes : (done : List Item) (coming : List Lexeme) → MayCome [] (InProgram done) coming → ProgramComes coming
program-comes done coming m = program-cases m.0 coming m.1 m.2

-- a `}` closes a block and a function

pub closes-block : (facts : ExpressionFacts) (os : List Opening) (outer : Outer) (o : Lexeme) (done : Statements) (c : Lexeme) (rest : List Lexeme) → MayCome (InBlock o done ∷ os) outer (c ∷ rest) → IsMark CloseBrace c → MayFollow os outer rest
closes-block facts os outer o done c rest m b = closed facts (place_in os outer) (MayFollow (InBlock o done ∷ os) outer) (MayFollow os outer) c rest b (block-comes os outer o done (c ∷ rest) m)
  where
    closed : (facts : ExpressionFacts) (p : Setting) (Within Behind : List Lexeme → Type 0) (c : Lexeme) (rest : List Lexeme) → IsMark CloseBrace c → BlockComes p Within Behind (c ∷ rest) → Behind rest
    closed facts p Within Behind c rest b (Closing d others n e f) = subst Behind (sym (same-tail c d rest others e)) f
    closed facts p Within Behind c rest b (Running s others h e f) =
        absurd ((statement-kinds s).1 (same-kind (spelled s others) (c ∷ rest) (statement_kind s) AtNothing (statement-begun facts p s others h) (begun c rest AtNothing (brace-kind c b)) (sym e)))

pub closes-function : (facts : ExpressionFacts) (done : List Item) (front : Front) (body : Statements) (c : Lexeme) (rest : List Lexeme) → MayCome [] (InFunction done front body) (c ∷ rest) → IsMark CloseBrace c → MayFollow [] (InProgram done) rest
closes-function facts done front body c rest m b = closed facts (setting false true) (MayFollow [] (InFunction done front body)) (MayFollow [] (InProgram done)) c rest b (function-comes done front body (c ∷ rest) m)
  where
    closed : (facts : ExpressionFacts) (p : Setting) (Within Behind : List Lexeme → Type 0) (c : Lexeme) (rest : List Lexeme) → IsMark CloseBrace c → BlockComes p Within Behind (c ∷ rest) → Behind rest
    closed facts p Within Behind c rest b (Closing d others n e f) = subst Behind (sym (same-tail c d rest others e)) f
    closed facts p Within Behind c rest b (Running s others h e f) =
        absurd ((statement-kinds s).1 (same-kind (spelled s others) (c ∷ rest) (statement_kind s) AtNothing (statement-begun facts p s others h) (begun c rest AtNothing (brace-kind c b)) (sym e)))

-- a statement that comes

pub record ComesAs (os : List Opening) (outer : Outer) (coming : List Lexeme) : Type 0 where
  pub statement : Statement
  pub rest : List Lexeme
  pub is : IsStatement (place_in os outer) statement rest
  pub same : coming ≡ spelled statement rest
  pub may : MayFollow os outer rest

closing-kind : (c t : Lexeme) (rest more coming : List Lexeme) → IsMark CloseBrace c → coming ≡ c ∷ rest → coming ≡ t ∷ more → kind_of t ≡ AtNothing
closing-kind c t rest more coming b e f = ap (λ x. kind_of x) (same-head t c more rest (sym f ∙ e)) ∙ brace-kind c b

declaring-kind : (d : Declared) (t : Lexeme) (rest more coming : List Lexeme) → IsFunction d rest → coming ≡ spelled_function d rest → coming ≡ t ∷ more → kind_of t ≡ AtFunction
declaring-kind d t rest more coming h e f =
    ap (λ x. kind_of x) (same-head t d.word more (d.name ∷ (d.open_mark ∷ spelled_parameters d.parameters (d.close_mark ∷ (d.open_brace ∷ spelled_all d.body (d.close_brace ∷ rest))))) (sym f ∙ e))
    ∙ function-kind d.word h.word

pub comes-as : (facts : ExpressionFacts) (os : List Opening) (outer : Outer) (coming : List Lexeme) (t : Lexeme) (more : List Lexeme) → MayCome os outer coming → coming ≡ t ∷ more → kind_of t ≢ AtNothing → kind_of t ≢ AtFunction → ComesAs os outer coming
comes-as facts [] (InProgram done) coming t more m e n f = by-case coming t more e n f (program-comes done coming m)
  where
    by-case : (coming : List Lexeme) (t : Lexeme) (more : List Lexeme) → coming ≡ t ∷ more → kind_of t ≢ AtNothing → kind_of t ≢ AtFunction → ProgramComes coming → ComesAs [] (InProgram done) coming
    by-case coming t more e n f (Ending i) = absurd (cc)
    by-case coming t more e n f (Declaring d rest h i k) = absurd (f (declaring-kind d t rest more coming h i e))
    by-case coming t more e n f (Stating s rest h i k) = record { statement = s; rest = rest; is = h; same = i; may = k }
comes-as facts [] (InFunction done front body) coming t more m e n f = by-case coming t more e n f (function-comes done front body coming m)
  where
    by-case : (coming : List Lexeme) (t : Lexeme) (more : List Lexeme) → coming ≡ t ∷ more → kind_of t ≢ AtNothing → kind_of t ≢ AtFunction → BlockComes (setting false true) (MayFollow [] (InFunction done front body)) (MayFollow [] (InProgram done)) coming → ComesAs [] (InFunction done front body) coming
    by-case coming t more e n f (Closing c rest b i k) = absurd (n (closing-kind c t rest more coming b i e))
    by-case coming t more e n f (Running s rest h i k) = record { statement = s; rest = rest; is = h; same = i; may = k }
comes-as facts (InBlock o done ∷ os) outer coming t more m e n f = by-case coming t more e n f (block-comes os outer o done coming m)
  where
    by-case : (coming : List Lexeme) (t : Lexeme) (more : List Lexeme) → coming ≡ t ∷ more → kind_of t ≢ AtNothing → kind_of t ≢ AtFunction → BlockComes (place_in os outer) (MayFollow (InBlock o done ∷ os) outer) (MayFollow os outer) coming → ComesAs (InBlock o done ∷ os) outer coming
    by-case coming t more e n f (Closing c rest b i k) = absurd (n (closing-kind c t rest more coming b i e))
    by-case coming t more e n f (Running s rest h i k) = record { statement = s; rest = rest; is = h; same = i; may = k }
comes-as facts (InHead h ∷ os) outer coming t more m e n f = record { statement = m.0; rest = m.1; is = m.2; same = sym m.3; may = m.4 }
comes-as facts (InElse h body w ∷ os) outer coming t more m e n f = record { statement = m.0; rest = m.1; is = m.2; same = sym m.3; may = m.4 }

comes-at : (facts : ExpressionFacts) (os : List Opening) (outer : Outer) (coming : List Lexeme) (k : Kind) → MayCome os outer coming → Begun coming k → k ≢ AtNothing → k ≢ AtFunction → ComesAs os outer coming
comes-at facts os outer coming k m b n f =
    comes-as facts os outer coming b.token b.more m b.begins (λ e. n (sym b.tells ∙ e)) (λ e. f (sym b.tells ∙ e))

-- a whole statement is what came
pub statement-read : (facts : ExpressionFacts) (os : List Opening) (outer : Outer) (s : Statement) (rest : List Lexeme) → MayCome os outer (spelled s rest) → IsStatement (place_in os outer) s rest → MayFollow os outer rest
statement-read facts os outer s rest m h =
    let c : ComesAs os outer (spelled s rest) = comes-at facts os outer (spelled s rest) (statement_kind s) m (statement-begun facts (place_in os outer) s rest h) (statement-kinds s).1 (statement-kinds s).0 in
    let r = same-statement facts (place_in os outer) (place_in os outer) s c.statement rest c.rest h c.is c.same in
    subst (λ x. MayFollow os outer x) (sym r.1) c.may

pub simple-read : (facts : ExpressionFacts) (os : List Opening) (outer : Outer) (s : Simple) (rest : List Lexeme) → MayCome os outer (spelled_simple s rest) → IsSimple (place_in os outer) s rest → MayFollow os outer rest
simple-read facts os outer s rest m h = statement-read facts os outer (Alone s) rest m h

-- a head is that of the statement that came
head-came : (facts : ExpressionFacts) (os : List Opening) (outer : Outer) (h : Head) (R : List Lexeme) (s : Statement) (rest : List Lexeme) → IsHead h → IsStatement (place_in os outer) s rest → spelled_head h R ≡ spelled s rest → MayFollow os outer rest → MayCome (InHead h ∷ os) outer R
head-came facts os outer h R (Alone s) rest i g e f =
    absurd (simple-no-head s h (same-kind (spelled_simple s rest) (spelled_head h R) (simple_kind s) (head_kind h) (simple-begun facts (place_in os outer) s rest g) (head-begun h R i) (sym e)))
head-came facts os outer h R (Block o inner c) rest i g e f =
    absurd ((head-kinds h).0.0 (same-kind (spelled_head h R) (o ∷ spelled_all inner (c ∷ rest)) (head_kind h) AtBlock (head-begun h R i) (begun o (spelled_all inner (c ∷ rest)) AtBlock (open-kind o g.0)) e))
head-came facts os outer h R (Headed a s) rest i g e f =
    let r = same-heads facts h a R (spelled s rest) i g.0 e in (
      s,
      rest,
      subst (λ x. IsStatement (behind_head x (place_in os outer)) s rest) (sym r.0) g.1,
      sym r.1,
      inl (subst (λ x. NoElse x rest) (sym r.0) g.2, f),
    )
head-came facts os outer h R (IfElse a s w other) rest i g e f =
    let r = same-heads facts h a R (spelled s (w ∷ spelled other rest)) i g.0 e in
    let k : is_if h ≡ true = ap (λ x. is_if x) r.0 ∙ g.1 in (
      s,
      w ∷ spelled other rest,
      subst (λ p. IsStatement p s (w ∷ spelled other rest)) (sym (place-behind h (place_in os outer) k)) g.2,
      sym r.1,
      inr (k, (w, other, rest, refl, g.3, g.4, f)),
    )

pub head-read : (facts : ExpressionFacts) (os : List Opening) (outer : Outer) (h : Head) (rest : List Lexeme) → MayCome os outer (spelled_head h rest) → IsHead h → MayCome (InHead h ∷ os) outer rest
head-read facts os outer h rest m i =
    let c : ComesAs os outer (spelled_head h rest) = comes-at facts os outer (spelled_head h rest) (head_kind h) m (head-begun h rest i) (head-kinds h).1.1 (head-kinds h).1.0 in
    head-came facts os outer h rest c.statement c.rest i c.is c.same c.may

-- a `{` is that of the block that came
block-came : (facts : ExpressionFacts) (os : List Opening) (outer : Outer) (o : Lexeme) (R : List Lexeme) (s : Statement) (rest : List Lexeme) → IsMark OpenBrace o → IsStatement (place_in os outer) s rest → o ∷ R ≡ spelled s rest → MayFollow os outer rest → MayCome (InBlock o NoStatements ∷ os) outer R
block-came facts os outer o R (Alone s) rest i g e f =
    absurd ((simple-kinds s).0.0 (same-kind (spelled_simple s rest) (o ∷ R) (simple_kind s) AtBlock (simple-begun facts (place_in os outer) s rest g) (begun o R AtBlock (open-kind o i)) (sym e)))
block-came facts os outer o R (Headed a s) rest i g e f =
    absurd ((head-kinds a).0.0 (same-kind (spelled_head a (spelled s rest)) (o ∷ R) (head_kind a) AtBlock (head-begun a (spelled s rest) g.0) (begun o R AtBlock (open-kind o i)) (sym e)))
block-came facts os outer o R (IfElse a s w other) rest i g e f =
    absurd ((head-kinds a).0.0 (same-kind (spelled_head a (spelled s (w ∷ spelled other rest))) (o ∷ R) (head_kind a) AtBlock (head-begun a (spelled s (w ∷ spelled other rest)) g.0) (begun o R AtBlock (open-kind o i)) (sym e)))
block-came facts os outer o R (Block q inner c) rest i g e f =
    (inner, c, rest, g.1, g.2, sym (same-tail o q R (spelled_all inner (c ∷ rest)) e), f)

pub block-read : (facts : ExpressionFacts) (os : List Opening) (outer : Outer) (o : Lexeme) (rest : List Lexeme) → MayCome os outer (o ∷ rest) → IsMark OpenBrace o → MayCome (InBlock o NoStatements ∷ os) outer rest
block-read facts os outer o rest m i =
    let b : Begun (o ∷ rest) AtBlock = begun o rest AtBlock (open-kind o i) in
    let c : ComesAs os outer (o ∷ rest) = comes-at facts os outer (o ∷ rest) AtBlock m b (λ e. absurd (cc)) (λ e. absurd (cc)) in
    block-came facts os outer o rest c.statement c.rest i c.is c.same c.may

-- the front of a function is that of the function that came
front-came : (facts : ExpressionFacts) (done : List Item) (f : Front) (R : List Lexeme) → IsFront f → ProgramComes (spelled_front f R) → MayCome [] (InFunction done f NoStatements) R
front-came facts done f R h (Ending e) = absurd (cc)
front-came facts done f R h (Stating s rest g e m) =
    absurd ((statement-kinds s).0 (same-kind (spelled s rest) (spelled_front f R) (statement_kind s) AtFunction (statement-begun facts (setting false false) s rest g)
    (begun f.word (f.name ∷ (f.open_mark ∷ spelled_parameters f.parameters (f.close_mark ∷ (f.open_brace ∷ R)))) AtFunction (function-kind f.word h.word)) (sym e)))
front-came facts done f R h (Declaring d rest g e m) =
    let r = same-front f (front_of d) R (spelled_all d.body (d.close_brace ∷ rest)) h (is-front d rest g) e in (
      d.body,
      d.close_brace,
      m.0,
      subst (λ x. AreStatements (setting false true) d.body (d.close_brace ∷ x)) (sym m.2) g.body,
      g.close_brace,
      m.1,
      ap (λ x. spelled_all d.body (d.close_brace ∷ x)) m.2 ∙ sym r.1,
    )

pub front-read : (facts : ExpressionFacts) (done : List Item) (f : Front) (rest : List Lexeme) → MayCome [] (InProgram done) (spelled_front f rest) → IsFront f → MayCome [] (InFunction done f NoStatements) rest
front-read facts done f rest m h = front-came facts done f rest h (program-comes done (spelled_front f rest) m)

-- behind a statement with a head: an `else` behind that of an `if`, and else what follows it

pub else-read : (os : List Opening) (outer : Outer) (h : Head) (body : Statement) (e : Lexeme) (rest : List Lexeme) → MayFollow (InHead h ∷ os) outer (e ∷ rest) → is_if h ≡ true → IsWord Else e → MayCome (InElse h body e ∷ os) outer rest
else-read os outer (If word open_mark test close_mark) body e rest (inl m) i w = absurd (m.0 w)
else-read os outer (While word open_mark test close_mark) body e rest (inl m) i w = absurd (cc)
else-read os outer (For word open_mark first semicolon test second_semicolon step close_mark) body e rest (inl m) i w = absurd (cc)
else-read os outer (ForIn word open_mark visitor in_word object close_mark) body e rest (inl m) i w = absurd (cc)
else-read os outer h body e rest (inr m) i w =
    (m.1.1, m.1.2, m.1.5, sym (same-tail e m.1.0 rest (spelled m.1.1 m.1.2) m.1.3), m.1.6)

if-no-else : (h : Head) (coming : List Lexeme) (w : Lexeme) (rest : List Lexeme) → is_if h ≡ true → NoElse h coming → coming ≡ w ∷ rest → IsWord Else w → ⊥
if-no-else (If word open_mark test close_mark) coming w rest i n e = subst (λ x. NoElse (If word open_mark test close_mark) x) e n
if-no-else _ coming w rest i n e = absurd (cc)

pub no-else-read : (os : List Opening) (outer : Outer) (h : Head) (coming : List Lexeme) → MayFollow (InHead h ∷ os) outer coming → NoElse h coming → MayFollow os outer coming
no-else-read os outer h coming (inl m) n = m.1
no-else-read os outer h coming (inr m) n = absurd (if-no-else h coming m.1.0 (spelled m.1.1 m.1.2) m.0 n m.1.3 m.1.4)

-- where no `else` can stand

pub no-if : (h : Head) (coming : List Lexeme) → is_if h ≡ false → NoElse h coming
no-if (If word open_mark test close_mark) coming e = absurd (cc)
no-if (While word open_mark test close_mark) coming e = tt
no-if (For word open_mark first semicolon test second_semicolon step close_mark) coming e = tt
no-if (ForIn word open_mark visitor in_word object close_mark) coming e = tt

pub no-else-first : (h : Head) (coming : List Lexeme) → ((t : Lexeme) → first_of coming ≡ Some t → IsWord Else t → ⊥) → NoElse h coming
no-else-first (If word open_mark test close_mark) [] n = tt
no-else-first (If word open_mark test close_mark) (t ∷ ts) n = n t refl
no-else-first (While word open_mark test close_mark) coming n = tt
no-else-first (For word open_mark first semicolon test second_semicolon step close_mark) coming n = tt
no-else-first (ForIn word open_mark visitor in_word object close_mark) coming n = tt

-- tokens that can't come

statement-no-end : (facts : ExpressionFacts) (p : Setting) (s : Statement) (rest : List Lexeme) → IsStatement p s rest → [] ≡ spelled s rest → ⊥
statement-no-end facts p s rest h e =
    let b : Begun (spelled s rest) (statement_kind s) = statement-begun facts p s rest h in
    let k : [] ≡ b.token ∷ b.more = e ∙ b.begins in
    absurd (cc)

pub statement-token-kind : (facts : ExpressionFacts) (p : Setting) (s : Statement) (rest : List Lexeme) (t : Lexeme) (more : List Lexeme) → IsStatement p s rest → t ∷ more ≡ spelled s rest → kind_of t ≡ statement_kind s
statement-token-kind facts p s rest t more h e =
    same-kind (t ∷ more) (spelled s rest) (kind_of t) (statement_kind s) (begun t more (kind_of t) refl) (statement-begun facts p s rest h) e

pub block-no-end : (facts : ExpressionFacts) (p : Setting) (Within Behind : List Lexeme → Type 0) → BlockComes p Within Behind [] → ⊥
block-no-end facts p Within Behind (Closing c rest b e f) = absurd (cc)
block-no-end facts p Within Behind (Running s rest h e f) = statement-no-end facts p s rest h e

pub block-nothing : (facts : ExpressionFacts) (p : Setting) (Within Behind : List Lexeme → Type 0) (t : Lexeme) (more : List Lexeme) → BlockComes p Within Behind (t ∷ more) → kind_of t ≡ AtNothing → IsMark CloseBrace t
block-nothing facts p Within Behind t more (Closing c rest b e f) k = ap (λ x. x.symbol) (same-head t c more rest e) ∙ b
block-nothing facts p Within Behind t more (Running s rest h e f) k = absurd ((statement-kinds s).1 (sym (statement-token-kind facts p s rest t more h e) ∙ k))

pub block-no-function : (facts : ExpressionFacts) (p : Setting) (Within Behind : List Lexeme → Type 0) (t : Lexeme) (more : List Lexeme) → BlockComes p Within Behind (t ∷ more) → kind_of t ≡ AtFunction → ⊥
block-no-function facts p Within Behind t more (Closing c rest b e f) k =
    let n : kind_of t ≡ AtNothing = closing-kind c t rest more (t ∷ more) b e refl in absurd (cc)
block-no-function facts p Within Behind t more (Running s rest h e f) k = (statement-kinds s).0 (sym (statement-token-kind facts p s rest t more h e) ∙ k)

-- in a block or a function a `}` or a statement comes

pub no-end-in-block : (facts : ExpressionFacts) (os : List Opening) (outer : Outer) (o : Lexeme) (done : Statements) → MayCome (InBlock o done ∷ os) outer [] → ⊥
no-end-in-block facts os outer o done m =
    block-no-end facts (place_in os outer) (MayFollow (InBlock o done ∷ os) outer) (MayFollow os outer) (block-comes os outer o done [] m)

pub nothing-in-block : (facts : ExpressionFacts) (os : List Opening) (outer : Outer) (o : Lexeme) (done : Statements) (t : Lexeme) (more : List Lexeme) → MayCome (InBlock o done ∷ os) outer (t ∷ more) → kind_of t ≡ AtNothing → IsMark CloseBrace t
nothing-in-block facts os outer o done t more m k =
    block-nothing facts (place_in os outer) (MayFollow (InBlock o done ∷ os) outer) (MayFollow os outer) t more (block-comes os outer o done (t ∷ more) m) k

pub no-function-in-block : (facts : ExpressionFacts) (os : List Opening) (outer : Outer) (o : Lexeme) (done : Statements) (t : Lexeme) (more : List Lexeme) → MayCome (InBlock o done ∷ os) outer (t ∷ more) → kind_of t ≡ AtFunction → ⊥
no-function-in-block facts os outer o done t more m k =
    block-no-function facts (place_in os outer) (MayFollow (InBlock o done ∷ os) outer) (MayFollow os outer) t more (block-comes os outer o done (t ∷ more) m) k

pub no-end-in-function : (facts : ExpressionFacts) (done : List Item) (front : Front) (body : Statements) → MayCome [] (InFunction done front body) [] → ⊥
no-end-in-function facts done front body m =
    block-no-end facts (setting false true) (MayFollow [] (InFunction done front body)) (MayFollow [] (InProgram done)) (function-comes done front body [] m)

pub nothing-in-function : (facts : ExpressionFacts) (done : List Item) (front : Front) (body : Statements) (t : Lexeme) (more : List Lexeme) → MayCome [] (InFunction done front body) (t ∷ more) → kind_of t ≡ AtNothing → IsMark CloseBrace t
nothing-in-function facts done front body t more m k =
    block-nothing facts (setting false true) (MayFollow [] (InFunction done front body)) (MayFollow [] (InProgram done)) t more (function-comes done front body (t ∷ more) m) k

pub no-function-in-function : (facts : ExpressionFacts) (done : List Item) (front : Front) (body : Statements) (t : Lexeme) (more : List Lexeme) → MayCome [] (InFunction done front body) (t ∷ more) → kind_of t ≡ AtFunction → ⊥
no-function-in-function facts done front body t more m k =
    block-no-function facts (setting false true) (MayFollow [] (InFunction done front body)) (MayFollow [] (InProgram done)) t more (function-comes done front body (t ∷ more) m) k

-- in a program its end, a function or a statement comes

program-nothing : (facts : ExpressionFacts) (t : Lexeme) (more : List Lexeme) → ProgramComes (t ∷ more) → kind_of t ≡ AtNothing → ⊥
program-nothing facts t more (Ending e) k = absurd (cc)
program-nothing facts t more (Declaring d rest h e f) k =
    let n : kind_of t ≡ AtFunction = declaring-kind d t rest more (t ∷ more) h e refl in absurd (cc)
program-nothing facts t more (Stating s rest h e f) k = (statement-kinds s).1 (sym (statement-token-kind facts (setting false false) s rest t more h e) ∙ k)

pub nothing-in-program : (facts : ExpressionFacts) (done : List Item) (t : Lexeme) (more : List Lexeme) → MayCome [] (InProgram done) (t ∷ more) → kind_of t ≡ AtNothing → ⊥
nothing-in-program facts done t more m k = program-nothing facts t more (program-comes done (t ∷ more) m) k

-- behind a head and behind an `else` a statement comes

pub no-end-in-head : (facts : ExpressionFacts) (os : List Opening) (outer : Outer) (h : Head) → MayCome (InHead h ∷ os) outer [] → ⊥
no-end-in-head facts os outer h m = statement-no-end facts (behind_head h (place_in os outer)) m.0 m.1 m.2 (sym m.3)

pub nothing-in-head : (facts : ExpressionFacts) (os : List Opening) (outer : Outer) (h : Head) (t : Lexeme) (more : List Lexeme) → MayCome (InHead h ∷ os) outer (t ∷ more) → kind_of t ≡ AtNothing → ⊥
nothing-in-head facts os outer h t more m k =
    (statement-kinds m.0).1 (sym (statement-token-kind facts (behind_head h (place_in os outer)) m.0 m.1 t more m.2 (sym m.3)) ∙ k)

pub no-function-in-head : (facts : ExpressionFacts) (os : List Opening) (outer : Outer) (h : Head) (t : Lexeme) (more : List Lexeme) → MayCome (InHead h ∷ os) outer (t ∷ more) → kind_of t ≡ AtFunction → ⊥
no-function-in-head facts os outer h t more m k =
    (statement-kinds m.0).0 (sym (statement-token-kind facts (behind_head h (place_in os outer)) m.0 m.1 t more m.2 (sym m.3)) ∙ k)

pub no-end-in-else : (facts : ExpressionFacts) (os : List Opening) (outer : Outer) (h : Head) (body : Statement) (w : Lexeme) → MayCome (InElse h body w ∷ os) outer [] → ⊥
no-end-in-else facts os outer h body w m = statement-no-end facts (place_in os outer) m.0 m.1 m.2 (sym m.3)

pub nothing-in-else : (facts : ExpressionFacts) (os : List Opening) (outer : Outer) (h : Head) (body : Statement) (w t : Lexeme) (more : List Lexeme) → MayCome (InElse h body w ∷ os) outer (t ∷ more) → kind_of t ≡ AtNothing → ⊥
nothing-in-else facts os outer h body w t more m k =
    (statement-kinds m.0).1 (sym (statement-token-kind facts (place_in os outer) m.0 m.1 t more m.2 (sym m.3)) ∙ k)

pub no-function-in-else : (facts : ExpressionFacts) (os : List Opening) (outer : Outer) (h : Head) (body : Statement) (w t : Lexeme) (more : List Lexeme) → MayCome (InElse h body w ∷ os) outer (t ∷ more) → kind_of t ≡ AtFunction → ⊥
no-function-in-else facts os outer h body w t more m k =
    (statement-kinds m.0).0 (sym (statement-token-kind facts (place_in os outer) m.0 m.1 t more m.2 (sym m.3)) ∙ k)

-- a statement that holds no other, a head or a function, by its first token

pub record SimpleComes (os : List Opening) (outer : Outer) (coming : List Lexeme) : Type 0 where
  pub simple : Simple
  pub rest : List Lexeme
  pub is : IsSimple (place_in os outer) simple rest
  pub same : coming ≡ spelled_simple simple rest
  pub may : MayFollow os outer rest

simple-from : (facts : ExpressionFacts) (os : List Opening) (outer : Outer) (t : Lexeme) (more : List Lexeme) (s : Statement) (rest : List Lexeme) → IsSimpleKind (kind_of t) → IsStatement (place_in os outer) s rest → t ∷ more ≡ spelled s rest → MayFollow os outer rest → SimpleComes os outer (t ∷ more)
simple-from facts os outer t more (Alone s) rest k h e f = record { simple = s; rest = rest; is = h; same = e; may = f }
simple-from facts os outer t more (Block o inner c) rest k h e f =
    absurd (k.0.0 (statement-token-kind facts (place_in os outer) (Block o inner c) rest t more h e))
simple-from facts os outer t more (Headed a s) rest k h e f =
    absurd (no-simple-head (kind_of t) a k (statement-token-kind facts (place_in os outer) (Headed a s) rest t more h e))
simple-from facts os outer t more (IfElse a s w other) rest k h e f =
    absurd (no-simple-head (kind_of t) a k (statement-token-kind facts (place_in os outer) (IfElse a s w other) rest t more h e))

pub simple-comes : (facts : ExpressionFacts) (os : List Opening) (outer : Outer) (t : Lexeme) (more : List Lexeme) → MayCome os outer (t ∷ more) → IsSimpleKind (kind_of t) → SimpleComes os outer (t ∷ more)
simple-comes facts os outer t more m k =
    let c : ComesAs os outer (t ∷ more) = comes-as facts os outer (t ∷ more) t more m refl k.1.1 k.1.0 in
    simple-from facts os outer t more c.statement c.rest k c.is c.same c.may

pub record HeadComes (os : List Opening) (outer : Outer) (coming : List Lexeme) : Type 0 where
  pub head : Head
  pub rest : List Lexeme
  pub is : IsHead head
  pub same : coming ≡ spelled_head head rest
  pub may : MayCome (InHead head ∷ os) outer rest

head-from : (facts : ExpressionFacts) (os : List Opening) (outer : Outer) (t : Lexeme) (more : List Lexeme) (s : Statement) (rest : List Lexeme) → IsHeadKind (kind_of t) → IsStatement (place_in os outer) s rest → t ∷ more ≡ spelled s rest → MayFollow os outer rest → HeadComes os outer (t ∷ more)
head-from facts os outer t more (Alone s) rest k h e f =
    absurd (no-head-simple (kind_of t) s k (statement-token-kind facts (place_in os outer) (Alone s) rest t more h e))
head-from facts os outer t more (Block o inner c) rest k h e f =
    absurd (k.0.0 (statement-token-kind facts (place_in os outer) (Block o inner c) rest t more h e))
head-from facts os outer t more (Headed a s) rest k h e f = record {
  head = a;
  rest = spelled s rest;
  is = h.0;
  same = e;
  may = (s, rest, h.1, refl, inl (h.2, f));
}
head-from facts os outer t more (IfElse a s w other) rest k h e f = record {
  head = a;
  rest = spelled s (w ∷ spelled other rest);
  is = h.0;
  same = e;
  may = (
    s,
    w ∷ spelled other rest,
    subst (λ p. IsStatement p s (w ∷ spelled other rest)) (sym (place-behind a (place_in os outer) h.1)) h.2,
    refl,
    inr (h.1, (w, other, rest, refl, h.3, h.4, f)),
  );
}

pub head-comes : (facts : ExpressionFacts) (os : List Opening) (outer : Outer) (t : Lexeme) (more : List Lexeme) → MayCome os outer (t ∷ more) → IsHeadKind (kind_of t) → HeadComes os outer (t ∷ more)
head-comes facts os outer t more m k =
    let c : ComesAs os outer (t ∷ more) = comes-as facts os outer (t ∷ more) t more m refl k.1.1 k.1.0 in
    head-from facts os outer t more c.statement c.rest k c.is c.same c.may

pub record FrontComes (done : List Item) (coming : List Lexeme) : Type 0 where
  pub front : Front
  pub rest : List Lexeme
  pub is : IsFront front
  pub same : coming ≡ spelled_front front rest
  pub may : MayCome [] (InFunction done front NoStatements) rest

front-from : (facts : ExpressionFacts) (done : List Item) (t : Lexeme) (more : List Lexeme) → ProgramComes (t ∷ more) → kind_of t ≡ AtFunction → FrontComes done (t ∷ more)
front-from facts done t more (Ending e) k = absurd (cc)
front-from facts done t more (Stating s rest h e f) k = absurd ((statement-kinds s).0 (sym (statement-token-kind facts (setting false false) s rest t more h e) ∙ k))
front-from facts done t more (Declaring d rest h e f) k = record {
  front = front_of d;
  rest = spelled_all d.body (d.close_brace ∷ rest);
  is = is-front d rest h;
  same = e;
  may = (
    d.body,
    d.close_brace,
    f.0,
    subst (λ x. AreStatements (setting false true) d.body (d.close_brace ∷ x)) (sym f.2) h.body,
    h.close_brace,
    f.1,
    ap (λ x. spelled_all d.body (d.close_brace ∷ x)) f.2,
  );
}

pub front-comes : (facts : ExpressionFacts) (done : List Item) (t : Lexeme) (more : List Lexeme) → MayCome [] (InProgram done) (t ∷ more) → kind_of t ≡ AtFunction → FrontComes done (t ∷ more)
front-comes facts done t more m k = front-from facts done t more (program-comes done (t ∷ more) m) k
