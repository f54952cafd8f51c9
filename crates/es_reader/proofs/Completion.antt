-- What is read up to a place can be completed to a program: with a `;` where a statement is to come, and a `}` for
-- each block and for a function.
use Rattle.std.proofs.Common.{◌≡◌, true, false, inl, inr, List, [], ◌∷◌, ◌++◌, Some, refl, sym, ◌∙◌, ap, subst, append_assoc}
use Rattle.es_lexer.specs.declared.words.ReservedWord.TheVariants.{Else}
use Rattle.es_lexer.specs.declared.punctuators.Punctuator.TheVariants.{CloseBrace, Semicolon}
use Rattle.es_expressions.specs.declared.lexemes.Lexeme.{Lexeme}
use Rattle.es_expressions.specs.declared.lexemes.Symbol.TheVariants.{Mark}
use Rattle.es_reader.specs.Statements.{Head, Statement, Statements, Declared, Item, spelled_head, spelled, spelled_all, spelled_function, spelled_items}
use Rattle.es_reader.specs.Statements.Simple.{Empty}
use Rattle.es_reader.specs.Statements.Head.{If, While, For, ForIn}
use Rattle.es_reader.specs.Statements.Statement.{Alone, Block, Headed, IfElse}
use Rattle.es_reader.specs.Statements.Statements.{NoStatements, OneMore}
use Rattle.es_reader.specs.Statements.Item.{Function, Single}
use Rattle.es_reader.specs.Grammar.{IsWord, IsMark, Setting, setting, IsHead, is_if, behind_head, NoElse, IsStatement, AreStatements, IsFunction, AreItems}
use Rattle.es_reader.specs.Programs.{Begins}
use Rattle.es_reader.specs.Openings.{Opening, Front, IsFront, Outer, place_in, spelled_front, written, AreRead, MayFollow, MayCome, first_of}
use Rattle.es_reader.specs.Openings.Opening.{InBlock, InHead, InElse}
use Rattle.es_reader.specs.Openings.Outer.{InProgram, InFunction}
use Rattle.es_reader.proofs.ExpressionFacts.{ExpressionFacts}
use Rattle.es_reader.proofs.Spelling.{head-spelled, statement-spelled, front-spelled, written-onward, written-spelled}
use Rattle.es_reader.proofs.LookAhead.{Closes, head-front, statement-front, statement-ahead, items-ahead, read-ahead}
use Rattle.es_reader.proofs.Uniqueness.{declared_of, is-function}

-- one statement more, or many

abbrev pub followed : Statements → Statements → Statements
followed NoStatements others = others
followed (OneMore first rest) others = OneMore first (followed rest others)

-- statements and one behind them
abbrev pub and_then : Statements → Statement → Statements
and_then done statement = followed done (OneMore statement NoStatements)

pub followed-spelled : (xs ys : Statements) (rest : List Lexeme) → spelled_all (followed xs ys) rest ≡ spelled_all xs (spelled_all ys rest)
followed-spelled NoStatements ys rest = refl
followed-spelled (OneMore x xs) ys rest = ap (λ r. spelled x r) (followed-spelled xs ys rest)

pub are-followed : (p : Setting) (xs ys : Statements) (rest : List Lexeme) → AreStatements p xs (spelled_all ys rest) → AreStatements p ys rest → AreStatements p (followed xs ys) rest
are-followed p NoStatements ys rest h g = g
are-followed p (OneMore x xs) ys rest h g =
    (subst (λ r. IsStatement p x r) (sym (followed-spelled xs ys rest)) h.0, are-followed p xs ys rest h.1 g)

pub items-followed : (is js : List Item) (rest : List Lexeme) → spelled_items (is ++ js) rest ≡ spelled_items is (spelled_items js rest)
items-followed [] js rest = refl
items-followed (Function d ∷ is) js rest = ap (λ r. spelled_function d r) (items-followed is js rest)
items-followed (Single s ∷ is) js rest = ap (λ r. spelled s r) (items-followed is js rest)

pub are-items-followed : (is js : List Item) (rest : List Lexeme) → AreItems is (spelled_items js rest) → AreItems js rest → AreItems (is ++ js) rest
are-items-followed [] js rest h g = g
are-items-followed (Function d ∷ is) js rest h g =
    (subst (λ r. IsFunction d r) (sym (items-followed is js rest)) h.0, are-items-followed is js rest h.1 g)
are-items-followed (Single s ∷ is) js rest h g =
    (subst (λ r. IsStatement (setting false false) s r) (sym (items-followed is js rest)) h.0, are-items-followed is js rest h.1 g)

-- a program with these tokens
pub record Completes (tokens : List Lexeme) : Type 0 where
  pub items : List Item
  pub are : AreItems items []
  pub is_spelled : spelled_items items [] ≡ tokens

-- what is read and what may come are a program together

pub place-behind : (h : Head) (p : Setting) → is_if h ≡ true → behind_head h p ≡ p
place-behind (If word open_mark test close_mark) p e = refl
place-behind _ p e = absurd (cc)

ends-program : (done : List Item) (coming : List Lexeme) → AreItems done coming → MayFollow [] (InProgram done) coming → Completes (spelled_items done coming)
ends-program done coming h m = record {
  items = done ++ m.0;
  are = are-items-followed done m.0 [] (subst (λ r. AreItems done r) (sym m.2) h) m.1;
  is_spelled = items-followed done m.0 [] ∙ ap (λ r. spelled_items done r) m.2;
}

ends-function : (done : List Item) (front : Front) (body : Statements) (coming : List Lexeme) → AreRead [] (InFunction done front body) coming → MayFollow [] (InFunction done front body) coming → Completes (written [] (InFunction done front body) coming)
ends-function done front body coming h m =
    let others : List Item = m.2 in
    let x : List Lexeme = m.1 ∷ spelled_items others [] in
    let d : Declared = declared_of front (followed body m.0) m.1 in
    let e : spelled_front front (spelled_all (followed body m.0) x) ≡ spelled_front front (spelled_all body coming) =
    ap (λ r. spelled_front front r) (followed-spelled body m.0 x) ∙ ap (λ r. spelled_front front (spelled_all body r)) m.6 in
    let inside : AreStatements (setting false true) (followed body m.0) x =
    are-followed (setting false true) body m.0 x (subst (λ r. AreStatements (setting false true) body r) (sym m.6) h.2) m.3 in
    record {
      items = done ++ (Function d ∷ others);
      are = are-items-followed done (Function d ∷ others) [] (subst (λ r. AreItems done r) (sym e) h.0)
          (is-function front (followed body m.0) m.1 (spelled_items others []) h.1 inside m.4, m.5);
      is_spelled = items-followed done (Function d ∷ others) [] ∙ ap (λ r. spelled_items done r) e;
    }

-- a statement that is read whole

pub then-spelled : (done : Statements) (s : Statement) (rest : List Lexeme) → spelled_all (and_then done s) rest ≡ spelled_all done (spelled s rest)
then-spelled done s rest = followed-spelled done (OneMore s NoStatements) rest

pub are-then : (p : Setting) (done : Statements) (s : Statement) (rest : List Lexeme) → AreStatements p done (spelled s rest) → IsStatement p s rest → AreStatements p (and_then done s) rest
are-then p done s rest h g = are-followed p done (OneMore s NoStatements) rest h (g, tt)

pub read-in-block : (os : List Opening) (outer : Outer) (o : Lexeme) (done : Statements) (s : Statement) (rest : List Lexeme) → AreRead (InBlock o done ∷ os) outer (spelled s rest) → IsStatement (place_in os outer) s rest → AreRead (InBlock o (and_then done s) ∷ os) outer rest
read-in-block os outer o done s rest h g =
    (h.0, are-then (place_in os outer) done s rest h.1 g, subst (λ r. AreRead os outer (o ∷ r)) (sym (then-spelled done s rest)) h.2)

pub written-in-block : (os : List Opening) (outer : Outer) (o : Lexeme) (done : Statements) (s : Statement) (rest : List Lexeme) → written (InBlock o (and_then done s) ∷ os) outer rest ≡ written (InBlock o done ∷ os) outer (spelled s rest)
written-in-block os outer o done s rest = ap (λ r. written os outer (o ∷ r)) (then-spelled done s rest)

pub read-in-function : (done : List Item) (front : Front) (body : Statements) (s : Statement) (rest : List Lexeme) → AreRead [] (InFunction done front body) (spelled s rest) → IsStatement (setting false true) s rest → AreRead [] (InFunction done front (and_then body s)) rest
read-in-function done front body s rest h g =
    (subst (λ r. AreItems done (spelled_front front r)) (sym (then-spelled body s rest)) h.0, h.1, are-then (setting false true) body s rest h.2 g)

pub written-in-function : (done : List Item) (front : Front) (body : Statements) (s : Statement) (rest : List Lexeme) → written [] (InFunction done front (and_then body s)) rest ≡ written [] (InFunction done front body) (spelled s rest)
written-in-function done front body s rest = ap (λ r. spelled_items done (spelled_front front r)) (then-spelled body s rest)

pub read-in-program : (done : List Item) (s : Statement) (rest : List Lexeme) → AreRead [] (InProgram done) (spelled s rest) → IsStatement (setting false false) s rest → AreRead [] (InProgram (done ++ (Single s ∷ []))) rest
read-in-program done s rest h g = are-items-followed done (Single s ∷ []) rest h (g, tt)

pub written-in-program : (done : List Item) (s : Statement) (rest : List Lexeme) → written [] (InProgram (done ++ (Single s ∷ []))) rest ≡ written [] (InProgram done) (spelled s rest)
written-in-program done s rest = items-followed done (Single s ∷ []) rest

-- a statement with its head, with its `else`, and a block
pub read-headed : (os : List Opening) (outer : Outer) (h : Head) (s : Statement) (rest : List Lexeme) → AreRead (InHead h ∷ os) outer (spelled s rest) → AreRead os outer (spelled (Headed h s) rest)
read-headed os outer h s rest r = r.1

pub is-headed : (os : List Opening) (outer : Outer) (h : Head) (s : Statement) (rest : List Lexeme) → AreRead (InHead h ∷ os) outer (spelled s rest) → IsStatement (place_in (InHead h ∷ os) outer) s rest → NoElse h rest → IsStatement (place_in os outer) (Headed h s) rest
is-headed os outer h s rest r g n = (r.0, g, n)

pub read-else : (os : List Opening) (outer : Outer) (h : Head) (s : Statement) (e : Lexeme) (rest : List Lexeme) → AreRead (InHead h ∷ os) outer (spelled s (e ∷ rest)) → IsStatement (place_in (InHead h ∷ os) outer) s (e ∷ rest) → is_if h ≡ true → IsWord Else e → AreRead (InElse h s e ∷ os) outer rest
read-else os outer h s e rest r g i w =
    (r.0, i, subst (λ p. IsStatement p s (e ∷ rest)) (place-behind h (place_in os outer) i) g, w, r.1)

pub read-if-else : (os : List Opening) (outer : Outer) (h : Head) (body : Statement) (e : Lexeme) (s : Statement) (rest : List Lexeme) → AreRead (InElse h body e ∷ os) outer (spelled s rest) → AreRead os outer (spelled (IfElse h body e s) rest)
read-if-else os outer h body e s rest r = r.4

pub is-if-else : (os : List Opening) (outer : Outer) (h : Head) (body : Statement) (e : Lexeme) (s : Statement) (rest : List Lexeme) → AreRead (InElse h body e ∷ os) outer (spelled s rest) → IsStatement (place_in os outer) s rest → IsStatement (place_in os outer) (IfElse h body e s) rest
is-if-else os outer h body e s rest r g = (r.0, r.1, r.2, r.3, g)

pub read-block : (os : List Opening) (outer : Outer) (o : Lexeme) (done : Statements) (c : Lexeme) (rest : List Lexeme) → AreRead (InBlock o done ∷ os) outer (c ∷ rest) → AreRead os outer (spelled (Block o done c) rest)
read-block os outer o done c rest r = r.2

pub is-block : (os : List Opening) (outer : Outer) (o : Lexeme) (done : Statements) (c : Lexeme) (rest : List Lexeme) → AreRead (InBlock o done ∷ os) outer (c ∷ rest) → IsMark CloseBrace c → IsStatement (place_in os outer) (Block o done c) rest
is-block os outer o done c rest r m = (r.0, r.1, m)

-- a function that is read whole, and the front of one
pub read-function : (done : List Item) (front : Front) (body : Statements) (c : Lexeme) (rest : List Lexeme) → AreRead [] (InFunction done front body) (c ∷ rest) → IsMark CloseBrace c → AreRead [] (InProgram (done ++ (Function (declared_of front body c) ∷ []))) rest
read-function done front body c rest h m =
    are-items-followed done (Function (declared_of front body c) ∷ []) rest h.0 (is-function front body c rest h.1 h.2 m, tt)

pub written-function : (done : List Item) (front : Front) (body : Statements) (c : Lexeme) (rest : List Lexeme) → written [] (InProgram (done ++ (Function (declared_of front body c) ∷ []))) rest ≡ written [] (InFunction done front body) (c ∷ rest)
written-function done front body c rest = items-followed done (Function (declared_of front body c) ∷ []) rest

pub read-front : (done : List Item) (front : Front) (rest : List Lexeme) → AreRead [] (InProgram done) (spelled_front front rest) → IsFront front → AreRead [] (InFunction done front NoStatements) rest
read-front done front rest h f = (h, f, tt)

-- what is read and a statement behind it that others may follow
pub record Goes (os : List Opening) (outer : Outer) (tokens : List Lexeme) : Type 0 where
  pub statement : Statement
  pub rest : List Lexeme
  pub is : IsStatement (place_in os outer) statement rest
  pub read : AreRead os outer (spelled statement rest)
  pub may : MayFollow os outer rest
  pub same : written os outer (spelled statement rest) ≡ tokens

close-block : (os : List Opening) (outer : Outer) (o : Lexeme) (done : Statements) (coming : List Lexeme) → AreRead (InBlock o done ∷ os) outer coming → MayFollow (InBlock o done ∷ os) outer coming → Goes os outer (written (InBlock o done ∷ os) outer coming)
close-block os outer o done coming r m =
    let x : List Lexeme = m.1 ∷ m.2 in
    let e : spelled_all (followed done m.0) x ≡ spelled_all done coming = followed-spelled done m.0 x ∙ ap (λ y. spelled_all done y) m.5 in
    record {
      statement = Block o (followed done m.0) m.1;
      rest = m.2;
      is = (r.0, are-followed (place_in os outer) done m.0 x (subst (λ y. AreStatements (place_in os outer) done y) (sym m.5) r.1) m.3, m.4);
      read = subst (λ y. AreRead os outer (o ∷ y)) (sym e) r.2;
      may = m.6;
      same = ap (λ y. written os outer (o ∷ y)) e;
    }

outward : (opening : Opening) (os : List Opening) (outer : Outer) (tokens : List Lexeme) → Goes (opening ∷ os) outer tokens → Goes os outer tokens
outward (InBlock o done) os outer tokens g =
    let c = close-block os outer o (and_then done g.statement) g.rest (read-in-block os outer o done g.statement g.rest g.read g.is) g.may in
    record {
      statement = c.statement;
      rest = c.rest;
      is = c.is;
      read = c.read;
      may = c.may;
      same = c.same ∙ (written-in-block os outer o done g.statement g.rest ∙ g.same);
    }
outward (InHead h) os outer tokens g = with-head os outer h tokens g g.may
  where
    with-head : (os : List Opening) (outer : Outer) (h : Head) (tokens : List Lexeme) (g : Goes (InHead h ∷ os) outer tokens) → MayFollow (InHead h ∷ os) outer g.rest → Goes os outer tokens
    with-head os outer h tokens g (inl m) = record {
      statement = Headed h g.statement;
      rest = g.rest;
      is = (g.read.0, g.is, m.0);
      read = g.read.1;
      may = m.1;
      same = g.same;
    }
    with-head os outer h tokens g (inr m) = record {
      statement = IfElse h g.statement m.1.0 m.1.1;
      rest = m.1.2;
      is = (
        g.read.0,
        m.0,
        subst (λ y. IsStatement (place_in os outer) g.statement y) m.1.3 (subst (λ p. IsStatement p g.statement g.rest) (place-behind h (place_in os outer) m.0) g.is),
        m.1.4,
        m.1.5,
      );
      read = subst (λ y. AreRead os outer (spelled_head h (spelled g.statement y))) m.1.3 g.read.1;
      may = m.1.6;
      same = ap (λ y. written os outer (spelled_head h (spelled g.statement y))) (sym m.1.3) ∙ g.same;
    }
outward (InElse h body e) os outer tokens g = record {
  statement = IfElse h body e g.statement;
  rest = g.rest;
  is = (g.read.0, g.read.1, g.read.2, g.read.3, g.is);
  read = g.read.4;
  may = g.may;
  same = g.same;
}

pub joins : (os : List Opening) (outer : Outer) (tokens : List Lexeme) → Goes os outer tokens → Completes tokens
joins [] (InProgram done) tokens g =
    let c : Completes (spelled_items (done ++ (Single g.statement ∷ [])) g.rest) =
    ends-program (done ++ (Single g.statement ∷ [])) g.rest (read-in-program done g.statement g.rest g.read g.is) g.may in
    record { items = c.items; are = c.are; is_spelled = c.is_spelled ∙ (written-in-program done g.statement g.rest ∙ g.same) }
joins [] (InFunction done front body) tokens g =
    let c : Completes (written [] (InFunction done front (and_then body g.statement)) g.rest) =
    ends-function done front (and_then body g.statement) g.rest (read-in-function done front body g.statement g.rest g.read g.is) g.may in
    record { items = c.items; are = c.are; is_spelled = c.is_spelled ∙ (written-in-function done front body g.statement g.rest ∙ g.same) }
joins (opening ∷ os) outer tokens g = joins os outer tokens (outward opening os outer tokens g)

pub whole-program : (os : List Opening) (outer : Outer) (coming : List Lexeme) → AreRead os outer coming → MayCome os outer coming → Completes (written os outer coming)
whole-program [] (InProgram done) coming r m = ends-program done coming r m
whole-program [] (InFunction done front body) coming r m = ends-function done front body coming r m
whole-program (InBlock o done ∷ os) outer coming r m = joins os outer (written (InBlock o done ∷ os) outer coming) (close-block os outer o done coming r m)
whole-program (InHead h ∷ os) outer coming r m = joins (InHead h ∷ os) outer (written (InHead h ∷ os) outer coming) (record {
  statement = m.0;
  rest = m.1;
  is = m.2;
  read = subst (λ y. AreRead (InHead h ∷ os) outer y) (sym m.3) r;
  may = m.4;
  same = ap (λ y. written (InHead h ∷ os) outer y) m.3;
})
whole-program (InElse h body e ∷ os) outer coming r m = joins (InElse h body e ∷ os) outer (written (InElse h body e ∷ os) outer coming) (record {
  statement = m.0;
  rest = m.1;
  is = m.2;
  read = subst (λ y. AreRead (InElse h body e ∷ os) outer y) (sym m.3) r;
  may = m.4;
  same = ap (λ y. written (InElse h body e ∷ os) outer y) m.3;
})

-- completion: with a `;` where a statement is to come, and a `}` for each block and for a function

semicolon_token : Lexeme
semicolon_token = record { symbol = Mark Semicolon; start = 0; «end» = 0; after_break = false }

brace_token : Lexeme
brace_token = record { symbol = Mark CloseBrace; start = 0; «end» = 0; after_break = false }

record Follows (os : List Opening) (outer : Outer) : Type 0 where
  coming : List Lexeme
  may : MayFollow os outer coming
  closes : Closes coming

closes-no-else : (h : Head) (coming : List Lexeme) → Closes coming → NoElse h coming
closes-no-else (If word open_mark test close_mark) [] c = tt
closes-no-else (If word open_mark test close_mark) (t ∷ ts) c = λ e. absurd (cc)
closes-no-else (While word open_mark test close_mark) coming c = tt
closes-no-else (For word open_mark first semicolon test second_semicolon step close_mark) coming c = tt
closes-no-else (ForIn word open_mark visitor in_word object close_mark) coming c = tt

follows : (os : List Opening) (outer : Outer) → Follows os outer
unfolding brace_token
follows [] (InProgram done) = record { coming = []; may = ([], tt, refl); closes = tt }
follows [] (InFunction done front body) = record { coming = brace_token ∷ []; may = (NoStatements, brace_token, [], tt, refl, tt, refl); closes = refl }
follows (InBlock o done ∷ os) outer =
    let f : Follows os outer = follows os outer in
    record { coming = brace_token ∷ f.coming; may = (NoStatements, brace_token, f.coming, tt, refl, refl, f.may); closes = refl }
follows (InHead h ∷ os) outer =
    let f : Follows os outer = follows os outer in
    record { coming = f.coming; may = inl (closes-no-else h f.coming f.closes, f.may); closes = f.closes }
follows (InElse h body e ∷ os) outer =
    let f : Follows os outer = follows os outer in
    record { coming = f.coming; may = f.may; closes = f.closes }

record Comes (os : List Opening) (outer : Outer) : Type 0 where
  coming : List Lexeme
  may : MayCome os outer coming
  read : (others : List Lexeme) → AreRead os outer others → AreRead os outer coming

comes : (facts : ExpressionFacts) (os : List Opening) (outer : Outer) → Comes os outer
unfolding semicolon_token
comes facts [] outer =
    let f : Follows [] outer = follows [] outer in
    record { coming = f.coming; may = f.may; read = λ others r. read-ahead facts [] outer others f.coming (inr f.closes) r }
comes facts (InBlock o done ∷ os) outer =
    let f : Follows (InBlock o done ∷ os) outer = follows (InBlock o done ∷ os) outer in
    record { coming = f.coming; may = f.may; read = λ others r. read-ahead facts (InBlock o done ∷ os) outer others f.coming (inr f.closes) r }
comes facts (InHead h ∷ os) outer =
    let f : Follows (InHead h ∷ os) outer = follows (InHead h ∷ os) outer in
    let x : List Lexeme = semicolon_token ∷ f.coming in
    record {
      coming = x;
      may = (Alone (Empty semicolon_token), f.coming, refl, refl, f.may);
      read = λ others r. (r.0, read-ahead facts os outer (spelled_head h others) (spelled_head h x) (inl (head-front h others x)) r.1);
    }
comes facts (InElse h body e ∷ os) outer =
    let f : Follows os outer = follows os outer in
    let x : List Lexeme = semicolon_token ∷ f.coming in
    record {
      coming = x;
      may = (Alone (Empty semicolon_token), f.coming, refl, refl, f.may);
      read = λ others r. (
        r.0,
        r.1,
        statement-ahead facts (place_in os outer) body (e ∷ others) (e ∷ x) (inl refl) r.2,
        r.3,
        read-ahead facts os outer (spelled_head h (spelled body (e ∷ others))) (spelled_head h (spelled body (e ∷ x)))
            (inl (head-front h (spelled body (e ∷ others)) (spelled body (e ∷ x)))) r.4,
      );
    }

-- what is read can be completed, whatever stands behind it
pub completes : (facts : ExpressionFacts) (os : List Opening) (outer : Outer) (others : List Lexeme) → AreRead os outer others → (more : List Lexeme) × (items : List Item) × AreItems items [] × (spelled_items items [] ≡ written os outer more)
completes facts os outer others r =
    let c : Comes os outer = comes facts os outer in
    let w : Completes (written os outer c.coming) = whole-program os outer c.coming (c.read others r) c.may in
    (c.coming, w.items, w.are, w.is_spelled)

pub begins-read : (facts : ExpressionFacts) (os : List Opening) (outer : Outer) (others : List Lexeme) → AreRead os outer others → Begins (written os outer [])
begins-read facts os outer others r =
    let c = completes facts os outer others r in
    record { more = c.0; items = c.1; whole = record { are = c.2; is_spelled = c.3 ∙ written-spelled os outer c.0 } }

-- the same with a statement behind it that begins with the next token, and stands in front of whatever closes
pub completes-statement : (facts : ExpressionFacts) (os : List Opening) (outer : Outer) (others : List Lexeme) (s : Statement) → AreRead os outer others → first_of others ≡ first_of (spelled s []) → ((rest : List Lexeme) → Closes rest → IsStatement (place_in os outer) s rest) → (more : List Lexeme) × (items : List Item) × AreItems items [] × (spelled_items items [] ≡ written os outer (spelled s more))
completes-statement facts os outer others s r e h =
    let f : Follows os outer = follows os outer in
    let w : Completes (written os outer (spelled s f.coming)) = joins os outer (written os outer (spelled s f.coming)) (record {
      statement = s;
      rest = f.coming;
      is = h f.coming f.closes;
      read = read-ahead facts os outer others (spelled s f.coming) (inl (e ∙ statement-front s [] f.coming)) r;
      may = f.may;
      same = refl;
    }) in
    (f.coming, w.items, w.are, w.is_spelled)

cut-spelled : (os : List Opening) (outer : Outer) (xs read left more : List Lexeme) → xs ≡ read ++ left → written os outer (xs ++ more) ≡ written os outer read ++ (left ++ more)
cut-spelled os outer xs read left more e =
    ap (λ y. written os outer (y ++ more)) e
    ∙ (ap (λ y. written os outer y) (append_assoc read left more) ∙ written-onward os outer read (left ++ more))

-- what is read and some tokens of a statement behind it
pub begins-statement : (facts : ExpressionFacts) (os : List Opening) (outer : Outer) (others : List Lexeme) (s : Statement) (read left : List Lexeme) → AreRead os outer others → first_of others ≡ first_of (spelled s []) → ((rest : List Lexeme) → Closes rest → IsStatement (place_in os outer) s rest) → spelled s [] ≡ read ++ left → Begins (written os outer read)
begins-statement facts os outer others s read left r e h q =
    let c = completes-statement facts os outer others s r e h in
    record {
      more = left ++ c.0;
      items = c.1;
      whole = record {
        are = c.2;
        is_spelled = c.3 ∙ (ap (λ y. written os outer y) (statement-spelled s c.0) ∙ cut-spelled os outer (spelled s []) read left c.0 q);
      };
    }

-- what is read and some tokens of a head behind it
pub begins-head : (facts : ExpressionFacts) (os : List Opening) (outer : Outer) (others : List Lexeme) (h : Head) (read left : List Lexeme) → AreRead os outer others → first_of others ≡ first_of (spelled_head h []) → IsHead h → spelled_head h [] ≡ read ++ left → Begins (written os outer read)
begins-head facts os outer others h read left r e i q =
    let x : AreRead (InHead h ∷ os) outer [] = (i, read-ahead facts os outer others (spelled_head h []) (inl e) r) in
    let c = completes facts (InHead h ∷ os) outer [] x in
    record {
      more = left ++ c.0;
      items = c.1;
      whole = record {
        are = c.2;
        is_spelled = c.3 ∙ (ap (λ y. written os outer y) (head-spelled h c.0) ∙ cut-spelled os outer (spelled_head h []) read left c.0 q);
      };
    }

-- what is read of a program and some tokens of the front of a function behind it
pub begins-front : (facts : ExpressionFacts) (done : List Item) (others : List Lexeme) (f : Front) (read left : List Lexeme) → AreRead [] (InProgram done) others → first_of others ≡ Some f.word → IsFront f → spelled_front f [] ≡ read ++ left → Begins (written [] (InProgram done) read)
begins-front facts done others f read left r e i q =
    let x : AreRead [] (InFunction done f NoStatements) [] = (items-ahead facts done others (spelled_front f []) (inl e) r, i, tt) in
    let c = completes facts [] (InFunction done f NoStatements) [] x in
    record {
      more = left ++ c.0;
      items = c.1;
      whole = record {
        are = c.2;
        is_spelled = c.3 ∙ (ap (λ y. spelled_items done y) (front-spelled f c.0) ∙ cut-spelled [] (InProgram done) (spelled_front f []) read left c.0 q);
      };
    }
