-- Bad places, from where the reader's loop stands.
use Rattle.std.proofs.Common.{◌≡◌, ℕ, ◌+◌, ◌≤◌, Bool, true, false, ◌⊎◌, inl, inr, List, [], ◌∷◌, ◌++◌, length, Option, Some, None, refl, sym, ◌∙◌, ap, subst, arith, drop, length-drop}
use Rattle.std.specs.Prelude.{slice_get, is_some, Result, Ok, Err, IfErr}
use Rattle.std.proofs.lemmas.Option.{same_Some}
use Rattle.std.proofs.Math.ListN.{drop_of_length-le}
use Rattle.es_lexer.specs.declared.words.ReservedWord.TheVariants.{Break, Continue, For as ForWord, Function as FunctionWord, Return as ReturnWord}
use Rattle.es_lexer.specs.declared.punctuators.Punctuator.TheVariants.{CloseBrace}
use Rattle.es_expressions.specs.Phrases.{spelled as spelled_expression}
use Rattle.es_expressions.specs.Nodes.{NodeRow}
use Rattle.es_expressions.specs.declared.expressions.Extent.TheVariants.{WithCommas}
use Rattle.es_expressions.specs.declared.lexemes.Lexeme.{Lexeme}
use Rattle.es_expressions.specs.declared.nodes.Form.{Form}
use Rattle.es_expressions.specs.Phrases.Phrase.{Leaf}
use Rattle.es_reader.specs.Statements.Declaration.{Bare}
use Rattle.es_reader.specs.Statements.Simple.{Var, Expression, Jump, Return}
use Rattle.es_reader.specs.Statements.First.{NoFirst}
use Rattle.es_reader.specs.Statements.Head.{If, While, For}
use Rattle.es_reader.specs.Grammar.{IsMark, IsWord}
use Rattle.es_reader.specs.Programs.{IsBadAt}
use Rattle.es_reader.specs.Openings.{Opening, Outer, place_in, first_of}
use Rattle.es_reader.specs.Openings.Opening.{InBlock, InHead, InElse}
use Rattle.es_reader.specs.Openings.Outer.{InProgram, InFunction}
use Rattle.es_reader.specs.ExpressionFacts.{ExpressionFacts}
use Rattle.es_reader.specs.Parts.{IsThere, IfBad}
use Rattle.es_reader.specs.Heads.{IsTestWord}
use Rattle.es_reader.specs.Stops.{BehindWord, IsSimpleWord, IsOther, SimpleBad, ValueStops, HeadStops, FrontStops}
use Rattle.es_reader.specs.Standing.{FormsStand, MayBeOpen, Stands, ReadsTo, IsAlone}
use Rattle.es_reader.specs.declared.faults.PartFault.{PartFault}
use Rattle.es_reader.specs.declared.faults.PartFault.TheVariants.{Bad, NoMemory}
use Rattle.es_reader.specs.declared.openings.OpenForm.{OpenForm}
use Rattle.es_reader.specs.declared.openings.OpenKind.TheVariants.{Block as BlockKind}
use Rattle.es_reader.specs.declared.reader.OpenFunction.{OpenFunction}
use Rattle.es_reader.specs.declared.reader.Reader.{Reader}
use Rattle.es_reader.proofs.Tokens.{kind_of, front-kind, var-kind, if-kind, while-kind, for-kind, jump-kind, return-kind, function-kind}
use Rattle.es_reader.proofs.Tokens.Kind.{AtExpression}
use Rattle.es_reader.proofs.TokenCases.{TokenCase, token-case, begins-kind}
use Rattle.es_reader.proofs.TokenCases.TokenCase.{BeginsBlock, BeginsVar, BeginsEmpty, BeginsIf, BeginsWhile, BeginsFor, BeginsJump, BeginsReturn, BeginsFunction, BeginsExpression, BeginsNothing}
use Rattle.es_reader.proofs.Uniqueness.{IsSimpleKind, IsHeadKind, simple-kinds, head-kinds}
use Rattle.es_reader.proofs.Standing.{IsNoBlock, IsInside, bad-token, bad-brace, bad-function, bad-end, bad-jump, bad-return}
use Rattle.es_reader.proofs.SimpleStops.{expression-simple-stops, simple-bad}
use Rattle.es_reader.proofs.HeadStops.{head-bad}
use Rattle.es_reader.proofs.FrontStops.{front-bad}
use Rattle.es_reader.proofs.RangeLemmas.{drop-there}

pub if-err : {A : Type 0} (r : Result A PartFault) (P Q : PartFault → Type 0) → ((x : PartFault) → P x → Q x) → IfErr r P → IfErr r Q
if-err (Ok x) P Q h p = tt
if-err (Err x) P Q h p = h x p

pub never-bad : {A : Type 0} (r : Result A PartFault) (Q : ℕ → Type 0) → IfErr r (λ fault. IfBad fault (λ bad. ⊥)) → IfErr r (λ fault. IfBad fault Q)
never-bad (Ok x) Q p = tt
never-bad (Err (Bad place)) Q p = absurd p
never-bad (Err NoMemory) Q p = tt

simple-word-kind : (t : Lexeme) → IsSimpleWord t → IsSimpleKind (kind_of t)
simple-word-kind t (inl (inl v)) = subst (λ k. IsSimpleKind k) (sym (var-kind t v)) (simple-kinds (Var t (record { first = Bare t; others = [] }) None))
simple-word-kind t (inl (inr r)) = subst (λ k. IsSimpleKind k) (sym (return-kind t r)) (simple-kinds (Return t None None))
simple-word-kind t (inr j) = subst (λ k. IsSimpleKind k) (sym (jump-kind t j)) (simple-kinds (Jump t None))

same-place : (tokens : List Lexeme) (a b : ℕ) → a ≤ length tokens → b ≤ length tokens → drop a tokens ≡ drop b tokens → a ≡ b
same-place tokens a b l m e = let x = ap (λ z. length z) e in omega (arith, length-drop a tokens, length-drop b tokens)

jump-or : (facts : ExpressionFacts) (os : List Opening) (outer : Outer) (tokens : List Lexeme) (place : ℕ) (t : Lexeme) (b : Bool) → (place_in os outer).in_loop ≡ b → Stands os outer tokens place → slice_get tokens place ≡ Some t → IsWord Break t ⊎ IsWord Continue t → IsOther (place_in os outer) t → IsBadAt tokens place
jump-or facts os outer tokens place t true e s g j o = absurd (o.no_jump e j)
jump-or facts os outer tokens place t false e s g j o = bad-jump facts os outer tokens place t (drop (place + 1) tokens) s (drop-there tokens place t g) (jump-kind t j) e

return-or : (facts : ExpressionFacts) (os : List Opening) (outer : Outer) (tokens : List Lexeme) (place : ℕ) (t : Lexeme) (b : Bool) → (place_in os outer).in_function ≡ b → Stands os outer tokens place → slice_get tokens place ≡ Some t → IsWord ReturnWord t → IsOther (place_in os outer) t → IsBadAt tokens place
return-or facts os outer tokens place t true e s g r o = absurd (o.no_return e r)
return-or facts os outer tokens place t false e s g r o = bad-return facts os outer tokens place t (drop (place + 1) tokens) s (drop-there tokens place t g) (return-kind t r) e

no-expression : (t : Lexeme) (others : List Lexeme) → kind_of t ≡ AtExpression → first_of others ≡ Some t → ValueStops [] others → ⊥
no-expression t others k f v =
    let b = begins-kind WithCommas t k in
    v.never b.whole_phrase None [] (spelled_expression b.whole_phrase []) b.whole.expression tt (ap first_of b.whole.is_spelled ∙ sym f) refl

here-bad : (facts : ExpressionFacts) (os : List Opening) (outer : Outer) (tokens : List Lexeme) (place : ℕ) (t : Lexeme) → TokenCase t → Stands os outer tokens place → slice_get tokens place ≡ Some t → IsAlone t → IsOther (place_in os outer) t → ValueStops [] (drop place tokens) → IsBadAt tokens place
here-bad facts os outer tokens place t (BeginsBlock b) s g a o v = absurd (a.no_open b)
here-bad facts os outer tokens place t (BeginsVar b) s g a o v = absurd (o.no_var b)
here-bad facts os outer tokens place t (BeginsEmpty b) s g a o v = absurd (o.no_semicolon b)
here-bad facts os outer tokens place t (BeginsIf b) s g a o v = absurd (a.no_if b)
here-bad facts os outer tokens place t (BeginsWhile b) s g a o v = absurd (a.no_while b)
here-bad facts os outer tokens place t (BeginsFor b) s g a o v = absurd (a.no_for b)
here-bad facts os outer tokens place t (BeginsJump b) s g a o v = jump-or facts os outer tokens place t (place_in os outer).in_loop refl s g b o
here-bad facts os outer tokens place t (BeginsReturn b) s g a o v = return-or facts os outer tokens place t (place_in os outer).in_function refl s g b o
here-bad facts os outer tokens place t (BeginsFunction b) s g a o v = absurd (a.no_function b)
here-bad facts os outer tokens place t (BeginsExpression k) s g a o v = absurd (no-expression t (drop place tokens) k (ap first_of (drop-there tokens place t g)) v)
here-bad facts os outer tokens place t (BeginsNothing k) s g a o v = bad-token facts os outer tokens place t (drop (place + 1) tokens) s (drop-there tokens place t g) k a.no_close

value-bad : (facts : ExpressionFacts) (os : List Opening) (outer : Outer) (tokens : List Lexeme) (place bad : ℕ) (read : List Lexeme) → Stands os outer tokens place → bad ≤ length tokens → read ++ drop bad tokens ≡ drop place tokens → ValueStops read (drop bad tokens) → IsThere IsAlone tokens place → IsThere (IsOther (place_in os outer)) tokens place → IsBadAt tokens bad
value-bad facts os outer tokens place bad [] s l e v a o =
    let same : bad ≡ place = same-place tokens bad place l s.within e in
    let one : a.0 ≡ o.0 = same_Some a.0 o.0 (sym a.1 ∙ o.1) in
    subst (λ b. IsBadAt tokens b) (sym same)
    (here-bad facts os outer tokens place a.0 (token-case a.0) s a.1 a.2 (subst (λ t. IsOther (place_in os outer) t) (sym one) o.2) (subst (λ ts. ValueStops [] ts) e v))
value-bad facts os outer tokens place bad (t ∷ x) s l e v a o =
    let k : kind_of t ≡ AtExpression = front-kind t (facts.first WithCommas t x v.goes_on) in
    simple-bad facts os outer tokens place bad t x s l e (subst (λ z. IsSimpleKind z) (sym k) (simple-kinds (Expression (Leaf t) None))) (expression-simple-stops facts (place_in os outer) t x (drop bad tokens) k v)

-- no statement that holds no other goes on there
pub simply-bad : (facts : ExpressionFacts) (os : List Opening) (outer : Outer) (tokens : List Lexeme) (place : ℕ) → Stands os outer tokens place → IsThere IsAlone tokens place → (bad : ℕ) → SimpleBad (place_in os outer) tokens place bad → IsBadAt tokens bad
simply-bad facts os outer tokens place s a bad (inl b) = simple-bad facts os outer tokens place bad b.word b.more s b.within b.parts (simple-word-kind b.word b.is) (b.stops facts)
simply-bad facts os outer tokens place s a bad (inr (v, o)) = value-bad facts os outer tokens place bad v.read s v.within v.parts (v.stops facts) a o

pub alone-bad : (tokens : List Lexeme) (place : ℕ) (reader : Reader) (r : ReadsTo tokens place reader) → IsThere IsAlone tokens place → (bad : ℕ) → SimpleBad (place_in r.openings r.outer) tokens place bad → ExpressionFacts → IsBadAt tokens bad
alone-bad tokens place reader r a bad b facts = simply-bad facts r.openings r.outer tokens place (r.stands facts) a bad b

pub test-kind : (form : Form) (t : Lexeme) → IsTestWord form t → IsHeadKind (kind_of t)
test-kind which t (inl w) = subst (λ k. IsHeadKind k) (sym (if-kind t w.0)) (head-kinds (If t t (Leaf t) t))
test-kind which t (inr w) = subst (λ k. IsHeadKind k) (sym (while-kind t w.0)) (head-kinds (While t t (Leaf t) t))

pub test-bad : (tokens : List Lexeme) (place : ℕ) (reader : Reader) (form : Form) (r : ReadsTo tokens place reader) → (bad : ℕ) → BehindWord (IsTestWord form) (λ word. HeadStops) tokens place bad → ExpressionFacts → IsBadAt tokens bad
test-bad tokens place reader which r bad b facts = head-bad facts r.openings r.outer tokens place bad b.word b.more (r.stands facts) b.within b.parts (test-kind which b.word b.is) (b.stops facts)

pub for-bad : (tokens : List Lexeme) (place : ℕ) (reader : Reader) (r : ReadsTo tokens place reader) → (bad : ℕ) → BehindWord (IsWord ForWord) (λ word. HeadStops) tokens place bad → ExpressionFacts → IsBadAt tokens bad
for-bad tokens place reader r bad b facts = head-bad facts r.openings r.outer tokens place bad b.word b.more (r.stands facts) b.within b.parts (subst (λ k. IsHeadKind k) (sym (for-kind b.word b.is)) (head-kinds (For b.word b.word NoFirst b.word None b.word None b.word))) (b.stops facts)

-- what is open

inside-function : (function : Option OpenFunction) (rows : List NodeRow) (os : List Opening) (outer : Outer) → MayBeOpen function rows outer → is_some function ≡ true → IsInside os outer
inside-function f rows (o ∷ os) outer h e = tt
inside-function f rows [] (InFunction done front body) h e = tt
inside-function None rows [] (InProgram done) h e = absurd (cc)
inside-function (Some f) rows [] (InProgram done) h e = absurd h

inside-forms : (forms : List OpenForm) (rows : List NodeRow) (os : List Opening) (outer : Outer) → FormsStand forms rows os outer → (forms ≡ [] → ⊥) → IsInside os outer
inside-forms forms rows (o ∷ os) outer h n = tt
inside-forms [] rows [] outer h n = absurd (n refl)
inside-forms (f ∷ fs) rows [] outer h n = absurd h

pub function-in-function : (tokens : List Lexeme) (place : ℕ) (reader : Reader) (r : ReadsTo tokens place reader) → IsThere (IsWord FunctionWord) tokens place → is_some reader.function ≡ true → ExpressionFacts → IsBadAt tokens place
function-in-function tokens place reader r t e facts = bad-function facts r.openings r.outer tokens place t.0 (drop (place + 1) tokens) (r.stands facts) (drop-there tokens place t.0 t.1) (function-kind t.0 t.2) (inside-function reader.function reader.nodes r.openings r.outer r.keeps.function e)

pub function-in-form : (tokens : List Lexeme) (place : ℕ) (reader : Reader) (r : ReadsTo tokens place reader) → IsThere (IsWord FunctionWord) tokens place → (reader.forms ≡ [] → ⊥) → ExpressionFacts → IsBadAt tokens place
function-in-form tokens place reader r t e facts = bad-function facts r.openings r.outer tokens place t.0 (drop (place + 1) tokens) (r.stands facts) (drop-there tokens place t.0 t.1) (function-kind t.0 t.2) (inside-forms reader.forms reader.nodes r.openings r.outer r.keeps.forms e)

pub front-bad-at : (tokens : List Lexeme) (place : ℕ) (reader : Reader) (r : ReadsTo tokens place reader) → reader.forms ≡ [] → is_some reader.function ≡ false → (bad : ℕ) → BehindWord (IsWord FunctionWord) FrontStops tokens place bad → ExpressionFacts → IsBadAt tokens bad
front-bad-at tokens place reader r none closed bad b facts = of r.openings r.outer (r.stands facts) r.keeps.forms r.keeps.function
  where
    of : (os : List Opening) (outer : Outer) → Stands os outer tokens place → FormsStand reader.forms reader.nodes os outer → MayBeOpen reader.function reader.nodes outer → IsBadAt tokens bad
    of (o ∷ os) outer s k f = absurd (subst (λ (x : List OpenForm). FormsStand x reader.nodes (o ∷ os) outer) none k)
    of [] (InFunction done front body) s k f = absurd (inside reader.function f closed)
      where
        inside : (f : Option OpenFunction) → MayBeOpen f reader.nodes (InFunction done front body) → is_some f ≡ false → ⊥
        inside None h e = h
        inside (Some g) h e = absurd (cc)
    of [] (InProgram done) s k f = front-bad facts done tokens place bad b.word b.more s b.within b.parts (function-kind b.word b.is) (b.stops facts)

pub no-block-bad : (tokens : List Lexeme) (place : ℕ) (reader : Reader) (r : ReadsTo tokens place reader) (form : OpenForm) (rest : List OpenForm) → IsThere (IsMark CloseBrace) tokens place → reader.forms ≡ form ∷ rest → (form.kind ≡ BlockKind → ⊥) → ExpressionFacts → IsBadAt tokens place
no-block-bad tokens place reader r form rest t fs n facts = bad-brace facts r.openings r.outer tokens place t.0 (drop (place + 1) tokens) (r.stands facts) (drop-there tokens place t.0 t.1) t.2 (of r.openings r.outer (subst (λ (x : List OpenForm). FormsStand x reader.nodes r.openings r.outer) fs r.keeps.forms))
  where
    of : (os : List Opening) (outer : Outer) → FormsStand (form ∷ rest) reader.nodes os outer → IsNoBlock os outer
    of [] outer h = absurd h
    of (InBlock o done ∷ os) outer h = absurd (n h.0.kind)
    of (InHead head ∷ os) outer h = tt
    of (InElse head body e ∷ os) outer h = tt

pub no-function-bad : (tokens : List Lexeme) (place : ℕ) (reader : Reader) (r : ReadsTo tokens place reader) → IsThere (IsMark CloseBrace) tokens place → reader.forms ≡ [] → reader.function ≡ None → ExpressionFacts → IsBadAt tokens place
no-function-bad tokens place reader r t none closed facts = bad-brace facts r.openings r.outer tokens place t.0 (drop (place + 1) tokens) (r.stands facts) (drop-there tokens place t.0 t.1) t.2
    (of r.openings r.outer (subst (λ (x : List OpenForm). FormsStand x reader.nodes r.openings r.outer) none r.keeps.forms) (subst (λ (x : Option OpenFunction). MayBeOpen x reader.nodes r.outer) closed r.keeps.function))
  where
    of : (os : List Opening) (outer : Outer) → FormsStand [] reader.nodes os outer → MayBeOpen None reader.nodes outer → IsNoBlock os outer
    of (o ∷ os) outer h f = absurd h
    of [] (InProgram done) h f = tt
    of [] (InFunction done front body) h f = absurd f

pub end-in-form : (tokens : List Lexeme) (place : ℕ) (reader : Reader) (r : ReadsTo tokens place reader) → length tokens ≤ place → (reader.forms ≡ [] → ⊥) → ExpressionFacts → IsBadAt tokens place
end-in-form tokens place reader r past e facts = bad-end facts r.openings r.outer tokens place (r.stands facts) (drop_of_length-le tokens past) (inside-forms reader.forms reader.nodes r.openings r.outer r.keeps.forms e)

pub end-in-function : (tokens : List Lexeme) (place : ℕ) (reader : Reader) (r : ReadsTo tokens place reader) → length tokens ≤ place → is_some reader.function ≡ true → ExpressionFacts → IsBadAt tokens place
end-in-function tokens place reader r past e facts = bad-end facts r.openings r.outer tokens place (r.stands facts) (drop_of_length-le tokens past) (inside-function reader.function reader.nodes r.openings r.outer r.keeps.function e)
