-- Where heads go on no more, from what is read of them.
use Rattle.std.proofs.Common.{◌≡◌, ℕ, ◌+◌, ◌≤◌, inl, inr, List, [], ◌∷◌, ◌++◌, length, Option, Some, None, sym, ◌∙◌, ap, subst, arith, drop}
use Rattle.std.specs.Prelude.{slice_get, slice_range}
use Rattle.std.proofs.lemmas.Option.{slice_get_within}
use Rattle.es_lexer.specs.declared.words.ReservedWord.TheVariants.{For as ForWord, In, Var as VarWord}
use Rattle.es_lexer.specs.declared.punctuators.Punctuator.TheVariants.{OpenParenthesis, CloseParenthesis, Semicolon}
use Rattle.es_expressions.specs.Phrases.{Phrase, spelled as spelled_expression}
use Rattle.es_expressions.specs.Nodes.{NodeRow}
use Rattle.es_expressions.specs.declared.expressions.Extent.TheVariants.{WithCommas}
use Rattle.es_expressions.specs.declared.lexemes.Lexeme.{Lexeme}
use Rattle.es_expressions.specs.declared.nodes.Form.{Form}
use Rattle.es_reader.specs.Statements.{First, Visitor, spelled_first, spelled_visitor, spelled_part}
use Rattle.es_reader.specs.Grammar.{IsMark, IsWord}
use Rattle.es_reader.specs.ExpressionFacts.{ExpressionFacts}
use Rattle.es_reader.specs.Parts.{IsThere, IsWholeAt, StopsIn}
use Rattle.es_reader.specs.Heads.{IsTestWord, IsFirstAt, IsPartAt, IsVisitorAt}
use Rattle.es_reader.specs.Stops.{StopsAt, BehindWord, HeadStops, DeclarationsStop}
use Rattle.es_reader.specs.declared.heads.HeadPart.{HeadPart}
use Rattle.es_reader.specs.declared.wholes.Whole.{Whole}
use Rattle.es_reader.proofs.Spelling.{expression-onward, first-onward, visitor-onward, part-onward}
use Rattle.es_reader.proofs.PartStops.{PartStops, part-stops, part-lacks}
use Rattle.es_reader.proofs.HeadStops.{ClosesPart, EndsPart, EndsFirst, if-no-open, while-no-open, if-test-stops, while-test-stops, for-no-open, for-first-stops, first-expression-stops, first-declarations-stop, for-test-stops, for-step-stops, for-object-stops}
use Rattle.es_reader.proofs.Readings.{no-further-at, range-left}
use Rattle.es_reader.proofs.RangeLemmas.{drop-there}
use Rattle.es_reader.proofs.HeadLemmas.{opened, lacks-whole, lacks-there}
use Rattle.es_reader.proofs.BadLemmas.{stops-in}

abbrev TestBad : Form → List Lexeme → ℕ → ℕ → Type 0
TestBad form tokens place bad = BehindWord (IsTestWord form) (λ word. HeadStops) tokens place bad

abbrev ForBad : List Lexeme → ℕ → ℕ → Type 0
ForBad tokens place bad = BehindWord (IsWord ForWord) (λ word. HeadStops) tokens place bad

pub test-no-open-at : (tokens : List Lexeme) (place : ℕ) (form : Form) → IsThere (IsTestWord form) tokens place → (bad : ℕ) → (bad ≡ place + 1) × (IsThere (IsMark OpenParenthesis) tokens (place + 1) → ⊥) → TestBad form tokens place bad
test-no-open-at tokens place form w bad (e, n) = subst (λ b. TestBad form tokens place b) (sym e) (record {
  within = let l = slice_get_within tokens place w.0 w.1 in omega arith;
  word = w.0;
  is = w.2;
  more = [];
  parts = sym (drop-there tokens place w.0 w.1);
  stops = λ facts. elim w.2 [
    | inl i ↦ if-no-open w.0 (drop (place + 1) tokens) i.0 (lacks-there (IsMark OpenParenthesis) tokens (place + 1) n)
    | inr i ↦ while-no-open w.0 (drop (place + 1) tokens) i.0 (lacks-there (IsMark OpenParenthesis) tokens (place + 1) n)
  ];
})

test-at-stop : (tokens : List Lexeme) (place : ℕ) (form : Form) (o : Lexeme) → IsThere (IsTestWord form) tokens place → slice_get tokens (place + 1) ≡ Some o → IsMark OpenParenthesis o → (bad : ℕ) → bad ≤ length tokens → (x : List Lexeme) → x ++ drop bad tokens ≡ drop (place + 2) tokens → (ExpressionFacts → PartStops ClosesPart x (drop bad tokens)) → TestBad form tokens place bad
test-at-stop tokens place which o w g i bad l x e s = record {
  within = l;
  word = w.0;
  is = w.2;
  more = o ∷ x;
  parts = ap (λ z. w.0 ∷ (o ∷ z)) e ∙ opened tokens place w.0 o w.1 g;
  stops = λ facts. elim w.2 [ inl k ↦ if-test-stops w.0 o x (drop bad tokens) k.0 i (s facts) | inr k ↦ while-test-stops w.0 o x (drop bad tokens) k.0 i (s facts) ];
}

pub test-stops-at : (tokens : List Lexeme) (place : ℕ) (form : Form) (o : Lexeme) → IsThere (IsTestWord form) tokens place → slice_get tokens (place + 1) ≡ Some o → IsMark OpenParenthesis o → (bad : ℕ) → StopsIn WithCommas tokens (place + 2) bad → TestBad form tokens place bad
test-stops-at tokens place form o w g i bad s = test-at-stop tokens place form o w g i bad s.within (slice_range tokens (place + 2) bad) (range-left tokens (place + 2) bad s.from) (λ facts. part-stops facts ClosesPart (slice_range tokens (place + 2) bad) (drop bad tokens) (stops-in WithCommas tokens (place + 2) bad s))

whole-left : (tokens : List Lexeme) (place : ℕ) (rows : List NodeRow) (e : Phrase) (whole : Whole) → IsWholeAt WithCommas tokens place rows e whole → spelled_expression e [] ++ drop whole.behind tokens ≡ drop place tokens
whole-left tokens place rows e whole w = sym (expression-onward e [] (drop whole.behind tokens)) ∙ w.is_spelled

lacks-close : (tokens : List Lexeme) (place : ℕ) (rows : List NodeRow) (e : Phrase) (whole : Whole) → IsWholeAt WithCommas tokens place rows e whole → (IsThere (IsMark CloseParenthesis) tokens whole.behind → ⊥) → ExpressionFacts → PartStops ClosesPart (spelled_expression e []) (drop whole.behind tokens)
lacks-close tokens place rows e whole w n facts = part-lacks facts ClosesPart e (drop whole.behind tokens) w.is (no-further-at WithCommas e tokens whole.behind w.no_more) (lacks-there (IsMark CloseParenthesis) tokens whole.behind n)

pub test-no-close-at : (tokens : List Lexeme) (place : ℕ) (form : Form) (rows : List NodeRow) (o : Lexeme) (whole : Whole) → IsThere (IsTestWord form) tokens place → slice_get tokens (place + 1) ≡ Some o → IsMark OpenParenthesis o → (e : Phrase) × IsWholeAt WithCommas tokens (place + 2) rows e whole → (bad : ℕ) → (bad ≡ whole.behind) × (IsThere (IsMark CloseParenthesis) tokens whole.behind → ⊥) → TestBad form tokens place bad
test-no-close-at tokens place form rows o whole w g i es bad (e, n) = subst (λ b. TestBad form tokens place b) (sym e)
    (test-at-stop tokens place form o w g i whole.behind es.1.within (spelled_expression es.0 []) (whole-left tokens (place + 2) rows es.0 whole es.1) (lacks-close tokens (place + 2) rows es.0 whole es.1 n))

-- `for`

pub for-no-open-at : (tokens : List Lexeme) (place : ℕ) → IsThere (IsWord ForWord) tokens place → (bad : ℕ) → (bad ≡ place + 1) × (IsThere (IsMark OpenParenthesis) tokens (place + 1) → ⊥) → ForBad tokens place bad
for-no-open-at tokens place w bad (e, n) = subst (λ b. ForBad tokens place b) (sym e) (record {
  within = let l = slice_get_within tokens place w.0 w.1 in omega arith;
  word = w.0;
  is = w.2;
  more = [];
  parts = sym (drop-there tokens place w.0 w.1);
  stops = λ facts. for-no-open w.0 (drop (place + 1) tokens) w.2 (lacks-there (IsMark OpenParenthesis) tokens (place + 1) n);
})

for-at-stop : (tokens : List Lexeme) (place : ℕ) (w : IsThere (IsWord ForWord) tokens place) (o : IsThere (IsMark OpenParenthesis) tokens (place + 1)) (bad : ℕ) → bad ≤ length tokens → (x : List Lexeme) → x ++ drop bad tokens ≡ drop (place + 2) tokens → (ExpressionFacts → HeadStops (w.0 ∷ (o.0 ∷ x)) (drop bad tokens)) → ForBad tokens place bad
for-at-stop tokens place w o bad l x e s = record {
  within = l;
  word = w.0;
  is = w.2;
  more = o.0 ∷ x;
  parts = ap (λ z. w.0 ∷ (o.0 ∷ z)) e ∙ opened tokens place w.0 o.0 w.1 o.1;
  stops = s;
}

pub for-expression-stops-at : (tokens : List Lexeme) (place : ℕ) → IsThere (IsWord ForWord) tokens place → IsThere (IsMark OpenParenthesis) tokens (place + 1) → (IsThere (IsMark Semicolon) tokens (place + 2) → ⊥) → (IsThere (IsWord VarWord) tokens (place + 2) → ⊥) → (bad : ℕ) → StopsIn WithCommas tokens (place + 2) bad → ForBad tokens place bad
for-expression-stops-at tokens place w o n v bad s =
    let left = range-left tokens (place + 2) bad s.from in
    for-at-stop tokens place w o bad s.within (slice_range tokens (place + 2) bad) left (λ facts. for-first-stops w.0 o.0 (slice_range tokens (place + 2) bad) (drop bad tokens) w.2 o.2
    (first-expression-stops (slice_range tokens (place + 2) bad) (drop bad tokens) (part-stops facts EndsFirst (slice_range tokens (place + 2) bad) (drop bad tokens) (stops-in WithCommas tokens (place + 2) bad s))
    (lacks-whole (IsMark Semicolon) tokens (place + 2) (slice_range tokens (place + 2) bad) (drop bad tokens) left n) (lacks-whole (IsWord VarWord) tokens (place + 2) (slice_range tokens (place + 2) bad) (drop bad tokens) left v)))

pub for-declarations-stop-at : (tokens : List Lexeme) (place : ℕ) → IsThere (IsWord ForWord) tokens place → IsThere (IsMark OpenParenthesis) tokens (place + 1) → IsThere (IsWord VarWord) tokens (place + 2) → (next : ℕ) → next ≡ place + 2 + 1 → (bad : ℕ) → StopsAt DeclarationsStop tokens next bad → ForBad tokens place bad
for-declarations-stop-at tokens place w o v next up bad s =
    for-at-stop tokens place w o bad s.within (v.0 ∷ s.read) (ap (λ x. v.0 ∷ x) s.parts ∙ (ap (λ k. v.0 ∷ drop k tokens) up ∙ sym (drop-there tokens (place + 2) v.0 v.1)))
    (λ facts. for-first-stops w.0 o.0 (v.0 ∷ s.read) (drop bad tokens) w.2 o.2 (first-declarations-stop facts v.0 s.read (drop bad tokens) v.2 (s.stops facts)))

pub for-no-semicolon-at : (tokens : List Lexeme) (place : ℕ) (rows : List NodeRow) (part : HeadPart) → IsThere (IsWord ForWord) tokens place → IsThere (IsMark OpenParenthesis) tokens (place + 1) → (f : First) × IsFirstAt tokens (place + 2) rows f part → (bad : ℕ) → (bad ≡ part.behind) × (IsThere (IsMark Semicolon) tokens part.behind → ⊥) → ForBad tokens place bad
for-no-semicolon-at tokens place rows part w o fs bad (e, n) = subst (λ b. ForBad tokens place b) (sym e)
    (for-at-stop tokens place w o part.behind fs.1.within (spelled_first fs.0 []) (sym (first-onward fs.0 [] (drop part.behind tokens)) ∙ fs.1.is_spelled)
    (λ facts. for-first-stops w.0 o.0 (spelled_first fs.0 []) (drop part.behind tokens) w.2 o.2 (fs.1.stops facts n)))

for-test-stop : (tokens : List Lexeme) (place : ℕ) (rows : List NodeRow) (part : HeadPart) (m : Lexeme) → IsThere (IsWord ForWord) tokens place → IsThere (IsMark OpenParenthesis) tokens (place + 1) → (f : First) × IsFirstAt tokens (place + 2) rows f part → slice_get tokens part.behind ≡ Some m → IsMark Semicolon m
    → (bad : ℕ) → bad ≤ length tokens → (x : List Lexeme) → x ++ drop bad tokens ≡ drop (part.behind + 1) tokens → (IsThere (IsMark Semicolon) tokens (part.behind + 1) → ⊥) → (ExpressionFacts → PartStops EndsPart x (drop bad tokens)) → ForBad tokens place bad
for-test-stop tokens place rows part m w o fs g i bad l x e n s =
    for-at-stop tokens place w o bad l (spelled_first fs.0 (m ∷ x)) (sym (first-onward fs.0 (m ∷ x) (drop bad tokens)) ∙ (ap (λ z. spelled_first fs.0 (m ∷ z)) e ∙ (ap (λ z. spelled_first fs.0 z) (sym (drop-there tokens part.behind m g)) ∙ fs.1.is_spelled)))
    (λ facts. for-test-stops facts w.0 o.0 fs.0 m x (drop bad tokens) w.2 o.2 fs.1.is i (s facts) (lacks-whole (IsMark Semicolon) tokens (part.behind + 1) x (drop bad tokens) e n))

pub for-test-stops-at : (tokens : List Lexeme) (place : ℕ) (rows : List NodeRow) (part : HeadPart) (m : Lexeme) → IsThere (IsWord ForWord) tokens place → IsThere (IsMark OpenParenthesis) tokens (place + 1) → (f : First) × IsFirstAt tokens (place + 2) rows f part → slice_get tokens part.behind ≡ Some m → IsMark Semicolon m
    → (bad : ℕ) → StopsIn WithCommas tokens (part.behind + 1) bad × (IsThere (IsMark Semicolon) tokens (part.behind + 1) → ⊥) → ForBad tokens place bad
for-test-stops-at tokens place rows part m w o fs g i bad (s, n) = for-test-stop tokens place rows part m w o fs g i bad s.within (slice_range tokens (part.behind + 1) bad) (range-left tokens (part.behind + 1) bad s.from) n
    (λ facts. part-stops facts EndsPart (slice_range tokens (part.behind + 1) bad) (drop bad tokens) (stops-in WithCommas tokens (part.behind + 1) bad s))

pub for-no-second-at : (tokens : List Lexeme) (place : ℕ) (rows more : List NodeRow) (part test : HeadPart) (m : Lexeme) → IsThere (IsWord ForWord) tokens place → IsThere (IsMark OpenParenthesis) tokens (place + 1) → (f : First) × IsFirstAt tokens (place + 2) rows f part → slice_get tokens part.behind ≡ Some m → IsMark Semicolon m
    → (e : Option Phrase) × IsPartAt Semicolon tokens (part.behind + 1) more e test → (bad : ℕ) → (bad ≡ test.behind) × (IsThere (IsMark Semicolon) tokens test.behind → ⊥) → ForBad tokens place bad
for-no-second-at tokens place rows more part test m w o fs g i (None, t) bad (e, n) = absurd (n t.ends)
for-no-second-at tokens place rows more part test m w o fs g i (Some x, t) bad (e, n) = subst (λ b. ForBad tokens place b) (sym e)
    (for-test-stop tokens place rows part m w o fs g i test.behind t.within (spelled_expression x []) (sym (expression-onward x [] (drop test.behind tokens)) ∙ t.is_spelled) t.ends.0
    (λ facts. part-lacks facts EndsPart x (drop test.behind tokens) t.is (no-further-at WithCommas x tokens test.behind t.ends.1) (lacks-there (IsMark Semicolon) tokens test.behind n)))

for-step-stop : (tokens : List Lexeme) (place : ℕ) (rows more : List NodeRow) (part test : HeadPart) (m second : Lexeme) → IsThere (IsWord ForWord) tokens place → IsThere (IsMark OpenParenthesis) tokens (place + 1) → (f : First) × IsFirstAt tokens (place + 2) rows f part → slice_get tokens part.behind ≡ Some m → IsMark Semicolon m
    → (e : Option Phrase) × IsPartAt Semicolon tokens (part.behind + 1) more e test → slice_get tokens test.behind ≡ Some second → IsMark Semicolon second
    → (bad : ℕ) → bad ≤ length tokens → (x : List Lexeme) → x ++ drop bad tokens ≡ drop (test.behind + 1) tokens → (IsThere (IsMark CloseParenthesis) tokens (test.behind + 1) → ⊥) → (ExpressionFacts → PartStops ClosesPart x (drop bad tokens)) → ForBad tokens place bad
for-step-stop tokens place rows more part test m second w o fs g i ts h j bad l x e n s =
    for-at-stop tokens place w o bad l (spelled_first fs.0 (m ∷ spelled_part ts.0 (second ∷ x)))
    (sym (first-onward fs.0 (m ∷ spelled_part ts.0 (second ∷ x)) (drop bad tokens)) ∙ (ap (λ z. spelled_first fs.0 (m ∷ z)) (sym (part-onward ts.0 (second ∷ x) (drop bad tokens)) ∙ (ap (λ z. spelled_part ts.0 (second ∷ z)) e ∙ (ap (λ z. spelled_part ts.0 z) (sym (drop-there tokens test.behind second h)) ∙ ts.1.is_spelled)))
    ∙ (ap (λ z. spelled_first fs.0 z) (sym (drop-there tokens part.behind m g)) ∙ fs.1.is_spelled)))
    (λ facts. for-step-stops facts w.0 o.0 fs.0 m ts.0 second x (drop bad tokens) w.2 o.2 fs.1.is i ts.1.is j (s facts) (lacks-whole (IsMark CloseParenthesis) tokens (test.behind + 1) x (drop bad tokens) e n))

pub for-step-stops-at : (tokens : List Lexeme) (place : ℕ) (rows more : List NodeRow) (part test : HeadPart) (m second : Lexeme) → IsThere (IsWord ForWord) tokens place → IsThere (IsMark OpenParenthesis) tokens (place + 1) → (f : First) × IsFirstAt tokens (place + 2) rows f part → slice_get tokens part.behind ≡ Some m → IsMark Semicolon m
    → (e : Option Phrase) × IsPartAt Semicolon tokens (part.behind + 1) more e test → slice_get tokens test.behind ≡ Some second → IsMark Semicolon second
    → (bad : ℕ) → StopsIn WithCommas tokens (test.behind + 1) bad × (IsThere (IsMark CloseParenthesis) tokens (test.behind + 1) → ⊥) → ForBad tokens place bad
for-step-stops-at tokens place rows more part test m second w o fs g i ts h j bad (s, n) = for-step-stop tokens place rows more part test m second w o fs g i ts h j bad s.within (slice_range tokens (test.behind + 1) bad) (range-left tokens (test.behind + 1) bad s.from) n
    (λ facts. part-stops facts ClosesPart (slice_range tokens (test.behind + 1) bad) (drop bad tokens) (stops-in WithCommas tokens (test.behind + 1) bad s))

pub for-no-close-at : (tokens : List Lexeme) (place : ℕ) (rows more after : List NodeRow) (part test step : HeadPart) (m second : Lexeme) → IsThere (IsWord ForWord) tokens place → IsThere (IsMark OpenParenthesis) tokens (place + 1) → (f : First) × IsFirstAt tokens (place + 2) rows f part → slice_get tokens part.behind ≡ Some m → IsMark Semicolon m
    → (e : Option Phrase) × IsPartAt Semicolon tokens (part.behind + 1) more e test → slice_get tokens test.behind ≡ Some second → IsMark Semicolon second → (e : Option Phrase) × IsPartAt CloseParenthesis tokens (test.behind + 1) after e step
    → (bad : ℕ) → (bad ≡ step.behind) × (IsThere (IsMark CloseParenthesis) tokens step.behind → ⊥) → ForBad tokens place bad
for-no-close-at tokens place rows more after part test step m second w o fs g i ts h j (None, t) bad (e, n) = absurd (n t.ends)
for-no-close-at tokens place rows more after part test step m second w o fs g i ts h j (Some x, t) bad (e, n) = subst (λ b. ForBad tokens place b) (sym e)
    (for-step-stop tokens place rows more part test m second w o fs g i ts h j step.behind t.within (spelled_expression x []) (sym (expression-onward x [] (drop step.behind tokens)) ∙ t.is_spelled) t.ends.0
    (λ facts. part-lacks facts ClosesPart x (drop step.behind tokens) t.is (no-further-at WithCommas x tokens step.behind t.ends.1) (lacks-there (IsMark CloseParenthesis) tokens step.behind n)))

for-object-stop : (tokens : List Lexeme) (place : ℕ) (rows : List NodeRow) (part : HeadPart) → IsThere (IsWord ForWord) tokens place → IsThere (IsMark OpenParenthesis) tokens (place + 1) → (v : Visitor) × IsVisitorAt tokens (place + 2) rows v part → IsThere (IsWord In) tokens part.behind
    → (bad : ℕ) → bad ≤ length tokens → (x : List Lexeme) → x ++ drop bad tokens ≡ drop (part.behind + 1) tokens → (ExpressionFacts → PartStops ClosesPart x (drop bad tokens)) → ForBad tokens place bad
for-object-stop tokens place rows part w o vs t bad l x e s =
    for-at-stop tokens place w o bad l (spelled_visitor vs.0 (t.0 ∷ x)) (sym (visitor-onward vs.0 (t.0 ∷ x) (drop bad tokens)) ∙ (ap (λ z. spelled_visitor vs.0 (t.0 ∷ z)) e ∙ (ap (λ z. spelled_visitor vs.0 z) (sym (drop-there tokens part.behind t.0 t.1)) ∙ vs.1.is_spelled)))
    (λ facts. for-object-stops facts w.0 o.0 vs.0 t.0 x (drop bad tokens) w.2 o.2 vs.1.is t.2 (s facts))

pub for-object-stops-at : (tokens : List Lexeme) (place : ℕ) (rows : List NodeRow) (part : HeadPart) → IsThere (IsWord ForWord) tokens place → IsThere (IsMark OpenParenthesis) tokens (place + 1) → (v : Visitor) × IsVisitorAt tokens (place + 2) rows v part → IsThere (IsWord In) tokens part.behind → (bad : ℕ) → StopsIn WithCommas tokens (part.behind + 1) bad → ForBad tokens place bad
for-object-stops-at tokens place rows part w o vs t bad s = for-object-stop tokens place rows part w o vs t bad s.within (slice_range tokens (part.behind + 1) bad) (range-left tokens (part.behind + 1) bad s.from)
    (λ facts. part-stops facts ClosesPart (slice_range tokens (part.behind + 1) bad) (drop bad tokens) (stops-in WithCommas tokens (part.behind + 1) bad s))

pub for-object-no-close-at : (tokens : List Lexeme) (place : ℕ) (rows after : List NodeRow) (part : HeadPart) (object : Whole) → IsThere (IsWord ForWord) tokens place → IsThere (IsMark OpenParenthesis) tokens (place + 1) → (v : Visitor) × IsVisitorAt tokens (place + 2) rows v part → IsThere (IsWord In) tokens part.behind → (e : Phrase) × IsWholeAt WithCommas tokens (part.behind + 1) after e object
    → (bad : ℕ) → (bad ≡ object.behind) × (IsThere (IsMark CloseParenthesis) tokens object.behind → ⊥) → ForBad tokens place bad
for-object-no-close-at tokens place rows after part object w o vs t es bad (e, n) = subst (λ b. ForBad tokens place b) (sym e)
    (for-object-stop tokens place rows part w o vs t object.behind es.1.within (spelled_expression es.0 []) (whole-left tokens (part.behind + 1) after es.0 object es.1) (lacks-close tokens (part.behind + 1) after es.0 object es.1 n))
