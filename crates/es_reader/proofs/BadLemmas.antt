-- Where parts go on no more, from what is read of them.
use Rattle.std.proofs.Common.{◌≡◌, ℕ, ◌+◌, ◌≤◌, true, ◌⊎◌, inl, inr, List, [], ◌∷◌, length, Some, refl, sym, ◌∙◌, ap, subst, arith, drop}
use Rattle.std.specs.Prelude.{slice_get, slice_range, Result, Ok, Err, IfErr, IsErrAnd}
use Rattle.std.proofs.lemmas.Option.{slice_get_within}
use Rattle.es_lexer.specs.declared.words.ReservedWord.TheVariants.{Break, Continue, Return as ReturnWord, Var as VarWord}
use Rattle.es_lexer.specs.declared.punctuators.Punctuator.TheVariants.{Assign, Comma}
use Rattle.es_expressions.specs.Phrases.{Phrase, spelled as spelled_expression}
use Rattle.es_expressions.specs.Nodes.{NodeRow}
use Rattle.es_expressions.specs.declared.expressions.Extent.{Extent}
use Rattle.es_expressions.specs.declared.expressions.Extent.TheVariants.{WithCommas, WithoutCommas}
use Rattle.es_expressions.specs.declared.lexemes.Lexeme.{Lexeme}
use Rattle.es_expressions.specs.declared.lexemes.Symbol.TheVariants.{Name}
use Rattle.es_reader.specs.Statements.{Declarations, spelled_declarations}
use Rattle.es_reader.specs.Grammar.{IsMark, IsWord, IsName, Setting}
use Rattle.es_reader.specs.Openings.{first_of}
use Rattle.es_reader.specs.Parts.{IfBad, IsThere, IsNoEnd, IsWholeAt, StopsIn}
use Rattle.es_reader.specs.Simples.{AreDeclaredAt}
use Rattle.es_reader.specs.Stops.{StopsAt, BehindWord, IsSimpleWord, DeclarationStops, DeclarationsStop, ValueStops, SimpleStops}
use Rattle.es_reader.specs.declared.declarations.DeclaredNames.{DeclaredNames}
use Rattle.es_reader.specs.declared.faults.PartFault.{PartFault}
use Rattle.es_reader.specs.declared.faults.PartFault.TheVariants.{Bad, NoMemory}
use Rattle.es_reader.specs.declared.wholes.Whole.{Whole}
use Rattle.es_reader.proofs.Spelling.{declarations-onward, expression-onward}
use Rattle.es_reader.proofs.PartStops.{ExpressionStops, declaration-no-name, declaration-value-stops, first-stops, further-stops, value-stops, value-no-end}
use Rattle.es_reader.proofs.SimpleStops.{var-stops, var-no-end, jump-no-end, return-stops}
use Rattle.es_reader.proofs.Readings.{first-there, no-further-at, expression-stops-at, range-left}
use Rattle.es_reader.proofs.RangeLemmas.{drop-there}
use Rattle.es_reader.proofs.DeclarationLemmas.{name-there}

pub if-bad : (fault : PartFault) (P Q : ℕ → Type 0) → ((bad : ℕ) → P bad → Q bad) → IfBad fault P → IfBad fault Q
if-bad (Bad bad) P Q h p = h bad p
if-bad NoMemory P Q h p = tt

-- a fault that is handed on
pub handed : {A : Type 0} (r : Result A PartFault) (e : PartFault) (Q : ℕ → Type 0) → IsErrAnd r (λ x. x ≡ e) → IfBad e Q → IfErr r (λ fault. IfBad fault Q)
handed (Ok x) e Q h q = tt
handed (Err x) e Q h q = subst (λ (y : PartFault). IfBad y Q) (sym h) q

pub stops-in : (extent : Extent) (tokens : List Lexeme) (place bad : ℕ) → StopsIn extent tokens place bad → ExpressionStops extent (slice_range tokens place bad) (drop bad tokens)
stops-in extent tokens place bad s = expression-stops-at extent tokens place bad s.from s.goes_on s.no_more s.not_whole

-- declarations

pub no-name-at : (tokens : List Lexeme) (place : ℕ) → place ≤ length tokens → (bad : ℕ) → (bad ≡ place) × (IsThere IsName tokens place → ⊥) → StopsAt DeclarationStops tokens place bad
no-name-at tokens place l bad (e, n) = subst (λ b. StopsAt DeclarationStops tokens place b) (sym e) (record {
  within = l;
  read = [];
  parts = refl;
  stops = λ facts. declaration-no-name (drop place tokens) (λ t f i. n (t, sym (first-there tokens place) ∙ f, i));
})

pub no-value-at : (tokens : List Lexeme) (place : ℕ) (name : List ℕ) → IsThere (λ token. token.symbol ≡ Name name) tokens place → IsThere (IsMark Assign) tokens (place + 1) → (bad : ℕ) → StopsIn WithoutCommas tokens (place + 2) bad → StopsAt DeclarationStops tokens place bad
no-value-at tokens place name n o bad s =
    let up : (place + 1) + 1 ≡ place + 2 = omega arith in
    record {
      within = s.within;
      read = n.0 ∷ (o.0 ∷ slice_range tokens (place + 2) bad);
      parts = ap (λ x. n.0 ∷ (o.0 ∷ x)) (range-left tokens (place + 2) bad s.from) ∙ (ap (λ k. n.0 ∷ (o.0 ∷ drop k tokens)) (sym up) ∙ (ap (λ x. n.0 ∷ x) (sym (drop-there tokens (place + 1) o.0 o.1)) ∙ sym (drop-there tokens place n.0 n.1)));
      stops = λ facts. declaration-value-stops facts n.0 o.0 (slice_range tokens (place + 2) bad) (drop bad tokens) (name-there n.0 name n.2) o.2 (stops-in WithoutCommas tokens (place + 2) bad s);
    }

pub first-stops-at : (tokens : List Lexeme) (place bad : ℕ) → StopsAt DeclarationStops tokens place bad → StopsAt DeclarationsStop tokens place bad
first-stops-at tokens place bad s = record { within = s.within; read = s.read; parts = s.parts; stops = λ facts. first-stops s.read (drop bad tokens) (s.stops facts) }

pub further-stops-at : (tokens : List Lexeme) (place : ℕ) (rows : List NodeRow) (names after : List (List ℕ)) (declared : DeclaredNames) → (d : Declarations) × AreDeclaredAt tokens place rows d names after declared → IsThere (IsMark Comma) tokens declared.behind
    → (bad : ℕ) → StopsAt DeclarationStops tokens (declared.behind + 1) bad → StopsAt DeclarationsStop tokens place bad
further-stops-at tokens place rows names after declared ds comma bad s = record {
  within = s.within;
  read = spelled_declarations ds.0 (comma.0 ∷ s.read);
  parts = sym (declarations-onward ds.0 (comma.0 ∷ s.read) (drop bad tokens)) ∙ (ap (λ x. spelled_declarations ds.0 (comma.0 ∷ x)) s.parts ∙ (ap (λ x. spelled_declarations ds.0 x) (sym (drop-there tokens declared.behind comma.0 comma.1)) ∙ ds.1.is_spelled));
  stops = λ facts. further-stops facts ds.0 comma.0 s.read (drop bad tokens) ds.1.are comma.2 (s.stops facts);
}

-- simple statements

pub var-stops-at : (tokens : List Lexeme) (place : ℕ) → IsThere (IsWord VarWord) tokens place → (bad : ℕ) → StopsAt DeclarationsStop tokens (place + 1) bad → (p : Setting) → BehindWord IsSimpleWord (λ word. SimpleStops p) tokens place bad
var-stops-at tokens place w bad s p = record {
  within = s.within;
  word = w.0;
  is = inl (inl w.2);
  more = s.read;
  parts = ap (λ x. w.0 ∷ x) s.parts ∙ sym (drop-there tokens place w.0 w.1);
  stops = λ facts. var-stops facts p w.0 s.read (drop bad tokens) w.2 (s.stops facts);
}

pub var-no-end-at : (tokens : List Lexeme) (place : ℕ) (rows : List NodeRow) (names after : List (List ℕ)) (declared : DeclaredNames) → IsThere (IsWord VarWord) tokens place → (d : Declarations) × AreDeclaredAt tokens (place + 1) rows d names after declared → (IsThere (IsMark Comma) tokens declared.behind → ⊥)
    → (bad : ℕ) → (bad ≡ declared.behind) × IsThere IsNoEnd tokens declared.behind → (p : Setting) → BehindWord IsSimpleWord (λ word. SimpleStops p) tokens place bad
var-no-end-at tokens place rows names after declared w ds no_comma bad (e, n) p = subst (λ b. BehindWord IsSimpleWord (λ word. SimpleStops p) tokens place b) (sym e) (record {
  within = ds.1.within;
  word = w.0;
  is = inl (inl w.2);
  more = spelled_declarations ds.0 [];
  parts = ap (λ x. w.0 ∷ x) (sym (declarations-onward ds.0 [] (drop declared.behind tokens)) ∙ ds.1.is_spelled) ∙ sym (drop-there tokens place w.0 w.1);
  stops = λ facts. var-no-end facts p w.0 ds.0 (drop declared.behind tokens) n.0 w.2 ds.1.are
      (λ u f g. ds.1.no_more u (sym (first-there tokens declared.behind) ∙ f) (λ m. no_comma (u, sym (first-there tokens declared.behind) ∙ f, m)) g)
      (first-there tokens declared.behind ∙ n.1) n.2;
})

pub jump-no-end-at : (tokens : List Lexeme) (place : ℕ) (word : Lexeme) → slice_get tokens place ≡ Some word → IsWord Break word ⊎ IsWord Continue word → (bad : ℕ) → (bad ≡ place + 1) × IsThere IsNoEnd tokens (place + 1) → (p : Setting) → p.in_loop ≡ true → BehindWord IsSimpleWord (λ word. SimpleStops p) tokens place bad
jump-no-end-at tokens place word there w bad (e, n) p loop = subst (λ b. BehindWord IsSimpleWord (λ word. SimpleStops p) tokens place b) (sym e) (record {
  within = let l = slice_get_within tokens place word there in omega arith;
  word = word;
  is = inr w;
  more = [];
  parts = sym (drop-there tokens place word there);
  stops = λ facts. jump-no-end facts p word (drop (place + 1) tokens) n.0 w loop (first-there tokens (place + 1) ∙ n.1) n.2;
})

pub return-stops-at : (tokens : List Lexeme) (place : ℕ) → IsThere (IsWord ReturnWord) tokens place → IsThere IsNoEnd tokens (place + 1) → (bad : ℕ) → StopsAt ValueStops tokens (place + 1) bad → (p : Setting) → p.in_function ≡ true → BehindWord IsSimpleWord (λ word. SimpleStops p) tokens place bad
return-stops-at tokens place w n bad s p inside = record {
  within = s.within;
  word = w.0;
  is = inl (inr w.2);
  more = s.read;
  parts = ap (λ x. w.0 ∷ x) s.parts ∙ sym (drop-there tokens place w.0 w.1);
  stops = λ facts. return-stops facts p w.0 s.read (drop bad tokens) n.0 w.2 inside (ap first_of s.parts ∙ (first-there tokens (place + 1) ∙ n.1)) n.2 (s.stops facts);
}

pub value-stops-at : (tokens : List Lexeme) (place bad : ℕ) → StopsIn WithCommas tokens place bad → StopsAt ValueStops tokens place bad
value-stops-at tokens place bad s = record {
  within = s.within;
  read = slice_range tokens place bad;
  parts = range-left tokens place bad s.from;
  stops = λ facts. value-stops facts (slice_range tokens place bad) (drop bad tokens) (stops-in WithCommas tokens place bad s);
}

pub value-no-end-at : (tokens : List Lexeme) (place : ℕ) (rows : List NodeRow) (whole : Whole) → (e : Phrase) × IsWholeAt WithCommas tokens place rows e whole → (bad : ℕ) → (bad ≡ whole.behind) × IsThere IsNoEnd tokens whole.behind → StopsAt ValueStops tokens place bad
value-no-end-at tokens place rows whole es bad (e, n) = subst (λ b. StopsAt ValueStops tokens place b) (sym e) (record {
  within = es.1.within;
  read = spelled_expression es.0 [];
  parts = sym (expression-onward es.0 [] (drop whole.behind tokens)) ∙ es.1.is_spelled;
  stops = λ facts. value-no-end facts es.0 (drop whole.behind tokens) n.0 es.1.is (no-further-at WithCommas es.0 tokens whole.behind es.1.no_more) (first-there tokens whole.behind ∙ n.1) n.2;
})
