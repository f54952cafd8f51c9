-- Where the fronts of functions go on no more, from what is read of them.
use Rattle.std.proofs.Common.{◌≡◌, ℕ, ◌+◌, ◌≤◌, Bool, true, false, not, inl, inr, List, [], ◌∷◌, ◌++◌, length, Some, refl, sym, ◌∙◌, ap, subst, arith, drop}
use Rattle.std.specs.Prelude.{slice_get}
use Rattle.std.proofs.lemmas.Option.{slice_get_within, same_Some}
use Rattle.es_lexer.specs.declared.words.ReservedWord.TheVariants.{Function as FunctionWord}
use Rattle.es_lexer.specs.declared.punctuators.Punctuator.TheVariants.{OpenParenthesis, CloseParenthesis, OpenBrace, Comma}
use Rattle.es_expressions.specs.declared.lexemes.Lexeme.{Lexeme}
use Rattle.es_expressions.specs.declared.lexemes.Symbol.TheVariants.{Name}
use Rattle.es_reader.specs.Statements.{Parameters, spelled_parameters}
use Rattle.es_reader.specs.Statements.Parameters.{NoParameters, SomeParameters}
use Rattle.es_reader.specs.Grammar.{IsMark, IsWord, IsName, parameter_names}
use Rattle.es_reader.specs.ExpressionFacts.{ExpressionFacts}
use Rattle.es_reader.specs.Programs.{is_among}
use Rattle.es_reader.specs.Parts.{IsThere}
use Rattle.es_reader.specs.Fronts.{AreParametersAt, NoNewName, ParametersBad, ParametersEnd, LacksBody}
use Rattle.es_reader.specs.Stops.{BehindWord, FrontStops}
use Rattle.es_reader.specs.declared.function_fronts.ParametersRead.{ParametersRead}
use Rattle.es_reader.proofs.Spelling.{parameters-onward}
use Rattle.es_reader.proofs.FrontStops.{front-no-name, front-no-open, front-no-parameter, front-no-comma, front-no-further, front-no-brace}
use Rattle.es_reader.proofs.Readings.{first-there}
use Rattle.es_reader.proofs.RangeLemmas.{drop-there}
use Rattle.es_reader.proofs.HeadLemmas.{lacks-there}
use Rattle.es_reader.proofs.DeclarationLemmas.{name-there, name-is}
use Rattle.es_reader.proofs.FrontLemmas.{SomeAt}

pub no-name-new : (names : List (List ℕ)) (tokens : List Lexeme) (place bad : ℕ) → (bad ≡ place) × (IsThere IsName tokens place → ⊥) → (bad ≡ place) × NoNewName names tokens place
no-name-new names tokens place bad (e, n) = (e, λ t h i. absurd (n (t, h, i)))

pub known-name : (names : List (List ℕ)) (tokens : List Lexeme) (place : ℕ) (name : List ℕ) (added : Bool) → IsThere (λ token. token.symbol ≡ Name name) tokens place → added ≡ not (is_among name names) → added ≡ false → NoNewName names tokens place
known-name names tokens place name added there a f t h i =
    let same : there.0 ≡ t = same_Some there.0 t (sym there.1 ∙ h) in
    ap (λ n. is_among n names) (sym (name-is t name (ap (λ x. x.symbol) (sym same) ∙ there.2))) ∙ not-false (is_among name names) (sym a ∙ f)
  where
    not-false : (b : Bool) → not b ≡ false → b ≡ true
    not-false true h = refl
    not-false false h = sym h

pub first-bad : (tokens : List Lexeme) (place : ℕ) (names : List (List ℕ)) → names ≡ [] → (IsThere (IsMark CloseParenthesis) tokens place → ⊥) → (bad : ℕ) → (bad ≡ place) × NoNewName names tokens place → ParametersBad tokens place bad
first-bad tokens place names none n bad (e, k) = inl (record { at_place = e; no_name = subst (λ (ns : List (List ℕ)). NoNewName ns tokens place) none k; no_close = n })

pub further-bad : (tokens : List Lexeme) (place behind : ℕ) (names : List (List ℕ)) → SomeAt tokens place (record { names = names; behind = behind }) → IsThere (IsMark Comma) tokens behind → (bad : ℕ) → (bad ≡ behind + 1) × NoNewName names tokens (behind + 1) → ParametersBad tokens place bad
further-bad tokens place behind names s comma bad (e, k) = inr (record {
  first = s.0;
  others = s.1;
  read = record { names = names; behind = behind };
  are = s.2;
  comma = comma;
  at_place = e;
  no_name = subst (λ b. NoNewName (parameter_names (SomeParameters s.0 s.1)) tokens b) (sym e) (subst (λ (ns : List (List ℕ)). NoNewName ns tokens (behind + 1)) s.2.names k);
})

-- the front

abbrev FrontBad : List Lexeme → ℕ → ℕ → Type 0
FrontBad tokens place bad = BehindWord (IsWord FunctionWord) FrontStops tokens place bad

abbrev IsNamed : List ℕ → List Lexeme → ℕ → Type 0
IsNamed name tokens place = IsThere (λ token. token.symbol ≡ Name name) tokens place

pub front-no-name-at : (tokens : List Lexeme) (place : ℕ) → IsThere (IsWord FunctionWord) tokens place → (bad : ℕ) → (bad ≡ place + 1) × (IsThere IsName tokens (place + 1) → ⊥) → FrontBad tokens place bad
front-no-name-at tokens place w bad (e, n) = subst (λ b. FrontBad tokens place b) (sym e) (record {
  within = let l = slice_get_within tokens place w.0 w.1 in omega arith;
  word = w.0;
  is = w.2;
  more = [];
  parts = sym (drop-there tokens place w.0 w.1);
  stops = λ facts. front-no-name w.0 (drop (place + 1) tokens) w.2 (lacks-there IsName tokens (place + 1) n);
})

named-left : (tokens : List Lexeme) (place : ℕ) (name : List ℕ) (w : IsThere (IsWord FunctionWord) tokens place) (m : IsNamed name tokens (place + 1)) → w.0 ∷ (m.0 ∷ drop (place + 2) tokens) ≡ drop place tokens
named-left tokens place name w m =
    let up : (place + 1) + 1 ≡ place + 2 = omega arith in
    ap (λ k. w.0 ∷ (m.0 ∷ drop k tokens)) (sym up) ∙ (ap (λ x. w.0 ∷ x) (sym (drop-there tokens (place + 1) m.0 m.1)) ∙ sym (drop-there tokens place w.0 w.1))

pub front-no-open-at : (tokens : List Lexeme) (place : ℕ) (name : List ℕ) → IsThere (IsWord FunctionWord) tokens place → IsNamed name tokens (place + 1) → (bad : ℕ) → (bad ≡ place + 2) × (IsThere (IsMark OpenParenthesis) tokens (place + 2) → ⊥) → FrontBad tokens place bad
front-no-open-at tokens place name w m bad (e, n) = subst (λ b. FrontBad tokens place b) (sym e) (record {
  within = let l = slice_get_within tokens (place + 1) m.0 m.1 in omega arith;
  word = w.0;
  is = w.2;
  more = m.0 ∷ [];
  parts = named-left tokens place name w m;
  stops = λ facts. front-no-open w.0 m.0 (drop (place + 2) tokens) w.2 (name-there m.0 name m.2) (lacks-there (IsMark OpenParenthesis) tokens (place + 2) n);
})

opened-left : (tokens : List Lexeme) (place : ℕ) (name : List ℕ) (o : Lexeme) (w : IsThere (IsWord FunctionWord) tokens place) (m : IsNamed name tokens (place + 1)) → slice_get tokens (place + 2) ≡ Some o → w.0 ∷ (m.0 ∷ (o ∷ drop (place + 3) tokens)) ≡ drop place tokens
opened-left tokens place name o w m g =
    let up : (place + 2) + 1 ≡ place + 3 = omega arith in
    ap (λ k. w.0 ∷ (m.0 ∷ (o ∷ drop k tokens))) (sym up) ∙ (ap (λ x. w.0 ∷ (m.0 ∷ x)) (sym (drop-there tokens (place + 2) o g)) ∙ named-left tokens place name w m)

at-stop : (tokens : List Lexeme) (place : ℕ) (name : List ℕ) (o : Lexeme) (w : IsThere (IsWord FunctionWord) tokens place) (m : IsNamed name tokens (place + 1)) → slice_get tokens (place + 2) ≡ Some o → (bad : ℕ) → bad ≤ length tokens → (x : List Lexeme) → x ++ drop bad tokens ≡ drop (place + 3) tokens → (ExpressionFacts → FrontStops w.0 (w.0 ∷ (m.0 ∷ (o ∷ x))) (drop bad tokens)) → FrontBad tokens place bad
at-stop tokens place name o w m g bad l x e s = record {
  within = l;
  word = w.0;
  is = w.2;
  more = m.0 ∷ (o ∷ x);
  parts = ap (λ z. w.0 ∷ (m.0 ∷ (o ∷ z))) e ∙ opened-left tokens place name o w m g;
  stops = s;
}

pub front-parameters-at : (tokens : List Lexeme) (place : ℕ) (name : List ℕ) (o : Lexeme) → IsThere (IsWord FunctionWord) tokens place → IsNamed name tokens (place + 1) → slice_get tokens (place + 2) ≡ Some o → IsMark OpenParenthesis o → (bad : ℕ) → ParametersBad tokens (place + 3) bad → FrontBad tokens place bad
front-parameters-at tokens place name o w m g i bad (inl k) =
    let within : bad ≤ length tokens = let l = slice_get_within tokens (place + 2) o g in let e = k.at_place in omega arith in
    at-stop tokens place name o w m g bad within [] (ap (λ b. drop b tokens) k.at_place)
    (λ facts. front-no-parameter w.0 m.0 o (drop bad tokens) w.2 (name-there m.0 name m.2) i
    (λ t f n. let z = k.no_name t (ap (λ b. slice_get tokens b) (sym k.at_place) ∙ (sym (first-there tokens bad) ∙ f)) n in absurd (cc))
    (λ t f c. k.no_close (t, ap (λ b. slice_get tokens b) (sym k.at_place) ∙ (sym (first-there tokens bad) ∙ f), c)))
front-parameters-at tokens place name o w m g i bad (inr k) =
    let within : bad ≤ length tokens = let l = slice_get_within tokens k.read.behind k.comma.0 k.comma.1 in let e = k.at_place in omega arith in
    at-stop tokens place name o w m g bad within (spelled_parameters (SomeParameters k.first k.others) (k.comma.0 ∷ []))
    (sym (parameters-onward (SomeParameters k.first k.others) (k.comma.0 ∷ []) (drop bad tokens)) ∙ (ap (λ b. spelled_parameters (SomeParameters k.first k.others) (k.comma.0 ∷ drop b tokens)) k.at_place
    ∙ (ap (λ z. spelled_parameters (SomeParameters k.first k.others) z) (sym (drop-there tokens k.read.behind k.comma.0 k.comma.1)) ∙ k.are.is_spelled)))
    (λ facts. front-no-further w.0 m.0 o k.first k.others k.comma.0 (drop bad tokens) w.2 (name-there m.0 name m.2) i k.are.are k.are.differ k.comma.2
    (λ t f n. k.no_name t (sym (first-there tokens bad) ∙ f) n))

pub front-no-close-at : (tokens : List Lexeme) (place : ℕ) (name : List ℕ) (o : Lexeme) (read : ParametersRead) → IsThere (IsWord FunctionWord) tokens place → IsNamed name tokens (place + 1) → slice_get tokens (place + 2) ≡ Some o → IsMark OpenParenthesis o → (x : Parameters) × AreParametersAt tokens (place + 3) x read × ParametersEnd tokens read.behind x
    → (bad : ℕ) → (bad ≡ read.behind) × (IsThere (IsMark CloseParenthesis) tokens read.behind → ⊥) → FrontBad tokens place bad
front-no-close-at tokens place name o read w m g i (NoParameters, a, z) bad (e, n) = absurd (n z)
front-no-close-at tokens place name o read w m g i (SomeParameters first others, a, z) bad (e, n) = subst (λ b. FrontBad tokens place b) (sym e)
    (at-stop tokens place name o w m g read.behind a.within (spelled_parameters (SomeParameters first others) []) (sym (parameters-onward (SomeParameters first others) [] (drop read.behind tokens)) ∙ a.is_spelled)
    (λ facts. front-no-comma w.0 m.0 o first others (drop read.behind tokens) w.2 (name-there m.0 name m.2) i a.are a.differ (lacks-there (IsMark Comma) tokens read.behind z) (lacks-there (IsMark CloseParenthesis) tokens read.behind n)))

pub front-no-brace-at : (tokens : List Lexeme) (place : ℕ) (name : List ℕ) (o c : Lexeme) (read : ParametersRead) → IsThere (IsWord FunctionWord) tokens place → IsNamed name tokens (place + 1) → slice_get tokens (place + 2) ≡ Some o → IsMark OpenParenthesis o → (x : Parameters) × AreParametersAt tokens (place + 3) x read × ParametersEnd tokens read.behind x
    → slice_get tokens read.behind ≡ Some c → IsMark CloseParenthesis c → (bad : ℕ) → (bad ≡ read.behind + 1) × (IsThere (IsMark OpenBrace) tokens (read.behind + 1) → ⊥) → FrontBad tokens place bad
front-no-brace-at tokens place name o c read w m g i ps h j bad (e, n) = subst (λ b. FrontBad tokens place b) (sym e)
    (at-stop tokens place name o w m g (read.behind + 1) (let l = slice_get_within tokens read.behind c h in omega arith) (spelled_parameters ps.0 (c ∷ []))
    (sym (parameters-onward ps.0 (c ∷ []) (drop (read.behind + 1) tokens)) ∙ (ap (λ z. spelled_parameters ps.0 z) (sym (drop-there tokens read.behind c h)) ∙ ps.1.is_spelled))
    (λ facts. front-no-brace w.0 m.0 o ps.0 c (drop (read.behind + 1) tokens) w.2 (name-there m.0 name m.2) i ps.1.are ps.1.differ j (lacks-there (IsMark OpenBrace) tokens (read.behind + 1) n)))

-- the parameters end with no `)`, or no `{` stands behind it
pub front-no-body-at : (tokens : List Lexeme) (place : ℕ) (name : List ℕ) (o : Lexeme) (read : ParametersRead) → IsThere (IsWord FunctionWord) tokens place → IsNamed name tokens (place + 1) → slice_get tokens (place + 2) ≡ Some o → IsMark OpenParenthesis o → (x : Parameters) × AreParametersAt tokens (place + 3) x read × ParametersEnd tokens read.behind x
    → (bad : ℕ) → LacksBody tokens read.behind bad → FrontBad tokens place bad
front-no-body-at tokens place name o read w m g i ps bad (inl k) = front-no-close-at tokens place name o read w m g i ps bad k
front-no-body-at tokens place name o read w m g i ps bad (inr (c, e, n)) = front-no-brace-at tokens place name o c.0 read w m g i ps c.1 c.2 bad (e, n)
