-- What is read of parameters and of the fronts of functions.
use Rattle.std.proofs.Common.{◌≡◌, ℕ, ◌+◌, ◌≤◌, Bool, true, false, not, cond, ◌||◌, List, [], ◌∷◌, ◌++◌, length, Some, refl, sym, ◌∙◌, ap, subst, arith, drop}
use Rattle.std.specs.Prelude.{slice_get}
use Rattle.std.specs.List.{IsDistinct, AllByRecursion}
use Rattle.std.specs.Cmp.Lexicographic.{same_text, other_text}
use Rattle.std.proofs.lemmas.Option.{slice_get_within}
use Rattle.bml_bytes.specs.Words.{is_same}
use Rattle.es_lexer.specs.declared.words.ReservedWord.TheVariants.{Function as FunctionWord}
use Rattle.es_lexer.specs.declared.punctuators.Punctuator.TheVariants.{OpenParenthesis, CloseParenthesis, OpenBrace, Comma}
use Rattle.es_expressions.specs.declared.lexemes.Lexeme.{Lexeme}
use Rattle.es_expressions.specs.declared.lexemes.Symbol.TheVariants.{Name}
use Rattle.es_reader.specs.Statements.{FurtherName, Parameters, spelled_names, spelled_parameters}
use Rattle.es_reader.specs.Statements.Parameters.{NoParameters, SomeParameters}
use Rattle.es_reader.specs.Grammar.{IsMark, IsWord, IsName, AreNames, names_of, name_of}
use Rattle.es_reader.specs.Openings.{Front}
use Rattle.es_reader.specs.Programs.{is_among}
use Rattle.es_reader.specs.Told.{with_name}
use Rattle.es_reader.specs.Parts.{IsThere}
use Rattle.es_reader.specs.Fronts.{IsOneName, AreParametersAt, IsFrontAt}
use Rattle.es_reader.specs.declared.function_fronts.FrontRead.{FrontRead}
use Rattle.es_reader.specs.declared.function_fronts.ParametersRead.{ParametersRead}
use Rattle.es_reader.proofs.RangeLemmas.{drop-there}
use Rattle.es_reader.proofs.DeclarationLemmas.{name-there, name-is}

pub one-name : (tokens : List Lexeme) (place : ℕ) (names after : List (List ℕ)) (name : List ℕ) (added : Bool) → IsThere (λ token. token.symbol ≡ Name name) tokens place → added ≡ not (is_among name names) → added ≡ true → after ≡ with_name names name → IsThere (IsOneName names after) tokens place
one-name tokens place names after name added there a t w =
    let fresh : is_among name names ≡ false = not-true (is_among name names) (sym a ∙ t) in
    let same : name ≡ name_of there.0.symbol = name-is there.0 name there.2 in (
      there.0,
      there.1,
      record {
        is = name-there there.0 name there.2;
        fresh = ap (λ n. is_among n names) (sym same) ∙ fresh;
        added = w ∙ (ap (λ b. cond b names (names ++ (name ∷ []))) fresh ∙ ap (λ n. names ++ (n ∷ [])) same);
      },
    )
  where
    not-true : (b : Bool) → not b ≡ true → b ≡ false
    not-true true h = sym h
    not-true false h = refl

flip-false : (n x : List ℕ) → is_same n x ≡ false → is_same x n ≡ false
flip-false n x h = of (is_same x n) refl
  where
    of : (b : Bool) → is_same x n ≡ b → is_same x n ≡ false
    of false e = e
    of true e = absurd (other_text n x (sym h) (sym (same_text x n (sym e))))

or-false : (a b : Bool) → (a || b) ≡ false → (a ≡ false) × (b ≡ false)
or-false true b h = absurd (cc)
or-false false b h = (refl, h)

all-more : (P : List ℕ → Type 0) (xs : List (List ℕ)) (n : List ℕ) → AllByRecursion P xs → P n → AllByRecursion P (xs ++ (n ∷ []))
all-more P [] n h p = (p, tt)
all-more P (x ∷ xs) n h p = (h.0, all-more P xs n h.1 p)

distinct-more : (xs : List (List ℕ)) (n : List ℕ) → IsDistinct is_same xs → is_among n xs ≡ false → IsDistinct is_same (xs ++ (n ∷ []))
unfolding IsDistinct
distinct-more [] n h f = (tt, tt)
distinct-more (x ∷ xs) n h f =
    let o = or-false (is_same n x) (is_among n xs) f in
    (all-more (λ y. is_same x y ≡ false) xs n h.0 (flip-false n x o.0), distinct-more xs n h.1 o.1)

names-spelled-more : (ns : List FurtherName) (f : FurtherName) (rest : List Lexeme) → spelled_names (ns ++ (f ∷ [])) rest ≡ spelled_names ns (f.comma ∷ (f.name ∷ rest))
names-spelled-more [] f rest = refl
names-spelled-more (n ∷ ns) f rest = ap (λ x. n.comma ∷ (n.name ∷ x)) (names-spelled-more ns f rest)

names-are-more : (ns : List FurtherName) (f : FurtherName) → AreNames ns → IsMark Comma f.comma → IsName f.name → AreNames (ns ++ (f ∷ []))
names-are-more [] f h c n = (c, n, tt)
names-are-more (x ∷ ns) f h c n = (h.0, h.1, names-are-more ns f h.2 c n)

names-of-more : (ns : List FurtherName) (f : FurtherName) → names_of (ns ++ (f ∷ [])) ≡ names_of ns ++ (name_of f.name.symbol ∷ [])
names-of-more [] f = refl
names-of-more (x ∷ ns) f = ap (λ y. name_of x.name.symbol ∷ y) (names-of-more ns f)

abbrev pub SomeAt : (tokens : List Lexeme) (place : ℕ) (read : ParametersRead) → Type 0
SomeAt tokens place read = (first : Lexeme) × (others : List FurtherName) × AreParametersAt tokens place (SomeParameters first others) read

pub none-are : (tokens : List Lexeme) (place : ℕ) (names : List (List ℕ)) → place ≤ length tokens → names ≡ [] → AreParametersAt tokens place NoParameters (record { names = names; behind = place })
unfolding IsDistinct
none-are tokens place names l n = record { from = omega arith; within = l; are = tt; differ = tt; is_spelled = refl; names = n }

pub first-name : (tokens : List Lexeme) (place : ℕ) (before names : List (List ℕ)) → before ≡ [] → IsThere (IsOneName before names) tokens place → SomeAt tokens place (record { names = names; behind = place + 1 })
unfolding IsDistinct
first-name tokens place before names none there = (
  there.0,
  [],
  record {
    from = omega arith;
    within = let l = slice_get_within tokens place there.0 there.1 in omega arith;
    are = (there.2.is, tt);
    differ = (tt, tt);
    is_spelled = sym (drop-there tokens place there.0 there.1);
    names = there.2.added ∙ ap (λ x. x ++ (name_of there.0.symbol ∷ [])) none;
  },
)

pub next-name : (tokens : List Lexeme) (place behind next : ℕ) (names after : List (List ℕ)) → SomeAt tokens place (record { names = names; behind = behind }) → IsThere (IsMark Comma) tokens behind → IsThere (IsOneName names after) tokens (behind + 1) → next ≡ behind + 2 → SomeAt tokens place (record { names = after; behind = next })
unfolding IsDistinct
next-name tokens place behind next names after old comma there up =
    let first = old.0 in
    let h = old.2 in
    let f : FurtherName = record { comma = comma.0; name = there.0 } in
    let step : next ≡ (behind + 1) + 1 = omega arith in
    let all : names_of (old.1 ++ (f ∷ [])) ≡ names_of old.1 ++ (name_of there.0.symbol ∷ []) = names-of-more old.1 f in (
      first,
      old.1 ++ (f ∷ []),
      record {
        from = let a = h.from in omega arith;
        within = let l = slice_get_within tokens (behind + 1) there.0 there.1 in omega arith;
        are = (h.are.0, names-are-more old.1 f h.are.1 comma.2 there.2.is);
        differ = subst (λ ns. IsDistinct is_same (name_of first.symbol ∷ ns)) (sym all) (distinct-more (name_of first.symbol ∷ names_of old.1) (name_of there.0.symbol) h.differ (ap (λ ns. is_among (name_of there.0.symbol) ns) (sym h.names) ∙ there.2.fresh));
        is_spelled = ap (λ k. first ∷ spelled_names (old.1 ++ (f ∷ [])) (drop k tokens)) step
            ∙ (ap (λ x. first ∷ x) (names-spelled-more old.1 f (drop ((behind + 1) + 1) tokens))
            ∙ (ap (λ x. first ∷ spelled_names old.1 (comma.0 ∷ x)) (sym (drop-there tokens (behind + 1) there.0 there.1))
            ∙ (ap (λ x. first ∷ spelled_names old.1 x) (sym (drop-there tokens behind comma.0 comma.1)) ∙ h.is_spelled)));
        names = there.2.added ∙ (ap (λ x. x ++ (name_of there.0.symbol ∷ [])) h.names ∙ ap (λ x. name_of first.symbol ∷ x) (sym all));
      },
    )

pub front-at : (tokens : List Lexeme) (place : ℕ) (name share : List ℕ) (open_mark close_mark brace : Lexeme) (parameters : ParametersRead) (read : FrontRead)
    → IsThere (IsWord FunctionWord) tokens place → IsThere (λ token. token.symbol ≡ Name name) tokens (place + 1) → share ≡ name
    → slice_get tokens (place + 2) ≡ Some open_mark → IsMark OpenParenthesis open_mark
    → (x : Parameters) × AreParametersAt tokens (place + 3) x parameters
    → slice_get tokens parameters.behind ≡ Some close_mark → IsMark CloseParenthesis close_mark
    → slice_get tokens (parameters.behind + 1) ≡ Some brace → IsMark OpenBrace brace
    → read.name ≡ share → read.names ≡ parameters.names → read.parameters ≡ length parameters.names → read.behind ≡ parameters.behind + 2
    → (f : Front) × IsFrontAt tokens place f read
front-at tokens place name share o c b parameters read word there same om oi xs cm ci bm bi rn rs rp rb =
    let x = xs.1 in
    let f : Front = record { word = word.0; name = there.0; open_mark = o; parameters = xs.0; close_mark = c; open_brace = b } in
    let up : read.behind ≡ (parameters.behind + 1) + 1 = omega arith in
    let u1 : (place + 1) + 1 ≡ place + 2 = omega arith in
    let u2 : (place + 2) + 1 ≡ place + 3 = omega arith in (
      f,
      record {
        from = let a = x.from in omega arith;
        within = let l = slice_get_within tokens (parameters.behind + 1) b bm in omega arith;
        is = record { word = word.2; name = name-there there.0 name there.2; open_mark = oi; parameters = x.are; differ = x.differ; close_mark = ci; open_brace = bi };
        is_spelled = ap (λ k. word.0 ∷ (there.0 ∷ (o ∷ spelled_parameters xs.0 (c ∷ (b ∷ drop k tokens))))) up
            ∙ (ap (λ z. word.0 ∷ (there.0 ∷ (o ∷ spelled_parameters xs.0 (c ∷ z)))) (sym (drop-there tokens (parameters.behind + 1) b bm))
            ∙ (ap (λ z. word.0 ∷ (there.0 ∷ (o ∷ spelled_parameters xs.0 z))) (sym (drop-there tokens parameters.behind c cm))
            ∙ (ap (λ z. word.0 ∷ (there.0 ∷ (o ∷ z))) x.is_spelled
            ∙ (ap (λ k. word.0 ∷ (there.0 ∷ (o ∷ drop k tokens))) (sym u2)
            ∙ (ap (λ z. word.0 ∷ (there.0 ∷ z)) (sym (drop-there tokens (place + 2) o om))
            ∙ (ap (λ k. word.0 ∷ (there.0 ∷ drop k tokens)) (sym u1)
            ∙ (ap (λ z. word.0 ∷ z) (sym (drop-there tokens (place + 1) there.0 there.1)) ∙ sym (drop-there tokens place word.0 word.1))))))));
        name = rn ∙ (same ∙ name-is there.0 name there.2);
        names = rs ∙ x.names;
        parameters = rp ∙ ap (λ ns. length ns) x.names;
      },
    )
