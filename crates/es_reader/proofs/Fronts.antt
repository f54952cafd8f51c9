-- The fronts of functions, token by token: their names differ, and what is read of one goes on.
pub use Rattle.es_reader.specs.Stops.{FrontFrom}
use Rattle.std.proofs.Common.{◌≡◌, ℕ, suc, ◌<◌, max, Bool, true, false, List, [], ◌∷◌, ◌++◌, length, replicate, Some, refl, sym, ◌∙◌, ap, subst, arith, append_assoc}
use Rattle.std.specs.Prelude.{nat_eq, ◌||◌}
use Rattle.std.specs.List.{AllByRecursion, IsDistinct}
use Rattle.std.specs.Cmp.Lexicographic.{as_long}
use Rattle.std.proofs.lemmas.Cmp.{nat_list_eq_equiv}
use Rattle.std.proofs.lemmas.List.{length-replicate}
use Rattle.bml_bytes.specs.Words.{is_same}
use Rattle.es_lexer.specs.declared.words.ReservedWord.TheVariants.{Function as FunctionWord}
use Rattle.es_lexer.specs.declared.punctuators.Punctuator.TheVariants.{OpenBrace, OpenParenthesis, CloseParenthesis, Comma}
use Rattle.es_expressions.specs.declared.lexemes.Lexeme.{Lexeme}
use Rattle.es_expressions.specs.declared.lexemes.Symbol.{Symbol}
use Rattle.es_expressions.specs.declared.lexemes.Symbol.TheVariants.{Name, Mark}
use Rattle.es_reader.specs.Statements.{FurtherName, Parameters, Item, spelled_names, spelled_parameters}
use Rattle.es_reader.specs.Statements.Parameters.{NoParameters, SomeParameters}
use Rattle.es_reader.specs.Grammar.{IsWord, IsMark, IsName, AreNames, AreParameters, name_of, names_of, parameter_names}
use Rattle.es_reader.specs.Programs.{Begins, is_among}
use Rattle.es_reader.specs.Openings.{Front, IsFront, written, AreRead, first_of}
use Rattle.es_reader.specs.Openings.Outer.{InProgram}
use Rattle.es_reader.proofs.ExpressionFacts.{ExpressionFacts}
use Rattle.es_reader.proofs.Spelling.{names-onward, parameters-onward}
use Rattle.es_reader.proofs.Uniqueness.{same-head, same-tail}
use Rattle.es_reader.proofs.Steps.{begins-front}

-- names that differ

either : (a b : Bool) → (a || b) ≡ false → (a ≡ false) × (b ≡ false)
either true b h = absurd (cc)
either false b h = (refl, h)

both : (a b : Bool) → a ≡ false → b ≡ false → (a || b) ≡ false
both true b h g = absurd (cc)
both false b h g = g

apart-more : (x : List ℕ) (xs : List (List ℕ)) (name : List ℕ) → AllByRecursion (λ y. is_same x y ≡ false) xs → is_same x name ≡ false → AllByRecursion (λ y. is_same x y ≡ false) (xs ++ (name ∷ []))
apart-more x [] name h g = (g, tt)
apart-more x (y ∷ xs) name h g = (h.0, apart-more x xs name h.1 g)

-- a name that isn't among others makes them differ still, with it behind them
pub distinct-more : (names : List (List ℕ)) (name : List ℕ) → IsDistinct is_same names → is_among name names ≡ false → IsDistinct is_same (names ++ (name ∷ []))
unfolding IsDistinct
distinct-more [] name h g = (tt, tt)
distinct-more (x ∷ xs) name h g =
    let e = either (is_same name x) (is_among name xs) g in
    (apart-more x xs name h.0 (nat_list_eq_equiv.symm x name ∙ e.0), distinct-more xs name h.1 e.1)

apart-of : (x : List ℕ) (xs : List (List ℕ)) (name : List ℕ) (more : List (List ℕ)) → AllByRecursion (λ y. is_same x y ≡ false) (xs ++ (name ∷ more)) → is_same x name ≡ false
apart-of x [] name more h = h.0
apart-of x (y ∷ xs) name more h = apart-of x xs name more h.1

-- and where names differ, none is among those in front of it
pub distinct-apart : (names : List (List ℕ)) (name : List ℕ) (more : List (List ℕ)) → IsDistinct is_same (names ++ (name ∷ more)) → is_among name names ≡ false
unfolding IsDistinct
distinct-apart [] name more h = refl
distinct-apart (x ∷ xs) name more h =
    both (is_same name x) (is_among name xs) (nat_list_eq_equiv.symm name x ∙ apart-of x xs name more h.0) (distinct-apart xs name more h.1)

-- a name that isn't among others

longest : List (List ℕ) → ℕ
longest [] = 0
longest (name ∷ names) = max (length name) (longest names)

no-true : (b : Bool) → (b ≡ true → ⊥) → b ≡ false
no-true true h = absurd (h refl)
no-true false h = refl

longer-apart : (names : List (List ℕ)) (name : List ℕ) → longest names < length name → is_among name names ≡ false
unfolding longest
longer-apart [] name h = refl
longer-apart (x ∷ xs) name h =
    both (is_same name x) (is_among name xs)
    (no-true (is_same name x) (λ e. let same : length name ≡ length x = as_long nat_eq name x e in absurd (omega arith)))
    (longer-apart xs name (omega arith))

pub new_name : List (List ℕ) → List ℕ
new_name names = replicate (suc (longest names)) 0

above : (a b : ℕ) → b ≡ suc a → a < b
above a b e = omega arith

pub new-apart : (names : List (List ℕ)) → is_among (new_name names) names ≡ false
unfolding new_name
new-apart names = longer-apart names (replicate (suc (longest names)) 0)
    (above (longest names) (length (replicate (suc (longest names)) 0)) (length-replicate (suc (longest names)) 0))

-- parameters and one more behind them

abbrev pub further : Lexeme → Lexeme → FurtherName
further comma name = record { comma = comma; name = name }

pub names-more : (others : List FurtherName) (comma name : Lexeme) (rest : List Lexeme) → spelled_names (others ++ (further comma name ∷ [])) rest ≡ spelled_names others (comma ∷ (name ∷ rest))
names-more [] comma name rest = refl
names-more (x ∷ others) comma name rest = ap (λ r. x.comma ∷ (x.name ∷ r)) (names-more others comma name rest)

pub are-names-more : (others : List FurtherName) (comma name : Lexeme) → AreNames others → IsMark Comma comma → IsName name → AreNames (others ++ (further comma name ∷ []))
are-names-more [] comma name h c n = (c, n, tt)
are-names-more (x ∷ others) comma name h c n = (h.0, h.1, are-names-more others comma name h.2 c n)

pub names-of-more : (others : List FurtherName) (comma name : Lexeme) → names_of (others ++ (further comma name ∷ [])) ≡ names_of others ++ (name_of name.symbol ∷ [])
names-of-more [] comma name = refl
names-of-more (x ∷ others) comma name = ap (λ r. name_of x.name.symbol ∷ r) (names-of-more others comma name)

pub distinct-parameters : (first : Lexeme) (others : List FurtherName) (comma name : Lexeme) → IsDistinct is_same (parameter_names (SomeParameters first others)) → is_among (name_of name.symbol) (parameter_names (SomeParameters first others)) ≡ false → IsDistinct is_same (parameter_names (SomeParameters first (others ++ (further comma name ∷ []))))
distinct-parameters first others comma name h n =
    subst (λ r. IsDistinct is_same (name_of first.symbol ∷ r)) (sym (names-of-more others comma name))
    (distinct-more (parameter_names (SomeParameters first others)) (name_of name.symbol) h n)

-- names that begin as others do, up to the `)` that none of them is
pub names-begin : (ms ns : List FurtherName) (close : Lexeme) (R S : List Lexeme) → IsMark CloseParenthesis close → AreNames ns → spelled_names ms (close ∷ R) ≡ spelled_names ns S → (more : List FurtherName) × (ms ≡ ns ++ more) × (spelled_names more (close ∷ R) ≡ S)
names-begin ms [] close R S c h e = (ms, refl, e)
names-begin [] (y ∷ ns) close R S c h e =
    let k : close.symbol ≡ y.comma.symbol = ap (λ x. x.symbol) (same-head close y.comma R (y.name ∷ spelled_names ns S) e) in
    let l : y.comma.symbol ≡ Mark Comma = h.0 in
    absurd (cc)
names-begin (x ∷ ms) (y ∷ ns) close R S c h e =
    let i : x.comma ≡ y.comma = same-head x.comma y.comma (x.name ∷ spelled_names ms (close ∷ R)) (y.name ∷ spelled_names ns S) e in
    let f : x.name ∷ spelled_names ms (close ∷ R) ≡ y.name ∷ spelled_names ns S = same-tail x.comma y.comma (x.name ∷ spelled_names ms (close ∷ R)) (y.name ∷ spelled_names ns S) e in
    let j : x.name ≡ y.name = same-head x.name y.name (spelled_names ms (close ∷ R)) (spelled_names ns S) f in
    let r = names-begin ms ns close R S c h.2 (same-tail x.name y.name (spelled_names ms (close ∷ R)) (spelled_names ns S) f) in
    (r.0, (λ k. further (i k) (j k) ∷ r.1 k), r.2)

-- what is read of the front of a function goes on

pub begins-front-from : (facts : ExpressionFacts) (done : List Item) (others : List Lexeme) (word : Lexeme) (read : List Lexeme) → AreRead [] (InProgram done) others → first_of others ≡ Some word → FrontFrom word read → Begins (written [] (InProgram done) read)
begins-front-from facts done others word read r e f =
    begins-front facts done others f.front read f.left r (e ∙ ap (λ w. Some w) (sym f.begins)) f.is f.same

token : Symbol → Lexeme
token symbol = record { symbol = symbol; start = 0; «end» = 0; after_break = false }

-- with these parameters
whole_front : Lexeme → Lexeme → Lexeme → Parameters → Lexeme → Front
whole_front word name open_mark ps close = record {
  word = word;
  name = name;
  open_mark = open_mark;
  parameters = ps;
  close_mark = close;
  open_brace = token (Mark OpenBrace);
}

is-whole-front : (word name open_mark : Lexeme) (ps : Parameters) (close : Lexeme) → IsWord FunctionWord word → IsName name → IsMark OpenParenthesis open_mark → AreParameters ps → IsDistinct is_same (parameter_names ps) → IsMark CloseParenthesis close → IsFront (whole_front word name open_mark ps close)
unfolding whole_front token
is-whole-front word name open_mark ps close w n o p d c = record { word = w; name = n; open_mark = o; parameters = p; differ = d; close_mark = c; open_brace = refl }

pub front-closed : (word name open_mark : Lexeme) (ps : Parameters) (close : Lexeme) → IsWord FunctionWord word → IsName name → IsMark OpenParenthesis open_mark → AreParameters ps → IsDistinct is_same (parameter_names ps) → IsMark CloseParenthesis close → FrontFrom word (word ∷ (name ∷ (open_mark ∷ spelled_parameters ps (close ∷ []))))
unfolding whole_front
front-closed word name open_mark ps close w n o p d c = record {
  front = whole_front word name open_mark ps close;
  left = token (Mark OpenBrace) ∷ [];
  is = is-whole-front word name open_mark ps close w n o p d c;
  begins = refl;
  same = ap (λ r. word ∷ (name ∷ (open_mark ∷ r))) (parameters-onward ps (close ∷ []) (token (Mark OpenBrace) ∷ []));
}

pub front-parameters : (word name open_mark : Lexeme) (ps : Parameters) → IsWord FunctionWord word → IsName name → IsMark OpenParenthesis open_mark → AreParameters ps → IsDistinct is_same (parameter_names ps) → FrontFrom word (word ∷ (name ∷ (open_mark ∷ spelled_parameters ps [])))
unfolding whole_front token
front-parameters word name open_mark ps w n o p d = record {
  front = whole_front word name open_mark ps (token (Mark CloseParenthesis));
  left = token (Mark CloseParenthesis) ∷ (token (Mark OpenBrace) ∷ []);
  is = is-whole-front word name open_mark ps (token (Mark CloseParenthesis)) w n o p d refl;
  begins = refl;
  same = ap (λ r. word ∷ (name ∷ (open_mark ∷ r))) (parameters-onward ps [] (token (Mark CloseParenthesis) ∷ (token (Mark OpenBrace) ∷ [])));
}

pub front-opened : (word name open_mark : Lexeme) → IsWord FunctionWord word → IsName name → IsMark OpenParenthesis open_mark → FrontFrom word (word ∷ (name ∷ (open_mark ∷ [])))
unfolding IsDistinct
front-opened word name open_mark w n o = front-parameters word name open_mark NoParameters w n o tt tt

pub front-named : (word name : Lexeme) → IsWord FunctionWord word → IsName name → FrontFrom word (word ∷ (name ∷ []))
unfolding token
front-named word name w n =
    let f : FrontFrom word (word ∷ (name ∷ (token (Mark OpenParenthesis) ∷ []))) = front-opened word name (token (Mark OpenParenthesis)) w n refl in
    record { front = f.front; left = token (Mark OpenParenthesis) ∷ f.left; is = f.is; begins = f.begins; same = f.same }

pub front-begun : (word : Lexeme) → IsWord FunctionWord word → FrontFrom word (word ∷ [])
unfolding token
front-begun word w =
    let f : FrontFrom word (word ∷ (token (Name []) ∷ [])) = front-named word (token (Name [])) w refl in
    record { front = f.front; left = token (Name []) ∷ f.left; is = f.is; begins = f.begins; same = f.same }

-- behind a comma a new name
pub front-comma : (word name open_mark first : Lexeme) (others : List FurtherName) (comma : Lexeme) → IsWord FunctionWord word → IsName name → IsMark OpenParenthesis open_mark → AreParameters (SomeParameters first others) → IsDistinct is_same (parameter_names (SomeParameters first others)) → IsMark Comma comma → FrontFrom word (word ∷ (name ∷ (open_mark ∷ spelled_parameters (SomeParameters first others) (comma ∷ []))))
unfolding token
front-comma word name open_mark first others comma w n o p d c =
    let names : List (List ℕ) = parameter_names (SomeParameters first others) in
    let t : Lexeme = token (Name (new_name names)) in
    let f : FrontFrom word (word ∷ (name ∷ (open_mark ∷ (first ∷ spelled_names (others ++ (further comma t ∷ [])) [])))) =
    front-parameters word name open_mark (SomeParameters first (others ++ (further comma t ∷ []))) w n o
    (p.0, are-names-more others comma t p.1 c refl) (distinct-parameters first others comma t d (new-apart names)) in
    record {
      front = f.front;
      left = t ∷ f.left;
      is = f.is;
      begins = f.begins;
      same = f.same ∙ ap (λ r. word ∷ (name ∷ (open_mark ∷ (first ∷ r))))
          (ap (λ r. r ++ f.left) (names-more others comma t [] ∙ names-onward others (comma ∷ []) (t ∷ []))
          ∙ append_assoc (spelled_names others (comma ∷ [])) (t ∷ []) f.left);
    }
