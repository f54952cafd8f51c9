-- Of each place among tokens it is told whether declarations stand there.
use Rattle.std.proofs.Common.{◌≡◌, ℕ, zero, suc, ◌+◌, ◌≤◌, ◌<◌, ◌⊎◌, inl, inr, List, [], ◌∷◌, ◌++◌, length, Some, refl, sym, ◌∙◌, ap, subst, arith, drop}
use Rattle.std.specs.Prelude.{min}
use Rattle.std.proofs.lemmas.Option.{slice_get_within}
use Rattle.es_lexer.specs.declared.punctuators.Punctuator.TheVariants.{Comma, Assign}
use Rattle.es_expressions.specs.Meaning.{node}
use Rattle.es_expressions.specs.Nodes.{NodeRow}
use Rattle.es_expressions.specs.declared.nodes.Form.TheVariants.{Declarator as DeclaratorForm}
use Rattle.es_expressions.specs.declared.expressions.Extent.TheVariants.{WithoutCommas}
use Rattle.es_expressions.specs.declared.lexemes.Lexeme.{Lexeme}
use Rattle.es_expressions.specs.declared.lexemes.Symbol.TheVariants.{Name}
use Rattle.es_reader.specs.Statements.{Declaration, FurtherDeclaration, Declarations, spelled_declaration, spelled_declarations, spelled_others}
use Rattle.es_reader.specs.Grammar.{IsMark, IsName, AreDeclarations, last_of}
use Rattle.es_reader.specs.Parts.{IsThere}
use Rattle.es_reader.specs.Told.{with_name}
use Rattle.es_reader.specs.Simples.{IsDeclaredAt, DeclarationStops as GoesNoFurther}
use Rattle.es_reader.specs.Stops.{StopsAt, DeclarationStops, DeclarationsStop}
use Rattle.es_reader.specs.declared.declarations.Declared.{Declared}
use Rattle.es_reader.proofs.RangeLemmas.{drop-there}
use Rattle.es_reader.proofs.Spelling.{declarations-onward}
use Rattle.es_reader.proofs.PartStops.{further-stops}
use Rattle.es_reader.proofs.TreeLemmas.{row}
use Rattle.es_reader.proofs.DeclarationLemmas.{bare-at, valued-at, others-more, further-are, last-more}
use Rattle.es_reader.proofs.BadLemmas.{no-name-at, no-value-at, first-stops-at}
use Rattle.es_reader.proofs.DecidedTokens.{IsNamed, name-at, mark-there}
use Rattle.es_reader.proofs.DecidedExpressions.{BeginFacts, ExpressionThere, expression-there}
use Rattle.es_reader.proofs.DecidedExpressions.ExpressionThere.{Found, Lacking}

pub data DeclarationThere (tokens : List Lexeme) (place : ℕ) (names : List (List ℕ)) : Type 0 where
  Declares : (rows : List NodeRow) → (d : Declaration) → (after : List (List ℕ)) → (declared : Declared) → IsDeclaredAt tokens place rows d names after declared → DeclarationThere tokens place names
  DeclaresNot : (bad : ℕ) → StopsAt DeclarationStops tokens place bad → DeclarationThere tokens place names

pub declaration-there : (f : BeginFacts) (tokens : List Lexeme) (place : ℕ) (names : List (List ℕ)) → place ≤ length tokens → DeclarationThere tokens place names
declaration-there f tokens place names l = by (name-at tokens place)
  where
    bare : (name : List ℕ) → IsNamed name tokens place → (IsThere (IsMark Assign) tokens (place + 1) → ⊥) → DeclarationThere tokens place names
    bare name n o =
        let d = bare-at tokens place [] (row (node DeclaratorForm _ _ (Some (Name name))) [] ∷ []) 0 names (with_name names name) name name n.0 n.0 n.0 [] n refl refl refl refl refl o in
        Declares _ d.0 (with_name names name) _ d.1

    valued : (name : List ℕ) → IsNamed name tokens place → IsThere (IsMark Assign) tokens (place + 1) → ExpressionThere WithoutCommas tokens (place + 2) → DeclarationThere tokens place names
    valued name n o (Found rows e whole w) =
        let d = valued-at tokens place rows (rows ++ (row (node DeclaratorForm _ _ (Some (Name name))) (whole.node ∷ []) ∷ [])) (length rows) (min 65 (whole.height + 1)) names (with_name names name) name name n.0 (whole.node ∷ []) whole n o (e, w) refl refl refl refl refl refl in
        Declares _ d.0 (with_name names name) _ d.1
    valued name n o (Lacking stop s) = DeclaresNot stop (no-value-at tokens place name n o stop s)

    by : ((name : List ℕ) × IsNamed name tokens place) ⊎ (IsThere IsName tokens place → ⊥) → DeclarationThere tokens place names
    by (inr n) = DeclaresNot place (no-name-at tokens place l place (refl, n))
    by (inl n) = elim (mark-there Assign tokens (place + 1)) [
      | inr o ↦ bare n.0 n.1 o
      | inl o ↦ valued n.0 n.1 o (expression-there f WithoutCommas tokens (place + 2) (let k = slice_get_within tokens (place + 1) o.0 o.1 in omega (arith, k)))
    ]

-- the declarations stand there and don't go on, but for a comma
pub record AreAt (tokens : List Lexeme) (place behind : ℕ) (d : Declarations) : Type 0 where
  pub from : place < behind
  pub within : behind ≤ length tokens
  pub are : AreDeclarations d
  pub is_spelled : spelled_declarations d (drop behind tokens) ≡ drop place tokens
  pub no_more : GoesNoFurther tokens behind (last_of d.first d.others)

one-at : (tokens : List Lexeme) (place : ℕ) (rows : List NodeRow) (d : Declaration) (names after : List (List ℕ)) (declared : Declared) → IsDeclaredAt tokens place rows d names after declared → AreAt tokens place declared.behind (record { first = d; others = [] })
one-at tokens place rows d names after declared h = record { from = h.from; within = h.within; are = (h.is, tt); is_spelled = h.is_spelled; no_more = h.no_more }

abbrev with_further : Declarations → Lexeme → Declaration → Declarations
with_further ds comma d = record { first = ds.first; others = ds.others ++ (record { comma = comma; declaration = d } ∷ []) }

more-at : (tokens : List Lexeme) (place behind : ℕ) (ds : Declarations) → AreAt tokens place behind ds → (comma : IsThere (IsMark Comma) tokens behind) → (rows : List NodeRow) (d : Declaration) (names after : List (List ℕ)) (declared : Declared) → IsDeclaredAt tokens (behind + 1) rows d names after declared → AreAt tokens place declared.behind (with_further ds comma.0 d)
more-at tokens place behind ds h comma rows d names after declared w =
    let f : FurtherDeclaration = record { comma = comma.0; declaration = d } in
    record {
      from = omega (arith, h.from, w.from);
      within = w.within;
      are = (h.are.0, further-are ds.others f h.are.1 comma.2 w.is);
      is_spelled = ap (λ x. spelled_declaration ds.first x) (others-more ds.others f (drop declared.behind tokens))
          ∙ (ap (λ x. spelled_declaration ds.first (spelled_others ds.others (comma.0 ∷ x))) w.is_spelled
          ∙ (ap (λ x. spelled_declaration ds.first (spelled_others ds.others x)) (sym (drop-there tokens behind comma.0 comma.1)) ∙ h.is_spelled));
      no_more = subst (λ x. GoesNoFurther tokens declared.behind x) (sym (last-more ds.first ds.others f)) w.no_more;
    }

further-stop : (tokens : List Lexeme) (place behind : ℕ) (ds : Declarations) → AreAt tokens place behind ds → IsThere (IsMark Comma) tokens behind → (bad : ℕ) → StopsAt DeclarationStops tokens (behind + 1) bad → StopsAt DeclarationsStop tokens place bad
further-stop tokens place behind ds h comma bad s = record {
  within = s.within;
  read = spelled_declarations ds (comma.0 ∷ s.read);
  parts = sym (declarations-onward ds (comma.0 ∷ s.read) (drop bad tokens)) ∙ (ap (λ x. spelled_declarations ds (comma.0 ∷ x)) s.parts ∙ (ap (λ x. spelled_declarations ds x) (sym (drop-there tokens behind comma.0 comma.1)) ∙ h.is_spelled));
  stops = λ facts. further-stops facts ds comma.0 s.read (drop bad tokens) h.are comma.2 (s.stops facts);
}

pub data DeclarationsThere (tokens : List Lexeme) (place : ℕ) : Type 0 where
  AllDeclare : (behind : ℕ) → (d : Declarations) → AreAt tokens place behind d → (IsThere (IsMark Comma) tokens behind → ⊥) → DeclarationsThere tokens place
  AllStop : (bad : ℕ) → StopsAt DeclarationsStop tokens place bad → DeclarationsThere tokens place

onward : (f : BeginFacts) (tokens : List Lexeme) (left place behind : ℕ) (ds : Declarations) → AreAt tokens place behind ds → length tokens ≤ behind + left → DeclarationsThere tokens place
onward f tokens zero place behind ds h l = elim (mark-there Comma tokens behind) [
  | inr n ↦ AllDeclare behind ds h n
  | inl comma ↦ let k = slice_get_within tokens behind comma.0 comma.1 in absurd (omega arith)
]
onward f tokens (suc left) place behind ds h l = elim (mark-there Comma tokens behind) [
  | inr n ↦ AllDeclare behind ds h n
  | inl comma ↦ elim (declaration-there f tokens (behind + 1) [] (let k = slice_get_within tokens behind comma.0 comma.1 in omega arith)) [
    | Declares rows d after declared w ↦ onward f tokens left place declared.behind (with_further ds comma.0 d) (more-at tokens place behind ds h comma rows d [] after declared w) (let k = w.from in omega arith)
    | DeclaresNot bad s ↦ AllStop bad (further-stop tokens place behind ds h comma bad s)
  ]
]

pub declarations-there : (f : BeginFacts) (tokens : List Lexeme) (place : ℕ) → place ≤ length tokens → DeclarationsThere tokens place
declarations-there f tokens place l = elim (declaration-there f tokens place [] l) [
  | Declares rows d after declared w ↦ onward f tokens (length tokens) place declared.behind (record { first = d; others = [] }) (one-at tokens place rows d [] after declared w) (omega arith)
  | DeclaresNot bad s ↦ AllStop bad (first-stops-at tokens place bad s)
]
