-- Of each place among tokens it is told whether the front of a function stands there.
use Rattle.std.proofs.Common.{◌≡◌, ℕ, zero, suc, ◌+◌, ◌≤◌, Bool, true, false, not, inl, inr, List, [], length, refl, ap, arith}
use Rattle.std.proofs.lemmas.Option.{slice_get_within}
use Rattle.es_lexer.specs.declared.words.ReservedWord.TheVariants.{Function as FunctionWord}
use Rattle.es_lexer.specs.declared.punctuators.Punctuator.TheVariants.{OpenParenthesis, CloseParenthesis, OpenBrace, Comma}
use Rattle.es_expressions.specs.declared.lexemes.Lexeme.{Lexeme}
use Rattle.es_reader.specs.Statements.{Parameters}
use Rattle.es_reader.specs.Statements.Parameters.{NoParameters, SomeParameters}
use Rattle.es_reader.specs.Grammar.{IsMark, IsWord}
use Rattle.es_reader.specs.Openings.{Front, IsFront, spelled_front}
use Rattle.es_reader.specs.Programs.{is_among}
use Rattle.es_reader.specs.Told.{with_name}
use Rattle.es_reader.specs.Parts.{IsThere}
use Rattle.es_reader.specs.Fronts.{IsOneName, NoNewName, AreParametersAt, ParametersEnd, ParametersBad, IsFrontAt}
use Rattle.es_reader.specs.Stops.{BehindWord, FrontStops}
use Rattle.es_reader.specs.declared.function_fronts.ParametersRead.{ParametersRead}
use Rattle.es_reader.specs.declared.function_fronts.FrontRead.{FrontRead}
use Rattle.es_reader.proofs.FrontLemmas.{SomeAt, one-name, none-are, first-name, next-name, front-at}
use Rattle.es_reader.proofs.FrontBadLemmas.{no-name-new, known-name, first-bad, further-bad, front-no-name-at, front-no-open-at, front-parameters-at, front-no-close-at, front-no-brace-at}
use Rattle.es_reader.proofs.Decided.{Decided}
use Rattle.es_reader.proofs.Decided.Decided.{There, Nothing}
use Rattle.es_reader.proofs.DecidedTokens.{mark-there, IsNamed, name-at}

-- a new name
data NewNameThere (names : List (List ℕ)) (tokens : List Lexeme) (place : ℕ) : Type 0 where
  NewName : (after : List (List ℕ)) → IsThere (IsOneName names after) tokens place → NewNameThere names tokens place
  NoNew : NoNewName names tokens place → NewNameThere names tokens place

new-name-there : (names : List (List ℕ)) (tokens : List Lexeme) (place : ℕ) → NewNameThere names tokens place
new-name-there names tokens place = elim (name-at tokens place) [
  | inr n ↦ NoNew (no-name-new names tokens place place (refl, n)).1
  | inl n ↦ tell n.0 n.1 (is_among n.0 names) refl
]
  where
    tell : (name : List ℕ) → IsNamed name tokens place → (b : Bool) → is_among name names ≡ b → NewNameThere names tokens place
    tell name n true h = NoNew (known-name names tokens place name (not (is_among name names)) n refl (ap not h))
    tell name n false h = NewName (with_name names name) (one-name tokens place names (with_name names name) name (not (is_among name names)) n refl (ap not h) refl)

data ParametersThere (tokens : List Lexeme) (place : ℕ) : Type 0 where
  HasParameters : (read : ParametersRead) → (x : Parameters) × AreParametersAt tokens place x read × ParametersEnd tokens read.behind x → ParametersThere tokens place
  HasNot : (bad : ℕ) → ParametersBad tokens place bad → ParametersThere tokens place

onward : (tokens : List Lexeme) (left place behind : ℕ) (names : List (List ℕ)) → SomeAt tokens place (record { names = names; behind = behind }) → length tokens ≤ behind + left → ParametersThere tokens place
onward tokens zero place behind names x l = elim (mark-there Comma tokens behind) [
  | inr n ↦ HasParameters (record { names = names; behind = behind }) (SomeParameters x.0 x.1, x.2, n)
  | inl comma ↦ let k = slice_get_within tokens behind comma.0 comma.1 in absurd (omega arith)
]
onward tokens (suc left) place behind names x l = elim (mark-there Comma tokens behind) [
  | inr n ↦ HasParameters (record { names = names; behind = behind }) (SomeParameters x.0 x.1, x.2, n)
  | inl comma ↦ elim (new-name-there names tokens (behind + 1)) [
    | NewName after there ↦ onward tokens left place (behind + 2) after (next-name tokens place behind (behind + 2) names after x comma there refl) (omega arith)
    | NoNew n ↦ HasNot (behind + 1) (further-bad tokens place behind names x comma (behind + 1) (refl, n))
  ]
]

parameters-there : (tokens : List Lexeme) (place : ℕ) → place ≤ length tokens → ParametersThere tokens place
parameters-there tokens place l = elim (mark-there CloseParenthesis tokens place) [
  | inl c ↦ HasParameters (record { names = []; behind = place }) (NoParameters, none-are tokens place [] l refl, c)
  | inr n ↦ elim (new-name-there [] tokens place) [
    | NewName after there ↦ onward tokens (length tokens) place (place + 1) after (first-name tokens place [] after refl there) (omega arith)
    | NoNew k ↦ HasNot place (first-bad tokens place [] refl n place (refl, k))
  ]
]

abbrev pub FrontThere : List Lexeme → ℕ → Type 0
FrontThere tokens place = Decided (λ (f : Front) (rest : List Lexeme). IsFront f) spelled_front (BehindWord (IsWord FunctionWord) FrontStops tokens place) tokens place

of-at : (tokens : List Lexeme) (place : ℕ) (read : FrontRead) → (f : Front) × IsFrontAt tokens place f read → FrontThere tokens place
of-at tokens place read x = There read.behind x.0 (record { from = x.1.from; within = x.1.within; is = x.1.is; is_spelled = x.1.is_spelled })

module _ (tokens : List Lexeme) (place : ℕ) (w : IsThere (IsWord FunctionWord) tokens place) (name : List ℕ) (m : IsNamed name tokens (place + 1)) (o : IsThere (IsMark OpenParenthesis) tokens (place + 2)) where
  close-there : (read : ParametersRead) (x : (x : Parameters) × AreParametersAt tokens (place + 3) x read × ParametersEnd tokens read.behind x) → FrontThere tokens place
  close-there read x = elim (mark-there CloseParenthesis tokens read.behind) [
    | inr n ↦ Nothing read.behind (front-no-close-at tokens place name o.0 read w m o.1 o.2 x read.behind (refl, n))
    | inl c ↦ elim (mark-there OpenBrace tokens (read.behind + 1)) [
      | inr n ↦ Nothing (read.behind + 1) (front-no-brace-at tokens place name o.0 c.0 read w m o.1 o.2 x c.1 c.2 (read.behind + 1) (refl, n))
      | inl b ↦ of-at tokens place (record { name = name; names = read.names; parameters = length read.names; behind = read.behind + 2 })
          (front-at tokens place name name o.0 c.0 b.0 read _ w m refl o.1 o.2 (x.0, x.1) c.1 c.2 b.1 b.2 refl refl refl refl)
    ]
  ]

pub front-there : (tokens : List Lexeme) (place : ℕ) → IsThere (IsWord FunctionWord) tokens place → FrontThere tokens place
front-there tokens place w = elim (name-at tokens (place + 1)) [
  | inr n ↦ Nothing (place + 1) (front-no-name-at tokens place w (place + 1) (refl, n))
  | inl m ↦ elim (mark-there OpenParenthesis tokens (place + 2)) [
    | inr n ↦ Nothing (place + 2) (front-no-open-at tokens place m.0 w m.1 (place + 2) (refl, n))
    | inl o ↦ elim (parameters-there tokens (place + 3) (let l = slice_get_within tokens (place + 2) o.0 o.1 in omega arith)) [
      | HasParameters read x ↦ close-there tokens place w m.0 m.1 o read x
      | HasNot bad p ↦ Nothing bad (front-parameters-at tokens place m.0 o.0 w m.1 o.1 o.2 bad p)
    ]
  ]
]
