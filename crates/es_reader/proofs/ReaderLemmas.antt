-- What readers of programs say of a text, that there is something to be said of each, and that there is a reader.
use Rattle.std.proofs.Common.{◌≡◌, ◌⊎◌, inl, inr, ℕ, ◌<◌, ◌≤◌, List, [], ◌∷◌, Option, Some, None, refl, sym, ◌∙◌, ap, subst, arith}
use Rattle.std.specs.Prelude.{slice_range}
use Rattle.std.proofs.lemmas.Bool.{cases_order}
use Rattle.std.proofs.lemmas.Option.{same_Some}
use Rattle.es_lexer.specs.Elements.{InputElement, kind_of, spelling}
use Rattle.es_lexer.specs.Elements.InputElement.{WhiteSpace, Reserved, Punctuation}
use Rattle.es_lexer.specs.Spellings.{word_spelling, mark_spelling}
use Rattle.es_lexer.specs.Tokens.{Tokens, IsBadAt as NoTokenAt, IsSpelled, StandInOrder}
use Rattle.es_lexer.specs.declared.token_types.Token.{Token}
use Rattle.es_lexer.specs.declared.token_types.TokenKind.{TokenKind}
use Rattle.es_lexer.specs.declared.token_types.TokenKind.TheVariants.{Name as NameKind, Word as WordKind, Mark as MarkKind, Number as NumberKind, Words as WordsKind}
use Rattle.es_lexer.specs.declared.words.ReservedWord.{ReservedWord}
use Rattle.es_lexer.specs.declared.punctuators.Punctuator.{Punctuator}
use Rattle.es_expressions.specs.Sources.{IsSymbol, AreLexemes}
use Rattle.es_expressions.specs.declared.lexemes.Lexeme.{Lexeme}
use Rattle.es_expressions.specs.declared.lexemes.Symbol.{Symbol}
use Rattle.es_expressions.specs.declared.lexemes.Symbol.TheVariants.{Name, Word, Mark, Number, Words}
use Rattle.es_reader.specs.Statements.{Item}
use Rattle.es_reader.specs.Grammar.{IsProgram}
use Rattle.es_reader.specs.Levels.{program_levels}
use Rattle.es_reader.specs.Programs.{IsBadAt as NoProgramAt, ToldProgram, Tells}
use Rattle.es_reader.specs.Sources.{AreLexemesOf, IsProgramOf, IsTooDeep, place_in_text}
use Rattle.es_reader.specs.Readers.{Reader, IsReader, IsWritten, IsNoProgram}
use Rattle.es_reader.proofs.TextLemmas.{TokenFacts, same-items, never-bad}

-- ---- what a reader says of a text

-- a text of at most 64 levels is not one of more
not-deep : (facts : TokenFacts) (text : List ℕ) (items : List Item) → IsWritten text items → IsTooDeep text → ⊥
not-deep facts text items w d =
    let e : program_levels items ≡ program_levels d.items = ap program_levels (same-items facts text w.lexemes d.lexemes items d.items w.are w.is d.are d.is) in
    let within : program_levels items ≤ 64 = w.within in
    let deep : 64 < program_levels d.items = d.deep in
    omega arith

not-none : (facts : TokenFacts) (text : List ℕ) (items : List Item) → IsWritten text items → IsNoProgram text → ⊥
not-none facts text items w (inl d) = not-deep facts text items w d
not-none facts text items w (inr b) = never-bad facts text w.lexemes items b.0 w.are w.is b.1

same-written : (facts : TokenFacts) (text : List ℕ) (items others : List Item) → IsWritten text items → IsWritten text others → items ≡ others
same-written facts text items others w v = same-items facts text w.lexemes v.lexemes items others w.are w.is v.are v.is

pub said-program : (facts : TokenFacts) (read : Reader) (text : List ℕ) (told : ToldProgram) → IsReader read → IsProgramOf text told → (items : List Item) × (read text ≡ Some items) × Tells items told
said-program facts read text told r p = said (read text) refl
  where
    written : IsWritten text p.items
    written = record { lexemes = p.lexemes; are = p.are; is = p.is; within = p.within }

    said : (o : Option (List Item)) → read text ≡ o → (items : List Item) × (read text ≡ Some items) × Tells items told
    said None e = absurd (not-none facts text p.items written (r.none text e))
    said (Some items) e = (items, e, subst (λ i. Tells i told) (same-written facts text p.items items written (r.program text items e)) p.tells)

-- of no program
pub said-none : (facts : TokenFacts) (read : Reader) (text : List ℕ) → IsReader read → IsNoProgram text → read text ≡ None
said-none facts read text r n = said (read text) refl
  where
    said : (o : Option (List Item)) → read text ≡ o → read text ≡ None
    said None e = e
    said (Some items) e = absurd (not-none facts text items (r.program text items e) n)

pub said-alike : (facts : TokenFacts) (read other : Reader) (text : List ℕ) → IsReader read → IsReader other → read text ≡ other text
said-alike facts read other text r q = said (read text) (other text) refl refl
  where
    said : (o p : Option (List Item)) → read text ≡ o → other text ≡ p → read text ≡ other text
    said None None e f = e ∙ sym f
    said (Some items) (Some others) e f = e ∙ (ap (λ i. Some i) (same-written facts text items others (r.program text items e) (q.program text others f)) ∙ sym f)
    said None (Some others) e f = absurd (not-none facts text others (q.program text others f) (r.none text e))
    said (Some items) None e f = absurd (not-none facts text items (r.program text items e) (q.none text f))

-- ---- each token has a symbol

word-of : (element : InputElement) (written : List ℕ) → kind_of element ≡ Some WordKind → written ≡ spelling element → (word : ReservedWord) × (word_spelling word ≡ written)
word-of (Reserved word) written k e = (word, sym e)
word-of (WhiteSpace code) written k e = absurd (cc)
word-of _ written k e = absurd (cc)

mark-of : (element : InputElement) (written : List ℕ) → kind_of element ≡ Some MarkKind → written ≡ spelling element → (mark : Punctuator) × (mark_spelling mark ≡ written)
mark-of (Punctuation mark) written k e = (mark, sym e)
mark-of (WhiteSpace code) written k e = absurd (cc)
mark-of _ written k e = absurd (cc)

symbol-of : (kind : TokenKind) (written : List ℕ) → IsSpelled kind written → (symbol : Symbol) × IsSymbol kind written symbol
symbol-of NameKind written s = (Name written, refl)
symbol-of WordKind written s = let word = word-of s.element written s.kind_is s.spelled_is in (Word word.0, word.1)
symbol-of MarkKind written s = let mark = mark-of s.element written s.kind_is s.spelled_is in (Mark mark.0, mark.1)
symbol-of (NumberKind value) written s = (Number value, refl)
symbol-of (WordsKind meant) written s = (Words meant, refl)

lexemes-of : (text : List ℕ) (place : ℕ) (tokens : List Token) → StandInOrder text place tokens → (lexemes : List Lexeme) × AreLexemes text tokens lexemes
lexemes-of text place [] h = ([], tt)
lexemes-of text place (token ∷ tokens) h =
    let symbol = symbol-of token.kind (slice_range text token.start token.«end») h.2 in
    let rest = lexemes-of text token.«end» tokens h.3 in (
      record { symbol = symbol.0; start = token.start; «end» = token.«end»; after_break = token.after_break } ∷ rest.0,
      (record { start = refl; stop = refl; after_break = refl; symbol = symbol.1 }, rest.1),
    )

-- ---- each text is a program of at most 64 levels, or none

of-levels : (text : List ℕ) (lexemes : List Lexeme) (items : List Item) → AreLexemesOf text lexemes → IsProgram lexemes items → ((items : List Item) × IsWritten text items) ⊎ IsNoProgram text
of-levels text lexemes items are is = elim (cases_order (program_levels items) 64) [
  | inl e ↦ inl (items, record { lexemes = lexemes; are = are; is = is; within = omega arith })
  | inr (inl l) ↦ inl (items, record { lexemes = lexemes; are = are; is = is; within = omega arith })
  | inr (inr g) ↦ inr (inl (record { lexemes = lexemes; are = are; items = items; is = is; deep = g }))
]

pub each-text : (text : List ℕ) → ((tokens : List Token) → Tokens text tokens → StandInOrder text 0 tokens) → ((tokens : List Token) × Tokens text tokens) ⊎ ((place : ℕ) × NoTokenAt text place) → ((tokens : List Lexeme) → ((items : List Item) × IsProgram tokens items) ⊎ ((place : ℕ) × NoProgramAt tokens place)) → ((items : List Item) × IsWritten text items) ⊎ IsNoProgram text
each-text text stand (inr b) reading = inr (inr (b.0, inl b.1))
each-text text stand (inl t) reading =
    let lexemes = lexemes-of text 0 t.0 (stand t.0 t.1) in
    let are : AreLexemesOf text lexemes.0 = (t.0, t.1, lexemes.1) in
    elim (reading lexemes.0) [
      | inl p ↦ of-levels text lexemes.0 p.0 are p.1
      | inr b ↦ inr (inr (place_in_text text lexemes.0 b.0, inr (lexemes.0, are, b.0, b.1, refl)))
    ]

-- ---- there is a reader

abbrev said : (text : List ℕ) → ((items : List Item) × IsWritten text items) ⊎ IsNoProgram text → Option (List Item)
said text (inl w) = Some w.0
said text (inr n) = None

said-written : (text : List ℕ) (t : ((items : List Item) × IsWritten text items) ⊎ IsNoProgram text) (items : List Item) → said text t ≡ Some items → IsWritten text items
said-written text (inl w) items e = subst (λ i. IsWritten text i) (same_Some w.0 items e) w.1
said-written text (inr n) items e = absurd (cc)

said-no-program : (text : List ℕ) (t : ((items : List Item) × IsWritten text items) ⊎ IsNoProgram text) → said text t ≡ None → IsNoProgram text
said-no-program text (inl w) e = absurd (cc)
said-no-program text (inr n) e = n

pub the-reader : ((text : List ℕ) → ((items : List Item) × IsWritten text items) ⊎ IsNoProgram text) → (read : Reader) × IsReader read
the-reader each = (
  (λ text. said text (each text)),
  record { program = λ text items e. said-written text (each text) items e; none = λ text e. said-no-program text (each text) e },
)
