-- What is said of texts, from what is said of their tokens.
use Rattle.std.proofs.Common.{◌≡◌, ℕ, ◌<◌, ◌≤◌, inl, inr, List, sym, ◌∙◌, ap, subst, arith}
use Rattle.es_lexer.specs.Tokens.{Tokens, IsBadAt as NoTokenAt}
use Rattle.es_lexer.specs.declared.token_types.Token.{Token}
use Rattle.es_expressions.specs.Sources.{AreLexemes}
use Rattle.es_expressions.specs.declared.lexemes.Lexeme.{Lexeme}
use Rattle.es_reader.specs.Statements.{Item}
use Rattle.es_reader.specs.Grammar.{IsProgram}
use Rattle.es_reader.specs.Levels.{program_levels}
use Rattle.es_reader.specs.Programs.{IsBadAt as NoProgramAt, ToldProgram}
use Rattle.es_reader.specs.Sources.{AreLexemesOf, IsProgramOf, IsTooDeep, place_in_text, IsBad}

-- A device of the proofs: what the laws of tokens, of sources and of programs say.
pub record TokenFacts : Type 0 where
  pub sources : (text : List ℕ) (tokens others : List Token) (lexemes more : List Lexeme) → Tokens text tokens
      → AreLexemes text tokens lexemes → Tokens text others → AreLexemes text others more → lexemes ≡ more
  pub one_token_place : (text : List ℕ) (place other : ℕ) → NoTokenAt text place → NoTokenAt text other
      → place ≡ other
  pub never_tokens : (text : List ℕ) (tokens : List Token) (place : ℕ) → Tokens text tokens → NoTokenAt text place
      → ⊥
  pub one_program : (tokens : List Lexeme) (items others : List Item) → IsProgram tokens items
      → IsProgram tokens others → items ≡ others
  pub never_program : (tokens : List Lexeme) (items : List Item) (place : ℕ) → IsProgram tokens items
      → NoProgramAt tokens place → ⊥
  pub one_place : (tokens : List Lexeme) (place other : ℕ) → NoProgramAt tokens place → NoProgramAt tokens other
      → place ≡ other

-- a text has one list of tokens with their symbols
pub same-lexemes : (facts : TokenFacts) (text : List ℕ) (lexemes more : List Lexeme) → AreLexemesOf text lexemes → AreLexemesOf text more → lexemes ≡ more
same-lexemes facts text lexemes more a b = facts.sources text a.0 b.0 lexemes more a.1 a.2 b.1 b.2

-- a text is at most one program
pub same-items : (facts : TokenFacts) (text : List ℕ) (lexemes more : List Lexeme) (items others : List Item) → AreLexemesOf text lexemes → IsProgram lexemes items → AreLexemesOf text more → IsProgram more others → items ≡ others
same-items facts text lexemes more items others a p b q =
    facts.one_program lexemes items others p (subst (λ l. IsProgram l others) (sym (same-lexemes facts text lexemes more a b)) q)

-- two places at which the tokens of a text go on to no program are one place in the text
same-place : (facts : TokenFacts) (text : List ℕ) (lexemes more : List Lexeme) (at other : ℕ) → AreLexemesOf text lexemes → NoProgramAt lexemes at → AreLexemesOf text more → NoProgramAt more other → place_in_text text lexemes at ≡ place_in_text text more other
same-place facts text lexemes more at other a p b q =
    let e : lexemes ≡ more = same-lexemes facts text lexemes more a b in
    ap (λ l. place_in_text text l at) e ∙ ap (λ k. place_in_text text more k) (facts.one_place more at other (subst (λ l. NoProgramAt l at) e p) q)

-- a text is bad at one place at most
pub one-bad : (facts : TokenFacts) (text : List ℕ) (place other : ℕ) → IsBad text place → IsBad text other → place ≡ other
one-bad facts text place other (inl b) (inl d) = facts.one_token_place text place other b d
one-bad facts text place other (inl b) (inr d) = absurd (facts.never_tokens text d.1.0 place d.1.1 b)
one-bad facts text place other (inr b) (inl d) = absurd (facts.never_tokens text b.1.0 other b.1.1 d)
one-bad facts text place other (inr b) (inr d) = b.4 ∙ (same-place facts text b.0 d.0 b.2 d.2 b.1 b.3 d.1 d.3 ∙ sym d.4)

-- a text that is a program, however deep, is not bad
pub never-bad : (facts : TokenFacts) (text : List ℕ) (lexemes : List Lexeme) (items : List Item) (place : ℕ) → AreLexemesOf text lexemes → IsProgram lexemes items → IsBad text place → ⊥
never-bad facts text lexemes items place a p (inl b) = facts.never_tokens text a.0 place a.1 b
never-bad facts text lexemes items place a p (inr b) =
    facts.never_program lexemes items b.2 p (subst (λ l. NoProgramAt l b.2) (sym (same-lexemes facts text lexemes b.0 a b.1)) b.3)

-- a text that is a program of at most 64 levels is none of more
pub never-deep : (facts : TokenFacts) (text : List ℕ) (told : ToldProgram) → IsProgramOf text told → IsTooDeep text → ⊥
never-deep facts text told p d =
    let e : program_levels p.items ≡ program_levels d.items = ap program_levels (same-items facts text p.lexemes d.lexemes p.items d.items p.are p.is d.are d.is) in
    let within : program_levels p.items ≤ 64 = p.within in
    let deep : 64 < program_levels d.items = d.deep in
    omega arith

-- a text with tokens is bad where they are
pub bad-in-text : (text : List ℕ) (lexemes one two : List Lexeme) (at place : ℕ) → AreLexemesOf text lexemes → one ≡ lexemes → two ≡ lexemes → NoProgramAt one at → place ≡ place_in_text text two at → IsBad text place
bad-in-text text lexemes one two at place are e f bad is =
    inr (lexemes, are, at, subst (λ l. NoProgramAt l at) e bad, is ∙ ap (λ l. place_in_text text l at) f)
