-- The tokens of a text, as the grammar sees them (this project's own): each with what its codes spell.
use Rattle.std.specs.Prelude.{◌≡◌, ℕ, List, slice_range}
use Rattle.std.specs.List.{AllZip}
use Rattle.es_lexer.specs.Spellings.{word_spelling, mark_spelling}
use Rattle.es_lexer.specs.declared.token_types.Token.{Token}
use Rattle.es_lexer.specs.declared.token_types.TokenKind.{TokenKind}
use Rattle.es_lexer.specs.declared.token_types.TokenKind.TheVariants.{Name as NameKind, Word as WordKind, Mark as MarkKind, Number as NumberKind, Words as WordsKind}
use Rattle.es_expressions.specs.declared.lexemes.Lexeme.{Lexeme}
use Rattle.es_expressions.specs.declared.lexemes.Symbol.{Symbol}
use Rattle.es_expressions.specs.declared.lexemes.Symbol.TheVariants.{Name, Word, Mark, Number, Words}

-- the symbol of a token of this kind that is spelled by these codes
abbrev pub IsSymbol : TokenKind → List ℕ → Symbol → Type 0
IsSymbol NameKind codes (Name name) = name ≡ codes
IsSymbol WordKind codes (Word word) = word_spelling word ≡ codes
IsSymbol MarkKind codes (Mark mark) = mark_spelling mark ≡ codes
IsSymbol (NumberKind value) codes (Number number) = number ≡ value
IsSymbol (WordsKind meant) codes (Words words) = words ≡ meant
IsSymbol _ codes _ = ⊥

-- this token of the text, with its symbol
pub record IsLexeme (text : List ℕ) (token : Token) (lexeme : Lexeme) : Type 0 where
  pub start : lexeme.start ≡ token.start
  pub stop : lexeme.«end» ≡ token.«end»
  pub after_break : lexeme.after_break ≡ token.after_break
  pub symbol : IsSymbol token.kind (slice_range text token.start token.«end») lexeme.symbol

-- these tokens of the text, one by one, with their symbols
abbrev pub AreLexemes : List ℕ → List Token → List Lexeme → Type 0
AreLexemes text tokens lexemes = AllZip (IsLexeme text) tokens lexemes
