use Rattle.std.proofs.Common.{◌≡◌, ◌≢◌, Option, subst, sym}
use Rattle.std.specs.Prelude.{MatchOption}
use Rattle.es_lexer.specs.Spellings.{word_spelling}
use Rattle.es_lexer.specs.declared.words.ReservedWord.{ReservedWord}
use Rattle.es_lexer.proofs.WordLemmas.{word-found}
use Rattle.es_lexer.proofs.words.reserved_word_of.Goals as goal

pub returns : goal.returns
returns c = subst (λ (o : Option ReservedWord). MatchOption o ((word : ReservedWord) → c.args.spelling.now ≢ word_spelling word) (λ word. c.args.spelling.now ≡ word_spelling word)) (sym c.found_word-word.ensures) (word-found c.args.spelling.now)
