use Rattle.es_lexer.proofs.SpanLemmas.{tokens-stand}
use Rattle.es_lexer.proofs.laws.law_of_spans.Goals as goal

pub returns : goal.returns
returns c = tokens-stand
