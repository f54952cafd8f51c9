use Rattle.es_expressions.proofs.SourceLemmas.{one-source}
use Rattle.es_expressions.proofs.laws.law_of_sources.Goals as goal

pub returns : goal.returns
returns c = λ text tokens others lexemes more h g k m. one-source text tokens others lexemes more (c.law_of_tokens.ensures.one text tokens others h k) g m
