use Rattle.es_lexer.proofs.TokenLemmas.{one-list, one-place, either, not-both}
use Rattle.es_lexer.proofs.laws.law_of_tokens.Goals as goal

pub returns-clause-one : goal.returns-clause-one
returns-clause-one c = one-list

pub returns-clause-one_place : goal.returns-clause-one_place
returns-clause-one_place c = one-place

pub returns-clause-either : goal.returns-clause-either
returns-clause-either c = either

pub returns-clause-not_both : goal.returns-clause-not_both
returns-clause-not_both c = not-both
