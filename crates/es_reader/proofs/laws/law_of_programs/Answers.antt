use Rattle.es_reader.proofs.laws.law_of_programs.Goals as goal
use Rattle.es_reader.proofs.Places.{never-both, only-place}
use Rattle.es_reader.proofs.Uniqueness.{same-program}

pub returns-clause-one : goal.returns-clause-one
returns-clause-one c = λ tokens items others h g. same-program (record {
  one = c.law_of_expressions.ensures;
  goes_on = c.law_of_ends.ensures.goes_on;
  first = c.law_of_ends.ensures.first;
  some = c.law_of_ends.ensures.some;
}) tokens items others h g

pub returns-clause-not_both : goal.returns-clause-not_both
returns-clause-not_both c = λ tokens items place h b. never-both tokens items place h b

pub returns-clause-one_place : goal.returns-clause-one_place
returns-clause-one_place c = λ tokens place other b d. only-place tokens place other b d
