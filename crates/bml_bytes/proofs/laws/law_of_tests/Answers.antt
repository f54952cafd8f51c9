use Rattle.bml_bytes.proofs.TestLaws.{both, one, neither, other}
use Rattle.bml_bytes.proofs.laws.law_of_tests.Goals as goal

pub returns-clause-both : goal.returns-clause-both
returns-clause-both c = both

pub returns-clause-one : goal.returns-clause-one
returns-clause-one c = one

pub returns-clause-neither : goal.returns-clause-neither
returns-clause-neither c = neither

pub returns-clause-other : goal.returns-clause-other
returns-clause-other c = other
