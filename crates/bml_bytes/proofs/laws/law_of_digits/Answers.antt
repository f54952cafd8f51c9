use Rattle.bml_bytes.proofs.NumberLaws.{number_in-reads_back, digits_in-below, length-digits_in}
use Rattle.bml_bytes.proofs.NumeralLaws.{number_in-more}
use Rattle.bml_bytes.proofs.laws.law_of_digits.Goals as goal

pub returns-clause-read_back : goal.returns-clause-read_back
returns-clause-read_back c = number_in-reads_back

pub returns-clause-below : goal.returns-clause-below
returns-clause-below c = digits_in-below

pub returns-clause-count : goal.returns-clause-count
returns-clause-count c = length-digits_in

pub returns-clause-more : goal.returns-clause-more
returns-clause-more c = number_in-more
