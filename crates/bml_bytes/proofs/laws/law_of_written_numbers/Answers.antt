use Rattle.bml_bytes.proofs.NumberLaws.{two-bytes, four-bytes}
use Rattle.bml_bytes.proofs.laws.law_of_written_numbers.Goals as goal

pub returns-clause-two : goal.returns-clause-two
returns-clause-two c = two-bytes

pub returns-clause-four : goal.returns-clause-four
returns-clause-four c = four-bytes
