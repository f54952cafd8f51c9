use Rattle.std.proofs.Common.{arith}
use Rattle.bml_bytes.proofs.NumberLaws.{number_in-reads_back, digits_in-number_in, number_in-fits, digits_in-below, length-digits_in, digits_in-one}
use Rattle.bml_bytes.proofs.laws.law_of_big_numbers.Goals as goal

pub returns-clause-read_back : goal.returns-clause-read_back
returns-clause-read_back c = λ count number. number_in-reads_back 256 count number (omega arith)

pub returns-clause-written_back : goal.returns-clause-written_back
returns-clause-written_back c = digits_in-number_in 256

pub returns-clause-fits : goal.returns-clause-fits
returns-clause-fits c = number_in-fits 256

pub returns-clause-bytes : goal.returns-clause-bytes
returns-clause-bytes c = λ count number. digits_in-below 256 count number (omega arith)

pub returns-clause-count : goal.returns-clause-count
returns-clause-count c = length-digits_in 256

pub returns-clause-byte : goal.returns-clause-byte
returns-clause-byte c = digits_in-one 256
