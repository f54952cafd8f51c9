use Rattle.style_reader.proofs.PrintLaws.{Known, read-back}
use Rattle.style_reader.proofs.ValueLaws.{fits-read}
use Rattle.style_reader.proofs.laws.law_of_values.Goals as goal

pub returns-clause-read : goal.returns-clause-read
returns-clause-read c = fits-read

pub returns-clause-read_back : goal.returns-clause-read_back
returns-clause-read_back c =
    let decimals = c.law_of_decimals.ensures in
    let known : Known = record { digits = decimals.digits; number = decimals.number; one = decimals.one; ascii = c.law_of_codes.ensures.ascii } in
    read-back known
