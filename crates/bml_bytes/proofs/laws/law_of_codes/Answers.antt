use Rattle.bml_bytes.proofs.CodeLaws.{bytes_of-codes, codes-ascii}
use Rattle.bml_bytes.proofs.laws.law_of_codes.Goals as goal

pub returns-clause-written_back : goal.returns-clause-written_back
returns-clause-written_back c = bytes_of-codes

pub returns-clause-ascii : goal.returns-clause-ascii
returns-clause-ascii c = codes-ascii
