use Rattle.bml_bytes.proofs.OwnCodeLaws.{bytes_of-bytes, own-codes}
use Rattle.bml_bytes.proofs.laws.law_of_own_codes.Goals as goal

pub returns-clause-codes : goal.returns-clause-codes
returns-clause-codes c = own-codes

pub returns-clause-bytes : goal.returns-clause-bytes
returns-clause-bytes c = bytes_of-bytes
