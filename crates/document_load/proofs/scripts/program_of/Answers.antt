use Rattle.std.proofs.Common.{Err, ap}
use Rattle.document_load.proofs.scripts.program_of.Goals as goal

pub returns-in-Err-Bad : goal.returns-in-Err-Bad
returns-in-Err-Bad c read is =
    let place = c.in-Err-Bad.field-0-0 in
    c.law_of_readers.ensures.bad read c.args.text.now place is (c.in-Err-Bad.ensures.bad place (ap (λ fault. Err fault) c.in-Err-Bad.field-0-is))
