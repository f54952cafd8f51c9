use Rattle.std.proofs.Common.{Ok, Err, sym, subst}
use Rattle.std.proofs.lemmas.Result.{err_from_is_err_and}
use Rattle.dsmcc_messages.specs.Message.{indication}
use Rattle.dsmcc_messages.specs.Reading.{indication_at, IsRead}
use Rattle.dsmcc_messages.proofs.Readers.{after_header, header_kind}
use Rattle.dsmcc_messages.proofs.dii.dii_of.Goals as goal

pub returns-in_err-message-clause-reading : goal.returns-in_err-message-clause-reading
returns-in_err-message-clause-reading c =
    let p = err_from_is_err_and c.from_residual.result c.from_residual.ensures.1 in
    rw (p.1, p.2) (after_header indication indication_at c.args.section.now (Err c.in_err-message.field-0.0) c.in_err-message.ensures)

pub returns-clause-reading : goal.returns-clause-reading
returns-clause-reading c =
    subst (λ read. IsRead c.fields.result read) (sym (after_header indication indication_at c.args.section.now (Ok (c.in_ok-message.message.identifier, c.in_ok-message.message.payload.now)) c.in_ok-message.ensures)) c.fields.ensures

pub returns-clause-kind : goal.returns-clause-kind
returns-clause-kind c = λ _. header_kind indication c.args.section.now (c.in_ok-message.message.identifier, c.in_ok-message.message.payload.now) c.in_ok-message.ensures
