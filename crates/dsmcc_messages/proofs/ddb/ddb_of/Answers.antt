use Rattle.std.proofs.Common.{Option, Ok, Err, sym, ap, ◌∙◌}
use Rattle.std.specs.Prelude.{ok_or}
use Rattle.std.proofs.lemmas.Result.{err_from_is_err_and}
use Rattle.bml_bytes.specs.declared.refusals.TableFault.TheVariants.{Short}
use Rattle.dsmcc_messages.specs.Message.{data_block}
use Rattle.dsmcc_messages.specs.Ddb.{DataBlock, fields_of}
use Rattle.dsmcc_messages.specs.Reading.{data_block_at, seen}
use Rattle.dsmcc_messages.proofs.Readers.{after_header, seen-ok_or}
use Rattle.dsmcc_messages.proofs.ddb.ddb_of.Goals as goal

pub returns-in_err-message : goal.returns-in_err-message
returns-in_err-message c =
    let p = err_from_is_err_and c.from_residual.result c.from_residual.ensures.1 in
    rw (p.1, p.2) (sym (after_header data_block data_block_at c.args.section.now (Err c.in_err-message.field-0.0) c.in_err-message.ensures))

pub returns : goal.returns
returns c =
    ap (seen fields_of) c.ok_or.ensures.value
    ∙ seen-ok_or fields_of c.fields.result
    ∙ ap (λ (read : Option DataBlock). ok_or read Short) c.fields.ensures
    ∙ sym (after_header data_block data_block_at c.args.section.now (Ok (c.in_ok-message.message.identifier, c.in_ok-message.message.payload.now)) c.in_ok-message.ensures)
