use Rattle.dsmcc_messages.specs.Message.{data_block}
use Rattle.dsmcc_messages.specs.Reading.{data_block_at, ddb_in}
use Rattle.bml_bytes.specs.declared.refusals.TableFault.TheVariants.{Short}
use Rattle.dsmcc_messages.proofs.Sections.{fields_kind, fields_short, ddb_takes, ddb_again, one_ddb, not_both}
use Rattle.dsmcc_messages.proofs.laws.law_of_ddb.Goals as goal

pub returns-clause-one : goal.returns-clause-one
returns-clause-one c = λ section ddb other. one_ddb c.law_of_fields.ensures section ddb other

pub returns-clause-ok : goal.returns-clause-ok
returns-clause-ok c = λ section ddb. (λ is. ddb_again c.law_of_fields.ensures section ddb is, λ e. ddb_takes c.law_of_fields.ensures section ddb e)

pub returns-clause-kind : goal.returns-clause-kind
returns-clause-kind c = λ section. fields_kind data_block data_block_at section

pub returns-clause-short : goal.returns-clause-short
returns-clause-short c = λ section e. (fields_short data_block data_block_at section e, λ ddb is. not_both (ddb_in section) ddb Short (ddb_again c.law_of_fields.ensures section ddb is) e)
