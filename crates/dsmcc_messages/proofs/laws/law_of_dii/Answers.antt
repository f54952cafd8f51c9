use Rattle.dsmcc_messages.specs.Message.{indication}
use Rattle.dsmcc_messages.specs.Reading.{indication_at, dii_in}
use Rattle.bml_bytes.specs.declared.refusals.TableFault.TheVariants.{Short}
use Rattle.dsmcc_messages.proofs.Sections.{fields_kind, fields_short, dii_takes, dii_again, one_dii, not_both}
use Rattle.dsmcc_messages.proofs.laws.law_of_dii.Goals as goal

pub returns-clause-one : goal.returns-clause-one
returns-clause-one c = λ section dii other. one_dii c.law_of_fields.ensures section dii other

pub returns-clause-ok : goal.returns-clause-ok
returns-clause-ok c = λ section dii. (λ is. dii_again c.law_of_fields.ensures section dii is, λ e. dii_takes c.law_of_fields.ensures section dii e)

pub returns-clause-kind : goal.returns-clause-kind
returns-clause-kind c = λ section. fields_kind indication indication_at section

pub returns-clause-short : goal.returns-clause-short
returns-clause-short c = λ section e. (fields_short indication indication_at section e, λ dii is. not_both (dii_in section) dii Short (dii_again c.law_of_fields.ensures section dii is) e)
