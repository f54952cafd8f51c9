use Rattle.bml_bytes.specs.declared.refusals.TableFault.TheVariants.{Short}
use Rattle.psi_tables.specs.Table.{map_table}
use Rattle.psi_tables.specs.Reading.{map_with_number, pmt_in}
use Rattle.psi_tables.proofs.Fields.{StreamLaws}
use Rattle.psi_tables.proofs.TableLaws.{fields_kind, fields_short, pmt_takes, pmt_again, same_ok, not_both}
use Rattle.psi_tables.proofs.laws.law_of_pmt.Goals as goal

laws_of : goal.After-law_of_descriptors → StreamLaws
laws_of c = record { fields = c.law_of_fields.ensures; descriptors = c.law_of_descriptors.ensures.some }

pub returns-clause-one : goal.returns-clause-one
returns-clause-one c = λ section pmt other is too. same_ok pmt other (pmt_in section) (pmt_again (laws_of c) section pmt is) (pmt_again (laws_of c) section other too)

pub returns-clause-ok : goal.returns-clause-ok
returns-clause-ok c = λ section pmt. (λ is. pmt_again (laws_of c) section pmt is, λ e. pmt_takes (laws_of c) section pmt e)

pub returns-clause-kind : goal.returns-clause-kind
returns-clause-kind c = λ section. fields_kind map_table (map_with_number section) section

pub returns-clause-short : goal.returns-clause-short
returns-clause-short c = λ section e. (fields_short map_table (map_with_number section) section e, λ pmt is. not_both (pmt_in section) pmt Short (pmt_again (laws_of c) section pmt is) e)
