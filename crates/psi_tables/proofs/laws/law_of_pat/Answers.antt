use Rattle.bml_bytes.specs.declared.refusals.TableFault.TheVariants.{Short}
use Rattle.psi_tables.specs.Table.{association_table}
use Rattle.psi_tables.specs.Reading.{items_in, entry_at, pat_in}
use Rattle.psi_tables.proofs.TableLaws.{fields_kind, fields_short, pat_takes, pat_again, same_ok, not_both}
use Rattle.psi_tables.proofs.laws.law_of_pat.Goals as goal

pub returns-clause-one : goal.returns-clause-one
returns-clause-one c = λ section entries others is too. same_ok entries others (pat_in section) (pat_again c.law_of_fields.ensures section entries is) (pat_again c.law_of_fields.ensures section others too)

pub returns-clause-ok : goal.returns-clause-ok
returns-clause-ok c = λ section entries. (λ is. pat_again c.law_of_fields.ensures section entries is, λ e. pat_takes c.law_of_fields.ensures section entries e)

pub returns-clause-kind : goal.returns-clause-kind
returns-clause-kind c = λ section. fields_kind association_table (items_in entry_at) section

pub returns-clause-short : goal.returns-clause-short
returns-clause-short c = λ section e. (fields_short association_table (items_in entry_at) section e, λ entries is. not_both (pat_in section) entries Short (pat_again c.law_of_fields.ensures section entries is) e)
