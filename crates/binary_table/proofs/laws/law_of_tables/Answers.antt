use Rattle.binary_table.proofs.RowLemmas.{one-table, worked-out}
use Rattle.binary_table.proofs.laws.law_of_tables.Goals as goal

pub returns : goal.returns
returns c = record { one = one-table c.law_of_runs.ensures; worked_out = worked-out c.law_of_runs.ensures }
