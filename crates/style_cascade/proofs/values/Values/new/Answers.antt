use Rattle.std.proofs.Common.{◌∙◌}
use Rattle.style_cascade.proofs.MarkLemmas.{cell-empty, length-marked}
use Rattle.style_cascade.proofs.values.Values.new.Goals as goal

pub returns-clause-length : goal.returns-clause-length
returns-clause-length c = length-marked c.args.nodes c.in_ok-marks.marks.items 0 c.in_ok-table.table ∙ (c.in_ok-table.ensures {u = tt}).length

pub returns-clause-empty : goal.returns-clause-empty
returns-clause-empty c = cell-empty c.args.nodes c.in_ok-marks.marks.items c.in_ok-table.table (c.in_ok-table.ensures {u = tt}).empty
