use Rattle.std.proofs.Common.{◌+◌, ◌*◌}
use Rattle.es_shapes.specs.devices.Parts.{statements_from}
use Rattle.es_eval.specs.Rows.{statements}
use Rattle.es_eval.specs.devices.Held.{GoesAs, IsClear}
use Rattle.es_eval.specs.devices.Machines.{burden}
use Rattle.es_eval.specs.devices.Works.{loop_task, runs, turns}
use Rattle.es_eval.proofs.machine.Machine.+statement.Given as goal

abbrev pub decreases-run_statement : goal.decreases-run_statement
decreases-run_statement l = 8 * l.levels + 7

abbrev pub decreases-run_shape : goal.decreases-run_shape
decreases-run_shape l = 8 * l.levels + 6

abbrev pub decreases-run_inner : goal.decreases-run_inner
decreases-run_inner l = 8 * l.levels

abbrev pub decreases-run_if : goal.decreases-run_if
decreases-run_if l = 8 * l.levels + 1

abbrev pub decreases-run_if_else : goal.decreases-run_if_else
decreases-run_if_else l = 8 * l.levels + 1

abbrev pub decreases-run_row : goal.decreases-run_row
decreases-run_row l = 8 * l.levels + 1

abbrev pub decreases-run_first : goal.decreases-run_first
decreases-run_first l = 8 * l.levels + 5

abbrev pub decreases-run_first_var : goal.decreases-run_first_var
decreases-run_first_var l = 8 * l.levels + 4

abbrev pub decreases-run_loop : goal.decreases-run_loop
decreases-run_loop l = 8 * l.levels + 3

abbrev pub decreases-run_turn : goal.decreases-run_turn
decreases-run_turn l = 8 * l.levels + 2

abbrev pub decreases-run_body : goal.decreases-run_body
decreases-run_body l = 8 * l.levels + 1

-- ---- loops

abbrev pub invariant-run_row-row : goal.invariant-run_row-row
invariant-run_row-row l = record {
  goes : GoesAs (statements (runs l.programs) (statements_from l.programs l.listing l.first))
      (statements (runs l.programs) (statements_from l.programs l.listing l.place)) l.programs
      l.initial.self l.self;
  clear : IsClear l.held;
}

abbrev pub decreases-run_row-row : goal.decreases-run_row-row
decreases-run_row-row l = burden l.self

abbrev pub invariant-run_loop-turns : goal.invariant-run_loop-turns
invariant-run_loop-turns l = record {
  goes : GoesAs (turns l.programs (loop_task l.programs l.given_loop))
      (turns l.programs (loop_task l.programs l.given_loop)) l.programs l.initial.self l.self;
  clear : IsClear l.held;
}

abbrev pub decreases-run_loop-turns : goal.decreases-run_loop-turns
decreases-run_loop-turns l = burden l.self
