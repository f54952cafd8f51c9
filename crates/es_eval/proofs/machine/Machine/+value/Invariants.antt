use Rattle.std.proofs.Common.{◌≡◌, ◌+◌, ◌-◌, ◌*◌, ◌^◌}
use Rattle.es_eval.proofs.ApplyLemmas.{Gathering}
use Rattle.es_eval.proofs.machine.Machine.+value.Given as goal

abbrev pub decreases-value_of : goal.decreases-value_of
decreases-value_of l = 16 * l.levels + 0

abbrev pub decreases-shape_of : goal.decreases-shape_of
decreases-shape_of l = 16 * l.levels + 15

abbrev pub decreases-left_of : goal.decreases-left_of
decreases-left_of l = 16 * l.levels + 3

abbrev pub decreases-left_from : goal.decreases-left_from
decreases-left_from l = 16 * l.levels + 2

abbrev pub decreases-right_of : goal.decreases-right_of
decreases-right_of l = 16 * l.levels + 1

abbrev pub decreases-sign_of : goal.decreases-sign_of
decreases-sign_of l = 16 * l.levels + 1

abbrev pub decreases-branch_of : goal.decreases-branch_of
decreases-branch_of l = 16 * l.levels + 1

abbrev pub decreases-member_of : goal.decreases-member_of
decreases-member_of l = 16 * l.levels + 1

abbrev pub decreases-index_of : goal.decreases-index_of
decreases-index_of l = 16 * l.levels + 2

abbrev pub decreases-key_of : goal.decreases-key_of
decreases-key_of l = 16 * l.levels + 1

abbrev pub decreases-assign_of : goal.decreases-assign_of
decreases-assign_of l = 16 * l.levels + 7

abbrev pub decreases-assign_part : goal.decreases-assign_part
decreases-assign_part l = 16 * l.levels + 6

abbrev pub decreases-assign_shape : goal.decreases-assign_shape
decreases-assign_shape l = 16 * l.levels + 5

abbrev pub decreases-assign_name : goal.decreases-assign_name
decreases-assign_name l = 16 * l.levels + 1

abbrev pub decreases-assign_member : goal.decreases-assign_member
decreases-assign_member l = 16 * l.levels + 2

abbrev pub decreases-assign_index : goal.decreases-assign_index
decreases-assign_index l = 16 * l.levels + 4

abbrev pub decreases-assign_key : goal.decreases-assign_key
decreases-assign_key l = 16 * l.levels + 3

abbrev pub decreases-assign_text : goal.decreases-assign_text
decreases-assign_text l = 16 * l.levels + 2

abbrev pub decreases-assign_to : goal.decreases-assign_to
decreases-assign_to l = 16 * l.levels + 1

abbrev pub decreases-update_of : goal.decreases-update_of
decreases-update_of l = 16 * l.levels + 2

abbrev pub decreases-update_from : goal.decreases-update_from
decreases-update_from l = 16 * l.levels + 1

abbrev pub decreases-gather : goal.decreases-gather
decreases-gather l = 16 * l.levels + 1

abbrev pub decreases-arguments_of : goal.decreases-arguments_of
decreases-arguments_of l = 16 * l.levels + 2

abbrev pub decreases-called_value : goal.decreases-called_value
decreases-called_value l = 16 * l.levels + 3

abbrev pub decreases-new_of : goal.decreases-new_of
decreases-new_of l = 16 * l.levels + 3

abbrev pub decreases-called_text : goal.decreases-called_text
decreases-called_text l = 16 * l.levels + 3

abbrev pub decreases-called_on : goal.decreases-called_on
decreases-called_on l = 16 * l.levels + 3

abbrev pub decreases-called_key : goal.decreases-called_key
decreases-called_key l = 16 * l.levels + 4

abbrev pub decreases-called_member : goal.decreases-called_member
decreases-called_member l = 16 * l.levels + 4

abbrev pub decreases-called_index : goal.decreases-called_index
decreases-called_index l = 16 * l.levels + 5

abbrev pub decreases-call_of : goal.decreases-call_of
decreases-call_of l = 16 * l.levels + 6

-- the arguments up to the next one are there
abbrev pub invariant-gather-arguments : goal.invariant-gather-arguments
invariant-gather-arguments l = record {
  callee : l.opened.callee ≡ l.fn.opened.callee;
  call : l.opened.call ≡ l.fn.opened.call;
  gathers : Gathering l.programs l.fn.self l.self l.fn.opened l.opened l.held;
}

abbrev pub decreases-gather-arguments : goal.decreases-gather-arguments
decreases-gather-arguments l = 2 ^ 64 - l.opened.next
