use Rattle.std.proofs.Common.{◌≡◌, ℕ, List, subst}
use Rattle.std.specs.Prelude.{OnOk, Some}
use Rattle.browser_objects.specs.Calls.{give_array}
use Rattle.browser_objects.specs.OpenTables.{row_numbers}
use Rattle.browser_objects.proofs.table_calls.search_rows.Goals as goal

pub returns-in_ok-rows-in-Some-Some-Some-Some-clause-objects : goal.returns-in_ok-rows-in-Some-Some-Some-Some-clause-objects
returns-in_ok-rows-in-Some-Some-Some-Some-clause-objects c = λ s.
    let found = c.in-Some-Some-Some-Some in
    rw found.is-0 (rw found.is-1 (rw found.is-2 (rw found.is-3
    (subst (λ (rows : List ℕ). OnOk c.give_rows.result (c.give_rows.new.heap ≡ (give_array (Some (row_numbers rows)) c.args.heap.now s).heap))
    c.in_ok-rows-in-Some-Some-Some-Some.ensures.rows (c.give_rows.ensures.objects s)))))
