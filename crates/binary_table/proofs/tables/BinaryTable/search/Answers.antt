use Rattle.std.proofs.Common.{◌≡◌, ℕ, ◌+◌, ◌-◌, ◌<◌, ◌≤◌, List, [], ◌∷◌, ◌++◌, length, take, sym, ap, subst, ◌∙◌, arith, length-append}
use Rattle.std.specs.Prelude.{All}
use Rattle.std.proofs.lemmas.List.Elements.{All-push, All-same}
use Rattle.binary_table.specs.Tables.{Search, most_rows, rows_with}
use Rattle.binary_table.proofs.SearchLemmas.{one-found, one-other}
use Rattle.binary_table.proofs.tables.BinaryTable.search.Goals as goal
use Rattle.binary_table.proofs.tables.BinaryTable.search.Goals.{then-branch+in_ok-push, else-branch}

pub rows-preserved : goal.rows-preserved
rows-preserved c =
    let few = c.rows.invariant.few in
    let not = c.if-len-most.false in
    let room : length c.rows.found.items < c.args.limit = omega (arith, c.len.ensures) in
    let within : c.rows.row < length c.args.self.now.rows = omega (arith, c.rows-in-rows.ensures.rows, c.rows-test.true) in
    let small : c.rows.row < most_rows = omega (arith, within, c.rows-in-rows.ensures.few, c.rows-in-rows.ensures.rows) in
    elim c.if-branch.branch [
      | then-branch+in_ok-push w ↦
          (let new = ap (λ v. v.items) w.found-is ∙ w.in_ok-push.ensures.items in
          let longer = ap length new in
          let more = length-append c.rows.found.items (c.rows.row ∷ []) in
          record {
            few = omega arith;
            within = All-same (λ row. row < most_rows) c.if-branch.found.items _ new (All-push (λ row. row < most_rows) c.rows.found.items c.rows.row c.rows.invariant.within small);
            found = one-found c.args.self.now.rows c.args.column c.args.wanted.now c.rows.row c.args.limit c.rows.found.items c.if-branch.found.items _ within room (sym c.in_ok-has.ensures ∙ w.if-branch.true) new c.rows.invariant.found;
          })
      | else-branch w ↦
          (let same = ap (λ v. v.items) w.found-is in
          subst (λ (new : List ℕ). record { few : length new ≤ c.args.limit; within : All (λ row. row < most_rows) new; found : new ++ take (c.args.limit - length new) (rows_with c.args.self.now.rows (c.rows.row + 1) c.args.column c.args.wanted.now) ≡ Search c.args.self.now.rows c.args.from c.args.column c.args.wanted.now c.args.limit }) (sym same)
          (record {
            few = few;
            within = c.rows.invariant.within;
            found = one-other c.args.self.now.rows c.args.column c.args.wanted.now c.rows.row c.args.limit c.rows.found.items _ within (sym c.in_ok-has.ensures ∙ w.if-branch.false) c.rows.invariant.found;
          }))
    ]
