use Rattle.std.proofs.Common.{◌+◌, ◌≤◌, [], ◌∷◌, length, drop, sym, ap, ◌∙◌, arith, length-append}
use Rattle.std.specs.Prelude.{option_map}
use Rattle.binary_table.specs.declared.layouts.Row.{Row}
use Rattle.binary_table.specs.devices.Places.{rests}
use Rattle.binary_table.proofs.ShownLemmas.{all-rows, next-row, no-room, no-row}
use Rattle.binary_table.proofs.layouts.Layout.rows.Goals as goal

pub returns-then-len-most : goal.returns-then-len-most
returns-then-len-most c = λ kinds s h.
    let full : c.args.most ≤ length c.rows.rows.items = omega (arith, c.len.ensures, c.if-len-most.true) in
    no-room c.args.most c.rows.start kinds c.args.bytes.now c.rows.rows.items (c.rows.invariant.so_far kinds s h) c.rows-test.true full

pub returns-in_default : goal.returns-in_default
returns-in_default c = λ kinds s h.
    let none = ap (option_map (λ (row : Row). (rests c.args.bytes.now row.places.items, drop row.end c.args.bytes.now))) (sym c.in_default.is) ∙ c.in_ok-row.ensures in
    no-row c.law_of_fields.ensures c.args.most c.rows.start kinds c.args.self.now c.args.bytes.now c.rows.rows.items h (c.rows.invariant.so_far kinds s h) c.rows-test.true none

pub rows-preserved : goal.rows-preserved
rows-preserved c =
    let row = ap (option_map (λ (row : Row). (rests c.args.bytes.now row.places.items, drop row.end c.args.bytes.now))) (sym c.in-Some.is) ∙ c.in_ok-row.ensures in
    let room : length c.rows.rows.items + 1 ≤ c.args.most = (let few = c.rows.invariant.few in let n = c.if-len-most.false in omega (arith, c.len.ensures)) in
    let longer = ap length c.in_ok-push.ensures.items in
    let more = length-append c.rows.rows.items (c.in-Some.row ∷ []) in
    record {
      few = omega arith;
      so_far = λ kinds s h. next-row c.law_of_fields.ensures c.args.most c.rows.start kinds c.args.self.now c.args.bytes.now c.rows.rows.items c.push.new.self.items c.in-Some.row h (c.rows.invariant.so_far kinds s h) c.rows-test.true (omega arith) row c.in_ok-push.ensures.items;
    }

pub returns : goal.returns
returns c = λ kinds s h. all-rows c.args.most c.rows.start kinds c.args.bytes.now c.rows.rows.items (c.rows.invariant.so_far kinds s h) c.rows-test.false
