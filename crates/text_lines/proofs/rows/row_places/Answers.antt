-- The rows are those that the whole text gives, and there is only one such list.
use Rattle.std.proofs.Common.{◌≡◌, ◌++◌, ◌∷◌, [], All, arith, drop, length, sym, ◌∙◌, ap, subst}
use Rattle.std.proofs.lemmas.List.{drop_all}
use Rattle.text_lines.specs.Measures.{measures}
use Rattle.text_lines.specs.Breaking.{AreRows, IsWithin}
use Rattle.text_lines.specs.devices.RowsAhead.{ahead}
use Rattle.text_lines.proofs.RowLaws.{rows_of_text, within-from}
use Rattle.text_lines.proofs.OnlyRows.{only_rows}
use Rattle.text_lines.proofs.rows.row_places.Goals as goal

rows_come : (c : goal.In_ok-push-2) → c.push-2.new.self.items ≡ ahead (measures c.args.width c.args.size c.args.spacing) 0 0 0 c.args.text.now
unfolding ahead
rows_come c =
    let m = measures c.args.width c.args.size c.args.spacing in
    let none : drop c.loop-code.code-index c.codes-code-items.result.now ≡ [] = drop_all c.loop-code.code-index c.codes-code-items.result.now c.loop-code-test.false in
    let whole : c.loop-code.rows.items ++ c.loop-code.row ∷ [] ≡ ahead m 0 0 0 c.codes-code-items.result.now = rw none at c.loop-code.invariant.same in
    c.in_ok-push-2.ensures.items ∙ whole ∙ ap (ahead m 0 0 0) c.codes-code-items.ensures

rows_are : (c : goal.In_ok-push-2) → AreRows (measures c.args.width c.args.size c.args.spacing) c.args.text.now c.push-2.new.self.items
rows_are c =
    let m = measures c.args.width c.args.size c.args.spacing in
    subst (AreRows m c.args.text.now) (sym (rows_come c)) (rows_of_text m c.args.text.now)

pub returns-clause-rows : goal.returns-clause-rows
returns-clause-rows c = rows_are c

pub returns-clause-only : goal.returns-clause-only
returns-clause-only c = λ other are. only_rows _ _ _ other (rows_are c) are

pub returns-clause-within : goal.returns-clause-within
returns-clause-within c =
    let m = measures c.args.width c.args.size c.args.spacing in
    subst (All (IsWithin (length c.args.text.now))) (sym (rows_come c))
    (within-from m 0 0 0 (length c.args.text.now) c.args.text.now (omega arith) (omega arith))
