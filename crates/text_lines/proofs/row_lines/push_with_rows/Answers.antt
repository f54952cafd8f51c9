use Rattle.std.proofs.Common.{◌≡◌, ◌++◌, List, ℕ, ap, sym, ◌∙◌, subst, append_assoc}
use Rattle.std.specs.Prelude.{OnOk}
use Rattle.std.specs.List.{join_with_byte}
use Rattle.text_lines.specs.RowLines.{line_with_rows, lines_of_text}
use Rattle.text_lines.specs.devices.Printed.{ended_before}
use Rattle.text_lines.proofs.PrintingLaws.{with_text, without_text}
use Rattle.text_lines.proofs.row_lines.push_with_rows.Goals as goal

pub returns-in-Some-clause-rows : goal.returns-in-Some-clause-rows
returns-in-Some-clause-rows c =
    let lines = ended_before (lines_of_text c.args.spacing c.args.align c.in-Some.shown) in
    let text = with_text c.args.spacing c.args.align c.args.line.now c.in-Some.shown (sym (c.in_ok-shown.ensures {u = tt}) ∙ c.in-Some.is) in
    let same : c.extend_from_slice.new.self.items ++ lines ≡ c.args.out.now.items ++ join_with_byte 10 (line_with_rows c.args.spacing c.args.align c.args.line.now) =
    ap (λ (bytes : List ℕ). bytes ++ lines) (c.in_ok-extend_from_slice.ensures {u = tt}).items
    ∙ append_assoc c.args.out.now.items c.args.line.now lines ∙ ap (λ (bytes : List ℕ). c.args.out.now.items ++ bytes) (sym text) in
    subst (λ (bytes : List ℕ). OnOk c.push_rows.result (c.push_rows.new.out.items ≡ bytes)) same c.push_rows.ensures.rows

pub returns-in-None-clause-rows : goal.returns-in-None-clause-rows
returns-in-None-clause-rows c =
    c.in_ok-extend_from_slice.ensures.items
    ∙ ap (λ (bytes : List ℕ). c.args.out.now.items ++ bytes) (sym (without_text c.args.spacing c.args.align c.args.line.now (sym (c.in_ok-shown.ensures {u = tt}) ∙ c.in-None.is)))
