use Rattle.std.proofs.Common.{◌≡◌, ◌++◌, List, ℕ, ap, sym, ◌∙◌, subst, append_assoc}
use Rattle.std.specs.Prelude.{OnOk, codes}
use Rattle.std.specs.List.{join_with_byte}
use Rattle.text_lines.specs.RowLines.{line_with_rows, with_rows}
use Rattle.text_lines.proofs.PrintingLaws.{with_rows-first, with_rows-last}
use Rattle.text_lines.proofs.row_lines.add_rows.Goals as goal

-- what was there, and what two calls and the rest append behind it
two_more : (old front line ended out out-2 : List ℕ) → out ≡ old ++ front → ended ≡ out ++ line → out-2 ≡ ended ++ codes "\n" → out-2 ≡ old ++ (front ++ (line ++ codes "\n"))
two_more old front line ended out out-2 is first second = second ∙ ap (λ (o : List ℕ). o ++ codes "\n") (first ∙ ap (λ (o : List ℕ). o ++ line) is) ∙ simp append_assoc

pub lines-preserved : goal.lines-preserved
lines-preserved c =
    let before = c.lines.invariant in
    let line = join_with_byte 10 (line_with_rows c.args.spacing c.args.align c.in-Some.line.now) in
    let rest = with_rows-first c.args.spacing c.args.align c.lines.rest.now c.in-Some.line.now c.in-Some.behind.now c.in-Some.ensures.cut in (
      before.0 ++ (line ++ codes "\n"),
      two_more c.args.out.now.items before.0 line _ c.lines.out.items _ before.1 (c.in_ok-push_with_rows.ensures {u = tt}).rows (c.in_ok-push_line_end.ensures {u = tt}).ok,
      simp append_assoc (ap (λ (more : List ℕ). before.0 ++ more) (sym rest) ∙ before.2),
    )

pub returns-clause-rows : goal.returns-clause-rows
returns-clause-rows c =
    let before = c.lines.invariant in
    let old = c.args.out.now.items in
    let last = join_with_byte 10 (line_with_rows c.args.spacing c.args.align c.lines.rest.now) in
    let same : c.lines.out.items ++ last ≡ old ++ with_rows c.args.spacing c.args.align c.args.lines.now =
    ap (λ (bytes : List ℕ). bytes ++ last) before.1 ∙ append_assoc old before.0 last
    ∙ ap (λ (bytes : List ℕ). old ++ bytes) (ap (λ (bytes : List ℕ). before.0 ++ bytes) (sym (with_rows-last c.args.spacing c.args.align c.lines.rest.now (c.in_default.ensures {u = tt}).cut)) ∙ before.2) in
    subst (λ (bytes : List ℕ). OnOk c.push_with_rows-2.result (c.push_with_rows-2.new.out.items ≡ bytes)) same c.push_with_rows-2.ensures.rows
