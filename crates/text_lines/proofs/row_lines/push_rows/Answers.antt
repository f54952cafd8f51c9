use Rattle.std.proofs.Common.{◌≡◌, ◌<◌, ◌+◌, ◌++◌, ◌∷◌, [], List, ℕ, ap, sym, ◌∙◌, append_assoc, append-nil, length, take, get_or, codes, arith}
use Rattle.std.proofs.lemmas.Grind.{flat_map-append}
use Rattle.std.proofs.lemmas.List.{take_more, length-take}
use Rattle.text_lines.specs.declared.read_back.ShownText.{ShownText}
use Rattle.text_lines.specs.declared.row_lines.Align.{Align}
use Rattle.text_lines.specs.declared.rows.Row.{Row}
use Rattle.text_lines.specs.RowLines.{numbered_lines, row_line}
use Rattle.text_lines.specs.devices.Printed.{ended_before}
use Rattle.text_lines.proofs.PrintingLaws.{numbered-more}
use Rattle.text_lines.proofs.row_lines.push_rows.Goals as goal

-- with one row more
printed-more : (align : Align) (shown : ShownText) (rows : List Row) (number : ℕ) (d : Row) → number < length rows → ended_before (numbered_lines align shown 0 (take (number + 1) rows)) ≡ ended_before (numbered_lines align shown 0 (take number rows)) ++ (codes "\n" ++ row_line align shown number (get_or rows number d))
printed-more align shown rows number d within =
    let count : 0 + length (take number rows) ≡ number = omega (arith, length-take number rows) in
    let lines = numbered_lines align shown 0 (take number rows) in
    ap (λ (front : List Row). ended_before (numbered_lines align shown 0 front)) (take_more rows number d within)
    ∙ ap ended_before (numbered-more align shown 0 (take number rows) (get_or rows number d))
    ∙ ap (λ (n : ℕ). ended_before (lines ++ row_line align shown n (get_or rows number d) ∷ [])) count
    ∙ flat_map-append (λ (line : List ℕ). 10 ∷ line) lines (row_line align shown number (get_or rows number d) ∷ [])
    ∙ simp append-nil

-- two appends, one behind the other
two : (old front line-end line out ended more : List ℕ) → out ≡ old ++ front → ended ≡ out ++ line-end → more ≡ ended ++ line → more ≡ old ++ (front ++ (line-end ++ line))
two old front line-end line out ended more is first second =
    second ∙ ap (λ (o : List ℕ). o ++ line) (first ∙ ap (λ (o : List ℕ). o ++ line-end) is) ∙ simp append_assoc

pub rows-preserved : goal.rows-preserved
rows-preserved c =
    let within : c.rows.number < length c.deref-row-items.result.now = c.rows-test.true in
    let line = (c.in_ok-push_row.ensures {u = tt}).line in
    two c.args.out.now.items (ended_before (numbered_lines c.args.align c.args.shown.now 0 (take c.rows.number c.deref-row-items.result.now))) (codes "\n") _ c.rows.out.items c.push_line_end.new.out.items c.push_row.new.out.items
    c.rows.invariant (c.in_ok-push_line_end.ensures {u = tt}).ok line
    ∙ ap (λ (lines : List ℕ). c.args.out.now.items ++ lines) (sym (printed-more c.args.align c.args.shown.now c.deref-row-items.result.now c.rows.number _ within))
