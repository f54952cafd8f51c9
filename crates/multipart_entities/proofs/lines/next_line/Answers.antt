use Rattle.std.proofs.Common.{◌+◌, ◌∷◌, List, ℕ, length, drop, ◌∙◌, sym, ap, arith}
use Rattle.std.specs.Option.{option_copied}
use Rattle.multipart_entities.specs.Lines.{lines_of}
use Rattle.multipart_entities.proofs.LineLemmas.{line-first, line-last, line-size, line-cut, line-rest}
use Rattle.multipart_entities.proofs.lines.next_line.Goals as goal

pub overflow_sub-result : goal.overflow_sub-result
overflow_sub-result c =
    let bytes = c.args.bytes.now in
    let rest = c.in-Some.rest.now in
    let h = line-first bytes rest (sym c.behind_first.ensures ∙ ap option_copied c.in-Some.is) in
    omega (arith, line-size bytes rest h)

pub slice_bounds-result-count : goal.slice_bounds-result-count
slice_bounds-result-count c =
    let bytes = c.args.bytes.now in
    let rest = c.in-Some.rest.now in
    let h = line-first bytes rest (sym c.behind_first.ensures ∙ ap option_copied c.in-Some.is) in
    omega (arith, line-size bytes rest h)

pub returns-in-Some-clause-lines : goal.returns-in-Some-clause-lines
returns-in-Some-clause-lines c =
    let bytes = c.args.bytes.now in
    let rest = c.in-Some.rest.now in
    let h = line-first bytes rest (sym c.behind_first.ensures ∙ ap option_copied c.in-Some.is) in
    h.lines ∙ ap (λ l. l ∷ lines_of rest) (sym (line-cut bytes rest h))

pub returns-in-Some-clause-size : goal.returns-in-Some-clause-size
returns-in-Some-clause-size c =
    let bytes = c.args.bytes.now in
    let rest = c.in-Some.rest.now in
    let h = line-first bytes rest (sym c.behind_first.ensures ∙ ap option_copied c.in-Some.is) in
    ap (λ (l : List ℕ). length l + 2 + length rest) (line-cut bytes rest h) ∙ line-size bytes rest h

pub returns-in-Some-clause-rest : goal.returns-in-Some-clause-rest
returns-in-Some-clause-rest c =
    let bytes = c.args.bytes.now in
    let rest = c.in-Some.rest.now in
    let h = line-first bytes rest (sym c.behind_first.ensures ∙ ap option_copied c.in-Some.is) in
    sym (ap (λ (l : List ℕ). drop (length l + 2) bytes) (line-cut bytes rest h) ∙ line-rest bytes rest h)

pub returns-in-None-clause-lines : goal.returns-in-None-clause-lines
returns-in-None-clause-lines c = line-last c.args.bytes.now (sym c.behind_first.ensures ∙ ap option_copied c.in-None.is)
