use Rattle.std.proofs.Common.{List, ℕ, ◌≤◌, length, ◌∙◌, sym, ⊎_elim, arith}
use Rattle.std.specs.Option.{option_copied}
use Rattle.multipart_entities.proofs.DelimiterLemmas.{LineAt, from-end, line-at, step-none, step-some}
use Rattle.multipart_entities.proofs.boundaries.next_delimiter.Goals as goal

pub returns-in-Some-delimiter_kind-clause-found : goal.returns-in-Some-delimiter_kind-clause-found
returns-in-Some-delimiter_kind-clause-found c =
    let boundary : List ℕ = c.args.boundary.now in
    let bytes : List ℕ = c.args.bytes.now in
    let start : ℕ = c.lines.start in
    let line : List ℕ = c.next_line.result.0.now in
    let is = (c.in-Some.ensures {u = tt}).lookup.0 in
    let lines = c.next_line.ensures in
    let l : LineAt bytes start line = line-at bytes start line c.in-Some.rest.now (option_copied c.next_line.result.1) is.2 lines.lines lines.rest lines.last in
    c.lines.invariant.0 ∙ step-some boundary bytes start line c.in-Some-delimiter_kind.last is.0 l (sym (c.in-Some-delimiter_kind.ensures {u = tt}))

pub lines-preserved : goal.lines-preserved
lines-preserved c =
    let boundary : List ℕ = c.args.boundary.now in
    let bytes : List ℕ = c.args.bytes.now in
    let start : ℕ = c.lines.start in
    let line : List ℕ = c.next_line.result.0.now in
    let is = (c.in-Some.ensures {u = tt}).lookup.0 in
    let lines = c.next_line.ensures in
    let l : LineAt bytes start line = line-at bytes start line c.in-Some.rest.now (option_copied c.next_line.result.1) is.2 lines.lines lines.rest lines.last in
    (c.lines.invariant.0 ∙ step-none boundary bytes start line is.0 l (sym (c.in_default-delimiter_kind.ensures {u = tt})), omega arith)

pub returns-clause-found : goal.returns-clause-found
returns-clause-found c =
    let bytes : List ℕ = c.args.bytes.now in
    let past : length bytes ≤ c.lines.start = ⊎_elim (λ h. omega (arith, h)) (λ h. omega (arith, h)) ((c.in_default.ensures {u = tt}).lookup.0) in
    c.lines.invariant.0 ∙ from-end c.args.boundary.now bytes c.lines.start past
