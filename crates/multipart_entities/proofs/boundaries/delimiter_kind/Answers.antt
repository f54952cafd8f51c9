use Rattle.std.proofs.Common.{◌≡◌, List, ℕ, ◌++◌, true, false, Some, ◌∙◌, sym, ap}
use Rattle.std.specs.Prelude.{codes as ascii}
use Rattle.std.specs.Option.{option_copied}
use Rattle.multipart_entities.specs.Lines.{behind}
use Rattle.multipart_entities.proofs.DelimiterLemmas.{kind-none, kind-is}
use Rattle.multipart_entities.proofs.boundaries.delimiter_kind.Goals as goal

pub returns-in_err-rest : goal.returns-in_err-rest
returns-in_err-rest c =
    c.from_residual.ensures ∙ sym (kind-none c.args.boundary.now c.args.line.now (sym c.behind_boundary.ensures ∙ ap option_copied (c.in_err-rest.was {u = tt})))

pub returns-then-is_followed_by_blanks : goal.returns-then-is_followed_by_blanks
returns-then-is_followed_by_blanks c =
    let boundary : List ℕ = c.args.boundary.now in
    let line : List ℕ = c.args.line.now in
    let rest : behind (ascii "--" ++ boundary) line ≡ Some c.in_ok-rest.rest.now = sym c.behind_boundary.ensures ∙ ap option_copied (c.in_ok-rest.was {u = tt}) in
    sym (kind-is boundary line c.in_ok-rest.rest.now false true rest (sym c.are_blanks.ensures ∙ c.if-are_blanks.false) (sym c.is_followed_by_blanks.ensures ∙ c.if-is_followed_by_blanks.true))

pub returns : goal.returns
returns c =
    let boundary : List ℕ = c.args.boundary.now in
    let line : List ℕ = c.args.line.now in
    let rest : behind (ascii "--" ++ boundary) line ≡ Some c.in_ok-rest.rest.now = sym c.behind_boundary.ensures ∙ ap option_copied (c.in_ok-rest.was {u = tt}) in
    sym (kind-is boundary line c.in_ok-rest.rest.now false false rest (sym c.are_blanks.ensures ∙ c.if-are_blanks.false) (sym c.is_followed_by_blanks.ensures ∙ c.if-is_followed_by_blanks.false))
