use Rattle.std.proofs.Common.{◌≡◌, ◌+◌, ◌<◌, length, take, drop, Some, ◌∙◌, sym, ap, arith}
use Rattle.std.specs.List.{before_first, position_or_len}
use Rattle.std.proofs.lemmas.List.{take_rest}
use Rattle.multipart_entities.specs.Lines.{without_blanks}
use Rattle.multipart_entities.specs.Heads.{is_colon, value_in}
use Rattle.multipart_entities.proofs.HeadLemmas.{header-front, header-none, header-some, header-same}
use Rattle.multipart_entities.proofs.heads.read_header.Goals as goal
use Rattle.multipart_entities.proofs.heads.read_header.Goals.{then-colon-eq0-via-then-colon-eq0, then-colon-eq0-via-else-colon-eq0+then-colon-line}

pub returns-then-colon-eq0 : goal.returns-then-colon-eq0
returns-then-colon-eq0 c =
    elim c.then-colon-eq0.branch [
      | then-colon-eq0-via-then-colon-eq0 w ↦ sym (header-front c.args.line.now (sym c.before_colon-colon.ensures.count ∙ w.if-colon-eq0.true))
      | then-colon-eq0-via-else-colon-eq0+then-colon-line w ↦ sym (header-none c.args.line.now (sym c.before_colon-colon.ensures.count ∙ w.if-colon-line.true))
    ]

pub returns : goal.returns
returns c =
    let line = c.args.line.now in
    let at : c.before_colon-colon.result ≡ position_or_len is_colon line = c.before_colon-colon.ensures.count in
    let low : 0 < position_or_len is_colon line = omega (arith, at) in
    let high : position_or_len is_colon line < length line = omega (arith, at) in
    let name : take c.before_colon-colon.result line ≡ before_first is_colon line = ap (λ n. take n line) at in
    let value : c.without_blanks.result.now ≡ value_in line = c.without_blanks.ensures ∙ (ap without_blanks (take_rest line (c.before_colon-colon.result + 1)) ∙ ap (λ n. without_blanks (drop (n + 1) line)) at) in
    ap Some (header-same (take c.before_colon-colon.result line) (before_first is_colon line) c.without_blanks.result.now (value_in line) name value) ∙ sym (header-some line low high)
