use Rattle.std.proofs.Common.{◌≡◌, ◌+◌, ◌-◌, ◌==◌, List, ℕ, length, take, drop, ap, sym, ◌∙◌, length-drop}
use Rattle.std.proofs.Math.Seq.{take-length}
use Rattle.text_lines.proofs.CutLaws.{cut_first, uncut}
use Rattle.text_lines.proofs.cuts.cut_at.Goals as goal

pub returns-in_err-place-clause-cut : goal.returns-in_err-place-clause-cut
returns-in_err-place-clause-cut c =
    rw c.from_residual.ensures (uncut (λ other. other == c.args.byte) c.args.bytes.now (sym c.place_of.ensures ∙ c.in_err-place.was {u = tt}))

-- the bytes from a place on
behind : (bytes : List ℕ) (place : ℕ) → take (length bytes - place) (drop place bytes) ≡ drop place bytes
behind bytes place = ap (λ count. take count (drop place bytes)) (sym (length-drop place bytes)) ∙ take-length (drop place bytes)

pub returns-clause-cut : goal.returns-clause-cut
returns-clause-cut c =
    let found = cut_first (λ other. other == c.args.byte) c.args.bytes.now c.in_ok-place.place (sym c.place_of.ensures ∙ c.in_ok-place.was {u = tt}) in
    rw (behind c.args.bytes.now (c.in_ok-place.place + 1)) found.cut
