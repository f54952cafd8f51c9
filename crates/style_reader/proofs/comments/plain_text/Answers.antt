use Rattle.std.proofs.Common.{◌≡◌, List, ℕ, [], ◌++◌, false, ◌∙◌, sym, ap, append-nil}
use Rattle.style_reader.specs.Readings.{plain_from}
use Rattle.style_reader.proofs.CommentSteps.{plain-end}
use Rattle.style_reader.proofs.comments.plain_text.Goals as goal

pub returns : goal.returns
returns c =
    let plain : List ℕ = c.codes.plain.items in
    let nothing : c.codes.rest.now ≡ [] = (c.in_default.ensures {u = tt}).read in
    let rest = ap (plain_from false) nothing ∙ plain-end false in
    sym (append-nil plain) ∙ (ap (λ (z : List ℕ). plain ++ z) (sym rest) ∙ c.codes.invariant)
