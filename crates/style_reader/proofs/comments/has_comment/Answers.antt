use Rattle.std.proofs.Common.{◌≡◌, ℕ, List, [], ◌∷◌, length, false, refl, ap, sym, ◌∙◌, arith}
use Rattle.style_reader.specs.Readings.{plain_from}
use Rattle.style_reader.proofs.CommentSteps.{plain-end}
use Rattle.style_reader.proofs.comments.has_comment.Goals as goal

empty : (xs : List ℕ) → length xs ≡ 0 → xs ≡ []
empty [] e = refl
empty (x ∷ xs) e = absurd (omega (arith, e))

pub returns : goal.returns
returns c = λ _.
    let nothing : c.codes.rest.now ≡ [] = empty c.codes.rest.now (c.in_default.ensures {u = tt}).cases in
    c.codes.invariant (ap (plain_from false) nothing ∙ plain-end false ∙ sym nothing)
