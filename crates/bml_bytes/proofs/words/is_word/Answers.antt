use Rattle.std.proofs.Common.{nat_eq, ap, ◌∙◌, List, ℕ}
use Rattle.std.specs.List.{list_all, zip}
use Rattle.bml_bytes.proofs.WordLaws.{same-by_pairs}
use Rattle.bml_bytes.proofs.words.is_word.Goals as goal

pub returns-then-codes-word : goal.returns-then-codes-word
returns-then-codes-word c =
    c.agree.ensures
    ∙ ap (λ (bytes : List ℕ). list_all (λ pair. nat_eq pair.0 pair.1) (zip c.args.codes.now bytes)) c.as_bytes.ensures.value
    ∙ same-by_pairs c.args.codes.now c.args.word.now c.if-codes-word.true
