use Rattle.std.proofs.Common.{nat_eq, ap, ◌∙◌, List, ℕ}
use Rattle.std.specs.Char.{to_ascii_lowercase}
use Rattle.std.specs.List.{list_all, zip}
use Rattle.bml_bytes.proofs.WordLaws.{same_in_any_case-by_pairs}
use Rattle.bml_bytes.proofs.words.is_word_in_any_case.Goals as goal

pub returns-then-codes-word : goal.returns-then-codes-word
returns-then-codes-word c =
    c.agree_in_any_case.ensures
    ∙ ap (λ (bytes : List ℕ). list_all (λ pair. nat_eq (to_ascii_lowercase pair.0) (to_ascii_lowercase pair.1)) (zip c.args.codes.now bytes)) c.as_bytes.ensures.value
    ∙ same_in_any_case-by_pairs c.args.codes.now c.args.word.now c.if-codes-word.true
