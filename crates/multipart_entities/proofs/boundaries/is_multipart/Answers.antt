use Rattle.std.proofs.Common.{◌≡◌, List, ℕ, length, take, min, ◌∙◌, ap}
use Rattle.std.specs.Prelude.{codes as ascii}
use Rattle.std.specs.Str.{str_eq_ignore_ascii_case}
use Rattle.std.proofs.lemmas.List.{take_min}
use Rattle.std.proofs.Math.Nat.{min_comm}
use Rattle.multipart_entities.specs.Boundaries.{is_multipart}
use Rattle.multipart_entities.proofs.boundaries.is_multipart.Goals as goal

pub returns : goal.returns
unfolding is_multipart
returns c =
    let media : List ℕ = c.args.media.now in
    let size : c.min-size.result ≡ min 15 (length media) = c.min-size.ensures ∙ min_comm (length media) 15 in
    c.is_same_text.ensures ∙ ap (λ (l : List ℕ). str_eq_ignore_ascii_case l (ascii "multipart/mixed")) (ap (λ n. take n media) size ∙ take_min 15 media)
