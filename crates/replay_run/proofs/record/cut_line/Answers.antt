use Rattle.std.proofs.Common.{◌≡◌, List, ℕ, false, ◌==◌, All, sym, ◌∙◌, ap, subst}
use Rattle.replay_run.specs.Record.{line_of}
use Rattle.replay_run.proofs.FirstPlaces.{first_place, no_place}
use Rattle.replay_run.proofs.CutLaws.{cut_ended, same_front}
use Rattle.replay_run.proofs.record.cut_line.Goals as goal

pub cut_open-requires : goal.cut_open-requires
cut_open-requires c =
    let P : List ℕ → Type 0 = All (λ byte. (byte == 10) ≡ false) in
    subst P (same_front (c.args.held.now) (c.min.result) (c.min.ensures))
    (no_place _ _ (sym (c.find_line_feed.ensures) ∙ c.in-None.is))

pub returns-in-Some : goal.returns-in-Some
returns-in-Some c =
    cut_ended _ _ _ _ _ _ _ (first_place _ _ _ (sym (c.find_line_feed.ensures) ∙ c.in-Some.is))
    (c.line_of.ensures ∙ ap line_of (c.without_return.ensures)) (c.of_line.ensures.noted)
    (c.of_line.ensures.good) (c.of_line.ensures.bad)
