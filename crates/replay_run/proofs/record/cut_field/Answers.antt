use Rattle.std.proofs.Common.{sym, ◌∙◌, ap, ap₂, ◌∷◌}
use Rattle.replay_run.specs.Record.{fields}
use Rattle.replay_run.proofs.FirstPlaces.{first_place, no_place}
use Rattle.replay_run.proofs.FieldLaws.{fields_cut, fields_last, fields-nil}
use Rattle.replay_run.proofs.record.cut_field.Goals as goal

pub returns-in-None : goal.returns-in-None
returns-in-None c =
    fields_last (c.args.bytes.now) (no_place _ _ (sym (c.find_blank.ensures) ∙ c.in-None.is))
    (c.requires.some)
    ∙ ap (λ rest. c.args.bytes.now ∷ rest) (sym fields-nil)

pub returns-in-Some : goal.returns-in-Some
returns-in-Some c =
    fields_cut (c.args.bytes.now) (c.in-Some.end) (c.requires.field)
    (first_place _ _ _ (sym (c.find_blank.ensures) ∙ c.in-Some.is))
    ∙ ap₂ (λ field rest. field ∷ fields rest) (sym (c.split_at.ensures.front))
    (sym (c.split_at.ensures.back))
