use Rattle.std.proofs.Common.{sym, ◌∙◌}
use Rattle.replay_run.proofs.FirstPlaces.{first_place, no_place}
use Rattle.replay_run.proofs.FieldLaws.{fields_skip, fields_none, begins_field}
use Rattle.replay_run.proofs.record.next_field.Goals as goal

pub cut_field-requires-clause-field : goal.cut_field-requires-clause-field
cut_field-requires-clause-field c = begins_field (c.args.line.now) (c.in-Some.start)
    (first_place _ _ _ (sym (c.find_field.ensures) ∙ c.in-Some.is))

pub returns-in-None : goal.returns-in-None
returns-in-None c = fields_none (c.args.line.now)
    (no_place _ _ (sym (c.find_field.ensures) ∙ c.in-None.is))

pub returns-in-Some : goal.returns-in-Some
returns-in-Some c = fields_skip (c.args.line.now) (c.in-Some.start)
    (first_place _ _ _ (sym (c.find_field.ensures) ∙ c.in-Some.is)) ∙ c.cut_field.ensures
