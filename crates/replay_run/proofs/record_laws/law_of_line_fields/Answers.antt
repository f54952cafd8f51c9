use Rattle.std.proofs.Common.{◌∙◌, ◌∷◌, ap}
use Rattle.replay_run.proofs.FieldLaws.{fields-blank, fields_first, fields_last, fields-nil}
use Rattle.replay_run.proofs.record_laws.law_of_line_fields.Goals as goal

pub returns-clause-blank : goal.returns-clause-blank
returns-clause-blank c = fields-blank

pub returns-clause-field : goal.returns-clause-field
returns-clause-field c = λ field line byte clear some blank. fields_first field byte line clear
    some blank ∙ ap (λ fs. field ∷ fs) (fields-blank byte line blank)

pub returns-clause-last : goal.returns-clause-last
returns-clause-last c = fields_last

pub returns-clause-nothing : goal.returns-clause-nothing
returns-clause-nothing c = fields-nil
