use Rattle.std.proofs.Common.{sym, ◌∙◌}
use Rattle.multipart_entities.proofs.FormLemmas.{name_in-one, name_in-more}
use Rattle.multipart_entities.proofs.paths.name_of.Goals as goal

pub returns-in-None : goal.returns-in-None
returns-in-None c = c.short_name.ensures ∙ sym (name_in-one c.args.codes.now c.in-None.ensures)

pub returns-in-Some : goal.returns-in-Some
returns-in-Some c = sym (name_in-more c.args.codes.now _ c.in-Some.field-0.1.now c.in-Some.ensures)
