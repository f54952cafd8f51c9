use Rattle.std.proofs.Common.{sym, ◌∙◌}
use Rattle.multipart_entities.proofs.RootLemmas.{path_of_text-none, path_of_text-root}
use Rattle.multipart_entities.proofs.paths.found_path.Goals as goal

pub returns-in-None : goal.returns-in-None
returns-in-None c = c.relative_path.ensures ∙ sym (path_of_text-none c.args.base.now c.args.codes.now c.in-None.ensures)

pub returns-in-Some : goal.returns-in-Some
returns-in-Some c = c.component_path.ensures ∙ sym (path_of_text-root c.args.base.now c.args.codes.now c.in-Some.rest.now c.in-Some.ensures)
