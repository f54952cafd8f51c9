use Rattle.nv_journal.proofs.Loaded.{area-loads, area-due, area-loaded, none-loads}
use Rattle.nv_journal.proofs.journals.load_by.Goals as goal

pub returns-in-None-clause-content : goal.returns-in-None-clause-content
returns-in-None-clause-content g c = none-loads c.args.found _ _ c.requires.due

pub returns-in-Some-clause-content : goal.returns-in-Some-clause-content
returns-in-Some-clause-content g c = area-loads c.args.found _ _ _ _ _ c.requires.due c.read_area.ensures.content

pub returns-in-Some-clause-due : goal.returns-in-Some-clause-due
returns-in-Some-clause-due g c = area-due c.args.found _ _ _ _ _ c.requires.due c.read_area.ensures.content

pub returns-in-Some-clause-loaded : goal.returns-in-Some-clause-loaded
returns-in-Some-clause-loaded g c = area-loaded c.args.found _ _ _ _ _ _ c.in-Some.is c.read_area.ensures.full c.requires.due c.read_area.ensures.content c.read_area.ensures.length
