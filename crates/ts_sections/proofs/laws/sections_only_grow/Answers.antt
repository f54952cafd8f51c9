use Rattle.ts_sections.proofs.GrowthLemmas.{sections-completed}
use Rattle.ts_sections.proofs.laws.sections_only_grow.Goals as goal

pub returns : goal.returns
returns c = sections-completed
