use Rattle.std.proofs.Common.{ℕ, List, []}
use Rattle.es_reader.specs.Readers.{Reader}
use Rattle.psi_tables.specs.declared.services.Selection.{Selection}
use Rattle.receiver_core.specs.Outputs.{state_behind}
use Rattle.receiver_core.specs.State.{opening}
use Rattle.page_laws.proofs.CountedPageLemmas.{PageCounted, counted-steps, first-counted-page, page-counted}
use Rattle.page_laws.proofs.ReceiverLemmas.{behind-kept}
use Rattle.page_laws.proofs.counts.law_of_timer_events.Goals as goal

pub returns : goal.returns
returns c read selection area inputs =
    page-counted (state_behind (opening read selection area) inputs).page
    (behind-kept PageCounted counted-steps inputs (opening read selection area)
    (first-counted-page read selection area))
