use Rattle.page.specs.Dispatches.{most_dispatches, turn}
use Rattle.page_laws.proofs.TurnLemmas.{as-many}
use Rattle.page_laws.proofs.laws.law_of_turns.Goals as goal

pub returns : goal.returns
unfolding turn
returns c s =
    let m = as-many most_dispatches s in
    record { count = m.count; made = m.made; most = m.fits; ends = m.ends }
