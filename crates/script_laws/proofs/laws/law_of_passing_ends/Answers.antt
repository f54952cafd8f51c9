use Rattle.script_laws.proofs.EndLemmas.{ends-pass}
use Rattle.script_laws.proofs.laws.law_of_passing_ends.Goals as goal

pub returns : goal.returns
returns g c = record { runs = ends-pass g.H.Host.reads g.H.Host.writes g.H.Host.calls }
