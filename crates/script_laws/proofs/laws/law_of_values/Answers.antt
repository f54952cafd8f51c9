use Rattle.script_laws.proofs.EndLemmas.{global-sound, program-sound}
use Rattle.script_laws.proofs.StateLemmas.{LiveLaws}
use Rattle.script_laws.proofs.laws.law_of_values.Goals as goal

pub returns : goal.returns
returns g c =
    let laws : LiveLaws = record {
      added = c.law_of_live_values.ensures.added;
      read = c.law_of_live_values.ensures.read;
      put = c.law_of_live_values.ensures.put;
      put_count = c.law_of_live_values.ensures.count;
      functions = c.law_of_rows.ensures.functions;
      constructions = c.law_of_rows.ensures.constructions;
      methods = c.law_of_rows.ensures.methods;
    } in
    record {
      programs = program-sound laws g.H.Host.reads g.H.Host.writes g.H.Host.calls;
      globals = global-sound laws g.H.Host.reads g.H.Host.writes g.H.Host.calls;
    }
