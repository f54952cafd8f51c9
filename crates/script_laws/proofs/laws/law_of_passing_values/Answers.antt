use Rattle.script_laws.proofs.RunLemmas.{global-within, place-within, program-within}
use Rattle.script_laws.proofs.StateLemmas.{LiveLaws}
use Rattle.script_laws.proofs.laws.law_of_passing_values.Goals as goal

pub returns : goal.returns
returns c =
    let laws : LiveLaws = record {
      added = c.law_of_live_values.ensures.added;
      read = c.law_of_live_values.ensures.read;
      put = c.law_of_live_values.ensures.put;
      put_count = c.law_of_live_values.ensures.count;
      functions = c.law_of_rows.ensures.functions;
      constructions = c.law_of_rows.ensures.constructions;
      methods = c.law_of_rows.ensures.methods;
    } in
    record {
      programs = λ good. program-within laws good;
      places = λ good. place-within laws good;
      globals = λ good. global-within laws good;
    }
