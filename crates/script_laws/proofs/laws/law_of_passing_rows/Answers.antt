use Rattle.script_laws.proofs.RowLemmas.{construction-passes, function-passes, method-passes}
use Rattle.script_laws.proofs.laws.law_of_passing_rows.Goals as goal

pub returns : goal.returns
returns c = record {
  functions = λ good limit heap number arguments own passes all.
      function-passes good limit own heap passes number arguments all;
  constructions = λ good limit heap number arguments own passes all.
      construction-passes good limit own heap passes number arguments all;
  methods = λ good limit heap base name arguments own passes base_passes all.
      method-passes good limit own heap passes base name arguments base_passes;
}
