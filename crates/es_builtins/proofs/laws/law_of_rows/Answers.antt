use Rattle.es_builtins.proofs.RowLemmas.{HeapLaws, construction-kept, function-kept, method-kept}
use Rattle.es_builtins.proofs.laws.law_of_rows.Goals as goal

pub returns : goal.returns
returns c =
    let laws : HeapLaws = record {
      new = c.law_of_live_values.ensures.added;
      new_functions = c.law_of_functions.ensures.added;
      made = c.law_of_arrays.ensures.made;
      made_functions = c.law_of_array_functions.ensures.made;
      empty = c.law_of_arrays.ensures.empty;
      empty_functions = c.law_of_array_functions.ensures.empty;
      elements = c.law_of_arrays.ensures.elements;
      element_functions = c.law_of_array_functions.ensures.elements;
      set = c.law_of_arrays.ensures.set;
      set_functions = c.law_of_array_functions.ensures.set;
      turned = c.law_of_arrays.ensures.turned;
      turned_functions = c.law_of_array_functions.ensures.turned;
      date = c.law_of_new_dates.ensures.sound;
      date_functions = c.law_of_new_dates.ensures.functions;
    } in
    record {
      functions = λ heap number arguments sound live. function-kept laws heap sound number arguments live;
      constructions = λ heap number arguments sound live. construction-kept laws heap sound number arguments live;
      methods = λ heap base name arguments sound live all. method-kept laws heap sound base name arguments live;
    }
