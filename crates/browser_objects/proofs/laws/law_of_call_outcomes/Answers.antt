use Rattle.browser_objects.proofs.OutcomeLemmas.{always-answer, always-kept}
use Rattle.browser_objects.proofs.laws.law_of_call_outcomes.Goals as goal

pub returns : goal.returns
returns c = record { answer = always-answer; heap = always-kept c.law_of_array_functions.ensures.made c.law_of_new_dates.ensures.functions }
