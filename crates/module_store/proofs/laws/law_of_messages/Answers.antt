use Rattle.module_store.proofs.laws.law_of_messages.Goals as goal

pub returns : goal.returns
returns c = record {
  none = c.law_of_no_change.ensures.same;
  same = c.law_of_same_modules.ensures;
  new = c.law_of_new_entries.ensures;
  whole = c.law_of_completed_modules.ensures.whole;
  info = c.law_of_completed_modules.ensures.info;
  before = c.law_of_completed_modules.ensures.before;
  change = c.law_of_completed_modules.ensures.change;
}
