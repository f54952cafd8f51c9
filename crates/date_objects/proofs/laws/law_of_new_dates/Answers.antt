use Rattle.date_objects.proofs.DateLemmas.{date-functions, date-sound}
use Rattle.date_objects.proofs.laws.law_of_new_dates.Goals as goal

pub returns : goal.returns
returns c = record {
  sound = date-sound;
  functions = date-functions;
}
