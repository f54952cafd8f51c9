use Rattle.std.proofs.Common.{refl, rules}
use Rattle.es_reader.proofs.function_fronts.front_of.Goals as goal

pub returns-clause-front : goal.returns-clause-front
returns-clause-front c = record {
  name_is = c.in_ok-share.ensures {u = tt};
  names = refl;
  count = search rules;
  behind_is = refl;
}
