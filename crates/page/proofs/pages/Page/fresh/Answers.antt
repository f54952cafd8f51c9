use Rattle.std.proofs.Common.{refl, [], rules}
use Rattle.page.proofs.MemoryLaws.{first_truly}
use Rattle.page.proofs.pages.Page.fresh.Goals as goal

pub returns-clause-stands : goal.returns-clause-stands
returns-clause-stands c = λ read right modules stands. record {
  modules_are = stands;
  reader = right;
  document = tt;
  wanted = refl;
  data_event = refl;
  current = tt;
  clock = refl;
  browser = search rules;
  happened = [];
  reached = refl;
  truly = first_truly c.in_ok-memory.memory (c.in_ok-memory.ensures {u = tt});
}
