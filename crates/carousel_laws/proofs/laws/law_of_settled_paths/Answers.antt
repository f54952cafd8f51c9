use Rattle.carousel_laws.proofs.RepeatLemmas.{ChangeLaws}
use Rattle.carousel_laws.proofs.LockLemmas.{look_step, start_step, told_deliveries}
use Rattle.carousel_laws.proofs.SectionLemmas.{stays_in_force}
use Rattle.carousel_laws.proofs.StoreLemmas.{after_its_own}
use Rattle.carousel_laws.proofs.laws.law_of_settled_paths.Goals as goal

pub returns : goal.returns
returns c =
    let laws : ChangeLaws = record {
      reading = c.law_of_messages.ensures;
      same = c.law_of_no_change.ensures.same;
      repeated = c.law_of_no_change.ensures.repeated;
      block = c.law_of_block_change.ensures;
      untold = c.law_of_same_modules.ensures;
      whole = c.law_of_completed_modules.ensures.whole;
    } in
    record {
      told = told_deliveries laws;
      looks = λ modules tag messages dii section path its is repeat. look_step laws modules tag messages dii section its is repeat path;
      start = start_step laws;
      messages = λ modules tag messages section its. after_its_own tag section modules.stored messages its;
      force = stays_in_force laws.reading;
    }
