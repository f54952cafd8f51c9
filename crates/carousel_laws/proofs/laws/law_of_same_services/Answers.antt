use Rattle.carousel_laws.proofs.RepeatLemmas.{ChangeLaws}
use Rattle.carousel_laws.proofs.LockLemmas.{all_held_alike, locks_alike, look_ups_alike, presences_alike, start_paths_alike}
use Rattle.carousel_laws.proofs.laws.law_of_same_services.Goals as goal

pub returns : goal.returns
returns c =
    let laws : ChangeLaws = record {
      reading = c.law_of_messages.ensures;
      same = c.law_of_no_change.ensures.same;
      repeated = c.law_of_no_change.ensures.repeated;
      block = c.law_of_block_change.ensures;
      untold = c.law_of_same_modules.ensures;
      whole = c.law_of_completed_modules.ensures.whole;
    } in
    let order = c.law_of_block_order.ensures in
    record {
      locks = λ modules tag messages dii first second its repeats. locks_alike laws tag dii order modules messages first second its repeats;
      looks = λ modules tag messages dii first second path its repeats. look_ups_alike laws tag dii order modules messages first second its repeats path;
      start = λ modules tag messages dii first second its repeats. start_paths_alike laws tag dii order modules messages first second its repeats;
      presence = λ modules tag messages dii first second component number its repeats. presences_alike laws tag dii order modules messages first second its repeats component number;
      held = λ modules tag messages dii first second component number its repeats. all_held_alike laws tag dii order modules messages first second its repeats component number;
    }
