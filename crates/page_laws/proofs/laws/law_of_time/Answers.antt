use Rattle.std.proofs.Common.{ℕ, ◌+◌, List, [], arith}
use Rattle.es_reader.specs.Readers.{Reader}
use Rattle.psi_tables.specs.declared.services.Selection.{Selection}
use Rattle.module_locks.specs.Locks.{at_start, with_map, with_section}
use Rattle.psi_tables.specs.History.{map_of}
use Rattle.page.specs.State as page
use Rattle.receiver_core.specs.State.{opening}
use Rattle.page_laws.proofs.LaterPageLemmas.{changes-later, due_step-later, key_step-later, message_step-later, opening-later, turn-later}
use Rattle.page_laws.specs.Soundness.{IsSound}
use Rattle.page_laws.proofs.ReceiverLemmas.{PageLaws, behind-kept, time-kept}
use Rattle.page_laws.proofs.TickLemmas.{IsGoodPage, good-steps, next-later, time-clock}
use Rattle.page_laws.proofs.laws.law_of_time.Goals as goal

pub returns : goal.returns
returns c =
    let law = c.law_of_soundness.ensures in
    let few = c.law_of_few_locks.ensures in
    let steps : PageLaws IsSound = record {
      turns = law.turn;
      sections = λ component section p h.
          law.modules (with_section component section p.modules) p h
          (few.sections p.modules component section h.locks);
      maps = λ components p h. law.modules (with_map components p.modules) p h h.locks;
      changes = law.changes;
      messages = law.messages;
      keys = law.keys;
      random = law.random;
      dates = law.dates;
      due = λ p h. law.due (p.clock + 1) p h;
      clock = λ p h none. law.clock (p.clock + 1) p h;
    } in
    let first : (read : Reader) (selection : Selection) (area : List ℕ)
    → IsSound (opening read selection area).page =
    λ read selection area. law.modules (with_map (map_of selection []) at_start)
    (page.opening read area) (law.opening read area) (omega arith) in
    record {
      later = next-later;
      opening = opening-later;
      turn = turn-later;
      modules = λ modules s later. later;
      changes = changes-later;
      messages = message_step-later;
      keys = key_step-later;
      random = λ word s later. later;
      dates = λ day second s later. later;
      due = due_step-later;
      ticks = λ count s sound later.
          (time-kept IsGoodPage (good-steps steps) count s (sound, later)).1;
      clock = time-clock;
      receivers = λ read selection area inputs.
          (behind-kept IsGoodPage (good-steps steps) inputs (opening read selection area)
          (first read selection area, opening-later read area)).1;
    }
