use Rattle.page_laws.proofs.PageLemmas.{Laws, changes-sound, due_step-sound, key_step-sound, message_step-sound, opening-sound, turn-sound, with_clock-sound, with_modules-sound, with_date-sound, with_random-sound}
use Rattle.page_laws.proofs.laws.law_of_soundness.Goals as goal

pub returns : goal.returns
returns c =
    let laws : Laws = record {
      trees = record {
        texts = c.law_of_text_changes.ensures.places;
        attributes = c.law_of_attribute_changes.ensures.places;
        within = c.law_of_parents.ensures.within;
        before = c.law_of_parents.ensures.before;
      };
      one = c.law_of_nested_nodes.ensures.tree;
      readings = c.law_of_readings.ensures;
      items = c.law_of_event_items.ensures.nodes;
      programs = record {
        places = c.law_of_passing_values.ensures.places;
        globals = c.law_of_passing_values.ensures.globals;
      };
      hosts = record {
        few = record {
          locks = c.law_of_few_locks.ensures.locks;
          unlocks = c.law_of_few_locks.ensures.unlocks;
        };
        calls = record {
          answers = c.law_of_call_outcomes.ensures.answer;
          heaps = c.law_of_call_outcomes.ensures.heap;
          objects = c.law_of_new_objects.ensures;
          arrays = c.law_of_arrays.ensures.made;
          dates = c.law_of_new_dates.ensures.sound;
        };
      };
    } in
    record {
      opening = opening-sound;
      turn = turn-sound laws;
      modules = with_modules-sound;
      changes = changes-sound laws;
      messages = message_step-sound laws;
      keys = key_step-sound laws;
      due = due_step-sound laws;
      clock = with_clock-sound;
      random = with_random-sound;
      dates = with_date-sound;
    }
