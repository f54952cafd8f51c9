use Rattle.std.proofs.Common.{sym, ◌∙◌}
use Rattle.es_eval.proofs.FoundLemmas.{held-global, held-slot}
use Rattle.es_eval.proofs.machine.Machine.held_value.Goals as goal

pub returns-in-Ok-Some : goal.returns-in-Ok-Some
returns-in-Ok-Some c =
    rw (← c.self.view_is)
    (held-slot c.args.programs.now (record {
      globals = c.self.inside.globals;
      heap = c.self.inside.heap;
      frames = c.self.inside.frames;
      left = c.self.inside.steps.left;
    }) c.args.name.now c.in-Ok-Some.place c.slot.result
    (rw (← c.self.view_is) at (sym c.in-Ok-Some.ensures ∙ c.in-Ok-Some.field-0-is)) c.slot.ensures)

pub returns-in-Ok-None : goal.returns-in-Ok-None
returns-in-Ok-None c =
    rw (← c.self.view_is)
    (held-global c.args.programs.now (record {
      globals = c.self.inside.globals;
      heap = c.self.inside.heap;
      frames = c.self.inside.frames;
      left = c.self.inside.steps.left;
    }) c.args.name.now c.get.result
    (rw (← c.self.view_is) at (sym c.in-Ok-None.ensures ∙ c.in-Ok-None.field-0-is)) c.get.ensures.value)
