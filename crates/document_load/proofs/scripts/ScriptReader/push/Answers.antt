use Rattle.std.proofs.Common.{◌≡◌, ◌+◌, ◌∷◌, ◌++◌, [], map, Some, None, ◌∙◌, ap, subst}
use Rattle.document_load.specs.Scripts.{Source}
use Rattle.document_load.specs.ScriptViews.{told_handler}
use Rattle.document_load.specs.ScriptSteps.{IsSaidOf}
use Rattle.document_load.specs.declared.scripts.ScriptReader.{ScriptReader}
use Rattle.document_load.proofs.ScriptLemmas.{HasRead-good, HasRead-bad}
use Rattle.document_load.proofs.scripts.ScriptReader.push.Goals as goal
use Rattle.document_load.proofs.scripts.ScriptReader.push.Goals.{in-Some-2+in_ok-push_program-in-Some-2, in-None+in_ok-push-in-None}

pub returns : goal.returns
returns c sources h =
    let source : Source = record { node = c.args.node.0; handler = c.args.handler; text = c.args.text.now } in
    let old = c.args.self.now in
    let new : ScriptReader = record { alloc = c.match-branch-2.self.alloc; scripts = c.match-branch-2.self.scripts; count = c.in-Some.number } in
    let counted : new.count ≡ old.count + 1 = c.in-Some.ensures.1 in
    elim c.match-branch-2.branch [
      | in-Some-2+in_ok-push_program-in-Some-2 w ↦
          let said : IsSaidOf (Some w.in-Some-2.program) source.text = subst (λ o. IsSaidOf o source.text) w.in-Some-2.is c.in_ok-program.ensures in
          let pushed = w.in_ok-push_program-in-Some-2.ensures {u = tt} in
          HasRead-good old new sources source w.in-Some-2.program h said counted
          (ap (λ (r : ScriptReader). r.scripts.programs.items) w.self-is ∙ pushed.programs)
          (ap (λ (r : ScriptReader). r.scripts.elements.items) w.self-is ∙ pushed.elements)
          (ap (λ (r : ScriptReader). map told_handler r.scripts.handlers.items) w.self-is ∙ pushed.handlers)
          (ap (λ (r : ScriptReader). r.scripts.bad.items) w.self-is ∙ pushed.bad)
      | in-None+in_ok-push-in-None w ↦
          let said : IsSaidOf None source.text = subst (λ o. IsSaidOf o source.text) w.in-None.is c.in_ok-program.ensures in
          let pushed = w.in_ok-push-in-None.ensures {u = tt} in
          HasRead-bad old new sources source h said counted
          (ap (λ (r : ScriptReader). r.scripts.programs.items) w.self-is)
          (ap (λ (r : ScriptReader). r.scripts.elements.items) w.self-is)
          (ap (λ (r : ScriptReader). r.scripts.handlers.items) w.self-is)
          (ap (λ (r : ScriptReader). r.scripts.bad.items) w.self-is ∙ pushed.items ∙ ap (λ n. old.scripts.bad.items ++ n ∷ []) counted)
    ]
