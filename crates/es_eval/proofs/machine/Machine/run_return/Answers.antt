use Rattle.std.proofs.Common.{refl}
use Rattle.es_eval.specs.declared.works.StatementWork.TheVariants.{Return}
use Rattle.es_eval.specs.Actions.{gives}
use Rattle.es_eval.specs.Rows.Completion.{Returned}
use Rattle.es_eval.specs.devices.Works.{evaluates}
use Rattle.es_eval.proofs.HeldLemmas.{reached_given, reached_stop, reached_wait}
use Rattle.es_eval.proofs.RanLemmas.{both_ok, reached_live}
use Rattle.es_eval.proofs.machine.Machine.run_return.Goals as goal

pub returns-in-Value : goal.returns-in-Value
returns-in-Value c =
    let programs = c.args.programs.now in
    reached_given programs (evaluates programs c.args.code) (λ value. gives (Returned value))
    c.args.self.now c.reach.new.self c.in_ok-found.field-0 c.reach.new.held c.in-Value.found
    (Returned c.in-Value.found) c.in_ok-found.ensures c.in-Value.is refl
    (reached_live programs (evaluates programs c.args.code) c.args.self.now c.reach.new.self
    c.in_ok-found.field-0 c.reach.new.held c.in-Value.found c.in_ok-found.ensures c.in-Value.is)

pub returns-in-Stopped : goal.returns-in-Stopped
returns-in-Stopped c =
    let programs = c.args.programs.now in
    reached_stop programs (evaluates programs c.args.code) (λ value. gives (Returned value))
    c.args.self.now c.reach.new.self c.in_ok-found.field-0 c.reach.new.held c.in-Stopped.cause
    c.in_ok-found.ensures c.in-Stopped.is

pub returns-in-Waits : goal.returns-in-Waits
returns-in-Waits c =
    let programs = c.args.programs.now in
    both_ok c.holds.result _ _ _
    (λ ran waits items. reached_wait programs (evaluates programs c.args.code)
    (λ value. gives (Returned value)) c.args.self.now c.reach.new.self c.in_ok-found.field-0
    c.reach.new.held c.holds.new.self Return ran c.in_ok-found.ensures c.in-Waits.is waits
    c.holds.ensures.next items (λ value. refl) refl) c.holds.ensures.waits c.holds.ensures.items
