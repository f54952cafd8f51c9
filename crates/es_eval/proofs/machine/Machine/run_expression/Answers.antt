use Rattle.std.proofs.Common.{refl}
use Rattle.std.proofs.lemmas.List.Elements.{All-nil}
use Rattle.es_values.specs.Heaps.{IsLive}
use Rattle.es_eval.specs.declared.works.StatementWork.TheVariants.{Discard}
use Rattle.es_eval.specs.Rows.{gives_normal}
use Rattle.es_eval.specs.Rows.Completion.{Normal}
use Rattle.es_eval.specs.devices.Works.{evaluates}
use Rattle.es_eval.proofs.HeldLemmas.{reached_given, reached_stop, reached_wait}
use Rattle.es_eval.proofs.RanLemmas.{both_ok}
use Rattle.es_eval.proofs.machine.Machine.run_expression.Goals as goal

pub returns-in-Value : goal.returns-in-Value
returns-in-Value c =
    let programs = c.args.programs.now in
    reached_given programs (evaluates programs c.args.code) gives_normal c.args.self.now
    c.reach.new.self c.in_ok-found.field-0 c.reach.new.held c.in-Value.found Normal
    c.in_ok-found.ensures c.in-Value.is refl (All-nil (IsLive c.reach.new.self.heap))

pub returns-in-Stopped : goal.returns-in-Stopped
returns-in-Stopped c =
    let programs = c.args.programs.now in
    reached_stop programs (evaluates programs c.args.code) gives_normal c.args.self.now
    c.reach.new.self c.in_ok-found.field-0 c.reach.new.held c.in-Stopped.cause
    c.in_ok-found.ensures c.in-Stopped.is

pub returns-in-Waits : goal.returns-in-Waits
returns-in-Waits c =
    let programs = c.args.programs.now in
    both_ok c.holds.result _ _ _
    (λ ran waits items. reached_wait programs (evaluates programs c.args.code) gives_normal
    c.args.self.now c.reach.new.self c.in_ok-found.field-0 c.reach.new.held c.holds.new.self
    Discard ran c.in_ok-found.ensures c.in-Waits.is waits c.holds.ensures.next items
    (λ value. refl) refl) c.holds.ensures.waits c.holds.ensures.items
