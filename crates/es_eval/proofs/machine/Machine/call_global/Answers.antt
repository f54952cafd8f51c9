use Rattle.std.proofs.Common.{refl}
use Rattle.std.proofs.lemmas.List.Elements.{All-nil}
use Rattle.std.proofs.lemmas.Result.{IfOk-weaker}
use Rattle.es_values.specs.Heaps.{IsLive}
use Rattle.es_eval.proofs.ScriptLemmas.{global-called, global-stopped, global-unresolved}
use Rattle.es_eval.proofs.machine.Machine.call_global.Goals as goal

pub returns-in_default-clause-run : goal.returns-in_default-clause-run
returns-in_default-clause-run c =
    global-unresolved c.args.programs.now c.args.name.now c.args.self.now c.stopped.result
    c.in_ok-value.field-0 (c.in_ok-value.ensures c.args.programs.now) c.in_default.is c.stopped.ensures

pub returns-in_default-value : goal.returns-in_default-value
returns-in_default-value c = record {
  run = global-stopped c.args.programs.now c.args.name.now c.args.self.now
      c.stopped-in_default-value.result c.in-Some.value c.in_ok-value.field-0
      (c.in_ok-value.ensures c.args.programs.now)
      c.in-Some.is c.in_default-value.not-Function c.stopped-in_default-value.ensures;
  live = rw c.stopped-in_default-value.ensures (All-nil (IsLive c.args.self.now.heap));
  programs = refl;
}

pub returns-clause-run : goal.returns-clause-run
returns-clause-run c =
    IfOk-weaker c.call_number.result _ _
    (λ first on. global-called c.args.programs.now c.args.name.now c.args.self.now first
    c.in-Function.number c.in-Some.value c.in_ok-value.field-0 c.new-none.result.items
    c.call_number.new.self c.requires.lowest c.requires.idle
    (c.in_ok-value.ensures c.args.programs.now) c.in-Some.is
    c.in-Function.is c.new-none.ensures.items on)
    c.call_number.ensures.run
