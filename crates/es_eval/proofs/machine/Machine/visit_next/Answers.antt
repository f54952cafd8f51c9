use Rattle.std.proofs.Common.{◌≡◌, ◌∙◌, ◌<◌, ◌≤◌, length, get_or, rules, sym, subst, arith}
use Rattle.std.proofs.lemmas.Result.{IfOk-weaker}
use Rattle.es_eval.specs.devices.Machines.{IsLess}
use Rattle.es_eval.proofs.StatementArms.{visit-end, visit-on, visit-past}
use Rattle.es_eval.proofs.machine.Machine.visit_next.Goals as goal

pub has_property-requires : goal.has_property-requires
has_property-requires c = rw (c.names.invariant.machine, c.names.invariant.object) c.requires

pub visit_name-requires : goal.visit_name-requires
visit_name-requires c = rw (c.names.invariant.machine, c.names.invariant.object) c.requires

pub returns-then-has_property-clause-run : goal.returns-then-has_property-clause-run
returns-then-has_property-clause-run c =
    let inside : c.names.visit.next < length c.names.visit.names.items = search rules in
    let is : c.in_ok-name.name ≡ get_or c.names.visit.names.items c.names.visit.next c.in_ok-name.name =
    let i = c.index.ensures in let s = c.in_ok-name.ensures in search rules in
    IfOk-weaker c.visit_name.result _ _ (λ next on.
    visit-on c.args.programs.now c.names.self c.names.visit c.in_ok-name.name inside is
    c.args.self.now c.visit_name.new.self c.args.visit next c.names.invariant.machine
    c.names.invariant.run (sym c.has_property.ensures ∙ c.if-has_property.true) on)
    c.visit_name.ensures.run

pub returns-then-has_property-clause-less : goal.returns-then-has_property-clause-less
returns-then-has_property-clause-less c =
    IfOk-weaker c.visit_name.result _ _ (λ next less.
    subst (λ m. IsLess m c.visit_name.new.self next) c.names.invariant.machine less)
    c.visit_name.ensures.less

pub returns-clause-run : goal.returns-clause-run
returns-clause-run c =
    let past : length c.names.visit.names.items ≤ c.names.visit.next = search rules in
    visit-end c.args.programs.now c.names.self c.args.self.now c.names.visit c.args.visit
    c.names.invariant.machine c.names.invariant.run past

pub returns-clause-less : goal.returns-clause-less
returns-clause-less c = rw c.names.invariant.machine (omega arith)

pub names-preserved : goal.names-preserved
names-preserved c =
    let inside : c.names.visit.next < length c.names.visit.names.items = search rules in
    let is : c.in_ok-name.name ≡ get_or c.names.visit.names.items c.names.visit.next c.in_ok-name.name =
    let i = c.index.ensures in let s = c.in_ok-name.ensures in search rules in
    record {
      machine = c.names.invariant.machine;
      object = c.names.invariant.object;
      run = λ next. sym (visit-past c.args.programs.now c.names.self c.names.visit
          c.in_ok-name.name inside is next (sym c.has_property.ensures ∙ c.if-has_property.false))
          ∙ c.names.invariant.run next;
    }
