use Rattle.std.proofs.Common.{◌∙◌, true, false, arith, refl, rules}
use Rattle.page.specs.Dispatches.{dispatch}
use Rattle.page.proofs.PageLaws.{may_make, turn_begins, turn_ends, turn_ends_remembering, turn_goes, turn_stops, turn_stops_remembering}
use Rattle.page.proofs.pages.Page.make_dispatches.Goals as goal

pub dispatches-init : goal.dispatches-init
dispatches-init c = record {
  turning = turn_begins c.args.modules.now c.args.self.now c.args.out.now.items;
  clock = refl;
}

pub returns-then-not-branch-clause-turned : goal.returns-then-not-branch-clause-turned
returns-then-not-branch-clause-turned c =
    turn_stops c.args.modules.now c.dispatches.modules c.dispatch.new.modules c.dispatches._dispatch c.args.self.now c.dispatches.self c.dispatch.new.self c.args.out.now.items c.dispatches.out.items c.dispatch.new.out.items (omega arith) c.dispatches.invariant.turning
    (may_make c.in_ok-dispatch.field-0 false c.dispatches.modules c.dispatch.new.modules dispatch c.dispatches.self c.dispatch.new.self c.dispatches.out.items c.dispatch.new.out.items (search rules) c.in_ok-dispatch.ensures.made)

pub dispatches-preserved : goal.dispatches-preserved
dispatches-preserved c = record {
  turning =
      turn_goes c.args.modules.now c.dispatches.modules c.dispatch.new.modules c.dispatches._dispatch c.args.self.now c.dispatches.self c.dispatch.new.self c.args.out.now.items c.dispatches.out.items c.dispatch.new.out.items (omega arith) c.dispatches.invariant.turning
      (may_make c.in_ok-dispatch.field-0 true c.dispatches.modules c.dispatch.new.modules dispatch c.dispatches.self c.dispatch.new.self c.dispatches.out.items c.dispatch.new.out.items (search rules) c.in_ok-dispatch.ensures.made)
      c.in_ok-dispatch.ensures.remembers;
  clock = c.dispatch.ensures.clock ∙ c.dispatches.invariant.clock;
}

pub returns-clause-turned : goal.returns-clause-turned
returns-clause-turned c = turn_ends c.args.modules.now c.dispatches.modules c.dispatches._dispatch c.args.self.now c.dispatches.self c.args.out.now.items c.dispatches.out.items (omega arith) c.dispatches.invariant.turning

pub returns-then-not-branch-clause-remembers : goal.returns-then-not-branch-clause-remembers
returns-then-not-branch-clause-remembers c =
    turn_stops_remembering c.args.modules.now c.dispatches.modules c.dispatch.new.modules c.dispatches._dispatch c.args.self.now c.dispatches.self c.dispatch.new.self c.args.out.now.items c.dispatches.out.items c.dispatch.new.out.items (omega arith) c.dispatches.invariant.turning
    (may_make c.in_ok-dispatch.field-0 false c.dispatches.modules c.dispatch.new.modules dispatch c.dispatches.self c.dispatch.new.self c.dispatches.out.items c.dispatch.new.out.items (search rules) c.in_ok-dispatch.ensures.made)
    c.in_ok-dispatch.ensures.remembers

pub returns-clause-remembers : goal.returns-clause-remembers
returns-clause-remembers c = turn_ends_remembering c.args.modules.now c.dispatches.modules c.dispatches._dispatch c.args.self.now c.dispatches.self c.args.out.now.items c.dispatches.out.items (omega arith) c.dispatches.invariant.turning
