use Rattle.std.proofs.Common.{List, ap, sym, subst, ◌∙◌}
use Rattle.std.specs.Prelude.{AllPairs}
use Rattle.psi_tables.specs.Components.{AreApart}
use Rattle.psi_tables.proofs.DistinctLemmas.{components_apart}
use Rattle.psi_tables.specs.declared.components.Component.{Component}
use Rattle.psi_tables.proofs.ComponentLemmas.{begins, taking, goes_on_at, stays_small_at, starts_small, ends_at}
use Rattle.psi_tables.proofs.components.components.Goals as goal

pub loop-stream-init : goal.loop-stream-init
loop-stream-init c = record {
  so_far = begins c.args.streams.now ∙ ap (λ (taken : List Component). taking taken c.args.streams.now) (sym c.new-taken.ensures);
  room = starts_small c.new-taken.result.items c.new-taken.ensures;
}

pub loop-stream-preserved : goal.loop-stream-preserved
loop-stream-preserved c = record {
  so_far = goes_on_at c.loop-stream.taken.items c.add.new.taken.items c.loop-stream.stream-index c.args.streams.now _ c.component_of.result c.loop-stream-test.true c.component_of.ensures c.add.ensures c.loop-stream.invariant.so_far;
  room = stays_small_at c.loop-stream.taken.items c.add.new.taken.items c.component_of.result c.add.ensures c.loop-stream.invariant.room;
}

pub returns-clause-components : goal.returns-clause-components
returns-clause-components c = ends_at c.loop-stream.taken.items c.loop-stream.stream-index c.args.streams.now c.loop-stream-test.false c.loop-stream.invariant.room c.loop-stream.invariant.so_far

pub returns-clause-apart : goal.returns-clause-apart
returns-clause-apart c =
    let is = ends_at c.loop-stream.taken.items c.loop-stream.stream-index c.args.streams.now c.loop-stream-test.false c.loop-stream.invariant.room c.loop-stream.invariant.so_far in
    subst (AllPairs AreApart) (sym is) (components_apart c.args.streams.now)
