use Rattle.std.proofs.Common.{◌∙◌, ◌+◌, sym, arith}
use Rattle.std.specs.Prelude.{nat_lt}
use Rattle.es_builtins.proofs.FrontLemmas.{found-front, front_at-le, front_at-within, missed-front, none-left, or_window, starts_behind, window_at}
use Rattle.es_builtins.proofs.separators.separator_place.Goals as goal

pub front_at-size-requires-clause-known : goal.front_at-size-requires-clause-known
front_at-size-requires-clause-known c = λ h.
    let w = c.loop-place.invariant.window in
    omega (arith, h, w.front, w.ordered, front_at-le c.args.wanted.now c.args.text.now c.loop-place.window.start, c.requires.all)

pub returns-then-size-wanted-clause-place : goal.returns-then-size-wanted-clause-place
returns-then-size-wanted-clause-place c =
    sym (found-front c.args.wanted.now c.args.text.now c.loop-place.place c.front_at-size.result c.front_at-size.ensures (omega arith) (omega arith)) ∙ c.loop-place.invariant.misses

pub returns-then-size-wanted-clause-within : goal.returns-then-size-wanted-clause-within
returns-then-size-wanted-clause-within c =
    omega (arith, c.front_at-size.ensures, front_at-within c.args.wanted.now c.args.text.now c.loop-place.place (omega arith))

pub or_at-window-requires : goal.or_at-window-requires
or_at-window-requires c =
    omega (arith, c.front_at-size.ensures, front_at-within c.args.wanted.now c.args.text.now c.loop-place.place (omega arith))

pub loop-place-preserved : goal.loop-place-preserved
loop-place-preserved c =
    let place = c.loop-place.place in
    let size = c.front_at-size.result in
    let e = c.front_at-size.ensures in
    record {
      window = or_window c.args.wanted.now c.args.text.now (nat_lt c.loop-place.window.end (place + size)) c.or_at-window.result _ c.loop-place.window c.or_at-window.ensures (window_at c.args.wanted.now c.args.text.now place size e (omega arith)) c.loop-place.invariant.window;
      behind = starts_behind (nat_lt c.loop-place.window.end (place + size)) place (place + size) c.or_at-window.result c.loop-place.window c.or_at-window.ensures c.loop-place.invariant.behind;
      misses = sym (missed-front c.args.wanted.now c.args.text.now place size e (λ whole. absurd (omega arith))) ∙ c.loop-place.invariant.misses;
    }

pub returns-clause-place : goal.returns-clause-place
returns-clause-place c =
    sym (none-left c.args.wanted.now c.args.text.now c.loop-place.place c.requires.some (omega arith)) ∙ c.loop-place.invariant.misses
