use Rattle.std.proofs.Common.{◌∙◌, ◌+◌, ◌≡◌, ◌++◌, ◌∷◌, [], length, ap, arith}
use Rattle.std.specs.Prelude.{nat_lt}
use Rattle.std.proofs.lemmas.Grind.{common_steps}
use Rattle.std.proofs.lemmas.List.{length_push}
use Rattle.es_builtins.proofs.FrontLemmas.{front_at-within, fronts-first, fronts-push, or_window, starts_behind, starts_from, window_at}
use Rattle.es_builtins.proofs.separators.fronts_of.Goals as goal

pub loop-place-init : goal.loop-place-init
loop-place-init c =
    let items : c.push.new.self.items ≡ length c.args.wanted.now ∷ [] = grind (arith, common_steps) in
    record {
      fronts = fronts-first c.args.wanted.now c.push.new.self.items items;
      count = ap length items;
      window = record { ordered = omega arith; within = omega arith; front = omega arith };
      from = omega arith;
      behind = omega arith;
    }

pub or_at-window-requires : goal.or_at-window-requires
or_at-window-requires c =
    omega (arith, c.front_at-size.ensures, front_at-within c.args.wanted.now c.args.wanted.now c.loop-place.place (omega arith))

pub loop-place-preserved : goal.loop-place-preserved
loop-place-preserved c =
    let wanted = c.args.wanted.now in
    let place = c.loop-place.place in
    let size = c.front_at-size.result in
    let e = c.front_at-size.ensures in
    let old = c.loop-place.invariant in
    let further = nat_lt c.loop-place.window.end (place + size) in
    let items : c.push-in-loop-place.new.self.items ≡ c.loop-place.fronts.items ++ size ∷ [] = (c.in_ok-push-2.ensures {u = tt}).items in
    record {
      fronts = fronts-push wanted c.loop-place.fronts.items c.push-in-loop-place.new.self.items place size old.fronts old.count e items;
      count = ap length items ∙ (length_push c.loop-place.fronts.items size ∙ ap (λ n. n + 1) old.count);
      window = or_window wanted wanted further c.or_at-window.result _ c.loop-place.window c.or_at-window.ensures (window_at wanted wanted place size e (omega arith)) old.window;
      from = starts_from further place (place + size) c.or_at-window.result c.loop-place.window c.or_at-window.ensures old.from (omega arith);
      behind = starts_behind further place (place + size) c.or_at-window.result c.loop-place.window c.or_at-window.ensures old.behind;
    }
