use Rattle.std.proofs.Common.{◌∙◌, ◌≡◌, ◌-◌, ◌+◌, drop, ap, arith}
use Rattle.std.proofs.lemmas.List.{take_rest}
use Rattle.es_builtins.specs.Fronts.{common_front}
use Rattle.es_builtins.proofs.FrontLemmas.{front_at-known, front_at-on, front_at-within}
use Rattle.es_builtins.proofs.separators.front_at.Goals as goal

pub returns-then-known-seen : goal.returns-then-known-seen
returns-then-known-seen c =
    let w = c.args.window in
    let inside = c.requires.known c.if-place-window.false in
    front_at-known c.args.wanted.now c.args.text.now w.start w.end c.args.place _ c.requires.window c.requires.behind (omega arith) (c.requires.fronts.each (c.args.place - w.start) inside) c.if-known-seen.true

pub returns : goal.returns
returns c =
    let w = c.args.window in
    let inside = c.requires.known c.if-place-window.false in
    let behind : c.common_front-2.result ≡ common_front (drop (w.end - c.args.place) c.args.wanted.now) (drop w.end c.args.text.now) = simp take_rest at c.common_front-2.ensures in
    ap (λ n. w.end - c.args.place + n) behind
    ∙ front_at-on c.args.wanted.now c.args.text.now w.start w.end c.args.place _ c.requires.window c.requires.behind (omega arith) (c.requires.fronts.each (c.args.place - w.start) inside) c.if-known-seen.false

pub overflow_add-result : goal.overflow_add-result
overflow_add-result c =
    let w = c.args.window in
    let inside = c.requires.known c.if-place-window.false in
    let behind : c.common_front-2.result ≡ common_front (drop (w.end - c.args.place) c.args.wanted.now) (drop w.end c.args.text.now) = simp take_rest at c.common_front-2.ensures in
    let on = front_at-on c.args.wanted.now c.args.text.now w.start w.end c.args.place _ c.requires.window c.requires.behind (omega arith) (c.requires.fronts.each (c.args.place - w.start) inside) c.if-known-seen.false in
    omega (arith, behind, on, front_at-within c.args.wanted.now c.args.text.now c.args.place c.requires.place)
