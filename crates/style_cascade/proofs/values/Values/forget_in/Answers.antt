use Rattle.std.proofs.Common.{◌≡◌, ℕ, ◌+◌, ◌-◌, List, Option, arith, subst, sym}
use Rattle.std.proofs.lemmas.List.{with_items_is}
use Rattle.std.specs.Prelude.{Bool, min}
use Rattle.std.specs.Vec.{with_items}
use Rattle.style_reader.specs.declared.properties.StyleValue.{StyleValue}
use Rattle.style_cascade.specs.devices.Marks.{Unmarks, marked_cells}
use Rattle.style_cascade.specs.devices.Tables.{ForgetsIn}
use Rattle.style_cascade.proofs.MarkLemmas.{forgets-in, forgets-none}
use Rattle.style_cascade.proofs.values.Values.forget_in.Goals as goal

pub returns-then-first-last : goal.returns-then-first-last
returns-then-first-last c =
    let nodes : ℕ = c.self.inside.nodes in
    let cells : List (Option StyleValue) = c.self.inside.table in
    let old : List Bool = c.self.inside.marks.items in
    let new : List Bool = c.unmark.new.marks in
    let count : ℕ = c.min-last.result - c.args.first in
    let from_old = subst (λ (l : List Bool). Unmarks l new c.mark_place-from.result (c.mark_place-from.result + count)) c.deref_mut.ensures.value c.unmark.ensures in
    let unmarks = subst (λ (n : ℕ). Unmarks old new n (n + count)) c.mark_place-from.ensures.place from_old in
    let items : (with_items c.self.inside.marks new).items ≡ new = with_items_is c.self.inside.marks new (omega (arith, from_old.long, c.self.inside.marks.ok.0)) in
    let last : c.min-last.result ≡ min c.args.end nodes = omega (arith, c.min-last.ensures) in
    subst (λ (l : List (Option StyleValue)). ForgetsIn l (marked_cells nodes (with_items c.self.inside.marks new).items cells) c.args.state c.args.property c.args.first c.args.end) c.self.view_is
    (subst (λ (l : List Bool). ForgetsIn (marked_cells nodes old cells) (marked_cells nodes l cells) c.args.state c.args.property c.args.first c.args.end) (sym items)
    (forgets-in nodes old new cells c.args.state c.args.property c.args.first c.args.end c.min-last.result c.self.invariant.cell_count last c.if-first-last.true unmarks))

pub returns-else-first-last : goal.returns-else-first-last
returns-else-first-last c =
    let nodes : ℕ = c.self.inside.nodes in
    let last : c.min-last.result ≡ min c.args.end nodes = omega (arith, c.min-last.ensures) in
    subst (λ (l : List (Option StyleValue)). ForgetsIn l l c.args.state c.args.property c.args.first c.args.end) c.self.view_is
    (forgets-none nodes c.self.inside.marks.items c.self.inside.table c.args.state c.args.property c.args.first c.args.end c.min-last.result c.self.invariant.cell_count last c.if-first-last.false)
