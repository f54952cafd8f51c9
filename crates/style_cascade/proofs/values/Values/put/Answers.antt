use Rattle.std.proofs.Common.{◌≡◌, ℕ, List, Option, Some, ap, arith, length, sym, ◌∙◌}
use Rattle.std.specs.Prelude.{true, slice_set}
use Rattle.style_reader.specs.declared.properties.StyleValue.{StyleValue}
use Rattle.style_cascade.specs.devices.Marks.{marked_cells}
use Rattle.style_cascade.specs.devices.Tables.{cell_place}
use Rattle.style_cascade.proofs.MarkLemmas.{length-marked, marked-put}
use Rattle.style_cascade.proofs.values.Values.put.Goals as goal

pub put-requires-clause-within : goal.put-requires-clause-within
put-requires-clause-within c =
    let same : length c.self.inside.table ≡ length c.args.self.now = sym (length-marked c.self.inside.nodes c.self.inside.marks.items 0 c.self.inside.table) ∙ ap length c.self.view_is in
    omega (arith, c.requires.within, same)

pub index_mut-requires : goal.index_mut-requires
index_mut-requires c =
    let same : length c.self.inside.table ≡ length c.args.self.now = sym (length-marked c.self.inside.nodes c.self.inside.marks.items 0 c.self.inside.table) ∙ ap length c.self.view_is in
    omega (arith, c.requires.within, same, c.mark_place-place.ensures.within, c.self.invariant.cell_count, c.self.invariant.mark_count, c.self.inside.marks.ok.0)

pub returns : goal.returns
returns c =
    let same : length c.self.inside.table ≡ length c.args.self.now = sym (length-marked c.self.inside.nodes c.self.inside.marks.items 0 c.self.inside.table) ∙ ap length c.self.view_is in
    ap (λ (cells : List (Option StyleValue)). marked_cells c.self.inside.nodes (slice_set c.self.inside.marks.items c.mark_place-place.result true) cells) c.put.ensures
    ∙ ap (λ (place : ℕ). marked_cells c.self.inside.nodes (slice_set c.self.inside.marks.items place true) (slice_set c.self.inside.table (cell_place c.args.node.0 c.args.state c.args.property) (Some c.args.value))) c.mark_place-place.ensures.place
    ∙ marked-put c.self.inside.nodes c.self.inside.marks.items c.self.inside.table c.args.node.0 c.args.state c.args.property c.args.value c.self.invariant (omega (arith, c.requires.within, same))
    ∙ ap (λ (cells : List (Option StyleValue)). slice_set cells (cell_place c.args.node.0 c.args.state c.args.property) (Some c.args.value)) c.self.view_is
