use Rattle.std.proofs.Common.{◌≡◌, List, Option, ap, sym, ◌∙◌}
use Rattle.std.specs.Prelude.{Bool, true, false}
use Rattle.style_reader.specs.declared.properties.StyleValue.{StyleValue}
use Rattle.style_cascade.specs.devices.Marks.{has_mark}
use Rattle.style_cascade.specs.devices.Tables.{cell_of}
use Rattle.style_cascade.proofs.MarkLemmas.{cell-set, cell-unset}
use Rattle.style_cascade.proofs.values.Values.get.Goals as goal

pub returns-then-is_marked-clause-value : goal.returns-then-is_marked-clause-value
returns-then-is_marked-clause-value c =
    let marked : has_mark c.self.inside.marks.items c.mark_place-place.result ≡ true = sym (ap (λ (l : List Bool). has_mark l c.mark_place-place.result) c.deref.ensures.value) ∙ sym c.is_marked.ensures ∙ c.if-is_marked.true in
    c.get.ensures.value
    ∙ cell-set c.self.inside.nodes c.self.inside.marks.items c.self.inside.table c.args.node.0 c.args.state c.args.property c.mark_place-place.result c.mark_place-place.ensures.place marked
    ∙ ap (λ (cells : List (Option StyleValue)). cell_of cells c.args.node.0 c.args.state c.args.property) c.self.view_is

pub returns-else-is_marked-clause-value : goal.returns-else-is_marked-clause-value
returns-else-is_marked-clause-value c =
    let marked : has_mark c.self.inside.marks.items c.mark_place-place.result ≡ false = sym (ap (λ (l : List Bool). has_mark l c.mark_place-place.result) c.deref.ensures.value) ∙ sym c.is_marked.ensures ∙ c.if-is_marked.false in
    cell-unset c.self.inside.nodes c.self.inside.marks.items c.self.inside.table c.args.node.0 c.args.state c.args.property c.mark_place-place.result c.mark_place-place.ensures.place marked
    ∙ ap (λ (cells : List (Option StyleValue)). cell_of cells c.args.node.0 c.args.state c.args.property) c.self.view_is
