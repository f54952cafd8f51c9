use Rattle.std.proofs.Common.{◌≡◌, List, Option, ap, sym, ◌∙◌}
use Rattle.style_reader.specs.declared.properties.StyleValue.{StyleValue}
use Rattle.style_cascade.specs.devices.Tables.{cell_of}
use Rattle.style_cascade.proofs.PlaceLemmas.{cell_of-past, cell_of-some, fitting-some}
use Rattle.style_cascade.proofs.tables.Table.get.Goals as goal

value : (c : goal.After-result-1) → c.in-Some.value.now ≡ cell_of c.args.self.now c.args.node.0 c.args.state c.args.property
value c =
    let read = (c.in-Some.ensures {u = tt}).lookup in
    cell_of-some c.deref.result.now c.args.self.now c.cell_place.result c.args.node.0 c.args.state c.args.property c.in-Some.value.now (c.deref.ensures.value ∙ c.self.view_is) c.cell_place.ensures.place read.3.0 read.1

pub returns-in-Some-clause-value : goal.returns-in-Some-clause-value
returns-in-Some-clause-value c = value c

pub returns-in-Some-clause-fits : goal.returns-in-Some-clause-fits
returns-in-Some-clause-fits c = fitting-some c.self.inside.cells.items c.self.invariant c.args.node.0 c.args.state c.args.property c.in-Some.value.now (value c ∙ sym (ap (λ (cells : List (Option StyleValue)). cell_of cells c.args.node.0 c.args.state c.args.property) c.self.view_is))

pub returns-in-None-clause-value : goal.returns-in-None-clause-value
returns-in-None-clause-value c =
    let read = (c.in-None.ensures {u = tt}).lookup in
    cell_of-past c.deref.result.now c.args.self.now c.cell_place.result c.args.node.0 c.args.state c.args.property (c.deref.ensures.value ∙ c.self.view_is) c.cell_place.ensures.place read.3
