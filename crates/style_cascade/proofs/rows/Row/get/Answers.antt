use Rattle.style_cascade.proofs.RowLemmas.{found_in-past, found_in-some}
use Rattle.std.proofs.Common.{◌∙◌}
use Rattle.style_cascade.proofs.rows.Row.get.Goals as goal

pub returns-in-Some : goal.returns-in-Some
returns-in-Some c =
    let read = (c.in-Some.ensures {u = tt}).lookup in
    found_in-some c.deref.result.now c.args.self.now c.row_place.result c.args.state c.args.property c.in-Some.found.now (c.deref.ensures.value ∙ c.self.view_is) c.row_place.ensures.place read.3.0 read.1

pub returns-in-None : goal.returns-in-None
returns-in-None c =
    let read = (c.in-None.ensures {u = tt}).lookup in
    found_in-past c.deref.result.now c.args.self.now c.row_place.result c.args.state c.args.property (c.deref.ensures.value ∙ c.self.view_is) c.row_place.ensures.place read.3
