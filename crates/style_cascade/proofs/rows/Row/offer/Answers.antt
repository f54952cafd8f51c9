use Rattle.std.proofs.Common.{ℕ, List, Option, Some, ap, ◌∙◌, length-set}
use Rattle.std.specs.Prelude.{slice_set}
use Rattle.style_cascade.specs.devices.Indexing.{better_of}
use Rattle.style_cascade.specs.devices.Rows.{found_in}
use Rattle.style_cascade.specs.declared.rows.Found.{Found}
use Rattle.style_cascade.proofs.RowLemmas.{found_in-others, found_in-put}
use Rattle.style_cascade.proofs.rows.Row.offer.Goals as goal

pub invariant_of-self : goal.invariant_of-self
invariant_of-self c = length-set c.self.inside.cells.items c.row_place.result (Some c.better_of-best.result) ∙ c.self.invariant

pub returns-clause-here : goal.returns-clause-here
returns-clause-here c =
    ap (λ (i : ℕ). found_in (slice_set c.self.inside.cells.items i (Some c.better_of-best.result)) c.args.state c.args.property) c.row_place.ensures.place
    ∙ found_in-put c.self.inside.cells.items c.args.state c.args.property (Some c.better_of-best.result) c.self.invariant
    ∙ ap (λ (f : Found). Some f) (c.better_of-best.ensures ∙ ap (λ (o : Option Found). better_of o c.args.number c.args.candidate) c.get.ensures)

pub returns-clause-others : goal.returns-clause-others
returns-clause-others c = λ at of ne.
    ap (λ (i : ℕ). found_in (slice_set c.self.inside.cells.items i (Some c.better_of-best.result)) at of) c.row_place.ensures.place
    ∙ found_in-others c.self.inside.cells.items c.args.state at c.args.property of (Some c.better_of-best.result) ne
    ∙ ap (λ (cells : List (Option Found)). found_in cells at of) c.self.view_is
