use Rattle.std.proofs.Common.{subst, sym, ap, arith, length, ℕ}
use Rattle.std.specs.Prelude.{slice_set}
use Rattle.style_cascade.specs.devices.Tables.{AreFitting}
use Rattle.style_cascade.proofs.PlaceLemmas.{AreFitting-put}
use Rattle.style_cascade.proofs.tables.Table.put.Goals as goal

pub invariant_of-self : goal.invariant_of-self
invariant_of-self c = subst (λ (i : ℕ). AreFitting (slice_set c.self.inside.cells.items i c.args.value)) (sym c.cell_place.ensures.place) (AreFitting-put c.self.inside.cells.items c.args.node.0 c.args.state c.args.property c.args.value (omega (arith, ap length c.self.view_is)) c.requires.fits c.self.invariant)
