use Rattle.style_reader.specs.devices.Views.{is_code}
use Rattle.style_reader.proofs.PieceLemmas.{IsParted-found, position-none}
use Rattle.style_reader.proofs.pieces.split_at_code.Goals as goal

pub returns-in_err-place-clause-pieces : goal.returns-in_err-place-clause-pieces
returns-in_err-place-clause-pieces c = rw c.from_residual.ensures (position-none (is_code c.args.sought) c.args.text.now c.in_err-place.ensures)

pub returns-clause-pieces : goal.returns-clause-pieces
returns-clause-pieces c = IsParted-found (is_code c.args.sought) c.args.text.now c.in_ok-place.place c.in_ok-place.ensures
