use Rattle.style_reader.specs.devices.Views.{is_code}
use Rattle.style_reader.proofs.PieceLemmas.{pieces_from-some, slice_split-none}
use Rattle.style_reader.proofs.pieces.first_piece.Goals as goal

pub returns-in-Some-clause-pieces : goal.returns-in-Some-clause-pieces
returns-in-Some-clause-pieces c = pieces_from-some (is_code c.args.sought) c.args.text.now c.in-Some.piece.now c.in-Some.more.now (c.in-Some.ensures {u = tt}).pieces

pub returns-in-None-clause-pieces : goal.returns-in-None-clause-pieces
returns-in-None-clause-pieces c = slice_split-none (is_code c.args.sought) c.args.text.now (c.in-None.ensures {u = tt}).pieces
