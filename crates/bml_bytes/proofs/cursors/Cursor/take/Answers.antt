use Rattle.std.proofs.Common.{sym}
use Rattle.bml_bytes.proofs.FieldLaws.{bytes_at-none, bytes_at-some}
use Rattle.bml_bytes.proofs.cursors.Cursor.take.Goals as goal

pub returns-then-self-count-clause-field : goal.returns-then-self-count-clause-field
returns-then-self-count-clause-field c = rw (← c.self.view_is) (sym (bytes_at-none c.args.count c.self.inside.left.now c.if-self-count.true))

pub returns-clause-field : goal.returns-clause-field
returns-clause-field c =
    rw (← c.self.view_is) (bytes_at-some c.args.count c.split_at.result.0.now c.split_at.result.1.now c.self.inside.left.now c.if-self-count.false c.split_at.ensures.front c.split_at.ensures.back)
