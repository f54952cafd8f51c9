use Rattle.std.proofs.Common.{sym}
use Rattle.persistent_arrays.proofs.FieldLemmas.{field-size}
use Rattle.persistent_arrays.proofs.reading.Unpacker.next.Goals as goal

pub field_value-requires : goal.field_value-requires
field_value-requires c = field-size c.args.kind c.args.self.now.bytes c.in-Some.bytes.now c.field_at.new.bytes c.requires (sym c.in-Some.ensures)
