use Rattle.std.proofs.Common.{sym}
use Rattle.persistent_arrays.proofs.FieldLemmas.{field-size}
use Rattle.persistent_arrays.proofs.reading.value_at.Goals as goal

pub field_value-requires : goal.field_value-requires
field_value-requires c = field-size c.args.kind c.new-left.result c.in-Some.part.now c.field_at.new.bytes c.requires (sym c.in-Some.ensures)
