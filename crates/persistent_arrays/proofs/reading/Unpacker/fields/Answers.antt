use Rattle.std.proofs.Common.{◌≡◌, List, [], ◌++◌, Option, Some, None, refl, ap, ◌∙◌}
use Rattle.std.specs.Prelude.{option_map}
use Rattle.persistent_arrays.specs.declared.fields.Field.{Field}
use Rattle.persistent_arrays.specs.devices.Unpackers.{unpacked_behind}
use Rattle.persistent_arrays.proofs.reading.Unpacker.fields.Goals as goal

nothing : (found : Option (List Field)) → option_map (λ rest. [] ++ rest) found ≡ found
nothing None = refl
nothing (Some rest) = refl

start : (front : List Field) (found : Option (List Field)) → front ≡ [] → option_map (λ rest. front ++ rest) found ≡ found
start front found e = ap (λ (l : List Field). option_map (λ rest. l ++ rest) found) e ∙ nothing found

pub fields-init : goal.fields-init
fields-init c = start c.new-fields.result.items (unpacked_behind c.args.self.now.bits.items c.args.kinds.now c.args.self.now.bytes) c.new-fields.ensures.items
