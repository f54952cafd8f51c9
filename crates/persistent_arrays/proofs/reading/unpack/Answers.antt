use Rattle.std.proofs.Common.{◌≡◌, ℕ, Bool, List, [], Option, ap, subst, ◌∙◌}
use Rattle.std.specs.Prelude.{IfOk, option_map}
use Rattle.persistent_arrays.specs.Arrays.{array_in}
use Rattle.persistent_arrays.specs.Reading.{unpacked}
use Rattle.persistent_arrays.specs.declared.fields.Field.{Field}
use Rattle.persistent_arrays.specs.declared.kinds.FieldKind.{FieldKind}
use Rattle.persistent_arrays.specs.devices.Unpackers.{unpacked_behind}
use Rattle.persistent_arrays.proofs.RunLemmas.{unpacked-is}
use Rattle.persistent_arrays.proofs.reading.unpack.Goals as goal

start : (bits : List Bool) (kinds others : List FieldKind) (left bytes : List ℕ) → bits ≡ [] → kinds ≡ others → left ≡ bytes → unpacked_behind bits kinds left ≡ unpacked others bytes
start bits kinds others left bytes e f g =
    ap (λ (b : List Bool). unpacked_behind b kinds left) e ∙ ap (λ (k : List FieldKind). unpacked_behind [] k left) f ∙ ap (unpacked_behind [] others) g ∙ unpacked-is others bytes

pub returns : goal.returns
returns c =
    let same = start c.new.result.items c.kinds.result.now c.args.structure.now c.new-2.result (array_in c.args.area.now c.args.slot) c.new.ensures c.kinds.ensures.kinds (c.new-2.ensures.left ∙ c.array_of.ensures) in
    subst (λ (values : Option (List Field)). IfOk c.fields.result (λ found. option_map (λ fields. fields.items) found ≡ values)) same c.fields.ensures
