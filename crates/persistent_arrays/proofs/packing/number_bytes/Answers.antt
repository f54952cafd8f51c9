use Rattle.std.proofs.Common.{◌≡◌, ℕ, ◌-◌, ◌%◌, ◌^◌, ◌<◌, List, length, take, drop, Some, ap, ◌∙◌, arith, length-drop}
use Rattle.std.specs.Int.{w32, to_be_bytes, cast_unsigned}
use Rattle.std.proofs.lemmas.Int.{to_z-of_z}
use Rattle.std.proofs.lemmas.List.{take_all}
use Rattle.bml_bytes.specs.Numbers.{big_bytes}
use Rattle.persistent_arrays.specs.Packing.{within_array}
use Rattle.persistent_arrays.specs.Structures.{IsKind}
use Rattle.persistent_arrays.specs.declared.kinds.FieldKind.TheVariants.{Unsigned}
use Rattle.persistent_arrays.proofs.FieldLemmas.{low-bytes, small-size}
use Rattle.persistent_arrays.proofs.packing.number_bytes.Goals as goal

low : (size from number : ℕ) (all : List ℕ) → IsKind (Unsigned size) → number < 2 ^ 32 → all ≡ to_be_bytes w32 number → from ≡ size
    → take (4 - (4 - from)) (drop (4 - from) all) ≡ big_bytes size (number % 256 ^ size)
low size from number all kind fits a f =
    let small = small-size size kind in
    let four : length all ≡ 4 = ap length a in
    let left = length-drop (4 - from) all in
    let every : take (4 - (4 - from)) (drop (4 - from) all) ≡ drop (4 - from) all = take_all (4 - (4 - from)) (drop (4 - from) all) (omega arith) in
    every ∙ ap (λ (n : ℕ). drop (4 - n) all) f ∙ ap (drop (4 - size)) a ∙ low-bytes size number kind fits

pub returns : goal.returns
returns c =
    let number : ℕ = cast_unsigned w32 c.args.number in
    let bits : c.cast_unsigned-bits.result ≡ number = c.cast_unsigned-bits.ensures ∙ ap (cast_unsigned w32) (to_z-of_z w32 c.args.number c.ranges.number) in
    let below = c.cast_unsigned-bits.type_inv in
    let fits : number < 2 ^ 32 = omega arith in
    let all : c.to_be_bytes-all.result ≡ to_be_bytes w32 number = c.to_be_bytes-all.ensures ∙ ap (to_be_bytes w32) bits in
    c.bytes_in.ensures ∙ ap (λ (b : List ℕ). within_array (Some b)) (low c.args.size c.from.result number c.to_be_bytes-all.result c.requires fits all c.from.ensures)
