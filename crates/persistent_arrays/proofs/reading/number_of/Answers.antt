use Rattle.std.proofs.Common.{◌≡◌, ℕ, ◌+◌, ◌*◌, ◌<◌, List, [], ◌∷◌, ◌++◌, take, get_or, sym, ap, ◌∙◌, arith}
use Rattle.std.proofs.lemmas.List.{take_more}
use Rattle.bml_bytes.specs.Numbers.{big_number}
use Rattle.persistent_arrays.proofs.FieldLemmas.{next-small, nothing-read, power-three}
use Rattle.persistent_arrays.proofs.reading.number_of.Goals as goal

pub bytes-init : goal.bytes-init
bytes-init c = record { value = sym nothing-read; small = omega arith }

pub overflow_mul-number : goal.overflow_mul-number
overflow_mul-number c =
    let power = power-three c.bytes.byte-index (omega arith) in
    let small = c.bytes.invariant.small in
    omega arith

pub bytes-preserved : goal.bytes-preserved
bytes-preserved c =
    let front : List ℕ = take c.bytes.byte-index c.args.bytes.now in
    let byte : ℕ = get_or c.args.bytes.now c.bytes.byte-index 0 in
    let more : big_number (front ++ byte ∷ []) ≡ big_number front * 256 + byte = c.law_of_digits.ensures.more 256 front byte in
    let longer : take (c.bytes.byte-index + 1) c.args.bytes.now ≡ front ++ byte ∷ [] = take_more c.args.bytes.now c.bytes.byte-index 0 c.bytes-test.true in
    let whole : big_number (take (c.bytes.byte-index + 1) c.args.bytes.now) ≡ big_number front * 256 + byte = ap big_number longer ∙ more in
    let fits : byte < 256 = (let f = c.type_inv.bytes c.bytes.byte-index in omega arith) in
    let value = c.bytes.invariant.value in
    let read = c.from.ensures in
    let small = next-small c.bytes.byte-index c.bytes.number byte c.bytes.invariant.small fits in
    record { value = omega arith; small = omega arith }
