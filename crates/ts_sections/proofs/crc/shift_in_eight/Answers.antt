use Rattle.std.proofs.Common.{◌*◌, ◌%◌, ◌^◌, ap, sym, ◌∙◌, arith}
use Rattle.std.proofs.lemmas.Nat.{be_bytes_8}
use Rattle.std.specs.Prelude.{bit_xor}
use Rattle.ts_sections.specs.Crc.{bits_of, bits_of_number, register_behind}
use Rattle.ts_sections.proofs.CrcLaws.{bits_of-eight}
use Rattle.ts_sections.proofs.EightBytes.{none, own_bits_first}
use Rattle.ts_sections.proofs.crc.shift_in_eight.Goals as goal

pub returns : goal.returns
returns c =
    let number = c.from_be_bytes.result in
    c.shift_into_zeros.ensures
    ∙ ap (λ n. register_behind none (bits_of_number 64 (bit_xor number (n * 2 ^ 32 % 2 ^ 64)))) c.from.ensures
    ∙ own_bits_first c.args.register number
    ∙ ap (register_behind (bits_of_number 32 c.args.register)) (sym (bits_of-eight number) ∙ ap bits_of (be_bytes_8 c.args.bytes.now number (omega arith) c.fits-bytes c.from_be_bytes.ensures))
