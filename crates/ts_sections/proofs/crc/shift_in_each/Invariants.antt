use Rattle.std.proofs.Common.{◌≡◌, drop}
use Rattle.ts_sections.specs.Crc.{bits_of, bits_of_number, register_behind}
use Rattle.ts_sections.proofs.crc.shift_in_each.Given as goal

-- the register, with the bytes that are left, leads to what it led to before with all of them
abbrev pub invariant-loop-byte : goal.invariant-loop-byte
invariant-loop-byte l =
    register_behind (bits_of_number 32 l.register) (bits_of (drop l.byte-index l.bytes)) ≡ register_behind (bits_of_number 32 l.fn.register) (bits_of l.bytes)
