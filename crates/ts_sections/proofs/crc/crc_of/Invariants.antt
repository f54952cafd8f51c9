use Rattle.std.proofs.Common.{◌≡◌, length, replicate, true}
use Rattle.ts_sections.specs.Crc.{bits_of, bits_of_number, register_behind}
use Rattle.ts_sections.proofs.crc.crc_of.Given as goal

-- the register, with the bytes that are left, leads to what the start led to with all of them
abbrev pub invariant-loop-eight : goal.invariant-loop-eight
invariant-loop-eight l =
    register_behind (bits_of_number 32 l.register) (bits_of l.rest) ≡ register_behind (replicate 32 true) (bits_of l.bytes)

abbrev pub decreases-loop-eight : goal.decreases-loop-eight
decreases-loop-eight l = length l.rest
