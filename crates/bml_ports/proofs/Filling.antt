-- A slice that is cleared and then filled from the front.
use Rattle.std.proofs.Common.{◌≡◌, ℕ, ◌-◌, min, List, ◌++◌, length, take, drop, replicate, arith}
use Rattle.std.proofs.lemmas.List.{take_min, drop-replicate}
use Rattle.bml_ports.specs.Keepers.{filled}

pub filled-from_front : (size fits : ℕ) (bytes cleared front : List ℕ) → fits ≡ min (length bytes) size → cleared ≡ replicate size 0 → front ≡ take fits bytes
    → front ++ drop fits cleared ≡ filled size bytes
filled-from_front size fits bytes cleared front fitting clear copied =
    let least : fits ≡ min size (length bytes) = omega arith in
    let rest : size - min size (length bytes) ≡ size - length bytes = omega arith in
    rw (copied, clear, least, take_min, drop-replicate, rest)
