-- What a keeper tells, of this project's own.
use Rattle.std.specs.Prelude.{◌≡◌, ℕ, ◌-◌, List, ◌++◌, length, take, replicate, Option, None, Some, IfSome, Result, MatchResult, ⊤, ◌⊎◌}
use Rattle.std.specs.Io.KnownBytes.{Keeps}
use Rattle.bml_bytes.specs.Areas.{area_length}
use Rattle.bml_ports.specs.Counters.{Counter}

-- the faults of loads and stores, the number of calls so far, and the bytes that are kept where the
-- keeper tells them
pub record KeeperState : Type 0 where
  pub faults : Counter
  pub calls : ℕ
  pub kept : Option (List ℕ)

-- so many bytes: as many of the given ones as fit, and 0 behind them
abbrev pub filled : ℕ → List ℕ → List ℕ
filled size bytes = take size bytes ++ replicate (size - length bytes) 0

-- a load that gave this size and these bytes of an area told what is kept
abbrev pub Loads : Option (List ℕ) → ℕ → List ℕ → Type 0
Loads kept size area =
    IfSome kept (λ bytes. (size ≡ length bytes) × (area ≡ filled area_length bytes))

-- where bytes were told to be kept, these are kept now
abbrev pub Replaces : Option (List ℕ) → Option (List ℕ) → List ℕ → Type 0
Replaces None new bytes = ⊤
Replaces (Some old) new bytes = new ≡ Some bytes

-- a store leaves the new area; a failed one leaves what was kept, or the new area
abbrev pub Stores : {A E : Type 0} → Option (List ℕ) → Option (List ℕ) → Result A E → List ℕ
    → Type 0
Stores old new result area =
    MatchResult result (λ _. Replaces old new area) (λ _. Keeps old new ⊎ Replaces old new area)
