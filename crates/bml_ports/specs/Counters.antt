-- Counts of faults, of this project's own.
use Rattle.std.specs.Prelude.{◌≡◌, ℕ, ◌+◌, ◌-◌, ◌^◌, ◌≤◌, min, Bool, is_err, IsTrue, OnErr, Result}

-- what is told of the calls that are counted together: how many faults there were, and whether the last call failed
pub record Counter : Type 0 where
  pub faults : ℕ
  pub last_failed : Bool

-- one more: a count stands still at 2^64 - 1
abbrev pub counted : ℕ → ℕ
counted n = min (n + 1) (2 ^ 64 - 1)

-- a count rose, or stands at 2^64 - 1, where each fault is a rise
abbrev pub Rose : ℕ → ℕ → Type 0
Rose before now = counted before ≤ now

-- a call under this counter: the count doesn't fall, the call failed only where it rose, and this call is now the last one
pub record Counts {A E : Type 0} (old new : Counter) (result : Result A E) : Type 0 where
  pub later : old.faults ≤ new.faults
  pub rose : OnErr result (Rose old.faults new.faults)
  pub last : new.last_failed ≡ is_err result

-- from one moment to a later one the count rose, and the last call failed
pub record FaultedSince (start now : Counter) : Type 0 where
  pub rose : Rose start.faults now.faults
  pub last : IsTrue now.last_failed
