-- How far the clock of a replay goes, over plain values.
use Rattle.std.proofs.Common.{◌≡◌, ℕ, ◌+◌, ◌*◌, ◌^◌, ◌<◌, ◌≤◌, arith}
use Rattle.replay_run.specs.Files.{record_limit}
use Rattle.replay_run.specs.Record.{tick_limit}

-- each line let pass an hour at most
unfoldable pub IsEarly : ℕ → ℕ → Type 0
IsEarly clock lines = clock ≤ tick_limit * lines

pub early_start : (clock lines : ℕ) → clock ≡ 0 → IsEarly clock lines
unfolding IsEarly
early_start clock lines e = omega arith

pub early_later : (clock time later lines more : ℕ) → IsEarly clock lines → later ≡ clock + time
    → time ≤ tick_limit → lines < more → IsEarly later more
unfolding IsEarly
early_later clock time later lines more early passed within further = omega arith

-- so there is room for one item more
pub early_room : (clock time lines : ℕ) → IsEarly clock lines → lines ≤ 2 ^ 31
    → time ≤ tick_limit → clock + time < 2 ^ 62
unfolding IsEarly
early_room clock time lines early few within = omega arith

-- each line has a byte at least
pub few_lines : (lines held bytes : ℕ) → lines + held ≤ bytes → bytes ≤ record_limit
    → lines ≤ 2 ^ 31
few_lines lines held bytes given within = omega arith
