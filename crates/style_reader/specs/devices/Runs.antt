-- A device of the proofs: texts without the codes of one kind at their front or at their end.
use Rattle.std.specs.Prelude.{ℕ, ◌-◌, ◌==◌, Bool, List, length, take, drop}
use Rattle.std.specs.List.{prefix_len, suffix_len}

-- without the codes in front that this is true of
abbrev pub without_front : (ℕ → Bool) → List ℕ → List ℕ
without_front p text = drop (prefix_len p text) text

-- without those at the end
abbrev pub without_end : (ℕ → Bool) → List ℕ → List ℕ
without_end p text = take (length text - suffix_len p text) text

-- whether it is the digit 0
abbrev pub is_zero : ℕ → Bool
is_zero code = code == 48
