-- What a write to an array leaves of the area.
use Rattle.std.proofs.Common.{◌≡◌, ℕ, ◌+◌, ◌-◌, ◌*◌, ◌<◌, ◌≤◌, List, ◌++◌, length, take, drop, ◌⊎◌, inl, inr, ap, ◌∙◌, arith, length-append, length-drop}
use Rattle.std.proofs.Math.Seq.{take-append-add, drop-append-add}
use Rattle.std.proofs.lemmas.Bool.{cases_lt}
use Rattle.std.proofs.lemmas.List.{length-take-le, take-append-le, drop-append-le, take-take, drop-drop, drop-take, drop_at}
use Rattle.bml_bytes.specs.Areas.{area_length}
use Rattle.persistent_arrays.specs.Arrays.{array_count, array_in, array_size, with_array}

module _ (area bytes : List ℕ) (slot : ℕ) (long : length area ≡ area_length) (h : slot < array_count) (fits : length bytes ≤ array_size) where
  front : length (take (64 * slot) area) ≡ 64 * slot
  front = length-take-le (64 * slot) area (omega arith)

  abbrev behind : List ℕ
  behind = drop (64 * slot + length bytes) area

  pub written-size : length (with_array area slot bytes) ≡ area_length
  written-size =
      let a = length-append (take (64 * slot) area) (bytes ++ behind) in
      let b = length-append bytes behind in
      let d = length-drop (64 * slot + length bytes) area in
      let f = front in
      omega arith

  -- the array that was written
  pub written : array_in (with_array area slot bytes) slot ≡ bytes ++ take (64 - length bytes) behind
  written =
      let split : 64 ≡ length bytes + (64 - length bytes) = omega arith in
      ap (take 64) (drop_at (take (64 * slot) area) (bytes ++ behind) (64 * slot) front)
      ∙ ap (λ (n : ℕ). take n (bytes ++ behind)) split ∙ take-append-add bytes behind (64 - length bytes)

  -- an array in front of it
  earlier : (other : ℕ) → other < slot → array_in (with_array area slot bytes) other ≡ array_in area other
  earlier other e =
      let f = front in
      let left = length-drop (64 * other) (take (64 * slot) area) in
      let split : 64 * slot ≡ 64 * other + (64 * slot - 64 * other) = omega arith in
      ap (take 64) (drop-append-le (64 * other) (take (64 * slot) area) (bytes ++ behind) (omega arith))
      ∙ take-append-le 64 (drop (64 * other) (take (64 * slot) area)) (bytes ++ behind) (omega arith)
      ∙ ap (λ (n : ℕ). take 64 (drop (64 * other) (take n area))) split
      ∙ ap (take 64) (drop-take (64 * other) (64 * slot - 64 * other) area)
      ∙ take-take 64 (64 * slot - 64 * other) (drop (64 * other) area) (omega arith)

  -- an array behind it
  later : (other : ℕ) → slot < other → array_in (with_array area slot bytes) other ≡ array_in area other
  later other e =
      let f = front in
      let past : 64 * other ≡ length (take (64 * slot) area) + (64 * other - 64 * slot) = omega arith in
      let more : 64 * other - 64 * slot ≡ length bytes + (64 * other - 64 * slot - length bytes) = omega arith in
      let whole : 64 * slot + length bytes + (64 * other - 64 * slot - length bytes) ≡ 64 * other = omega arith in
      ap (λ (n : ℕ). take 64 (drop n (take (64 * slot) area ++ (bytes ++ behind)))) past
      ∙ ap (take 64) (drop-append-add (take (64 * slot) area) (bytes ++ behind) (64 * other - 64 * slot))
      ∙ ap (λ (n : ℕ). take 64 (drop n (bytes ++ behind))) more
      ∙ ap (take 64) (drop-append-add bytes behind (64 * other - 64 * slot - length bytes))
      ∙ ap (take 64) (drop-drop (64 * other - 64 * slot - length bytes) (64 * slot + length bytes) area)
      ∙ ap (λ (n : ℕ). take 64 (drop n area)) whole

  pub others : (other : ℕ) → (slot ≡ other → ⊥) → array_in (with_array area slot bytes) other ≡ array_in area other
  others other apart = by (cases_lt other slot)
    where
      by : (other < slot) ⊎ (slot ≤ other) → array_in (with_array area slot bytes) other ≡ array_in area other
      by (inl e) = earlier other e
      by (inr e) = later other (let a = apart in omega arith)
