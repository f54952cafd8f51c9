-- Where a text is cut at its first slash.
use Rattle.std.proofs.Common.{◌≡◌, ℕ, ◌+◌, ◌-◌, ◌<◌, ◌≤◌, Bool, true, false, cond, ltb, List, [], ◌∷◌, length, take, drop, Some, None, refl, arith}
use Rattle.std.specs.List.{All, position, position_or_len}
use Rattle.std.proofs.lemmas.Bool.Decides.{nat_tests}
use Rattle.std.proofs.lemmas.List.{length-drop}
use Rattle.std.proofs.Math.Seq.{take-length}
use Rattle.std.proofs.lemmas.List.Splits.{slice_split_none, slice_split_first}
use Rattle.std.proofs.lemmas.List.Sums.{fails_before_first}
use Rattle.multipart_entities.specs.Paths.{is_slash, fields_of}

not_found : (b : Bool) (place : ℕ) → None ≡ cond b (Some place) None → b ≡ false
not_found true place e = absurd (cc e)
not_found false place e = refl

found : (b : Bool) (place there : ℕ) → Some place ≡ cond b (Some there) None → (b ≡ true) × (place ≡ there)
found true place there e = (refl, cc e)
found false place there e = absurd (cc e)

none_before : (codes : List ℕ) → length codes ≤ position_or_len is_slash codes → All (λ code. is_slash code ≡ false) codes
none_before codes h = λ k d below. fails_before_first is_slash codes k d (omega arith)

-- without a slash
pub fields_of-one : (codes : List ℕ) → None ≡ position is_slash codes → fields_of codes ≡ codes ∷ []
fields_of-one codes e =
    let over = not_found (ltb (position_or_len is_slash codes) (length codes)) (position_or_len is_slash codes) e in
    let past : length codes ≤ position_or_len is_slash codes = grind (arith, nat_tests) in
    slice_split_none is_slash codes (none_before codes past)

-- the part of a list from a place on
rest_whole : (n : ℕ) (xs : List ℕ) → take (length xs - n) (drop n xs) ≡ drop n xs
rest_whole n xs = rw (← length-drop n xs) (take-length (drop n xs))

-- at the first slash
pub fields_of-more : (codes : List ℕ) (place : ℕ) → Some place ≡ position is_slash codes → fields_of codes ≡ take place codes ∷ fields_of (take (length codes - (place + 1)) (drop (place + 1) codes))
fields_of-more codes place e =
    let there = found (ltb (position_or_len is_slash codes) (length codes)) place (position_or_len is_slash codes) e in
    let same = there.1 in
    let within : position_or_len is_slash codes < length codes = grind (arith, nat_tests) in
    rw (rest_whole (place + 1) codes, same) (slice_split_first is_slash codes 0 within)
