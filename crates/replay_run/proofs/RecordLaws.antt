-- Laws of the items of a record and of its first bad line.
use Rattle.std.proofs.Common.{◌≡◌, ◌≢◌, ℕ, ◌+◌, ◌<◌, true, false, cond, List, [], ◌∷◌, ◌++◌, All}
use Rattle.std.proofs.Common.{length, position, Some, None, option_map, nat_lt, refl, sym, ap, ◌∙◌}
use Rattle.std.proofs.Common.{arith, append-nil, length-append}
use Rattle.std.specs.List.{filter_map, position_or_len}
use Rattle.std.proofs.lemmas.Bool.Decides.{nat_tests}
use Rattle.std.proofs.lemmas.List.Elements.{All-head, All-tail}
use Rattle.replay_run.specs.declared.record.Line.{Line}
use Rattle.replay_run.specs.declared.record.Line.TheVariants.{Item as Read, Nothing, Bad}
use Rattle.replay_run.specs.Record.{lines_of, is_bad, item_in, items_until_bad, items_before_bad}
use Rattle.replay_run.specs.Record.{first_bad}

-- none of these lines is bad
pub record AreGood (lines : List Line) : Type 0 where
  pub each : All (λ line. line ≢ Bad) lines

good-tail : (line : Line) (lines : List Line) → AreGood (line ∷ lines) → AreGood lines
good-tail line lines good = record { each = All-tail (λ l. l ≢ Bad) line lines good.each }

never : (lines : List Line) → AreGood (Bad ∷ lines) → ⊥
never lines good = All-head (λ l. l ≢ Bad) Bad lines good.each refl

-- good lines in front of others have their items
pub items-good : (lines more : List Line) → AreGood lines → items_until_bad (lines ++ more)
    ≡ filter_map item_in lines ++ items_until_bad more
items-good [] more good = refl
items-good (Read item ∷ lines) more good =
    ap (λ xs. item ∷ xs) (items-good lines more (good-tail (Read item) lines good))
items-good (Nothing ∷ lines) more good = items-good lines more (good-tail Nothing lines good)
items-good (Bad ∷ lines) more good = absurd (never lines good)

-- and no bad one
place-good : (lines more : List Line) → AreGood lines → position_or_len is_bad (lines ++ more)
    ≡ length lines + position_or_len is_bad more
place-good [] more good = omega arith
place-good (Read item ∷ lines) more good =
    ap (λ n. 1 + n) (place-good lines more (good-tail (Read item) lines good)) ∙ omega arith
place-good (Nothing ∷ lines) more good =
    ap (λ n. 1 + n) (place-good lines more (good-tail Nothing lines good)) ∙ omega arith
place-good (Bad ∷ lines) more good = absurd (never lines good)

no_bad : (lines : List Line) → AreGood lines → position is_bad lines ≡ None
no_bad lines good =
    let place : position_or_len is_bad lines ≡ length lines =
    ap (position_or_len is_bad) (sym (append-nil lines)) ∙ place-good lines [] good ∙ omega arith in
    let none : nat_lt (position_or_len is_bad lines) (length lines) ≡ false =
    grind (arith, nat_tests, place) in
    ap (λ b. cond b (Some (position_or_len is_bad lines)) None) none

one_bad : (lines rest : List Line) → AreGood lines → position is_bad (lines ++ Bad ∷ rest)
    ≡ Some (length lines)
one_bad lines rest good =
    let place : position_or_len is_bad (lines ++ Bad ∷ rest) ≡ length lines =
    place-good lines (Bad ∷ rest) good ∙ omega arith in
    let long : length lines < length (lines ++ Bad ∷ rest) =
    omega (arith, length-append lines (Bad ∷ rest)) in
    let some : nat_lt (position_or_len is_bad (lines ++ Bad ∷ rest)) (length (lines ++ Bad ∷ rest))
    ≡ true = grind (arith, nat_tests, place) in
    ap (λ b. cond b (Some (position_or_len is_bad (lines ++ Bad ∷ rest))) None) some ∙ ap Some place

pub whole_items : (bytes : List ℕ) → AreGood (lines_of bytes) → items_before_bad bytes
    ≡ filter_map item_in (lines_of bytes)
whole_items bytes good =
    ap items_until_bad (sym (append-nil (lines_of bytes))) ∙ items-good (lines_of bytes) [] good
    ∙ append-nil (filter_map item_in (lines_of bytes))

pub whole_bad : (bytes : List ℕ) → AreGood (lines_of bytes) → first_bad bytes ≡ None
whole_bad bytes good = ap (option_map (λ place. place + 1)) (no_bad (lines_of bytes) good)

pub bad_items : (bytes : List ℕ) (before rest : List Line) → lines_of bytes ≡ before ++ Bad ∷ rest
    → AreGood before → items_before_bad bytes ≡ filter_map item_in before
bad_items bytes before rest e good = ap items_until_bad e ∙ items-good before (Bad ∷ rest) good
    ∙ append-nil (filter_map item_in before)

pub bad_number : (bytes : List ℕ) (before rest : List Line) → lines_of bytes ≡ before ++ Bad ∷ rest
    → AreGood before → first_bad bytes ≡ Some (length before + 1)
bad_number bytes before rest e good =
    ap (λ ls. option_map (λ place. place + 1) (position is_bad ls)) e
    ∙ ap (option_map (λ place. place + 1)) (one_bad before rest good)
