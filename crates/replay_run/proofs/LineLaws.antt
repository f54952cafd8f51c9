-- Laws of the lines of a record that isn't whole yet.
use Rattle.std.proofs.Common.{◌≡◌, ◌≢◌, ℕ, ◌-◌, ◌<◌, ◌≤◌, Bool, false, cond, List, [], ◌∷◌, ◌++◌}
use Rattle.std.proofs.Common.{All, length, take, map, slice_get, slice_index, ◌==◌, Some, refl, sym}
use Rattle.std.proofs.Common.{ap, ◌∙◌, arith, length-append, length-take-le, nat_le, ne_eqb, eq-eqb}
use Rattle.std.proofs.Common.{append_assoc, take_at}
use Rattle.std.proofs.lemmas.Bool.{cond_both, cond-true}
use Rattle.std.proofs.lemmas.Bool.Decides.{nat_tests}
use Rattle.std.specs.List.{slice_split, onto_first}
use Rattle.std.specs.Str.Lines.{lines, lines_of_parts, strip_carriage_return}
use Rattle.std.proofs.lemmas.List.Splits.{slice_split-cons_no, slice_split_none, slice_split_at}
use Rattle.std.proofs.lemmas.List.Splits.{length-slice_split}
use Rattle.std.proofs.lemmas.List.Elements.{All-head, All-tail, All-weaker, All-push}
use Rattle.std.proofs.lemmas.Grind.{common_steps}
use Rattle.replay_run.specs.declared.record.Line.TheVariants.{Bad}
use Rattle.replay_run.specs.Record.{fields, line_with, line_of, lines_of}

behind_part : (x : List ℕ) (parts : List (List ℕ)) → 0 < length parts → lines_of_parts (x ∷ parts)
    ≡ strip_carriage_return x ∷ lines_of_parts parts
behind_part x [] l = absurd (omega arith)
behind_part x (y ∷ more) l = refl

some_part : (p : ℕ → Bool) (xs : List ℕ) → 0 < length (slice_split p xs)
some_part p xs = omega (arith, length-slice_split p xs)

-- a line that its line feed ends
pub lines_ended : (line rest : List ℕ) → All (λ byte. (byte == 10) ≡ false) line
    → lines (line ++ 10 ∷ rest) ≡ strip_carriage_return line ∷ lines rest
lines_ended line rest h =
    ap lines_of_parts (slice_split_at (λ byte. byte == 10) line 10 rest h refl)
    ∙ behind_part line _ (some_part (λ byte. byte == 10) rest)

pub lines_of_ended : (line rest : List ℕ) → All (λ byte. (byte == 10) ≡ false) line
    → lines_of (line ++ 10 ∷ rest) ≡ line_of (strip_carriage_return line) ∷ lines_of rest
unfolding lines_of
lines_of_ended line rest h = ap (map line_of) (lines_ended line rest h)

last_part : (line : List ℕ) → 0 < length line → lines_of_parts (line ∷ []) ≡ line ∷ []
last_part line l = let e : (length line == 0) ≡ false = grind (arith, nat_tests) in
    ap (λ b. cond b [] (line ∷ [])) e

-- the last line, which lacks its end
pub lines_last : (line : List ℕ) → All (λ byte. (byte == 10) ≡ false) line → 0 < length line
    → lines line ≡ line ∷ []
lines_last line h l = ap lines_of_parts (slice_split_none (λ byte. byte == 10) line h)
    ∙ last_part line l

pub lines_of_last : (line : List ℕ) → All (λ byte. (byte == 10) ≡ false) line → 0 < length line
    → lines_of line ≡ line_of line ∷ []
unfolding lines_of
lines_of_last line h l = ap (map line_of) (lines_last line h l)

pub lines_of-nil : lines_of [] ≡ []
unfolding lines_of
lines_of-nil = refl

-- a line that is too long
pub line_of_long : (line : List ℕ) → 128 < length line → line_of line ≡ Bad
unfolding line_of
line_of_long line l = let e : nat_le (length line) 128 ≡ false = grind (arith, nat_tests) in
    ap (λ b. cond b (line_with (fields line)) Bad) e

-- the first part between line feeds begins with the line
record BeginsWith (line : List ℕ) (parts : List (List ℕ)) : Type 0 where
  rest : List ℕ
  others : List (List ℕ)
  same : parts ≡ (line ++ rest) ∷ others

some_first : (parts : List (List ℕ)) → 0 < length parts → BeginsWith [] parts
some_first [] l = absurd (omega arith)
some_first (part ∷ others) l = record { rest = part; others = others; same = refl }

long_part : (line more : List ℕ) → All (λ byte. (byte == 10) ≡ false) line
    → BeginsWith line (slice_split (λ byte. byte == 10) (line ++ more))
long_part [] more h = some_first _ (some_part (λ byte. byte == 10) more)
long_part (x ∷ line) more h =
    let part = long_part line more (All-tail (λ byte. (byte == 10) ≡ false) x line h) in
    record {
      rest = part.rest;
      others = part.others;
      same = slice_split-cons_no (λ byte. byte == 10) x (line ++ more)
          (All-head (λ byte. (byte == 10) ≡ false) x line h) ∙ ap (onto_first x) (part.same);
    }

stripped_long : (part : List ℕ) → 129 < length part → 128 < length (strip_carriage_return part)
stripped_long part l =
    cond_both (slice_index part (length part - 1) == 13) (take (length part - 1) part) part
    (λ line. 128 < length line)
    (λ _. let short : length part - 1 ≤ length part = omega arith in
    omega (arith, length-take-le (length part - 1) part short))
    (λ _. omega arith)

begins_bad : (part : List ℕ) (others : List (List ℕ)) → 129 < length part
    → slice_get (map line_of (lines_of_parts (part ∷ others))) 0 ≡ Some Bad
begins_bad part [] l = ap (λ parts. slice_get (map line_of parts) 0) (last_part part (omega arith))
    ∙ ap Some (line_of_long part (omega arith))
begins_bad part (next ∷ others) l =
    ap Some (line_of_long (strip_carriage_return part) (stripped_long part l))

-- bytes with no line feed that are too many for a line
pub lines_of_long : (line more : List ℕ) → All (λ byte. (byte == 10) ≡ false) line
    → 130 ≤ length line → slice_get (lines_of (line ++ more)) 0 ≡ Some Bad
unfolding lines_of
lines_of_long line more h l =
    let part = long_part line more h in
    ap (λ parts. slice_get (map line_of (lines_of_parts parts)) 0) (part.same)
    ∙ begins_bad (line ++ part.rest) (part.others) (omega (arith, length-append line part.rest))

-- lines as they are written, with either end
no_feed : (line : List ℕ) → All (λ byte. byte ≢ 10) line → All (λ byte. (byte == 10) ≡ false) line
no_feed line h = All-weaker (λ byte. byte ≢ 10) (λ byte. (byte == 10) ≡ false)
    (λ byte n. ne_eqb byte 10 n) line h

pub written_line_feed : (line rest : List ℕ) → All (λ byte. byte ≢ 10) line
    → slice_index line (length line - 1) ≢ 13 → lines (line ++ 10 ∷ rest) ≡ line ∷ lines rest
written_line_feed line rest h n =
    lines_ended line rest (no_feed line h)
    ∙ ap (λ b. cond b (take (length line - 1) line) line ∷ lines rest)
    (ne_eqb (slice_index line (length line - 1)) 13 n)

strip_return : (line : List ℕ) → strip_carriage_return (line ++ 13 ∷ []) ≡ line
strip_return line =
    let long : length (line ++ 13 ∷ []) - 1 ≡ length line =
    omega (arith, length-append line (13 ∷ [])) in
    let last : slice_index (line ++ 13 ∷ []) (length (line ++ 13 ∷ []) - 1) ≡ 13 =
    ap (slice_index (line ++ 13 ∷ [])) long ∙ grind (arith, common_steps) in
    cond-true _ _ _ (eq-eqb _ _ last) ∙ ap (λ n. take n (line ++ 13 ∷ [])) long
    ∙ take_at line (13 ∷ []) (length line) refl

pub written_return : (line rest : List ℕ) → All (λ byte. byte ≢ 10) line
    → lines (line ++ 13 ∷ 10 ∷ rest) ≡ line ∷ lines rest
written_return line rest h =
    let clear : All (λ byte. (byte == 10) ≡ false) (line ++ 13 ∷ []) =
    All-push (λ byte. (byte == 10) ≡ false) line 13 (no_feed line h) refl in
    ap lines (sym (append_assoc line (13 ∷ []) (10 ∷ rest)))
    ∙ lines_ended (line ++ 13 ∷ []) rest clear
    ∙ ap (λ l. l ∷ lines rest) (strip_return line)

pub written_last : (line : List ℕ) → All (λ byte. byte ≢ 10) line → 0 < length line → lines line
    ≡ line ∷ []
written_last line h l = lines_last line (no_feed line h) l
