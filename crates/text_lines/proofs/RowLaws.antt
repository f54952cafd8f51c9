-- The rows that come from an open row are the rows of the text.
use Rattle.std.proofs.Common.{◌≡◌, ℕ, suc, ◌+◌, ◌-◌, ◌<◌, ◌≤◌, ◌⊎◌, inl, inr, Bool, true, false, nat_le, ◌==◌, List, [], ◌∷◌, ◌++◌, length, take, refl, sym, ap, ◌∙◌, arith, append_assoc, subst, rules, All, if◌then◌else◌}
use Rattle.std.specs.List.{concat, onto_first, AllZip}
use Rattle.std.proofs.lemmas.Bool.{leb-true, leb-false}
use Rattle.std.proofs.lemmas.List.{length-append}
use Rattle.std.proofs.lemmas.List.Elements.{All-nil, All-cons, All-head}
use Rattle.std.proofs.lemmas.List.Sums.{sum_by_push}
use Rattle.std.proofs.lemmas.List.Splits.{length-slice_split}
use Rattle.text_lines.specs.declared.rows.Row.{Row}
use Rattle.text_lines.specs.Measures.{Measures, code_width, used}
use Rattle.text_lines.specs.Breaking.{pieces_of, IsRow, NoneTakesMore, AreRowsOf, IsWithin, placed, all_placed, AreRows}
use Rattle.text_lines.specs.devices.RowsAhead.{ahead}

used-one : (m : Measures) (code : ℕ) → used m (code ∷ []) ≡ code_width m.size code
used-one m code = omega arith

used-push : (m : Measures) (row : List ℕ) (code : ℕ) → 1 ≤ length row → used m (row ++ code ∷ []) ≡ used m row + m.spacing + code_width m.size code
used-push m row code some =
    let more : length (row ++ code ∷ []) - 1 ≡ suc (length row - 1) = omega (arith, length-append row (code ∷ [])) in
    rw more (omega (arith, sum_by_push (code_width m.size) row code))

-- the pieces, the first of which an open row stands before
with_open : List ℕ → List (List ℕ) → List (List ℕ)
with_open row [] = row ∷ []
with_open row (piece ∷ pieces) = (row ++ piece) ∷ pieces

-- an open row has no code yet, or is a row
abbrev IsOpen : Measures → List ℕ → Type 0
IsOpen m row = (row ≡ []) ⊎ IsRow m row

record Goes (m : Measures) (row : List ℕ) (start : ℕ) (codes : List ℕ) : Type 0 where
  broken : List (List (List ℕ))
  pieces : AllZip (AreRowsOf m) (with_open row (pieces_of codes)) broken
  places : ahead m start (start + length row) (used m row) codes ≡ all_placed m start broken

-- a piece whose last row this is
one_row : (m : Measures) (row : List ℕ) → IsOpen m row → AreRowsOf m (row ++ []) (row ∷ [])
one_row m row (inl none) =
    subst (λ r. AreRowsOf m (r ++ []) (r ∷ [])) (sym none) (record { joined = refl; empty = λ _. refl; filled = λ some. absurd (some refl); full = tt })
one_row m row (inr is) =
    record { joined = refl; empty = λ none. absurd (omega (arith, is.0, ap length none, length-append row [])); filled = λ _. All-cons (IsRow m) row [] is (All-nil (IsRow m)); full = tt }

with_open-none : (pieces : List (List ℕ)) → 1 ≤ length pieces → with_open [] pieces ≡ pieces
unfolding with_open
with_open-none [] some = absurd (omega arith)
with_open-none (piece ∷ pieces) some = refl

with_open-first : (row : List ℕ) (code : ℕ) (pieces : List (List ℕ)) → with_open row (onto_first code pieces) ≡ with_open (row ++ code ∷ []) pieces
unfolding with_open
with_open-first row code [] = refl
with_open-first row code (piece ∷ pieces) = ap (λ first. first ∷ pieces) (sym (append_assoc row (code ∷ []) piece))

pieces_of-cut : (code : ℕ) (codes : List ℕ) → (code == 10) ≡ true → pieces_of (code ∷ codes) ≡ [] ∷ pieces_of codes
pieces_of-cut code codes ten = rw ten

pieces_of-other : (code : ℕ) (codes : List ℕ) → (code == 10) ≡ false → pieces_of (code ∷ codes) ≡ onto_first code (pieces_of codes)
pieces_of-other code codes other = rw other

some_piece : (codes : List ℕ) → 1 ≤ length (pieces_of codes)
some_piece codes = omega (arith, length-slice_split (λ code. code == 10) codes)

-- one step of the rows that come
ahead-cut : (m : Measures) (start end taken code : ℕ) (codes : List ℕ) → (code == 10) ≡ true → ahead m start end taken (code ∷ codes) ≡ record { start = start; end = end; used = taken } ∷ ahead m (end + 1) (end + 1) 0 codes
unfolding ahead
ahead-cut m start end taken code codes ten = rw ten

ahead-first : (m : Measures) (start taken code : ℕ) (codes : List ℕ) → (code == 10) ≡ false → ahead m start start taken (code ∷ codes) ≡ ahead m start (start + 1) (code_width m.size code) codes
unfolding ahead
ahead-first m start taken code codes other = let same : (start == start) ≡ true = search rules in rw (other, same)

ahead-next : (m : Measures) (start end taken code : ℕ) (codes : List ℕ) → (code == 10) ≡ false → start < end → nat_le (taken + m.spacing + code_width m.size code) m.width ≡ true → ahead m start end taken (code ∷ codes) ≡ ahead m start (end + 1) (taken + m.spacing + code_width m.size code) codes
unfolding ahead
ahead-next m start end taken code codes other some fits = let apart : (start == end) ≡ false = grind arith in rw (other, apart, fits)

ahead-full : (m : Measures) (start end taken code : ℕ) (codes : List ℕ) → (code == 10) ≡ false → start < end → nat_le (taken + m.spacing + code_width m.size code) m.width ≡ false → ahead m start end taken (code ∷ codes) ≡ record { start = start; end = end; used = taken } ∷ ahead m end (end + 1) (code_width m.size code) codes
unfolding ahead
ahead-full m start end taken code codes other some wide = let apart : (start == end) ≡ false = grind arith in rw (other, apart, wide)

ends : (m : Measures) (row : List ℕ) (start : ℕ) → IsOpen m row → Goes m row start []
unfolding with_open ahead
ends m row start is = record { broken = (row ∷ []) ∷ []; pieces = (one_row m row is, tt); places = refl }

cut : (m : Measures) (row : List ℕ) (start code : ℕ) (codes : List ℕ) → IsOpen m row → (code == 10) ≡ true → Goes m [] (start + length row + 1) codes → Goes m row start (code ∷ codes)
unfolding with_open
cut m row start code codes is ten next =
    let none : used m [] ≡ 0 = omega arith in
    let same : start + length (row ++ []) + 1 ≡ start + length row + 1 = omega (arith, length-append row []) in
    let end : start + length row + 1 + length {A = ℕ} [] ≡ start + length row + 1 = omega arith in
    let behind : ahead m (start + length row + 1) (start + length row + 1) 0 codes ≡ all_placed m (start + length (row ++ []) + 1) next.broken = rw same (rw (none, end) at next.places) in
    let pieces : AllZip (AreRowsOf m) (with_open row ([] ∷ pieces_of codes)) ((row ∷ []) ∷ next.broken) = (one_row m row is, rw (with_open-none (pieces_of codes) (some_piece codes)) at next.pieces) in
    record {
      broken = (row ∷ []) ∷ next.broken;
      pieces = subst (λ ps. AllZip (AreRowsOf m) (with_open row ps) ((row ∷ []) ∷ next.broken)) (sym (pieces_of-cut code codes ten)) pieces;
      places = ahead-cut m start (start + length row) (used m row) code codes ten ∙ ap (λ rows. record { start = start; end = start + length row; used = used m row } ∷ rows) behind;
    }

-- with one code more in the open row
longer_pieces : (m : Measures) (row : List ℕ) (code : ℕ) (codes : List ℕ) (broken : List (List (List ℕ))) → (code == 10) ≡ false → AllZip (AreRowsOf m) (with_open (row ++ code ∷ []) (pieces_of codes)) broken → AllZip (AreRowsOf m) (with_open row (pieces_of (code ∷ codes))) broken
longer_pieces m row code codes broken other are =
    subst (λ ps. AllZip (AreRowsOf m) ps broken) (sym (ap (with_open row) (pieces_of-other code codes other) ∙ with_open-first row code (pieces_of codes))) are

begun : (m : Measures) (start code : ℕ) (codes : List ℕ) → (code == 10) ≡ false → Goes m (code ∷ []) start codes → Goes m [] start (code ∷ codes)
begun m start code codes other next =
    let end : start + length {A = ℕ} [] ≡ start = omega arith in
    let first = ahead-first m start (used m []) code codes other ∙ rw (used-one m code) at next.places in
    record { broken = next.broken; pieces = longer_pieces m [] code codes next.broken other next.pieces; places = subst (λ e. ahead m start e (used m []) (code ∷ codes) ≡ all_placed m start next.broken) (sym end) first }

taken : (m : Measures) (row : List ℕ) (start code : ℕ) (codes : List ℕ) → 1 ≤ length row → (code == 10) ≡ false → nat_le (used m row + m.spacing + code_width m.size code) m.width ≡ true → Goes m (row ++ code ∷ []) start codes → Goes m row start (code ∷ codes)
taken m row start code codes some other fits next =
    let more : start + length (row ++ code ∷ []) ≡ start + length row + 1 = omega (arith, length-append row (code ∷ [])) in
    record { broken = next.broken; pieces = longer_pieces m row code codes next.broken other next.pieces; places = ahead-next m start (start + length row) (used m row) code codes other (omega arith) fits ∙ rw (more, used-push m row code some) at next.places }

-- the code at the front of rows
first_code : (row rest piece : List ℕ) (code : ℕ) → row ++ rest ≡ code ∷ piece → 1 ≤ length row → take 1 row ≡ code ∷ []
first_code [] rest piece code same some = absurd (omega arith)
first_code (c ∷ row) rest piece code same some = ap (take 1) same

takes_no_more : (m : Measures) (row : List ℕ) (code : ℕ) (piece : List ℕ) (rows : List (List ℕ)) → m.width < used m (row ++ code ∷ []) → concat rows ≡ code ∷ piece → All (IsRow m) rows → NoneTakesMore m rows → NoneTakesMore m (row ∷ rows)
takes_no_more m row code piece [] wide joined are full = tt
takes_no_more m row code piece (next ∷ rows) wide joined are full =
    let first = first_code next (concat rows) piece code joined (All-head (IsRow m) next rows are).0 in
    (rw first wide, full)

row_before : (m : Measures) (row : List ℕ) (code : ℕ) (piece : List ℕ) (rows : List (List ℕ)) → IsRow m row → m.width < used m (row ++ code ∷ []) → AreRowsOf m (code ∷ piece) rows → AreRowsOf m (row ++ code ∷ piece) (row ∷ rows)
row_before m row code piece rows is wide are =
    let each = are.filled (λ none. absurd (omega (arith, ap length none))) in
    record {
      joined = ap (λ codes. row ++ codes) are.joined;
      empty = λ none. absurd (omega (arith, is.0, ap length none, length-append row (code ∷ piece)));
      filled = λ _. All-cons (IsRow m) row rows is each;
      full = takes_no_more m row code piece rows wide are.joined each are.full;
    }

record Before (m : Measures) (row : List ℕ) (start code : ℕ) (pieces : List (List ℕ)) (broken : List (List (List ℕ))) : Type 0 where
  all : List (List (List ℕ))
  are : AllZip (AreRowsOf m) (with_open row (onto_first code pieces)) all
  places : record { start = start; end = start + length row; used = used m row } ∷ all_placed m (start + length row) broken ≡ all_placed m start all

full_before : (m : Measures) (row : List ℕ) (start code : ℕ) (pieces : List (List ℕ)) (broken : List (List (List ℕ))) → 1 ≤ length pieces → IsRow m row → m.width < used m (row ++ code ∷ []) → AllZip (AreRowsOf m) (with_open (code ∷ []) pieces) broken → Before m row start code pieces broken
unfolding with_open
full_before m row start code [] broken some is wide are = absurd (omega arith)
full_before m row start code (piece ∷ pieces) [] some is wide are = absurd are
full_before m row start code (piece ∷ pieces) (rows ∷ broken) some is wide are =
    let place : start + length row + length (concat rows) ≡ start + length (row ++ concat rows) = omega (arith, length-append row (concat rows)) in
    record {
      all = (row ∷ rows) ∷ broken;
      are = (row_before m row code piece rows is wide are.0, are.1);
      places = ap (λ n. record { start = start; end = start + length row; used = used m row } ∷ (placed m (start + length row) rows ++ all_placed m (n + 1) broken)) place;
    }

full : (m : Measures) (row : List ℕ) (start code : ℕ) (codes : List ℕ) → IsRow m row → (code == 10) ≡ false → nat_le (used m row + m.spacing + code_width m.size code) m.width ≡ false → Goes m (code ∷ []) (start + length row) codes → Goes m row start (code ∷ codes)
full m row start code codes is other wide next =
    let over : m.width < used m (row ++ code ∷ []) = omega (arith, leb-false _ _ wide, used-push m row code is.0) in
    let b = full_before m row start code (pieces_of codes) next.broken (some_piece codes) is over next.pieces in
    record {
      broken = b.all;
      pieces = subst (λ ps. AllZip (AreRowsOf m) (with_open row ps) b.all) (sym (pieces_of-other code codes other)) b.are;
      places = ahead-full m start (start + length row) (used m row) code codes other (omega (arith, is.0)) wide ∙ ap (λ rows. record { start = start; end = start + length row; used = used m row } ∷ rows) (rw (used-one m code) at next.places) ∙ b.places;
    }

-- what comes behind, from any open row
abbrev Behind : Measures → List ℕ → Type 0
Behind m codes = (row : List ℕ) (start : ℕ) → IsOpen m row → Goes m row start codes

with_room : (m : Measures) (row : List ℕ) (start code : ℕ) (codes : List ℕ) (b : Bool) → nat_le (used m row + m.spacing + code_width m.size code) m.width ≡ b → IsRow m row → (code == 10) ≡ false → Behind m codes → Goes m row start (code ∷ codes)
with_room m row start code codes true fits is other behind =
    let longer : IsRow m (row ++ code ∷ []) = (omega (arith, length-append row (code ∷ [])), inl (omega (arith, leb-true _ _ fits, used-push m row code is.0))) in
    taken m row start code codes is.0 other fits (behind (row ++ code ∷ []) start (inr longer))
with_room m row start code codes false wide is other behind =
    full m row start code codes is other wide (behind (code ∷ []) (start + length row) (inr (omega arith, inr refl)))

other_code : (m : Measures) (row : List ℕ) (start code : ℕ) (codes : List ℕ) → IsOpen m row → (code == 10) ≡ false → Behind m codes → Goes m row start (code ∷ codes)
other_code m row start code codes (inl none) other behind =
    subst (λ r. Goes m r start (code ∷ codes)) (sym none) (begun m start code codes other (behind (code ∷ []) start (inr (omega arith, inr refl))))
other_code m row start code codes (inr is) other behind = with_room m row start code codes _ refl is other behind

any_code : (m : Measures) (row : List ℕ) (start code : ℕ) (codes : List ℕ) (b : Bool) → (code == 10) ≡ b → IsOpen m row → Behind m codes → Goes m row start (code ∷ codes)
any_code m row start code codes true ten is behind = cut m row start code codes is ten (behind [] (start + length row + 1) (inl refl))
any_code m row start code codes false other is behind = other_code m row start code codes is other behind

goes : (m : Measures) (codes : List ℕ) → Behind m codes
goes m [] row start is = ends m row start is
goes m (code ∷ codes) row start is = any_code m row start code codes _ refl is (goes m codes)

pub rows_of_text : (m : Measures) (text : List ℕ) → AreRows m text (ahead m 0 0 0 text)
rows_of_text m text =
    let g = goes m text [] 0 (inl refl) in
    let none : used m [] ≡ 0 = omega arith in
    let pieces = rw (with_open-none (pieces_of text) (some_piece text)) at g.pieces in
    record { broken = g.broken; pieces = pieces; places = rw none at g.places }

-- each row stands within the text
choose : (P : Row → Type 0) (b : Bool) (xs ys : List Row) → All P xs → All P ys → All P (if b then xs else ys)
choose P true xs ys all others = all
choose P false xs ys all others = others

pub within-from : (m : Measures) (start end taken count : ℕ) (codes : List ℕ) → start ≤ end → end + length codes ≡ count → All (IsWithin count) (ahead m start end taken codes)
unfolding ahead
within-from m start end taken count [] ordered is = All-cons (IsWithin count) _ [] (ordered, omega arith) (All-nil (IsWithin count))
within-from m start end taken count (code ∷ codes) ordered is =
    choose (IsWithin count) (code == 10) _ _
    (All-cons (IsWithin count) _ _ (ordered, omega arith) (within-from m (end + 1) (end + 1) 0 count codes (omega arith) (omega arith)))
    (choose (IsWithin count) (start == end) _ _
    (within-from m end (end + 1) (code_width m.size code) count codes (omega arith) (omega arith))
    (choose (IsWithin count) (nat_le (taken + m.spacing + code_width m.size code) m.width) _ _
    (within-from m start (end + 1) (taken + m.spacing + code_width m.size code) count codes (omega arith) (omega arith))
    (All-cons (IsWithin count) _ _ (ordered, omega arith) (within-from m end (end + 1) (code_width m.size code) count codes (omega arith) (omega arith)))))
