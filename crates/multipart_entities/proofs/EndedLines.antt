-- The lines, and the delimiter lines, of a line that is ended and of what stands behind it.
use Rattle.std.proofs.Common.{◌≡◌, ◌≢◌, ℕ, ◌+◌, Bool, true, false, cond, List, [], ◌∷◌, ◌++◌, length, Option, Some, None, refl, sym, ◌∙◌, ap, subst, arith}
use Rattle.std.specs.Prelude.{◌&&◌, ◌==◌, option_and_then, codes as ascii}
use Rattle.std.specs.List.{All, cons_option, filter_map, onto_first}
use Rattle.std.proofs.lemmas.Bool.{ne_eqb}
use Rattle.std.proofs.lemmas.List.{append-nil}
use Rattle.std.proofs.lemmas.List.Elements.{All-append, All-cons, All-head, All-nil, All-tail, filter_map-append}
use Rattle.multipart_entities.specs.Lines.{Placed, behind, behind_first, line_then, lines_of, placed_from}
use Rattle.multipart_entities.specs.Boundaries.{Delimiter, delimiter_at, delimiter_of, placed_delimiters}
use Rattle.multipart_entities.proofs.FrontLemmas.{behind-append, behind-front, behind-short, behind_first-nowhere}
use Rattle.multipart_entities.proofs.LineLemmas.{lines-cons}

-- ---- the lines of both

onto-append : (a : ℕ) (l m : List (List ℕ)) → ((line : List ℕ) × (lines : List (List ℕ)) × (l ≡ line ∷ lines)) → onto_first a (l ++ m) ≡ onto_first a l ++ m
onto-append a l m h = ap (λ x. onto_first a (x ++ m)) h.2 ∙ sym (ap (λ x. onto_first a x ++ m) h.2)

more-by : (a : ℕ) (t : Bool) (l m x y z : List (List ℕ)) → x ≡ l ++ z → y ≡ m ++ z → ((line : List ℕ) × (lines : List (List ℕ)) × (m ≡ line ∷ lines))
    → cond t ([] ∷ x) (onto_first a y) ≡ cond t ([] ∷ l) (onto_first a m) ++ z
more-by a true l m x y z e f h = ap (λ k. [] ∷ k) e
more-by a false l m x y z e f h = ap (onto_first a) f ∙ onto-append a m z h

one-by : (a : ℕ) (t : Bool) (k l : List (List ℕ)) → cond (t && false) k (onto_first a ([] ∷ l)) ≡ (a ∷ []) ∷ l
one-by a true k l = refl
one-by a false k l = refl

pub lines-both : (line rest : List ℕ) → lines_of (line_then line rest) ≡ lines_of line ++ lines_of rest
unfolding lines_of
lines-both [] rest = refl
lines-both (x ∷ []) rest = one-by x (x == 13) ([] ∷ lines_of (10 ∷ rest)) (lines_of rest)
lines-both (x ∷ y ∷ line) rest =
    more-by x ((x == 13) && (y == 10)) (lines_of line) (lines_of (y ∷ line)) (lines_of (line_then line rest)) (lines_of (line_then (y ∷ line) rest)) (lines_of rest)
    (lines-both line rest) (lines-both (y ∷ line) rest) (lines-cons (y ∷ line))

-- ---- bytes without CR

abbrev pub IsInLine : ℕ → Type 0
IsInLine byte = byte ≢ 13

within-by : (x : ℕ) (t : Bool) (k l : List (List ℕ)) → (x == 13) ≡ false → cond ((x == 13) && t) k (onto_first x l) ≡ onto_first x l
within-by x t k l e = rw e refl

pub lines-one_line : (line : List ℕ) → All IsInLine line → lines_of line ≡ line ∷ []
unfolding lines_of
lines-one_line [] h = refl
lines-one_line (x ∷ []) h = refl
lines-one_line (x ∷ y ∷ line) h =
    within-by x (y == 10) ([] ∷ lines_of line) (lines_of (y ∷ line)) (ne_eqb x 13 (All-head IsInLine x (y ∷ line) h))
    ∙ ap (onto_first x) (lines-one_line (y ∷ line) (All-tail IsInLine x (y ∷ line) h))

-- ---- the places of both

-- how many bytes lines have with their ends
abbrev size : List (List ℕ) → ℕ
size [] = 0
size (line ∷ lines) = length line + 2 + size lines

size-onto : (a : ℕ) (l : List (List ℕ)) → ((line : List ℕ) × (lines : List (List ℕ)) × (l ≡ line ∷ lines)) → size (onto_first a l) ≡ 1 + size l
size-onto a l h =
    let one : size (onto_first a (h.0 ∷ h.1)) ≡ 1 + size (h.0 ∷ h.1) = omega arith in
    ap (λ x. size (onto_first a x)) h.2 ∙ (one ∙ sym (ap (λ x. 1 + size x) h.2))

size-by : (a b : ℕ) (t : Bool) (bytes : List ℕ) (l m : List (List ℕ)) → size l ≡ length bytes + 2 → size (onto_first a m) ≡ 1 + size m → size m ≡ length (b ∷ bytes) + 2
    → size (cond t ([] ∷ l) (onto_first a m)) ≡ length (a ∷ b ∷ bytes) + 2
size-by a b true bytes l m e f g = omega (arith, e)
size-by a b false bytes l m e f g = omega (arith, f, g)

size-lines : (bytes : List ℕ) → size (lines_of bytes) ≡ length bytes + 2
unfolding lines_of
size-lines [] = omega arith
size-lines (a ∷ []) = omega arith
size-lines (a ∷ b ∷ bytes) =
    size-by a b ((a == 13) && (b == 10)) bytes (lines_of bytes) (lines_of (b ∷ bytes)) (size-lines bytes) (size-onto a (lines_of (b ∷ bytes)) (lines-cons (b ∷ bytes))) (size-lines (b ∷ bytes))

placed-append : (place end : ℕ) (xs ys : List (List ℕ)) → end ≡ place + size xs → placed_from place (xs ++ ys) ≡ placed_from place xs ++ placed_from end ys
placed-append place end [] ys e = let n : place ≡ end = omega (arith, e) in ap (λ k. placed_from k ys) n
placed-append place end (x ∷ xs) ys e =
    ap (λ l. record { place = place; line = x } ∷ l) (placed-append (place + length x + 2) end xs ys (omega (arith, e)))

-- ---- the delimiter lines of both

pub delimiters-both : (boundary line rest : List ℕ) (place : ℕ) → placed_delimiters boundary place (line_then line rest) ≡ placed_delimiters boundary place line ++ placed_delimiters boundary (place + length line + 2) rest
delimiters-both boundary line rest place =
    ap (λ l. filter_map (delimiter_of boundary) (placed_from place l)) (lines-both line rest)
    ∙ (ap (filter_map (delimiter_of boundary)) (placed-append place (place + length line + 2) (lines_of line) (lines_of rest) (let e = size-lines line in omega (arith, e)))
    ∙ filter_map-append (delimiter_of boundary) (placed_from place (lines_of line)) (placed_from (place + length line + 2) (lines_of rest)))

-- ---- a word that stands nowhere stands at the front of no line: the first line is a front of the bytes

record FirstLine (bytes : List ℕ) (all : List (List ℕ)) : Type 0 where
  line : List ℕ
  lines : List (List ℕ)
  more : List ℕ
  is_it : all ≡ line ∷ lines
  front : bytes ≡ line ++ more

first-by : (a b : ℕ) (t : Bool) (bytes : List ℕ) (l m : List (List ℕ)) → FirstLine (b ∷ bytes) m → FirstLine (a ∷ b ∷ bytes) (cond t ([] ∷ l) (onto_first a m))
first-by a b true bytes l m h = record { line = []; lines = l; more = a ∷ b ∷ bytes; is_it = refl; front = refl }
first-by a b false bytes l m h = record { line = a ∷ h.line; lines = h.lines; more = h.more; is_it = ap (onto_first a) h.is_it; front = ap (λ k. a ∷ k) h.front }

first-line : (bytes : List ℕ) → FirstLine bytes (lines_of bytes)
unfolding lines_of
first-line [] = record { line = []; lines = []; more = []; is_it = refl; front = refl }
first-line (a ∷ []) = record { line = a ∷ []; lines = []; more = []; is_it = refl; front = refl }
first-line (a ∷ b ∷ bytes) = first-by a b ((a == 13) && (b == 10)) bytes (lines_of bytes) (lines_of (b ∷ bytes)) (first-line (b ∷ bytes))

abbrev NoneBegins : List ℕ → List (List ℕ) → Type 0
NoneBegins word [] = Unit {0}
NoneBegins word (line ∷ lines) = (behind word line ≡ None) × NoneBegins word lines

none-onto : (word : List ℕ) (a b : ℕ) (bytes : List ℕ) (m : List (List ℕ)) → FirstLine (b ∷ bytes) m → behind word (a ∷ b ∷ bytes) ≡ None → NoneBegins word m → NoneBegins word (onto_first a m)
none-onto word a b bytes m h e n =
    let all : NoneBegins word (h.line ∷ h.lines) = subst (λ x. NoneBegins word x) h.is_it n in
    let short : behind word (a ∷ h.line) ≡ None = behind-short word (a ∷ h.line) h.more (sym (ap (λ k. behind word (a ∷ k)) h.front) ∙ e) in
    subst (λ x. NoneBegins word (onto_first a x)) (sym h.is_it) (short, all.1)

none-by : (word : List ℕ) (a : ℕ) (t : Bool) (l m : List (List ℕ)) → behind word [] ≡ None → NoneBegins word l → NoneBegins word (onto_first a m) → NoneBegins word (cond t ([] ∷ l) (onto_first a m))
none-by word a true l m e f g = (e, f)
none-by word a false l m e f g = g

none-begins : (word bytes : List ℕ) → behind word [] ≡ None → behind_first word bytes ≡ None → NoneBegins word (lines_of bytes)
unfolding lines_of
none-begins word [] e h = (e, tt)
none-begins word (a ∷ []) e h = ((behind_first-nowhere word a [] h).0, tt)
none-begins word (a ∷ b ∷ bytes) e h =
    let one = behind_first-nowhere word a (b ∷ bytes) h in
    let two = behind_first-nowhere word b bytes one.1 in
    none-by word a ((a == 13) && (b == 10)) (lines_of bytes) (lines_of (b ∷ bytes)) e (none-begins word bytes e two.1)
    (none-onto word a b bytes (lines_of (b ∷ bytes)) (first-line (b ∷ bytes)) one.0 (none-begins word (b ∷ bytes) e one.1))

none-of : (boundary : List ℕ) (place : ℕ) (line : List ℕ) → behind (ascii "--" ++ boundary) line ≡ None → delimiter_of boundary (record { place = place; line = line }) ≡ None
unfolding delimiter_of
none-of boundary place line e =
    let last : behind ((ascii "--" ++ boundary) ++ ascii "--") line ≡ None = behind-append (ascii "--" ++ boundary) (ascii "--") line ∙ ap (option_and_then (behind (ascii "--"))) e in
    rw (e, last) refl

none-among : (boundary : List ℕ) (place : ℕ) (lines : List (List ℕ)) → NoneBegins (ascii "--" ++ boundary) lines → filter_map (delimiter_of boundary) (placed_from place lines) ≡ []
none-among boundary place [] h = refl
none-among boundary place (line ∷ lines) h =
    ap (λ o. cons_option o (filter_map (delimiter_of boundary) (placed_from (place + length line + 2) lines))) (none-of boundary place line h.0)
    ∙ none-among boundary (place + length line + 2) lines h.1

pub delimiters-none : (boundary bytes : List ℕ) (place : ℕ) → behind_first (ascii "--" ++ boundary) bytes ≡ None → placed_delimiters boundary place bytes ≡ []
delimiters-none boundary bytes place h = none-among boundary place (lines_of bytes) (none-begins (ascii "--" ++ boundary) bytes refl h)

-- ---- a delimiter line by itself

dashed : (bytes : List ℕ) → All IsInLine bytes → All IsInLine (ascii "--" ++ bytes)
dashed bytes h = All-cons IsInLine 45 (45 ∷ bytes) (λ e. absurd (omega (arith, e))) (All-cons IsInLine 45 bytes (λ e. absurd (omega (arith, e))) h)

inner-of : (boundary : List ℕ) (place : ℕ) → (let placed : Placed = record { place = place; line = ascii "--" ++ boundary } in delimiter_of boundary placed ≡ Some (delimiter_at placed false))
unfolding delimiter_of
inner-of boundary place =
    let e : behind (ascii "--" ++ boundary) (ascii "--" ++ boundary) ≡ Some [] = ap (behind (ascii "--" ++ boundary)) (sym (append-nil (ascii "--" ++ boundary))) ∙ behind-front (ascii "--" ++ boundary) [] in
    rw e refl

last-of : (boundary : List ℕ) (place : ℕ) → (let placed : Placed = record { place = place; line = ascii "--" ++ (boundary ++ ascii "--") } in delimiter_of boundary placed ≡ Some (delimiter_at placed true))
unfolding delimiter_of
last-of boundary place =
    let whole : List ℕ = ascii "--" ++ (boundary ++ ascii "--") in
    let e : behind (ascii "--" ++ boundary) whole ≡ Some (ascii "--") = behind-front (ascii "--" ++ boundary) (ascii "--") in
    let f : behind whole whole ≡ Some [] = ap (behind whole) (sym (append-nil whole)) ∙ behind-front whole [] in
    rw (e, f) refl

one-line : (boundary : List ℕ) (place : ℕ) (line : List ℕ) (o : Option Delimiter) → All IsInLine line → delimiter_of boundary (record { place = place; line = line }) ≡ o → placed_delimiters boundary place line ≡ cons_option o []
one-line boundary place line o h e =
    ap (λ l. filter_map (delimiter_of boundary) (placed_from place l)) (lines-one_line line h) ∙ ap (λ p. cons_option p []) e

pub delimiters-inner : (boundary : List ℕ) (place : ℕ) → All IsInLine boundary → placed_delimiters boundary place (ascii "--" ++ boundary) ≡ delimiter_at (record { place = place; line = ascii "--" ++ boundary }) false ∷ []
delimiters-inner boundary place h = one-line boundary place (ascii "--" ++ boundary) _ (dashed boundary h) (inner-of boundary place)

pub delimiters-last : (boundary : List ℕ) (place : ℕ) → All IsInLine boundary → placed_delimiters boundary place (ascii "--" ++ (boundary ++ ascii "--")) ≡ delimiter_at (record { place = place; line = ascii "--" ++ (boundary ++ ascii "--") }) true ∷ []
delimiters-last boundary place h =
    one-line boundary place (ascii "--" ++ (boundary ++ ascii "--")) _ (dashed (boundary ++ ascii "--") (All-append IsInLine boundary (ascii "--") h (dashed [] (All-nil IsInLine)))) (last-of boundary place)
