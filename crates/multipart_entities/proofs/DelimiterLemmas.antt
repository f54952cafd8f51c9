-- Delimiter lines.
use Rattle.std.proofs.Common.{◌≡◌, ℕ, ◌+◌, ◌-◌, ◌≤◌, Bool, true, false, cond, List, [], ◌∷◌, ◌++◌, length, drop, Option, Some, None, refl, sym, ◌∙◌, ap, subst, arith}
use Rattle.std.specs.Prelude.{option_map, option_and_then, if◌then◌else◌, codes as ascii}
use Rattle.std.specs.Option.{IfSome, option_map_or}
use Rattle.std.specs.List.{cons_option, list_all, slice_range}
use Rattle.std.proofs.lemmas.List.{drop_all, drop-drop, length-drop, take_rest}
use Rattle.multipart_entities.specs.Lines.{Placed, behind, is_blank, lines_of, placed_from}
use Rattle.multipart_entities.specs.Boundaries.{delimiter_at, delimiter_of, delimiters, is_delimiter, is_followed_by_blanks, is_last_delimiter}
use Rattle.multipart_entities.specs.BoundaryViews.{delimiters_from, kind_of}
use Rattle.multipart_entities.proofs.FrontLemmas.{behind-append}
use Rattle.multipart_entities.proofs.LineLemmas.{lines-none}

-- ---- what a line is

pub kind-none : (boundary line : List ℕ) → behind (ascii "--" ++ boundary) line ≡ None → kind_of boundary line ≡ None
kind-none boundary line e =
    let last : behind ((ascii "--" ++ boundary) ++ ascii "--") line ≡ None = behind-append (ascii "--" ++ boundary) (ascii "--") line ∙ ap (option_and_then (behind (ascii "--"))) e in
    ap (λ o. if option_map_or (list_all is_blank) o false then Some false else if is_last_delimiter boundary line then Some true else None) e
    ∙ ap (λ o. if option_map_or (list_all is_blank) o false then Some true else None) last

pub kind-some : (boundary line rest : List ℕ) → behind (ascii "--" ++ boundary) line ≡ Some rest
    → kind_of boundary line ≡ (if list_all is_blank rest then Some false else if option_map_or (list_all is_blank) (behind (ascii "--") rest) false then Some true else None)
kind-some boundary line rest e =
    let last : behind ((ascii "--" ++ boundary) ++ ascii "--") line ≡ behind (ascii "--") rest = behind-append (ascii "--" ++ boundary) (ascii "--") line ∙ ap (option_and_then (behind (ascii "--"))) e in
    ap (λ o. if option_map_or (list_all is_blank) o false then Some false else if is_last_delimiter boundary line then Some true else None) e
    ∙ ap (λ o. if list_all is_blank rest then Some false else if option_map_or (list_all is_blank) o false then Some true else None) last

pub kind-is : (boundary line rest : List ℕ) (s t : Bool) → behind (ascii "--" ++ boundary) line ≡ Some rest → list_all is_blank rest ≡ s → is_followed_by_blanks (ascii "--") rest ≡ t
    → kind_of boundary line ≡ (if s then Some false else if t then Some true else None)
kind-is boundary line rest s t e p q =
    kind-some boundary line rest e
    ∙ (ap (λ b. if b then Some false else if is_followed_by_blanks (ascii "--") rest then Some true else None) p ∙ ap (λ b. if s then Some false else if b then Some true else None) q)

of-by : (s t : Bool) (placed : Placed) → cond s (Some (delimiter_at placed false)) (cond t (Some (delimiter_at placed true)) None) ≡ option_map (delimiter_at placed) (cond s (Some false) (cond t (Some true) None))
of-by true t placed = refl
of-by false true placed = refl
of-by false false placed = refl

pub delimiter-kind : (boundary : List ℕ) (placed : Placed) → delimiter_of boundary placed ≡ option_map (delimiter_at placed) (kind_of boundary placed.line)
unfolding delimiter_of
delimiter-kind boundary placed = of-by (is_delimiter boundary placed.line) (is_last_delimiter boundary placed.line) placed

-- ---- the delimiters from a place on

abbrev placed_at : ℕ → List ℕ → Placed
placed_at place line = record { place = place; line = line }

nothing-of : (boundary : List ℕ) (place : ℕ) → delimiter_of boundary (placed_at place []) ≡ None
nothing-of boundary place = delimiter-kind boundary (placed_at place []) ∙ ap (option_map (delimiter_at (placed_at place []))) (kind-none boundary [] refl)

-- none stands behind the end
pub from-end : (boundary bytes : List ℕ) (place : ℕ) → length bytes ≤ place → delimiters_from boundary bytes place ≡ []
from-end boundary bytes place h =
    ap (λ l. delimiters boundary (placed_from place (lines_of l))) (drop_all place bytes h)
    ∙ (ap (λ l. delimiters boundary (placed_from place l)) lines-none ∙ ap (λ o. cons_option o []) (nothing-of boundary place))

-- the first line, and those from the next one on
pub record LineAt (bytes : List ℕ) (place : ℕ) (line : List ℕ) : Type 0 where
  pub behind : Option (List ℕ)
  pub lines : lines_of (drop place bytes) ≡ line ∷ option_map_or lines_of behind []
  pub rest : IfSome behind (λ r. r ≡ drop (length line + 2) (drop place bytes))
  pub last : behind ≡ None → line ≡ drop place bytes

line-in : (bytes : List ℕ) (place : ℕ) (line rest : List ℕ) (o : Option (List ℕ)) → drop place bytes ≡ rest → lines_of rest ≡ line ∷ option_map_or lines_of o [] → IfSome o (λ r. r ≡ drop (length line + 2) rest) → (o ≡ None → line ≡ rest) → LineAt bytes place line
line-in bytes place line rest o e lines more last =
    record {
      behind = o;
      lines = ap lines_of e ∙ lines;
      rest = subst (λ (l : List ℕ). IfSome o (λ r. r ≡ drop (length line + 2) l)) (sym e) more;
      last = λ n. last n ∙ sym e;
    }

pub line-at : (bytes : List ℕ) (place : ℕ) (line rest : List ℕ) (o : Option (List ℕ)) → rest ≡ slice_range bytes place (length bytes) → lines_of rest ≡ line ∷ option_map_or lines_of o [] → IfSome o (λ r. r ≡ drop (length line + 2) rest) → (o ≡ None → line ≡ rest) → LineAt bytes place line
line-at bytes place line rest o e lines more last = line-in bytes place line rest o (sym (e ∙ take_rest bytes place)) lines more last

step-by : (boundary bytes : List ℕ) (place : ℕ) (line : List ℕ) (o : Option (List ℕ)) → place ≤ length bytes → IfSome o (λ r. r ≡ drop (length line + 2) (drop place bytes)) → (o ≡ None → line ≡ drop place bytes)
    → delimiters boundary (placed_from (place + length line + 2) (option_map_or lines_of o [])) ≡ delimiters_from boundary bytes (place + length line + 2)
step-by boundary bytes place line (Some r) h rest last =
    let n : place + (length line + 2) ≡ place + length line + 2 = omega arith in
    ap (λ l. delimiters boundary (placed_from (place + length line + 2) (lines_of l))) (rest ∙ (drop-drop (length line + 2) place bytes ∙ ap (λ k. drop k bytes) n))
step-by boundary bytes place line None h rest last =
    let size : length line ≡ length bytes - place = ap length (last refl) ∙ length-drop place bytes in
    sym (from-end boundary bytes (place + length line + 2) (omega (arith, size)))

step : (boundary bytes : List ℕ) (place : ℕ) (line : List ℕ) → place ≤ length bytes → LineAt bytes place line
    → delimiters_from boundary bytes place ≡ cons_option (option_map (delimiter_at (placed_at place line)) (kind_of boundary line)) (delimiters_from boundary bytes (place + length line + 2))
step boundary bytes place line h l =
    ap (λ z. delimiters boundary (placed_from place z)) l.lines
    ∙ (ap (λ o. cons_option o (delimiters boundary (placed_from (place + length line + 2) (option_map_or lines_of l.behind [])))) (delimiter-kind boundary (placed_at place line))
    ∙ ap (cons_option (option_map (delimiter_at (placed_at place line)) (kind_of boundary line))) (step-by boundary bytes place line l.behind h l.rest l.last))

pub step-some : (boundary bytes : List ℕ) (place : ℕ) (line : List ℕ) (last : Bool) → place ≤ length bytes → LineAt bytes place line → kind_of boundary line ≡ Some last
    → delimiters_from boundary bytes place ≡ (record { start = place; next = place + length line + 2; last = last }) ∷ delimiters_from boundary bytes (place + length line + 2)
step-some boundary bytes place line last h l e =
    step boundary bytes place line h l ∙ ap (λ k. cons_option (option_map (delimiter_at (placed_at place line)) k) (delimiters_from boundary bytes (place + length line + 2))) e

pub step-none : (boundary bytes : List ℕ) (place : ℕ) (line : List ℕ) → place ≤ length bytes → LineAt bytes place line → kind_of boundary line ≡ None
    → delimiters_from boundary bytes place ≡ delimiters_from boundary bytes (place + length line + 2)
step-none boundary bytes place line h l e =
    step boundary bytes place line h l ∙ ap (λ k. cons_option (option_map (delimiter_at (placed_at place line)) k) (delimiters_from boundary bytes (place + length line + 2))) e
