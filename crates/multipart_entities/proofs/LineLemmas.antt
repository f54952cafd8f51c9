-- Lines, by the first place of CR LF.
use Rattle.std.proofs.Common.{◌≡◌, ℕ, ◌+◌, ◌-◌, Bool, true, false, cond, nat_eq, List, [], ◌∷◌, ◌++◌, length, take, drop, Option, Some, None, refl, sym, ◌∙◌, ap, subst, arith}
use Rattle.std.specs.Prelude.{◌&&◌, ◌==◌}
use Rattle.std.specs.List.{onto_first}
use Rattle.std.proofs.lemmas.Bool.{eqb-true}
use Rattle.std.proofs.lemmas.Cmp.{nat_eq_equiv}
use Rattle.std.proofs.lemmas.List.{length-append}
use Rattle.std.proofs.Math.Seq.{take-append_seam, drop-append-add}
use Rattle.multipart_entities.specs.Lines.{behind, behind_first, lines_of}
use Rattle.multipart_entities.proofs.FrontLemmas.{some-same, behind-cons, behind_first-here, behind_first-next, behind_first-end}

-- the end of a line
abbrev pub crlf : List ℕ
crlf = 13 ∷ 10 ∷ []

-- a line and what stands behind it, where CR LF ends it
pub record LineAndRest (bytes rest : List ℕ) : Type 0 where
  pub line : List ℕ
  pub is_it : bytes ≡ line ++ (13 ∷ (10 ∷ rest))
  pub lines : lines_of bytes ≡ line ∷ lines_of rest

-- ---- one byte more

pub lines-end : (bytes : List ℕ) → lines_of (13 ∷ 10 ∷ bytes) ≡ [] ∷ lines_of bytes
unfolding lines_of
lines-end bytes = refl

pub lines-one : (a : ℕ) → lines_of (a ∷ []) ≡ (a ∷ []) ∷ []
unfolding lines_of
lines-one a = refl

pub lines-none : lines_of [] ≡ [] ∷ []
unfolding lines_of
lines-none = refl

pub lines-more : (a b : ℕ) (bytes : List ℕ) → ((a == 13) && (b == 10)) ≡ false → lines_of (a ∷ b ∷ bytes) ≡ onto_first a (lines_of (b ∷ bytes))
unfolding lines_of
lines-more a b bytes e = rw e refl

-- whether CR LF is at the front
crlf-at : (a b : ℕ) (bytes : List ℕ) (s t : Bool) → nat_eq 13 a ≡ s → nat_eq 10 b ≡ t → behind crlf (a ∷ b ∷ bytes) ≡ cond s (cond t (Some bytes) None) None
crlf-at a b bytes s t p q =
    behind-cons 13 a (10 ∷ []) (b ∷ bytes)
    ∙ (ap (λ u. cond u (behind (10 ∷ []) (b ∷ bytes)) None) p
    ∙ ap (λ o. cond s o None) (behind-cons 10 b [] bytes ∙ ap (λ u. cond u (Some bytes) None) q))

crlf-test : (a b : ℕ) (s t : Bool) → nat_eq 13 a ≡ s → nat_eq 10 b ≡ t → ((a == 13) && (b == 10)) ≡ (s && t)
crlf-test a b s t p q = rw (nat_eq_equiv.symm a 13, nat_eq_equiv.symm b 10, p, q) refl

none-by : (s : Bool) → cond s None None ≡ (let none : Option (List ℕ) = None in none)
none-by true = refl
none-by false = refl

one-none : (a : ℕ) → behind_first crlf (a ∷ []) ≡ None
one-none a = behind_first-next crlf a [] (behind-cons 13 a (10 ∷ []) [] ∙ none-by (nat_eq 13 a)) ∙ behind_first-end crlf

-- ---- the first line

here : (a b : ℕ) (bytes : List ℕ) → nat_eq 13 a ≡ true → nat_eq 10 b ≡ true → LineAndRest (a ∷ b ∷ bytes) bytes
here a b bytes p q =
    let x : 13 ≡ a = eqb-true 13 a p in
    let y : 10 ≡ b = eqb-true 10 b q in
    let same : 13 ∷ 10 ∷ bytes ≡ a ∷ b ∷ bytes = cc in
    subst (λ l. LineAndRest l bytes) same (record { line = []; is_it = refl; lines = lines-end bytes })

further : (a b : ℕ) (bytes rest : List ℕ) → ((a == 13) && (b == 10)) ≡ false → LineAndRest (b ∷ bytes) rest → LineAndRest (a ∷ b ∷ bytes) rest
further a b bytes rest e h =
    record { line = a ∷ h.line; is_it = ap (λ l. a ∷ l) h.is_it; lines = lines-more a b bytes e ∙ ap (onto_first a) h.lines }

line-by : (a b : ℕ) (bytes rest : List ℕ) (s t : Bool) → nat_eq 13 a ≡ s → nat_eq 10 b ≡ t → behind_first crlf (a ∷ b ∷ bytes) ≡ Some rest
    → (behind_first crlf (b ∷ bytes) ≡ Some rest → LineAndRest (b ∷ bytes) rest) → LineAndRest (a ∷ b ∷ bytes) rest
line-by a b bytes rest true true p q e h =
    let same : bytes ≡ rest = some-same bytes rest (sym (behind_first-here crlf (a ∷ b ∷ bytes) bytes (crlf-at a b bytes true true p q)) ∙ e) in
    subst (LineAndRest (a ∷ b ∷ bytes)) same (here a b bytes p q)
line-by a b bytes rest true false p q e h =
    further a b bytes rest (crlf-test a b true false p q) (h (sym (behind_first-next crlf a (b ∷ bytes) (crlf-at a b bytes true false p q)) ∙ e))
line-by a b bytes rest false t p q e h =
    further a b bytes rest (crlf-test a b false t p q) (h (sym (behind_first-next crlf a (b ∷ bytes) (crlf-at a b bytes false t p q)) ∙ e))

-- the first line is what stands before the first CR LF, and the others are those of what stands behind it
pub line-first : (bytes rest : List ℕ) → behind_first crlf bytes ≡ Some rest → LineAndRest bytes rest
line-first [] rest e = absurd (cc (behind_first-end crlf, e))
line-first (a ∷ []) rest e = absurd (cc (one-none a, e))
line-first (a ∷ b ∷ bytes) rest e = line-by a b bytes rest (nat_eq 13 a) (nat_eq 10 b) refl refl e (line-first (b ∷ bytes) rest)

last-by : (a b : ℕ) (bytes : List ℕ) (s t : Bool) → nat_eq 13 a ≡ s → nat_eq 10 b ≡ t → behind_first crlf (a ∷ b ∷ bytes) ≡ None
    → (behind_first crlf (b ∷ bytes) ≡ None → lines_of (b ∷ bytes) ≡ (b ∷ bytes) ∷ []) → lines_of (a ∷ b ∷ bytes) ≡ (a ∷ b ∷ bytes) ∷ []
last-by a b bytes true true p q e h = absurd (cc (behind_first-here crlf (a ∷ b ∷ bytes) bytes (crlf-at a b bytes true true p q), e))
last-by a b bytes true false p q e h =
    lines-more a b bytes (crlf-test a b true false p q) ∙ ap (onto_first a) (h (sym (behind_first-next crlf a (b ∷ bytes) (crlf-at a b bytes true false p q)) ∙ e))
last-by a b bytes false t p q e h =
    lines-more a b bytes (crlf-test a b false t p q) ∙ ap (onto_first a) (h (sym (behind_first-next crlf a (b ∷ bytes) (crlf-at a b bytes false t p q)) ∙ e))

-- bytes without CR LF are one line
pub line-last : (bytes : List ℕ) → behind_first crlf bytes ≡ None → lines_of bytes ≡ bytes ∷ []
line-last [] e = lines-none
line-last (a ∷ []) e = lines-one a
line-last (a ∷ b ∷ bytes) e = last-by a b bytes (nat_eq 13 a) (nat_eq 10 b) refl refl e (line-last (b ∷ bytes))

-- ---- empty lines

pub nothing-left : (line : List ℕ) → (length line == 0) ≡ true → line ≡ []
nothing-left [] e = refl
nothing-left (a ∷ line) e = let n : length (a ∷ line) ≡ 0 = eqb-true (length (a ∷ line)) 0 e in absurd (omega (arith, n))

pub something-left : (line : List ℕ) → (length line == 0) ≡ false → length line ≡ 0 → ⊥
something-left [] e n = absurd (cc e)
something-left (a ∷ line) e n = omega (arith, n)

-- ---- there is a line

cons-by : (a : ℕ) (t : Bool) (l m : List (List ℕ)) → ((line : List ℕ) × (lines : List (List ℕ)) × (m ≡ line ∷ lines)) → (line : List ℕ) × (lines : List (List ℕ)) × (cond t ([] ∷ l) (onto_first a m) ≡ line ∷ lines)
cons-by a true l m h = ([], l, refl)
cons-by a false l m h = (a ∷ h.0, h.1, ap (onto_first a) h.2)

pub lines-cons : (bytes : List ℕ) → (line : List ℕ) × (lines : List (List ℕ)) × (lines_of bytes ≡ line ∷ lines)
unfolding lines_of
lines-cons [] = ([], [], refl)
lines-cons (a ∷ []) = (a ∷ [], [], refl)
lines-cons (a ∷ b ∷ bytes) = cons-by a ((a == 13) && (b == 10)) (lines_of bytes) (lines_of (b ∷ bytes)) (lines-cons (b ∷ bytes))

-- ---- what the code cuts off

pub line-size : (bytes rest : List ℕ) (h : LineAndRest bytes rest) → length h.line + 2 + length rest ≡ length bytes
line-size bytes rest h =
    let all : length bytes ≡ length (h.line ++ (13 ∷ (10 ∷ rest))) = ap length h.is_it in
    let parts : length (h.line ++ (13 ∷ (10 ∷ rest))) ≡ length h.line + length (13 ∷ (10 ∷ rest)) = length-append h.line (13 ∷ (10 ∷ rest)) in
    omega (arith, all, parts)

pub line-cut : (bytes rest : List ℕ) (h : LineAndRest bytes rest) → take (length bytes - length rest - 2) bytes ≡ h.line
line-cut bytes rest h =
    let n : length bytes - length rest - 2 ≡ length h.line = omega (arith, line-size bytes rest h) in
    ap (λ k. take k bytes) n ∙ (ap (take (length h.line)) h.is_it ∙ take-append_seam h.line (13 ∷ (10 ∷ rest)))

pub line-rest : (bytes rest : List ℕ) (h : LineAndRest bytes rest) → drop (length h.line + 2) bytes ≡ rest
line-rest bytes rest h = ap (drop (length h.line + 2)) h.is_it ∙ drop-append-add h.line (13 ∷ (10 ∷ rest)) 2
