-- Sections laid end to end in a piece.
use Rattle.std.proofs.Common.{◌≡◌, ◌≢◌, ℕ, zero, suc, ◌-◌, ◌<◌, ◌≤◌, true, false, cond, List, [], ◌∷◌, ◌++◌, length, take, drop, refl, sym, ap, ◌∙◌, arith, length-append, slice_index}
use Rattle.std.proofs.lemmas.Bool.{and_parts, and_from, not-true, not_from_false, eqb-false, ne_eqb, leb-true, le-leb, cond-true, cond-false, cases_Bool}
use Rattle.std.proofs.lemmas.List.{take-append-le}
use Rattle.std.proofs.Math.Seq.{drop-append-le}
use Rattle.std.specs.Prelude.{if◌then◌else◌}
use Rattle.std.proofs.Common.{inl, inr}
use Rattle.ts_sections.specs.Sections.{section_size, begins_whole, sections_behind, sections_of_piece}

drop-pred : (n b : ℕ) (bs : List ℕ) → 0 < n → drop (n - 1) bs ≡ drop n (b ∷ bs)
drop-pred zero b bs h = absurd (omega arith)
drop-pred (suc n) b bs h = let e : suc n - 1 ≡ n = omega arith in rw e refl

sections_behind-drop : (n : ℕ) (bytes : List ℕ) → sections_behind n bytes ≡ sections_behind 0 (drop n bytes)
unfolding sections_behind
sections_behind-drop zero bytes = refl
sections_behind-drop (suc n) [] = refl
sections_behind-drop (suc n) (b ∷ bs) = sections_behind-drop n bs

-- where a whole section begins a piece it is the first, and the others are those behind it
pub sections_of_piece-step : (piece : List ℕ) → sections_of_piece piece ≡ (if begins_whole piece then take (section_size piece) piece ∷ sections_of_piece (drop (section_size piece) piece) else [])
unfolding sections_behind
sections_of_piece-step [] = refl
sections_of_piece-step (b ∷ bs) =
    let n = section_size (b ∷ bs) in
    let rest = sections_behind-drop (n - 1) bs ∙ ap (sections_behind 0) (drop-pred n b bs (omega arith)) in
    ap (λ found. cond (begins_whole (b ∷ bs)) (take n (b ∷ bs) ∷ found) []) rest

-- what a whole section at the front says
pub record IsWholeFront (piece : List ℕ) : Type 0 where
  pub first : slice_index piece 0 ≢ 255
  pub header : 3 ≤ length piece
  pub size : section_size piece ≤ length piece

pub IsWholeFront-from : (piece : List ℕ) → begins_whole piece ≡ true → IsWholeFront piece
IsWholeFront-from piece h =
    let outer = and_parts _ _ h in
    let inner = and_parts _ _ outer.1 in
    record { first = eqb-false _ _ (not-true _ outer.0); header = leb-true _ _ inner.0; size = leb-true _ _ inner.1 }

pub IsWholeFront-to : (piece : List ℕ) → IsWholeFront piece → begins_whole piece ≡ true
IsWholeFront-to piece h =
    and_from _ _ (not_from_false _ (ne_eqb _ _ h.first)) (and_from _ _ (le-leb _ _ h.header) (le-leb _ _ h.size))

pub section_size-append : (p q : List ℕ) → 3 ≤ length p → section_size (p ++ q) ≡ section_size p
section_size-append [] q h = absurd (omega arith)
section_size-append (a ∷ []) q h = absurd (omega arith)
section_size-append (a ∷ b ∷ []) q h = absurd (omega arith)
section_size-append (a ∷ b ∷ c ∷ r) q h = refl

pub first-append : (p q : List ℕ) → 0 < length p → slice_index (p ++ q) 0 ≡ slice_index p 0
first-append [] q h = absurd (omega arith)
first-append (a ∷ r) q h = refl

pub begins_whole-append : (p q : List ℕ) → begins_whole p ≡ true → begins_whole (p ++ q) ≡ true
begins_whole-append p q h =
    let front = IsWholeFront-from p h in
    let size = section_size-append p q front.header in
    let first = first-append p q (omega arith) in
    IsWholeFront-to (p ++ q) (record {
      first = λ e. front.first (sym first ∙ e);
      header = omega (arith, length-append p q);
      size = omega (arith, length-append p q);
    })

-- a whole section at the front of what is known stays the first, whatever comes behind
pub sections_of_piece-whole : (p q : List ℕ) → begins_whole p ≡ true → sections_of_piece (p ++ q) ≡ take (section_size p) p ∷ sections_of_piece (drop (section_size p) p ++ q)
sections_of_piece-whole p q h =
    let front = IsWholeFront-from p h in
    let size = section_size-append p q front.header in
    let whole = begins_whole-append p q h in
    let taken = take-append-le (section_size p) p q front.size in
    let left = drop-append-le (section_size p) p q front.size in
    sections_of_piece-step (p ++ q) ∙ cond-true _ _ _ whole ∙ rw size (ap (λ x. x ∷ sections_of_piece (drop (section_size p) (p ++ q))) taken ∙ ap (λ x. take (section_size p) p ∷ sections_of_piece x) left)

pub sections_of_piece-none : (p : List ℕ) → begins_whole p ≡ false → sections_of_piece p ≡ []
sections_of_piece-none p h = sections_of_piece-step p ∙ cond-false _ _ _ h

-- a piece that goes on with stuffing has no further section
pub sections_of_piece-stuffing : (p : List ℕ) → slice_index p 0 ≡ 255 → sections_of_piece p ≡ []
sections_of_piece-stuffing p e =
    sections_of_piece-none p (elim (cases_Bool (begins_whole p)) [ inl h ↦ absurd ((IsWholeFront-from p h).first e) | inr h ↦ h ])

append-at_whole : (b : ℕ) (bs q : List ℕ) (more : List (List ℕ)) → begins_whole (b ∷ bs) ≡ true → sections_behind (section_size (b ∷ bs) - 1) (bs ++ q) ≡ sections_behind (section_size (b ∷ bs) - 1) bs ++ more → sections_behind 0 (b ∷ (bs ++ q)) ≡ sections_behind 0 (b ∷ bs) ++ more
unfolding sections_behind
append-at_whole b bs q more h e =
    let n = section_size (b ∷ bs) in
    let front = IsWholeFront-from (b ∷ bs) h in
    let size = section_size-append (b ∷ bs) q front.header in
    let taken = take-append-le n (b ∷ bs) q front.size in
    cond-true _ _ _ (begins_whole-append (b ∷ bs) q h) ∙ rw size (ap (λ x. x ∷ sections_behind (n - 1) (bs ++ q)) taken ∙ ap (λ x. take n (b ∷ bs) ∷ x) e) ∙ sym (ap (λ x. x ++ more) (cond-true _ _ _ h))

append-at_none : (b : ℕ) (bs q : List ℕ) → begins_whole (b ∷ bs) ≡ false → sections_behind 0 (b ∷ (bs ++ q)) ≡ sections_behind 0 (b ∷ bs) ++ sections_behind 0 (b ∷ (bs ++ q))
append-at_none b bs q h = sym (ap (λ x. x ++ sections_behind 0 (b ∷ (bs ++ q))) (sections_of_piece-none (b ∷ bs) h))

-- more bytes only add sections
sections_behind-append : (n : ℕ) (p q : List ℕ) → (more : List (List ℕ)) × (sections_behind n (p ++ q) ≡ sections_behind n p ++ more)
unfolding sections_behind
sections_behind-append n [] q = (sections_behind n q, refl)
sections_behind-append (suc n) (b ∷ bs) q = sections_behind-append n bs q
sections_behind-append zero (b ∷ bs) q =
    let later = sections_behind-append (section_size (b ∷ bs) - 1) bs q in
    elim (cases_Bool (begins_whole (b ∷ bs))) as (λ _. (more : List (List ℕ)) × (sections_behind 0 (b ∷ (bs ++ q)) ≡ sections_behind 0 (b ∷ bs) ++ more)) [
      | inl h ↦ (later.0, append-at_whole b bs q later.0 h later.1)
      | inr h ↦ (sections_behind 0 (b ∷ (bs ++ q)), append-at_none b bs q h)
    ]

pub sections_of_piece-append : (p q : List ℕ) → (more : List (List ℕ)) × (sections_of_piece (p ++ q) ≡ sections_of_piece p ++ more)
sections_of_piece-append p q = sections_behind-append 0 p q
