-- What was given for the needs that nodes name, node by node.
use Rattle.std.proofs.Common.{◌≡◌, ◌≢◌, ℕ, zero, suc, ◌+◌, ◌<◌, ◌≤◌, Bool, true, false, List, [], ◌∷◌, ◌++◌, length, drop, get_or, Option, None, refl, sym, ap, ◌∙◌, subst, add-one, arith}
use Rattle.std.specs.Prelude.{if◌then◌else◌, ◌==◌, slice_set}
use Rattle.std.specs.Option.{unwrap_or}
use Rattle.std.proofs.Math.Seq.{drop-cons}
use Rattle.document_load.specs.StyleTexts.{given_for}
use Rattle.document_load.specs.GiftViews.{AscendsFrom, Reaches}

-- the number is that one, or another

same_number : (n : ℕ) → (n == n) ≡ true
same_number n = grind arith

other_number : (m n : ℕ) → m ≢ n → (m == n) ≡ false
other_number m n h = grind arith

-- one need, and those behind it

given_for-here : (named : List ℕ) (gift : Option (List ℕ)) (given : List (Option (List ℕ))) (node : ℕ) → given_for (node ∷ named) (gift ∷ given) node ≡ unwrap_or gift []
given_for-here named gift given node = ap (λ (b : Bool). if b then unwrap_or gift [] else given_for named given node) (same_number node)

given_for-behind : (first : ℕ) (named : List ℕ) (gift : Option (List ℕ)) (given : List (Option (List ℕ))) (node : ℕ) → first ≢ node → given_for (first ∷ named) (gift ∷ given) node ≡ given_for named given node
given_for-behind first named gift given node h = ap (λ (b : Bool). if b then unwrap_or gift [] else given_for named given node) (other_number first node h)

-- needs that nodes behind this one name
given_for-before : (named : List ℕ) (given : List (Option (List ℕ))) (node : ℕ) → AscendsFrom (node + 1) named → given_for named given node ≡ []
given_for-before [] given node a = refl
given_for-before (first ∷ named) [] node a = refl
given_for-before (first ∷ named) (gift ∷ given) node a =
    let other : first ≢ node = omega (arith, a.0) in
    given_for-behind first named gift given node other ∙ given_for-before named given node (later named first node a)
  where
    later : (named : List ℕ) (first node : ℕ) → AscendsFrom (node + 1) (first ∷ named) → AscendsFrom (node + 1) named
    later [] first node a = tt
    later (second ∷ named) first node a = (omega (arith, a.0, a.1.0), a.1.1)

-- ---- the walk

pub Reaches-start : (named : List ℕ) (given : List (Option (List ℕ))) → AscendsFrom 0 named → Reaches named given 0 0
Reaches-start named given a = record { rises = a; rest = λ node h. refl }

-- the need at the place is one that the node names

cut : {A : Type 0} (xs : List A) (place : ℕ) (d : A) → place < length xs → drop place xs ≡ get_or xs place d ∷ drop (place + 1) xs
cut xs place d h = drop-cons xs place d h ∙ ap (λ (p : ℕ). get_or xs place d ∷ drop p xs) (sym (add-one place))

record IsHere (named : List ℕ) (given : List (Option (List ℕ))) (place number : ℕ) : Type 0 where
  pub named_is : drop place named ≡ number ∷ drop (place + 1) named
  pub given_is : drop place given ≡ get_or given place None ∷ drop (place + 1) given

is_here : (named : List ℕ) (given : List (Option (List ℕ))) (place number : ℕ) → place < length named → length given ≡ length named → get_or named place 0 ≡ number → IsHere named given place number
is_here named given place number within same e =
    let lies : place < length given = omega arith in
    record {
      named_is = cut named place 0 within ∙ ap (λ (n : ℕ). n ∷ drop (place + 1) named) e;
      given_is = cut given place None lies;
    }

pub gift_here : (named : List ℕ) (given : List (Option (List ℕ))) (place number : ℕ) → Reaches named given place number → place < length named → length given ≡ length named → get_or named place 0 ≡ number → unwrap_or (get_or given place None) [] ≡ given_for named given number
gift_here named given place number r within same e =
    let h = is_here named given place number within same e in
    let at : number ≤ number = omega arith in
    sym (r.rest number at ∙ ap (λ (l : List ℕ). given_for l (drop place given) number) h.named_is ∙ ap (λ (l : List (Option (List ℕ))). given_for (number ∷ drop (place + 1) named) l number) h.given_is ∙ given_for-here (drop (place + 1) named) (get_or given place None) (drop (place + 1) given) number)

pub Reaches-here : (named : List ℕ) (given : List (Option (List ℕ))) (place number : ℕ) → Reaches named given place number → place < length named → length given ≡ length named → get_or named place 0 ≡ number → Reaches named given (place + 1) (number + 1)
Reaches-here named given place number r within same e =
    let h = is_here named given place number within same e in
    record {
      rises = (subst (AscendsFrom number) h.named_is r.rises).1;
      rest = λ node later.
          let before : number ≤ node = omega arith in
          let other : number ≢ node = omega arith in
          r.rest node before ∙ ap (λ (l : List ℕ). given_for l (drop place given) node) h.named_is ∙ ap (λ (l : List (Option (List ℕ))). given_for (number ∷ drop (place + 1) named) l node) h.given_is ∙ given_for-behind number (drop (place + 1) named) (get_or given place None) (drop (place + 1) given) node other;
    }

-- the node names no need

rises_behind : (named : List ℕ) (place number : ℕ) → AscendsFrom number (drop place named) → (place < length named → get_or named place 0 ≢ number) → AscendsFrom (number + 1) (drop place named)
rises_behind [] zero number a other = tt
rises_behind [] (suc place) number a other = tt
rises_behind (first ∷ named) zero number a other =
    let differs : first ≢ number = other (omega arith) in
    (omega (arith, a.0), a.1)
rises_behind (first ∷ named) (suc place) number a other = rises_behind named place number a (λ h. other (omega arith))

pub no_gift : (named : List ℕ) (given : List (Option (List ℕ))) (place number : ℕ) → Reaches named given place number → (place < length named → get_or named place 0 ≢ number) → [] ≡ given_for named given number
no_gift named given place number r other =
    let at : number ≤ number = omega arith in
    sym (r.rest number at ∙ given_for-before (drop place named) (drop place given) number (rises_behind named place number r.rises other))

pub Reaches-other : (named : List ℕ) (given : List (Option (List ℕ))) (place number : ℕ) → Reaches named given place number → (place < length named → get_or named place 0 ≢ number) → Reaches named given place (number + 1)
Reaches-other named given place number r other = record {
  rises = rises_behind named place number r.rises other;
  rest = λ node later. r.rest node (omega arith);
}

-- ---- gifts in order

pub slice_set-middle : {A : Type 0} (before behind : List A) (old new : A) → slice_set (before ++ old ∷ behind) (length before) new ≡ before ++ new ∷ behind
slice_set-middle [] behind old new = refl
slice_set-middle (x ∷ before) behind old new = ap (λ l. x ∷ l) (slice_set-middle before behind old new)
