-- What walks from a node lead to is a node.
use Rattle.std.proofs.Common.{ℕ, ◌+◌, ◌<◌, ◌≤◌, Bool, true, false, List, [], ◌∷◌, length, Option, Some, None, arith}
use Rattle.std.specs.Prelude.{if◌then◌else◌, ◌==◌}
use Rattle.dom_tree.specs.Walks.{after, before, first, last, places, places_from}

-- numbers below a limit, and one that may be absent
abbrev pub AreBelow : ℕ → List ℕ → Type 0
AreBelow limit [] = Unit {0}
AreBelow limit (n ∷ numbers) = (n < limit) × AreBelow limit numbers

abbrev pub IsBelow : ℕ → Option ℕ → Type 0
IsBelow limit None = Unit {0}
IsBelow limit (Some n) = n < limit

chosen-below : (limit : ℕ) (t : Bool) (n : ℕ) (numbers : List ℕ) → n < limit
    → AreBelow limit numbers → AreBelow limit (if t then n ∷ numbers else numbers)
chosen-below limit true n numbers h more = (h, more)
chosen-below limit false n numbers h more = more

places_from-below : {A : Type 0} (limit : ℕ) (test : A → Bool) (place : ℕ) (xs : List A)
    → place + length xs ≤ limit → AreBelow limit (places_from test place xs)
places_from-below limit test place [] h = tt
places_from-below limit test place (x ∷ xs) h =
    chosen-below limit (test x) place (places_from test (place + 1) xs) (omega arith)
    (places_from-below limit test (place + 1) xs (omega arith))

pub places-below : {A : Type 0} (test : A → Bool) (xs : List A)
    → AreBelow (length xs) (places test xs)
places-below test xs = places_from-below (length xs) test 0 xs (omega arith)

pub either-below : (limit : ℕ) (t : Bool) (one other : Option ℕ) → IsBelow limit one
    → IsBelow limit other → IsBelow limit (if t then one else other)
either-below limit true one other h more = h
either-below limit false one other h more = more

pub first-below : (limit : ℕ) (numbers : List ℕ) → AreBelow limit numbers
    → IsBelow limit (first numbers)
first-below limit [] all = tt
first-below limit (n ∷ numbers) all = all.0

pub last-below : (limit : ℕ) (numbers : List ℕ) → AreBelow limit numbers
    → IsBelow limit (last numbers)
last-below limit [] all = tt
last-below limit (n ∷ []) all = all.0
last-below limit (n ∷ m ∷ numbers) all = last-below limit (m ∷ numbers) all.1

pub after-below : (limit : ℕ) (numbers : List ℕ) (n : ℕ) → AreBelow limit numbers
    → IsBelow limit (after numbers n)
after-below limit [] n all = tt
after-below limit (m ∷ numbers) n all =
    either-below limit (m == n) (first numbers) (after numbers n)
    (first-below limit numbers all.1) (after-below limit numbers n all.1)

pub before-below : (limit : ℕ) (numbers : List ℕ) (n : ℕ) → AreBelow limit numbers
    → IsBelow limit (before numbers n)
before-below limit [] n all = tt
before-below limit (l ∷ []) n all = tt
before-below limit (l ∷ m ∷ numbers) n all =
    either-below limit (m == n) (Some l) (before (m ∷ numbers) n) all.0
    (before-below limit (m ∷ numbers) n all.1)
