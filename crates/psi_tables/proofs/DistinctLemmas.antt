-- The components of some streams are apart, and few.
use Rattle.std.proofs.Common.{◌≡◌, ℕ, zero, suc, ◌≤◌, Bool, true, false, cond, eqb, List, [], ◌∷◌, ◌++◌, length, take, refl, sym, subst, append_assoc, arith}
use Rattle.std.specs.Prelude.{AllPairs, ◌||◌, Option, Some, None, option_map, unwrap_or}
use Rattle.std.specs.List.{AllByRecursion, filter_map}
use Rattle.std.proofs.lemmas.Bool.{eqb-false}
use Rattle.std.proofs.lemmas.List.{append-nil, length-take}
use Rattle.std.proofs.lemmas.List.Elements.{All-from_recursion}
use Rattle.std.proofs.lemmas.List.Kept.{AllPairs-cons}
use Rattle.psi_tables.specs.declared.components.Component.{Component}
use Rattle.psi_tables.specs.declared.pmt.Pmt.{Pmt}
use Rattle.psi_tables.specs.declared.pmt.PmtStream.{PmtStream}
use Rattle.psi_tables.specs.declared.services.Selection.{Selection}
use Rattle.psi_tables.specs.declared.services.Selection.TheVariants.{First, Service, Pid}
use Rattle.psi_tables.specs.Components.{AreApart, component_of_stream, is_taken, distinct_behind, components_of}
use Rattle.psi_tables.specs.History.{Handled, last_of, map_at_first, map_of, moments, pmt_counting}

-- any two of them are apart
abbrev Apart : List Component → Type 0
Apart [] = Unit {0}
Apart (x ∷ xs) = AllByRecursion (AreApart x) xs × Apart xs

-- each of them is apart from the one
abbrev AllFrom : List Component → Component → Type 0
AllFrom [] c = Unit {0}
AllFrom (x ∷ xs) c = AreApart x c × AllFrom xs c

from_more : (x c : Component) (xs : List Component) → AllByRecursion (AreApart x) xs → AreApart x c → AllByRecursion (AreApart x) (xs ++ c ∷ [])
from_more x c [] all one = (one, tt)
from_more x c (y ∷ xs) all one = (all.0, from_more x c xs all.1 one)

apart_more : (xs : List Component) (c : Component) → Apart xs → AllFrom xs c → Apart (xs ++ c ∷ [])
apart_more [] c a f = (tt, tt)
apart_more (x ∷ xs) c a f = (from_more x c xs a.0 f.0, apart_more xs c a.1 f.1)

from_take : (x : Component) (n : ℕ) (xs : List Component) → AllByRecursion (AreApart x) xs → AllByRecursion (AreApart x) (take n xs)
from_take x zero [] all = tt
from_take x zero (y ∷ xs) all = tt
from_take x (suc n) [] all = tt
from_take x (suc n) (y ∷ xs) all = (all.0, from_take x n xs all.1)

apart_take : (n : ℕ) (xs : List Component) → Apart xs → Apart (take n xs)
apart_take zero [] a = tt
apart_take zero (x ∷ xs) a = tt
apart_take (suc n) [] a = tt
apart_take (suc n) (x ∷ xs) a = (from_take x n xs a.0, apart_take n xs a.1)

apart_pairs : (xs : List Component) → Apart xs → AllPairs AreApart xs
apart_pairs [] a = λ i j d lt below. absurd (omega arith)
apart_pairs (x ∷ xs) a = AllPairs-cons AreApart x xs (All-from_recursion (AreApart x) xs a.0) (apart_pairs xs a.1)

neither : (a b : Bool) → (a || b) ≡ false → (a ≡ false) × (b ≡ false)
neither true b e = absurd cc
neither false b e = (refl, e)

fresh : (taken : List Component) (c : Component) → is_taken taken c ≡ false → AllFrom taken c
fresh [] c e = tt
fresh (x ∷ taken) c e =
    let p = neither (eqb x.tag c.tag || eqb x.pid c.pid) (is_taken taken c) e in
    let q = neither (eqb x.tag c.tag) (eqb x.pid c.pid) p.0 in
    ((eqb-false x.tag c.tag q.0, eqb-false x.pid c.pid q.1), fresh taken c p.1)

distinct_apart : (taken components : List Component) → Apart taken → Apart (taken ++ distinct_behind taken components)
unfolding distinct_behind
distinct_apart taken [] a = subst Apart (sym (append-nil taken)) a
distinct_apart taken (c ∷ components) a = by_test (is_taken taken c) taken c components refl a (distinct_apart taken components a) (λ more. distinct_apart (taken ++ c ∷ []) components more)
  where
    by_test : (test : Bool) (taken : List Component) (c : Component) (components : List Component) → is_taken taken c ≡ test → Apart taken → Apart (taken ++ distinct_behind taken components)
        → (Apart (taken ++ c ∷ []) → Apart ((taken ++ c ∷ []) ++ distinct_behind (taken ++ c ∷ []) components)) → Apart (taken ++ cond test (distinct_behind taken components) (c ∷ distinct_behind (taken ++ c ∷ []) components))
    by_test true taken c components e a without with_it = without
    by_test false taken c components e a without with_it = subst Apart (append_assoc taken (c ∷ []) (distinct_behind (taken ++ c ∷ []) components)) (with_it (apart_more taken c a (fresh taken c e)))

pub components_apart : (streams : List PmtStream) → AllPairs AreApart (components_of streams)
unfolding components_of
components_apart streams = apart_pairs (take 16 (distinct_behind [] (filter_map component_of_stream streams))) (apart_take 16 (distinct_behind [] (filter_map component_of_stream streams)) (distinct_apart [] (filter_map component_of_stream streams) tt))

pub components_few : (streams : List PmtStream) → length (components_of streams) ≤ 16
unfolding components_of
components_few streams = omega (arith, length-take 16 (distinct_behind [] (filter_map component_of_stream streams)))

-- the components of a map, whatever came
first_apart : (selection : Selection) → AllPairs AreApart (map_at_first selection)
first_apart First = apart_pairs [] tt
first_apart (Service program) = apart_pairs [] tt
first_apart (Pid pid) = apart_pairs (record { tag = 0x40; pid = pid } ∷ []) (tt, tt)

pub map_apart : (selection : Selection) (history : List Handled) → AllPairs AreApart (map_of selection history)
map_apart selection history = by (last_of (filter_map (pmt_counting selection) (moments [] history)))
  where
    by : (pmt : Option Pmt) → AllPairs AreApart (unwrap_or (option_map (λ pmt. components_of pmt.streams) pmt) (map_at_first selection))
    by None = first_apart selection
    by (Some pmt) = components_apart pmt.streams
