-- What is kept of the firings of all items, behind one firing more, and which item fires by it.
use Rattle.std.proofs.Common.{◌≡◌, ℕ, nat_eq, Bool, true, false, cond, List, [], ◌∷◌, ◌++◌, Option, Some, None, refl, sym, ap, ◌∙◌}
use Rattle.std.specs.Prelude.{unwrap_or}
use Rattle.std.specs.Map.{lookup}
use Rattle.std.proofs.lemmas.Bool.{eqb-true, eq-eqb}
use Rattle.indexmap.specs.IndexMap.{insert_entry}
use Rattle.event_messages.specs.declared.messages.Message.{Message}
use Rattle.event_messages.specs.Firings.{Happening, fires, firing_of}
use Rattle.event_messages.specs.ItemFirings.{KeptFirings, fires_again, no_firings, with_firing}
use Rattle.event_messages.specs.Kept.{FiringsOfItems, StandsFor, firings_of, item_fires, version_in, with_noted}
use Rattle.event_messages.proofs.ItemFiringLaws.{fires-by-last, is_new}
use Rattle.event_messages.proofs.ItemFiringLemmas.{turn, twice}
use Rattle.event_messages.proofs.KeptLemmas.{Sets, stands-fired, version_same}

number-sym : (a b : ℕ) → nat_eq a b ≡ nat_eq b a
number-sym a b = by (nat_eq a b) (nat_eq b a) refl refl
  where
    by : (s t : Bool) → nat_eq a b ≡ s → nat_eq b a ≡ t → s ≡ t
    by true true e f = refl
    by false false e f = refl
    by true false e f =
        let yes = eq-eqb b a (sym (eqb-true a b e)) in
        absurd cc
    by false true e f =
        let yes = eq-eqb a b (sym (eqb-true b a f)) in
        absurd cc

-- behind the insertion of an item's firings the look-ups of the others are as before
inserted : (item : ℕ) (after : KeptFirings) (kept : FiringsOfItems) → Sets item (Some after) kept (insert_entry nat_eq kept item after)
inserted item after [] other = ap (λ test. cond test (Some after) None) (number-sym other item)
inserted item after (entry ∷ kept) other = by (nat_eq item entry.0) refl (inserted item after kept other)
  where
    by : (test : Bool) → nat_eq item entry.0 ≡ test
        → lookup (nat_eq other) (insert_entry nat_eq kept item after) ≡ cond (nat_eq item other) (Some after) (lookup (nat_eq other) kept)
        → lookup (nat_eq other) (cond test ((entry.0, after) ∷ kept) (entry ∷ insert_entry nat_eq kept item after))
        ≡ cond (nat_eq item other) (Some after) (cond (nat_eq other entry.0) (Some entry.1) (lookup (nat_eq other) kept))
    by true e rest =
        let asked : nat_eq other entry.0 ≡ nat_eq item other = ap (nat_eq other) (sym (eqb-true item entry.0 e)) ∙ number-sym other item in
        ap (λ test. cond test (Some after) (lookup (nat_eq other) kept)) asked
        ∙ twice (nat_eq item other) (Some after) (Some entry.1) (lookup (nat_eq other) kept)
        ∙ ap (λ test. cond (nat_eq item other) (Some after) (cond test (Some entry.1) (lookup (nat_eq other) kept))) (sym asked)
    by false e rest =
        ap (λ found. cond (nat_eq other entry.0) (Some entry.1) found) rest
        ∙ turn (nat_eq other entry.0) (nat_eq item other) (Some entry.1) (Some after) (lookup (nat_eq other) kept) apart
      where
        apart : nat_eq other entry.0 ≡ true → nat_eq item other ≡ true → Some entry.1 ≡ Some after
        apart s t =
            let yes = eq-eqb item entry.0 (eqb-true item other t ∙ eqb-true other entry.0 s) in
            absurd cc

found-firings : (item : ℕ) (kept : FiringsOfItems) → version_same (lookup (nat_eq item) kept) (firings_of item kept)
found-firings item kept group id = by (lookup (nat_eq item) kept)
  where
    by : (found : Option KeptFirings) → version_in group id found ≡ version_in group id (Some (unwrap_or found no_firings))
    by None = refl
    by (Some firings) = refl

pub noted-stands : (item : ℕ) (message : Message) (kept : FiringsOfItems) (happenings : List Happening) → StandsFor kept happenings → StandsFor (with_noted item message kept) (happenings ++ firing_of item message ∷ [])
noted-stands item message kept =
    stands-fired item message kept (with_noted item message kept) (firings_of item kept) (with_firing message (firings_of item kept)) (inserted item (with_firing message (firings_of item kept)) kept) (found-firings item kept) refl

pub fires-as-kept : (item : ℕ) (message : Message) (kept : FiringsOfItems) (happenings : List Happening) → StandsFor kept happenings → item_fires item message kept ≡ fires item message happenings
fires-as-kept item message kept happenings stands =
    by (lookup (nat_eq item) kept)
    ∙ (ap (is_new message.version) (stands item message.group message.id)
    ∙ sym (fires-by-last item message happenings))
  where
    by : (found : Option KeptFirings) → fires_again message (unwrap_or found no_firings) ≡ is_new message.version (version_in message.group message.id found)
    by None = refl
    by (Some firings) = refl
