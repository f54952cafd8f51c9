-- The first node that passes a test.
use Rattle.std.proofs.Common.{◌≡◌, ℕ, zero, suc, ◌+◌, ◌<◌, ◌≤◌, Bool, true, false, ℤ, List, length, Some, None, inl, inr, find, refl, sym, ap, ◌∙◌, arith}
use Rattle.std.specs.List.{range_with_len}
use Rattle.std.proofs.lemmas.Bool.{cases_eq, cond-false, cond-true}
use Rattle.style_cascade.specs.StyledTrees.{StyledTree}
use Rattle.focus_keys.specs.Targets.{access_target_of, nav_target_of}
use Rattle.focus_keys.specs.Views.{is_access_target, is_nav_target}

-- no number below this one passes
pub record NoneBefore (test : ℕ → Bool) (count : ℕ) : Type 0 where
  pub none : (k : ℕ) → k < count → test k ≡ false

find-found : (test : ℕ → Bool) (start n k : ℕ) → start ≤ k → k < start + n → ((j : ℕ) → j < k → test j ≡ false) → test k ≡ true → find test (range_with_len start n) ≡ Some k
find-found test start zero k low high before e = absurd (omega (arith, low, high))
find-found test start (suc n) k low high before e =
    elim (cases_eq start k) [
      | inl same ↦ cond-true (test start) _ _ (ap test same ∙ e) ∙ ap Some same
      | inr other ↦
          cond-false (test start) _ _ (before start (omega (arith, low, other)))
          ∙ find-found test (start + 1) n k (omega (arith, low, other)) (omega (arith, high)) before e
    ]

find-none : (test : ℕ → Bool) (start n : ℕ) → ((j : ℕ) → j < start + n → test j ≡ false) → find test (range_with_len start n) ≡ None
find-none test start zero before = refl
find-none test start (suc n) before = cond-false (test start) _ _ (before start (omega arith)) ∙ find-none test (start + 1) n (λ j low. before j (omega (arith, low)))

pub nav_target_of-found : (tree : StyledTree) (number : ℤ) (node : ℕ) → node < length tree.items → NoneBefore (is_nav_target tree number) node → is_nav_target tree number node ≡ true → Some node ≡ nav_target_of tree number
unfolding nav_target_of
nav_target_of-found tree number node h before e = sym (find-found (is_nav_target tree number) 0 (length tree.items) node (omega arith) (omega (arith, h)) before.none e)

pub nav_target_of-none : (tree : StyledTree) (number : ℤ) → NoneBefore (is_nav_target tree number) (length tree.items) → None ≡ nav_target_of tree number
unfolding nav_target_of
nav_target_of-none tree number before = sym (find-none (is_nav_target tree number) 0 (length tree.items) (λ j low. before.none j (omega (arith, low))))

pub access_target_of-found : (tree : StyledTree) (letter : List ℕ) (node : ℕ) → node < length tree.items → NoneBefore (is_access_target tree letter) node → is_access_target tree letter node ≡ true → Some node ≡ access_target_of tree letter
unfolding access_target_of
access_target_of-found tree letter node h before e = sym (find-found (is_access_target tree letter) 0 (length tree.items) node (omega arith) (omega (arith, h)) before.none e)

pub access_target_of-none : (tree : StyledTree) (letter : List ℕ) → NoneBefore (is_access_target tree letter) (length tree.items) → None ≡ access_target_of tree letter
unfolding access_target_of
access_target_of-none tree letter before = sym (find-none (is_access_target tree letter) 0 (length tree.items) (λ j low. before.none j (omega (arith, low))))
