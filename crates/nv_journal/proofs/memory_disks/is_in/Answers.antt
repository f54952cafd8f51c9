use Rattle.std.proofs.Common.{ℕ, zero, suc, ◌+◌, ◌-◌, ◌<◌, ◌≤◌, ◌⊎◌, List, [], ◌∷◌, ◌++◌, length, get_or, take, refl, inl, inr, subst, arith}
use Rattle.std.proofs.lemmas.List.{take_more}
use Rattle.nv_journal.specs.declared.disks.Extent.{Extent}
use Rattle.nv_journal.specs.Disks.{IsIn}
use Rattle.nv_journal.proofs.memory_disks.is_in.Goals as goal
use Rattle.nv_journal.proofs.memory_disks.is_in.Goals.{else-extent-place-via-then-extent-place+else-place-extent, else-extent-place-via-else-extent-place}

abbrev nothing : Extent
nothing = record { place = 0; size = 0 }

in-at : (xs : List Extent) (i k : ℕ) → i < length xs → (get_or xs i nothing).place ≤ k → k - (get_or xs i nothing).place < (get_or xs i nothing).size → IsIn xs k
in-at [] i k within from to = absurd (omega arith)
in-at (x ∷ xs) zero k within from to = inl (from, omega arith)
in-at (x ∷ xs) (suc i) k within from to = inr (in-at xs i k (omega arith) from to)

out-push : (ys : List Extent) (e : Extent) (k : ℕ) → IsIn (ys ++ e ∷ []) k → IsIn ys k ⊎ ((e.place ≤ k) × (k < e.place + e.size))
out-push [] e k (inl here) = inr here
out-push [] e k (inr none) = absurd none
out-push (y ∷ ys) e k (inl here) = inl (inl here)
out-push (y ∷ ys) e k (inr there) = elim (out-push ys e k there) [ inl inside ↦ inl (inr inside) | inr last ↦ inr last ]

not-more : (xs : List Extent) (i k : ℕ) → i < length xs → (IsIn (take i xs) k → ⊥) → ((get_or xs i nothing).place ≤ k → k < (get_or xs i nothing).place + (get_or xs i nothing).size → ⊥) → IsIn (take (i + 1) xs) k → ⊥
not-more xs i k within before here inside =
    let pushed = subst (λ (l : List Extent). IsIn l k) (take_more xs i nothing within) inside in
    elim (out-push (take i xs) (get_or xs i nothing) k pushed) [ inl was ↦ before was | inr last ↦ here last.0 last.1 ]

pub returns-then-place-extent : goal.returns-then-place-extent
returns-then-place-extent c =
    let a = c.if-extent-place.true in
    let b = c.if-place-extent.true in
    (λ t. in-at c.args.extents.now c.loop-extent.extent-index c.args.place (omega arith) a b, λ inside. refl)

pub loop-extent-preserved : goal.loop-extent-preserved
loop-extent-preserved c = elim c.else-extent-place.branch [
  | else-extent-place-via-then-extent-place+else-place-extent w ↦
      let b = w.if-place-extent.false in
      not-more c.args.extents.now c.loop-extent.extent-index c.args.place (omega arith) c.loop-extent.invariant (λ from to. omega (arith, b, from, to))
  | else-extent-place-via-else-extent-place w ↦
      let b = w.if-extent-place.false in
      not-more c.args.extents.now c.loop-extent.extent-index c.args.place (omega arith) c.loop-extent.invariant (λ from to. omega (arith, b, from))
]
