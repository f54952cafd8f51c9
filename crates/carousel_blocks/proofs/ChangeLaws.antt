-- Laws of what is told of a component's modules.
use Rattle.std.proofs.Common.{◌≡◌, ℕ, ◌<◌, nat_eq, Bool, List, refl, ◌⊎◌, inl, inr}
use Rattle.std.specs.Prelude.{Option, Some, None, IsSome, Contains, All, option_map, option_and_then, is_some}
use Rattle.std.specs.HashMap.{HashMap, ContainsKey, get as value_at}
use Rattle.std.specs.List.{filter_map}
use Rattle.std.specs.List.Sorted.{IsStrictlyIncreasing}
use Rattle.std.proofs.lemmas.List.Elements.{recursion_from_All}
use Rattle.carousel_blocks.specs.declared.modules.Module.{Module}
use Rattle.carousel_blocks.specs.Held.{Kept, bytes_kept}
use Rattle.carousel_blocks.specs.Modules.{Buffers, module_kept, kept_at, standing_kept}
use Rattle.carousel_blocks.specs.Changes.{number_bound}
use Rattle.carousel_blocks.specs.Steps.{entry_change, entry_change_at, entry_changes}
use Rattle.carousel_blocks.proofs.NumberLaws.{filter_map-listed}

-- ---- the modules of two DIIs

-- a change is that of a module that either DII has
has_entry : (old new : ℕ → Option Kept) (n : ℕ) → IsSome (entry_change_at old new n) → IsSome (old n) ⊎ IsSome (new n)
has_entry old new n h = by (old n) (new n) (is_some (option_and_then bytes_kept (new n))) h where
  by : (x y : Option Kept) (is_held : Bool) → IsSome (entry_change n (standing_kept x) (standing_kept y) is_held) → IsSome x ⊎ IsSome y
  by None None is_held h = cc
  by None (Some y) is_held h = inr refl
  by (Some x) y is_held h = inl refl

module _ {S : Type 0} where
  -- all changes are those at numbers that list the modules of both, each once and in order
  pub changes_listed : (old new : HashMap ℕ Module S) (buffers : Buffers) (ns : List ℕ) → IsStrictlyIncreasing ns
      → ((n : ℕ) → ContainsKey nat_eq old n → Contains ns n) → ((n : ℕ) → ContainsKey nat_eq new n → Contains ns n) → All (λ n. n < number_bound) ns
      → filter_map (entry_change_at (kept_at old buffers) (kept_at new buffers)) ns ≡ entry_changes (kept_at old buffers) (kept_at new buffers)
  unfolding entry_changes
  changes_listed old new buffers ns rises has_old has_new fit =
      filter_map-listed (entry_change_at (kept_at old buffers) (kept_at new buffers)) number_bound ns rises (recursion_from_All (λ n. n < number_bound) ns fit) (λ n h. listed n (has_entry (kept_at old buffers) (kept_at new buffers) n h)) where
        there : (x : Option Module) → IsSome (option_map (module_kept buffers) x) → IsSome x
        there None h = cc
        there (Some m) h = refl

        listed : (n : ℕ) → IsSome (kept_at old buffers n) ⊎ IsSome (kept_at new buffers n) → Contains ns n
        listed n (inl h) = has_old n (there (value_at nat_eq old n) h)
        listed n (inr h) = has_new n (there (value_at nat_eq new n) h)
