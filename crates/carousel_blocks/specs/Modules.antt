-- A device of the proofs: how a carousel keeps its modules: each has a key in the slab of buffers, where it isn't skipped. (This project's own.)
use Rattle.std.specs.Prelude.{◌≡◌, ◌≤◌, ◌*◌, ℕ, nat_eq, if◌then◌else◌, List, [], map, replicate, Option, Some, None, option_map}
use Rattle.std.specs.HashMap.{HashMap, get as value_at}
use Rattle.slab.specs.Slab.{Slab, get}
use Rattle.carousel_blocks.specs.declared.standing.SkipCause.{SkipCause}
use Rattle.carousel_blocks.specs.declared.standing.Standing.{Standing}
use Rattle.carousel_blocks.specs.declared.buffer.Shape.{Shape}
use Rattle.carousel_blocks.specs.declared.modules.Module.{Module}
use Rattle.carousel_blocks.specs.InForce.{block_count}
use Rattle.carousel_blocks.specs.Held.{Kept, count_of, unchanged}
use Rattle.carousel_blocks.specs.Buffers.{BufferState}

abbrev pub Buffers : Type 0
Buffers = Slab BufferState

-- the blocks of a buffer, none where there is no buffer
abbrev pub blocks_of : Option BufferState → List (Option (List ℕ))
blocks_of None = []
blocks_of (Some buffer) = buffer.blocks

abbrev pub blocks_at : Buffers → Option ℕ → List (Option (List ℕ))
blocks_at buffers None = []
blocks_at buffers (Some key) = blocks_of (get buffers key)

-- what is kept of a module
abbrev pub module_kept : Buffers → Module → Kept
module_kept buffers m = record { standing = m.standing; blocks = blocks_at buffers m.key }

-- the shape of the buffer that a module has, where it isn't skipped
abbrev pub shape_by : Standing → Option SkipCause → Option Shape
shape_by standing None = Some (record { number = standing.entry.id; block_size = standing.block_size; size = standing.entry.size })
shape_by standing (Some cause) = None

abbrev pub shape_of : Standing → Option Shape
shape_of standing = shape_by standing standing.skip

-- the blocks of a module that isn't skipped make it up
abbrev pub Covers : Standing → Type 0
Covers standing = standing.skip ≡ None → standing.entry.size ≤ block_count standing.block_size standing.entry.size * standing.block_size

-- the module has a key exactly where it isn't skipped, and under the key a buffer of its own shape
abbrev pub IsBacked : Buffers → Standing → Option ℕ → Type 0
IsBacked buffers standing key = option_map (λ k. option_map (λ b. b.shape) (get buffers k)) key ≡ option_map Some (shape_of standing)

pub record IsModule (buffers : Buffers) (number : ℕ) (m : Module) : Type 0 where
  pub number_is : m.standing.entry.id ≡ number
  pub backed : IsBacked buffers m.standing m.key

-- each buffer stays under its key
abbrev pub Grows : Buffers → Buffers → Type 0
Grows old new = (key : ℕ) (buffer : BufferState) → get old key ≡ Some buffer → get new key ≡ Some buffer

module _ {S : Type 0} where
  -- each module has its number and its buffer
  abbrev pub AreModules : HashMap ℕ Module S → Buffers → Type 0
  AreModules modules buffers = (number : ℕ) (m : Module) → value_at nat_eq modules number ≡ Some m → IsModule buffers number m

  -- what is kept of the module with that number
  abbrev pub kept_at : HashMap ℕ Module S → Buffers → ℕ → Option Kept
  kept_at modules buffers number = option_map (module_kept buffers) (value_at nat_eq modules number)

  -- the modules keep what they kept
  pub record KeepModules (modules : HashMap ℕ Module S) (old new : Buffers) : Type 0 where
    pub are : AreModules modules new
    pub same : (number : ℕ) → kept_at modules new number ≡ kept_at modules old number

  abbrev pub entries_kept : HashMap ℕ Module S → Buffers → List (ℕ × Kept)
  entries_kept modules buffers = map (λ e. (e.0, module_kept buffers e.1)) modules.entries

-- ---- a new DII

-- the blocks that a module has at first: those kept so far, where its entry is unchanged, else none
abbrev pub blocks_kept : Option Kept → List (Option (List ℕ))
blocks_kept None = []
blocks_kept (Some k) = k.blocks

abbrev pub standing_kept : Option Kept → Option Standing
standing_kept k = option_map (λ k. k.standing) k

abbrev pub blocks_for : Option Kept → Standing → List (Option (List ℕ))
blocks_for old standing = if unchanged (standing_kept old) (Some standing) then blocks_kept old else replicate (count_of standing) None

abbrev pub kept_for : (ℕ → Option Kept) → Standing → Kept
kept_for old standing = record { standing = standing; blocks = blocks_for (old standing.entry.id) standing }
