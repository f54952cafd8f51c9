-- A device of the proofs: how a buffer holds the blocks of a module. (This project's own.)
use Rattle.std.specs.Prelude.{◌≡◌, ◌≤◌, ℕ, ◌+◌, ◌-◌, ◌*◌, min, Bool, true, false, List, [], ◌∷◌, ◌++◌, length, take, drop, replicate, slice_set, Option, Some, None, is_some}
use Rattle.std.specs.List.{list_all}
use Rattle.carousel_blocks.specs.declared.buffer.Shape.{Shape}
use Rattle.carousel_blocks.specs.InForce.{block_count}

-- the blocks that bytes hold, so many bytes each: those that are marked came
abbrev pub blocks_in : ℕ → List Bool → List ℕ → List (Option (List ℕ))
blocks_in size [] bytes = []
blocks_in size (true ∷ marks) bytes = Some (take size bytes) ∷ blocks_in size marks (drop size bytes)
blocks_in size (false ∷ marks) bytes = None ∷ blocks_in size marks (drop size bytes)

-- how many aren't marked
abbrev pub missing_in : List Bool → ℕ
missing_in [] = 0
missing_in (true ∷ marks) = missing_in marks
missing_in (false ∷ marks) = missing_in marks + 1

-- there is a mark, and it isn't set
abbrev pub is_unmarked : Option Bool → Bool
is_unmarked (Some false) = true
is_unmarked _ = false

-- there is a mark, and it is set
abbrev pub is_marked : Option Bool → Bool
is_marked (Some true) = true
is_marked _ = false

-- no block came for the place yet
abbrev pub is_missing : Option (Option (List ℕ)) → Bool
is_missing (Some None) = true
is_missing _ = false

-- each block came
abbrev pub all_came : List (Option (List ℕ)) → Bool
all_came blocks = list_all is_some blocks

-- the bytes, with these in place of as many from a place on
abbrev pub overwritten : ℕ → List ℕ → List ℕ → List ℕ
overwritten start block bytes = take start bytes ++ (block ++ drop (start + length block) bytes)

-- bytes for the module, a mark for each block, and how many blocks are missing; the blocks make up the module
pub record IsSound (block_size size : ℕ) (bytes : List ℕ) (marks : List Bool) (missing : ℕ) : Type 0 where
  pub size_is : length bytes ≡ size
  pub count : length marks ≡ block_count block_size size
  pub missing_is : missing ≡ missing_in marks
  pub covers : size ≤ block_count block_size size * block_size

-- what a buffer holds: a module's shape and, for each block number, the block, where it came
pub record BufferState : Type 0 where
  pub shape : Shape
  pub blocks : List (Option (List ℕ))

-- the module's blocks: all but the last have the same size
abbrev pub shape_count : Shape → ℕ
shape_count shape = block_count shape.block_size shape.size

abbrev pub shape_length : Shape → ℕ → ℕ
shape_length shape number = min shape.block_size (shape.size - number * shape.block_size)

-- before the first block
abbrev pub without_blocks : Shape → BufferState
without_blocks shape = record { shape = shape; blocks = replicate (shape_count shape) None }

-- with a block more
abbrev pub with_block_at : ℕ → List ℕ → BufferState → BufferState
with_block_at number block buffer = record { shape = buffer.shape; blocks = slice_set buffer.blocks number (Some block) }

-- without the block of that number
abbrev pub without_block_at : ℕ → BufferState → BufferState
without_block_at number buffer = record { shape = buffer.shape; blocks = slice_set buffer.blocks number None }

-- what a buffer holds where it may have no room yet
abbrev pub buffer_of : Shape → Option BufferState → BufferState
buffer_of shape None = without_blocks shape
buffer_of shape (Some blocks) = blocks

-- the blocks make up the module, and the room is of its shape
pub record IsBuffer (shape : Shape) (blocks : Option BufferState) : Type 0 where
  pub covers : shape.size ≤ shape_count shape * shape.block_size
  pub same : (state : BufferState) → blocks ≡ Some state → state.shape ≡ shape
