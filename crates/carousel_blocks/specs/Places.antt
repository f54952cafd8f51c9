-- Which modules are held, told in places of the list of messages (this project's own, after ARIB STD-B24, volume 3).
-- `law_of_first_blocks` and `law_of_held_modules` say that these are the blocks and the bytes of `Held`.
use Rattle.std.specs.Prelude.{◌≡◌, ◌<◌, ◌≤◌, ◌*◌, ℕ, List, length, take, drop, Some, None}
use Rattle.dsmcc_messages.specs.Ddb.{DataBlock}
use Rattle.carousel_blocks.specs.declared.standing.Standing.{Standing}
use Rattle.carousel_blocks.specs.Message.{Message}
use Rattle.carousel_blocks.specs.InForce.{in_force, standing_of, block_count}
use Rattle.carousel_blocks.specs.Held.{CountsAt}

-- The bytes are those of the block with that number of the module: it stands at the least place at which a block with
-- the number counts.
pub record IsFirstBlock (messages : List Message) («module» number : ℕ) (bytes : List ℕ) : Type 0 where
  pub place : ℕ
  pub block : DataBlock
  pub counts : CountsAt messages «module» block place
  pub number_is : block.number ≡ number
  pub bytes_are : block.block ≡ bytes
  pub least : (other : ℕ) (another : DataBlock) → CountsAt messages «module» another other → another.number ≡ number → place ≤ other

-- The module is held with these bytes: its entry in force isn't skipped, they are as many as the entry says, and cut
-- into blocks of the DII's blockSize, of which the last may be shorter, they are the module's blocks.
pub record IsHeld (messages : List Message) («module» : ℕ) (bytes : List ℕ) : Type 0 where
  pub standing : Standing
  pub standing_is : standing_of (in_force messages) «module» ≡ Some standing
  pub unskipped : standing.skip ≡ None
  pub size : length bytes ≡ standing.entry.size
  pub blocks : (number : ℕ) → number < block_count standing.block_size standing.entry.size
      → IsFirstBlock messages «module» number (take standing.block_size (drop (number * standing.block_size) bytes))
