-- Two lists of sections of a data carousel that bring the same blocks, in whatever order and however often. (DIIs and DDBs
-- are those of ISO/IEC 13818-6, 7.3; what an entry asks for is after ARIB STD-B24, volume 3; when two lists bring the same
-- is this project's own.)
use Rattle.std.specs.Prelude.{◌≡◌, ◌↔◌, ℕ, Bool, true, List, Contains, Some}
use Rattle.dsmcc_messages.specs.declared.dii.Dii.{Dii}
use Rattle.dsmcc_messages.specs.Ddb.{DataBlock, IsDdb}
use Rattle.dsmcc_messages.specs.Dii.{IsDii}
use Rattle.carousel_blocks.specs.Message.{Message}
use Rattle.carousel_blocks.specs.InForce.{in_force, standing_of}
use Rattle.carousel_blocks.specs.Held.{is_asked_by}

-- one of the sections is a DDB with this block
abbrev pub Bring : List (List ℕ) → DataBlock → Type 0
Bring sections block = (section : List ℕ) × Contains sections section × IsDdb section block

-- Each section is a DDB, a DII with this transactionId, or no message of a carousel: so each DII among them has it.
abbrev pub OnlyRepeat : ℕ → List (List ℕ) → Type 0
OnlyRepeat transaction sections = (section : List ℕ) (dii : Dii) → Contains sections section → IsDii section dii
    → dii.transaction ≡ transaction

-- The DII's entry for the block's module asks for the block. Of entries with one number the first counts.
abbrev pub asks_for : Dii → DataBlock → Bool
asks_for dii block = is_asked_by (standing_of (Some dii) block.module) block

-- no two blocks that entries of the DII ask for have one module and number and different bytes
abbrev pub HaveOneReading : Dii → List (List ℕ) → Type 0
HaveOneReading dii sections = (a b : DataBlock) → Bring sections a → Bring sections b
    → asks_for dii a ≡ true → asks_for dii b ≡ true
    → a.module ≡ b.module → a.number ≡ b.number → a.block ≡ b.block

-- The DII is in force after the messages. Both lists of sections repeat it or bring blocks, the same blocks in both, and
-- these have one reading.
pub record Repeats (messages : List Message) (dii : Dii) (first second : List (List ℕ)) : Type 0 where
  pub force : in_force messages ≡ Some dii
  pub first_repeats : OnlyRepeat dii.transaction first
  pub second_repeats : OnlyRepeat dii.transaction second
  pub same : (block : DataBlock) → Bring first block ↔ Bring second block
  pub readings : HaveOneReading dii first
