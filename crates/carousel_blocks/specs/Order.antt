-- The order in which blocks come, and repeats, change nothing (this project's own).
use Rattle.std.specs.Prelude.{◌≡◌, ◌↔◌, ℕ, true, List, [], ◌∷◌, Contains, Option}
use Rattle.dsmcc_messages.specs.Ddb.{DataBlock}
use Rattle.carousel_blocks.specs.declared.standing.Standing.{Standing}
use Rattle.carousel_blocks.specs.Message.{Message, Indication, Data}
use Rattle.carousel_blocks.specs.Held.{is_asked_by}

-- the blocks of a list of messages
abbrev pub data_of : List Message → List DataBlock
data_of [] = []
data_of (Indication dii ∷ messages) = data_of messages
data_of (Data block ∷ messages) = block ∷ data_of messages

-- each DII of the messages has this transactionId
abbrev pub OnlyRepeats : ℕ → List Message → Type 0
OnlyRepeats transaction [] = Unit {0}
OnlyRepeats transaction (Indication dii ∷ messages) = (dii.transaction ≡ transaction) × OnlyRepeats transaction messages
OnlyRepeats transaction (Data block ∷ messages) = OnlyRepeats transaction messages

-- the same blocks came, in whatever order and however often
abbrev pub SameBlocks : List Message → List Message → Type 0
SameBlocks messages others = (block : DataBlock) → Contains (data_of messages) block ↔ Contains (data_of others) block

-- no two blocks that a module's entry asks for have one number and different bytes
abbrev pub AreConsistent : Option Standing → List Message → Type 0
AreConsistent standing messages = (a b : DataBlock) → Contains (data_of messages) a → Contains (data_of messages) b
    → is_asked_by standing a ≡ true → is_asked_by standing b ≡ true → a.number ≡ b.number → a.block ≡ b.block
