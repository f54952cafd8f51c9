-- A device of the proofs: how the modules of a DII are made of its entries. (This project's own.)
use Rattle.std.specs.Prelude.{◌≡◌, ℕ, ◌==◌, Bool, false, if◌then◌else◌, List, find, Option, Some, None, option_map}
use Rattle.std.specs.HashMap.{HashMap}
use Rattle.dsmcc_messages.specs.declared.dii.Dii.{Dii}
use Rattle.dsmcc_messages.specs.Ddb.{DataBlock}
use Rattle.carousel_blocks.specs.declared.standing.Standing.{Standing}
use Rattle.carousel_blocks.specs.declared.modules.Module.{Module}
use Rattle.carousel_blocks.specs.declared.modules.Draft.{Draft}
use Rattle.carousel_blocks.specs.InForce.{is_of_module, standings, unskipped_size}
use Rattle.carousel_blocks.specs.Held.{Kept, is_asked, same_standing}
use Rattle.carousel_blocks.specs.Modules.{Buffers, AreModules, kept_at, kept_for}

-- the modules with these standings, which keep what they kept where they are unchanged
pub record HaveStandings {S : Type 0} (kept : ℕ → Option Kept) (standings : List Standing) (modules : HashMap ℕ Module S) (buffers : Buffers) : Type 0 where
  pub are : AreModules modules buffers
  pub kept_is : (number : ℕ) → kept_at modules buffers number ≡ option_map (kept_for kept) (find (is_of_module number) standings)

-- the modules of a DII
abbrev pub AreModulesOf : {S : Type 0} → Dii → (ℕ → Option Kept) → HashMap ℕ Module S → Buffers → Type 0
AreModulesOf dii kept modules buffers = HaveStandings kept (standings dii) modules buffers

-- the modules of the entries of a DII so far, which have these standings
pub record IsDraft (dii : Dii) (kept : ℕ → Option Kept) (before : List Standing) (draft : Draft) (buffers : Buffers) : Type 0 where
  pub download : draft.download ≡ dii.download
  pub block_size : draft.block_size ≡ dii.block_size
  pub size : draft.size ≡ unskipped_size before
  pub modules : HaveStandings kept before draft.modules buffers

abbrev pub carried_of : Option Module → Standing → Option Module
carried_of None standing = None
carried_of (Some m) standing = if same_standing m.standing standing then Some m else None

-- the key of a module, where it has one
abbrev pub key_of : Option Module → Option ℕ
key_of None = None
key_of (Some m) = m.key

abbrev pub is_key : ℕ → Option ℕ → Bool
is_key key None = false
is_key key (Some other) = other == key

abbrev pub asked_key_of : Option Module → DataBlock → Option ℕ
asked_key_of None block = None
asked_key_of (Some m) block = if is_asked m.standing block then m.key else None
