-- A block that completes a module.
use Rattle.std.proofs.Common.{◌≡◌, ℕ, Bool, true, false, not, ◌||◌, List, [], ◌∷◌, ◌++◌, refl, ap, ◌∙◌, if◌then◌else◌}
use Rattle.std.specs.Prelude.{Option, Some, None, is_some, option_map}
use Rattle.dsmcc_messages.specs.Ddb.{DataBlock}
use Rattle.carousel_blocks.specs.declared.changes.Change.{Change}
use Rattle.carousel_blocks.specs.declared.put.Put.TheVariants as puts
use Rattle.carousel_blocks.specs.Carousel.{put_after, has_block}
use Rattle.carousel_blocks.specs.Changes.{change_at}
use Rattle.carousel_blocks.specs.Held.{bytes_held, is_asked_by}
use Rattle.carousel_blocks.specs.InForce.{in_force, standing_of}
use Rattle.carousel_blocks.specs.Message.{Message, Data}
use Rattle.carousel_blocks.specs.Staging.{whole_by, whole_with}

-- the laws of the carousel that are used
abbrev pub BeforeLaw : Type 0
BeforeLaw = (messages : List Message) (message : Message) (number : ℕ) (change : Change)
    → change_at messages (messages ++ message ∷ []) number ≡ Some change → change.status ≡ None
    → bytes_held messages number ≡ None

abbrev pub ChangeLaw : Type 0
ChangeLaw = (messages : List Message) (message : Message) (number : ℕ) (bytes : List ℕ)
    → whole_with messages (Some message) ≡ Some (number, bytes)
    → (change : Change) × (change_at messages (messages ++ message ∷ []) number ≡ Some change) × (change.status ≡ None)

-- it completes its own module, which is held with it
record Completes (messages : List Message) (block : DataBlock) (number : ℕ) : Type 0 where
  pub module_is : number ≡ block.module
  pub held : is_some (bytes_held (messages ++ Data block ∷ []) number) ≡ true

completes : (messages : List Message) (block : DataBlock) (number : ℕ) → put_after messages block ≡ puts.Completed number → Completes messages block number
unfolding put_after
completes messages block number is =
    by (not (is_asked_by (standing_of (in_force messages) block.module) block) || has_block messages block)
    (is_some (bytes_held (messages ++ Data block ∷ []) block.module)) refl is
  where
    by : (ignored held : Bool) → is_some (bytes_held (messages ++ Data block ∷ []) block.module) ≡ held
        → (if ignored then puts.Ignored else (if held then puts.Completed block.module else puts.Kept)) ≡ puts.Completed number
        → Completes messages block number
    by true held held_is is = absurd cc
    by false false held_is is = absurd cc
    by false true held_is is =
        let same : number ≡ block.module = cc in
        record { module_is = same; held = ap (λ n. is_some (bytes_held (messages ++ Data block ∷ []) n)) same ∙ held_is }

pub completed_module : (messages : List Message) (block : DataBlock) (number : ℕ) → put_after messages block ≡ puts.Completed number → number ≡ block.module
completed_module messages block number is = (completes messages block number is).module_is

pub held_after : (messages : List Message) (block : DataBlock) (number : ℕ) → put_after messages block ≡ puts.Completed number
    → is_some (bytes_held (messages ++ Data block ∷ []) number) ≡ true
held_after messages block number is = (completes messages block number is).held

pub not_held_before : BeforeLaw → ChangeLaw → (messages : List Message) (block : DataBlock) (number : ℕ) → put_after messages block ≡ puts.Completed number
    → bytes_held messages number ≡ None
not_held_before before changes messages block number is =
    by (bytes_held (messages ++ Data block ∷ []) number) refl (held_after messages block number is)
  where
    by : (bytes : Option (List ℕ)) → bytes_held (messages ++ Data block ∷ []) number ≡ bytes → is_some bytes ≡ true → bytes_held messages number ≡ None
    by None held there = absurd cc
    by (Some bytes) held there =
        let whole : whole_with messages (Some (Data block)) ≡ Some (number, bytes)
        = ap (whole_by messages block) is ∙ ap (λ b. option_map (λ bytes. (number, bytes)) b) held in
        let told = changes messages (Data block) number bytes whole in
        before messages (Data block) number told.0 told.1 told.2
