-- The number of what is seen of a module.
use Rattle.std.proofs.Common.{◌≡◌, ◌∙◌, ℕ, Bool, true, false, cond, List, Option, Some, None, refl, sym, ap}
use Rattle.std.specs.Prelude.{is_some, option_map, option_and_then}
use Rattle.std.specs.Option.{option_map_or, option_or}
use Rattle.carousel_blocks.specs.declared.standing.SkipCause.{SkipCause}
use Rattle.carousel_blocks.specs.declared.standing.Standing.{Standing}
use Rattle.carousel_blocks.specs.Message.{Message}
use Rattle.carousel_blocks.specs.InForce.{in_force, standing_of}
use Rattle.carousel_blocks.specs.Held.{bytes_held}
use Rattle.multipart_entities.specs.declared.paths.Path.{Path}
use Rattle.module_store.specs.Copies.{KeptModule}
use Rattle.module_store.specs.Resources.{Presence, look, presence, presence_at, presence_in, presence_unless}
use Rattle.module_store.specs.Resources.Presence.{Absent, Announced, Held}
use Rattle.module_store.specs.Store.{Stored, last_place, messages_of_component, number_at, number_of}
use Rattle.module_locks.specs.Locks.{Modules, kept_now, kept_of, kept_on, look_kept, look_up, seen, seen_number}
use Rattle.module_locks.specs.Standing.{ModulesState, StandsFor}
use Rattle.module_locks.specs.devices.Keeping.{copy_on}
use Rattle.module_locks.proofs.HeldLaws.{held_kept, held_look}
use Rattle.module_locks.proofs.StandingLaws.{kept_copied, kept_stored}

abbrev pub number_in : Option KeptModule → Option ℕ
number_in kept = option_and_then (λ (k : KeptModule). k.number) kept

-- ---- of what there is to be kept

kept_number : (delivery : Option ℕ) (there : Presence) → is_some (kept_of delivery there) ≡ true → number_in (kept_of delivery there) ≡ delivery
kept_number delivery Absent e = absurd cc
kept_number delivery Announced e = absurd cc
kept_number delivery (Held is_entity bytes) e = refl

no_number : (there : Presence) → number_in (kept_of None there) ≡ None
no_number Absent = refl
no_number Announced = refl
no_number (Held is_entity bytes) = refl

-- what there is to be kept has the number of the last delivery
pub number_now : (stored : Stored) (component number : ℕ) → number_in (kept_now stored component number) ≡ number_of stored component number
number_now stored component number = by_messages (messages_of_component stored component)
  where
    last : Option ℕ
    last = option_map number_at (last_place component number stored.deliveries)

    by_messages : (o : Option (List Message))
        → number_in (kept_of (cond (is_some (option_and_then (λ messages. bytes_held messages number) o)) last None) (presence_in o number))
        ≡ cond (is_some (option_and_then (λ messages. bytes_held messages number) o)) last None
    by_messages None = refl
    by_messages (Some messages) = by_held (is_some (bytes_held messages number)) refl
      where
        by_held : (b : Bool) → is_some (bytes_held messages number) ≡ b → number_in (kept_of (cond b last None) (presence_in (Some messages) number)) ≡ cond b last None
        by_held true e = kept_number last (presence_in (Some messages) number) (held_kept last messages number e)
        by_held false e = no_number (presence_in (Some messages) number)

-- a module that is held has its bytes
held_bytes : (standing : Option Standing) (now : Option (List ℕ)) (is_entity : Bool) (bytes : List ℕ) → presence_at standing now ≡ Held is_entity bytes → is_some now ≡ true
held_bytes None now is_entity bytes e = absurd cc
held_bytes (Some s) now is_entity bytes e = by_skip s.skip now e
  where
    by_skip : (skip : Option SkipCause) (now : Option (List ℕ)) → presence_unless skip s.entry.info now ≡ Held is_entity bytes → is_some now ≡ true
    by_skip (Some cause) now e = absurd cc
    by_skip None None e = absurd cc
    by_skip None (Some content) e = refl

-- and the number of the last delivery
pub held_number : (stored : Stored) (component number : ℕ) (is_entity : Bool) (bytes : List ℕ) → presence stored component number ≡ Held is_entity bytes
    → number_of stored component number ≡ option_map number_at (last_place component number stored.deliveries)
held_number stored component number is_entity bytes e = by_messages (messages_of_component stored component) e
  where
    last : Option ℕ
    last = option_map number_at (last_place component number stored.deliveries)

    by_messages : (o : Option (List Message)) → presence_in o number ≡ Held is_entity bytes → cond (is_some (option_and_then (λ messages. bytes_held messages number) o)) last None ≡ last
    by_messages None e = absurd cc
    by_messages (Some messages) e = ap (λ b. cond b last None) (held_bytes (standing_of (in_force messages) number) (bytes_held messages number) is_entity bytes e)

-- ---- of what is seen

-- where a lock keeps a copy it is seen
pub number_copied : (state : ModulesState) (modules : Modules) (component number : ℕ) (kept : KeptModule) → StandsFor state modules → copy_on state.locks component number ≡ Some kept
    → kept.number ≡ seen_number modules component number
number_copied state modules component number kept stands copied =
    sym (ap (λ (o : Option KeptModule). number_in (option_or o (kept_now modules.stored component number))) (kept_copied state modules component number kept stands copied))

or_same : (o : Option KeptModule) → option_or o o ≡ o
or_same None = refl
or_same (Some kept) = refl

-- else what the carousels hold is
pub number_stored : (state : ModulesState) (modules : Modules) (component number : ℕ) → StandsFor state modules → copy_on state.locks component number ≡ None
    → number_of modules.stored component number ≡ seen_number modules component number
number_stored state modules component number stands none =
    sym (kept_stored state modules component number (λ o. number_in (option_or o (kept_now modules.stored component number)) ≡ number_of modules.stored component number) stands none
    (number_now modules.stored component number)
    (ap number_in (or_same (kept_now modules.stored component number)) ∙ number_now modules.stored component number))

-- a look-up finds what is in what is seen
pub look_seen : (modules : Modules) (path : Path) (kept : KeptModule) → seen modules path.component path.«module» ≡ Some kept → look_up modules path ≡ look_kept kept path.name
look_seen modules path kept e = by_kept (kept_on modules.locks path.component path.«module») e
  where
    by_kept : (o : Option KeptModule) → option_or o (kept_now modules.stored path.component path.«module») ≡ Some kept
        → option_map_or (λ k. look_kept k path.name) o (look modules.stored path) ≡ look_kept kept path.name
    by_kept None e = held_look modules.stored path kept e
    by_kept (Some k) e = let same : k ≡ kept = cc in ap (λ (x : KeptModule). look_kept x path.name) same
