-- A copy of a module that was held. (This project's own, after lockModuleOnMemory of ARIB STD-B24, volume 2.)
use Rattle.std.specs.Prelude.{◌≡◌, ◌≤◌, ℕ, Bool, true, List, length, Option}
use Rattle.carousel_blocks.specs.InForce.{size_limit}
use Rattle.multipart_entities.specs.declared.parts.Part.{Part}
use Rattle.module_store.specs.Entities.{ArePartsOf}

-- the bytes of a module that was held, whether they are an entity by the Type that it had then, and the number of the
-- delivery that brought it (of a module that is held there always is one)
pub record KeptModule : Type 0 where
  pub number : Option ℕ
  pub is_entity : Bool
  pub bytes : List ℕ

-- A device of the proofs: an entity's parts are kept with it.
pub record IsCopy (is_entity : Bool) (bytes : List ℕ) (parts : Option (List Part)) : Type 0 where
  pub size : length bytes ≤ size_limit
  pub parts_are : is_entity ≡ true → ArePartsOf bytes parts
