-- A device of the proofs: what is found of the needs of a draft, need by need.
use Rattle.std.specs.Prelude.{◌≡◌, ℕ, length, map, None, replicate, slice_get, option_and_then}
use Rattle.std.specs.Option.{option_map_or}
use Rattle.module_locks.specs.Standing.{ForModules, ModulesState}
use Rattle.module_locks.specs.Locks.{Modules}
use Rattle.es_reader.specs.Readers.{Reader, IsReader}
use Rattle.document_load.specs.Drafts.{DraftState, with_gift, with_gifts}
use Rattle.document_load.specs.Scripts.{AreScripts, sources_of}
use Rattle.document_load.specs.StyleTexts.{document_rules}
use Rattle.document_load.specs.ToldDocuments.{ToldDocument}
use Rattle.page.specs.Loading.{text_at}

-- the draft, where what is found of its need of that number is given
abbrev pub with_found : Modules → ℕ → DraftState → DraftState
with_found modules number draft =
    option_map_or (λ text. with_gift number text draft)
    (option_and_then (text_at modules) (slice_get draft.needs number)) draft

-- where nothing was given before, what is found of all needs is given
abbrev pub GivesFound : ModulesState → DraftState → DraftState → Type 0
GivesFound state old new =
    old.given ≡ replicate (length old.needs) None
    → ForModules state (λ modules. new ≡ with_gifts (map (text_at modules) old.needs) old)

-- the document of a draft
pub record IsDocumentOf (draft : DraftState) (document : ToldDocument) : Type 0 where
  pub tree_is : document.items ≡ draft.items
  pub rules_are : document.rules ≡ document_rules draft
  pub scripts_are : (read : Reader) → IsReader read → AreScripts read (sources_of draft)
      document.programs document.handlers document.bad

-- the document of a draft, to which what is found of its needs is given
pub record IsFinished (state : ModulesState) (draft : DraftState) (document : ToldDocument)
    : Type 0 where
  pub given : DraftState
  pub found : GivesFound state draft given
  pub document_is : IsDocumentOf given document
