-- A device of the proofs: what calls do to a document that acts, whatever document is kept.
use Rattle.std.specs.Prelude.{◌≡◌, ◌++◌, List, ℕ}
use Rattle.module_locks.specs.Standing.{ModulesState, StandsFor}
use Rattle.acting_documents.specs.devices.Kept.{IsDocument, KeptDocument}
use Rattle.acting_documents.specs.Runs.{Effect, Scene}

-- what is kept and lent is the document, with what it acts on
pub record IsScene (kept : KeptDocument) (s : Scene) : Type 0 where
  pub is : IsDocument kept s.document
  pub lent_is : kept.lent ≡ s.browser
  pub now_is : kept.now ≡ s.now
  pub modules : StandsFor kept.modules s.modules

-- What is kept and lent is what the effect leaves, this document was launched, and this is what it prints.
pub record HasDone (new : KeptDocument) (text : List ℕ) (e : Effect) : Type 0 where
  pub is : IsScene new e.scene
  pub launched_is : new.launched ≡ e.launched
  pub text_is : text ≡ e.text

-- A text was printed, and whatever document was kept, what is made of it is kept now.
pub record Does (effect : Scene → Effect) (old new : KeptDocument) (before after : List ℕ)
    : Type 0 where
  pub text : List ℕ
  pub printed : after ≡ before ++ text
  pub does : (s : Scene) → IsScene old s → HasDone new text (effect s)

-- The same of what is done in a document that ends: which document was launched is left open.
pub record DoesInEnding (effect : Scene → Effect) (old new : KeptDocument) (before after : List ℕ)
    : Type 0 where
  pub text : List ℕ
  pub printed : after ≡ before ++ text
  pub leaves : (s : Scene) → IsScene old s → IsScene new (effect s).scene
  pub tells : (s : Scene) → IsScene old s → text ≡ (effect s).text

-- it is lent these modules
abbrev pub lent_modules : ModulesState → KeptDocument → KeptDocument
lent_modules modules kept = record kept { modules = modules }

-- The same of what does nothing with the modules: whatever modules it is lent.
abbrev pub DoesApart : (Scene → Effect) → KeptDocument → KeptDocument → List ℕ → List ℕ → Type 0
DoesApart effect old new before after =
    (modules : ModulesState)
    → Does effect (lent_modules modules old) (lent_modules modules new) before after

-- Nothing was printed, and whatever document was kept, it and what it was lent are changed so.
pub record Changes (change : Scene → Scene) (old new : KeptDocument) : Type 0 where
  pub changes : (s : Scene) → IsScene old s → IsScene new (change s)
