-- A device of the proofs: what calls do to a document that is lent what it acts on, whatever document is kept.
use Rattle.std.specs.Prelude.{◌≡◌, ◌++◌, ℕ, List, Option, Some, None}
use Rattle.module_locks.specs.Standing.{ModulesState, StandsFor}
use Rattle.multipart_entities.specs.declared.paths.Path.{Path}
use Rattle.browser_objects.specs.Calls.{BrowserParts}
use Rattle.acting_documents.specs.Beginnings.{load_effect, unload_effect}
use Rattle.acting_documents.specs.Handling.{event_effect}
use Rattle.acting_documents.specs.devices.Doings.{Does, IsScene}
use Rattle.acting_documents.specs.devices.Kept.{IsDocument, KeptDocument}
use Rattle.acting_documents.specs.Runs.{Effect, Scene}
use Rattle.page.specs.declared.acts.Task.{Task}
use Rattle.page.specs.declared.acts.Task.TheVariants.{Begin, Handle}

-- what a document does in a dispatch
abbrev pub task_effect : Task → Scene → Effect
task_effect Begin s = load_effect s
task_effect (Handle event) s = event_effect event s

-- What a document is lent, and gives back: what belongs to the receiver, with the timers, and the modules.
pub record Lent : Type 0 where
  pub browser : BrowserParts
  pub modules : ModulesState

-- the document with what it is lent, at a time
abbrev pub with_lent : KeptDocument → Lent → ℕ → KeptDocument
with_lent kept lent now =
    record kept { lent = lent.browser; modules = lent.modules; now = now }

-- Nothing was launched: what is kept and given back is what the effect leaves, and this is what it prints.
pub record HasStayed (new : KeptDocument) (given_back : Lent) (text : List ℕ) (e : Effect)
    : Type 0 where
  pub launched_is : e.launched ≡ None
  pub is : IsDocument new e.scene.document
  pub browser_is : given_back.browser ≡ e.scene.browser
  pub modules : StandsFor given_back.modules e.scene.modules
  pub text_is : text ≡ e.text

-- The document at a path was launched: this is what is given back and printed behind `unload`.
pub record HasGone (path : Path) (given_back : Lent) (text : List ℕ) (e : Effect)
    : Type 0 where
  pub launched_is : e.launched ≡ Some path
  pub browser_is : given_back.browser ≡ (unload_effect e.scene).scene.browser
  pub modules : StandsFor given_back.modules (unload_effect e.scene).scene.modules
  pub text_is : text ≡ e.text ++ (unload_effect e.scene).text

abbrev pub HasActed : Option Path → KeptDocument → Lent → List ℕ → Effect → Type 0
HasActed None new given_back text e = HasStayed new given_back text e
HasActed (Some path) new given_back text e = HasGone path given_back text e

-- A text was printed, and whatever document was kept, it did this at that time with what it was lent, and launched
-- another or none.
pub record Acts (effect : Scene → Effect) (launched : Option Path) (now : ℕ)
    (old new : KeptDocument) (lent given_back : Lent) (before after : List ℕ) : Type 0 where
  pub text : List ℕ
  pub printed : after ≡ before ++ text
  pub acts : (s : Scene) → IsScene (with_lent old lent now) s
      → HasActed launched new given_back text (effect s)

-- The document ended: this is given back and printed behind what it did.
pub record HasEnded (given_back : Lent) (text : List ℕ) (e : Effect) : Type 0 where
  pub browser_is : given_back.browser ≡ e.scene.browser
  pub modules : StandsFor given_back.modules e.scene.modules
  pub text_is : text ≡ e.text

-- A text was printed, and whatever document was kept, it did this at that time with what it was lent, and ended.
pub record Ends (effect : Scene → Effect) (now : ℕ) (old : KeptDocument)
    (lent given_back : Lent) (before after : List ℕ) : Type 0 where
  pub text : List ℕ
  pub printed : after ≡ before ++ text
  pub ends : (s : Scene) → IsScene (with_lent old lent now) s
      → HasEnded given_back text (effect s)

-- The same of what does nothing with the modules and launches nothing: whatever modules it is lent.
abbrev pub ActsApart : (Scene → Effect) → ℕ → KeptDocument → KeptDocument → BrowserParts
    → BrowserParts → List ℕ → List ℕ → Type 0
ActsApart effect now old new lent given_back before after =
    (modules : ModulesState)
    → Acts effect None now old new (record { browser = lent; modules = modules })
    (record { browser = given_back; modules = modules }) before after

-- what a document is lent now
abbrev pub lent_of : KeptDocument → Lent
lent_of kept = record { browser = kept.lent; modules = kept.modules }

-- the same of a document that has what it is lent, and keeps it
abbrev pub ActsLent : (Scene → Effect) → Option Path → KeptDocument → KeptDocument
    → List ℕ → List ℕ → Type 0
ActsLent effect launched old new before after =
    Acts effect launched old.now old new (lent_of old) (lent_of new) before after

-- what was launched was taken
abbrev pub without_launched : KeptDocument → KeptDocument
without_launched kept = record kept { launched = None }

-- it was taken, and where there was one the document's `unload` was handled
abbrev pub IsHandled : Option Path → KeptDocument → KeptDocument → List ℕ → List ℕ → Type 0
IsHandled None old new before after = (new ≡ without_launched old) × (after ≡ before)
IsHandled (Some path) old new before after =
    Does unload_effect (without_launched old) new before after

pub record GivesWay (launched : Option Path) (old new : KeptDocument) (before after : List ℕ)
    : Type 0 where
  pub launched_is : launched ≡ old.launched
  pub handled : IsHandled launched old new before after
