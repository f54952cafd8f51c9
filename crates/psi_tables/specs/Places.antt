-- The same in terms of places: of sections in the history, and of streams in a PMT. `law_of_component_map` and
-- `law_of_components` say that both agree. (This project's own.)
use Rattle.std.specs.Prelude.{◌≡◌, ◌<◌, ℕ, List, length, take, slice_get, Some, All}
use Rattle.psi_tables.specs.declared.pat.PatEntry.{PatEntry}
use Rattle.psi_tables.specs.declared.pmt.Pmt.{Pmt}
use Rattle.psi_tables.specs.declared.pmt.PmtStream.{PmtStream}
use Rattle.psi_tables.specs.declared.components.Component.{Component}
use Rattle.psi_tables.specs.declared.services.Selection.{Selection}
use Rattle.psi_tables.specs.Components.{AreApart, component_of_stream, components_of}
use Rattle.psi_tables.specs.History.{Handled, service_named, service_of, pmt_for}

-- a PAT counts at that place of the history, and names this service
pub record NamesAt (selection : Selection) (history : List Handled) (place : ℕ) (service : PatEntry) : Type 0 where
  pub handled : Handled
  pub stands : slice_get history place ≡ Some handled
  pub names : service_named selection handled ≡ Some service

-- this PMT counts at that place of the history, by the service of what came before it
pub record CountsAt (selection : Selection) (history : List Handled) (place : ℕ) (pmt : Pmt) : Type 0 where
  pub handled : Handled
  pub stands : slice_get history place ≡ Some handled
  pub counts : pmt_for (service_of selection (take place history)) handled ≡ Some pmt

-- a fact about a place and a value holds there, and at no later place with any value
pub record IsLast {A : Type 0} (Holds : ℕ → A → Type 0) (place : ℕ) (value : A) : Type 0 where
  pub holds : Holds place value
  pub last : (later : ℕ) (other : A) → place < later → ¬ Holds later other

-- The stream at that place brings this component and is taken: fewer than 16 were taken before it, and none of these
-- has its tag or its PID.
pub record TakenAt (streams : List PmtStream) (place : ℕ) (component : Component) : Type 0 where
  pub stream : PmtStream
  pub stands : slice_get streams place ≡ Some stream
  pub brings : component_of_stream stream ≡ Some component
  pub room : length (components_of (take place streams)) < 16
  pub apart : All (λ taken. AreApart taken component) (components_of (take place streams))
