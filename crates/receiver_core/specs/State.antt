-- What a receiver has made at a moment of what came to it. (This project's own.)
use Rattle.std.specs.Prelude.{ℕ, Bool, List, []}
use Rattle.psi_tables.specs.declared.services.Selection.{Selection}
use Rattle.psi_tables.specs.History.{Handled, service_of, map_of}
use Rattle.psi_tables.specs.Service.{ServicesState}
use Rattle.psi_tables.specs.Service as services_of
use Rattle.module_locks.specs.Locks.{at_start, with_map}
use Rattle.es_reader.specs.Readers.{Reader}
use Rattle.page.specs.State as page

pub record State : Type 0 where
  -- which service is asked for, which doesn't change
  pub selection : Selection
  -- the intact sections handled so far, each with the PID on which it came
  pub handled : List Handled
  -- for each PID the packets on it since it was wanted without a break; none of one that isn't
  -- wanted
  pub packets : ℕ → List (List ℕ)
  -- the documents, the time, the persistent area, and the modules of the service
  pub page : page.State

-- the service and the component map at present
abbrev pub services : State → ServicesState
services s = record {
  selection = s.selection;
  service = service_of s.selection s.handled;
  map = map_of s.selection s.handled;
}

abbrev pub wants : State → ℕ → Bool
wants s pid = services_of.wants (services s) pid

-- before the first input, with that area: with a data PID its component is there at once
abbrev pub opening : Reader → Selection → List ℕ → State
opening read selection area = record {
  selection = selection;
  handled = [];
  packets = λ pid. [];
  page = page.with_modules (with_map (map_of selection []) at_start) (page.opening read area);
}
