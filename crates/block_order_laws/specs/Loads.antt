-- The load of a document, told by what it is made of. (This project's own.)
use Rattle.std.specs.Prelude.{◌≡◌, ℕ, true, List, [], All, map, Some, Result, Ok, Err}
use Rattle.dom_tree.specs.Items.{Item}
use Rattle.bml_reader.specs.declared.faults.DocFault.{DocFault}
use Rattle.bml_reader.specs.Readings.{reading_of}
use Rattle.document_load.specs.Drafts.{DraftState, draft_of, with_gifts}
use Rattle.document_load.specs.Needs.{needs_of}
use Rattle.multipart_entities.specs.declared.paths.Path.{Path}
use Rattle.module_locks.specs.Locks.{look_up}
use Rattle.module_store.specs.Resources.{Resource}
use Rattle.module_store.specs.Resources.Resource.{Found}
use Rattle.page.specs.Dispatches as page
use Rattle.page.specs.Loading.{is_settled, load, text_found, wanted_path}
use Rattle.page.specs.State.{State}

-- A document is loaded from a path, of these bytes, and with this for each of its needs, in their order: their bytes, or
-- that there is nothing.
pub record Load : Type 0 where
  pub path : Path
  pub bytes : List ℕ
  pub gifts : List Resource

-- what a document with these nodes needs; one that is refused needs nothing
abbrev pub needs_in : Path → Result (List Item) DocFault → List Path
needs_in path (Ok items) = needs_of path items
needs_in path (Err fault) = []

-- what the document at a path needs by its bytes
abbrev pub needs_of_bytes : Path → List ℕ → List Path
needs_of_bytes path bytes = needs_in path (reading_of bytes)

-- the document to which this was given, or the fault for which it is refused
abbrev pub given_to : Load → Result (List Item) DocFault → Result DraftState DocFault
given_to l (Ok items) = Ok (with_gifts (map text_found l.gifts) (draft_of l.path items))
given_to l (Err fault) = Err fault

-- what is read in a load: a function of its parts alone, so the same load reads the same document or has the same fault
abbrev pub read_in : Load → Result DraftState DocFault
read_in l = given_to l (reading_of l.bytes)

-- The next dispatch of the page is this load: the document at its path is wanted, is found with its bytes, and each of its
-- needs is found or missing, with what is given.
pub record IsNextLoad (s : State) (l : Load) : Type 0 where
  pub wanted : wanted_path s.wanted s.modules ≡ Some l.path
  pub found : look_up s.modules l.path ≡ Found l.bytes
  pub gifts : map (look_up s.modules) (needs_of_bytes l.path l.bytes) ≡ l.gifts
  pub settled : All (λ gift. is_settled gift ≡ true) l.gifts
  pub dispatch : page.dispatch s ≡ Some (load s l.path (read_in l))
