-- Which loads of documents a page remembers, and which of its loads are of a document that it remembers. (This
-- project's own.)
use Rattle.std.specs.Prelude.{ℕ, zero, suc, ◌+◌, ◌-◌, ◌^◌, ◌==◌, nat_lt, Bool, true, false, ◌&&◌, not, if◌then◌else◌, List, [], ◌∷◌, ◌++◌, filter, map, take, Option, Some, None, option_and_then, option_to_list, Result, Ok, Err}
use Rattle.std.specs.List.{list_all, list_any}
use Rattle.bml_bytes.specs.Words.{is_same}
use Rattle.bml_reader.specs.declared.faults.DocFault.{DocFault}
use Rattle.multipart_entities.specs.declared.paths.Path.{Path}
use Rattle.module_locks.specs.Locks.{Modules, seen_number}
use Rattle.document_load.specs.Drafts.{DraftState}
use Rattle.page.specs.Dispatches.{dispatch, most_dispatches}
use Rattle.page.specs.Loading.{loadable_reading, wanted_path}
use Rattle.page.specs.State.{State, Step}

-- A load of a document that wasn't refused: where the document is, and the numbers of the deliveries that brought what
-- was seen then of its module, and of the module of each of its needs; none where nothing was seen.
pub record Loaded : Type 0 where
  pub path : Path
  pub own : Option ℕ
  pub needs : List (Option ℕ)

-- ---- the loads of a turn

-- the number of what is seen of the module of a path
abbrev pub number_at : Modules → Path → Option ℕ
number_at modules path = seen_number modules path.component path.«module»

-- the load of a document that can be loaded, and is refused or not
abbrev pub loaded_as : Modules → Path → Result DraftState DocFault → Option Loaded
loaded_as modules path (Ok draft) =
    Some (record {
      path = path;
      own = number_at modules path;
      needs = map (number_at modules) draft.needs;
    })
loaded_as modules path (Err fault) = None

abbrev pub loaded_at : Modules → Path → Option Loaded
loaded_at modules path = option_and_then (loaded_as modules path) (loadable_reading modules path)

-- the load of the wanted document, where it can be made and isn't refused
abbrev pub wanted_loaded : State → Option Loaded
wanted_loaded s = option_and_then (loaded_at s.modules) (wanted_path s.wanted s.modules)

-- the load that the next dispatch makes of a document that isn't refused, where it makes one: none where a data event
-- waits
abbrev pub next_loaded : State → Option Loaded
next_loaded s = if s.data_event then None else wanted_loaded s

-- those behind the next dispatch, where there is one
abbrev pub loads_behind : (State → List Loaded) → Option Step → List Loaded
loads_behind more None = []
loads_behind more (Some t) = more t.state

-- those of so many dispatches, the first one in front
unfoldable pub loads_in : ℕ → State → List Loaded
loads_in zero s = []
loads_in (suc more) s =
    option_to_list (next_loaded s) ++ loads_behind (loads_in more) (dispatch s)

unfoldable pub loads_of_turn : State → List Loaded
loads_of_turn s = loads_in most_dispatches s

-- ---- what is remembered

abbrev pub is_same_path : Path → Path → Bool
is_same_path a b =
    (a.component == b.component) && ((a.«module» == b.«module») && is_same a.name b.name)

abbrev pub is_same_number : Option ℕ → Option ℕ → Bool
is_same_number None None = true
is_same_number (Some a) (Some b) = a == b
is_same_number None (Some b) = false
is_same_number (Some a) None = false

abbrev pub are_same_numbers : List (Option ℕ) → List (Option ℕ) → Bool
are_same_numbers [] [] = true
are_same_numbers (one ∷ ones) (other ∷ others) =
    is_same_number one other && are_same_numbers ones others
are_same_numbers [] (other ∷ others) = false
are_same_numbers (one ∷ ones) [] = false

-- the same document, brought by the same delivery
abbrev pub is_same_document : Loaded → Loaded → Bool
is_same_document a b = is_same_path a.path b.path && is_same_number a.own b.own

-- a page remembers so many at most
unfoldable pub most_remembered : ℕ
most_remembered = 8

-- A load takes away what is remembered of the same document, and is then in front. Where that is one too many, the last
-- is forgotten.
abbrev pub with_loaded : Loaded → List Loaded → List Loaded
with_loaded one remembered =
    take most_remembered (one ∷ filter (λ other. not (is_same_document one other)) remembered)

-- what is remembered behind these loads, the first of which came first
abbrev pub remembered_behind : List Loaded → List Loaded → List Loaded
remembered_behind [] remembered = remembered
remembered_behind (one ∷ more) remembered = remembered_behind more (with_loaded one remembered)

-- ---- which loads are of a document that is remembered

-- the number tells one delivery from all others: deliveries are counted up to 2^64 - 1, and there the count stands still
abbrev pub tells_delivery : Option ℕ → Bool
tells_delivery None = true
tells_delivery (Some number) = nat_lt number (2 ^ 64 - 1)

-- the same document was loaded, and nothing of it or of what it needs has come anew
abbrev pub is_same_load : Loaded → Loaded → Bool
is_same_load a b = is_same_document a b && are_same_numbers a.needs b.needs

abbrev pub is_hit : List Loaded → Loaded → Bool
is_hit remembered one =
    (tells_delivery one.own && list_all tells_delivery one.needs)
    && list_any (is_same_load one) remembered

-- how many of these loads are, each of what is remembered when it comes
abbrev pub hits_among : List Loaded → List Loaded → ℕ
hits_among [] remembered = 0
hits_among (one ∷ more) remembered =
    (if is_hit remembered one then 1 else 0) + hits_among more (with_loaded one remembered)
