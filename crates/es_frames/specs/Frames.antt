-- The control stack of a script that runs: the calls that are open, each with the values of its locals and
-- with the items of work that it still has. The last one stands in front of the list, and so does the item
-- put last. (This project's own.)
use Rattle.std.specs.Prelude.{ℕ, List, [], ◌∷◌, Option, Some, None, replicate, slice_get, slice_set}
use Rattle.es_values.specs.declared.values.Value.{Value}
use Rattle.es_values.specs.declared.values.Value.TheVariants.{Undefined}

-- a frame: its `this`, its values, and its items
pub record Frame (W : Type 0) : Type 0 where
  pub this : Value
  pub values : List Value
  pub items : List W

-- a new one: each of so many values is Undefined, and there is no item
abbrev pub new_frame : {W : Type 0} → ℕ → Value → Frame W
new_frame count this = record { this = this; values = replicate count Undefined; items = [] }

-- What the last frame has

abbrev pub this_of : {W : Type 0} → List (Frame W) → Option Value
this_of [] = None
this_of (last ∷ below) = Some last.this

abbrev pub values_of : {W : Type 0} → List (Frame W) → List Value
values_of [] = []
values_of (last ∷ below) = last.values

abbrev pub items_of : {W : Type 0} → List (Frame W) → List W
items_of [] = []
items_of (last ∷ below) = last.items

-- the value at a place
abbrev pub value_at : {W : Type 0} → List (Frame W) → ℕ → Option Value
value_at frames place = slice_get (values_of frames) place

-- the item put last of those that weren't taken
abbrev pub next_item : {W : Type 0} → List (Frame W) → Option W
next_item frames = slice_get (items_of frames) 0

-- What becomes of the last frame. Those below it stay as they are.

-- a place with another value; past the last place there is nothing to change
abbrev pub with_value_in : List Value → ℕ → Value → List Value
with_value_in values place value = slice_set values place value

abbrev pub with_value : {W : Type 0} → List (Frame W) → ℕ → Value → List (Frame W)
with_value [] place value = []
with_value (last ∷ below) place value =
    record last { values = with_value_in last.values place value } ∷ below

abbrev pub with_item : {W : Type 0} → List (Frame W) → W → List (Frame W)
with_item [] item = []
with_item (last ∷ below) item = record last { items = item ∷ last.items } ∷ below

abbrev pub behind_first : {W : Type 0} → List W → List W
behind_first [] = []
behind_first (first ∷ rest) = rest

abbrev pub without_item : {W : Type 0} → List (Frame W) → List (Frame W)
without_item [] = []
without_item (last ∷ below) = record last { items = behind_first last.items } ∷ below

-- the frames below the last one
abbrev pub below_last : {W : Type 0} → List (Frame W) → List (Frame W)
below_last [] = []
below_last (last ∷ below) = below
