-- A device of the proofs: the calls that are open. Of each it has its function, from which the names of
-- its locals are known, the values of these, its `this`, and the items that it still has. The last one
-- stands in front.
use Rattle.std.specs.Prelude.{ℕ, List, [], ◌∷◌, Option, Some, None, slice_get}
use Rattle.std.specs.Option.{option_and_then, option_map_or}
use Rattle.es_frames.specs.Frames.{Frame, behind_first, with_value_in}
use Rattle.es_reader.specs.Programs.{ToldProgram}
use Rattle.es_shapes.specs.declared.functions.Declared.{Declared}
use Rattle.es_values.specs.declared.values.Value.{Value}
use Rattle.es_eval.specs.declared.works.Work.{Work}

-- a call, whose function is none where it is the program's own
pub record Call : Type 0 where
  pub function : Option Declared
  pub this : Value
  pub values : List Value
  pub items : List Work

-- ---- locals

-- the names of a function's locals
abbrev pub names_at : List ToldProgram → Declared → List (List ℕ)
names_at programs declared =
    option_map_or (λ told. told.locals)
    (option_and_then (λ told. slice_get told.functions declared.function)
    (slice_get programs declared.program)) []

abbrev pub names_in : List ToldProgram → Option Declared → List (List ℕ)
names_in programs None = []
names_in programs (Some declared) = names_at programs declared

-- names with values, one by one
abbrev pub named_values : List (List ℕ) → List Value → List (List ℕ × Value)
named_values [] values = []
named_values (name ∷ names) [] = []
named_values (name ∷ names) (value ∷ values) = (name, value) ∷ named_values names values

-- those of the last call
abbrev pub locals_of : List ToldProgram → List Call → List (List ℕ × Value)
locals_of programs [] = []
locals_of programs (last ∷ below) = named_values (names_in programs last.function) last.values

-- ---- what the last call has

abbrev pub function_of : List Call → Option Declared
function_of [] = None
function_of (last ∷ below) = last.function

abbrev pub this_of : List Call → Option Value
this_of [] = None
this_of (last ∷ below) = Some last.this

abbrev pub values_of : List Call → List Value
values_of [] = []
values_of (last ∷ below) = last.values

abbrev pub value_at : List Call → ℕ → Option Value
value_at calls place = slice_get (values_of calls) place

abbrev pub items_of_last : List Call → List Work
items_of_last [] = []
items_of_last (last ∷ below) = last.items

abbrev pub next_item : List Call → Option Work
next_item calls = slice_get (items_of_last calls) 0

-- ---- what becomes of it

abbrev pub with_value : List Call → ℕ → Value → List Call
with_value [] place value = []
with_value (last ∷ below) place value =
    record last { values = with_value_in last.values place value } ∷ below

abbrev pub with_item : List Call → Work → List Call
with_item [] item = []
with_item (last ∷ below) item = record last { items = item ∷ last.items } ∷ below

abbrev pub without_item : List Call → List Call
without_item [] = []
without_item (last ∷ below) = record last { items = behind_first last.items } ∷ below

abbrev pub below_last : List Call → List Call
below_last [] = []
below_last (last ∷ below) = below

-- ---- calls of their functions and their frames

abbrev pub call_of : Option Declared → Frame Work → Call
call_of function frame = record {
  function = function;
  this = frame.this;
  values = frame.values;
  items = frame.items;
}

abbrev pub joined : List (Option Declared) → List (Frame Work) → List Call
joined [] frames = []
joined (function ∷ functions) [] = []
joined (function ∷ functions) (frame ∷ frames) =
    call_of function frame ∷ joined functions frames
