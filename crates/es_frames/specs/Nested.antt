-- A device of the proofs: how one list of values and one of items hold those of all frames. Each frame has what
-- stands from its first places on, and what stands before them are the frames below it.
use Rattle.std.specs.Prelude.{ℕ, ◌+◌, ◌≤◌, List, [], ◌∷◌, length, take, drop, reverse}
use Rattle.es_values.specs.declared.values.Value.{Value}
use Rattle.es_frames.specs.declared.control_stack.Mark.{Mark}
use Rattle.es_frames.specs.Depth.{most_calls}
use Rattle.es_frames.specs.Frames.{Frame}

abbrev pub frames_in : {W : Type 0} → List Mark → List Value → List W → List (Frame W)
frames_in [] values items = []
frames_in (mark ∷ below) values items =
    record {
      this = mark.this;
      values = drop mark.first_value values;
      items = reverse (drop mark.first_item items);
    } ∷ frames_in below (take mark.first_value values) (take mark.first_item items)

-- the first places are within what stands there
pub record IsWithin (mark : Mark) (values items : ℕ) : Type 0 where
  pub value : mark.first_value ≤ values
  pub item : mark.first_item ≤ items

-- so for each frame, those of a frame below within what stands before it
abbrev pub AreNested : List Mark → ℕ → ℕ → Type 0
AreNested [] values items = Unit {0}
AreNested (mark ∷ below) values items =
    IsWithin mark values items × AreNested below mark.first_value mark.first_item

-- and there is at most a frame for the program and one for each call that may be open
pub record IsStack {W : Type 0} (marks : List Mark) (values : List Value) (items : List W) : Type 0 where
  pub nested : AreNested (reverse marks) (length values) (length items)
  pub depth : length marks ≤ most_calls + 1
