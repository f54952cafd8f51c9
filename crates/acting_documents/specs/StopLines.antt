-- The line that tells that a script was stopped, with the line feed that ends it. (This project's own.)
use Rattle.std.specs.Prelude.{ℕ, List, [], ◌++◌, codes}
use Rattle.es_eval.specs.declared.outcomes.Outcome.{Outcome}
use Rattle.es_eval.specs.declared.outcomes.Outcome.TheVariants.{Normal, Ended, Stopped}
use Rattle.es_eval.specs.declared.outcomes.StopCause.{StopCause}
use Rattle.es_eval.specs.declared.outcomes.StopCause.TheVariants as causes

abbrev pub stop_name : StopCause → List ℕ
stop_name causes.Budget = codes "Budget"
stop_name causes.Depth = codes "Depth"
stop_name causes.NotCallable = codes "NotCallable"
stop_name causes.NotObject = codes "NotObject"
stop_name causes.Unresolved = codes "Unresolved"

-- a script was stopped that ran for the event of this name
abbrev pub stop_line : StopCause → List ℕ → List ℕ
stop_line cause event =
    codes "stop " ++ (stop_name cause ++ (codes " " ++ (event ++ codes "\n")))

-- nothing is told of one that came to its end
abbrev pub stop_lines : Outcome → List ℕ → List ℕ
stop_lines Normal event = []
stop_lines Ended event = []
stop_lines (Stopped cause) event = stop_line cause event
