-- Evaluation with the bound that is enough for the steps that a world has left, so that no bound is named.
-- (This project's own.)
use Rattle.std.specs.Prelude.{List}
use Rattle.es_values.specs.declared.values.Value.{Value}
use Rattle.es_eval.specs.Actions.{Action, step}
use Rattle.es_eval.specs.Calls.{Body}
use Rattle.es_eval.specs.Evaluation.{call_body, enough, evaluate, execute}
use Rattle.es_eval.specs.Rows.{Completion, Task}
use Rattle.es_eval.specs.Rows.Task.{Do}
use Rattle.es_shapes.specs.Syntax.{Expression, Function, Statement}

-- the value of an expression, without its own step
unfoldable pub valued : List Function → Expression → Action Value
valued functions e = λ w next. evaluate functions (enough w.left) e w next

-- how a statement is completed, without its own step, or the turns of a loop that are left
unfoldable pub done : List Function → Task → Action Completion
done functions task = λ w next. execute functions (enough w.left) task w next

-- what the statements of a function return
unfoldable pub called : List Function → Body
called functions inner = λ w next. call_body functions (enough w.left) inner w next

-- an expression with its step, and a statement with its own
abbrev pub entered : List Function → Expression → Action Value
entered functions e = step (valued functions e)

abbrev pub run_statement : List Function → Statement → Action Completion
run_statement functions s = step (done functions (Do s))
