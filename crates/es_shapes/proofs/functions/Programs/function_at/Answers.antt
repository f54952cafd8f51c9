use Rattle.std.proofs.Common.{◌≡◌, ◌+◌, ◌∙◌, ap, arith}
use Rattle.std.specs.Prelude.{slice_get}
use Rattle.es_shapes.specs.devices.Parts.{IsFound, places_from}
use Rattle.es_shapes.proofs.FunctionLemmas.{found-all, found-more, found-within, got-slice}
use Rattle.es_shapes.proofs.functions.Programs.function_at.Goals as goal
use Rattle.es_shapes.proofs.functions.Programs.function_at.Goals.{then-loop-list-test+else-self-list, else-loop-list-test}

pub loop-list-preserved : goal.loop-list-preserved
loop-list-preserved c =
    let more : IsFound c.self.inside.list.now (c.loop-list.self-inside.read + 1) _ =
    found-more c.self.inside.list.now c.loop-list.self-inside.read c.loop-list.self-inside.found.items
    c.index-list-self.result c.loop-list.invariant.0 (omega arith) c.index-list-self.is in
    (rw c.in_ok-find_functions.ensures.ok more, c.loop-list.invariant.1)

is-there : (c : goal.After-copied)
    → c.copied.result ≡ slice_get (places_from 0 c.self.inside.list.now) c.args.place
is-there c =
    let found = c.loop-list.self-inside.found.items in
    let place = c.args.place in
    let got : c.copied.result ≡ slice_get found place =
    c.copied.ensures
    ∙ got-slice c.get.result c.deref.result.now place c.get.ensures.lookup.0 c.get.ensures.lookup.1
    ∙ ap (λ xs. slice_get xs place) c.deref.ensures.value in
    let is : slice_get found place ≡ slice_get (places_from 0 c.self.inside.list.now) place =
    elim c.loop-list-test.branch [
      | then-loop-list-test+else-self-list w ↦
          ap (λ xs. slice_get xs place) (found-all c.self.inside.list.now c.loop-list.self-inside.read found
          c.loop-list.invariant.0 (omega arith))
      | else-loop-list-test w ↦
          found-within c.self.inside.list.now c.loop-list.self-inside.read found
          c.loop-list.invariant.0 place (omega arith)
    ] in
    got ∙ is

pub returns-clause-found : goal.returns-clause-found
returns-clause-found c = rw (← c.self.view_is) (is-there c)
