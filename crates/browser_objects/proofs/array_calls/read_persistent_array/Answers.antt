use Rattle.std.proofs.Common.{ap, sym, subst}
use Rattle.std.specs.Prelude.{IfOk, OnOk, ◌≡◌}
use Rattle.browser_objects.specs.Calls.{Answers, BrowserParts, CallOutcome}
use Rattle.browser_objects.proofs.ArrayLemmas.{read-named}
use Rattle.browser_objects.proofs.array_calls.read_persistent_array.Goals as goal

pub returns-in-Some-clause-answers : goal.returns-in-Some-clause-answers
returns-in-Some-clause-answers c =
    let s = c.args.state.now in
    let same = read-named c.args.args.now c.args.heap.now c.in_ok-named.field-0 c.in-Some.slot c.in-Some.structure c.in_ok-named.ensures.names c.in-Some.is c.state.inside.area s (ap (λ (parts : BrowserParts). parts.area) c.state.view_is) in
    subst (λ (outcome : CallOutcome). IfOk c.read_fields.result (λ answer. Answers outcome.called answer s)) (sym same) (c.read_fields.ensures.answers s)

pub returns-in-Some-clause-objects : goal.returns-in-Some-clause-objects
returns-in-Some-clause-objects c =
    let s = c.args.state.now in
    let same = read-named c.args.args.now c.args.heap.now c.in_ok-named.field-0 c.in-Some.slot c.in-Some.structure c.in_ok-named.ensures.names c.in-Some.is c.state.inside.area s (ap (λ (parts : BrowserParts). parts.area) c.state.view_is) in
    subst (λ (outcome : CallOutcome). OnOk c.read_fields.result (c.read_fields.new.heap ≡ outcome.heap)) (sym same) (c.read_fields.ensures.objects s)
