use Rattle.std.proofs.Common.{◌≡◌, ◌∙◌, ◌++◌, ◌∷◌, [], ap}
use Rattle.std.proofs.lemmas.Result.{IfOk-weaker}
use Rattle.std.proofs.lemmas.List.Elements.{All-push}
use Rattle.es_values.specs.Heaps.{IsLive}
use Rattle.es_eval.specs.devices.Machines.{rest, values_of_callee, world_of}
use Rattle.es_eval.specs.devices.Works.{as_value, calls_with}
use Rattle.es_eval.proofs.CallArms.{all_behind, all_front}
use Rattle.es_eval.proofs.machine.Machine.add_argument.Goals as goal

pub go_on-requires-clause-callee : goal.go_on-requires-clause-callee
go_on-requires-clause-callee c =
    let call = c.args.opened in
    all_front (IsLive c.args.self.now.heap) (values_of_callee call.callee) call.given.items
    c.requires.item

pub go_on-requires-clause-given : goal.go_on-requires-clause-given
go_on-requires-clause-given c =
    let call = c.args.opened in
    let items : c.push.new.self.items ≡ call.given.items ++ c.args.given ∷ [] =
    c.in_ok-push.ensures.items in
    let heap = c.args.self.now.heap in
    rw items (All-push (IsLive heap) call.given.items c.args.given
    (all_behind (IsLive heap) (values_of_callee call.callee) call.given.items c.requires.item)
    c.requires.given)

pub returns-clause-run : goal.returns-clause-run
returns-clause-run c =
    let call = c.args.opened in
    let items : c.push.new.self.items ≡ call.given.items ++ c.args.given ∷ [] =
    c.in_ok-push.ensures.items in
    let programs = c.args.programs.now in
    IfOk-weaker c.go_on.result _ _ (λ next on. on
    ∙ ap (λ given. as_value (calls_with programs call.callee given call.call call.next)
    (world_of programs c.args.self.now) (rest programs c.args.self.now.frames)) items) c.go_on.ensures.run
