use Rattle.std.proofs.Common.{List, IfOk, subst, sym}
use Rattle.es_reader.specs.Programs.{ToldProgram}
use Rattle.es_eval.specs.declared.works.Callee.{Callee}
use Rattle.es_eval.specs.devices.Held.{ReachesBehind}
use Rattle.es_eval.specs.devices.Works.{calls_callee}
use Rattle.es_eval.proofs.machine.Machine.apply.Goals as goal

pub returns-in-Member : goal.returns-in-Member
returns-in-Member c =
    subst (λ (callee : Callee). IfOk c.apply_member.result (λ reached. (programs : List ToldProgram)
    → ReachesBehind programs (calls_callee programs callee c.args.given.items) c.args.self.now
    c.apply_member.new.self reached c.apply_member.new.held)) (sym c.in-Member.is)
    c.apply_member.ensures
