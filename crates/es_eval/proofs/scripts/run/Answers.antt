use Rattle.std.proofs.lemmas.Result.{IfOk-weaker}
use Rattle.es_eval.proofs.ScriptLemmas.{ends-with, source-run}
use Rattle.es_eval.proofs.scripts.run.Goals as goal

pub returns-clause-ends : goal.returns-clause-ends
returns-clause-ends g c =
    let ended = c.run_program-ended in
    IfOk-weaker ended.result _ _
    (λ outcome ends sources tells. ends-with g.H.Host.reads g.H.Host.writes g.H.Host.calls c.new.result _ _
    c.args.host.now ended.new.host outcome ended.new.self c.give_back.new.globals
    c.give_back.new.heap
    (source-run sources c.args.programs.now c.new.result c.args.globals.now c.args.heap.now
    c.args.budget c.in_ok-machine.machine
    (c.law_of_told_programs.ensures.programs sources c.args.programs.now tells) c.new.ensures
    c.in_ok-machine.ensures.machine c.args.which c.requires.which
    (c.law_of_told_programs.ensures.top c.args.programs.now c.args.which))
    c.give_back.ensures.globals c.give_back.ensures.heap ends)
    ended.ensures.ends
