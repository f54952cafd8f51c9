use Rattle.std.proofs.Common.{◌≡◌, List, subst}
use Rattle.std.proofs.lemmas.Result.{IfOk-weaker}
use Rattle.es_reader.specs.Programs.{ToldProgram}
use Rattle.es_eval.specs.Endings.{MayEnd}
use Rattle.es_eval.specs.devices.Machines.{run_from, told_run, world_of}
use Rattle.es_eval.specs.Worlds.{Run}
use Rattle.es_eval.proofs.ScriptLemmas.{program-starts}
use Rattle.es_eval.proofs.machine.Machine.run_program.Goals as goal

pub returns : goal.returns
returns g c =
    let start = c.args.self.now in
    let first = c.in_ok-first.first in
    let starts = subst (λ (programs : List ToldProgram). run_from programs c.run_listed.new.self first
    ≡ told_run programs c.args.which (world_of programs start)) c.list-list.ensures
    (program-starts c.list-list.result.now c.args.which start c.declare_functions.new.self
    c.declare_variables.new.self c.run_listed.new.self first c.requires.lowest c.requires.idle
    c.declare_functions.ensures.frames c.declare_variables.ensures.frames
    c.in_ok-declare_functions.ensures.world c.in_ok-declare_variables.ensures.world
    c.in_ok-first.ensures.run) in
    record {
      ends = IfOk-weaker c.run_to_end.result _ _
          (λ outcome ends. subst (λ (run : Run). MayEnd g.H.Host.reads g.H.Host.writes
          g.H.Host.calls run c.args.host.now outcome (world_of c.args.programs.now c.run_to_end.new.self)
          c.run_to_end.new.host) starts ends) c.run_to_end.ensures.ends;
    }
