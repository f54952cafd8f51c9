use Rattle.std.proofs.Common.{◌∙◌, ap}
use Rattle.es_values.specs.declared.values.Value.{Value}
use Rattle.es_eval.specs.Worlds.{with_name}
use Rattle.es_eval.specs.devices.Machines.{world_of}
use Rattle.es_eval.proofs.FoundLemmas.{write-finds}
use Rattle.es_eval.proofs.machine.Machine.written_value.Goals as goal

pub returns-clause-finds : goal.returns-clause-finds
returns-clause-finds c =
    let programs = c.args.programs.now in
    write-finds programs c.args.name.now c.args.value c.args.self.now c.write_name.new.self
    (c.in_ok-write_name.ensures.name ∙ ap (λ (v : Value). with_name c.args.name.now v
    (world_of programs c.args.self.now)) c.in_ok-share.ensures)
