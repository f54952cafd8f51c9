use Rattle.es_eval.specs.Evaluation.{global_run, program_run}
use Rattle.es_eval.proofs.FurtherLemmas.{further-ends, global-further, program-further, stopped-before}
use Rattle.es_eval.proofs.laws.law_of_more_steps.Goals as goal

pub returns-clause-programs : goal.returns-clause-programs
returns-clause-programs g c programs before program globals heap budget more host outcome w after
    not_stopped ends =
    further-ends g.H.Host.reads g.H.Host.writes g.H.Host.calls more
    (program_run programs before program globals heap budget) _
    (program-further programs before program globals heap budget more) host outcome w after
    not_stopped ends

pub returns-clause-stopped_programs : goal.returns-clause-stopped_programs
returns-clause-stopped_programs g c programs before program globals heap budget more host w after
    ends =
    stopped-before g.H.Host.reads g.H.Host.writes g.H.Host.calls more
    (program_run programs before program globals heap budget) _
    (program-further programs before program globals heap budget more) host w after ends

pub returns-clause-globals : goal.returns-clause-globals
returns-clause-globals g c programs name globals heap budget more host outcome w after not_stopped
    ends =
    further-ends g.H.Host.reads g.H.Host.writes g.H.Host.calls more
    (global_run programs name globals heap budget) _
    (global-further programs name globals heap budget more) host outcome w after not_stopped ends

pub returns-clause-stopped_globals : goal.returns-clause-stopped_globals
returns-clause-stopped_globals g c programs name globals heap budget more host w after ends =
    stopped-before g.H.Host.reads g.H.Host.writes g.H.Host.calls more
    (global_run programs name globals heap budget) _
    (global-further programs name globals heap budget more) host w after ends
