use Rattle.es_eval.proofs.FoundLemmas.{no-other-single}
use Rattle.es_eval.proofs.machine.Machine.single_value.Goals as goal

pub unreachable-requires : goal.unreachable-requires
unreachable-requires c =
    no-other-single c.args.shape c.requires c.in_default.not-This c.in_default.not-Null
    c.in_default.not-Truth c.in_default.not-Number c.in_default.not-Text c.in_default.not-Name
