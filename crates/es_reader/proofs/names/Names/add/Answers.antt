use Rattle.std.proofs.Common.{◌∙◌, not, ap}
use Rattle.es_reader.proofs.NameLemmas.{among-of, inserted}
use Rattle.es_reader.proofs.names.Names.add.Goals as goal

pub returns-clause-added : goal.returns-clause-added
returns-clause-added c =
    (c.in_ok-added.ensures {u = tt}).added
    ∙ ap not (among-of c.args.name.now c.in_ok-share.field-0 c.args.self.now c.self.inside.set.keys (c.in_ok-share.ensures {u = tt}) c.self.view_is)

pub returns-clause-names : goal.returns-clause-names
returns-clause-names c =
    (c.in_ok-added.ensures {u = tt}).keys
    ∙ inserted c.args.name.now c.in_ok-share.field-0 c.args.self.now c.self.inside.set.keys (c.in_ok-share.ensures {u = tt}) c.self.view_is
