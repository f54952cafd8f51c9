use Rattle.es_reader.proofs.LoopBadLemmas.{no-block-bad}
use Rattle.std.proofs.Common.{refl, rules}
use Rattle.es_reader.proofs.LoopLemmas.{block-ended}
use Rattle.es_reader.proofs.reader.Reader.close.Goals as goal

pub attach-requires : goal.attach-requires
attach-requires c =
    block-ended c.args.tokens.now c.args.place c.in_ok-stated-in-Some.stated c.args.self.now _ c.end_form.new.self c.in-Some.block _ c.pop.new.self c.index-tokens-place.result c.requires.reads c.requires.there (c.in-Some.ensures {u = tt}) (search rules)
    refl refl refl c.deeper.ensures (c.in_ok-stated-in-Some.ensures {u = tt}) refl refl refl refl refl refl refl

pub returns-in-Some-2-clause-bad : goal.returns-in-Some-2-clause-bad
returns-in-Some-2-clause-bad c = no-block-bad c.args.tokens.now c.args.place c.args.self.now c.requires.reads c.in-Some.block c.pop.new.self c.requires.there (c.in-Some.ensures {u = tt}) (search rules)
