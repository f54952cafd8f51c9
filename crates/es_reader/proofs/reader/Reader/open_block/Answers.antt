use Rattle.std.proofs.Common.{refl}
use Rattle.es_reader.proofs.LoopLemmas.{block-opened}
use Rattle.es_reader.proofs.reader.Reader.open_block.Goals as goal

pub returns-clause-goes : goal.returns-clause-goes
returns-clause-goes c =
    block-opened c.args.tokens.now c.args.place c.args.self.now _ _ c.index-tokens-place.result c.requires.reads c.requires.there
    (c.in_ok-push.ensures {u = tt}) refl refl refl c.new.ensures.items refl c.in_loop-in_loop.ensures refl refl refl refl refl refl
