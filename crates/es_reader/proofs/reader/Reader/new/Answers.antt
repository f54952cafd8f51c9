use Rattle.std.proofs.Common.{refl}
use Rattle.es_reader.proofs.LoopLemmas.{reads-first}
use Rattle.es_reader.proofs.reader.Reader.new.Goals as goal

pub returns : goal.returns
returns c = λ tokens. reads-first tokens _ c.new-2.ensures refl c.new-3.ensures c.new-4.ensures.items c.new-5.ensures.items refl
