use Rattle.std.proofs.Common.{refl}
use Rattle.es_reader.proofs.LoopLemmas.{put-in}
use Rattle.es_reader.proofs.reader.Reader.attach.Goals as goal

pub returns-clause-reads : goal.returns-clause-reads
returns-clause-reads c = put-in c.args.tokens.now c.forms.stated c.forms.self _ c.put.new.self c.forms.invariant.holds (c.in_default.ensures {u = tt}).0 (c.in_default.ensures {u = tt}).1 (c.in_ok-put.ensures {u = tt}) refl refl refl refl refl refl
