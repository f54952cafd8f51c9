use Rattle.es_reader.proofs.ReaderLemmas.{the-reader}
use Rattle.es_reader.proofs.text_laws.law_of_the_reader.Goals as goal

pub returns : goal.returns
returns c = the-reader c.law_of_readers.ensures.each
