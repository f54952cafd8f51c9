use Rattle.std.proofs.Common.{length}
use Rattle.bml_reader.specs.devices.ReaderViews.{seen_by}
use Rattle.bml_reader.proofs.EndLemmas.{Keeps}
use Rattle.bml_reader.proofs.documents.read_pieces.Given as goal

abbrev pub invariant-markup : goal.invariant-markup
invariant-markup l = Keeps l.bytes (seen_by l.reader) l.rest

abbrev pub decreases-markup : goal.decreases-markup
decreases-markup l = length l.rest
