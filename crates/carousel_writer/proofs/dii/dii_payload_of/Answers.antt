use Rattle.std.proofs.Common.{rules}
use Rattle.std.proofs.lemmas.List.Folds.{flat_map-map}
use Rattle.dsmcc_messages.specs.Dii.{entry_bytes}
use Rattle.carousel_writer.specs.Streams.{entry_of}
use Rattle.carousel_writer.proofs.dii.dii_payload_of.Goals as goal

pub returns : goal.returns
returns c = rw (flat_map-map entry_bytes entry_of c.args.files.now.modules.items) (search rules)
