use Rattle.std.proofs.Common.{◌<◌, ◌∷◌, map, take}
use Rattle.std.specs.List.{flat_map}
use Rattle.carousel_blocks.specs.Message.{Indication, Data}
use Rattle.carousel_writer.specs.Streams.{blocks_of, dii_of}
use Rattle.carousel_writer.specs.Messages.{message_section}
use Rattle.carousel_writer.specs.devices.Appending.{AppendsSections}
use Rattle.carousel_writer.proofs.streams.push_round.Given as goal

abbrev pub invariant-modules : goal.invariant-modules
invariant-modules l = record {
  sent : AppendsSections l.fn.out.items l.counter l.out.items l.next l.files.pid (map message_section (Indication (dii_of l.files) ∷ map Data (flat_map (blocks_of l.files) (take l.file-index l.files.modules.items))));
  small : l.next < 16;
}
