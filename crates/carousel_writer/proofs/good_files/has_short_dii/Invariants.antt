use Rattle.std.proofs.Common.{◌≡◌, ◌≤◌, ◌+◌, length, take}
use Rattle.std.specs.List.{flat_map}
use Rattle.dsmcc_messages.specs.Dii.{entry_bytes}
use Rattle.carousel_writer.specs.Streams.{entry_of}
use Rattle.carousel_writer.proofs.good_files.has_short_dii.Given as goal

abbrev pub invariant-modules : goal.invariant-modules
invariant-modules l = record {
  size : l.size ≡ 46 + length (flat_map (λ file. entry_bytes (entry_of file)) (take l.file-index l.files.modules.items));
  most : l.size ≤ 4096;
}
