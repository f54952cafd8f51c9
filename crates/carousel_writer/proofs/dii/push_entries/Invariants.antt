use Rattle.std.proofs.Common.{◌≡◌, ◌++◌, take}
use Rattle.std.specs.List.{flat_map}
use Rattle.dsmcc_messages.specs.Dii.{entry_bytes}
use Rattle.carousel_writer.specs.Streams.{entry_of}
use Rattle.carousel_writer.proofs.dii.push_entries.Given as goal

abbrev pub invariant-modules : goal.invariant-modules
invariant-modules l = l.out.items ≡ l.fn.out.items ++ flat_map (λ file. entry_bytes (entry_of file)) (take l.file-index l.modules)
