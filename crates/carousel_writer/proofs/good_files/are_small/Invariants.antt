use Rattle.std.proofs.Common.{◌≡◌, ◌≤◌, length, take}
use Rattle.std.specs.Prelude.{sum_by}
use Rattle.carousel_writer.specs.devices.Laying.{AreUnskipped}
use Rattle.carousel_writer.proofs.good_files.are_small.Given as goal

abbrev pub invariant-modules : goal.invariant-modules
invariant-modules l = record {
  unskipped : AreUnskipped l.files (take l.file-index l.files.modules.items);
  sum : l.sum ≡ sum_by (λ file. length file.bytes.items) (take l.file-index l.files.modules.items);
  most : l.sum ≤ 33_554_432;
}
