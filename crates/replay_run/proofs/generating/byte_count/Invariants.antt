use Rattle.std.proofs.Common.{◌≡◌, length, take}
use Rattle.std.specs.Prelude.{sum_by}
use Rattle.replay_run.proofs.generating.byte_count.Given as goal

abbrev pub invariant-modules : goal.invariant-modules
invariant-modules l = record {
  count : l.count ≡ sum_by (λ file. length file.bytes.items) (take l.file-index l.files.modules.items);
}
