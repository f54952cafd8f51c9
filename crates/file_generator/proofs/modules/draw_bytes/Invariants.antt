use Rattle.std.proofs.Common.{◌≡◌}
use Rattle.file_generator.specs.Words.{after}
use Rattle.file_generator.specs.devices.Drawing.{bytes_behind}
use Rattle.file_generator.proofs.modules.draw_bytes.Given as goal

abbrev pub invariant-loop-number : goal.invariant-loop-number
invariant-loop-number l = record {
  bytes : l.bytes.items ≡ bytes_behind l.number l.fn.words;
  words : l.words ≡ after l.number l.fn.words;
}
