use Rattle.carousel_blocks.specs.Modules.{KeepModules}
use Rattle.carousel_blocks.proofs.modules.give_back_unused.Given as goal

abbrev pub invariant-keys : goal.invariant-keys
invariant-keys l = KeepModules l.modules l.initial.buffers l.buffers
