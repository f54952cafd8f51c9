use Rattle.carousel_blocks.proofs.ModuleLaws.{keep_same, keep_both}
use Rattle.carousel_blocks.proofs.modules.give_back_unused.Goals as goal

pub keys-init : goal.keys-init
keys-init c = keep_same c.args.modules.now c.args.buffers.now c.requires

pub give_back-requires : goal.give_back-requires
give_back-requires c = c.keys.invariant.are

pub keys-preserved : goal.keys-preserved
keys-preserved c = keep_both c.args.modules.now c.args.buffers.now c.keys.buffers c.give_back.new.buffers c.keys.invariant c.give_back.ensures
