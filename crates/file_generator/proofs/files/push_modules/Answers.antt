use Rattle.std.proofs.Common.{◌∙◌}
use Rattle.file_generator.proofs.Drawing.{module-drawn}
use Rattle.file_generator.proofs.Pushing.{begun, drawn-media, drawn-pushed, menu-pushed}
use Rattle.file_generator.proofs.files.push_modules.Goals as goal

pub loop-index-init : goal.loop-index-init
loop-index-init c = record {
  modules = menu-pushed _ _ _ c.in_ok-menu.ensures c.in_ok-push_module.ensures;
  words = c.seed_from_u64-words.ensures ∙ begun c.args.seed;
}

pub loop-index-preserved : goal.loop-index-preserved
loop-index-preserved c =
    let h = module-drawn c.args.seed c.loop-index.index _ _ _ c.loop-index.invariant.words c.in_ok-bytes.ensures in
    record {
      modules = drawn-pushed c.args.seed c.loop-index.index _ _ _ _ _ c.loop-index.invariant.modules (drawn-media c.args.seed c.loop-index.index) h.0 c.in_ok-push_module-2.ensures;
      words = h.1;
    }
