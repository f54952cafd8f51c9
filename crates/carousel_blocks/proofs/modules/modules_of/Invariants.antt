use Rattle.std.proofs.Common.{[], ◌≤◌, fold}
use Rattle.carousel_blocks.specs.InForce.{with_entry}
use Rattle.carousel_blocks.specs.Modules.{KeepModules, kept_at}
use Rattle.carousel_blocks.specs.Drafts.{IsDraft}
use Rattle.carousel_blocks.proofs.modules.modules_of.Given as goal

abbrev pub invariant-entries : goal.invariant-entries
invariant-entries l = record {
  keeps : KeepModules l.old l.initial.buffers l.buffers;
  size : l.draft.size ≤ 33554432;
  draft : IsDraft l.fn.dii (kept_at l.old l.initial.buffers) (fold (with_entry l.fn.dii) [] l.yielded) l.draft l.buffers;
}
