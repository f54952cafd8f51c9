use Rattle.std.proofs.Common.{◌≡◌, ◌<◌, ◌^◌, ◌++◌, ◌∷◌, [], ap, ◌∙◌, arith, rules}
use Rattle.nv_journal.specs.declared.disks.Extent.{Extent}
use Rattle.nv_journal.specs.declared.memory_disks.Mark.TheVariants.{Wrote}
use Rattle.nv_journal.specs.Disks.{after_write}
use Rattle.bml_ports.specs.MemoryCalls.{after_call}
use Rattle.nv_journal.specs.MemoryDisks.{MemoryDiskState, moved}
use Rattle.nv_journal.proofs.Marked.{kept-written, past-push}
use Rattle.nv_journal.proofs.memory_disks.MemoryDisk.note_write.Goals as goal

pub invariant_of-self : goal.invariant_of-self
invariant_of-self c =
    let extent : Extent = record { place = c.args.place; size = c.args.size } in
    let w : c.push.new.self.items ≡ c.self.inside.written.items ++ extent ∷ [] = search rules in
    let m : c.push-2.new.self.items ≡ c.self.inside.marks.items ++ Wrote extent ∷ [] = search rules in
    let room : c.self.inside.calls.made < c.self.inside.most = omega (arith, c.requires, ap (λ (s : MemoryDiskState). s.calls.made) c.self.view_is, ap (λ (s : MemoryDiskState). s.most) c.self.view_is) in
    let small : c.self.inside.most < 2 ^ 64 = search rules in
    kept-written _ _ _ _ _ _ _ _ _ _ _ c.self.invariant extent _ _ _ _ _ w m c.push.ensures.capacity c.push-2.ensures.capacity room small (ap (λ calls. calls.made) c.count.ensures.after)

pub returns-clause-after : goal.returns-clause-after
returns-clause-after c =
    let extent : Extent = record { place = c.args.place; size = c.args.size } in
    let w : c.push.new.self.items ≡ c.self.inside.written.items ++ extent ∷ [] = search rules in
    let m : c.push-2.new.self.items ≡ c.self.inside.marks.items ++ Wrote extent ∷ [] = search rules in
    let past = past-push _ _ _ _ _ _ _ _ _ _ _ c.self.invariant c.push-2.new.self.items (Wrote extent) m in
    let F : MemoryDiskState → MemoryDiskState = λ s. record { content = moved s.content (after_write s.content.images c.args.place c.args.size); failing = s.failing; calls = after_call s.calls c.args.failed; most = s.most } in
    (λ i. record {
      content = record {
        reads = c.self.inside.bytes.items;
        images = record { settled = c.self.inside.settled.items; written = w i };
        past = past i;
      };
      failing = c.self.inside.failing.items;
      calls = c.count.ensures.after i;
      most = c.self.inside.most;
    })
    ∙ ap F c.self.view_is
