use Rattle.std.proofs.Common.{◌≡◌, ◌<◌, ◌≤◌, ◌^◌, ◌++◌, ◌∷◌, [], take, false, ap, ◌∙◌, arith, rules, vec_capacity}
use Rattle.nv_journal.specs.declared.memory_disks.Mark.TheVariants.{Synced}
use Rattle.nv_journal.specs.Disks.{only}
use Rattle.bml_ports.specs.MemoryCalls.{after_call}
use Rattle.nv_journal.specs.MemoryDisks.{MemoryDiskState, moved}
use Rattle.nv_journal.proofs.Marked.{kept-settled, past-push}
use Rattle.nv_journal.proofs.memory_disks.MemoryDisk.settle.Goals as goal

pub invariant_of-self : goal.invariant_of-self
invariant_of-self c =
    let m : c.push.new.self.items ≡ c.self.inside.marks.items ++ Synced c.snapshot-snapshot.result c.len-size.result ∷ [] = search rules in
    let s : c.extend_from_slice.new.self.items ≡ c.self.inside.bytes.items = search rules in
    let front : take c.len-size.result c.snapshot-snapshot.result ≡ c.self.inside.bytes.items = search rules in
    let w : c.clear-2.new.self.items ≡ [] = c.clear-2.ensures.items in
    let room : c.self.inside.calls.made < c.self.inside.most = omega (arith, c.requires, ap (λ (s : MemoryDiskState). s.calls.made) c.self.view_is, ap (λ (s : MemoryDiskState). s.most) c.self.view_is) in
    let small : c.self.inside.most < 2 ^ 64 = search rules in
    let held : vec_capacity c.self.inside.settled ≤ vec_capacity c.extend_from_slice.new.self = omega (arith, c.clear.ensures.capacity, c.extend_from_slice.ensures.capacity) in
    let kept : vec_capacity c.self.inside.written ≤ vec_capacity c.clear-2.new.self = omega (arith, c.clear-2.ensures.capacity) in
    kept-settled _ _ _ _ _ _ _ _ _ _ _ c.self.invariant c.snapshot-snapshot.result c.len-size.result _ _ _ _ _ _ _ front s w m held kept c.push.ensures.capacity room small (ap (λ calls. calls.made) c.count.ensures.after)

pub returns-clause-after : goal.returns-clause-after
returns-clause-after c =
    let m : c.push.new.self.items ≡ c.self.inside.marks.items ++ Synced c.snapshot-snapshot.result c.len-size.result ∷ [] = search rules in
    let s : c.extend_from_slice.new.self.items ≡ c.self.inside.bytes.items = search rules in
    let w : c.clear-2.new.self.items ≡ [] = c.clear-2.ensures.items in
    let past = past-push _ _ _ _ _ _ _ _ _ _ _ c.self.invariant c.push.new.self.items (Synced c.snapshot-snapshot.result c.len-size.result) m in
    let F : MemoryDiskState → MemoryDiskState = λ s. record { content = moved s.content (only s.content.reads); failing = s.failing; calls = after_call s.calls false; most = s.most } in
    (λ i. record {
      content = record {
        reads = c.self.inside.bytes.items;
        images = record { settled = s i; written = w i };
        past = past i;
      };
      failing = c.self.inside.failing.items;
      calls = c.count.ensures.after i;
      most = c.self.inside.most;
    })
    ∙ ap F c.self.view_is
