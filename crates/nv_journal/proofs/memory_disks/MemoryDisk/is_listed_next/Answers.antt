use Rattle.std.proofs.Common.{◌≡◌, ◌∙◌, ap}
use Rattle.bml_ports.specs.Counters.{counted}
use Rattle.nv_journal.specs.MemoryDisks.{MemoryDiskState}
use Rattle.nv_journal.proofs.memory_disks.MemoryDisk.is_listed_next.Goals as goal

pub returns : goal.returns
returns c =
    let listed : c.as_slice.result.now ≡ c.args.self.now.failing = c.as_slice.ensures.value ∙ ap (λ (s : MemoryDiskState). s.failing) c.self.view_is in
    let number : c.next_number.result ≡ counted c.args.self.now.calls.made = c.next_number.ensures ∙ ap (λ (s : MemoryDiskState). counted s.calls.made) c.self.view_is in
    rw (listed, number) at c.is_listed.ensures
