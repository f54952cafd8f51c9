use Rattle.std.proofs.Common.{◌≡◌, length, ap, ◌∙◌, rules}
use Rattle.bml_bytes.specs.Areas.{area_length}
use Rattle.bml_ports.specs.Keepers.{filled}
use Rattle.bml_ports.proofs.memory_keepers.MemoryKeeperKeeper.load.Goals as goal

pub returns-clause-loaded : goal.returns-clause-loaded
returns-clause-loaded c =
    let same : c.kept-kept.result.now ≡ c.args.self.now.kept = search rules in
    (ap length same, c.fill_from.ensures ∙ ap (λ n. filled n c.kept-kept.result.now) c.into.invariant ∙ ap (filled area_length) same)
