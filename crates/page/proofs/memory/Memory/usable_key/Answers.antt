use Rattle.std.proofs.Common.{◌≡◌, ◌∙◌, true, sym, subst}
use Rattle.std.specs.Prelude.{is_some}
use Rattle.document_cache.specs.Caching.{cached_under}
use Rattle.document_cache.specs.declared.keys.CacheKey.{CacheKey}
use Rattle.page.specs.devices.Memories.{IsUsableUnder, usable_under}
use Rattle.page.proofs.MemoryLaws.{usable_key}
use Rattle.page.proofs.memory.Memory.usable_key.Goals as goal

pub returns-then-has_usable : goal.returns-then-has_usable
returns-then-has_usable c =
    let same = c.in_ok-key.ensures {u = tt} in
    subst (λ (k : CacheKey). IsUsableUnder c.args.modules.now c.args.path.now k c.args.self.now.entries) (sym same)
    (usable_key c.args.modules.now c.args.path.now c.in-Some.own c.args.self.now.entries
    (subst (λ (k : CacheKey). is_some (cached_under k c.args.self.now.entries) ≡ true) same (c.has_usable.ensures.cached c.if-has_usable.true))
    (λ modules stands. sym (c.seen_number.ensures modules stands) ∙ c.in-Some.is)
    (λ modules stands. subst (λ (k : CacheKey). true ≡ is_some (usable_under modules c.args.self.now.entries k)) same (sym c.if-has_usable.true ∙ c.has_usable.ensures.usable modules stands)))
