use Rattle.std.proofs.Common.{refl, ◌∙◌, ap}
use Rattle.document_cache.specs.Caching.{cached_under}
use Rattle.document_cache.proofs.CacheLemmas.{found-in_front}
use Rattle.document_cache.proofs.caches.Cache.find.Goals as goal

pub returns : goal.returns
returns c = (
  (refl, λ _. tt, c.bring_to_front.ensures),
  record {
    found = c.peek.ensures ∙ (ap (cached_under c.args.key.now) c.bring_to_front.ensures ∙ found-in_front c.args.key.now c.args.self.now);
    front = tt;
  },
)
