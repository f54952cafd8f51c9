use Rattle.std.proofs.Common.{◌∙◌, ap}
use Rattle.std.specs.Prelude.{option_map}
use Rattle.document_cache.specs.Caching.{cached_under}
use Rattle.document_cache.specs.CacheViews.{entry_under}
use Rattle.document_cache.proofs.CacheLemmas.{found}
use Rattle.document_cache.proofs.caches.Cache.peek.Goals as goal

pub returns : goal.returns
returns c =
    ap (option_map (entry_under c.args.key.now)) c.peek.ensures
    ∙ (found c.args.key.now c.self.inside.documents.entries ∙ ap (cached_under c.args.key.now) c.self.view_is)
