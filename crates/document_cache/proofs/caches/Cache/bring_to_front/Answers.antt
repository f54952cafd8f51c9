use Rattle.std.proofs.Common.{◌∙◌, ap}
use Rattle.std.specs.Prelude.{map}
use Rattle.document_cache.specs.Caching.{brought_to_front}
use Rattle.document_cache.specs.CacheViews.{entry_of}
use Rattle.document_cache.proofs.CacheLemmas.{use-in_front}
use Rattle.document_cache.proofs.caches.Cache.bring_to_front.Goals as goal

pub returns : goal.returns
returns c =
    ap (λ documents. map entry_of documents.entries) c.promote.ensures.entries
    ∙ (use-in_front c.args.key.now c.self.inside.documents.entries c.len-count.ensures.valid.0
    ∙ ap (brought_to_front c.args.key.now) c.self.view_is)
