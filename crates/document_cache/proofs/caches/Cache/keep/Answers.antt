use Rattle.std.proofs.Common.{◌∙◌, ap}
use Rattle.std.specs.Prelude.{map}
use Rattle.document_cache.specs.Caching.{kept_in_front}
use Rattle.document_cache.specs.CacheViews.{entry_of, entry_under}
use Rattle.document_cache.proofs.CacheLemmas.{kept-in_front}
use Rattle.document_cache.proofs.caches.Cache.keep.Goals as goal

pub returns-clause-ok : goal.returns-clause-ok
returns-clause-ok c =
    ap (λ documents. map entry_of documents.entries) c.in_ok-put.ensures.entries
    ∙ (kept-in_front c.self.inside.documents c.args.key c.args.cached c.self.invariant c.len-count.ensures.valid
    ∙ ap (kept_in_front (entry_under c.args.key c.args.cached)) c.self.view_is)
