-- What contracts see of what is kept under a key (this project's own).
use Rattle.std.specs.Prelude.{List}
use Rattle.document_load.specs.ToldDocuments.{told_document}
use Rattle.document_cache.specs.Caching.{Entry}
use Rattle.document_cache.specs.declared.caches.Cached.{Cached}
use Rattle.document_cache.specs.declared.keys.CacheKey.{CacheKey}

-- what is kept under a key, as an entry
abbrev pub entry_under : CacheKey → Cached → Entry
entry_under key cached =
    record { key = key; needs = cached.needs.items; document = told_document cached.document }

abbrev pub entry_of : CacheKey × Cached → Entry
entry_of kept = entry_under kept.0 kept.1
