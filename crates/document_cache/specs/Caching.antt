-- Documents that were loaded, kept for another load of the same bytes, as a list: the one that was
-- used last stands in front. (This project's own.)
use Rattle.std.specs.Prelude.{ℕ, ◌==◌, Bool, ◌&&◌, not, List, [], ◌∷◌, ◌++◌, filter, take, slice_get, Option}
use Rattle.bml_bytes.specs.Words.{is_same}
use Rattle.multipart_entities.specs.declared.paths.Path.{Path}
use Rattle.document_load.specs.ToldDocuments.{ToldDocument}
use Rattle.document_cache.specs.declared.keys.CacheKey.{CacheKey}

-- a document under its key, with the paths of the resources that it needed, each with the number of
-- what was seen there, if anything
pub record Entry : Type 0 where
  pub key : CacheKey
  pub needs : List (Path × Option ℕ)
  pub document : ToldDocument

-- the same path, and the same number
abbrev pub is_same_key : CacheKey → CacheKey → Bool
is_same_key key other =
    key.own == other.own
    && (key.path.component == other.path.component
    && (key.path.module == other.path.module && is_same key.path.name other.path.name))

-- those under a key, and the others
abbrev pub entries_of : CacheKey → List Entry → List Entry
entries_of key entries = filter (λ entry. is_same_key key entry.key) entries

abbrev pub others_of : CacheKey → List Entry → List Entry
others_of key entries = filter (λ entry. not (is_same_key key entry.key)) entries

-- what is kept under a key
abbrev pub cached_under : CacheKey → List Entry → Option Entry
cached_under key entries = slice_get (entries_of key entries) 0

abbrev pub brought_to_front : CacheKey → List Entry → List Entry
brought_to_front key entries = entries_of key entries ++ others_of key entries

abbrev pub most_documents : ℕ
most_documents = 8

-- an entry in front, in place of those under its key; past the most that are kept the last is dropped
abbrev pub kept_in_front : Entry → List Entry → List Entry
kept_in_front entry entries = take most_documents (entry ∷ others_of entry.key entries)
