-- Laws on calls that are made again.
use Rattle.std.proofs.Common.{ℕ, List, [], ◌++◌, take, Option, None, Some, Result, Ok, Err, sym, ap, ◌∙◌, append-nil}
use Rattle.std.specs.Io.KnownBytes.{ReadConsumes, WriteAppends, Keeps, Appends, Consumes}
use Rattle.std.proofs.KnownBytes.{Keeps-trans}

pub kept_then_consumes : (a b c : Option (List ℕ)) (bytes : List ℕ) → Keeps a b → Consumes b c bytes → Consumes a c bytes
kept_then_consumes None b c bytes kept consumes = tt
kept_then_consumes (Some x) None c bytes kept consumes = absurd kept
kept_then_consumes (Some x) (Some y) None bytes kept consumes = absurd consumes
kept_then_consumes (Some x) (Some y) (Some z) bytes kept consumes = sym kept ∙ consumes

pub kept_then_appends : (a b c : Option (List ℕ)) (bytes : List ℕ) → Keeps a b → Appends b c bytes → Appends a c bytes
kept_then_appends None b c bytes kept appends = tt
kept_then_appends (Some x) None c bytes kept appends = absurd kept
kept_then_appends (Some x) (Some y) None bytes kept appends = absurd appends
kept_then_appends (Some x) (Some y) (Some z) bytes kept appends = appends ∙ ap (λ l. l ++ bytes) kept

-- no byte appended is as before
pub appends_none : (a b : Option (List ℕ)) → Appends a b [] → Keeps a b
appends_none None b appends = tt
appends_none (Some x) None appends = absurd appends
appends_none (Some x) (Some y) appends = appends ∙ append-nil x

-- a read after calls that took nothing is the read
pub reads_again : {E : Type 0} (a b c : Option (List ℕ)) (result : Result ℕ E) (buf : List ℕ) → Keeps a b → ReadConsumes b c result buf → ReadConsumes a c result buf
reads_again a b c (Ok n) buf kept read = (kept_then_consumes a b c (take n buf) kept read.0, read.1)
reads_again a b c (Err e) buf kept read = Keeps-trans a b c kept read

-- a write after calls that appended nothing is the write
pub writes_again : {E : Type 0} (a b c : Option (List ℕ)) (result : Result ℕ E) (buf : List ℕ) → Keeps a b → WriteAppends b c result buf → WriteAppends a c result buf
writes_again a b c (Ok n) buf kept write = kept_then_appends a b c (take n buf) kept write
writes_again a b c (Err e) buf kept write = Keeps-trans a b c kept write
