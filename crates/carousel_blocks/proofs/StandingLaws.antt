-- Laws of standings.
use Rattle.std.proofs.Common.{◌≡◌, ℕ, ◌==◌, Bool, true, false, ◌&&◌, List, refl, sym, ap, arith}
use Rattle.std.specs.Prelude.{Option, Some, None, bytes_eq}
use Rattle.std.proofs.lemmas.Slice.Eq.{bytes_eq-Decides}
use Rattle.carousel_blocks.specs.declared.standing.SkipCause.{SkipCause}
use Rattle.carousel_blocks.specs.declared.standing.SkipCause.TheVariants.{Compressed, Large}
use Rattle.carousel_blocks.specs.declared.standing.Standing.{Standing}
use Rattle.carousel_blocks.specs.Held.{same_skip, same_standing, unchanged}

first : (a b : Bool) → (a && b) ≡ true → a ≡ true
first true b h = refl
first false b h = h

second : (a b : Bool) → (a && b) ≡ true → b ≡ true
second true b h = h
second false b h = cc

same_number : (a b : ℕ) → (a == b) ≡ true → b ≡ a
same_number a b h = grind arith

same_skip_equal : (a b : Option SkipCause) → same_skip a b ≡ true → b ≡ a
same_skip_equal None None h = refl
same_skip_equal None (Some y) h = cc
same_skip_equal (Some Compressed) None h = cc
same_skip_equal (Some Large) None h = cc
same_skip_equal (Some Compressed) (Some Compressed) h = refl
same_skip_equal (Some Large) (Some Large) h = refl
same_skip_equal (Some Compressed) (Some Large) h = cc
same_skip_equal (Some Large) (Some Compressed) h = cc

made : ℕ → ℕ → ℕ → ℕ → ℕ → List ℕ → Option SkipCause → Standing
made download block_size id size version info skip = record { download = download; block_size = block_size; entry = record { id = id; size = size; version = version; info = info }; skip = skip }

-- two standings with the same in all are one
pub same_is_equal : (a b : Standing) → same_standing a b ≡ true → a ≡ b
unfolding made
same_is_equal a b h =
    let h1 = second (b.download == a.download) ((b.block_size == a.block_size) && ((b.entry.id == a.entry.id) && ((b.entry.size == a.entry.size) && ((b.entry.version == a.entry.version) && (bytes_eq b.entry.info a.entry.info && same_skip b.skip a.skip))))) h in
    let h2 = second (b.block_size == a.block_size) ((b.entry.id == a.entry.id) && ((b.entry.size == a.entry.size) && ((b.entry.version == a.entry.version) && (bytes_eq b.entry.info a.entry.info && same_skip b.skip a.skip)))) h1 in
    let h3 = second (b.entry.id == a.entry.id) ((b.entry.size == a.entry.size) && ((b.entry.version == a.entry.version) && (bytes_eq b.entry.info a.entry.info && same_skip b.skip a.skip))) h2 in
    let h4 = second (b.entry.size == a.entry.size) ((b.entry.version == a.entry.version) && (bytes_eq b.entry.info a.entry.info && same_skip b.skip a.skip)) h3 in
    let h5 = second (b.entry.version == a.entry.version) (bytes_eq b.entry.info a.entry.info && same_skip b.skip a.skip) h4 in
    let e1 = same_number b.download a.download (first (b.download == a.download) ((b.block_size == a.block_size) && ((b.entry.id == a.entry.id) && ((b.entry.size == a.entry.size) && ((b.entry.version == a.entry.version) && (bytes_eq b.entry.info a.entry.info && same_skip b.skip a.skip))))) h) in
    let e2 = same_number b.block_size a.block_size (first (b.block_size == a.block_size) ((b.entry.id == a.entry.id) && ((b.entry.size == a.entry.size) && ((b.entry.version == a.entry.version) && (bytes_eq b.entry.info a.entry.info && same_skip b.skip a.skip)))) h1) in
    let e3 = same_number b.entry.id a.entry.id (first (b.entry.id == a.entry.id) ((b.entry.size == a.entry.size) && ((b.entry.version == a.entry.version) && (bytes_eq b.entry.info a.entry.info && same_skip b.skip a.skip))) h2) in
    let e4 = same_number b.entry.size a.entry.size (first (b.entry.size == a.entry.size) ((b.entry.version == a.entry.version) && (bytes_eq b.entry.info a.entry.info && same_skip b.skip a.skip)) h3) in
    let e5 = same_number b.entry.version a.entry.version (first (b.entry.version == a.entry.version) (bytes_eq b.entry.info a.entry.info && same_skip b.skip a.skip) h4) in
    let e6 = sym ((bytes_eq-Decides b.entry.info a.entry.info).0 (first (bytes_eq b.entry.info a.entry.info) (same_skip b.skip a.skip) h5)) in
    let e7 = same_skip_equal b.skip a.skip (second (bytes_eq b.entry.info a.entry.info) (same_skip b.skip a.skip) h5) in
    λ i. made (e1 i) (e2 i) (e3 i) (e4 i) (e5 i) (e6 i) (e7 i)

same_number_yes : (a : ℕ) → (a == a) ≡ true
same_number_yes a = grind arith

same_skip_yes : (a : Option SkipCause) → same_skip a a ≡ true
same_skip_yes None = refl
same_skip_yes (Some Compressed) = refl
same_skip_yes (Some Large) = refl

all_true : (a b c d e f g : Bool) → a ≡ true → b ≡ true → c ≡ true → d ≡ true → e ≡ true → f ≡ true → g ≡ true → (a && (b && (c && (d && (e && (f && g)))))) ≡ true
all_true true true true true true true g h1 h2 h3 h4 h5 h6 h7 = h7
all_true true true true true true false g h1 h2 h3 h4 h5 h6 h7 = h6
all_true true true true true false f g h1 h2 h3 h4 h5 h6 h7 = h5
all_true true true true false e f g h1 h2 h3 h4 h5 h6 h7 = h4
all_true true true false d e f g h1 h2 h3 h4 h5 h6 h7 = h3
all_true true false c d e f g h1 h2 h3 h4 h5 h6 h7 = h2
all_true false b c d e f g h1 h2 h3 h4 h5 h6 h7 = h1

-- a standing is unchanged where it stays
pub same_standing_yes : (a : Standing) → same_standing a a ≡ true
same_standing_yes a =
    all_true (a.download == a.download) (a.block_size == a.block_size) (a.entry.id == a.entry.id) (a.entry.size == a.entry.size) (a.entry.version == a.entry.version) (bytes_eq a.entry.info a.entry.info) (same_skip a.skip a.skip)
    (same_number_yes a.download) (same_number_yes a.block_size) (same_number_yes a.entry.id) (same_number_yes a.entry.size) (same_number_yes a.entry.version) ((bytes_eq-Decides a.entry.info a.entry.info).1 refl) (same_skip_yes a.skip)

pub unchanged_equal : (a b : Option Standing) → unchanged a b ≡ true → a ≡ b
unchanged_equal None None h = refl
unchanged_equal None (Some y) h = cc
unchanged_equal (Some x) None h = cc
unchanged_equal (Some x) (Some y) h = ap (λ z. Some z) (same_is_equal x y h)
