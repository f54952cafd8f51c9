-- Generated files can be written as a stream.
use Rattle.std.proofs.Common.{◌≡◌, ℕ, zero, suc, ◌+◌, ◌*◌, ◌%◌, ◌<◌, ◌≤◌, ◌==◌, Bool, true, false, not, ◌&&◌, ◌||◌, List, [], ◌∷◌, length, map, refl, sym, ap, subst, ◌∙◌, arith}
use Rattle.std.specs.Prelude.{◌↔◌, nat_le, sum_by}
use Rattle.std.specs.List.{All, list_all, list_any, range_with_len}
use Rattle.std.proofs.Math.Nat.{mod-lt}
use Rattle.std.proofs.lemmas.Bool.{and_from, ne_eqb}
use Rattle.std.proofs.lemmas.List.{length-map}
use Rattle.std.proofs.lemmas.List.Elements.{All-nil, All-cons, All-head, All-tail}
use Rattle.std.proofs.lemmas.List.FromFn.{length-map-range_with_len}
use Rattle.std.proofs.lemmas.List.Sums.{list_all-from_AllPass, sum_by-le}
use Rattle.bml_bytes.specs.Codes.{bytes_of, codes}
use Rattle.bml_bytes.specs.Words.{is_same}
use Rattle.carousel_blocks.specs.InForce.{block_count}
use Rattle.carousel_writer.specs.declared.files.FileModule.{FileModule}
use Rattle.carousel_writer.specs.declared.files.Files.{Files}
use Rattle.carousel_writer.specs.GoodFiles.{AreSmall, are_good_files, entry_size, has_good_fields, has_good_media, has_short_dii, have_own_numbers, is_good_media, is_unskipped}
use Rattle.carousel_writer.specs.Streams.{info_of}
use Rattle.file_generator.specs.GeneratedFiles.{IsGenerated, ModuleSeen, drawn_module, menu_module, module_seen, modules_of}
use Rattle.file_generator.specs.Menu.{menu_entity}
use Rattle.file_generator.specs.Modules.{drawn_bytes, first_word, size_of}
use Rattle.file_generator.specs.Words.{word}

-- ---- what holds of each module

all-seen : (P : ModuleSeen → Type 0) (items : List FileModule) → All P (map module_seen items) → All (λ file. P (module_seen file)) items
all-seen P [] h = All-nil (λ file. P (module_seen file))
all-seen P (file ∷ items) h = All-cons (λ file. P (module_seen file)) file items (All-head P (module_seen file) (map module_seen items) h) (all-seen P items (All-tail P (module_seen file) (map module_seen items) h))

all-drawn : (P : ModuleSeen → Type 0) (seed a n : ℕ) → ((index : ℕ) → P (drawn_module seed index)) → All P (map (drawn_module seed) (range_with_len a n))
all-drawn P seed a zero h = All-nil P
all-drawn P seed a (suc n) h = All-cons P (drawn_module seed a) (map (drawn_module seed) (range_with_len (a + 1) n)) (h a) (all-drawn P seed (a + 1) n h)

all-modules : (P : ModuleSeen → Type 0) (files : Files) (seed count : ℕ) → IsGenerated files seed count → P menu_module → ((index : ℕ) → P (drawn_module seed index)) → All (λ file. P (module_seen file)) files.modules.items
all-modules P files seed count g menu drawn =
    all-seen P files.modules.items (subst (All P) (sym g.modules) (All-cons P menu_module (map (drawn_module seed) (range_with_len 0 count)) menu (all-drawn P seed 0 count drawn)))

module-count : (files : Files) (seed count : ℕ) → IsGenerated files seed count → length files.modules.items ≡ count + 1
module-count files seed count g =
    let drawn = length-map-range_with_len (drawn_module seed) 0 count in
    let all : length (map module_seen files.modules.items) ≡ suc (length (map (drawn_module seed) (range_with_len 0 count))) = ap length g.modules in
    omega (arith, length-map files.modules.items module_seen, all, drawn)

-- ---- media types and entries

drawn-media : (seed index : ℕ) → is_good_media (drawn_module seed index).media ≡ true
unfolding codes
drawn-media seed index = refl

no-media : is_good_media [] ≡ true
unfolding codes
no-media = refl

drawn-entry : (seed index : ℕ) → 8 + length (info_of (drawn_module seed index).media) ≡ 34
drawn-entry seed index = refl

good-media : (files : Files) (seed count : ℕ) → IsGenerated files seed count → list_all has_good_media files.modules.items ≡ true
good-media files seed count g =
    list_all-from_AllPass has_good_media files.modules.items (all-modules (λ m. is_good_media m.media ≡ true) files seed count g no-media (drawn-media seed))

short-entries : (files : Files) (seed count : ℕ) → count ≤ 100 → IsGenerated files seed count → 46 + sum_by entry_size files.modules.items ≤ 4096
short-entries files seed count most g =
    let each = all-modules (λ m. 8 + length (info_of m.media) ≤ 34) files seed count g (omega arith) (λ index. let e = drawn-entry seed index in omega (arith, e)) in
    omega (arith, most, module-count files seed count g, sum_by-le entry_size 34 files.modules.items each)

-- ---- sizes

menu-long : length menu_entity ≤ 64_999
menu-long = omega arith

drawn-long : (seed index : ℕ) → length (drawn_bytes seed index) ≤ 64_999
drawn-long seed index =
    let first = word seed (first_word seed index) in
    let n = length-map-range_with_len (λ number. word seed number % 256) (first_word seed index + 1) (size_of first) in
    let m : first % 64000 < 64000 = mod-lt first (omega arith) in
    omega (arith, n, m)

small-sizes : (files : Files) (seed count : ℕ) → IsGenerated files seed count → All (λ file. length file.bytes.items ≤ 64_999) files.modules.items
small-sizes files seed count g = all-modules (λ m. length m.bytes ≤ 64_999) files seed count g menu-long (drawn-long seed)

abbrev pub TellCounts : Type 0
TellCounts = (block_size size count : ℕ) → 0 < block_size → (size ≤ count * block_size) ↔ (block_count block_size size ≤ count)

are-small : TellCounts → (files : Files) (seed count : ℕ) → count ≤ 100 → IsGenerated files seed count → AreSmall files
are-small counts files seed count most g =
    let sizes = small-sizes files seed count g in
    record {
      sizes = λ k d b. let one = sizes k d b in omega (arith, one);
      blocks = λ k d b. let one = sizes k d b in (counts files.block_size _ 65_536 (omega (arith, g.block_size))).0 (omega (arith, one, g.block_size));
      sum = omega (arith, most, module-count files seed count g, sum_by-le (λ file. length file.bytes.items) 64_999 files.modules.items sizes);
    }

-- ---- numbers

abbrev own_seen : List ModuleSeen → Bool
own_seen [] = true
own_seen (m ∷ modules) = not (list_any (λ other. other.id == m.id) modules) && own_seen modules

any-same : (number : ℕ) (items : List FileModule) → list_any (λ other. other.id == number) items ≡ list_any (λ other. other.id == number) (map module_seen items)
any-same number [] = refl
any-same number (file ∷ items) = ap (λ (t : Bool). (file.id == number) || t) (any-same number items)

own-same : (items : List FileModule) → have_own_numbers items ≡ own_seen (map module_seen items)
own-same [] = refl
own-same (file ∷ items) =
    ap (λ (t : Bool). not t && have_own_numbers items) (any-same file.id items) ∙ ap (λ (t : Bool). not (list_any (λ other. other.id == file.id) (map module_seen items)) && t) (own-same items)

none-below : (seed number a n : ℕ) → number < a + 1 → list_any (λ other. other.id == number) (map (drawn_module seed) (range_with_len a n)) ≡ false
none-below seed number a zero h = refl
none-below seed number a (suc n) h =
    ap (λ (t : Bool). t || list_any (λ other. other.id == number) (map (drawn_module seed) (range_with_len (a + 1) n))) (ne_eqb (a + 1) number (λ e. omega (arith, e, h)))
    ∙ none-below seed number (a + 1) n (omega (arith, h))

own-drawn : (seed a n : ℕ) → own_seen (map (drawn_module seed) (range_with_len a n)) ≡ true
own-drawn seed a zero = refl
own-drawn seed a (suc n) = and_from _ _ (ap not (none-below seed (a + 1) (a + 1) n (omega arith))) (own-drawn seed (a + 1) n)

own-numbers : (files : Files) (seed count : ℕ) → IsGenerated files seed count → have_own_numbers files.modules.items ≡ true
own-numbers files seed count g =
    own-same files.modules.items ∙ ap own_seen g.modules ∙ and_from _ _ (ap not (none-below seed 0 0 count (omega arith))) (own-drawn seed 0 count)

-- ---- the whole

good-fields : (files : Files) (seed count : ℕ) → IsGenerated files seed count → has_good_fields files ≡ true
good-fields files seed count g =
    and_from _ _ (ap (λ n. nat_le 1 n) g.rounds) (and_from _ _ (ap (λ n. nat_le 16 n) g.pid) (and_from _ _ (ap (λ n. nat_le n 8190) g.pid) (and_from _ _ (ap (λ n. nat_le 1 n) g.block_size) (ap (λ n. nat_le n 4000) g.block_size))))

pub record Sizes : Type 0 where
  pub counts : TellCounts
  pub dii : (files : Files) → (has_short_dii files ≡ true) ↔ (46 + sum_by entry_size files.modules.items ≤ 4096)
  pub modules : (files : Files) → 0 < files.block_size → have_own_numbers files.modules.items ≡ true → (list_all (is_unskipped files) files.modules.items ≡ true) ↔ AreSmall files

pub good : Sizes → (files : Files) (seed count : ℕ) → count ≤ 100 → IsGenerated files seed count → are_good_files files ≡ true
good laws files seed count most g =
    let own = own-numbers files seed count g in
    and_from _ _ (good-fields files seed count g) (and_from _ _ (good-media files seed count g)
    (and_from _ _ ((laws.dii files).1 (short-entries files seed count most g))
    (and_from _ _ own ((laws.modules files (omega (arith, g.block_size)) own).1 (are-small laws.counts files seed count most g)))))
