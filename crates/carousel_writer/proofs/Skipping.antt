-- A file is skipped just where it is too large, or all up to it are.
use Rattle.std.proofs.Common.{◌≡◌, ℕ, zero, suc, ◌+◌, ◌<◌, ◌≤◌, inl, inr, Bool, false, if◌then◌else◌, List, [], ◌∷◌, ◌++◌, length, get_or, take, drop, map, refl, sym, ap, subst, ◌∙◌, arith, append_assoc, length-append, Option, Some, None}
use Rattle.std.specs.Prelude.{◌↔◌, IsTrue, is_some, sum_by, slice_get}
use Rattle.std.specs.List.{All, range_with_len}
use Rattle.std.proofs.lemmas.List.Sums.{sum_by-cons, sum_by-append}
use Rattle.std.proofs.Math.Seq.{take-suc}
use Rattle.std.proofs.lemmas.List.Elements.{All-nil, All-cons, All-head, All-tail, All-append}
use Rattle.carousel_blocks.specs.declared.standing.SkipCause.{SkipCause}
use Rattle.carousel_blocks.specs.declared.standing.SkipCause.TheVariants.{Compressed, Large}
use Rattle.carousel_blocks.specs.InForce.{block_count, size_limit, block_limit, sum_limit, is_compressed, counted_size}
use Rattle.carousel_blocks.specs.Entries.{CountsAsEntry, IsLargeAt, skip_in, sum_before, bytes_added, is_taken}
use Rattle.carousel_writer.specs.declared.files.FileModule.{FileModule}
use Rattle.carousel_writer.specs.declared.files.Files.{Files}
use Rattle.carousel_writer.specs.Streams.{entry_of, dii_of}
use Rattle.carousel_writer.proofs.StandingLaws.{DiffersFrom, place-of, free}
use Rattle.carousel_writer.specs.devices.LawsBelow.{Limits}
use Rattle.carousel_writer.proofs.Exact.{not_compressed}

abbrev pub size_of : FileModule → ℕ
size_of file = length file.bytes.items

abbrev pub Unskipped : Files → FileModule → Type 0
Unskipped files file = skip_in (dii_of files) file.id ≡ None

abbrev pub Distinct : List FileModule → Type 0
Distinct modules = (before behind : List FileModule) (file : FileModule) → modules ≡ before ++ file ∷ behind → All (DiffersFrom file) before

-- the file stands behind these, each of which has another number
pub record IsPlaced (files : Files) (before : List FileModule) (file : FileModule) (behind : List FileModule) : Type 0 where
  pub stands : files.modules.items ≡ before ++ file ∷ behind
  pub other : All (DiffersFrom file) before

placed : (files : Files) (before behind : List FileModule) (file : FileModule) → Distinct files.modules.items → files.modules.items ≡ before ++ file ∷ behind → IsPlaced files before file behind
placed files before behind file h e = record { stands = e; other = h before behind file e }

counts : (files : Files) (before behind : List FileModule) (file : FileModule) → IsPlaced files before file behind → CountsAsEntry (dii_of files) (length before) (entry_of file)
counts files before behind file h = record {
  stands = ap (λ x. slice_get (map entry_of x) (length before)) h.stands ∙ place-of before behind file;
  first = ap (λ (x : List FileModule). is_taken (record { transaction = files.transaction; download = files.download; block_size = files.block_size; entries = map entry_of x }) (length before) file.id) h.stands ∙ free before behind file h.other;
}

added : (files : Files) (before behind : List FileModule) (file : FileModule) → IsPlaced files before file behind → Unskipped files file → bytes_added (dii_of files) (length before) (slice_get (dii_of files).entries (length before)) ≡ size_of file
added files before behind file h none =
    let c = counts files before behind file h in
    ap (bytes_added (dii_of files) (length before)) c.stands
    ∙ ap (λ (t : Bool). if t then 0 else counted_size (skip_in (dii_of files) file.id) (size_of file)) c.first
    ∙ ap (λ o. counted_size o (size_of file)) none

sums : (files : Files) (before rest behind : List FileModule) → Distinct files.modules.items → files.modules.items ≡ before ++ (rest ++ behind) → All (Unskipped files) rest
    → sum_by (λ earlier. bytes_added (dii_of files) earlier (slice_get (dii_of files).entries earlier)) (range_with_len (length before) (length rest)) ≡ sum_by size_of rest
sums files before [] behind d e h = refl
sums files before (file ∷ rest) behind d e h =
    let next : length (before ++ file ∷ []) ≡ length before + 1 = length-append before (file ∷ []) in
    let g : ℕ → ℕ = λ earlier. bytes_added (dii_of files) earlier (slice_get (dii_of files).entries earlier) in
    sum_by-cons g (length before) (range_with_len (length before + 1) (length rest))
    ∙ ap (λ n. n + sum_by g (range_with_len (length before + 1) (length rest))) (added files before (rest ++ behind) file (placed files before (rest ++ behind) file d e) (All-head (Unskipped files) file rest h))
    ∙ ap (λ n. size_of file + sum_by g (range_with_len n (length rest))) (sym next)
    ∙ ap (λ n. size_of file + n) (sums files (before ++ file ∷ []) rest behind d (e ∙ sym (append_assoc before (file ∷ []) (rest ++ behind))) (All-tail (Unskipped files) file rest h))
    ∙ sym (sum_by-cons size_of file rest)

sum-is : (files : Files) (before behind : List FileModule) → Distinct files.modules.items → files.modules.items ≡ before ++ behind → All (Unskipped files) before → sum_before (dii_of files) (length before) ≡ sum_by size_of before
sum-is files before behind d e h = sums files [] before behind d e h

-- a file can be taken behind these
pub record CanFollow (files : Files) (before : List FileModule) (file : FileModule) : Type 0 where
  pub size : size_of file ≤ 1_048_576
  pub blocks : block_count files.block_size (size_of file) ≤ 65_536
  pub sum : sum_by size_of before + size_of file ≤ 33_554_432

pub can_follow : Limits → (files : Files) (before behind : List FileModule) (file : FileModule) → 0 < files.block_size → Distinct files.modules.items → files.modules.items ≡ before ++ file ∷ behind
    → All (Unskipped files) before → Unskipped files file → CanFollow files before file
can_follow laws files before behind file positive d e h none =
    let c = counts files before behind file (placed files before behind file d e) in
    let plain : is_compressed (entry_of file) ≡ false = ap is_some (not_compressed laws file.media) in
    let no : IsLargeAt (dii_of files) (length before) (entry_of file) → ⊥ = λ large. let s = (laws.large (dii_of files) (length before) (entry_of file) c).1 large in cc in
    let sum = sum-is files before (file ∷ behind) d e h in
    let big : size_limit < size_of file → ⊥ = λ more. no (record { plain = plain; large = inl more }) in
    let many : block_limit < block_count files.block_size (size_of file) → ⊥ =
    λ more. no (record { plain = plain; large = inr (inl (λ n fits. let least = (laws.block_counts files.block_size (size_of file) n positive).0 fits in omega (arith, least, more))) }) in
    let all : sum_limit < sum_before (dii_of files) (length before) + size_of file → ⊥ = λ more. no (record { plain = plain; large = inr (inr more) }) in
    record { size = omega (arith, big); blocks = omega (arith, many); sum = omega (arith, all, sum) }

not_large_then : Limits → (files : Files) (before : List FileModule) (file : FileModule) → 0 < files.block_size → sum_before (dii_of files) (length before) ≡ sum_by size_of before → CanFollow files before file → IsLargeAt (dii_of files) (length before) (entry_of file) → ⊥
not_large_then laws files before file positive sum h large = elim large.large [
  | inl big ↦ omega (arith, big, h.size)
  | inr other ↦ elim other [
    | inl many ↦ let m = many (block_count files.block_size (size_of file)) ((laws.block_counts files.block_size (size_of file) (block_count files.block_size (size_of file)) positive).1 (omega arith)) in omega (arith, m, h.blocks)
    | inr all ↦ omega (arith, all, sum, h.sum)
  ]
]

pub unskipped_then : Limits → (files : Files) (before behind : List FileModule) (file : FileModule) → 0 < files.block_size → Distinct files.modules.items → files.modules.items ≡ before ++ file ∷ behind
    → All (Unskipped files) before → CanFollow files before file → Unskipped files file
unskipped_then laws files before behind file positive d e h follow = by (skip_in (dii_of files) file.id) refl where
  by : (o : Option SkipCause) → skip_in (dii_of files) file.id ≡ o → o ≡ None
  by None f = refl
  by (Some Compressed) f =
      let c = counts files before behind file (placed files before behind file d e) in
      let plain : is_compressed (entry_of file) ≡ false = ap is_some (not_compressed laws file.media) in
      let t = (laws.compressed (dii_of files) (length before) (entry_of file) c).0 f in
      cc
  by (Some Large) f =
      let c = counts files before behind file (placed files before behind file d e) in
      absurd (not_large_then laws files before file positive (sum-is files before (file ∷ behind) d e h) follow ((laws.large (dii_of files) (length before) (entry_of file) c).0 f))

-- ---- by places

split : (modules : List FileModule) (i : ℕ) (file : FileModule) → i < length modules → file ≡ get_or modules i file → modules ≡ take i modules ++ file ∷ drop (suc i) modules
split [] i file h e = absurd (omega arith)
split (x ∷ modules) zero file h e = ap (λ y. y ∷ modules) (sym e)
split (x ∷ modules) (suc i) file h e = ap (λ y. x ∷ y) (split modules i file (omega arith) e)

take-more : (modules : List FileModule) (i : ℕ) (file : FileModule) → i < length modules → file ≡ get_or modules i file → take (i + 1) modules ≡ take i modules ++ file ∷ []
take-more modules i file h e = let s : i + 1 ≡ suc i = omega arith in ap (λ k. take k modules) s ∙ take-suc modules i file h ∙ ap (λ x. take i modules ++ x ∷ []) (sym e)

-- the next file is small enough
pub next-unskipped : Limits → (files : Files) (i : ℕ) (file : FileModule) → 0 < files.block_size → Distinct files.modules.items → i < length files.modules.items → file ≡ get_or files.modules.items i file
    → All (Unskipped files) (take i files.modules.items) → CanFollow files (take i files.modules.items) file → All (Unskipped files) (take (i + 1) files.modules.items)
next-unskipped laws files i file positive d h e before follow =
    let own = unskipped_then laws files (take i files.modules.items) (drop (suc i) files.modules.items) file positive d (split files.modules.items i file h e) before follow in
    subst (All (Unskipped files)) (sym (take-more files.modules.items i file h e)) (All-append (Unskipped files) (take i files.modules.items) (file ∷ []) before (All-cons (Unskipped files) file [] own (All-nil (Unskipped files))))

-- a file of unskipped ones is small enough
pub next-follows : Limits → (files : Files) (i : ℕ) (file : FileModule) → 0 < files.block_size → Distinct files.modules.items → i < length files.modules.items → file ≡ get_or files.modules.items i file
    → All (Unskipped files) (take i files.modules.items) → All (Unskipped files) files.modules.items → CanFollow files (take i files.modules.items) file
next-follows laws files i file positive d h e before all =
    can_follow laws files (take i files.modules.items) (drop (suc i) files.modules.items) file positive d (split files.modules.items i file h e) before (rw e (all i file h))

zero-end : (n : ℕ) → n + 0 ≡ n
zero-end n = omega arith

pub sum-more : (modules : List FileModule) (i : ℕ) (file : FileModule) → i < length modules → file ≡ get_or modules i file → sum_by size_of (take (i + 1) modules) ≡ sum_by size_of (take i modules) + size_of file
sum-more modules i file h e = ap (sum_by size_of) (take-more modules i file h e) ∙ sum_by-append size_of (take i modules) (file ∷ []) ∙ ap (λ n. sum_by size_of (take i modules) + n) (sum_by-cons size_of file [] ∙ zero-end (size_of file))

pub refused : (P : Type 0) → (P → ⊥) → IsTrue false ↔ P
refused P never = (λ h. absurd cc, λ p. absurd (never p))
