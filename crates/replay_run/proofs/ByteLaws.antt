-- How many bytes the modules of files have.
use Rattle.std.proofs.Common.{◌≡◌, ◌<◌, ◌≤◌, ◌+◌, ◌∙◌, ℕ, zero, suc, true, List, [], ◌∷◌, ◌++◌, length, take, get_or, ap, sym, arith}
use Rattle.std.specs.Prelude.{◌↔◌, ◌&&◌, nat_le, sum_by}
use Rattle.std.specs.List.{list_all}
use Rattle.std.proofs.lemmas.Bool.{and_parts, leb-true}
use Rattle.std.proofs.lemmas.List.Sums.{sum_by-append, sum_by-cons}
use Rattle.std.proofs.Math.Seq.{take-suc}
use Rattle.carousel_writer.specs.declared.files.FileModule.{FileModule}
use Rattle.carousel_writer.specs.declared.files.Files.{Files}
use Rattle.carousel_writer.specs.GoodFiles.{AreSmall, are_good_files, has_good_fields, has_good_media, has_short_dii, have_own_numbers, is_unskipped}

abbrev pub size_of : FileModule → ℕ
size_of file = length file.bytes.items

-- the first modules have no more bytes than all
pub sum_before : (modules : List FileModule) (count : ℕ)
    → sum_by size_of (take count modules) ≤ sum_by size_of modules
sum_before modules zero = omega arith
sum_before [] (suc count) = omega arith
sum_before (file ∷ modules) (suc count) =
    omega (
      arith,
      sum_before modules count,
      sum_by-cons size_of file (take count modules),
      sum_by-cons size_of file modules,
    )

zero-end : (n : ℕ) → n + 0 ≡ n
zero-end n = omega arith

-- and with one more they have its bytes too
pub sum_more : (modules : List FileModule) (i : ℕ) (file : FileModule)
    → i < length modules → file ≡ get_or modules i file
    → sum_by size_of (take (i + 1) modules) ≡ sum_by size_of (take i modules) + size_of file
sum_more modules i file within is =
    let next : i + 1 ≡ suc i = omega arith in
    ap (λ k. sum_by size_of (take k modules)) next
    ∙ ap (sum_by size_of) (take-suc modules i file within ∙ ap (λ x. take i modules ++ x ∷ []) (sym is))
    ∙ sum_by-append size_of (take i modules) (file ∷ [])
    ∙ ap (λ n. sum_by size_of (take i modules) + n) (sum_by-cons size_of file [] ∙ zero-end (size_of file))

-- ---- files that can be written

pub small_files : ((files : Files) → 0 < files.block_size
    → have_own_numbers files.modules.items ≡ true
    → (list_all (is_unskipped files) files.modules.items ≡ true) ↔ AreSmall files)
    → (files : Files) → are_good_files files ≡ true
    → sum_by size_of files.modules.items ≤ 33_554_432
small_files law files good =
    let modules = files.modules.items in
    let one = and_parts (has_good_fields files) (list_all has_good_media modules && (has_short_dii files && (have_own_numbers modules && list_all (is_unskipped files) modules))) good in
    let two = and_parts (list_all has_good_media modules) (has_short_dii files && (have_own_numbers modules && list_all (is_unskipped files) modules)) one.1 in
    let three = and_parts (has_short_dii files) (have_own_numbers modules && list_all (is_unskipped files) modules) two.1 in
    let four = and_parts (have_own_numbers modules) (list_all (is_unskipped files) modules) three.1 in
    let field = and_parts (nat_le 1 files.rounds) (nat_le 16 files.pid && (nat_le files.pid 8190 && (nat_le 1 files.block_size && nat_le files.block_size 4000))) one.0 in
    let pid = and_parts (nat_le 16 files.pid) (nat_le files.pid 8190 && (nat_le 1 files.block_size && nat_le files.block_size 4000)) field.1 in
    let most = and_parts (nat_le files.pid 8190) (nat_le 1 files.block_size && nat_le files.block_size 4000) pid.1 in
    let block = and_parts (nat_le 1 files.block_size) (nat_le files.block_size 4000) most.1 in
    let positive : 0 < files.block_size = omega (arith, leb-true 1 files.block_size block.0) in
    ((law files positive four.0).0 four.1).sum
