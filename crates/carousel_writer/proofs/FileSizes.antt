-- What the numbers of bytes say: whether the DII is short, and whether a reader skips a file.
use Rattle.std.proofs.Common.{◌≡◌, ◌+◌, ◌<◌, ◌≤◌, true, List, [], ◌∷◌, ◌++◌, length, refl, sym, ap, ◌∙◌, arith, append_assoc, length-append}
use Rattle.std.specs.Prelude.{◌↔◌, sum_by}
use Rattle.std.specs.List.{All, list_all}
use Rattle.std.proofs.lemmas.Bool.{le-leb, leb-true}
use Rattle.std.proofs.lemmas.List.Elements.{All-nil, All-cons, All-head, All-tail, All-append}
use Rattle.std.proofs.lemmas.List.Sums.{sum_by-cons, sum_by_push}
use Rattle.dsmcc_messages.specs.Dii.{entry_bytes}
use Rattle.carousel_blocks.specs.InForce.{block_count}
use Rattle.carousel_blocks.specs.Message.{Indication}
use Rattle.carousel_writer.specs.declared.files.FileModule.{FileModule}
use Rattle.carousel_writer.specs.declared.files.Files.{Files}
use Rattle.carousel_writer.specs.GoodFiles.{AreSmall, entry_size, has_short_dii, have_own_numbers, is_unskipped}
use Rattle.carousel_writer.specs.Messages.{message_section}
use Rattle.carousel_writer.specs.Streams.{dii_of, entry_of}
use Rattle.carousel_writer.specs.devices.LawsBelow.{HaveCount, Limits}
use Rattle.carousel_writer.proofs.DiiSizes.{dii-size, entries_of, entry-size}
use Rattle.carousel_writer.proofs.GoodFileLaws.{all-unskipped, own-numbers, unskipped-all}
use Rattle.carousel_writer.proofs.Skipping.{CanFollow, Distinct, Unskipped, can_follow, size_of, unskipped_then}

-- ---- the DII

entries-long : HaveCount → (modules : List FileModule) → length (entries_of modules) ≡ sum_by entry_size modules
entries-long count [] = refl
entries-long count (file ∷ modules) =
    omega (arith, length-append (entry_bytes (entry_of file)) (entries_of modules), entry-size count file, entries-long count modules, sum_by-cons entry_size file modules)

pub short-dii : HaveCount → (files : Files) → (has_short_dii files ≡ true) ↔ (46 + sum_by entry_size files.modules.items ≤ 4096)
short-dii count files =
    let long = length (message_section (Indication (dii_of files))) in
    let size : long ≡ 46 + sum_by entry_size files.modules.items = dii-size count files ∙ ap (λ n. 46 + n) (entries-long count files.modules.items) in
    (λ t. let h : long ≤ 4096 = leb-true long 4096 t in omega (arith, h, size), λ h. le-leb long 4096 (omega (arith, h, size)))

-- ---- the files from a place on, behind others that aren't skipped

record AreSmallFrom (files : Files) (before rest : List FileModule) : Type 0 where
  sizes : All (λ file. size_of file ≤ 1_048_576) rest
  blocks : All (λ file. block_count files.block_size (size_of file) ≤ 65_536) rest
  sum : sum_by size_of before + sum_by size_of rest ≤ 33_554_432

small-from : Limits → (files : Files) (before rest : List FileModule) → 0 < files.block_size → Distinct files.modules.items → files.modules.items ≡ before ++ rest
    → All (Unskipped files) before → All (Unskipped files) rest → sum_by size_of before ≤ 33_554_432 → AreSmallFrom files before rest
small-from laws files before [] positive d e p q most = record {
  sizes = All-nil (λ file. size_of file ≤ 1_048_576);
  blocks = All-nil (λ file. block_count files.block_size (size_of file) ≤ 65_536);
  sum = omega (arith, most);
}
small-from laws files before (file ∷ rest) positive d e p q most =
    let own = All-head (Unskipped files) file rest q in
    let follow = can_follow laws files before rest file positive d e p own in
    let pushed = sum_by_push size_of before file in
    let more = small-from laws files (before ++ file ∷ []) rest positive d (e ∙ sym (append_assoc before (file ∷ []) rest))
    (All-append (Unskipped files) before (file ∷ []) p (All-cons (Unskipped files) file [] own (All-nil (Unskipped files)))) (All-tail (Unskipped files) file rest q) (omega (arith, pushed, follow.sum)) in
    record {
      sizes = All-cons (λ file. size_of file ≤ 1_048_576) file rest follow.size more.sizes;
      blocks = All-cons (λ file. block_count files.block_size (size_of file) ≤ 65_536) file rest follow.blocks more.blocks;
      sum = omega (arith, more.sum, pushed, sum_by-cons size_of file rest);
    }

unskipped-from : Limits → (files : Files) (before rest : List FileModule) → 0 < files.block_size → Distinct files.modules.items → files.modules.items ≡ before ++ rest
    → All (Unskipped files) before → AreSmallFrom files before rest → All (Unskipped files) rest
unskipped-from laws files before [] positive d e p s = All-nil (Unskipped files)
unskipped-from laws files before (file ∷ rest) positive d e p s =
    let cons = sum_by-cons size_of file rest in
    let pushed = sum_by_push size_of before file in
    let follow : CanFollow files before file = record {
      size = All-head (λ file. size_of file ≤ 1_048_576) file rest s.sizes;
      blocks = All-head (λ file. block_count files.block_size (size_of file) ≤ 65_536) file rest s.blocks;
      sum = omega (arith, s.sum, cons);
    } in
    let own = unskipped_then laws files before rest file positive d e p follow in
    All-cons (Unskipped files) file rest own
    (unskipped-from laws files (before ++ file ∷ []) rest positive d (e ∙ sym (append_assoc before (file ∷ []) rest))
    (All-append (Unskipped files) before (file ∷ []) p (All-cons (Unskipped files) file [] own (All-nil (Unskipped files))))
    (record {
      sizes = All-tail (λ file. size_of file ≤ 1_048_576) file rest s.sizes;
      blocks = All-tail (λ file. block_count files.block_size (size_of file) ≤ 65_536) file rest s.blocks;
      sum = omega (arith, s.sum, cons, pushed);
    }))

pub unskipped-files : Limits → (files : Files) → 0 < files.block_size → have_own_numbers files.modules.items ≡ true → (list_all (is_unskipped files) files.modules.items ≡ true) ↔ AreSmall files
unskipped-files laws files positive own =
    let modules = files.modules.items in
    let distinct : Distinct modules = own-numbers modules own in (
      λ t. let s = small-from laws files [] modules positive distinct refl (All-nil (Unskipped files)) (unskipped-all files modules t) (omega arith) in
          record { sizes = s.sizes; blocks = s.blocks; sum = omega (arith, s.sum) },
      λ h. all-unskipped files modules (unskipped-from laws files [] modules positive distinct refl (All-nil (Unskipped files)) (record { sizes = h.sizes; blocks = h.blocks; sum = omega (arith, h.sum) })),
    )
