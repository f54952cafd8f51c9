-- The bytes of a DII's section, entry by entry.
use Rattle.std.proofs.Common.{◌≡◌, ℕ, suc, ◌+◌, ◌<◌, ◌≤◌, List, [], ◌∷◌, ◌++◌, length, get_or, take, drop, map, sym, ap, ◌∙◌, arith, append-nil, length-append}
use Rattle.std.specs.Prelude.{nat_le, false, true}
use Rattle.std.specs.List.{flat_map}
use Rattle.std.proofs.Math.Seq.{take-suc}
use Rattle.std.proofs.lemmas.Bool.Decides.{nat_tests}
use Rattle.std.proofs.lemmas.List.{take_all, take-append-drop}
use Rattle.std.proofs.lemmas.List.Concat.{flat_map-append}
use Rattle.std.proofs.lemmas.List.Folds.{flat_map-map}
use Rattle.bml_bytes.specs.Numbers.{big_bytes}
use Rattle.dsmcc_messages.specs.declared.dii.Dii.{Dii}
use Rattle.dsmcc_messages.specs.Dii.{entry_bytes}
use Rattle.carousel_blocks.specs.Message.{Indication}
use Rattle.carousel_writer.specs.declared.files.FileModule.{FileModule}
use Rattle.carousel_writer.specs.declared.files.Files.{Files}
use Rattle.carousel_writer.specs.GoodFiles.{has_short_dii}
use Rattle.carousel_writer.specs.Messages.{dii_payload, message_section}
use Rattle.carousel_writer.specs.Streams.{dii_of, entry_of, info_of}
use Rattle.carousel_writer.specs.devices.LawsBelow.{HaveCount}
use Rattle.carousel_writer.proofs.MessageLaws.{length-indication}

abbrev pub entries_of : List FileModule → List ℕ
entries_of modules = flat_map (λ file. entry_bytes (entry_of file)) modules

pub entry-size : HaveCount → (file : FileModule) → length (entry_bytes (entry_of file)) ≡ 8 + length (info_of file.media)
entry-size count file =
    let size = length file.bytes.items in
    let info = info_of file.media in
    omega (arith, count 2 file.id, count 4 size, length-append (big_bytes 2 file.id) (big_bytes 4 size), length-append (big_bytes 2 file.id ++ big_bytes 4 size) (file.version ∷ length info ∷ info))

payload-size : HaveCount → (dii : Dii) → length (dii_payload dii) ≡ 22 + length (flat_map entry_bytes dii.entries)
payload-size count dii =
    let a = big_bytes 4 dii.download in
    let b = a ++ big_bytes 2 dii.block_size in
    let c = b ++ 0 ∷ 0 ∷ [] in
    let d = c ++ big_bytes 4 0 in
    let e = d ++ big_bytes 4 0 in
    let f = e ++ big_bytes 2 0 in
    let g = f ++ big_bytes 2 (length dii.entries) in
    let h = g ++ flat_map entry_bytes dii.entries in
    omega (
      arith,
      count 4 dii.download,
      count 2 dii.block_size,
      count 4 0,
      count 2 0,
      count 2 (length dii.entries),
      length-append a (big_bytes 2 dii.block_size),
      length-append b (0 ∷ 0 ∷ []),
      length-append c (big_bytes 4 0),
      length-append d (big_bytes 4 0),
      length-append e (big_bytes 2 0),
      length-append f (big_bytes 2 (length dii.entries)),
      length-append g (flat_map entry_bytes dii.entries),
      length-append h (big_bytes 2 0),
    )

-- all of it
pub dii-size : HaveCount → (files : Files) → length (message_section (Indication (dii_of files))) ≡ 46 + length (entries_of files.modules.items)
dii-size count files =
    let same : flat_map entry_bytes (map entry_of files.modules.items) ≡ entries_of files.modules.items = flat_map-map entry_bytes entry_of files.modules.items in
    omega (arith, length-indication count (dii_of files), payload-size count (dii_of files), ap length same)

-- one entry more
pub size-more : (modules : List FileModule) (i : ℕ) (file : FileModule) → i < length modules → file ≡ get_or modules i file → length (entries_of (take (i + 1) modules)) ≡ length (entries_of (take i modules)) + length (entry_bytes (entry_of file))
size-more modules i file h e =
    let s : i + 1 ≡ suc i = omega arith in
    let t : take (i + 1) modules ≡ take i modules ++ file ∷ [] = ap (λ k. take k modules) s ∙ take-suc modules i file h ∙ ap (λ x. take i modules ++ x ∷ []) (sym e) in
    let all : entries_of (take (i + 1) modules) ≡ entries_of (take i modules) ++ entry_bytes (entry_of file) =
    ap entries_of t ∙ flat_map-append (λ (file : FileModule). entry_bytes (entry_of file)) (take i modules) (file ∷ []) ∙ ap (λ x. entries_of (take i modules) ++ x) (append-nil (entry_bytes (entry_of file))) in
    omega (arith, ap length all, length-append (entries_of (take i modules)) (entry_bytes (entry_of file)))

-- those of a front are no more than all
size-front : (modules : List FileModule) (n : ℕ) → length (entries_of (take n modules)) ≤ length (entries_of modules)
size-front modules n =
    let all : entries_of modules ≡ entries_of (take n modules) ++ entries_of (drop n modules) =
    ap entries_of (sym (take-append-drop n modules)) ∙ flat_map-append (λ (file : FileModule). entry_bytes (entry_of file)) (take n modules) (drop n modules) in
    omega (arith, ap length all, length-append (entries_of (take n modules)) (entries_of (drop n modules)))

pub too_long : HaveCount → (files : Files) (n : ℕ) → 4096 < 46 + length (entries_of (take n files.modules.items)) → false ≡ has_short_dii files
too_long count files n h =
    let all = dii-size count files in
    let front = size-front files.modules.items n in
    let long : 4096 < length (message_section (Indication (dii_of files))) = omega (arith, h, all, front) in
    longer (length (message_section (Indication (dii_of files)))) long
  where
    longer : (m : ℕ) → 4096 < m → false ≡ nat_le m 4096
    longer m k = grind (arith, nat_tests)

pub short_enough : HaveCount → (files : Files) (n : ℕ) → length files.modules.items ≤ n → 46 + length (entries_of (take n files.modules.items)) ≤ 4096 → true ≡ has_short_dii files
short_enough count files n h k =
    let all = dii-size count files in
    let whole : length (entries_of (take n files.modules.items)) ≡ length (entries_of files.modules.items) = ap (λ l. length (entries_of l)) (take_all n files.modules.items h) in
    let fits : length (message_section (Indication (dii_of files))) ≤ 4096 = omega (arith, all, k, whole) in
    fitting (length (message_section (Indication (dii_of files)))) fits
  where
    fitting : (m : ℕ) → m ≤ 4096 → true ≡ nat_le m 4096
    fitting m k = grind (arith, nat_tests)
