-- Files that aren't refused can be written.
use Rattle.std.proofs.Common.{◌≡◌, ℕ, zero, suc, ◌+◌, ◌*◌, ◌<◌, ◌≤◌, ◌^◌, inl, inr, false, List, [], ◌∷◌, ◌++◌, length, take, drop, map, refl, sym, ap, subst, ◌∙◌, arith, append_assoc, length-append, length-take, None}
use Rattle.std.specs.Prelude.{is_some}
use Rattle.std.specs.List.{All, flat_map, range_with_len}
use Rattle.std.proofs.lemmas.List.{length-map}
use Rattle.std.proofs.lemmas.List.Elements.{All-nil, All-cons, All-head, All-tail, All-append, All-map}
use Rattle.bml_bytes.specs.Numbers.{big_bytes}
use Rattle.dsmcc_messages.specs.declared.entry.Entry.{Entry}
use Rattle.dsmcc_messages.specs.Dii.{entry_bytes, EntryFits}
use Rattle.carousel_blocks.specs.Message.{Indication, Data}
use Rattle.carousel_blocks.specs.InForce.{block_count, size_limit, block_limit, is_compressed}
use Rattle.carousel_blocks.specs.Entries.{IsLargeAt, skip_in}
use Rattle.carousel_writer.specs.declared.files.FileModule.{FileModule}
use Rattle.carousel_writer.specs.declared.files.Files.{Files}
use Rattle.carousel_writer.specs.Streams.{entry_of, dii_of, block_of, blocks_of}
use Rattle.carousel_writer.proofs.Fits.{DiiFits, DdbFits, MessageFits, FilesFit}
use Rattle.carousel_writer.specs.GoodFiles.{HaveTypes}
use Rattle.carousel_writer.specs.Messages.{dii_payload}
use Rattle.carousel_writer.specs.devices.Laying.{CanBeLaid}
use Rattle.carousel_writer.proofs.GoodFileLaws.{AreGood}
use Rattle.carousel_writer.specs.devices.LawsBelow.{Limits}
use Rattle.carousel_writer.proofs.MessageLaws.{length-indication}
use Rattle.carousel_writer.proofs.StandingLaws.{IsFile, counts-as}
use Rattle.carousel_writer.proofs.Exact.{not_compressed}

-- a file is as small as it has to be
pub record IsSmall (files : Files) (file : FileModule) : Type 0 where
  pub size : length file.bytes.items ≤ 1_048_576
  pub blocks : block_count files.block_size (length file.bytes.items) ≤ 65_536

not_large : Limits → (files : Files) (before behind : List FileModule) (file : FileModule) → IsFile files before file behind → IsLargeAt (dii_of files) (length before) (entry_of file) → ⊥
not_large laws files before behind file h large =
    let e = (laws.large (dii_of files) (length before) (entry_of file) (counts-as files before behind file h)).1 large in
    let n = h.unskipped in
    cc

small : Limits → (files : Files) (before behind : List FileModule) (file : FileModule) → 0 < files.block_size → IsFile files before file behind → IsSmall files file
small laws files before behind file positive h =
    let plain : is_compressed (entry_of file) ≡ false = ap is_some (not_compressed laws file.media) in
    let big = λ (more : size_limit < length file.bytes.items). not_large laws files before behind file h (record { plain = plain; large = inl more }) in
    let many = λ (more : block_limit < block_count files.block_size (length file.bytes.items)). not_large laws files before behind file h
    (record { plain = plain; large = inr (inl (λ count fits. let least = (laws.block_counts files.block_size (length file.bytes.items) count positive).0 fits in omega (arith, least, more))) }) in
    record { size = omega (arith, big); blocks = omega (arith, many) }

is-file : (files : Files) (before behind : List FileModule) (file : FileModule) → AreGood files → files.modules.items ≡ before ++ file ∷ behind → IsFile files before file behind
is-file files before behind file h e = record {
  stands = e;
  other = h.numbers before behind file e;
  unskipped = one before (subst (λ (l : List FileModule). All (λ file. skip_in (dii_of files) file.id ≡ None) l) e h.unskipped);
} where
  one : (before : List FileModule) → All (λ file. skip_in (dii_of files) file.id ≡ None) (before ++ file ∷ behind) → skip_in (dii_of files) file.id ≡ None
  one [] h = All-head (λ file. skip_in (dii_of files) file.id ≡ None) file behind h
  one (x ∷ before) h = one before (All-tail (λ file. skip_in (dii_of files) file.id ≡ None) x (before ++ file ∷ behind) h)

all-small : Limits → (files : Files) (before rest : List FileModule) → AreGood files → files.modules.items ≡ before ++ rest → All (IsSmall files) rest
all-small laws files before [] h e = All-nil (IsSmall files)
all-small laws files before (file ∷ rest) h e =
    All-cons (IsSmall files) file rest (small laws files before rest file (omega (arith, h.fields.least_block)) (is-file files before rest file h e))
    (all-small laws files (before ++ file ∷ []) rest h (e ∙ sym (append_assoc before (file ∷ []) rest)))

-- ---- the blocks

block-fits : Limits → (files : Files) (file : FileModule) (n : ℕ) → files.download < 2 ^ 32 → files.block_size ≤ 4000 → file.id < 2 ^ 16 → n < 65_536 → DdbFits (block_of files file n)
block-fits laws files file n download most id below =
    let block = take files.block_size (drop (n * files.block_size) file.bytes.items) in
    record {
      download = download;
      module_id = id;
      number = omega (arith, below);
      section = omega (
        arith,
        most,
        laws.count 2 file.id,
        laws.count 2 n,
        length-take files.block_size (drop (n * files.block_size) file.bytes.items),
        length-append (big_bytes 2 file.id) (file.version ∷ 0 ∷ []),
        length-append (big_bytes 2 file.id ++ file.version ∷ 0 ∷ []) (big_bytes 2 n),
        length-append (big_bytes 2 file.id ++ file.version ∷ 0 ∷ [] ++ big_bytes 2 n) block,
      );
    }

range-fits : Limits → (files : Files) (file : FileModule) (a k : ℕ) → files.download < 2 ^ 32 → files.block_size ≤ 4000 → file.id < 2 ^ 16 → a + k ≤ 65_536 → All DdbFits (map (block_of files file) (range_with_len a k))
range-fits laws files file a zero download most id h = All-nil DdbFits
range-fits laws files file a (suc k) download most id h =
    All-cons DdbFits (block_of files file a) _ (block-fits laws files file a download most id (omega (arith, h))) (range-fits laws files file (a + 1) k download most id (omega (arith, h)))

blocks-fit : Limits → (files : Files) (modules : List FileModule) → files.download < 2 ^ 32 → files.block_size ≤ 4000 → All (λ file. file.id < 2 ^ 16) modules → All (IsSmall files) modules → All DdbFits (flat_map (blocks_of files) modules)
blocks-fit laws files [] download most ids s = All-nil DdbFits
blocks-fit laws files (file ∷ modules) download most ids s =
    let own = All-head (IsSmall files) file modules s in
    All-append DdbFits (blocks_of files file) (flat_map (blocks_of files) modules)
    (range-fits laws files file 0 (block_count files.block_size (length file.bytes.items)) download most (All-head (λ file. file.id < 2 ^ 16) file modules ids) (omega (arith, own.blocks)))
    (blocks-fit laws files modules download most (All-tail (λ file. file.id < 2 ^ 16) file modules ids) (All-tail (IsSmall files) file modules s))

-- ---- the DII

entries-fit : (files : Files) (modules : List FileModule) → All (λ file. file.id < 2 ^ 16) modules → All (IsSmall files) modules → All EntryFits (map entry_of modules)
entries-fit files [] ids s = All-nil EntryFits
entries-fit files (file ∷ modules) ids s =
    let own = All-head (IsSmall files) file modules s in
    All-cons EntryFits (entry_of file) (map entry_of modules) (record { id = All-head (λ file. file.id < 2 ^ 16) file modules ids; size = omega (arith, own.size) })
    (entries-fit files modules (All-tail (λ file. file.id < 2 ^ 16) file modules ids) (All-tail (IsSmall files) file modules s))

entry-long : Limits → (entry : Entry) → 1 ≤ length (entry_bytes entry)
entry-long laws entry = omega (arith, laws.count 2 entry.id, length-append (big_bytes 2 entry.id) (big_bytes 4 entry.size), length-append (big_bytes 2 entry.id ++ big_bytes 4 entry.size) (entry.version ∷ length entry.info ∷ entry.info))

few : Limits → (entries : List Entry) → length entries ≤ length (flat_map entry_bytes entries)
few laws [] = omega arith
few laws (entry ∷ entries) = omega (arith, entry-long laws entry, few laws entries, length-append (entry_bytes entry) (flat_map entry_bytes entries))

payload-long : (a b : List ℕ) → length b ≤ length (a ++ b)
payload-long a b = omega (arith, length-append a b)

short : Limits → (files : Files) → AreGood files → length (dii_payload (dii_of files)) ≤ 4072
short laws files h = omega (arith, h.section, length-indication laws.count (dii_of files))

few-entries : Limits → (files : Files) → AreGood files → length (map entry_of files.modules.items) < 2 ^ 16
few-entries laws files h =
    let entries = map entry_of files.modules.items in
    let front = big_bytes 4 files.download ++ big_bytes 2 files.block_size ++ 0 ∷ 0 ∷ [] ++ big_bytes 4 0 ++ big_bytes 4 0 ++ big_bytes 2 0 ++ big_bytes 2 (length entries) in
    omega (arith, short laws files h, few laws entries, payload-long front (flat_map entry_bytes entries), length-append (front ++ flat_map entry_bytes entries) (big_bytes 2 0))

dii-fits : Limits → (files : Files) → HaveTypes files → AreGood files → All (IsSmall files) files.modules.items → DiiFits (dii_of files)
dii-fits laws files t h s =
    record {
      transaction = t.transaction;
      download = t.download;
      block_size = omega (arith, h.fields.most_block);
      modules = few-entries laws files h;
      entries = entries-fit files files.modules.items t.ids s;
      section = short laws files h;
    }

pub files-fit : Limits → (files : Files) → HaveTypes files → AreGood files → FilesFit files
files-fit laws files t h =
    let s = all-small laws files [] files.modules.items h refl in
    record {
      pid = omega (arith, h.fields.most_pid);
      rounds = omega (arith, h.fields.rounds);
      unskipped = h.unskipped;
      fit = All-cons MessageFits (Indication (dii_of files)) _ (dii-fits laws files t h s)
          (All-map MessageFits Data (flat_map (blocks_of files) files.modules.items) (blocks-fit laws files files.modules.items t.download h.fields.most_block t.ids s));
    }

pub can-be-laid : Limits → (files : Files) → AreGood files → CanBeLaid files
can-be-laid laws files h =
    let s = all-small laws files [] files.modules.items h refl in
    record {
      pid = omega (arith, h.fields.most_pid);
      positive = omega (arith, h.fields.least_block);
      short = h.fields.most_block;
      few = λ k d b. let one = (s k d b).blocks in omega (arith, one);
      count = omega (arith, few-entries laws files h, length-map files.modules.items entry_of);
      media = h.media;
      sizes = λ k d b. let one = (s k d b).size in omega (arith, one);
      section = short laws files h;
    }
