-- A file is held behind the messages of its files.
use Rattle.std.proofs.Common.{◌≡◌, ◌≢◌, ℕ, zero, suc, ◌+◌, ◌-◌, ◌*◌, ◌<◌, ◌≤◌, ◌==◌, min, Bool, true, false, ◌&&◌, cond, List, [], ◌∷◌, ◌++◌, length, take, drop, map, refl, ap, ◌∙◌, arith, Some, length-take, length-drop}
use Rattle.std.specs.Prelude.{option_map, find, filter, nat_lt}
use Rattle.std.specs.Option.{option_or}
use Rattle.std.specs.List.{All, flat_map, range_with_len}
use Rattle.std.proofs.lemmas.Bool.{and_from, eq-eqb, ne_eqb, eqb-true, eqb-false, lt-ltb}
use Rattle.std.proofs.lemmas.List.Elements.{All-head, All-tail, filter-append}
use Rattle.std.proofs.lemmas.List.Folds.{find-append}
use Rattle.std.proofs.lemmas.List.Concat.{flat_map-append}
use Rattle.dsmcc_messages.specs.declared.dii.Dii.{Dii}
use Rattle.dsmcc_messages.specs.Ddb.{DataBlock}
use Rattle.carousel_blocks.specs.Message.{Message, Indication, Data}
use Rattle.carousel_blocks.specs.InForce.{block_count, standing_of}
use Rattle.carousel_blocks.specs.Held.{is_asked, first_of, bytes_held}
use Rattle.carousel_blocks.specs.Order.{data_of, OnlyRepeats}
use Rattle.carousel_writer.specs.declared.files.FileModule.{FileModule}
use Rattle.carousel_writer.specs.declared.files.Files.{Files}
use Rattle.carousel_writer.specs.Streams.{dii_of, block_of, blocks_of, round_of, rounds_of, messages_sent}
use Rattle.carousel_writer.specs.devices.LawsBelow.{Below}
use Rattle.carousel_writer.proofs.StandingLaws.{DiffersFrom, IsFile, standing_for, standing-file}

-- ---- the messages of rounds

data-map : (blocks : List DataBlock) (l : List Message) → data_of (map Data blocks ++ l) ≡ blocks ++ data_of l
data-map [] l = refl
data-map (b ∷ blocks) l = ap (λ x. b ∷ x) (data-map blocks l)

pub repeats-map : (transaction : ℕ) (blocks : List DataBlock) (l : List Message) → OnlyRepeats transaction l → OnlyRepeats transaction (map Data blocks ++ l)
repeats-map transaction [] l h = h
repeats-map transaction (b ∷ blocks) l h = repeats-map transaction blocks l h

pub repeats-rounds : (dii : Dii) (blocks : List DataBlock) (count : ℕ) → OnlyRepeats dii.transaction (rounds_of count (Indication dii ∷ map Data blocks))
repeats-rounds dii blocks zero = tt
repeats-rounds dii blocks (suc more) = (refl, repeats-map dii.transaction blocks (rounds_of more (Indication dii ∷ map Data blocks)) (repeats-rounds dii blocks more))

-- ---- which blocks a file's entry asks for

asked-own : (files : Files) (file : FileModule) (n : ℕ) → n < block_count files.block_size (length file.bytes.items) → is_asked (standing_for files file) (block_of files file n) ≡ true
asked-own files file n h =
    let bytes = file.bytes.items in
    let size = files.block_size in
    let long : length (take size (drop (n * size) bytes)) ≡ min size (length bytes - n * size) = length-take size (drop (n * size) bytes) ∙ ap (min size) (length-drop (n * size) bytes) in
    and_from _ _ (lt-ltb n (block_count size (length bytes)) h) (and_from _ _ (eq-eqb files.download files.download refl) (and_from _ _ (eq-eqb file.id file.id refl) (and_from _ _ (eq-eqb file.version file.version refl) (eq-eqb _ _ long))))

asked-other : (files : Files) (file other : FileModule) (n : ℕ) → other.id ≢ file.id → is_asked (standing_for files file) (block_of files other n) ≡ false
asked-other files file other n h =
    by (nat_lt n (block_count files.block_size (length file.bytes.items))) (files.download == files.download) (other.id == file.id) _ (ne_eqb other.id file.id h)
  where
    by : (a b c d : Bool) → c ≡ false → (a && (b && (c && d))) ≡ false
    by true true c d e = rw e refl
    by true false c d e = refl
    by false b c d e = refl

filter-own : (files : Files) (file : FileModule) (a k : ℕ) → a + k ≤ block_count files.block_size (length file.bytes.items)
    → filter (is_asked (standing_for files file)) (map (block_of files file) (range_with_len a k)) ≡ map (block_of files file) (range_with_len a k)
filter-own files file a zero h = refl
filter-own files file a (suc k) h =
    ap (λ (t : Bool). cond t (block_of files file a ∷ filter (is_asked (standing_for files file)) (map (block_of files file) (range_with_len (a + 1) k))) (filter (is_asked (standing_for files file)) (map (block_of files file) (range_with_len (a + 1) k)))) (asked-own files file a (omega arith))
    ∙ ap (λ x. block_of files file a ∷ x) (filter-own files file (a + 1) k (omega arith))

filter-other : (files : Files) (file other : FileModule) (a k : ℕ) → other.id ≢ file.id → filter (is_asked (standing_for files file)) (map (block_of files other) (range_with_len a k)) ≡ []
filter-other files file other a zero h = refl
filter-other files file other a (suc k) h =
    ap (λ (t : Bool). cond t (block_of files other a ∷ filter (is_asked (standing_for files file)) (map (block_of files other) (range_with_len (a + 1) k))) (filter (is_asked (standing_for files file)) (map (block_of files other) (range_with_len (a + 1) k)))) (asked-other files file other a h)
    ∙ filter-other files file other (a + 1) k h

filter-before : (files : Files) (file : FileModule) (before : List FileModule) → All (DiffersFrom file) before → filter (is_asked (standing_for files file)) (flat_map (blocks_of files) before) ≡ []
filter-before files file [] h = refl
filter-before files file (other ∷ before) h =
    filter-append (is_asked (standing_for files file)) (blocks_of files other) (flat_map (blocks_of files) before)
    ∙ ap (λ x. x ++ filter (is_asked (standing_for files file)) (flat_map (blocks_of files) before)) (filter-other files file other 0 (block_count files.block_size (length other.bytes.items)) (All-head (DiffersFrom file) other before h))
    ∙ filter-before files file before (All-tail (DiffersFrom file) other before h)

find-range : (files : Files) (file : FileModule) (n a k : ℕ) → a ≤ n → n < a + k → find (λ block. block.number == n) (map (block_of files file) (range_with_len a k)) ≡ Some (block_of files file n)
find-range files file n a zero h below = absurd (omega arith)
find-range files file n a (suc k) h below = by (a == n) refl (λ (ne : a ≢ n). find-range files file n (a + 1) k (omega arith) (omega arith)) where
  by : (t : Bool) → (a == n) ≡ t → (a ≢ n → find (λ block. block.number == n) (map (block_of files file) (range_with_len (a + 1) k)) ≡ Some (block_of files file n)) → cond t (Some (block_of files file a)) (find (λ block. block.number == n) (map (block_of files file) (range_with_len (a + 1) k))) ≡ Some (block_of files file n)
  by true e again = ap (λ x. Some (block_of files file x)) (eqb-true a n e)
  by false e again = again (eqb-false a n e)

-- the first block with a number that the file's entry asks for
first-asked : (files : Files) (before behind : List FileModule) (file : FileModule) (rest : List DataBlock) (n : ℕ) → IsFile files before file behind → n < block_count files.block_size (length file.bytes.items)
    → find (λ block. block.number == n) (filter (is_asked (standing_for files file)) (flat_map (blocks_of files) files.modules.items ++ rest)) ≡ Some (block_of files file n)
first-asked files before behind file rest n h below =
    ap (λ x. find test (filter asked (flat_map (blocks_of files) x ++ rest))) h.stands
    ∙ ap (find test)
    (filter-append asked (flat_map (blocks_of files) (before ++ file ∷ behind)) rest
    ∙ ap (λ x. filter asked x ++ filter asked rest) (flat_map-append (blocks_of files) before (file ∷ behind))
    ∙ ap (λ x. x ++ filter asked rest) (filter-append asked (flat_map (blocks_of files) before) (blocks_of files file ++ flat_map (blocks_of files) behind)
    ∙ ap (λ x. x ++ filter asked (blocks_of files file ++ flat_map (blocks_of files) behind)) (filter-before files file before h.other)
    ∙ filter-append asked (blocks_of files file) (flat_map (blocks_of files) behind)
    ∙ ap (λ x. x ++ filter asked (flat_map (blocks_of files) behind)) (filter-own files file 0 count (omega arith))))
    ∙ find-append test (blocks_of files file ++ filter asked (flat_map (blocks_of files) behind)) (filter asked rest)
    ∙ ap (λ o. option_or o (find test (filter asked rest))) (find-append test (blocks_of files file) (filter asked (flat_map (blocks_of files) behind))
    ∙ ap (λ o. option_or o (find test (filter asked (flat_map (blocks_of files) behind)))) (find-range files file n 0 count (omega arith) (omega arith)))
  where
    count : ℕ
    count = block_count files.block_size (length file.bytes.items)

    test : DataBlock → Bool
    test block = block.number == n

    asked : DataBlock → Bool
    asked = is_asked (standing_for files file)

held-rounds : Below → (files : Files) (before behind : List FileModule) (file : FileModule) (count : ℕ) → IsFile files before file behind → 0 < count
    → bytes_held (rounds_of count (round_of files)) file.id ≡ Some file.bytes.items
held-rounds laws files before behind file zero h more = absurd (omega arith)
held-rounds laws files before behind file (suc more) h positive =
    (laws.held (rounds_of (suc more) (round_of files)) file.id file.bytes.items).1 (record {
      standing = standing_for files file;
      standing_is = ap (λ f. standing_of f file.id) (laws.stays_in_force dii rest repeats) ∙ standing;
      unskipped = refl;
      size = refl;
      blocks = λ n below. (laws.first (rounds_of (suc more) (round_of files)) file.id n (block_of files file n).block).0
          (ap (λ l. first_of l n) (laws.counting dii rest file.id (standing_for files file) repeats standing ∙ ap (filter (is_asked (standing_for files file))) (data-map blocks (rounds_of more (round_of files))))
          ∙ ap (option_map (λ block. block.block)) (first-asked files before behind file (data_of (rounds_of more (round_of files))) n h below));
    })
  where
    dii : Dii
    dii = dii_of files

    blocks : List DataBlock
    blocks = flat_map (blocks_of files) files.modules.items

    rest : List Message
    rest = map Data blocks ++ rounds_of more (round_of files)

    repeats : OnlyRepeats (dii_of files).transaction rest
    repeats = repeats-map (dii_of files).transaction blocks (rounds_of more (round_of files)) (repeats-rounds (dii_of files) blocks more)

    standing : standing_of (Some (dii_of files)) file.id ≡ Some (standing_for files file)
    standing = standing-file laws files before behind file h

pub held-file : Below → (files : Files) (before behind : List FileModule) (file : FileModule) → IsFile files before file behind → 0 < files.rounds
    → bytes_held (messages_sent files) file.id ≡ Some file.bytes.items
held-file laws files before behind file h positive = held-rounds laws files before behind file files.rounds h positive
