-- A module's blocks, one after another.
use Rattle.std.proofs.Common.{◌≡◌, ℕ, zero, suc, ◌+◌, ◌-◌, ◌*◌, ◌<◌, ◌≤◌, min, List, [], ◌∷◌, ◌++◌, length, take, drop, map, sym, ap, subst, ◌∙◌, arith, length-drop}
use Rattle.std.specs.Int.{div_ceil}
use Rattle.std.specs.Prelude.{◌↔◌}
use Rattle.std.proofs.lemmas.Grind.{div_ceil_times}
use Rattle.std.proofs.Math.Nat.{mul-le-mul_right}
use Rattle.std.specs.List.{range_with_len}
use Rattle.std.proofs.lemmas.List.{take_min, map-append}
use Rattle.carousel_blocks.specs.Message.{Data}
use Rattle.carousel_blocks.specs.InForce.{block_count}
use Rattle.carousel_writer.specs.declared.files.FileModule.{FileModule}
use Rattle.carousel_writer.specs.declared.files.Files.{Files}
use Rattle.carousel_writer.specs.Messages.{message_section}
use Rattle.carousel_writer.specs.Streams.{block_of, blocks_of}
use Rattle.carousel_writer.specs.devices.Appending.{AppendsSections}
use Rattle.carousel_writer.proofs.Sending.{sent-both}

range-more : (a n : ℕ) → range_with_len a (suc n) ≡ range_with_len a n ++ (a + n) ∷ []
range-more a zero = let e : a ≡ a + 0 = omega arith in ap (λ k. k ∷ []) e
range-more a (suc n) = let e : (a + 1) + n ≡ a + suc n = omega arith in ap (λ x. a ∷ x) (range-more (a + 1) n ∙ ap (λ k. range_with_len (a + 1) n ++ k ∷ []) e)

abbrev TellCounts : Type 0
TellCounts = (block_size size count : ℕ) → 0 < block_size → (size ≤ count * block_size) ↔ (block_count block_size size ≤ count)

pub count-is : TellCounts → (size long : ℕ) → 0 < size → div_ceil long size ≡ block_count size long
count-is law size long h =
    let d = div_ceil long size in
    let n = block_count size long in
    let times = div_ceil_times long size h in
    let most : n ≤ d = (law size long d h).0 times.0 in
    let whole : long ≤ n * size = (law size long n h).1 (omega arith) in
    let above : n + 1 ≤ d → ⊥ = λ more. omega (arith, mul-le-mul_right size more, times.1, whole) in
    omega (arith, most, above)

-- a block as the code cuts it
pub cut-block : (size start m : ℕ) (bytes : List ℕ) → m ≡ min size (length bytes - start) → take ((start + m) - start) (drop start bytes) ≡ take size (drop start bytes)
cut-block size start m bytes h =
    let e : (start + m) - start ≡ m = omega arith in
    ap (λ k. take k (drop start bytes)) (e ∙ h ∙ ap (min size) (sym (length-drop start bytes))) ∙ take_min size (drop start bytes)

abbrev pub sections_up_to : Files → FileModule → ℕ → List (List ℕ)
sections_up_to files file n = map message_section (map Data (map (block_of files file) (range_with_len 0 n)))

up_to-more : (files : Files) (file : FileModule) (n : ℕ) → sections_up_to files file (n + 1) ≡ sections_up_to files file n ++ message_section (Data (block_of files file n)) ∷ []
up_to-more files file n =
    let f : ℕ → List ℕ = λ k. message_section (Data (block_of files file k)) in
    let e : n + 1 ≡ suc n = omega arith in
    let z : 0 + n ≡ n = omega arith in
    ap (sections_up_to files file) e ∙ ap (λ x. map message_section (map Data (map (block_of files file) x))) (range-more 0 n ∙ ap (λ k. range_with_len 0 n ++ k ∷ []) z)
    ∙ ap (λ x. map message_section (map Data x)) (map-append (block_of files file) (range_with_len 0 n) (n ∷ []))
    ∙ ap (map message_section) (map-append Data (map (block_of files file) (range_with_len 0 n)) (block_of files file n ∷ []))
    ∙ map-append message_section (map Data (map (block_of files file) (range_with_len 0 n))) (Data (block_of files file n) ∷ [])

pub block-sent : (files : Files) (file : FileModule) (old now new : List ℕ) (counter between next n m : ℕ) (section bytes : List ℕ) → bytes ≡ file.bytes.items → m ≡ min files.block_size (length bytes - n * files.block_size)
    → section ≡ message_section (Data (record { download = files.download; «module» = file.id; version = file.version; number = n; block = take ((n * files.block_size + m) - n * files.block_size) (drop (n * files.block_size) bytes) }))
    → AppendsSections old counter now between files.pid (sections_up_to files file n) → AppendsSections now between new next files.pid (section ∷ []) → AppendsSections old counter new next files.pid (sections_up_to files file (n + 1))
block-sent files file old now new counter between next n m section bytes b h s before own =
    let cut : take ((n * files.block_size + m) - n * files.block_size) (drop (n * files.block_size) bytes) ≡ take files.block_size (drop (n * files.block_size) file.bytes.items) =
    cut-block files.block_size (n * files.block_size) m bytes h ∙ ap (λ x. take files.block_size (drop (n * files.block_size) x)) b in
    let same : section ≡ message_section (Data (block_of files file n)) =
    s ∙ ap (λ x. message_section (Data (record { download = files.download; «module» = file.id; version = file.version; number = n; block = x }))) cut in
    subst (AppendsSections old counter new next files.pid) (sym (up_to-more files file n ∙ ap (λ x. sections_up_to files file n ++ x ∷ []) (sym same)))
    (sent-both old now new files.pid counter between next (sections_up_to files file n) (section ∷ []) before own)

pub blocks-sent : (files : Files) (file : FileModule) (old new : List ℕ) (counter next n : ℕ) → n ≡ block_count files.block_size (length file.bytes.items) → AppendsSections old counter new next files.pid (sections_up_to files file n)
    → AppendsSections old counter new next files.pid (map message_section (map Data (blocks_of files file)))
blocks-sent files file old new counter next n e h = subst (λ k. AppendsSections old counter new next files.pid (sections_up_to files file k)) e h
