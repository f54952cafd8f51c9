-- What the tests of files say.
use Rattle.std.proofs.Common.{◌≡◌, ◌≢◌, ◌≤◌, ◌==◌, Bool, true, false, not, List, [], ◌∷◌, ◌++◌, length, get_or, Option, Some, None, refl, sym, ap, subst, ◌∙◌}
use Rattle.std.specs.Prelude.{◌&&◌, ◌||◌, is_none, nat_le}
use Rattle.std.specs.List.{All, list_all, list_any}
use Rattle.std.proofs.lemmas.Bool.{and_parts, eq-eqb, leb-true}
use Rattle.std.proofs.lemmas.List.Elements.{All-cons, All-head, All-nil, All-tail}
use Rattle.std.proofs.lemmas.List.Sums.{AllPass-from_list_all}
use Rattle.bml_bytes.specs.Codes.{bytes_of}
use Rattle.carousel_blocks.specs.declared.standing.SkipCause.{SkipCause}
use Rattle.carousel_blocks.specs.Entries.{skip_in}
use Rattle.carousel_blocks.specs.Message.{Indication}
use Rattle.carousel_writer.specs.declared.files.FileModule.{FileModule}
use Rattle.carousel_writer.specs.declared.files.Files.{Files}
use Rattle.carousel_writer.specs.GoodFiles.{are_good_files, has_good_fields, has_good_media, has_short_dii, have_own_numbers, is_unskipped}
use Rattle.carousel_writer.specs.GoodParts.{is_own}
use Rattle.carousel_writer.specs.Messages.{message_section}
use Rattle.carousel_writer.specs.Streams.{dii_of}
use Rattle.carousel_writer.specs.devices.Laying.{AreUnskipped, HaveOwnNumbers}

-- ---- the fields

pub record GoodFields (files : Files) : Type 0 where
  pub rounds : 1 ≤ files.rounds
  pub least_pid : 16 ≤ files.pid
  pub most_pid : files.pid ≤ 8190
  pub least_block : 1 ≤ files.block_size
  pub most_block : files.block_size ≤ 4000

pub good-fields : (files : Files) → has_good_fields files ≡ true → GoodFields files
good-fields files e =
    let one = and_parts (nat_le 1 files.rounds) (nat_le 16 files.pid && (nat_le files.pid 8190 && (nat_le 1 files.block_size && nat_le files.block_size 4000))) e in
    let two = and_parts (nat_le 16 files.pid) (nat_le files.pid 8190 && (nat_le 1 files.block_size && nat_le files.block_size 4000)) one.1 in
    let three = and_parts (nat_le files.pid 8190) (nat_le 1 files.block_size && nat_le files.block_size 4000) two.1 in
    let four = and_parts (nat_le 1 files.block_size) (nat_le files.block_size 4000) three.1 in
    record {
      rounds = leb-true 1 files.rounds one.0;
      least_pid = leb-true 16 files.pid two.0;
      most_pid = leb-true files.pid 8190 three.0;
      least_block = leb-true 1 files.block_size four.0;
      most_block = leb-true files.block_size 4000 four.1;
    }

-- ---- media types

short-media : (file : FileModule) → has_good_media file ≡ true → length (bytes_of file.media) ≤ 250
short-media file e = leb-true (length (bytes_of file.media)) 250 (and_parts (nat_le (length (bytes_of file.media)) 250) (is_own file.media) e).0

pub short-all : (modules : List FileModule) → list_all has_good_media modules ≡ true → All (λ file. length (bytes_of file.media) ≤ 250) modules
short-all modules e = λ k d b. short-media (get_or modules k d) (AllPass-from_list_all has_good_media modules e k d b)

-- ---- numbers

or-none : (s t : Bool) → (s || t) ≡ false → (s ≡ false) × (t ≡ false)
or-none true t e = absurd (cc e)
or-none false t e = (refl, e)

not-true : (t : Bool) → not t ≡ true → t ≡ false
not-true true e = absurd (cc e)
not-true false e = refl

-- none of those behind has the number
others : (file : FileModule) (modules before behind : List FileModule) (other : FileModule) → list_any (λ x. x.id == file.id) modules ≡ false → modules ≡ before ++ other ∷ behind → file.id ≢ other.id
others file [] [] behind other e h f = absurd (cc h)
others file [] (y ∷ before) behind other e h f = absurd (cc h)
others file (x ∷ modules) [] behind other e h f =
    let same : x ≡ other = cc in
    let p = or-none (x.id == file.id) (list_any (λ x. x.id == file.id) modules) e in
    let t : (x.id == file.id) ≡ true = eq-eqb x.id file.id (ap (λ (y : FileModule). y.id) same ∙ sym f) in
    absurd (cc (p.0, t))
others file (x ∷ modules) (y ∷ before) behind other e h f =
    let p = or-none (x.id == file.id) (list_any (λ x. x.id == file.id) modules) e in
    let rest : modules ≡ before ++ other ∷ behind = cc in
    others file modules before behind other p.1 rest f

pub own-numbers : (modules : List FileModule) → have_own_numbers modules ≡ true → HaveOwnNumbers modules
own-numbers [] e [] behind file h = absurd (cc h)
own-numbers [] e (y ∷ before) behind file h = absurd (cc h)
own-numbers (x ∷ modules) e [] behind file h = All-nil (λ other. other.id ≢ file.id)
own-numbers (x ∷ modules) e (y ∷ before) behind file h =
    let p = and_parts (not (list_any (λ other. other.id == x.id) modules)) (have_own_numbers modules) e in
    let same : x ≡ y = cc in
    let rest : modules ≡ before ++ file ∷ behind = cc in
    All-cons (λ other. other.id ≢ file.id) y before (subst (λ (z : FileModule). z.id ≢ file.id) same (others x modules before behind file (not-true (list_any (λ other. other.id == x.id) modules) p.0) rest))
    (own-numbers modules p.1 before behind file rest)

-- ---- skipped modules

none-is : (o : Option SkipCause) → is_none o ≡ true → o ≡ None
none-is None e = refl
none-is (Some x) e = absurd (cc e)

pub unskipped-all : (files : Files) (modules : List FileModule) → list_all (is_unskipped files) modules ≡ true → AreUnskipped files modules
unskipped-all files modules e = λ k d b. none-is _ (AllPass-from_list_all (is_unskipped files) modules e k d b)

pub all-unskipped : (files : Files) (modules : List FileModule) → AreUnskipped files modules → list_all (is_unskipped files) modules ≡ true
all-unskipped files [] h = refl
all-unskipped files (file ∷ modules) h =
    rw (All-head (λ file. skip_in (dii_of files) file.id ≡ None) file modules h) (all-unskipped files modules (All-tail (λ file. skip_in (dii_of files) file.id ≡ None) file modules h))

-- two tests that hold together are one
pub same-test : (a b : Bool) → (a ≡ true → b ≡ true) → (b ≡ true → a ≡ true) → a ≡ b
same-test true b f g = sym (f refl)
same-test false true f g = g refl
same-test false false f g = refl

-- ---- all of them

pub record AreGood (files : Files) : Type 0 where
  pub fields : GoodFields files
  pub media : All (λ file. length (bytes_of file.media) ≤ 250) files.modules.items
  pub section : length (message_section (Indication (dii_of files))) ≤ 4096
  pub numbers : HaveOwnNumbers files.modules.items
  pub unskipped : AreUnskipped files files.modules.items

pub are-good : (files : Files) → are_good_files files ≡ true → AreGood files
are-good files e =
    let modules = files.modules.items in
    let one = and_parts (has_good_fields files) (list_all has_good_media modules && (has_short_dii files && (have_own_numbers modules && list_all (is_unskipped files) modules))) e in
    let two = and_parts (list_all has_good_media modules) (has_short_dii files && (have_own_numbers modules && list_all (is_unskipped files) modules)) one.1 in
    let three = and_parts (has_short_dii files) (have_own_numbers modules && list_all (is_unskipped files) modules) two.1 in
    let four = and_parts (have_own_numbers modules) (list_all (is_unskipped files) modules) three.1 in
    record {
      fields = good-fields files one.0;
      media = short-all modules two.0;
      section = leb-true (length (message_section (Indication (dii_of files)))) 4096 three.0;
      numbers = own-numbers modules four.0;
      unskipped = unskipped-all files modules four.1;
    }
