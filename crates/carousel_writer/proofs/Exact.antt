-- Just the files are announced and held.
use Rattle.std.proofs.Common.{◌≡◌, ℕ, zero, suc, ◌<◌, ◌==◌, ◌||◌, Bool, true, false, cond, List, [], ◌∷◌, ◌++◌, length, map, refl, sym, ap, append-nil, ◌∙◌, arith, Option, Some, None}
use Rattle.std.specs.Prelude.{is_some, option_and_then, option_map, find}
use Rattle.std.specs.List.{flat_map, list_any}
use Rattle.table_fields.specs.Descriptors.{first_with}
use Rattle.bml_bytes.specs.Fields.{◌>>=◌}
use Rattle.bml_bytes.specs.Codes.{bytes_of}
use Rattle.dsmcc_messages.specs.Reading.{descriptor_in}
use Rattle.carousel_blocks.specs.declared.standing.Standing.{Standing}
use Rattle.carousel_blocks.specs.Message.{Data}
use Rattle.carousel_blocks.specs.InForce.{in_force, standing_of}
use Rattle.carousel_blocks.specs.Carousel.{entry_in_force}
use Rattle.carousel_blocks.specs.Held.{bytes_held}
use Rattle.carousel_writer.specs.declared.files.FileModule.{FileModule}
use Rattle.carousel_writer.specs.declared.files.Files.{Files}
use Rattle.carousel_writer.specs.Streams.{info_of, type_text, entry_of, dii_of, blocks_of, round_of, rounds_of, messages_sent, stream_of}
use Rattle.carousel_writer.proofs.Fits.{FilesFit}
use Rattle.carousel_writer.specs.Received.{file_of, messages_on}
use Rattle.carousel_writer.specs.devices.LawsBelow.{Below, Limits}
use Rattle.carousel_writer.proofs.StandingLaws.{standing-file}
use Rattle.carousel_writer.proofs.HeldLaws.{repeats-map, repeats-rounds}
use Rattle.carousel_writer.proofs.Whole.{held-some, messages-whole, found, own_unskipped}

in_force-rounds : Below → (files : Files) (count : ℕ) → 0 < count → in_force (rounds_of count (round_of files)) ≡ Some (dii_of files)
in_force-rounds laws files zero h = absurd (omega arith)
in_force-rounds laws files (suc more) h =
    let blocks = flat_map (blocks_of files) files.modules.items in
    laws.stays_in_force (dii_of files) (map Data blocks ++ rounds_of more (round_of files)) (repeats-map (dii_of files).transaction blocks (rounds_of more (round_of files)) (repeats-rounds (dii_of files) blocks more))

no-entry : (modules : List FileModule) (number : ℕ) → find (λ file. file.id == number) modules ≡ None → list_any (λ entry. entry.id == number) (map entry_of modules) ≡ false
no-entry [] number h = refl
no-entry (file ∷ modules) number h = by (file.id == number) (no-entry modules number) h where
  by : (t : Bool) → (find (λ file. file.id == number) modules ≡ None → list_any (λ entry. entry.id == number) (map entry_of modules) ≡ false) → cond t (Some file) (find (λ file. file.id == number) modules) ≡ None → (t || list_any (λ entry. entry.id == number) (map entry_of modules)) ≡ false
  by true again e = cc
  by false again e = again e

standing-none : Below → (files : Files) (number : ℕ) → file_of files number ≡ None → standing_of (Some (dii_of files)) number ≡ None
standing-none laws files number h = by (standing_of (Some (dii_of files)) number) (laws.absent (dii_of files) number ∙ no-entry files.modules.items number h) where
  by : (o : Option Standing) → is_some o ≡ false → o ≡ None
  by None e = refl
  by (Some s) e = cc

pub held-none : Below → (files : Files) → FilesFit files → (number : ℕ) → file_of files number ≡ None → bytes_held (messages_sent files) number ≡ None
held-none laws files h number e = by (bytes_held (messages_sent files) number) refl where
  none : standing_of (in_force (messages_sent files)) number ≡ None
  none = ap (λ f. standing_of f number) (in_force-rounds laws files files.rounds h.rounds) ∙ standing-none laws files number e

  by : (o : Option (List ℕ)) → bytes_held (messages_sent files) number ≡ o → o ≡ None
  by None f = refl
  by (Some bytes) f = let is = (laws.held (messages_sent files) number bytes).0 f in let s = is.standing_is in let n = none in cc

pub entry-file : Below → (files : Files) → FilesFit files → (number : ℕ) → entry_in_force (messages_sent files) number ≡ option_map entry_of (file_of files number)
entry-file laws files h number =
    ap (λ f. option_map (λ s. s.entry) (standing_of f number)) (in_force-rounds laws files files.rounds h.rounds) ∙ by (file_of files number) refl
  where
    by : (o : Option FileModule) → file_of files number ≡ o → option_map (λ s. s.entry) (standing_of (Some (dii_of files)) number) ≡ option_map entry_of o
    by None e = ap (option_map (λ s. s.entry)) (standing-none laws files number e)
    by (Some file) e =
        let f = found files.modules.items number file e in
        ap (λ n. option_map (λ s. s.entry) (standing_of (Some (dii_of files)) n)) (sym f.number_is)
        ∙ ap (option_map (λ s. s.entry)) (standing-file laws files f.before f.behind file (record { stands = f.stands; other = f.other; unskipped = own_unskipped files file f.before f.behind f.stands h.unskipped }))

pub type-read : Limits → (media : List ℕ) → descriptor_in (info_of media) 0x01 ≡ type_text media
type-read laws [] = ap (λ o. o >>= first_with 0x01) ((laws.descriptors [] []).0 refl)
type-read laws (code ∷ codes) =
    let bytes = bytes_of (code ∷ codes) in
    ap (λ o. o >>= first_with 0x01) ((laws.descriptors (info_of (code ∷ codes)) (record { tag = 1; bytes = bytes } ∷ [])).0 (ap (λ x. 1 ∷ length bytes ∷ x) (sym (append-nil bytes))))

pub not_compressed : Limits → (media : List ℕ) → descriptor_in (info_of media) 0xC2 ≡ None
not_compressed laws [] = ap (λ o. o >>= first_with 0xC2) ((laws.descriptors [] []).0 refl)
not_compressed laws (code ∷ codes) =
    let bytes = bytes_of (code ∷ codes) in
    ap (λ o. o >>= first_with 0xC2) ((laws.descriptors (info_of (code ∷ codes)) (record { tag = 1; bytes = bytes } ∷ [])).0 (ap (λ x. 1 ∷ length bytes ∷ x) (sym (append-nil bytes))))

-- held are just the files
pub held-exactly : Below → (files : Files) → FilesFit files → (number : ℕ) → bytes_held (messages_on files.pid (stream_of files)) number ≡ option_map (λ file. file.bytes.items) (file_of files number)
held-exactly laws files h number = ap (λ x. bytes_held x number) (messages-whole laws files h) ∙ by (file_of files number) refl where
  by : (o : Option FileModule) → file_of files number ≡ o → bytes_held (messages_sent files) number ≡ option_map (λ file. file.bytes.items) o
  by None e = held-none laws files h number e
  by (Some file) e = held-some laws files h number file e

pub entries-exactly : Below → (files : Files) → FilesFit files → (number : ℕ) → entry_in_force (messages_on files.pid (stream_of files)) number ≡ option_map entry_of (file_of files number)
entries-exactly laws files h number = ap (λ x. entry_in_force x number) (messages-whole laws files h) ∙ entry-file laws files h number

pub media-exactly : Below → (files : Files) → FilesFit files → (number : ℕ)
    → option_and_then (λ entry. descriptor_in entry.info 0x01) (entry_in_force (messages_on files.pid (stream_of files)) number) ≡ option_and_then (λ file. type_text file.media) (file_of files number)
media-exactly laws files h number = ap (option_and_then (λ entry. descriptor_in entry.info 0x01)) (entries-exactly laws files h number) ∙ by (file_of files number) where
  by : (o : Option FileModule) → option_and_then (λ entry. descriptor_in entry.info 0x01) (option_map entry_of o) ≡ option_and_then (λ file. type_text file.media) o
  by None = refl
  by (Some file) = type-read laws.limits file.media
