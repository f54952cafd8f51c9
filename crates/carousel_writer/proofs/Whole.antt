-- The whole of what is read of a stream.
use Rattle.std.proofs.Common.{◌≡◌, ◌≢◌, ℕ, zero, suc, ◌==◌, Bool, true, false, cond, List, [], ◌∷◌, ◌++◌, refl, sym, ap, subst, ◌∙◌, arith, Some, None}
use Rattle.std.specs.Prelude.{find, filter}
use Rattle.std.specs.List.{All}
use Rattle.std.proofs.lemmas.Bool.{eqb-true, eqb-false}
use Rattle.std.proofs.lemmas.List.Elements.{All-nil, All-cons, All-head, All-tail, All-append}
use Rattle.ts_packets.specs.Packets.{packets_of}
use Rattle.ts_sections.specs.Intact.{IsIntact, is_intact}
use Rattle.carousel_blocks.specs.Message.{Message, messages_of}
use Rattle.carousel_blocks.specs.Entries.{skip_in}
use Rattle.carousel_blocks.specs.Held.{bytes_held}
use Rattle.section_writer.specs.Packets.{stream_packets}
use Rattle.section_writer.specs.Received.{sections_on}
use Rattle.carousel_writer.specs.declared.files.FileModule.{FileModule}
use Rattle.carousel_writer.specs.declared.files.Files.{Files}
use Rattle.carousel_writer.proofs.Fits.{MessageFits, FilesFit}
use Rattle.carousel_writer.specs.Streams.{dii_of, round_of, rounds_of, messages_sent, sections_sent, stream_of}
use Rattle.carousel_writer.specs.Received.{messages_on, file_of}
use Rattle.carousel_writer.specs.devices.LawsBelow.{Below}
use Rattle.carousel_writer.proofs.MessageLaws.{messages-written, all-intact, all-sections}
use Rattle.carousel_writer.proofs.StandingLaws.{DiffersFrom}
use Rattle.carousel_writer.proofs.HeldLaws.{held-file}

pub packets-whole : Below → (files : Files) → packets_of (stream_of files) ≡ stream_packets files.pid (sections_sent files)
packets-whole laws files = laws.cut files.pid (sections_sent files)

fits-rounds : (count : ℕ) (round : List Message) → All MessageFits round → All MessageFits (rounds_of count round)
fits-rounds zero round h = All-nil MessageFits
fits-rounds (suc more) round h = All-append MessageFits round (rounds_of more round) h (fits-rounds more round h)

pub sections-whole : Below → (files : Files) → FilesFit files → sections_on files.pid (stream_of files) ≡ sections_sent files
sections-whole laws files h = laws.read files.pid (sections_sent files) h.pid (all-sections laws (messages_sent files) (fits-rounds files.rounds (round_of files) h.fit))

is_intact-from : (section : List ℕ) → IsIntact section → is_intact section ≡ true
is_intact-from section h = grind (arith, h.long_form, h.indicator, h.whole, h.remainder)

intact-all : (list : List (List ℕ)) → All IsIntact list → filter is_intact list ≡ list
intact-all [] h = refl
intact-all (s ∷ ss) h = rw (is_intact-from s (All-head IsIntact s ss h)) (ap (λ x. s ∷ x) (intact-all ss (All-tail IsIntact s ss h)))

pub intact-whole : Below → (files : Files) → FilesFit files → All IsIntact (sections_sent files)
intact-whole laws files h = all-intact laws (messages_sent files) (fits-rounds files.rounds (round_of files) h.fit)

pub messages-whole : Below → (files : Files) → FilesFit files → messages_on files.pid (stream_of files) ≡ messages_sent files
messages-whole laws files h =
    ap (λ x. messages_of (filter is_intact x)) (sections-whole laws files h)
    ∙ ap messages_of (intact-all (sections_sent files) (intact-whole laws files h))
    ∙ messages-written laws (messages_sent files) (fits-rounds files.rounds (round_of files) h.fit)

-- ---- the file with a number

pub record Found (files : List FileModule) (number : ℕ) (file : FileModule) : Type 0 where
  pub before : List FileModule
  pub behind : List FileModule
  pub stands : files ≡ before ++ file ∷ behind
  pub other : All (DiffersFrom file) before
  pub number_is : file.id ≡ number

pub found : (list : List FileModule) (number : ℕ) (file : FileModule) → find (λ file. file.id == number) list ≡ Some file → Found list number file
found [] number file e = cc
found (x ∷ list) number file e = by (x.id == number) refl (λ f. found list number file f) e where
  by : (t : Bool) → (x.id == number) ≡ t → (find (λ file. file.id == number) list ≡ Some file → Found list number file) → cond t (Some x) (find (λ file. file.id == number) list) ≡ Some file → Found (x ∷ list) number file
  by true test again f =
      let same : x ≡ file = cc in
      record { before = []; behind = list; stands = ap (λ y. y ∷ list) same; other = All-nil (DiffersFrom file); number_is = ap (λ y. y.id) (sym same) ∙ eqb-true x.id number test }
  by false test again f =
      let h = again f in
      let ne : x.id ≢ number = eqb-false x.id number test in
      record { before = x ∷ h.before; behind = h.behind; stands = ap (λ y. x ∷ y) h.stands; other = All-cons (DiffersFrom file) x h.before (λ e. ne (e ∙ h.number_is)) h.other; number_is = h.number_is }

pub own_unskipped : (files : Files) (file : FileModule) (before behind : List FileModule) → files.modules.items ≡ before ++ file ∷ behind → All (λ file. skip_in (dii_of files) file.id ≡ None) files.modules.items → skip_in (dii_of files) file.id ≡ None
own_unskipped files file before behind stands all = one before (subst (λ (l : List FileModule). All (λ file. skip_in (dii_of files) file.id ≡ None) l) stands all) where
  one : (before : List FileModule) → All (λ file. skip_in (dii_of files) file.id ≡ None) (before ++ file ∷ behind) → skip_in (dii_of files) file.id ≡ None
  one [] h = All-head (λ file. skip_in (dii_of files) file.id ≡ None) file behind h
  one (x ∷ before) h = one before (All-tail (λ file. skip_in (dii_of files) file.id ≡ None) x (before ++ file ∷ behind) h)

pub held-some : Below → (files : Files) → FilesFit files → (number : ℕ) (file : FileModule) → file_of files number ≡ Some file → bytes_held (messages_sent files) number ≡ Some file.bytes.items
held-some laws files h number file e =
    let f = found files.modules.items number file e in
    ap (bytes_held (messages_sent files)) (sym f.number_is)
    ∙ held-file laws files f.before f.behind file (record { stands = f.stands; other = f.other; unskipped = own_unskipped files file f.before f.behind f.stands h.unskipped }) h.rounds

pub held-whole : Below → (files : Files) → FilesFit files → (number : ℕ) (file : FileModule) → file_of files number ≡ Some file → bytes_held (messages_on files.pid (stream_of files)) number ≡ Some file.bytes.items
held-whole laws files h number file e =
    ap (λ x. bytes_held x number) (messages-whole laws files h) ∙ held-some laws files h number file e
