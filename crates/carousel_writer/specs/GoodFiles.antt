-- Which files can be written as a stream (this project's own limits, so that the stream is read again as these files).
use Rattle.std.specs.Prelude.{◌<◌, ◌≤◌, ◌==◌, ◌^◌, ◌+◌, nat_le, ℕ, Bool, true, not, ◌&&◌, List, [], ◌∷◌, length, is_none, sum_by}
use Rattle.std.specs.List.{All, list_all, list_any}
use Rattle.bml_bytes.specs.Codes.{bytes_of}
use Rattle.carousel_blocks.specs.Message.{Indication}
use Rattle.carousel_blocks.specs.Entries.{skip_in}
use Rattle.carousel_blocks.specs.InForce.{block_count}
use Rattle.carousel_writer.specs.declared.files.FileModule.{FileModule}
use Rattle.carousel_writer.specs.declared.files.Files.{Files}
use Rattle.carousel_writer.specs.GoodParts.{is_own}
use Rattle.carousel_writer.specs.Messages.{message_section}
use Rattle.carousel_writer.specs.Streams.{dii_of, info_of}

-- at least one round, a PID that ISO/IEC 13818-1, table 2-3, leaves free, and blocks of 1 to 4,000 bytes
abbrev pub has_good_fields : Files → Bool
has_good_fields files =
    nat_le 1 files.rounds
    && (nat_le 16 files.pid
    && (nat_le files.pid 8190 && (nat_le 1 files.block_size && nat_le files.block_size 4000)))

-- a media type of at most 250 bytes, of which it is the codes
abbrev pub is_good_media : List ℕ → Bool
is_good_media media = nat_le (length (bytes_of media)) 250 && is_own media

abbrev pub has_good_media : FileModule → Bool
has_good_media file = is_good_media file.media

-- the DII's section has at most 4,096 bytes (ISO/IEC 13818-1, 2.4.4.11)
abbrev pub has_short_dii : Files → Bool
has_short_dii files = nat_le (length (message_section (Indication (dii_of files)))) 4096

-- no two modules have one number
abbrev pub have_own_numbers : List FileModule → Bool
have_own_numbers [] = true
have_own_numbers (file ∷ modules) = not (list_any (λ other. other.id == file.id) modules) && have_own_numbers modules

-- the module isn't one that a reader of the DII skips
abbrev pub is_unskipped : Files → FileModule → Bool
is_unskipped files file = is_none (skip_in (dii_of files) file.id)

abbrev pub are_good_files : Files → Bool
are_good_files files =
    has_good_fields files
    && (list_all has_good_media files.modules.items
    && (has_short_dii files && (have_own_numbers files.modules.items && list_all (is_unskipped files) files.modules.items)))

-- numbers that don't pass the types that the code has for them
pub record HaveTypes (files : Files) : Type 0 where
  pub transaction : files.transaction < 2 ^ 32
  pub download : files.download < 2 ^ 32
  pub ids : All (λ file. file.id < 2 ^ 16) files.modules.items

-- ---- in numbers of bytes

-- the bytes of a module's entry in the DII
abbrev pub entry_size : FileModule → ℕ
entry_size file = 8 + length (info_of file.media)

-- files that are so small, one by one and all together, that a reader skips none
pub record AreSmall (files : Files) : Type 0 where
  pub sizes : All (λ file. length file.bytes.items ≤ 1_048_576) files.modules.items
  pub blocks : All (λ file. block_count files.block_size (length file.bytes.items) ≤ 65_536) files.modules.items
  pub sum : sum_by (λ file. length file.bytes.items) files.modules.items ≤ 33_554_432
