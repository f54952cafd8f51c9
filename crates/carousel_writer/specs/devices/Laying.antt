-- A device of the proofs: what the writing calls ask of files. (This project's own.)
use Rattle.std.specs.Prelude.{◌≡◌, ◌≢◌, ◌<◌, ◌≤◌, ◌^◌, List, ◌∷◌, ◌++◌, length, None}
use Rattle.std.specs.List.{All}
use Rattle.bml_bytes.specs.Codes.{bytes_of}
use Rattle.carousel_blocks.specs.Entries.{skip_in}
use Rattle.carousel_blocks.specs.InForce.{block_count}
use Rattle.carousel_writer.specs.declared.files.FileModule.{FileModule}
use Rattle.carousel_writer.specs.declared.files.Files.{Files}
use Rattle.carousel_writer.specs.Messages.{dii_payload}
use Rattle.carousel_writer.specs.Streams.{dii_of}

pub record CanBeLaid (files : Files) : Type 0 where
  pub pid : files.pid < 8192
  pub positive : 0 < files.block_size
  pub short : files.block_size ≤ 4000
  pub few : All (λ file. block_count files.block_size (length file.bytes.items) ≤ 2 ^ 16) files.modules.items
  pub count : length files.modules.items < 2 ^ 16
  pub media : All (λ file. length (bytes_of file.media) ≤ 250) files.modules.items
  pub sizes : All (λ file. length file.bytes.items < 2 ^ 32) files.modules.items
  pub section : length (dii_payload (dii_of files)) ≤ 4072

-- each module has another number than those before it
abbrev pub HaveOwnNumbers : List FileModule → Type 0
HaveOwnNumbers modules = (before behind : List FileModule) (file : FileModule) → modules ≡ before ++ file ∷ behind → All (λ other. other.id ≢ file.id) before

abbrev pub AreUnskipped : Files → List FileModule → Type 0
AreUnskipped files modules = All (λ file. skip_in (dii_of files) file.id ≡ None) modules
