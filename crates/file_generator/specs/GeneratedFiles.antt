-- The files that a seed and a count give (this project's own).
use Rattle.std.specs.Prelude.{◌≡◌, ℕ, ◌+◌, List, [], ◌∷◌, map, codes as ascii}
use Rattle.std.specs.List.{range_with_len}
use Rattle.carousel_writer.specs.declared.files.FileModule.{FileModule}
use Rattle.carousel_writer.specs.declared.files.Files.{Files}
use Rattle.file_generator.specs.Menu.{menu_entity}
use Rattle.file_generator.specs.Modules.{drawn_bytes}

-- what a module says
pub record ModuleSeen : Type 0 where
  pub id : ℕ
  pub version : ℕ
  pub media : List ℕ
  pub bytes : List ℕ

abbrev pub module_seen : FileModule → ModuleSeen
module_seen file = record { id = file.id; version = file.version; media = file.media; bytes = file.bytes.items }

-- module 0000: the page with a menu, without media type
abbrev pub menu_module : ModuleSeen
menu_module = record { id = 0; version = 1; media = []; bytes = menu_entity }

-- the modules that are drawn, from index 0 on: they are numbered from 1
abbrev pub drawn_module : ℕ → ℕ → ModuleSeen
drawn_module seed index = record {
  id = index + 1;
  version = 1;
  media = ascii "application/octet-stream";
  bytes = drawn_bytes seed index;
}

abbrev pub modules_of : ℕ → ℕ → List ModuleSeen
modules_of seed count = menu_module ∷ map (drawn_module seed) (range_with_len 0 count)

-- the files of a seed with so many modules that are drawn
pub record IsGenerated (files : Files) (seed count : ℕ) : Type 0 where
  pub pid : files.pid ≡ 256
  pub transaction : files.transaction ≡ 1
  pub download : files.download ≡ 1
  pub block_size : files.block_size ≡ 4000
  pub rounds : files.rounds ≡ 2
  pub modules : map module_seen files.modules.items ≡ modules_of seed count
