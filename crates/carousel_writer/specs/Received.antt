-- What is received of a stream on one PID (ISO/IEC 13818-1, 2.4.3 and 2.4.4), in the words of the crates that read it.
use Rattle.std.specs.Prelude.{◌==◌, ℕ, List, Option, find, filter}
use Rattle.ts_sections.specs.Intact.{is_intact}
use Rattle.carousel_blocks.specs.Message.{Message, messages_of}
use Rattle.section_writer.specs.Received.{sections_on}
use Rattle.carousel_writer.specs.declared.files.FileModule.{FileModule}
use Rattle.carousel_writer.specs.declared.files.Files.{Files}

-- the messages that the sections of a PID bring: those of the intact ones
abbrev pub messages_on : ℕ → List ℕ → List Message
messages_on pid bytes = messages_of (filter is_intact (sections_on pid bytes))

-- the file of the module with that number
abbrev pub file_of : Files → ℕ → Option FileModule
file_of files number = find (λ file. file.id == number) files.modules.items
