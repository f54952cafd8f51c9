-- What a run writes of generated files: what their stream comes to when it is replayed. This
-- project's own.
use Rattle.std.specs.Prelude.{◌≡◌, ◌≢◌, ◌==◌, ℕ, List, [], ◌++◌, codes, count_by, length, sum_by}
use Rattle.bml_bytes.specs.Numerals.{decimal_digits}
use Rattle.carousel_writer.specs.declared.files.Files.{Files}
use Rattle.carousel_writer.specs.Streams.{stream_of}
use Rattle.es_reader.specs.Readers.{Reader}
use Rattle.file_generator.specs.GeneratedFiles.{IsGenerated}
use Rattle.psi_tables.specs.declared.services.Selection.TheVariants.{Pid}
use Rattle.ts_packets.specs.Packets.{packets_of}
use Rattle.replay_run.specs.declared.status.Status.{Status}
use Rattle.replay_run.specs.declared.status.Status.TheVariants.{Done, NoMemory, WriteFault}
use Rattle.replay_run.specs.Kept.{area_of_kept}
use Rattle.replay_run.specs.Meaning.{replay_pieces}
use Rattle.replay_run.specs.Outside.{Outside}
use Rattle.replay_run.specs.Output.{Writes, bytes_of}

-- a line of a name and a number
abbrev pub number_line : List ℕ → ℕ → List ℕ
number_line name number = name ++ codes " " ++ decimal_digits number ++ codes "\n"

-- ---- what files come to

-- the record with which a stream of files is replayed: all of its packets, and then what is
-- displayed
abbrev pub whole_record : List ℕ
whole_record = codes "all\nshow\n"

-- what such a replay prints, of the data on the PID of the files, with nothing kept
abbrev pub replay_text : Reader → Files → List ℕ
replay_text read files =
    bytes_of (replay_pieces read (Pid files.pid) (area_of_kept []) (stream_of files) whole_record)

-- how many lines a text has, each of which ends with a line feed (ASCII)
abbrev pub line_count : List ℕ → ℕ
line_count text = count_by (λ byte. byte == 10) text

-- the packets of the stream of files, the bytes of their modules, and the lines of the replay
abbrev pub lines_of_files : Reader → Files → List ℕ
lines_of_files read files =
    number_line (codes "packets") (length (packets_of (stream_of files)))
    ++ number_line (codes "bytes") (sum_by (λ file. length file.bytes.items) files.modules.items)
    ++ number_line (codes "lines") (line_count (replay_text read files))

-- ---- generated files

-- the line of the command, and then those of the files
abbrev pub generated_text : Reader → ℕ → ℕ → Files → List ℕ
generated_text read seed count files =
    codes "gen " ++ decimal_digits seed ++ codes " " ++ decimal_digits count ++ codes "\n"
    ++ lines_of_files read files

-- the text of the files that the seed and the count give was written
pub record WritesGenerated (read : Reader) (seed count : ℕ) (before behind : Outside) : Type 0 where
  pub files : Files
  pub generated : IsGenerated files seed count
  pub written : Writes before behind (generated_text read seed count files)

-- a proper front of it was written
pub record BreaksOffGenerated (read : Reader) (seed count : ℕ) (before behind : Outside) :
    Type 0 where
  pub files : Files
  pub generated : IsGenerated files seed count
  pub part : List ℕ
  pub wanting : List ℕ
  pub text_is : generated_text read seed count files ≡ part ++ wanting
  pub wants : wanting ≢ []
  pub written : Writes before behind part

-- How a run that generates files may end. No other status comes.
abbrev pub GeneratesAs : Reader → ℕ → ℕ → Outside → Outside → Status → Type 0
GeneratesAs read seed count before behind Done = WritesGenerated read seed count before behind
GeneratesAs read seed count before behind WriteFault =
    BreaksOffGenerated read seed count before behind
GeneratesAs read seed count before behind NoMemory = Writes before behind []
GeneratesAs read seed count before behind _ = ⊥
