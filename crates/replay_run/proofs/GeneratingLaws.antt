-- How a run ends that generates files.
use Rattle.std.proofs.Common.{◌≡◌, ℕ, List, [], ◌++◌, codes, Result, Ok, Err, sym, ap, ◌∙◌, subst}
use Rattle.std.proofs.KnownBytes.{Appends-nil}
use Rattle.std.specs.Io.KnownBytes.{Appends}
use Rattle.std.specs.Prelude.{IfErr, OnErr, OnOk}
use Rattle.bml_bytes.specs.Numerals.{decimal_digits}
use Rattle.carousel_writer.specs.declared.files.Files.{Files}
use Rattle.es_reader.specs.Readers.{Reader, IsReader}
use Rattle.file_generator.specs.GeneratedFiles.{IsGenerated}
use Rattle.replay_run.specs.declared.status.Status.{Status}
use Rattle.replay_run.specs.declared.status.Status.TheVariants.{WriteFault}
use Rattle.replay_run.specs.Generating.{BreaksOffGenerated, GeneratesAs}
use Rattle.replay_run.specs.Generating.{generated_text, lines_of_files}
use Rattle.replay_run.specs.Outside.{Outside}
use Rattle.replay_run.specs.Status.{outcome_of}
use Rattle.replay_run.specs.Writing.{WritesOn, WritesShort}
use Rattle.replay_run.proofs.WritingLaws.{appends_more}

-- the text of generated files
pub record PrintsGenerated (seed count : ℕ) (text : List ℕ) : Type 0 where
  pub files : Files
  pub generated : IsGenerated files seed count
  pub text_is : (read : Reader) → IsReader read → text ≡ generated_text read seed count files

pub prints_generated : (seed count : ℕ) (files : Files) (none line text seen : List ℕ)
    → IsGenerated files seed count → seen ≡ text → none ≡ []
    → line ≡ none ++ codes "gen " ++ decimal_digits seed ++ codes " " ++ decimal_digits count
    ++ codes "\n"
    → ((read : Reader) → IsReader read → text ≡ line ++ lines_of_files read files)
    → PrintsGenerated seed count seen
prints_generated seed count files none line text seen generated same empty first lines = record {
  files = files;
  generated = generated;
  text_is = λ read right.
      same
      ∙ lines read right
      ∙ ap (λ l. l ++ lines_of_files read files)
      (first
      ∙ ap (λ l. l ++ codes "gen " ++ decimal_digits seed ++ codes " " ++ decimal_digits count
      ++ codes "\n") empty);
}

-- a proper front of it was written
breaks_off : (read : Reader) (seed count : ℕ) (before behind : Outside) (text : List ℕ)
    → IsReader read → PrintsGenerated seed count text
    → WritesShort before.sink.written behind.sink.written text
    → BreaksOffGenerated read seed count before behind
breaks_off read seed count before behind text right printed short = record {
  files = printed.files;
  generated = printed.generated;
  part = short.front;
  wanting = short.rest;
  text_is = sym (printed.text_is read right) ∙ short.whole;
  wants = short.wanting;
  written =
      appends_more before.sink.written before.sink.written behind.sink.written [] short.front
      (Appends-nil before.sink.written) short.written;
}

-- the text was made, and a write ended so
pub generates : {A : Type 0} (read : Reader) (seed count : ℕ) (before behind : Outside)
    (result : Result A Status) (text : List ℕ)
    → IsReader read → PrintsGenerated seed count text
    → OnOk result (WritesOn before.sink.written behind.sink.written text)
    → OnErr result (WritesShort before.sink.written behind.sink.written text)
    → IfErr result (λ status. status ≡ WriteFault)
    → GeneratesAs read seed count before behind (outcome_of result)
generates read seed count before behind (Ok answer) text right printed whole short fault = record {
  files = printed.files;
  generated = printed.generated;
  written = subst (λ l. Appends before.sink.written behind.sink.written l)
      (printed.text_is read right)
      (appends_more before.sink.written before.sink.written behind.sink.written [] text
      (Appends-nil before.sink.written) whole);
}
generates read seed count before behind (Err status) text right printed whole short fault =
    subst (λ s. GeneratesAs read seed count before behind s) (sym fault)
    (breaks_off read seed count before behind text right printed short)
