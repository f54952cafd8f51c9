-- What the DII of files says of a file that isn't skipped.
use Rattle.std.proofs.Common.{◌≡◌, ◌≢◌, ℕ, ◌==◌, Bool, false, ◌||◌, List, [], ◌∷◌, ◌++◌, length, take, map, refl, ap, ◌∙◌, Option, Some, None}
use Rattle.std.specs.Prelude.{option_map, option_and_then, slice_get}
use Rattle.std.specs.List.{All, list_any}
use Rattle.std.proofs.lemmas.Bool.{ne_eqb}
use Rattle.std.proofs.lemmas.List.Elements.{All-head, All-tail}
use Rattle.dsmcc_messages.specs.declared.entry.Entry.{Entry}
use Rattle.carousel_blocks.specs.declared.standing.SkipCause.{SkipCause}
use Rattle.carousel_blocks.specs.declared.standing.Standing.{Standing}
use Rattle.carousel_blocks.specs.InForce.{standing_of}
use Rattle.carousel_blocks.specs.Entries.{CountsAsEntry, skip_in}
use Rattle.carousel_writer.specs.devices.LawsBelow.{Below}
use Rattle.carousel_writer.specs.declared.files.FileModule.{FileModule}
use Rattle.carousel_writer.specs.declared.files.Files.{Files}
use Rattle.carousel_writer.specs.Streams.{entry_of, dii_of}

-- ---- the entry of a file behind others

abbrev pub DiffersFrom : FileModule → FileModule → Type 0
DiffersFrom file other = other.id ≢ file.id

pub place-of : (before behind : List FileModule) (file : FileModule) → slice_get (map entry_of (before ++ file ∷ behind)) (length before) ≡ Some (entry_of file)
place-of [] behind file = refl
place-of (other ∷ before) behind file = place-of before behind file

pub free : (before behind : List FileModule) (file : FileModule) → All (DiffersFrom file) before → list_any (λ entry. entry.id == file.id) (take (length before) (map entry_of (before ++ file ∷ behind))) ≡ false
free [] behind file h = refl
free (other ∷ before) behind file h =
    ap (λ (t : Bool). t || list_any (λ entry. entry.id == file.id) (take (length before) (map entry_of (before ++ file ∷ behind)))) (ne_eqb other.id file.id (All-head (DiffersFrom file) other before h))
    ∙ free before behind file (All-tail (DiffersFrom file) other before h)

-- the file stands behind these in the files, each of which has another number, and isn't skipped
pub record IsFile (files : Files) (before : List FileModule) (file : FileModule) (behind : List FileModule) : Type 0 where
  pub stands : files.modules.items ≡ before ++ file ∷ behind
  pub other : All (DiffersFrom file) before
  pub unskipped : skip_in (dii_of files) file.id ≡ None

pub counts-as : (files : Files) (before behind : List FileModule) (file : FileModule) → IsFile files before file behind → CountsAsEntry (dii_of files) (length before) (entry_of file)
counts-as files before behind file h = record {
  stands = ap (λ x. slice_get (map entry_of x) (length before)) h.stands ∙ place-of before behind file;
  first = ap (λ x. list_any (λ entry. entry.id == file.id) (take (length before) (map entry_of x))) h.stands ∙ free before behind file h.other;
}

abbrev pub standing_for : Files → FileModule → Standing
standing_for files file = record { download = files.download; block_size = files.block_size; entry = entry_of file; skip = None }

made : ℕ → ℕ → Entry → Option SkipCause → Standing
made download block_size entry skip = record { download = download; block_size = block_size; entry = entry; skip = skip }

same : (s : Standing) (download block_size : ℕ) (entry : Entry) → s.download ≡ download → s.block_size ≡ block_size → s.entry ≡ entry → s.skip ≡ None → s ≡ record { download = download; block_size = block_size; entry = entry; skip = None }
unfolding made
same s download block_size entry d b e k = λ i. made (d i) (b i) (e i) (k i)

pub standing-file : Below → (files : Files) (before behind : List FileModule) (file : FileModule) → IsFile files before file behind → standing_of (Some (dii_of files)) file.id ≡ Some (standing_for files file)
standing-file laws files before behind file h =
    by (standing_of (Some (dii_of files)) file.id) refl (laws.entry (dii_of files) (length before) (entry_of file) (counts-as files before behind file h)) h.unskipped
  where
    by : (o : Option Standing) → standing_of (Some (dii_of files)) file.id ≡ o → option_map (λ standing. standing.entry) o ≡ Some (entry_of file) → option_and_then (λ standing. standing.skip) o ≡ None → o ≡ Some (standing_for files file)
    by None e f k = cc
    by (Some s) e f k =
        let entry : s.entry ≡ entry_of file = cc in
        ap (λ x. Some x) (same s files.download files.block_size (entry_of file) (laws.download (dii_of files) file.id s e) (laws.block_size (dii_of files) file.id s e) entry k)
