-- A section's PAT or PMT: the relation between bytes and fields, and reading, agree.
use Rattle.std.proofs.Common.{◌≡◌, ◌≢◌, ◌↔◌, ℕ, ◌<◌, ◌^◌, Bool, true, false, cond, List, ◌++◌, take, drop, Option, Some, None, Result, Ok, Err, refl, sym, ap, subst, ◌∙◌, arith}
use Rattle.std.specs.Prelude.{ok_or, option_map}
use Rattle.std.proofs.lemmas.Bool.{eqb-true, eq-eqb, and_parts, and_from}
use Rattle.std.proofs.lemmas.List.{take_at, take-append-drop}
use Rattle.std.proofs.lemmas.Option.{same_Some}
use Rattle.bml_bytes.specs.Fields.{FieldLaws, number_at}
use Rattle.bml_bytes.specs.Numbers.{big_bytes}
use Rattle.bml_bytes.specs.declared.refusals.TableFault.{TableFault}
use Rattle.bml_bytes.specs.declared.refusals.TableFault.TheVariants.{Kind, Short}
use Rattle.psi_tables.specs.declared.pat.PatEntry.{PatEntry}
use Rattle.psi_tables.specs.declared.pmt.PmtStream.{PmtStream}
use Rattle.psi_tables.specs.declared.pmt.Pmt.{Pmt}
use Rattle.table_fields.specs.Sections.{body}
use Rattle.psi_tables.specs.Table.{association_table, map_table, extension, IsOfTable}
use Rattle.psi_tables.specs.Pat.{IsPat, IsPatEntry}
use Rattle.psi_tables.specs.Pmt.{IsPmt}
use Rattle.psi_tables.specs.Reading.{is_of_table, table_in, items_in, entry_at, streams_in, program_map, program_number, map_with_number, pat_in, pmt_in}
use Rattle.psi_tables.proofs.Fields.{StreamLaws, bind_with}
use Rattle.psi_tables.proofs.Items.{items_laid, items_again}
use Rattle.psi_tables.proofs.Entries.{entry_laws}
use Rattle.psi_tables.proofs.StreamFields.{IsBody, body_takes, body_again}

pub table_is : (table_id : ℕ) (section : List ℕ) → is_of_table table_id section ≡ true → IsOfTable table_id section
table_is table_id section h =
    let parts = and_parts _ _ h in
    let more = and_parts _ _ parts.1 in
    record { table = eqb-true _ _ parts.0; current = eqb-true _ _ more.0; first = eqb-true _ _ more.1 }

pub table_from : (table_id : ℕ) (section : List ℕ) → IsOfTable table_id section → is_of_table table_id section ≡ true
table_from table_id section is = and_from _ _ (eq-eqb _ _ is.table) (and_from _ _ (eq-eqb _ _ is.current) (eq-eqb _ _ is.first))

-- reading by any fields

read_ok : {A : Type 0} (of_table : Bool) (read : Option A) (a : A) → cond of_table (ok_or read Short) (Err Kind) ≡ Ok a → (of_table ≡ true) × (read ≡ Some a)
read_ok true None a e = absurd cc
read_ok {A} true (Some b) a e = (refl, same b a e)
  where
    same : {A : Type 0} (b a : A) → ok_or (Some b) Short ≡ Ok a → Some b ≡ Some a
    same b a e = cc
read_ok false read a e = absurd cc

pub fields_ok : {A : Type 0} (table_id : ℕ) (fields : List ℕ → Option A) (section : List ℕ) (a : A) → table_in table_id fields section ≡ Ok a → (is_of_table table_id section ≡ true) × (fields (body section) ≡ Some a)
unfolding table_in
fields_ok table_id fields section a e = read_ok (is_of_table table_id section) (fields (body section)) a e

pub fields_again : {A : Type 0} (table_id : ℕ) (fields : List ℕ → Option A) (section : List ℕ) (a : A) → is_of_table table_id section ≡ true → fields (body section) ≡ Some a → table_in table_id fields section ≡ Ok a
unfolding table_in
fields_again table_id fields section a of_table e = rw (of_table, e) refl

not_kind : {A : Type 0} (of_table : Bool) (read : Option A) → cond of_table (ok_or read Short) (Err Kind) ≡ Err Kind → of_table ≡ false
not_kind true None e = absurd cc
not_kind true (Some a) e = absurd cc
not_kind false read e = refl

short_kind : {A : Type 0} (of_table : Bool) (read : Option A) → cond of_table (ok_or read Short) (Err Kind) ≡ Err Short → of_table ≡ true
short_kind true read e = refl
short_kind false read e = absurd cc

table_cases : {A : Type 0} (of_table : Bool) (read : Option A) → (cond of_table (ok_or read Short) (Err Kind) ≢ Err Kind) → of_table ≡ true
table_cases true read h = refl
table_cases false read h = absurd (h refl)

pub fields_kind : {A : Type 0} (table_id : ℕ) (fields : List ℕ → Option A) (section : List ℕ) → IsOfTable table_id section ↔ (table_in table_id fields section ≢ Err Kind)
unfolding table_in
fields_kind table_id fields section =
    (λ is e. let h = table_from table_id section is in let no = not_kind (is_of_table table_id section) (fields (body section)) e in absurd cc, λ h. table_is table_id section (table_cases (is_of_table table_id section) (fields (body section)) h))

pub fields_short : {A : Type 0} (table_id : ℕ) (fields : List ℕ → Option A) (section : List ℕ) → table_in table_id fields section ≡ Err Short → IsOfTable table_id section
unfolding table_in
fields_short table_id fields section e = table_is table_id section (short_kind (is_of_table table_id section) (fields (body section)) e)

-- a PAT

pub pat_takes : (laws : FieldLaws) (section : List ℕ) (entries : List PatEntry) → pat_in section ≡ Ok entries → IsPat section entries
pat_takes laws section entries e =
    let read = fields_ok association_table (items_in entry_at) section entries e in
    record { of_table = table_is association_table section read.0; laid = items_laid entry_at IsPatEntry (entry_laws laws) (body section) entries read.1 }

pub pat_again : (laws : FieldLaws) (section : List ℕ) (entries : List PatEntry) → IsPat section entries → pat_in section ≡ Ok entries
pat_again laws section entries is =
    fields_again association_table (items_in entry_at) section entries (table_from association_table section is.of_table) (items_again entry_at IsPatEntry (entry_laws laws) (body section) entries is.laid)

-- a PMT

named : (program : ℕ) (read : Option (List PmtStream)) (pmt : Pmt) → option_map (λ (streams : List PmtStream). record { program = program; streams = streams }) read ≡ Some pmt → (read ≡ Some pmt.streams) × (program ≡ pmt.program)
named program None pmt e = absurd cc
named program (Some streams) pmt e =
    let made : Pmt = record { program = program; streams = streams } in
    let is : made ≡ pmt = same_Some made pmt e in
    (ap (λ (p : Pmt). Some p.streams) is, ap (λ (p : Pmt). p.program) is)

-- program_number

number_read : (read : Option (ℕ × List ℕ)) (program : ℕ) → option_map (λ (number : ℕ × List ℕ). number.0) read ≡ Some program → (x : ℕ × List ℕ) × (read ≡ Some x) × (x.0 ≡ program)
number_read None program e = absurd cc
number_read (Some x) program e = (x, refl, same_Some x.0 program e)

number_takes : (laws : FieldLaws) (section : List ℕ) (program : ℕ) → program_number section ≡ Some program → (extension section ≡ big_bytes 2 program) × (program < 256 ^ 2)
unfolding program_number
number_takes laws section program e =
    let read = number_read (number_at 2 (drop 3 section)) program e in
    let t = laws.number 2 (drop 3 section) read.0 read.1 in
    subst (λ (n : ℕ). (extension section ≡ big_bytes 2 n) × (n < 256 ^ 2)) read.2
    (ap (take 2) t.0 ∙ take_at (big_bytes 2 read.0.0) read.0.1 2 (laws.number_bytes 2 read.0.0), t.1)

number_again : (laws : FieldLaws) (section : List ℕ) (program : ℕ) → program < 256 ^ 2 → extension section ≡ big_bytes 2 program → program_number section ≡ Some program
unfolding program_number
number_again laws section program fits e =
    let whole : drop 3 section ≡ big_bytes 2 program ++ drop 2 (drop 3 section) = sym (take-append-drop 2 (drop 3 section)) ∙ ap (λ (front : List ℕ). front ++ drop 2 (drop 3 section)) e in
    ap (λ (bytes : List ℕ). option_map (λ (number : ℕ × List ℕ). number.0) (number_at 2 bytes)) whole
    ∙ ap (option_map (λ (number : ℕ × List ℕ). number.0)) (laws.number_again 2 program (drop 2 (drop 3 section)) fits)

pub pmt_takes : (laws : StreamLaws) (section : List ℕ) (pmt : Pmt) → pmt_in section ≡ Ok pmt → IsPmt section pmt
unfolding program_map
pmt_takes laws section pmt e =
    let read = fields_ok map_table (map_with_number section) section pmt e in
    bind_with (program_number section) (λ (program : ℕ). program_map program (body section)) pmt read.1 (λ program program-is e0.
    let parts = named program (streams_in (body section)) pmt e0 in
    let is = body_takes laws (body section) pmt.streams parts.0 in
    let number = number_takes laws.fields section program program-is in
    record {
      pcr_pid = is.pcr_pid;
      pcr_bytes = is.pcr_bytes;
      info = is.info;
      descriptors = is.descriptors;
      streams = is.streams;
      of_table = table_is map_table section read.0;
      program_fits = omega (arith, number.1, parts.1);
      program_written = number.0 ∙ ap (big_bytes 2) parts.1;
      pcr_written = is.pcr_written;
      info_written = is.info_written;
      laid = is.laid;
      written = is.written;
    })

pub pmt_again : (laws : StreamLaws) (section : List ℕ) (pmt : Pmt) → IsPmt section pmt → pmt_in section ≡ Ok pmt
unfolding program_map
pmt_again laws section pmt is =
    let number = number_again laws.fields section pmt.program (omega (arith, is.program_fits)) is.program_written in
    let front : IsBody (body section) pmt.streams = record { pcr_pid = is.pcr_pid; pcr_bytes = is.pcr_bytes; info = is.info; descriptors = is.descriptors; streams = is.streams; pcr_written = is.pcr_written; info_written = is.info_written; laid = is.laid; written = is.written } in
    let read : map_with_number section (body section) ≡ Some pmt = rw (number, body_again laws (body section) pmt.streams front) refl in
    fields_again map_table (map_with_number section) section pmt (table_from map_table section is.of_table) read

-- an answer is one

pub same_ok : {A : Type 0} (a b : A) (read : Result A TableFault) → read ≡ Ok a → read ≡ Ok b → a ≡ b
same_ok a b read e f = cc

pub not_both : {A : Type 0} (read : Result A TableFault) (a : A) (fault : TableFault) → read ≡ Ok a → read ≡ Err fault → ⊥
not_both read a fault e f = cc
