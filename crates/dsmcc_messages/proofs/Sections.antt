-- A section's DII or DDB: the relation between bytes and fields, and reading, agree.
use Rattle.std.proofs.Common.{◌≡◌, ◌≢◌, ◌↔◌, ℕ, Bool, true, false, cond, List, [], ◌∷◌, ◌++◌, length, Option, Some, None, Result, Ok, Err, refl, sym, subst, ◌∙◌, append_assoc, arith}
use Rattle.std.specs.Prelude.{ok_or}
use Rattle.std.specs.List.{flat_map}
use Rattle.bml_bytes.specs.Numbers.{big_bytes}
use Rattle.bml_bytes.specs.declared.refusals.TableFault.{TableFault}
use Rattle.bml_bytes.specs.declared.refusals.TableFault.TheVariants.{Kind, Short}
use Rattle.dsmcc_messages.specs.declared.message.MessageKind.{MessageKind}
use Rattle.dsmcc_messages.specs.declared.dii.Dii.{Dii}
use Rattle.table_fields.specs.Sections.{body}
use Rattle.dsmcc_messages.specs.Message.{indication, data_block, IsOfKind, Carries}
use Rattle.dsmcc_messages.specs.Dii.{IsDii, entry_bytes}
use Rattle.dsmcc_messages.specs.Ddb.{DataBlock, IsDdb}
use Rattle.bml_bytes.specs.Fields.{◌>>=◌, FieldLaws}
use Rattle.dsmcc_messages.specs.Reading.{is_of_kind, message_at, fields_in, indication_at, data_block_at, dii_in, ddb_in}
use Rattle.dsmcc_messages.proofs.Headers.{kind_from, kind_is, carries, carries_again}
use Rattle.dsmcc_messages.proofs.Payloads.{Sizes, indication_text, indication_takes, indication_again, block_text, block_takes, block_again}

-- reading by any fields

read_ok : {A : Type 0} (of_kind : Bool) (message : Option (ℕ × List ℕ)) (fields : ℕ × List ℕ → Option A) (a : A) → cond of_kind (ok_or (message >>= fields) Short) (Err Kind) ≡ Ok a
    → (of_kind ≡ true) × (m : ℕ × List ℕ) × (message ≡ Some m) × (fields m ≡ Some a)
read_ok {A} true (Some m) fields a e = (refl, m, refl, of_ok (fields m) e)
  where
    of_ok : {A : Type 0} {a : A} (o : Option A) → ok_or o Short ≡ Ok a → o ≡ Some a
    of_ok None e = absurd cc
    of_ok (Some b) e = cc
read_ok true None fields a e = absurd cc
read_ok false message fields a e = absurd cc

pub fields_ok : {A : Type 0} (kind : MessageKind) (fields : ℕ × List ℕ → Option A) (section : List ℕ) (a : A) → fields_in kind fields section ≡ Ok a
    → (is_of_kind kind section ≡ true) × (m : ℕ × List ℕ) × (message_at (body section) ≡ Some m) × (fields m ≡ Some a)
unfolding fields_in
fields_ok kind fields section a e = read_ok (is_of_kind kind section) (message_at (body section)) fields a e

pub fields_again : {A : Type 0} (kind : MessageKind) (fields : ℕ × List ℕ → Option A) (section : List ℕ) (m : ℕ × List ℕ) (a : A) → is_of_kind kind section ≡ true → message_at (body section) ≡ Some m → fields m ≡ Some a → fields_in kind fields section ≡ Ok a
unfolding fields_in
fields_again kind fields section m a of_kind message e = rw (of_kind, message, e) refl

not_kind : {A : Type 0} (of_kind : Bool) (read : Option A) → cond of_kind (ok_or read Short) (Err Kind) ≡ Err Kind → of_kind ≡ false
not_kind true None e = absurd cc
not_kind true (Some a) e = absurd cc
not_kind false read e = refl

short_kind : {A : Type 0} (of_kind : Bool) (read : Option A) → cond of_kind (ok_or read Short) (Err Kind) ≡ Err Short → of_kind ≡ true
short_kind true read e = refl
short_kind false read e = absurd cc

of_kind_cases : {A : Type 0} (of_kind : Bool) (read : Option A) → (cond of_kind (ok_or read Short) (Err Kind) ≢ Err Kind) → of_kind ≡ true
of_kind_cases true read h = refl
of_kind_cases false read h = absurd (h refl)

pub fields_kind : {A : Type 0} (kind : MessageKind) (fields : ℕ × List ℕ → Option A) (section : List ℕ) → IsOfKind kind section ↔ (fields_in kind fields section ≢ Err Kind)
unfolding fields_in
fields_kind kind fields section =
    (λ is e. let h = kind_from kind section is in let no = not_kind (is_of_kind kind section) (message_at (body section) >>= fields) e in absurd cc, λ h. kind_is kind section (of_kind_cases (is_of_kind kind section) (message_at (body section) >>= fields) h))

pub fields_short : {A : Type 0} (kind : MessageKind) (fields : ℕ × List ℕ → Option A) (section : List ℕ) → fields_in kind fields section ≡ Err Short → IsOfKind kind section
unfolding fields_in
fields_short kind fields section e = kind_is kind section (short_kind (is_of_kind kind section) (message_at (body section) >>= fields) e)

-- a DDB

pub ddb_takes : (laws : FieldLaws) (section : List ℕ) (ddb : DataBlock) → ddb_in section ≡ Ok ddb → IsDdb section ddb
ddb_takes laws section ddb e =
    let read = fields_ok data_block data_block_at section ddb e in
    let header = carries laws data_block section read.1 read.0 read.2 in
    let is = block_takes laws read.1 ddb read.3 in
    record {
      reserved = is.reserved;
      module_fits = is.module_fits;
      number_fits = is.number_fits;
      carried = subst (λ (text : List ℕ). Carries data_block section ddb.download text) is.written (subst (λ (n : ℕ). Carries data_block section n read.1.1) is.download header);
    }

pub ddb_again : (laws : FieldLaws) (section : List ℕ) (ddb : DataBlock) → IsDdb section ddb → ddb_in section ≡ Ok ddb
ddb_again laws section ddb is =
    let text : List ℕ = block_text is.reserved ddb in
    let header = carries_again laws data_block section ddb.download text is.carried in
    fields_again data_block data_block_at section (ddb.download, text) ddb header.0 header.1
    (block_again laws (ddb.download, text) ddb (record { reserved = is.reserved; download = refl; module_fits = is.module_fits; number_fits = is.number_fits; written = refl }))

-- a DII

abbrev pub dii_text : ℕ → ℕ → ℕ → ℕ → List ℕ → List ℕ → Dii → List ℕ
dii_text window_size ack_period download_window download_scenario compatibility private_data dii =
    big_bytes 4 dii.download ++ big_bytes 2 dii.block_size ++ window_size ∷ ack_period ∷ [] ++ big_bytes 4 download_window ++ big_bytes 4 download_scenario ++ big_bytes 2 (length compatibility) ++ compatibility
    ++ big_bytes 2 (length dii.entries) ++ flat_map entry_bytes dii.entries ++ big_bytes 2 (length private_data) ++ private_data

same_text : (sizes : Sizes) (dii : Dii) (private_data : List ℕ) → sizes.download ≡ dii.download → sizes.block_size ≡ dii.block_size
    → indication_text sizes dii.entries private_data ≡ dii_text sizes.window_size sizes.ack_period sizes.download_window sizes.download_scenario sizes.compatibility private_data dii
same_text sizes dii private_data d b = rw (d, b) (simp append_assoc)

pub dii_takes : (laws : FieldLaws) (section : List ℕ) (dii : Dii) → dii_in section ≡ Ok dii → IsDii section dii
dii_takes laws section dii e =
    let read = fields_ok indication indication_at section dii e in
    let header = carries laws indication section read.1 read.0 read.2 in
    let is = indication_takes laws read.1 dii read.3 in
    let text : read.1.1 ≡ dii_text is.sizes.window_size is.sizes.ack_period is.sizes.download_window is.sizes.download_scenario is.sizes.compatibility is.private_data dii =
    is.written ∙ same_text is.sizes dii is.private_data is.download is.block_size in
    record {
      window_size = is.sizes.window_size;
      ack_period = is.sizes.ack_period;
      download_window = is.sizes.download_window;
      download_scenario = is.sizes.download_scenario;
      compatibility = is.sizes.compatibility;
      private_data = is.private_data;
      download_fits = omega (arith, is.sizes_fit.download, is.download);
      block_size_fits = omega (arith, is.sizes_fit.block_size, is.block_size);
      download_window_fits = is.sizes_fit.download_window;
      download_scenario_fits = is.sizes_fit.download_scenario;
      compatibility_fits = is.sizes_fit.compatibility;
      modules_fit = is.modules_fit;
      entries_fit = is.entries_fit;
      private_data_fits = is.private_data_fits;
      carried = subst (λ (text : List ℕ). Carries indication section dii.transaction text) text (subst (λ (n : ℕ). Carries indication section n read.1.1) is.transaction header);
    }

pub dii_again : (laws : FieldLaws) (section : List ℕ) (dii : Dii) → IsDii section dii → dii_in section ≡ Ok dii
dii_again laws section dii is =
    let text : List ℕ = dii_text is.window_size is.ack_period is.download_window is.download_scenario is.compatibility is.private_data dii in
    let sizes : Sizes = record {
      download = dii.download;
      block_size = dii.block_size;
      window_size = is.window_size;
      ack_period = is.ack_period;
      download_window = is.download_window;
      download_scenario = is.download_scenario;
      compatibility = is.compatibility;
    } in
    let header = carries_again laws indication section dii.transaction text is.carried in
    fields_again indication indication_at section (dii.transaction, text) dii header.0 header.1
    (indication_again laws (dii.transaction, text) dii
    (record {
      sizes = sizes;
      private_data = is.private_data;
      transaction = refl;
      download = refl;
      block_size = refl;
      sizes_fit = record { download = is.download_fits; block_size = is.block_size_fits; download_window = is.download_window_fits; download_scenario = is.download_scenario_fits; compatibility = is.compatibility_fits };
      modules_fit = is.modules_fit;
      entries_fit = is.entries_fit;
      private_data_fits = is.private_data_fits;
      written = sym (same_text sizes dii is.private_data refl refl);
    }))

-- what the laws say

pub one_dii : (laws : FieldLaws) (section : List ℕ) (dii other : Dii) → IsDii section dii → IsDii section other → dii ≡ other
one_dii laws section dii other is too = same_ok (dii_in section) (dii_again laws section dii is) (dii_again laws section other too)
  where
    same_ok : {dii other : Dii} (read : Result Dii TableFault) → read ≡ Ok dii → read ≡ Ok other → dii ≡ other
    same_ok read e f = cc

pub one_ddb : (laws : FieldLaws) (section : List ℕ) (ddb other : DataBlock) → IsDdb section ddb → IsDdb section other → ddb ≡ other
one_ddb laws section ddb other is too = same_ok (ddb_in section) (ddb_again laws section ddb is) (ddb_again laws section other too)
  where
    same_ok : {ddb other : DataBlock} (read : Result DataBlock TableFault) → read ≡ Ok ddb → read ≡ Ok other → ddb ≡ other
    same_ok read e f = cc

-- a refusal and a value
pub not_both : {A : Type 0} (read : Result A TableFault) (a : A) (fault : TableFault) → read ≡ Ok a → read ≡ Err fault → ⊥
not_both read a fault e f = cc
