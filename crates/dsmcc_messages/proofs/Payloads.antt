-- The payloads of a DII and of a DDB: what is read is what stands there, and what was written is read again.
use Rattle.std.proofs.Common.{◌≡◌, ℕ, ◌^◌, ◌<◌, Bool, true, false, cond, eqb, List, [], ◌∷◌, ◌++◌, length, Option, Some, None, refl, sym, ap, subst, ◌∙◌, append_assoc, arith}
use Rattle.std.specs.List.{All, flat_map}
use Rattle.std.proofs.lemmas.Bool.{eqb-true}
use Rattle.std.proofs.lemmas.List.{append-nil, nil_from_length}
use Rattle.std.proofs.lemmas.Option.{same_Some}
use Rattle.bml_bytes.specs.Numbers.{big_bytes}
use Rattle.dsmcc_messages.specs.declared.entry.Entry.{Entry}
use Rattle.dsmcc_messages.specs.declared.dii.Dii.{Dii}
use Rattle.dsmcc_messages.specs.Dii.{entry_bytes, EntryFits}
use Rattle.dsmcc_messages.specs.Ddb.{DataBlock}
use Rattle.bml_bytes.specs.Fields.{FieldLaws, ◌>>=◌, byte_at, number_at}
use Rattle.dsmcc_messages.specs.Reading.{long_bytes_at, modules_at, sizes_at, indication_at, data_block_at}
use Rattle.dsmcc_messages.proofs.Fields.{one_text, bind_some, long_bytes_take, long_bytes_again}
use Rattle.dsmcc_messages.proofs.Modules.{modules_take, modules_again}

-- a DDB's payload

abbrev block_of : ℕ → ℕ → ℕ → ℕ × List ℕ → Option DataBlock
block_of download number version place = Some (record { download = download; «module» = number; version = version; number = place.0; block = place.1 })

abbrev behind_reserved : ℕ → ℕ → ℕ → ℕ × List ℕ → Option DataBlock
behind_reserved download number version reserved = number_at 2 reserved.1 >>= block_of download number version

abbrev behind_version : ℕ → ℕ → ℕ × List ℕ → Option DataBlock
behind_version download number version = byte_at version.1 >>= behind_reserved download number version.0

abbrev behind_module : ℕ → ℕ × List ℕ → Option DataBlock
behind_module download number = byte_at number.1 >>= behind_version download number.0

abbrev pub block_text : ℕ → DataBlock → List ℕ
block_text reserved ddb = big_bytes 2 ddb.module ++ ddb.version ∷ reserved ∷ [] ++ big_bytes 2 ddb.number ++ ddb.block

pub record IsBlock (message : ℕ × List ℕ) (ddb : DataBlock) : Type 0 where
  pub reserved : ℕ
  pub download : message.0 ≡ ddb.download
  pub module_fits : ddb.module < 2 ^ 16
  pub number_fits : ddb.number < 2 ^ 16
  pub written : message.1 ≡ block_text reserved ddb

pub block_takes : (laws : FieldLaws) (message : ℕ × List ℕ) (ddb : DataBlock) → data_block_at message ≡ Some ddb → IsBlock message ddb
unfolding data_block_at
block_takes laws message ddb e =
    let number = bind_some (number_at 2 message.1) (behind_module message.0) ddb e in
    let version = bind_some (byte_at number.0.1) (behind_version message.0 number.0.0) ddb number.2 in
    let reserved = bind_some (byte_at version.0.1) (behind_reserved message.0 number.0.0 version.0.0) ddb version.2 in
    let place = bind_some (number_at 2 reserved.0.1) (block_of message.0 number.0.0 version.0.0) ddb reserved.2 in
    let t0 = laws.number 2 message.1 number.0 number.1 in
    let t1 = laws.byte number.0.1 version.0 version.1 in
    let t2 = laws.byte version.0.1 reserved.0 reserved.1 in
    let t3 = laws.number 2 reserved.0.1 place.0 place.1 in
    let pair = one_text number.0.1 (version.0.0 ∷ []) version.0.1 (reserved.0.0 ∷ []) reserved.0.1 t1 t2 in
    let front = one_text message.1 (big_bytes 2 number.0.0) number.0.1 (version.0.0 ∷ reserved.0.0 ∷ []) reserved.0.1 t0.0 pair in
    let whole = one_text message.1 (big_bytes 2 number.0.0 ++ version.0.0 ∷ reserved.0.0 ∷ []) reserved.0.1 (big_bytes 2 place.0.0) place.0.1 front t3.0 in
    let made : DataBlock = record { download = message.0; «module» = number.0.0; version = version.0.0; number = place.0.0; block = place.0.1 } in
    subst (IsBlock message) (same_Some made ddb place.2)
    (record { reserved = reserved.0.0; download = refl; module_fits = omega (arith, t0.1); number_fits = omega (arith, t3.1); written = whole })

pub block_again : (laws : FieldLaws) (message : ℕ × List ℕ) (ddb : DataBlock) → IsBlock message ddb → data_block_at message ≡ Some ddb
unfolding data_block_at
block_again laws message ddb is =
    let regrouped : block_text is.reserved ddb ≡ big_bytes 2 ddb.module ++ (ddb.version ∷ is.reserved ∷ (big_bytes 2 ddb.number ++ ddb.block)) = simp append_assoc in
    let whole : message ≡ (ddb.download, big_bytes 2 ddb.module ++ (ddb.version ∷ is.reserved ∷ (big_bytes 2 ddb.number ++ ddb.block))) = rw (← is.download, ← regrouped, ← is.written) refl in
    ap data_block_at whole
    ∙ rw (laws.number_again 2 ddb.module (ddb.version ∷ is.reserved ∷ (big_bytes 2 ddb.number ++ ddb.block)) (omega (arith, is.module_fits)), laws.number_again 2 ddb.number ddb.block (omega (arith, is.number_fits))) refl

-- what a DII's payload has in front of its entries

pub record Sizes : Type 0 where
  pub download : ℕ
  pub block_size : ℕ
  pub window_size : ℕ
  pub ack_period : ℕ
  pub download_window : ℕ
  pub download_scenario : ℕ
  pub compatibility : List ℕ

abbrev pub sizes_text : Sizes → List ℕ
sizes_text s =
    big_bytes 4 s.download ++ big_bytes 2 s.block_size ++ s.window_size ∷ s.ack_period ∷ [] ++ big_bytes 4 s.download_window ++ big_bytes 4 s.download_scenario
    ++ (big_bytes 2 (length s.compatibility) ++ s.compatibility)

pub record SizesFit (s : Sizes) : Type 0 where
  pub download : s.download < 2 ^ 32
  pub block_size : s.block_size < 2 ^ 16
  pub download_window : s.download_window < 2 ^ 32
  pub download_scenario : s.download_scenario < 2 ^ 32
  pub compatibility : length s.compatibility < 2 ^ 16

pub record AreSizes (bytes : List ℕ) (x : (ℕ × ℕ) × List ℕ) : Type 0 where
  pub sizes : Sizes
  pub fits : SizesFit sizes
  pub values : x.0 ≡ (sizes.download, sizes.block_size)
  pub takes : bytes ≡ sizes_text sizes ++ x.1

abbrev behind_scenario : ℕ → ℕ → ℕ × List ℕ → Option ((ℕ × ℕ) × List ℕ)
behind_scenario download size scenario = long_bytes_at scenario.1 >>= λ compatibility. Some ((download, size), compatibility.1)

abbrev behind_window : ℕ → ℕ → ℕ × List ℕ → Option ((ℕ × ℕ) × List ℕ)
behind_window download size window = number_at 4 window.1 >>= behind_scenario download size

abbrev behind_ack : ℕ → ℕ → ℕ × List ℕ → Option ((ℕ × ℕ) × List ℕ)
behind_ack download size ack = number_at 4 ack.1 >>= behind_window download size

abbrev behind_window_size : ℕ → ℕ → ℕ × List ℕ → Option ((ℕ × ℕ) × List ℕ)
behind_window_size download size window_size = byte_at window_size.1 >>= behind_ack download size

abbrev behind_size : ℕ → ℕ × List ℕ → Option ((ℕ × ℕ) × List ℕ)
behind_size download size = byte_at size.1 >>= behind_window_size download size.0

abbrev behind_download : ℕ × List ℕ → Option ((ℕ × ℕ) × List ℕ)
behind_download download = number_at 2 download.1 >>= behind_size download.0

pub sizes_take : (laws : FieldLaws) (bytes : List ℕ) (x : (ℕ × ℕ) × List ℕ) → sizes_at bytes ≡ Some x → AreSizes bytes x
unfolding sizes_at
sizes_take laws bytes x e =
    let a = bind_some (number_at 4 bytes) behind_download x e in
    let b = bind_some (number_at 2 a.0.1) (behind_size a.0.0) x a.2 in
    let c = bind_some (byte_at b.0.1) (behind_window_size a.0.0 b.0.0) x b.2 in
    let d = bind_some (byte_at c.0.1) (behind_ack a.0.0 b.0.0) x c.2 in
    let f = bind_some (number_at 4 d.0.1) (behind_window a.0.0 b.0.0) x d.2 in
    let g = bind_some (number_at 4 f.0.1) (behind_scenario a.0.0 b.0.0) x f.2 in
    let h = bind_some (long_bytes_at g.0.1) (λ (compatibility : List ℕ × List ℕ). Some ((a.0.0, b.0.0), compatibility.1)) x g.2 in
    let ta = laws.number 4 bytes a.0 a.1 in
    let tb = laws.number 2 a.0.1 b.0 b.1 in
    let tc = laws.byte b.0.1 c.0 c.1 in
    let td = laws.byte c.0.1 d.0 d.1 in
    let tf = laws.number 4 d.0.1 f.0 f.1 in
    let tg = laws.number 4 f.0.1 g.0 g.1 in
    let th = long_bytes_take laws g.0.1 h.0 h.1 in
    let s : Sizes = record { download = a.0.0; block_size = b.0.0; window_size = c.0.0; ack_period = d.0.0; download_window = f.0.0; download_scenario = g.0.0; compatibility = h.0.0 } in
    let t1 = one_text bytes (big_bytes 4 s.download) a.0.1 (big_bytes 2 s.block_size) b.0.1 ta.0 tb.0 in
    let pair = one_text b.0.1 (s.window_size ∷ []) c.0.1 (s.ack_period ∷ []) d.0.1 tc td in
    let t2 = one_text bytes (big_bytes 4 s.download ++ big_bytes 2 s.block_size) b.0.1 (s.window_size ∷ s.ack_period ∷ []) d.0.1 t1 pair in
    let t3 = one_text bytes (big_bytes 4 s.download ++ big_bytes 2 s.block_size ++ s.window_size ∷ s.ack_period ∷ []) d.0.1 (big_bytes 4 s.download_window) f.0.1 t2 tf.0 in
    let t4 = one_text bytes (big_bytes 4 s.download ++ big_bytes 2 s.block_size ++ s.window_size ∷ s.ack_period ∷ [] ++ big_bytes 4 s.download_window) f.0.1 (big_bytes 4 s.download_scenario) g.0.1 t3 tg.0 in
    let t5 = one_text bytes (big_bytes 4 s.download ++ big_bytes 2 s.block_size ++ s.window_size ∷ s.ack_period ∷ [] ++ big_bytes 4 s.download_window ++ big_bytes 4 s.download_scenario) g.0.1 (big_bytes 2 (length s.compatibility) ++ s.compatibility) h.0.1 t4 th.0 in
    subst (AreSizes bytes) (same_Some ((a.0.0, b.0.0), h.0.1) x h.2)
    (record {
      sizes = s;
      fits = record { download = omega (arith, ta.1); block_size = omega (arith, tb.1); download_window = omega (arith, tf.1); download_scenario = omega (arith, tg.1); compatibility = th.1 };
      values = refl;
      takes = t5;
    })

pub sizes_again : (laws : FieldLaws) (s : Sizes) (rest : List ℕ) → SizesFit s → sizes_at (sizes_text s ++ rest) ≡ Some ((s.download, s.block_size), rest)
unfolding sizes_at
sizes_again laws s rest fits =
    let t6 : List ℕ = big_bytes 2 (length s.compatibility) ++ (s.compatibility ++ rest) in
    let t5 : List ℕ = big_bytes 4 s.download_scenario ++ t6 in
    let t4 : List ℕ = big_bytes 4 s.download_window ++ t5 in
    let t3 : List ℕ = s.window_size ∷ s.ack_period ∷ t4 in
    let t2 : List ℕ = big_bytes 2 s.block_size ++ t3 in
    let regrouped : sizes_text s ++ rest ≡ big_bytes 4 s.download ++ t2 = simp append_assoc in
    ap sizes_at regrouped
    ∙ rw (laws.number_again 4 s.download t2 (omega (arith, fits.download)), laws.number_again 2 s.block_size t3 (omega (arith, fits.block_size)), laws.number_again 4 s.download_window t5 (omega (arith, fits.download_window)), laws.number_again 4 s.download_scenario t6 (omega (arith, fits.download_scenario)), long_bytes_again laws s.compatibility rest fits.compatibility) refl

-- a DII's payload

abbrev pub indication_text : Sizes → List Entry → List ℕ → List ℕ
indication_text sizes entries private_data =
    sizes_text sizes ++ (big_bytes 2 (length entries) ++ flat_map entry_bytes entries) ++ (big_bytes 2 (length private_data) ++ private_data)

pub record IsIndication (message : ℕ × List ℕ) (dii : Dii) : Type 0 where
  pub sizes : Sizes
  pub private_data : List ℕ
  pub transaction : message.0 ≡ dii.transaction
  pub download : sizes.download ≡ dii.download
  pub block_size : sizes.block_size ≡ dii.block_size
  pub sizes_fit : SizesFit sizes
  pub modules_fit : length dii.entries < 2 ^ 16
  pub entries_fit : All EntryFits dii.entries
  pub private_data_fits : length private_data < 2 ^ 16
  pub written : message.1 ≡ indication_text sizes dii.entries private_data

abbrev dii_of : ℕ → ℕ × ℕ → List Entry → Dii
dii_of transaction sizes entries = record { transaction = transaction; download = sizes.0; block_size = sizes.1; entries = entries }

abbrev at_the_end : ℕ → ℕ × ℕ → List Entry → List ℕ × List ℕ → Option Dii
at_the_end transaction sizes entries private_data = cond (eqb (length private_data.1) 0) (Some (dii_of transaction sizes entries)) None

abbrev behind_modules : ℕ → ℕ × ℕ → List Entry × List ℕ → Option Dii
behind_modules transaction sizes entries = long_bytes_at entries.1 >>= at_the_end transaction sizes entries.0

abbrev behind_sizes : ℕ → (ℕ × ℕ) × List ℕ → Option Dii
behind_sizes transaction sizes = modules_at sizes.1 >>= behind_modules transaction sizes.0

passed : {A : Type 0} (test : Bool) (x y : A) → cond test (Some x) None ≡ Some y → (test ≡ true) × (x ≡ y)
passed true x y e = (refl, cc)
passed false x y e = absurd cc

pub indication_takes : (laws : FieldLaws) (message : ℕ × List ℕ) (dii : Dii) → indication_at message ≡ Some dii → IsIndication message dii
unfolding indication_at
indication_takes laws message dii e =
    let a = bind_some (sizes_at message.1) (behind_sizes message.0) dii e in
    let b = bind_some (modules_at a.0.1) (behind_modules message.0 a.0.0) dii a.2 in
    let c = bind_some (long_bytes_at b.0.1) (at_the_end message.0 a.0.0 b.0.0) dii b.2 in
    let g = passed (eqb (length c.0.1) 0) (dii_of message.0 a.0.0 b.0.0) dii c.2 in
    let nothing : c.0.1 ≡ [] = nil_from_length c.0.1 (eqb-true _ _ g.0) in
    let ta = sizes_take laws message.1 a.0 a.1 in
    let tb = modules_take laws a.0.1 b.0 b.1 in
    let tc = long_bytes_take laws b.0.1 c.0 c.1 in
    let front = one_text message.1 (sizes_text ta.sizes) a.0.1 (big_bytes 2 (length b.0.0) ++ flat_map entry_bytes b.0.0) b.0.1 ta.takes tb.0 in
    let whole = one_text message.1 (sizes_text ta.sizes ++ (big_bytes 2 (length b.0.0) ++ flat_map entry_bytes b.0.0)) b.0.1 (big_bytes 2 (length c.0.0) ++ c.0.0) c.0.1 front tc.0 in
    let text : List ℕ = indication_text ta.sizes b.0.0 c.0.0 in
    subst (IsIndication message) g.1
    (record {
      sizes = ta.sizes;
      private_data = c.0.0;
      transaction = refl;
      download = sym (ap (λ (p : ℕ × ℕ). p.0) ta.values);
      block_size = sym (ap (λ (p : ℕ × ℕ). p.1) ta.values);
      sizes_fit = ta.fits;
      modules_fit = tb.1;
      entries_fit = tb.2;
      private_data_fits = tc.1;
      written = whole ∙ ap (λ (rest : List ℕ). text ++ rest) nothing ∙ append-nil text;
    })

pub indication_again : (laws : FieldLaws) (message : ℕ × List ℕ) (dii : Dii) → IsIndication message dii → indication_at message ≡ Some dii
unfolding indication_at
indication_again laws message dii is =
    let t2 : List ℕ = big_bytes 2 (length is.private_data) ++ (is.private_data ++ []) in
    let t1 : List ℕ = big_bytes 2 (length dii.entries) ++ (flat_map entry_bytes dii.entries ++ t2) in
    let regrouped : indication_text is.sizes dii.entries is.private_data ≡ sizes_text is.sizes ++ t1 = simp (append_assoc, append-nil) in
    let whole : message ≡ (dii.transaction, sizes_text is.sizes ++ t1) = rw (← is.transaction, ← regrouped, ← is.written) refl in
    ap indication_at whole
    ∙ rw (sizes_again laws is.sizes t1 is.sizes_fit, modules_again laws dii.entries t2 is.modules_fit is.entries_fit, long_bytes_again laws is.private_data [] is.private_data_fits, is.download, is.block_size) refl
