-- Laws of a block that is staged: what it makes whole.
use Rattle.std.proofs.Common.{◌≡◌, ℕ, zero, suc, ◌==◌, nat_eq, Bool, true, false, ◌&&◌, List, [], ◌∷◌, ◌++◌, refl, sym, ap, ap₂, ◌∙◌, arith, if◌then◌else◌}
use Rattle.std.specs.Prelude.{Option, Some, None, Result, Ok, Err, option_map, option_and_then, slice_get, slice_set, slice_index, slice_index_or}
use Rattle.std.specs.HashMap.{HashMap, get as value_at}
use Rattle.std.specs.Option.{ok_or}
use Rattle.slab.specs.Slab.{get, with_value}
use Rattle.bml_bytes.specs.declared.refusals.TableFault.{TableFault}
use Rattle.bml_bytes.specs.declared.refusals.TableFault.TheVariants.{Kind, Short}
use Rattle.bml_bytes.specs.Fields.{◌>>=◌}
use Rattle.table_fields.specs.Sections.{body}
use Rattle.dsmcc_messages.specs.Message.{indication, data_block, kind_bytes}
use Rattle.dsmcc_messages.specs.declared.dii.Dii.{Dii}
use Rattle.dsmcc_messages.specs.Ddb.{DataBlock}
use Rattle.dsmcc_messages.specs.Reading.{agree, message_at, indication_at, data_block_at, fields_in, dii_in, ddb_in}
use Rattle.carousel_blocks.specs.declared.put.Put.TheVariants as puts
use Rattle.carousel_blocks.specs.declared.modules.Module.{Module}
use Rattle.carousel_blocks.specs.Message.{Message, Data, message_with, message_of}
use Rattle.carousel_blocks.specs.Held.{Kept, kept_module, is_asked, joined_bytes, bytes_by, bytes_kept, bytes_held}
use Rattle.carousel_blocks.specs.Buffers.{BufferState, is_missing, all_came}
use Rattle.carousel_blocks.specs.Modules.{Buffers, blocks_of, blocks_at, module_kept, kept_at}
use Rattle.carousel_blocks.specs.Steps.{is_wanted, with_block, answer_to, whole_to}
use Rattle.carousel_blocks.specs.Carousel.{put_after}
use Rattle.carousel_blocks.specs.Staging.{whole_by, whole_with, made_whole}
use Rattle.carousel_blocks.proofs.BufferLaws.{joined_none}
use Rattle.carousel_blocks.proofs.PutLaws.{asks}
use Rattle.carousel_blocks.proofs.HistoryLaws.{kept_module-data, answer-put}
use Rattle.carousel_blocks.proofs.ToldLaws.{unskipped}

-- ---- the buffer that the block goes into

same_slots : {T : Type 0} (slots : List (Option T)) (key : ℕ) (value : T) → Some value ≡ slice_index_or slots key None → slice_set slots key (Some value) ≡ slots
same_slots [] key value h = cc
same_slots (slot ∷ slots) zero value h = ap (λ x. x ∷ slots) h
same_slots (slot ∷ slots) (suc key) value h = ap (λ x. slot ∷ x) (same_slots slots key value h)

-- a slab in which a buffer is the same as before is the same
pub same_slab : (buffers : Buffers) (key : ℕ) (was now : BufferState) → Some was ≡ get buffers key → now ≡ was → with_value buffers key now ≡ buffers
same_slab buffers key was now h same =
    ap (with_value buffers key) same ∙ ap (λ (slots : List (Option BufferState)). let s : Buffers = record { slots = slots; vacant_key = buffers.vacant_key; capacity = buffers.capacity } in s) (same_slots buffers.slots key was h)

-- ---- what is to be kept

first : (a b : Bool) → (a && b) ≡ true → a ≡ true
first true b h = refl
first false b h = h

pub held_is : (h : List Message) (number : ℕ) → bytes_held h number ≡ option_and_then bytes_kept (kept_module h number)
unfolding bytes_held
held_is h number = refl

-- the module that a block makes whole, by what is kept and becomes of the block
pub whole-known : (h : List Message) (block : DataBlock) → whole_to (kept_module h block.«module») block ≡ whole_by h block (put_after h block)
whole-known h block =
    by (kept_module h block.«module») (kept_module (h ++ Data block ∷ []) block.«module») refl (kept_module-data h block block.«module») ∙ ap (whole_by h block) (answer-put h block)
  where
    told : (k : Kept) (t : Bool) → is_wanted k block ≡ true → kept_module (h ++ Data block ∷ []) block.«module» ≡ Some (record { standing = k.standing; blocks = slice_set k.blocks block.number (Some block.block) })
        → all_came (slice_set k.blocks block.number (Some block.block)) ≡ t
        → option_map {U = ℕ × List ℕ} (λ bytes. (block.«module», bytes)) (joined_bytes (slice_set k.blocks block.number (Some block.block))) ≡ whole_by h block (if t then puts.Completed block.«module» else puts.Kept)
    told k true w e came =
        let skip = unskipped k.standing k.standing.skip block.number (asks k.standing block (first (is_asked k.standing block) (is_missing (slice_get k.blocks block.number)) w)).place in
        sym (ap (option_map {U = ℕ × List ℕ} (λ bytes. (block.«module», bytes))) (held_is (h ++ Data block ∷ []) block.«module» ∙ ap (option_and_then bytes_kept) e
        ∙ ap (λ s. bytes_by s (slice_set k.blocks block.number (Some block.block))) skip))
    told k false w e came = sym (ap (option_map {U = ℕ × List ℕ} (λ bytes. (block.«module», bytes))) (joined_none (slice_set k.blocks block.number (Some block.block)) came))

    each : (k : Kept) (t : Bool) → is_wanted k block ≡ t
        → kept_module (h ++ Data block ∷ []) block.«module» ≡ Some (if t then (let with : Kept = record { standing = k.standing; blocks = slice_set k.blocks block.number (Some block.block) } in with) else k)
        → (if t then option_map {U = ℕ × List ℕ} (λ bytes. (block.«module», bytes)) (joined_bytes (slice_set k.blocks block.number (Some block.block))) else None)
        ≡ whole_by h block (if t then (if all_came (slice_set k.blocks block.number (Some block.block)) then puts.Completed block.«module» else puts.Kept) else puts.Ignored)
    each k true w e = told k (all_came (slice_set k.blocks block.number (Some block.block))) w e refl
    each k false w e = refl

    by : (k after : Option Kept) → kept_module (h ++ Data block ∷ []) block.«module» ≡ after → after ≡ option_map (with_block block) k → whole_to k block ≡ whole_by h block (answer_to k block)
    by None after there e = refl
    by (Some k) after there e = each k (is_wanted k block) refl (there ∙ e)

-- ---- the section

-- a section that carries a DDB carries no DII
pub carries_no_dii : (section : List ℕ) (block : DataBlock) → Ok block ≡ ddb_in section → (fault : TableFault) × (dii_in section ≡ Err fault)
unfolding fields_in
carries_no_dii section block h =
    (Kind, by (slice_index section 0 == 0x3C) (slice_index section 0 == 0x3B) (agree (kind_bytes data_block) (body section)) (agree (kind_bytes indication) (body section)) (ok_or (message_at (body section) >>= data_block_at) Short) (ok_or (message_at (body section) >>= indication_at) Short) (λ a b. apart (slice_index section 0) a b) h) where
      apart : (n : ℕ) → (n == 0x3C) ≡ true → (n == 0x3B) ≡ true → ⊥
      apart n a b = grind arith

      by : (a b c d : Bool) (x : Result DataBlock TableFault) (y : Result Dii TableFault) → (a ≡ true → b ≡ true → ⊥) → Ok block ≡ (if a && c then x else Err Kind) → (if b && d then y else Err Kind) ≡ Err Kind
      by true true c d x y both e = absurd (both refl refl)
      by true false c d x y both e = refl
      by false b c d x y both e = cc

-- what a section with a DDB makes whole
pub whole_of_block : (section : List ℕ) (block : DataBlock) → Ok block ≡ ddb_in section → (h : List Message) → made_whole h section ≡ whole_by h block (put_after h block)
unfolding made_whole message_of
whole_of_block section block carried h =
    let none = carries_no_dii section block carried in
    sym (ap₂ (λ (r : Result Dii TableFault) (q : Result DataBlock TableFault). whole_with h (message_with r q)) (sym none.1) carried)

pub whole_of_none : (section : List ℕ) (fault : TableFault) → Err fault ≡ ddb_in section → (h : List Message) → None ≡ made_whole h section
unfolding made_whole message_of
whole_of_none section fault carried h =
    by (dii_in section) ∙ ap (λ (q : Result DataBlock TableFault). whole_with h (message_with (dii_in section) q)) carried where
      by : (r : Result Dii TableFault) → None ≡ whole_with h (message_with {F = TableFault} r (Err fault))
      by (Ok dii) = refl
      by (Err other) = refl

pub whole_of_dii : (section : List ℕ) (dii : Dii) → dii_in section ≡ Ok dii → (h : List Message) → None ≡ made_whole h section
unfolding made_whole message_of
whole_of_dii section dii e h = sym (ap (λ (r : Result Dii TableFault). whole_with h (message_with r (ddb_in section))) e)

-- the module that a block makes whole is its module
pub whole_number : (h : List Message) (block : DataBlock) (number : ℕ) (bytes : List ℕ) → whole_by h block (put_after h block) ≡ Some (number, bytes) → block.«module» ≡ number
whole_number h block number bytes e = by (kept_module h block.«module») (whole-known h block ∙ e) where
  mapped : (x : Option (List ℕ)) → option_map {U = ℕ × List ℕ} (λ b. (block.«module», b)) x ≡ Some (number, bytes) → block.«module» ≡ number
  mapped None e = cc
  mapped (Some b) e = let q : ◌≡◌ {A = ℕ × List ℕ} (block.«module», b) (number, bytes) = cc in ap (λ (p : ℕ × List ℕ). p.0) q

  wanted : (k : Kept) (t : Bool) → (if t then option_map {U = ℕ × List ℕ} (λ b. (block.«module», b)) (joined_bytes (slice_set k.blocks block.number (Some block.block))) else None) ≡ Some (number, bytes) → block.«module» ≡ number
  wanted k true e = mapped (joined_bytes (slice_set k.blocks block.number (Some block.block))) e
  wanted k false e = cc

  by : (k : Option Kept) → whole_to k block ≡ Some (number, bytes) → block.«module» ≡ number
  by None e = cc
  by (Some k) e = wanted k (is_wanted k block) e
