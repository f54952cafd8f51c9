-- Laws of a block that comes for the modules.
use Rattle.std.proofs.Common.{◌≡◌, ◌≢◌, ℕ, ◌-◌, ◌*◌, ◌<◌, ◌==◌, nat_eq, nat_lt, min, Bool, true, false, ◌&&◌, List, length, refl, sym, ap, ap₂, ◌∙◌, subst, arith, eqb-true, if◌then◌else◌}
use Rattle.std.specs.Prelude.{Option, Some, None, option_map, option_and_then, slice_get, slice_set}
use Rattle.std.specs.HashMap.{HashMap, get as value_at}
use Rattle.slab.specs.Slab.{get, Updates}
use Rattle.dsmcc_messages.specs.Ddb.{DataBlock}
use Rattle.carousel_blocks.specs.declared.put.Put.TheVariants as puts
use Rattle.carousel_blocks.specs.declared.standing.SkipCause.{SkipCause}
use Rattle.carousel_blocks.specs.declared.standing.Standing.{Standing}
use Rattle.carousel_blocks.specs.declared.modules.Module.{Module}
use Rattle.carousel_blocks.specs.Held.{Kept, count_of, block_length, is_asked, joined_bytes, bytes_by, bytes_kept}
use Rattle.carousel_blocks.specs.Buffers.{BufferState, is_missing, all_came, shape_length, with_block_at}
use Rattle.carousel_blocks.specs.Modules.{Buffers, blocks_of, blocks_at, module_kept, shape_by, IsBacked, AreModules, kept_at}
use Rattle.carousel_blocks.specs.Drafts.{asked_key_of, is_key}
use Rattle.carousel_blocks.specs.Steps.{with_block, answer_kept, answer_to, with_block_in, answer_in}
use Rattle.carousel_blocks.proofs.ModuleLaws.{has_buffer, no_key, ShapeIs, shape_is}
use Rattle.carousel_blocks.proofs.DraftLaws.{skipped_count}

first : (a b : Bool) → (a && b) ≡ true → a ≡ true
first true b h = refl
first false b h = h

second : (a b : Bool) → (a && b) ≡ true → b ≡ true
second true b h = h
second false b h = cc

-- ---- what a standing asks for

pub record Asks (s : Standing) (block : DataBlock) : Type 0 where
  pub place : block.number < count_of s
  pub number : block.«module» ≡ s.entry.id
  pub size : length block.block ≡ block_length s block.number

pub asks : (s : Standing) (block : DataBlock) → is_asked s block ≡ true → Asks s block
asks s block h =
    let a = nat_lt block.number (count_of s) in
    let b = block.download == s.download in
    let c = block.«module» == s.entry.id in
    let d = block.version == s.entry.version in
    let e = length block.block == block_length s block.number in
    let h1 = second a (b && (c && (d && e))) h in
    let h2 = second b (c && (d && e)) h1 in
    let h3 = second c (d && e) h2 in
    record {
      place = below block.number (count_of s) (first a (b && (c && (d && e))) h);
      number = eqb-true block.«module» s.entry.id (first c (d && e) h2);
      size = eqb-true (length block.block) (block_length s block.number) (second d e h3);
    }
  where
    below : (m n : ℕ) → nat_lt m n ≡ true → m < n
    below m n h = grind arith

not_true : (b : Bool) → (b ≡ true → b ≡ false) → b ≡ false
not_true true h = h refl
not_true false h = refl

-- the module that asks for a block
pub record Asking (x : Option Module) (block : DataBlock) (key : ℕ) : Type 0 where
  pub m : Module
  pub there : x ≡ Some m
  pub asked : is_asked m.standing block ≡ true
  pub key_is : m.key ≡ Some key

pub asking : (x : Option Module) (block : DataBlock) (key : ℕ) → Some key ≡ asked_key_of x block → Asking x block key
asking None block key h = cc
asking (Some m) block key h = by (is_asked m.standing block) refl h where
  by : (b : Bool) → is_asked m.standing block ≡ b → ◌≡◌ {A = Option ℕ} (Some key) (if b then m.key else None) → Asking (Some m) block key
  by true e h = record { m = m; there = refl; asked = e; key_is = sym h }
  by false e h = cc

pub with_block_not : (block : DataBlock) (k : Kept) → is_asked k.standing block ≡ false → with_block block k ≡ k
with_block_not block k h =
    ap (λ (t : Bool). if t && is_missing (slice_get k.blocks block.number) then (let with : Kept = record { standing = k.standing; blocks = slice_set k.blocks block.number (Some block.block) } in with) else k) h

pub answer_not : (block : DataBlock) (k : Kept) → is_asked k.standing block ≡ false → puts.Ignored ≡ answer_kept k block
answer_not block k h =
    sym (ap (λ (t : Bool). if t && is_missing (slice_get k.blocks block.number) then (if all_came (slice_set k.blocks block.number (Some block.block)) then puts.Completed block.«module» else puts.Kept) else puts.Ignored) h)

apart : (m n : ℕ) → m ≡ n → nat_eq m n ≡ false → ⊥
apart m n g f = grind arith

backed_with : (old new : Buffers) (key : ℕ) (was now : BufferState) → Some was ≡ get old key → now.shape ≡ was.shape → Updates old new key (Some now) → (s : Standing) (k : Option ℕ) → IsBacked old s k → IsBacked new s k
backed_with old new key was now h e updates s None b = b
backed_with old new key was now h e updates s (Some k) b = by (nat_eq k key) refl where
  by : (t : Bool) → nat_eq k key ≡ t → IsBacked new s (Some k)
  by true f =
      let n : k ≡ key = eqb-true k key f in
      ap (λ j. Some (option_map (λ (x : BufferState). x.shape) (get new j))) n ∙ ap (λ (x : Option BufferState). Some (option_map (λ y. y.shape) x)) updates.changed
      ∙ ap (λ x. Some (Some x)) e ∙ ap (λ (x : Option BufferState). Some (option_map (λ y. y.shape) x)) h ∙ ap (λ j. Some (option_map (λ (x : BufferState). x.shape) (get old j))) (sym n) ∙ b
  by false f =
      let ne : k ≢ key = λ g. apart k key g f in
      ap (λ (x : Option BufferState). Some (option_map (λ y. y.shape) x)) (updates.others k ne) ∙ b

pub shape_stays : (number : ℕ) (block : List ℕ) (was : BufferState) → (with_block_in number block was).shape ≡ was.shape
shape_stays number block was = by (is_missing (slice_get was.blocks number)) where
  by : (t : Bool) → (if t then with_block_at number block was else was).shape ≡ was.shape
  by true = refl
  by false = refl

module _ {S : Type 0} where
  -- no module asks for the block
  pub none_asks : (modules : HashMap ℕ Module S) (buffers : Buffers) (block : DataBlock) → AreModules modules buffers → None ≡ asked_key_of (value_at nat_eq modules block.«module») block
      → (number : ℕ) (m : Module) → value_at nat_eq modules number ≡ Some m → is_asked m.standing block ≡ false
  none_asks modules buffers block are h number m there = not_true (is_asked m.standing block) (λ e.
      let i = are number m there in
      let a = asks m.standing block e in
      let n : block.«module» ≡ number = a.number ∙ i.number_is in
      let k : None ≡ m.key = h ∙ ap (λ x. asked_key_of x block) (ap (value_at nat_eq modules) n ∙ there) ∙ ap (λ (t : Bool). if t then m.key else None) e in
      let c = skipped_count m.standing (no_key buffers m.standing m.key i.backed (sym k)) in
      let p = a.place in
      absurd (omega arith))

  pub kept_without : (modules : HashMap ℕ Module S) (buffers : Buffers) (block : DataBlock) → ((number : ℕ) (m : Module) → value_at nat_eq modules number ≡ Some m → is_asked m.standing block ≡ false)
      → (number : ℕ) → kept_at modules buffers number ≡ option_map (with_block block) (kept_at modules buffers number)
  kept_without modules buffers block none number = by (value_at nat_eq modules number) refl where
    by : (x : Option Module) → value_at nat_eq modules number ≡ x → option_map (module_kept buffers) x ≡ option_map (with_block block) (option_map (module_kept buffers) x)
    by None e = refl
    by (Some m) e = ap (λ k. Some k) (sym (with_block_not block (module_kept buffers m) (none number m e)))

  pub answer_without : (modules : HashMap ℕ Module S) (buffers : Buffers) (block : DataBlock) → ((number : ℕ) (m : Module) → value_at nat_eq modules number ≡ Some m → is_asked m.standing block ≡ false)
      → puts.Ignored ≡ answer_to (kept_at modules buffers block.«module») block
  answer_without modules buffers block none = by (value_at nat_eq modules block.«module») refl where
    by : (x : Option Module) → value_at nat_eq modules block.«module» ≡ x → puts.Ignored ≡ answer_to (option_map (module_kept buffers) x) block
    by None e = refl
    by (Some m) e = answer_not block (module_kept buffers m) (none block.«module» m e)

  -- what is known where a module asks for the block
  pub record Meets (modules : HashMap ℕ Module S) (buffers : Buffers) (block : DataBlock) (key : ℕ) : Type 0 where
    pub m : Module
    pub there : value_at nat_eq modules block.«module» ≡ Some m
    pub asked : is_asked m.standing block ≡ true
    pub key_is : m.key ≡ Some key
    pub buffer : BufferState
    pub held : get buffers key ≡ Some buffer
    pub shape : ShapeIs m.standing buffer.shape
    pub number : m.standing.entry.id ≡ block.«module»

  pub meets : (modules : HashMap ℕ Module S) (buffers : Buffers) (block : DataBlock) (key : ℕ) → AreModules modules buffers → Some key ≡ asked_key_of (value_at nat_eq modules block.«module») block → Meets modules buffers block key
  meets modules buffers block key are h =
      let a = asking (value_at nat_eq modules block.«module») block key h in
      let i = are block.«module» a.m a.there in
      let b = has_buffer buffers a.m.standing a.m.key key i.backed a.key_is in
      record { m = a.m; there = a.there; asked = a.asked; key_is = a.key_is; buffer = b.buffer; held = b.is; shape = shape_is a.m.standing b.buffer.shape b.shape_is; number = i.number_is }

  pub same_buffer : (modules : HashMap ℕ Module S) (buffers : Buffers) (block : DataBlock) (key : ℕ) (buffer : BufferState) (k : Meets modules buffers block key) → Some buffer ≡ get buffers key → k.buffer ≡ buffer
  same_buffer modules buffers block key buffer k h = let p = h ∙ k.held in cc

  pub fits_there : (modules : HashMap ℕ Module S) (buffers : Buffers) (block : DataBlock) (key : ℕ) (buffer : BufferState) → Meets modules buffers block key → Some buffer ≡ get buffers key → length block.block ≡ shape_length buffer.shape block.number
  fits_there modules buffers block key buffer k h =
      let e = same_buffer modules buffers block key buffer k h in
      (asks k.m.standing block k.asked).size ∙ sym (ap₂ (λ size total. min size (total - block.number * size)) k.shape.block_size k.shape.size) ∙ ap (λ b. shape_length b.shape block.number) e

  -- a buffer is changed, and keeps its shape
  pub are_with : (modules : HashMap ℕ Module S) (old new : Buffers) (key : ℕ) (was now : BufferState) → AreModules modules old → Some was ≡ get old key → now.shape ≡ was.shape → Updates old new key (Some now) → AreModules modules new
  are_with modules old new key was now are h e updates number m there =
      let i = are number m there in
      record { number_is = i.number_is; backed = backed_with old new key was now h e updates m.standing m.key i.backed }

  -- the block goes into the buffer of the module that asks for it
  pub kept_with_block : (modules : HashMap ℕ Module S) (old new : Buffers) (block : DataBlock) (key : ℕ) (was now : BufferState) → AreModules modules old → Meets modules old block key → Some was ≡ get old key
      → now ≡ with_block_in block.number block.block was → Updates old new key (Some now)
      → (number : ℕ) → kept_at modules new number ≡ option_map (with_block block) (kept_at modules old number)
  kept_with_block modules old new block key was now are k h e updates number = by (value_at nat_eq modules number) refl where
    here : (m : Module) → m.key ≡ Some key → is_asked m.standing block ≡ true → module_kept new m ≡ with_block block (module_kept old m)
    here m f asked =
        let blocks_now : blocks_at new m.key ≡ (if is_missing (slice_get was.blocks block.number) then slice_set was.blocks block.number (Some block.block) else was.blocks) =
        ap (blocks_at new) f ∙ ap blocks_of updates.changed ∙ ap (λ b. b.blocks) e ∙ pulled (is_missing (slice_get was.blocks block.number)) in
        let blocks_then : blocks_at old m.key ≡ was.blocks = ap (blocks_at old) f ∙ ap blocks_of (sym h) in
        ap (λ (l : List (Option (List ℕ))). let k : Kept = record { standing = m.standing; blocks = l } in k) blocks_now
        ∙ chosen (is_missing (slice_get was.blocks block.number)) m.standing was.blocks (slice_set was.blocks block.number (Some block.block))
        ∙ ap (λ (t : Bool). if t && is_missing (slice_get was.blocks block.number) then (let k : Kept = record { standing = m.standing; blocks = slice_set was.blocks block.number (Some block.block) } in k) else (let k : Kept = record { standing = m.standing; blocks = was.blocks } in k)) (sym asked)
        ∙ ap (λ (l : List (Option (List ℕ))). with_block block (record { standing = m.standing; blocks = l })) (sym blocks_then)
      where
        pulled : (t : Bool) → (if t then with_block_at block.number block.block was else was).blocks ≡ (if t then slice_set was.blocks block.number (Some block.block) else was.blocks)
        pulled true = refl
        pulled false = refl

        chosen : (t : Bool) (s : Standing) (a b : List (Option (List ℕ))) → ◌≡◌ {A = Kept} (record { standing = s; blocks = if t then b else a }) (if t then (let k : Kept = record { standing = s; blocks = b } in k) else (let k : Kept = record { standing = s; blocks = a } in k))
        chosen true s a b = refl
        chosen false s a b = refl

    same_module : (m : Module) → value_at nat_eq modules number ≡ Some m → block.«module» ≡ number → k.m ≡ m
    same_module m there n = let p = sym k.there ∙ ap (value_at nat_eq modules) n ∙ there in cc

    elsewhere : (m : Module) → value_at nat_eq modules number ≡ Some m → is_key key m.key ≡ false → is_asked m.standing block ≡ false
    elsewhere m there f = not_true (is_asked m.standing block) (λ asked.
        let n : block.«module» ≡ number = (asks m.standing block asked).number ∙ (are number m there).number_is in
        let q = same_module m there n in
        let t : is_key key m.key ≡ true = ap (λ x. is_key key x.key) (sym q) ∙ ap (is_key key) k.key_is ∙ same_number key in
        absurd (let p = sym t ∙ f in cc)) where
          same_number : (j : ℕ) → (j == j) ≡ true
          same_number j = grind arith

    blocks_elsewhere : (other : Option ℕ) → is_key key other ≡ false → blocks_at new other ≡ blocks_at old other
    blocks_elsewhere None f = refl
    blocks_elsewhere (Some j) f = ap blocks_of (updates.others j (λ g. apart j key g f)) where
      apart : (m n : ℕ) → m ≡ n → nat_eq m n ≡ false → ⊥
      apart m n g f = grind arith

    its_key : (other : Option ℕ) → is_key key other ≡ true → other ≡ Some key
    its_key None f = cc
    its_key (Some j) f = ap (λ i. Some i) (eqb-true j key f)

    owner : (m : Module) → value_at nat_eq modules number ≡ Some m → m.key ≡ Some key → block.«module» ≡ number
    owner m there f =
        let i = are number m there in
        let b = has_buffer old m.standing m.key key i.backed f in
        let g : k.buffer ≡ b.buffer = let p = sym k.held ∙ b.is in cc in
        sym k.number ∙ sym k.shape.number ∙ ap (λ x. x.shape.number) g ∙ (shape_is m.standing b.buffer.shape b.shape_is).number ∙ i.number_is

    each : (m : Module) → value_at nat_eq modules number ≡ Some m → (t : Bool) → is_key key m.key ≡ t → module_kept new m ≡ with_block block (module_kept old m)
    each m there true f =
        let g = its_key m.key f in
        here m g (subst (λ (x : Module). is_asked x.standing block ≡ true) (same_module m there (owner m there g)) k.asked)
    each m there false f =
        ap (λ (l : List (Option (List ℕ))). let k : Kept = record { standing = m.standing; blocks = l } in k) (blocks_elsewhere m.key f)
        ∙ sym (with_block_not block (module_kept old m) (elsewhere m there f))

    by : (x : Option Module) → value_at nat_eq modules number ≡ x → option_map (module_kept new) x ≡ option_map (with_block block) (option_map (module_kept old) x)
    by None there = refl
    by (Some m) there = ap (λ z. Some z) (each m there (is_key key m.key) refl)

  pub answer_with : (modules : HashMap ℕ Module S) (old : Buffers) (block : DataBlock) (key : ℕ) (was : BufferState) → Meets modules old block key → Some was ≡ get old key
      → answer_in block.number block.block was ≡ answer_to (kept_at modules old block.«module») block
  answer_with modules old block key was k h =
      let e = same_buffer modules old block key was k h in
      let n : was.shape.number ≡ block.«module» = ap (λ b. b.shape.number) (sym e) ∙ k.shape.number ∙ k.number in
      let blocks_then : blocks_at old k.m.key ≡ was.blocks = ap (blocks_at old) k.key_is ∙ ap blocks_of (sym h) in
      ap₂ (λ (t : Bool) (number : ℕ). if t && is_missing (slice_get was.blocks block.number) then (if all_came (slice_set was.blocks block.number (Some block.block)) then puts.Completed number else puts.Kept) else puts.Ignored) (sym k.asked) n
      ∙ ap (λ (l : List (Option (List ℕ))). answer_kept (record { standing = k.m.standing; blocks = l }) block) (sym blocks_then)
      ∙ ap (λ x. answer_to (option_map (module_kept old) x) block) (sym k.there)

  -- ---- the bytes of a module

  pub whole_skipped : (modules : HashMap ℕ Module S) (buffers : Buffers) (number : ℕ) (m : Module) → AreModules modules buffers → value_at nat_eq modules number ≡ Some m → m.key ≡ None → None ≡ option_and_then bytes_kept (kept_at modules buffers number)
  whole_skipped modules buffers number m are there e =
      by m.standing.skip (no_key buffers m.standing m.key (are number m there).backed e) ∙ ap (λ x. option_and_then bytes_kept (option_map (module_kept buffers) x)) (sym there) where
        by : (skip : Option SkipCause) → shape_by m.standing skip ≡ None → None ≡ bytes_by skip (blocks_at buffers m.key)
        by None h = cc
        by (Some cause) h = refl

  pub whole_gone : {X : Type 0} (modules : HashMap ℕ Module S) (buffers : Buffers) (number : ℕ) (m : Module) (key : ℕ) → AreModules modules buffers → value_at nat_eq modules number ≡ Some m → m.key ≡ Some key → None ≡ get buffers key → X
  whole_gone modules buffers number m key are there e h =
      let b = has_buffer buffers m.standing m.key key (are number m there).backed e in
      absurd (let p = h ∙ b.is in cc)

  pub whole_there : (modules : HashMap ℕ Module S) (buffers : Buffers) (number : ℕ) (m : Module) (key : ℕ) (buffer : BufferState) → AreModules modules buffers → value_at nat_eq modules number ≡ Some m → m.key ≡ Some key → Some buffer ≡ get buffers key → joined_bytes buffer.blocks ≡ option_and_then bytes_kept (kept_at modules buffers number)
  whole_there modules buffers number m key buffer are there e h =
      let b = has_buffer buffers m.standing m.key key (are number m there).backed e in
      ap (λ x. joined_bytes (blocks_of x)) h ∙ ap (λ x. joined_bytes (blocks_at buffers x)) (sym e) ∙ ap (λ x. bytes_by x (blocks_at buffers m.key)) (sym (shape_is m.standing b.buffer.shape b.shape_is).unskipped)
      ∙ ap (λ x. option_and_then bytes_kept (option_map (module_kept buffers) x)) (sym there)
