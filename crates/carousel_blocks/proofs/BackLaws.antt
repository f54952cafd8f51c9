-- Laws of a block that is taken back.
use Rattle.std.proofs.Common.{◌≡◌, ◌≢◌, ℕ, zero, suc, ◌==◌, nat_eq, Bool, true, false, ◌&&◌, List, [], ◌∷◌, ◌++◌, refl, sym, ap, ap₂, ◌∙◌, subst, arith, eqb-true, if◌then◌else◌, find}
use Rattle.std.specs.Prelude.{Option, Some, None, option_map, slice_get, slice_set}
use Rattle.std.specs.HashMap.{HashMap, get as value_at}
use Rattle.slab.specs.Slab.{get, Updates, with_value}
use Rattle.dsmcc_messages.specs.Ddb.{DataBlock}
use Rattle.carousel_blocks.specs.declared.put.Put.{Put}
use Rattle.carousel_blocks.specs.declared.put.Put.TheVariants as puts
use Rattle.carousel_blocks.specs.declared.standing.Standing.{Standing}
use Rattle.carousel_blocks.specs.declared.modules.Module.{Module}
use Rattle.carousel_blocks.specs.Message.{Message, Data}
use Rattle.carousel_blocks.specs.InForce.{in_force, standing_of}
use Rattle.carousel_blocks.specs.Held.{Kept, is_asked, kept_module, kept_with, counting_blocks}
use Rattle.carousel_blocks.specs.Buffers.{BufferState, is_missing, all_came, without_block_at}
use Rattle.carousel_blocks.specs.Modules.{Buffers, blocks_of, blocks_at, module_kept, AreModules, kept_at}
use Rattle.carousel_blocks.specs.Drafts.{is_key}
use Rattle.carousel_blocks.specs.Steps.{is_wanted, with_block, without_block, answer_kept, answer_to, whole_to, TakesBack}
use Rattle.carousel_blocks.specs.Staging.{whole_by, made_whole}
use Rattle.carousel_blocks.specs.Carousel.{CarouselState, kept_in, StandsFor, KeepsSame, put_after}
use Rattle.carousel_blocks.proofs.PutLaws.{Meets, asks, with_block_not}
use Rattle.carousel_blocks.proofs.ModuleLaws.{has_buffer, shape_is}
use Rattle.carousel_blocks.proofs.HistoryLaws.{later_data, in_force-append, kept_module-data}
use Rattle.carousel_blocks.proofs.StageLaws.{whole-known, same_slab}
use Rattle.carousel_blocks.proofs.StandingFor.{kept_in-view}
use Rattle.carousel_blocks.proofs.EntryPlaceLaws.{standing_number}
use Rattle.carousel_blocks.proofs.ToldLaws.{viewed, kept_at-known}

-- ---- one module

set_back : (blocks : List (Option (List ℕ))) (place : ℕ) (block : List ℕ) → is_missing (slice_get blocks place) ≡ true → slice_set (slice_set blocks place (Some block)) place None ≡ blocks
set_back [] place block h = cc
set_back (None ∷ blocks) zero block h = refl
set_back (Some b ∷ blocks) zero block h = cc
set_back (b ∷ blocks) (suc place) block h = ap (λ (l : List (Option (List ℕ))). b ∷ l) (set_back blocks place block h)

second : (a b : Bool) → (a && b) ≡ true → b ≡ true
second true b h = h
second false b h = cc

first : (a b : Bool) → (a && b) ≡ true → a ≡ true
first true b h = refl
first false b h = h

-- a block that was wanted, taken back
back_wanted : (k : Kept) (block : DataBlock) → is_wanted k block ≡ true → without_block block (with_block block k) ≡ k
back_wanted k block w =
    let missing = second (is_asked k.standing block) (is_missing (slice_get k.blocks block.number)) w in
    let asked = first (is_asked k.standing block) (is_missing (slice_get k.blocks block.number)) w in
    ap (λ (t : Bool). without_block block (if t then (let with : Kept = record { standing = k.standing; blocks = slice_set k.blocks block.number (Some block.block) } in with) else k)) w
    ∙ ap (λ (t : Bool). if t then (let l : Kept = record { standing = k.standing; blocks = slice_set (slice_set k.blocks block.number (Some block.block)) block.number None } in l) else (let l : Kept = record { standing = k.standing; blocks = slice_set k.blocks block.number (Some block.block) } in l)) asked
    ∙ ap (λ (b : List (Option (List ℕ))). let l : Kept = record { standing = k.standing; blocks = b } in l) (set_back k.blocks block.number block.block missing)

without_not : (k : Kept) (block : DataBlock) → is_asked k.standing block ≡ false → without_block block k ≡ k
without_not k block h = ap (λ (t : Bool). if t then (let l : Kept = record { standing = k.standing; blocks = slice_set k.blocks block.number None } in l) else k) h

back_other : (k : Kept) (block : DataBlock) → is_asked k.standing block ≡ false → without_block block (with_block block k) ≡ k
back_other k block h = ap (without_block block) (with_block_not block k h) ∙ without_not k block h

pub undone : (o : Option Kept) (block : DataBlock) (n : ℕ) → ((k : Kept) → o ≡ Some k → k.standing.entry.id ≡ n) → (block.«module» ≡ n → (k : Kept) → o ≡ Some k → is_wanted k block ≡ true)
    → option_map (without_block block) (option_map (with_block block) o) ≡ o
undone None block n numbered wanted = refl
undone (Some k) block n numbered wanted = by (is_asked k.standing block) refl where
  by : (t : Bool) → is_asked k.standing block ≡ t → ◌≡◌ {A = Option Kept} (Some (without_block block (with_block block k))) (Some k)
  by true a = ap (λ x. Some x) (back_wanted k block (wanted ((asks k.standing block a).number ∙ numbered k refl) k refl))
  by false a = ap (λ x. Some x) (back_other k block a)

-- what completes a module was wanted
pub wanted_by : (o : Option Kept) (block : DataBlock) (n : ℕ) → puts.Completed n ≡ answer_to o block → (k : Kept) → o ≡ Some k → is_wanted k block ≡ true
wanted_by None block n a k e = cc
wanted_by (Some l) block n a k e = let q : l ≡ k = cc in subst (λ (x : Kept). is_wanted x block ≡ true) q (by (is_wanted l block) (all_came (slice_set l.blocks block.number (Some block.block))) a) where
  by : (t u : Bool) → puts.Completed n ≡ (if t then (if u then puts.Completed block.«module» else puts.Kept) else puts.Ignored) → t ≡ true
  by true u a = refl
  by false u a = cc

whole_wanted : (o : Option Kept) (block : DataBlock) (whole : ℕ × List ℕ) → whole_to o block ≡ Some whole → (k : Kept) → o ≡ Some k → is_wanted k block ≡ true
whole_wanted None block whole a k e = cc
whole_wanted (Some l) block whole a k e = let q : l ≡ k = cc in subst (λ (x : Kept). is_wanted x block ≡ true) q (by (is_wanted l block) _ a) where
  by : (t : Bool) (x : Option (ℕ × List ℕ)) → (if t then x else None) ≡ Some whole → t ≡ true
  by true x a = refl
  by false x a = cc

-- ---- the carousel

standing_kept_is : (h : List Message) (n : ℕ) (k : Kept) → kept_module h n ≡ Some k → k.standing.entry.id ≡ n
standing_kept_is h n k e = by (standing_of (in_force h) n) refl e where
  by : (o : Option Standing) → standing_of (in_force h) n ≡ o → option_map (kept_with (counting_blocks None n h)) o ≡ Some k → k.standing.entry.id ≡ n
  by None there e = cc
  by (Some s) there e = let q : kept_with (counting_blocks None n h) s ≡ k = cc in ap (λ (x : Kept). x.standing.entry.id) (sym q) ∙ standing_number (in_force h) n s there

pub stands_back : (c new : CarouselState) (block : DataBlock) → TakesBack c new block → (h : List Message) (whole : ℕ × List ℕ) → whole_by h block (put_after h block) ≡ Some whole → StandsFor c (h ++ Data block ∷ []) → StandsFor new h
stands_back c new block takes h whole made s = record {
  transaction = takes.transaction ∙ s.transaction ∙ ap (option_map (λ d. d.transaction)) (in_force-append h (Data block) ∙ later_data (in_force h) block);
  download = takes.download ∙ s.download ∙ ap (option_map (λ d. d.download)) (in_force-append h (Data block) ∙ later_data (in_force h) block);
  modules = λ n. takes.modules n ∙ ap (option_map (without_block block)) (s.modules n ∙ kept_module-data h block n)
      ∙ undone (kept_module h n) block n (λ k e. standing_kept_is h n k e)
      (λ m k e. whole_wanted (kept_module h block.«module») block whole (whole-known h block ∙ made) k (ap (kept_module h) m ∙ e));
}

module _ {S : Type 0} where
  pub kept_back : (transaction download : Option ℕ) (modules : HashMap ℕ Module S) (old new : Buffers) (v : CarouselState) → viewed transaction download modules old ≡ v → AreModules modules old → (block : DataBlock) (answer : Put) (number : ℕ) (later : CarouselState)
      → ((n : ℕ) → kept_at modules new n ≡ option_map (with_block block) (kept_at modules old n)) → answer ≡ answer_to (kept_at modules old block.«module») block → answer ≡ puts.Completed number
      → TakesBack (viewed transaction download modules new) later block → KeepsSame v later
  kept_back transaction download modules old new v e are block answer number later kept a completed back = subst (λ (x : CarouselState). KeepsSame x later) e (record {
    transaction = back.transaction;
    download = back.download;
    modules = λ n. back.modules n ∙ ap (option_map (without_block block)) (kept_in-view transaction download modules new n ∙ kept n)
        ∙ undone (kept_at modules old n) block n (λ k p. its_number n (value_at nat_eq modules n) refl k p)
        (λ m k p. wanted_by (kept_at modules old block.«module») block number (sym completed ∙ a) k (ap (kept_at modules old) m ∙ p))
        ∙ sym (kept_in-view transaction download modules old n);
  })
    where
      its_number : (n : ℕ) (o : Option Module) → value_at nat_eq modules n ≡ o → (k : Kept) → option_map (module_kept old) o ≡ Some k → k.standing.entry.id ≡ n
      its_number n None there k p = cc
      its_number n (Some m) there k p = let q : module_kept old m ≡ k = cc in ap (λ (x : Kept). x.standing.entry.id) (sym q) ∙ (are n m there).number_is

  pub takes_back_by : (transaction download : Option ℕ) (modules : HashMap ℕ Module S) (old new : Buffers) (v : CarouselState) → viewed transaction download modules old ≡ v → (block : DataBlock)
      → ((n : ℕ) → kept_at modules new n ≡ option_map (without_block block) (kept_at modules old n)) → TakesBack v (viewed transaction download modules new) block
  takes_back_by transaction download modules old new v e block kept = subst (λ (x : CarouselState). TakesBack x (viewed transaction download modules new) block) e (record {
    transaction = refl;
    download = refl;
    modules = λ n. kept_in-view transaction download modules new n ∙ kept n ∙ ap (option_map (without_block block)) (sym (kept_in-view transaction download modules old n));
  })

  -- nothing is kept of the block
  pub kept_without_any : (modules : HashMap ℕ Module S) (buffers : Buffers) (block : DataBlock) → ((number : ℕ) (m : Module) → value_at nat_eq modules number ≡ Some m → is_asked m.standing block ≡ false)
      → (number : ℕ) → kept_at modules buffers number ≡ option_map (without_block block) (kept_at modules buffers number)
  kept_without_any modules buffers block none number = by (value_at nat_eq modules number) refl where
    by : (x : Option Module) → value_at nat_eq modules number ≡ x → option_map (module_kept buffers) x ≡ option_map (without_block block) (option_map (module_kept buffers) x)
    by None e = refl
    by (Some m) e = ap (λ k. Some k) (sym (without_not (module_kept buffers m) block (none number m e)))

  -- the block is taken from the buffer of the module that asks for it
  pub kept_without_block : (modules : HashMap ℕ Module S) (old new : Buffers) (block : DataBlock) (key : ℕ) (was now : BufferState) → AreModules modules old → Meets modules old block key → Some was ≡ get old key
      → now ≡ without_block_at block.number was → Updates old new key (Some now)
      → (number : ℕ) → kept_at modules new number ≡ option_map (without_block block) (kept_at modules old number)
  kept_without_block modules old new block key was now are k h e updates number = by (value_at nat_eq modules number) refl where
    here : (m : Module) → m.key ≡ Some key → is_asked m.standing block ≡ true → module_kept new m ≡ without_block block (module_kept old m)
    here m f asked =
        let blocks_now : blocks_at new m.key ≡ slice_set was.blocks block.number None = ap (blocks_at new) f ∙ ap blocks_of updates.changed ∙ ap (λ b. b.blocks) e in
        let blocks_then : blocks_at old m.key ≡ was.blocks = ap (blocks_at old) f ∙ ap blocks_of (sym h) in
        ap (λ (l : List (Option (List ℕ))). let k : Kept = record { standing = m.standing; blocks = l } in k) (blocks_now ∙ ap (λ (l : List (Option (List ℕ))). slice_set l block.number None) (sym blocks_then))
        ∙ ap (λ (t : Bool). if t then (let l : Kept = record { standing = m.standing; blocks = slice_set (blocks_at old m.key) block.number None } in l) else module_kept old m) (sym asked)

    not_true : (b : Bool) → (b ≡ true → b ≡ false) → b ≡ false
    not_true true h = h refl
    not_true false h = refl

    same_module : (m : Module) → value_at nat_eq modules number ≡ Some m → block.«module» ≡ number → k.m ≡ m
    same_module m there n = let p = sym k.there ∙ ap (value_at nat_eq modules) n ∙ there in cc

    elsewhere : (m : Module) → value_at nat_eq modules number ≡ Some m → is_key key m.key ≡ false → is_asked m.standing block ≡ false
    elsewhere m there f = not_true (is_asked m.standing block) (λ asked.
        let n : block.«module» ≡ number = (asks m.standing block asked).number ∙ (are number m there).number_is in
        let q = same_module m there n in
        let t : is_key key m.key ≡ true = ap (λ x. is_key key x.key) (sym q) ∙ ap (is_key key) k.key_is ∙ same_number key in
        absurd (let p = sym t ∙ f in cc)) where
          same_number : (j : ℕ) → (j == j) ≡ true
          same_number j = grind arith

    blocks_elsewhere : (other : Option ℕ) → is_key key other ≡ false → blocks_at new other ≡ blocks_at old other
    blocks_elsewhere None f = refl
    blocks_elsewhere (Some j) f = ap blocks_of (updates.others j (λ g. apart j key g f)) where
      apart : (m n : ℕ) → m ≡ n → nat_eq m n ≡ false → ⊥
      apart m n g f = grind arith

    its_key : (other : Option ℕ) → is_key key other ≡ true → other ≡ Some key
    its_key None f = cc
    its_key (Some j) f = ap (λ i. Some i) (eqb-true j key f)

    owner : (m : Module) → value_at nat_eq modules number ≡ Some m → m.key ≡ Some key → block.«module» ≡ number
    owner m there f =
        let i = are number m there in
        let b = has_buffer old m.standing m.key key i.backed f in
        let g : k.buffer ≡ b.buffer = let p = sym k.held ∙ b.is in cc in
        sym k.number ∙ sym k.shape.number ∙ ap (λ x. x.shape.number) g ∙ (shape_is m.standing b.buffer.shape b.shape_is).number ∙ i.number_is

    each : (m : Module) → value_at nat_eq modules number ≡ Some m → (t : Bool) → is_key key m.key ≡ t → module_kept new m ≡ without_block block (module_kept old m)
    each m there true f =
        let g = its_key m.key f in
        here m g (subst (λ (x : Module). is_asked x.standing block ≡ true) (same_module m there (owner m there g)) k.asked)
    each m there false f =
        ap (λ (l : List (Option (List ℕ))). let k : Kept = record { standing = m.standing; blocks = l } in k) (blocks_elsewhere m.key f)
        ∙ sym (without_not (module_kept old m) block (elsewhere m there f))

    by : (x : Option Module) → value_at nat_eq modules number ≡ x → option_map (module_kept new) x ≡ option_map (without_block block) (option_map (module_kept old) x)
    by None there = refl
    by (Some m) there = ap (λ z. Some z) (each m there (is_key key m.key) refl)

  -- a buffer that stayed the same
  pub kept_alike : (modules : HashMap ℕ Module S) (buffers : Buffers) (key : ℕ) (was now : BufferState) → Some was ≡ get buffers key → now ≡ was → (number : ℕ) → kept_at modules (with_value buffers key now) number ≡ kept_at modules buffers number
  kept_alike modules buffers key was now h same number = ap (λ b. kept_at modules b number) (same_slab buffers key was now h same)
