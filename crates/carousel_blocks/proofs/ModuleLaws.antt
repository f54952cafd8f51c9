-- Laws of modules and their buffers.
use Rattle.std.proofs.Common.{◌≡◌, ◌≢◌, ℕ, ◌==◌, nat_eq, true, false, List, refl, sym, ap, ◌∙◌, subst, arith}
use Rattle.std.specs.Prelude.{Option, Some, None, option_map}
use Rattle.std.specs.HashMap.{HashMap, get as value_at}
use Rattle.slab.specs.Slab.{get, Updates}
use Rattle.carousel_blocks.specs.declared.standing.SkipCause.{SkipCause}
use Rattle.carousel_blocks.specs.declared.standing.Standing.{Standing}
use Rattle.carousel_blocks.specs.declared.buffer.Shape.{Shape}
use Rattle.carousel_blocks.specs.declared.modules.Module.{Module}
use Rattle.carousel_blocks.specs.Held.{Kept}
use Rattle.carousel_blocks.specs.Buffers.{BufferState}
use Rattle.carousel_blocks.specs.Modules.{Buffers, blocks_of, blocks_at, module_kept, shape_by, shape_of, IsBacked, AreModules, KeepModules, Grows}
use Rattle.carousel_blocks.specs.Drafts.{key_of, is_key}

pub option_map_same : {A B : Type 0} (f g : A → B) (x : Option A) → ((a : A) → x ≡ Some a → f a ≡ g a) → option_map f x ≡ option_map g x
option_map_same f g None same = refl
option_map_same f g (Some a) same = ap (λ b. Some b) (same a refl)

-- ---- a module's buffer

backed_same : (old new : Buffers) (s : Standing) (key : Option ℕ) → ((k : ℕ) → key ≡ Some k → get new k ≡ get old k) → IsBacked old s key → IsBacked new s key
backed_same old new s None same b = b
backed_same old new s (Some k) same b = ap (λ (x : Option BufferState). Some (option_map (λ b. b.shape) x)) (same k refl) ∙ b

blocks_same : (old new : Buffers) (key : Option ℕ) → ((k : ℕ) → key ≡ Some k → get new k ≡ get old k) → blocks_at new key ≡ blocks_at old key
blocks_same old new None same = refl
blocks_same old new (Some k) same = ap blocks_of (same k refl)

-- under a module's key is a buffer
pub record HasBuffer (buffers : Buffers) (s : Standing) (key : ℕ) : Type 0 where
  pub buffer : BufferState
  pub is : get buffers key ≡ Some buffer
  pub shape_is : shape_of s ≡ Some buffer.shape

pub has_buffer : (buffers : Buffers) (s : Standing) (key : Option ℕ) (k : ℕ) → IsBacked buffers s key → key ≡ Some k → HasBuffer buffers s k
has_buffer buffers s key k b e = found (get buffers k) (shape_of s) refl refl (subst (λ x. IsBacked buffers s x) e b) where
  found : (x : Option BufferState) (shape : Option Shape) → get buffers k ≡ x → shape_of s ≡ shape → ◌≡◌ {A = Option (Option Shape)} (Some (option_map (λ b. b.shape) x)) (option_map (λ (y : Shape). Some y) shape) → HasBuffer buffers s k
  found None None p q r = cc
  found None (Some y) p q r = cc
  found (Some buffer) None p q r = cc
  found (Some buffer) (Some y) p q r = record { buffer = buffer; is = p; shape_is = let f : y ≡ buffer.shape = cc in q ∙ ap (λ z. Some z) f }

-- a module without a key is skipped
pub no_key : (buffers : Buffers) (s : Standing) (key : Option ℕ) → IsBacked buffers s key → key ≡ None → shape_of s ≡ None
no_key buffers s key b e = none (shape_of s) (subst (λ x. IsBacked buffers s x) e b) where
  none : (shape : Option Shape) → ◌≡◌ {A = Option (Option Shape)} None (option_map (λ (y : Shape). Some y) shape) → shape ≡ None
  none None r = refl
  none (Some y) r = cc

-- the shape of a module that isn't skipped
pub record ShapeIs (s : Standing) (shape : Shape) : Type 0 where
  pub number : shape.number ≡ s.entry.id
  pub block_size : shape.block_size ≡ s.block_size
  pub size : shape.size ≡ s.entry.size
  pub unskipped : s.skip ≡ None

pub shape_is : (s : Standing) (shape : Shape) → shape_of s ≡ Some shape → ShapeIs s shape
shape_is s shape h = by s.skip refl h where
  by : (skip : Option SkipCause) → s.skip ≡ skip → shape_by s skip ≡ Some shape → ShapeIs s shape
  by None e h =
      let it : Shape = record { number = s.entry.id; block_size = s.block_size; size = s.entry.size } in
      let f : it ≡ shape = cc in
      record { number = ap (λ x. x.number) (sym f); block_size = ap (λ x. x.block_size) (sym f); size = ap (λ x. x.size) (sym f); unskipped = e }
  by (Some cause) e h = cc

-- ---- all modules

module _ {S : Type 0} where
  pub keep_modules : (modules : HashMap ℕ Module S) (old new : Buffers) → AreModules modules old → ((number : ℕ) (m : Module) (k : ℕ) → value_at nat_eq modules number ≡ Some m → m.key ≡ Some k → get new k ≡ get old k) → KeepModules modules old new
  keep_modules modules old new are same = record {
    are = λ number m h. let i = are number m h in record { number_is = i.number_is; backed = backed_same old new m.standing m.key (λ k e. same number m k h e) i.backed };
    same = λ number. option_map_same (module_kept new) (module_kept old) (value_at nat_eq modules number)
        (λ m h. ap (λ (blocks : List (Option (List ℕ))). let k : Kept = record { standing = m.standing; blocks = blocks } in k) (blocks_same old new m.key (λ k e. same number m k h e)));
  }

  -- the slab of buffers has the same and more
  pub keep_grown : (modules : HashMap ℕ Module S) (old new : Buffers) → AreModules modules old → Grows old new → KeepModules modules old new
  keep_grown modules old new are grows = keep_modules modules old new are
      (λ number m k h e. let b = has_buffer old m.standing m.key k (are number m h).backed e in grows k b.buffer b.is ∙ sym b.is)

  pub keep_same : (modules : HashMap ℕ Module S) (old : Buffers) → AreModules modules old → KeepModules modules old old
  keep_same modules old are = record { are = are; same = λ number. refl }

  pub keep_both : (modules : HashMap ℕ Module S) (first old new : Buffers) → KeepModules modules first old → KeepModules modules old new → KeepModules modules first new
  keep_both modules first old new a b = record { are = b.are; same = λ number. b.same number ∙ a.same number }

  -- a buffer that no module has is removed
  pub keep_used : (modules : HashMap ℕ Module S) (old new : Buffers) (key : ℕ) (buffer : BufferState) → AreModules modules old → get old key ≡ Some buffer
      → is_key key (key_of (value_at nat_eq modules buffer.shape.number)) ≡ false → Updates old new key None → KeepModules modules old new
  keep_used modules old new key buffer are bytes_held unused updates = keep_modules modules old new are (λ number m k h e. updates.others k (apart number m k h e)) where
    not_key : (x : Option Module) (m : Module) → x ≡ Some m → m.key ≡ Some key → is_key key (key_of x) ≡ true
    not_key x m h e = ap (λ y. is_key key (key_of y)) h ∙ ap (is_key key) e ∙ same_key key where
      same_key : (n : ℕ) → (n == n) ≡ true
      same_key n = grind arith

    apart : (number : ℕ) (m : Module) (k : ℕ) → value_at nat_eq modules number ≡ Some m → m.key ≡ Some k → k ≢ key
    apart number m k h e f =
        let i = are number m h in
        let b = has_buffer old m.standing m.key key i.backed (e ∙ ap (λ x. Some x) f) in
        let g : buffer ≡ b.buffer = let p = sym bytes_held ∙ b.is in cc in
        let n : buffer.shape.number ≡ number = ap (λ x. x.shape.number) g ∙ (shape_is m.standing b.buffer.shape b.shape_is).number ∙ i.number_is in
        let t = not_key (value_at nat_eq modules buffer.shape.number) m (ap (value_at nat_eq modules) n ∙ h) (e ∙ ap (λ x. Some x) f) in
        cc

-- a buffer more
pub grows_inserted : (old new : Buffers) (key : ℕ) (buffer : BufferState) → get old key ≡ None → Updates old new key (Some buffer) → Grows old new
grows_inserted old new key buffer vacant updates k b h = updates.others k (λ e. let p = sym h ∙ ap (get old) e ∙ vacant in cc) ∙ h

pub grows_same : (old new : Buffers) → new.slots ≡ old.slots → Grows old new
grows_same old new e k b h = ap (λ slots. get (record { slots = slots; vacant_key = 0; capacity = 0 }) k) e ∙ h
