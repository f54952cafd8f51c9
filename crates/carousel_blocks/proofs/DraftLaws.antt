-- Laws of the modules that are made of a DII's entries.
use Rattle.std.proofs.Common.{◌≡◌, ℕ, zero, suc, ◌+◌, ◌*◌, ◌≤◌, nat_eq, nat_lt, Bool, true, false, ◌||◌, List, [], ◌∷◌, ◌++◌, replicate, refl, sym, ap, ap₂, ◌∙◌, subst, arith, eqb-true, if◌then◌else◌, cond, find, fold}
use Rattle.std.specs.Prelude.{Option, Some, None, is_some, option_map}
use Rattle.std.specs.List.{list_any}
use Rattle.std.specs.Option.{option_or}
use Rattle.std.specs.HashMap.{HashMap, get as value_at, Updates}
use Rattle.std.specs.Map.{lookup}
use Rattle.std.proofs.lemmas.List.Folds.{find-append}
use Rattle.slab.specs.Slab.{get}
use Rattle.dsmcc_messages.specs.declared.entry.Entry.{Entry}
use Rattle.dsmcc_messages.specs.declared.dii.Dii.{Dii}
use Rattle.carousel_blocks.specs.declared.standing.SkipCause.{SkipCause}
use Rattle.carousel_blocks.specs.declared.standing.SkipCause.TheVariants.{Compressed, Large}
use Rattle.carousel_blocks.specs.declared.standing.Standing.{Standing}
use Rattle.carousel_blocks.specs.declared.buffer.Shape.{Shape}
use Rattle.carousel_blocks.specs.declared.modules.Module.{Module}
use Rattle.carousel_blocks.specs.declared.modules.Draft.{Draft}
use Rattle.carousel_blocks.specs.InForce.{block_count, is_large, is_compressed, skip_standing, counted_size, unskipped_size, is_of_module, with_entry}
use Rattle.carousel_blocks.specs.Held.{Kept, count_of, asked_count, same_standing}
use Rattle.carousel_blocks.specs.Buffers.{BufferState, shape_count, without_blocks}
use Rattle.carousel_blocks.specs.Modules.{Buffers, blocks_of, blocks_at, module_kept, shape_by, shape_of, IsBacked, IsModule, kept_at, KeepModules, Grows, Covers, blocks_for, kept_for}
use Rattle.carousel_blocks.specs.Drafts.{HaveStandings, IsDraft, carried_of}
use Rattle.carousel_blocks.proofs.BufferLaws.{covered}
use Rattle.carousel_blocks.proofs.ModuleLaws.{shape_is, keep_grown}
use Rattle.carousel_blocks.proofs.StandingLaws.{same_is_equal}

-- ---- the key of a module

pub record Carried (x : Option Module) (s : Standing) (m : Module) : Type 0 where
  pub there : x ≡ Some m
  pub same : same_standing m.standing s ≡ true
  pub standing : m.standing ≡ s

pub carried_some : (x : Option Module) (s : Standing) (m : Module) → Some m ≡ carried_of x s → Carried x s m
carried_some None s m h = cc
carried_some (Some n) s m h = by (same_standing n.standing s) refl h where
  by : (b : Bool) → same_standing n.standing s ≡ b → ◌≡◌ {A = Option Module} (Some m) (if b then Some n else None) → Carried (Some n) s m
  by true e h =
      let f : n ≡ m = cc in
      let t : same_standing m.standing s ≡ true = ap (λ x. same_standing x.standing s) (sym f) ∙ e in
      record { there = ap (λ x. Some x) f; same = t; standing = same_is_equal m.standing s t }
  by false e h = cc

-- the module's blocks go on where it is carried
pub carried_blocks : (buffers : Buffers) (x : Option Module) (s : Standing) (m : Module) → Some m ≡ carried_of x s → blocks_at buffers m.key ≡ blocks_for (option_map (module_kept buffers) x) s
carried_blocks buffers x s m h =
    let k = carried_some x s m h in
    sym (ap (λ y. blocks_for (option_map (module_kept buffers) y) s) k.there ∙ ap (λ (b : Bool). if b then blocks_at buffers m.key else replicate (count_of s) None) k.same)

pub fresh_blocks : (buffers : Buffers) (x : Option Module) (s : Standing) → None ≡ carried_of x s → replicate (count_of s) None ≡ blocks_for (option_map (module_kept buffers) x) s
fresh_blocks buffers None s h = refl
fresh_blocks buffers (Some m) s h = by (same_standing m.standing s) h where
  by : (b : Bool) → ◌≡◌ {A = Option Module} None (if b then Some m else None) → replicate (count_of s) None ≡ (if b then blocks_at buffers m.key else replicate (count_of s) None)
  by true h = cc
  by false h = refl

pub skipped_count : (s : Standing) → shape_of s ≡ None → count_of s ≡ 0
skipped_count s h = by s.skip h where
  by : (skip : Option SkipCause) → shape_by s skip ≡ None → asked_count s skip ≡ 0
  by None h = cc
  by (Some cause) h = refl

pub fresh_count : (s : Standing) (shape : Shape) → shape_of s ≡ Some shape → shape_count shape ≡ count_of s
fresh_count s shape h =
    let i = shape_is s shape h in
    ap₂ block_count i.block_size i.size ∙ sym (ap (asked_count s) i.unskipped)

pub fresh_covers : (s : Standing) (shape : Shape) → Covers s → shape_of s ≡ Some shape → shape.size ≤ shape_count shape * shape.block_size
fresh_covers s shape covers h =
    let i = shape_is s shape h in
    let c = covers i.unskipped in
    let e : shape_count shape ≡ block_count s.block_size s.entry.size = ap₂ block_count i.block_size i.size in
    rw (e, i.size, i.block_size) c

pub fresh_backed : (buffers : Buffers) (s : Standing) (shape : Shape) (key : ℕ) (buffer : BufferState) → shape_of s ≡ Some shape → get buffers key ≡ Some buffer → buffer ≡ without_blocks shape → IsBacked buffers s (Some key)
fresh_backed buffers s shape key buffer h p e =
    ap (λ (x : Option BufferState). Some (option_map (λ b. b.shape) x)) p ∙ ap (λ (x : BufferState). Some (Some x.shape)) e ∙ ap (option_map (λ (x : Shape). Some x)) (sym h)

pub fresh_at : (buffers : Buffers) (x : Option Module) (s : Standing) (shape : Shape) (old : Buffers) (key : ℕ) (buffer : BufferState) → None ≡ carried_of x s → shape_of s ≡ Some shape → get buffers key ≡ Some buffer → buffer ≡ without_blocks shape
    → blocks_at buffers (Some key) ≡ blocks_for (option_map (module_kept old) x) s
fresh_at buffers x s shape old key buffer absent h p e =
    ap blocks_of p ∙ ap (λ b. b.blocks) e ∙ ap (λ n. replicate n None) (fresh_count s shape h) ∙ fresh_blocks old x s absent

pub skipped_at : (x : Option Module) (s : Standing) (old : Buffers) → None ≡ carried_of x s → shape_of s ≡ None → ◌≡◌ {A = List (Option (List ℕ))} [] (blocks_for (option_map (module_kept old) x) s)
skipped_at x s old absent h = ap (λ n. replicate n None) (sym (skipped_count s h)) ∙ fresh_blocks old x s absent

-- ---- the entries

-- an entry that isn't skipped keeps the sum within the limit, and its blocks make it up
pub within_sum : (block_size before : ℕ) (entry : Entry) → before ≤ 33554432 → before + counted_size (skip_standing block_size before entry) entry.size ≤ 33554432
within_sum block_size before entry h = by (is_compressed entry) (is_large block_size entry.size) (nat_lt 33554432 (before + entry.size)) refl where
  by : (a b c : Bool) → nat_lt 33554432 (before + entry.size) ≡ c → before + counted_size (if a then Some Compressed else (if b || c then Some Large else None)) entry.size ≤ 33554432
  by true b c e = grind arith
  by false true c e = grind arith
  by false false true e = grind arith
  by false false false e = grind arith

pub covers_made : (download block_size before : ℕ) (entry : Entry) (s : Standing) → s ≡ record { download = download; block_size = block_size; entry = entry; skip = skip_standing block_size before entry } → Covers s
covers_made download block_size before entry s e = subst (λ (x : Standing). Covers x) (sym e) (by block_size (is_compressed entry) (nat_lt 33554432 (before + entry.size))) where
  by : (n : ℕ) (a c : Bool) → (if a then Some Compressed else (if is_large n entry.size || c then Some Large else None)) ≡ None → entry.size ≤ block_count n entry.size * n
  by n true c h = cc
  by zero false c h = none (nat_lt 0 entry.size) refl h where
    none : (b : Bool) → nat_lt 0 entry.size ≡ b → (if b || c then Some Large else None) ≡ None → entry.size ≤ 0 * 0
    none true e h = cc
    none false e h = grind arith
  by (suc n) false c h = covered n entry.size

pub unskipped_size-append : (before : List Standing) (s : Standing) → unskipped_size (before ++ s ∷ []) ≡ unskipped_size before + counted_size s.skip s.entry.size
unskipped_size-append [] s = grind arith
unskipped_size-append (x ∷ before) s = let e = unskipped_size-append before s in omega (arith, e)

pub list_any-find : {A : Type 0} (p : A → Bool) (xs : List A) → list_any p xs ≡ is_some (find p xs)
list_any-find p [] = refl
list_any-find p (x ∷ xs) = elim (p x) as (λ (b : Bool). (b || list_any p xs) ≡ is_some (cond b (Some x) (find p xs))) [ true ↦ refl | false ↦ list_any-find p xs ]

pub is_some-option_map : {A B : Type 0} (f : A → B) (x : Option A) → is_some (option_map f x) ≡ is_some x
is_some-option_map f None = refl
is_some-option_map f (Some a) = refl

pub fold-append : {A B : Type 0} (f : B → A → B) (b : B) (xs : List A) (x : A) → fold f b (xs ++ x ∷ []) ≡ f (fold f b xs) x
fold-append f b [] x = refl
fold-append f b (y ∷ xs) x = fold-append f (f b y) xs x

module _ {S : Type 0} where
  -- whether the entry's number came before
  pub came_before : (kept : ℕ → Option Kept) (before : List Standing) (modules : HashMap ℕ Module S) (buffers : Buffers) (id : ℕ) → HaveStandings kept before modules buffers → list_any (is_of_module id) before ≡ is_some (value_at nat_eq modules id)
  came_before kept before modules buffers id have =
      list_any-find (is_of_module id) before ∙ sym (is_some-option_map (kept_for kept) (find (is_of_module id) before))
      ∙ ap is_some (sym (have.kept_is id)) ∙ is_some-option_map (module_kept buffers) (value_at nat_eq modules id)

pub draft_again : (dii : Dii) (kept : ℕ → Option Kept) (before : List Standing) (draft : Draft) (buffers : Buffers) (entry : Entry) → is_some (value_at nat_eq draft.modules entry.id) ≡ true → IsDraft dii kept before draft buffers → IsDraft dii kept (with_entry dii before entry) draft buffers
draft_again dii kept before draft buffers entry there is =
    let e : list_any (is_of_module entry.id) before ≡ true = came_before kept before draft.modules buffers entry.id is.modules ∙ there in
    let s : Standing = record { download = dii.download; block_size = dii.block_size; entry = entry; skip = skip_standing dii.block_size (unskipped_size before) entry } in
    subst (λ (l : List Standing). IsDraft dii kept l draft buffers) (sym (ap (λ (b : Bool). if b then before else before ++ s ∷ []) e)) is

option_or-None : {A : Type 0} (x : Option A) → option_or x None ≡ x
option_or-None None = refl
option_or-None (Some x) = refl

abbrev stand : ℕ → ℕ → ℕ → Entry → Standing
stand download block_size before entry = record { download = download; block_size = block_size; entry = entry; skip = skip_standing block_size before entry }

none_there : {A : Type 0} (x : Option A) → is_some x ≡ false → x ≡ None
none_there None h = refl
none_there (Some a) h = cc

-- a draft with one module more
pub draft_more : (dii : Dii) (kept : ℕ → Option Kept) (before : List Standing) (draft more : Draft) (buffers new : Buffers) (entry : Entry) (s : Standing) (key : Option ℕ)
    → is_some (value_at nat_eq draft.modules entry.id) ≡ false
    → s ≡ record { download = draft.download; block_size = draft.block_size; entry = entry; skip = skip_standing draft.block_size draft.size entry }
    → Grows buffers new → IsBacked new s key → blocks_at new key ≡ blocks_for (kept s.entry.id) s
    → more.download ≡ draft.download → more.block_size ≡ draft.block_size → more.size ≡ draft.size + counted_size s.skip s.entry.size
    → Updates nat_eq draft.modules more.modules s.entry.id (Some (record { standing = s; key = key }))
    → IsDraft dii kept before draft buffers → IsDraft dii kept (with_entry dii before entry) more new
draft_more dii kept before draft more buffers new entry s key absent made grows backed blocks hd hb hs updates is =
    subst (λ (l : List Standing). IsDraft dii kept l more new) (sym (ap (λ (b : Bool). if b then before else before ++ s0 ∷ []) before_not ∙ ap (λ (x : Standing). before ++ x ∷ []) (sym same_s))) (record {
      download = hd ∙ is.download;
      block_size = hb ∙ is.block_size;
      size = hs ∙ ap (λ n. n + counted_size s.skip s.entry.size) is.size ∙ sym (unskipped_size-append before s);
      modules = record { are = λ number m h. are_by number m h (nat_eq s.entry.id number) refl; kept_is = λ number. kept_by number (nat_eq s.entry.id number) refl };
    })
  where
    s0 : Standing
    s0 = record { download = dii.download; block_size = dii.block_size; entry = entry; skip = skip_standing dii.block_size (unskipped_size before) entry }

    before_not : list_any (is_of_module entry.id) before ≡ false
    before_not = came_before kept before draft.modules buffers entry.id is.modules ∙ absent

    same_s : s ≡ record { download = dii.download; block_size = dii.block_size; entry = entry; skip = skip_standing dii.block_size (unskipped_size before) entry }
    same_s = made ∙ (λ i. stand (is.download i) (is.block_size i) (is.size i) entry)

    keep : KeepModules draft.modules buffers new
    keep = keep_grown draft.modules buffers new is.modules.are grows

    found : (number : ℕ) (b : Bool) → nat_eq s.entry.id number ≡ b → value_at nat_eq more.modules number ≡ cond b (Some (record { standing = s; key = key })) (value_at nat_eq draft.modules number)
    found number b e = updates.0 number ∙ ap (λ (t : Bool). cond t (Some (record { standing = s; key = key })) (value_at nat_eq draft.modules number)) e

    are_by : (number : ℕ) (m : Module) → value_at nat_eq more.modules number ≡ Some m → (b : Bool) → nat_eq s.entry.id number ≡ b → IsModule new number m
    are_by number m h true e =
        let it : Module = record { standing = s; key = key } in
        let p = sym (found number true e) ∙ h in
        let q : it ≡ m = cc in
        let n : s.entry.id ≡ number = eqb-true s.entry.id number e in
        subst (IsModule new number) q (record { number_is = n; backed = backed })
    are_by number m h false e = keep.are number m (sym (found number false e) ∙ h)

    kept_by : (number : ℕ) (b : Bool) → nat_eq s.entry.id number ≡ b → kept_at more.modules new number ≡ option_map (kept_for kept) (find (is_of_module number) (before ++ s ∷ []))
    kept_by number true e =
        let n : entry.id ≡ number = sym (ap (λ x. x.entry.id) made) ∙ eqb-true s.entry.id number e in
        let none : find (is_of_module number) before ≡ None = none_there (find (is_of_module number) before) (sym (list_any-find (is_of_module number) before) ∙ ap (λ k. list_any (is_of_module k) before) (sym n) ∙ before_not) in
        ap (option_map (module_kept new)) (found number true e)
        ∙ ap (λ (l : List (Option (List ℕ))). Some (let k : Kept = record { standing = s; blocks = l } in k)) blocks
        ∙ sym (ap (option_map (kept_for kept)) (find-append (is_of_module number) before (s ∷ [])
        ∙ ap₂ (λ (x : Option Standing) (t : Bool). option_or x (cond t (Some s) None)) none e))
    kept_by number false e =
        ap (option_map (module_kept new)) (found number false e)
        ∙ keep.same number ∙ is.modules.kept_is number
        ∙ sym (ap (option_map (kept_for kept)) (find-append (is_of_module number) before (s ∷ [])
        ∙ ap (λ (t : Bool). option_or (find (is_of_module number) before) (cond t (Some s) None)) e
        ∙ option_or-None (find (is_of_module number) before)))

-- a draft of which no entry came
pub draft_none : (dii : Dii) (kept : ℕ → Option Kept) (draft : Draft) (buffers : Buffers) → draft.modules.entries ≡ [] → draft.download ≡ dii.download → draft.block_size ≡ dii.block_size → draft.size ≡ 0 → IsDraft dii kept [] draft buffers
draft_none dii kept draft buffers h hd hb hs = record {
  download = hd;
  block_size = hb;
  size = hs;
  modules = record {
    are = λ number m e. let p = sym (nothing number) ∙ e in cc;
    kept_is = λ number. ap (option_map (module_kept buffers)) (nothing number);
  };
} where
  nothing : (number : ℕ) → value_at nat_eq draft.modules number ≡ None
  nothing number = ap (lookup (nat_eq number)) h
