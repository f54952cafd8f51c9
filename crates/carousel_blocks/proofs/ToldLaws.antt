-- Laws of the changes behind a list of messages.
use Rattle.std.proofs.Common.{◌≡◌, ◌≢◌, ℕ, zero, suc, ◌<◌, nat_eq, Bool, true, false, not, ◌&&◌, List, [], ◌∷◌, ◌++◌, map, find, replicate, refl, sym, ap, ap₂, ◌∙◌, arith, eqb-true, if◌then◌else◌}
use Rattle.std.specs.Prelude.{Option, Some, None, is_some, option_map, option_and_then, option_to_list, slice_get, slice_set}
use Rattle.std.specs.List.{range_with_len}
use Rattle.std.specs.List.Sorted.{IsStrictlyIncreasing}
use Rattle.std.specs.Map.{lookup}
use Rattle.std.specs.HashMap.{HashMap, get as value_at}
use Rattle.dsmcc_messages.specs.declared.dii.Dii.{Dii}
use Rattle.dsmcc_messages.specs.Ddb.{DataBlock}
use Rattle.carousel_blocks.specs.declared.put.Put.{Put}
use Rattle.carousel_blocks.specs.declared.put.Put.TheVariants as puts
use Rattle.carousel_blocks.specs.declared.standing.SkipCause.{SkipCause}
use Rattle.carousel_blocks.specs.declared.standing.Standing.{Standing}
use Rattle.carousel_blocks.specs.declared.modules.Module.{Module}
use Rattle.carousel_blocks.specs.declared.changes.Change.{Change}
use Rattle.carousel_blocks.specs.Message.{Message, Indication, Data}
use Rattle.carousel_blocks.specs.InForce.{later, in_force, standings, standing_of, is_of_module}
use Rattle.carousel_blocks.specs.Held.{Kept, kept_module, kept_with, counting_blocks, asked_count, count_of, is_asked, same_standing, unchanged, bytes_by, bytes_kept, bytes_held}
use Rattle.carousel_blocks.specs.Buffers.{is_missing, all_came}
use Rattle.carousel_blocks.specs.Modules.{Buffers, KeepModules, module_kept, kept_at, entries_kept, kept_for, blocks_kept, standing_kept}
use Rattle.carousel_blocks.specs.Changes.{change_of, gone, appeared, change_at, changes, departures, number_bound, completed, line_of, changed}
use Rattle.carousel_blocks.specs.Steps.{TakesBlock, is_wanted, with_block, answer_to, is_in_force, entry_change, entry_change_at, entry_changes, block_change}
use Rattle.carousel_blocks.specs.Carousel.{CarouselState, kept_in, StandsFor, put_after}
use Rattle.carousel_blocks.proofs.BufferLaws.{is_some-joined}
use Rattle.carousel_blocks.proofs.StandingLaws.{same_is_equal, same_standing_yes}
use Rattle.carousel_blocks.proofs.PutLaws.{asks, with_block_not}
use Rattle.carousel_blocks.proofs.HistoryLaws.{in_force-append, later_data, found_number, kept_module-data, kept_module-same, kept_module-other, answer-put}
use Rattle.carousel_blocks.proofs.StandingFor.{stands_block, answers_block, kept_in-view, standing-by, later_same, later_other}
use Rattle.carousel_blocks.proofs.NumberLaws.{increasing-filter_map, filter_map-same, filter_map-none, filter_map-one}

-- ---- a change, by what is kept

-- the change of a module by what is kept of it before and now
abbrev pub change_between : ℕ → Option Kept → Option Kept → Option Change
change_between n old new = change_of n (standing_kept old) (standing_kept new) (option_and_then bytes_kept old) (option_and_then bytes_kept new)

pub standing_of-kept : (h : List Message) (n : ℕ) → standing_of (in_force h) n ≡ standing_kept (kept_module h n)
standing_of-kept h n = by (standing_of (in_force h) n) where
  by : (x : Option Standing) → x ≡ standing_kept (option_map (kept_with (counting_blocks None n h)) x)
  by None = refl
  by (Some s) = refl

pub change_at-kept : (before now : List Message) (n : ℕ) → change_at before now n ≡ change_between n (kept_module before n) (kept_module now n)
unfolding bytes_held
change_at-kept before now n =
    ap₂ (λ (x y : Option Standing). change_of n x y (option_and_then bytes_kept (kept_module before n)) (option_and_then bytes_kept (kept_module now n))) (standing_of-kept before n) (standing_of-kept now n)

-- what stays isn't told
change_between-same : (n : ℕ) (k : Option Kept) → change_between n k k ≡ None
change_between-same n None = refl
change_between-same n (Some k) = by (same_standing k.standing k.standing) (is_some (bytes_kept k)) (same_standing_yes k.standing) where
  by : (t u : Bool) → t ≡ true
      → (if t then (if not u && u then Some (completed n k.standing.entry) else None) else Some (changed n (line_of k.standing (bytes_kept k)))) ≡ None
  by true true e = refl
  by true false e = refl
  by false u e = cc

same_kept : (before now : List Message) (n : ℕ) → kept_module now n ≡ kept_module before n → change_at before now n ≡ None
same_kept before now n e = change_at-kept before now n ∙ ap (change_between n (kept_module before n)) e ∙ change_between-same n (kept_module before n)

nothing_changes : (before now : List Message) → ((n : ℕ) → change_at before now n ≡ None) → changes before now ≡ []
unfolding changes
nothing_changes before now e = filter_map-none (change_at before now) 0 number_bound (λ n l. e n)

pub changes-none : (before now : List Message) → ((n : ℕ) → kept_module now n ≡ kept_module before n) → changes before now ≡ []
changes-none before now e = nothing_changes before now (λ n. same_kept before now n (e n))

pub changes-still : (h : List Message) → [] ≡ changes h h
changes-still h = sym (changes-none h h (λ n. refl))

-- a change names its module
change_number : (n : ℕ) (old new : Option Standing) (was now : Option (List ℕ)) (change : Change) → change_of n old new was now ≡ Some change → change.«module» ≡ n
change_number n None None was now change e = cc
change_number n (Some old) None was now change e = let q : gone n ≡ change = cc in sym (ap (λ x. x.«module») q)
change_number n None (Some new) was now change e = let q : appeared n (line_of new now) ≡ change = cc in sym (ap (λ x. x.«module») q)
change_number n (Some old) (Some new) was now change e = by (same_standing old new) (not (is_some was) && is_some now) e where
  by : (t u : Bool) → (if t then (if u then Some (completed n new.entry) else None) else Some (changed n (line_of new now))) ≡ Some change → change.«module» ≡ n
  by true true h = let q : completed n new.entry ≡ change = cc in sym (ap (λ x. x.«module») q)
  by true false h = cc
  by false u h = let q : changed n (line_of new now) ≡ change = cc in sym (ap (λ x. x.«module») q)

pub changes-increasing : (before now : List Message) → IsStrictlyIncreasing (map (λ (change : Change). change.«module») (changes before now))
unfolding changes
changes-increasing before now =
    increasing-filter_map (change_at before now) (λ change. change.«module»)
    (λ n change e. change_number n (standing_of (in_force before) n) (standing_of (in_force now) n) (bytes_held before n) (bytes_held now n) change e) number_bound

-- the DII in force once more
pub changes-repeated : (h : List Message) (dii : Dii) → later (in_force h) (Indication dii) ≡ in_force h → changes h (h ++ Indication dii ∷ []) ≡ []
changes-repeated h dii e = changes-none h (h ++ Indication dii ∷ []) (λ n. kept_module-same h dii n e)

-- ---- a block

pub not_true : (b : Bool) → (b ≡ true → b ≡ false) → b ≡ false
not_true true h = h refl
not_true false h = refl

standing_number : (f : Option Dii) (n : ℕ) (s : Standing) → standing_of f n ≡ Some s → s.entry.id ≡ n
standing_number None n s h = cc
standing_number (Some dii) n s h = found_number n (standings dii) s h

-- a block changes nothing of other modules
pub kept_module-others : (h : List Message) (block : DataBlock) (n : ℕ) → n ≢ block.«module» → kept_module (h ++ Data block ∷ []) n ≡ kept_module h n
kept_module-others h block n other = kept_module-data h block n ∙ by (standing_of (in_force h) n) (counting_blocks None n h) refl where
  by : (x : Option Standing) (c : List DataBlock) → standing_of (in_force h) n ≡ x → option_map (with_block block) (option_map (kept_with c) x) ≡ option_map (kept_with c) x
  by None c e = refl
  by (Some s) c e =
      ap (λ k. Some k) (with_block_not block (kept_with c s) (not_true (is_asked s block) (λ a.
      absurd (other (sym ((asks s block a).number ∙ standing_number (in_force h) n s e))))))

pub changes-block : (h : List Message) (block : DataBlock) → block.«module» < number_bound → changes h (h ++ Data block ∷ []) ≡ option_to_list (change_at h (h ++ Data block ∷ []) block.«module»)
unfolding changes
changes-block h block fits =
    filter_map-one (change_at h (h ++ Data block ∷ [])) block.«module» 0 number_bound (omega arith) (omega arith) (λ n other. same_kept h (h ++ Data block ∷ []) n (kept_module-others h block n other))

pub missing_one : (blocks : List (Option (List ℕ))) (n : ℕ) → is_missing (slice_get blocks n) ≡ true → all_came blocks ≡ false
missing_one [] n h = cc
missing_one (None ∷ blocks) n h = refl
missing_one (Some b ∷ blocks) zero h = cc
missing_one (Some b ∷ blocks) (suc n) h = missing_one blocks n h

first : (a b : Bool) → (a && b) ≡ true → a ≡ true
first true b h = refl
first false b h = h

second : (a b : Bool) → (a && b) ≡ true → b ≡ true
second true b h = h
second false b h = cc

pub unskipped : (s : Standing) (skip : Option SkipCause) (n : ℕ) → n < asked_count s skip → skip ≡ None
unskipped s None n p = refl
unskipped s (Some cause) n p = absurd (omega arith)

-- what is told of the module that a block is of, by what became of the block
block_told : (n : ℕ) (k : Option Kept) (block : DataBlock) (standing_at : ℕ → Option Standing) → standing_at block.«module» ≡ standing_kept k → n ≡ block.«module»
    → change_between n k (option_map (with_block block) k) ≡ block_change standing_at (answer_to k block)
block_told n None block standing_at there e = refl
block_told n (Some k) block standing_at there e = by (is_wanted k block) refl where
  with : Kept
  with = record { standing = k.standing; blocks = slice_set k.blocks block.number (Some block.block) }

  told : (t u v w : Bool) → t ≡ true → u ≡ false → v ≡ w
      → (if t then (if not u && v then Some (completed n k.standing.entry) else None) else Some (changed n (line_of k.standing (bytes_kept with))))
      ≡ block_change standing_at (if w then puts.Completed block.«module» else puts.Kept)
  told true false true true a b c = ap (λ m. Some (completed m k.standing.entry)) e ∙ sym (ap (option_map (λ (s : Standing). completed block.«module» s.entry)) there)
  told true false false false a b c = refl
  told true false true false a b c = cc
  told true false false true a b c = cc
  told true true v w a b c = cc
  told false u v w a b c = cc

  by : (t : Bool) → is_wanted k block ≡ t
      → change_between n (Some k) (Some (if t then with else k)) ≡ block_change standing_at (if t then (if all_came with.blocks then puts.Completed block.«module» else puts.Kept) else puts.Ignored)
  by true h =
      let asked = first (is_asked k.standing block) (is_missing (slice_get k.blocks block.number)) h in
      let missing = second (is_asked k.standing block) (is_missing (slice_get k.blocks block.number)) h in
      let open_ = unskipped k.standing k.standing.skip block.number (asks k.standing block asked).place in
      told (same_standing k.standing k.standing) (is_some (bytes_kept k)) (is_some (bytes_kept with)) (all_came with.blocks) (same_standing_yes k.standing)
      (ap (λ skip. is_some (bytes_by skip k.blocks)) open_ ∙ is_some-joined k.blocks ∙ missing_one k.blocks block.number missing)
      (ap (λ skip. is_some (bytes_by skip with.blocks)) open_ ∙ is_some-joined with.blocks)
  by false h = change_between-same n (Some k)

pub change_at-block : (h : List Message) (block : DataBlock) → change_at h (h ++ Data block ∷ []) block.«module» ≡ block_change (standing_of (in_force h)) (put_after h block)
change_at-block h block =
    change_at-kept h (h ++ Data block ∷ []) block.«module»
    ∙ ap (change_between block.«module» (kept_module h block.«module»)) (kept_module-data h block block.«module»)
    ∙ block_told block.«module» (kept_module h block.«module») block (standing_of (in_force h)) (standing_of-kept h block.«module») refl
    ∙ ap (block_change (standing_of (in_force h))) (answer-put h block)

-- a block that is held or isn't asked for
pub changes-ignored : (h : List Message) (block : DataBlock) → put_after h block ≡ puts.Ignored → changes h (h ++ Data block ∷ []) ≡ []
changes-ignored h block ignored = nothing_changes h (h ++ Data block ∷ []) (λ n. by n (nat_eq n block.«module») refl) where
  apart : (a b : ℕ) → nat_eq a b ≡ false → a ≢ b
  apart a b f g = grind arith

  by : (n : ℕ) (t : Bool) → nat_eq n block.«module» ≡ t → change_at h (h ++ Data block ∷ []) n ≡ None
  by n true e = ap (change_at h (h ++ Data block ∷ [])) (eqb-true n block.«module» e) ∙ change_at-block h block ∙ ap (block_change (standing_of (in_force h))) ignored
  by n false e = same_kept h (h ++ Data block ∷ []) n (kept_module-others h block n (apart n block.«module» e))

-- ---- another DII

-- a module whose entry is unchanged keeps its bytes
pub bytes_stay : (old : ℕ → Option Kept) (n : ℕ) (k l : Kept) (f : Option Standing) → old n ≡ Some k → ((s : Standing) → f ≡ Some s → s.entry.id ≡ n) → Some l ≡ option_map (kept_for old) f
    → same_standing k.standing l.standing ≡ true → bytes_kept l ≡ bytes_kept k
bytes_stay old n k l None there number is same = cc
bytes_stay old n k l (Some s) there number is same =
    let q : l ≡ kept_for old s = cc in
    let m : old s.entry.id ≡ Some k = ap old (number s refl) ∙ there in
    let standing : l.standing ≡ s = ap (λ x. x.standing) q in
    let known : l.standing ≡ k.standing = sym (same_is_equal k.standing l.standing same) in
    let unmoved : unchanged (Some k.standing) (Some s) ≡ true = ap (λ x. same_standing k.standing x) (sym standing) ∙ same in
    let blocks : l.blocks ≡ k.blocks =
    ap (λ x. x.blocks) q
    ∙ ap (λ (x : Option Kept). if unchanged (standing_kept x) (Some s) then blocks_kept x else replicate (count_of s) None) m
    ∙ ap (λ (t : Bool). if t then k.blocks else replicate (count_of s) None) unmoved in
    ap₂ (λ (x : Standing) (b : List (Option (List ℕ))). bytes_by x.skip b) known blocks

-- so it isn't told
entry_told : (n : ℕ) (x y : Option Kept) → ((k l : Kept) → x ≡ Some k → y ≡ Some l → same_standing k.standing l.standing ≡ true → bytes_kept l ≡ bytes_kept k)
    → entry_change n (standing_kept x) (standing_kept y) (is_some (option_and_then bytes_kept y)) ≡ change_between n x y
entry_told n None None stay = refl
entry_told n (Some k) None stay = refl
entry_told n None (Some l) stay = refl
entry_told n (Some k) (Some l) stay = by (same_standing k.standing l.standing) (stay k l refl refl) where
  other : Change
  other = changed n (line_of l.standing (bytes_kept l))

  no_more : (u v : Bool) → v ≡ u → None ≡ (if not u && v then Some (completed n l.standing.entry) else None)
  no_more true true e = refl
  no_more true false e = refl
  no_more false false e = refl
  no_more false true e = cc

  by : (t : Bool) → (t ≡ true → bytes_kept l ≡ bytes_kept k)
      → (if t then None else Some other) ≡ (if t then (if not (is_some (bytes_kept k)) && is_some (bytes_kept l) then Some (completed n l.standing.entry) else None) else Some other)
  by true e = no_more (is_some (bytes_kept k)) (is_some (bytes_kept l)) (ap is_some (e refl))
  by false e = refl

change_at-other : (h : List Message) (dii : Dii) (n : ℕ) → later (in_force h) (Indication dii) ≡ Some dii → entry_change_at (kept_module h) (kept_module (h ++ Indication dii ∷ [])) n ≡ change_at h (h ++ Indication dii ∷ []) n
change_at-other h dii n e =
    entry_told n (kept_module h n) (kept_module (h ++ Indication dii ∷ []) n)
    (λ k l there is same. bytes_stay (kept_module h) n k l (find (is_of_module n) (standings dii)) there (λ s f. found_number n (standings dii) s f) (sym is ∙ kept_module-other h dii n e) same)
    ∙ sym (change_at-kept h (h ++ Indication dii ∷ []) n)

-- what a carousel tells where another DII comes
pub changes-other : (old new : CarouselState) (dii : Dii) → is_in_force old dii.transaction ≡ false → (h : List Message) → StandsFor old h → StandsFor new (h ++ Indication dii ∷ [])
    → entry_changes (kept_in old) (kept_in new) ≡ changes h (h ++ Indication dii ∷ [])
unfolding entry_changes changes
changes-other old new dii other h s t =
    filter_map-same (entry_change_at (kept_in old) (kept_in new)) (change_at h (h ++ Indication dii ∷ []))
    (λ n. ap₂ (λ (x y : Option Kept). entry_change n (standing_kept x) (standing_kept y) (is_some (option_and_then bytes_kept y))) (s.modules n) (t.modules n)
    ∙ change_at-other h dii n (later_other (in_force h) old.transaction dii s.transaction other))
    (range_with_len 0 number_bound)

-- what it tells where the DII in force comes once more
pub changes-again : (c : CarouselState) (dii : Dii) → is_in_force c dii.transaction ≡ true → (h : List Message) → StandsFor c h → [] ≡ changes h (h ++ Indication dii ∷ [])
changes-again c dii same h s = sym (changes-repeated h dii (later_same (in_force h) c.transaction dii s.transaction same))

-- what it tells of a block
pub changes-put : (old : CarouselState) (block : DataBlock) → block.«module» < number_bound → (h : List Message) → StandsFor old h → option_to_list (block_change (standing_of (in_force h)) (put_after h block)) ≡ changes h (h ++ Data block ∷ [])
changes-put old block fits h s = sym (changes-block h block fits ∙ ap option_to_list (change_at-block h block))

pub told_block : (old new : CarouselState) (block : DataBlock) (answer : Put) → TakesBlock old new block answer → block.«module» < number_bound
    → (change : Option Change) → ((h : List Message) → StandsFor new h → change ≡ block_change (standing_of (in_force h)) answer)
    → (h : List Message) → StandsFor old h → option_to_list change ≡ changes h (h ++ Data block ∷ [])
told_block old new block answer takes fits change is h s =
    ap option_to_list (is (h ++ Data block ∷ []) (stands_block old new block answer takes h s)
    ∙ ap (λ f. block_change (standing_of f) answer) (in_force-append h (Data block) ∙ later_data (in_force h) block)
    ∙ ap (block_change (standing_of (in_force h))) (answers_block old new block answer takes h s))
    ∙ changes-put old block fits h s

-- ---- the component leaves

pub changes-left : (c : CarouselState) (none : ℕ → Option Kept) → ((n : ℕ) → none n ≡ None) → (h : List Message) → StandsFor c h → entry_changes (kept_in c) none ≡ departures h
unfolding entry_changes changes bytes_held
changes-left c none absent h s =
    filter_map-same (entry_change_at (kept_in c) none) (change_at h [])
    (λ n. ap₂ (λ (x y : Option Kept). entry_change n (standing_kept x) (standing_kept y) (is_some (option_and_then bytes_kept y))) (s.modules n) (absent n)
    ∙ by n (kept_module h n) ∙ sym (change_at-kept h [] n))
    (range_with_len 0 number_bound)
  where
    by : (n : ℕ) (x : Option Kept) → entry_change n (standing_kept x) None false ≡ change_between n x None
    by n None = refl
    by n (Some k) = refl

-- ---- what the fields say

module _ {S : Type 0} where
  abbrev pub viewed : Option ℕ → Option ℕ → HashMap ℕ Module S → Buffers → CarouselState
  viewed transaction download modules buffers = record { transaction = transaction; download = download; modules = entries_kept modules buffers }

  pub kept_at-known : (transaction download : Option ℕ) (modules : HashMap ℕ Module S) (buffers : Buffers) (v : CarouselState) → viewed transaction download modules buffers ≡ v → (n : ℕ) → kept_at modules buffers n ≡ kept_in v n
  kept_at-known transaction download modules buffers v e n = sym (kept_in-view transaction download modules buffers n) ∙ ap (λ x. kept_in x n) e

  -- the changes between the modules are those between what is kept
  pub changes_by : (transaction next_transaction download next_download : Option ℕ) (modules next : HashMap ℕ Module S) (old between new : Buffers) (v : CarouselState) → viewed transaction download modules old ≡ v → KeepModules next between new
      → entry_changes (kept_at modules old) (kept_at next between) ≡ entry_changes (kept_in v) (kept_in (viewed next_transaction next_download next new))
  changes_by transaction next_transaction download next_download modules next old between new v e keep =
      ap₂ entry_changes (λ i n. kept_at-known transaction download modules old v e n i)
      (λ i n. (sym (keep.same n) ∙ sym (kept_in-view next_transaction next_download next new n)) i)

  pub changes-left_by : (transaction download : Option ℕ) (modules none : HashMap ℕ Module S) (buffers : Buffers) (v : CarouselState) → viewed transaction download modules buffers ≡ v → none.entries ≡ []
      → (h : List Message) → StandsFor v h → entry_changes (kept_at modules buffers) (kept_at none buffers) ≡ departures h
  changes-left_by transaction download modules none buffers v e nothing h s =
      ap (λ (old : ℕ → Option Kept). entry_changes old (kept_at none buffers)) (λ i n. kept_at-known transaction download modules buffers v e n i)
      ∙ changes-left v (kept_at none buffers) (λ n. ap (λ (es : List (ℕ × Module)). option_map (module_kept buffers) (lookup (nat_eq n) es)) nothing) h s

  -- what is said of the module that a block completed
  pub block_change_by : (transaction download : Option ℕ) (modules : HashMap ℕ Module S) (buffers : Buffers) (v : CarouselState) → viewed transaction download modules buffers ≡ v → (h : List Message) → StandsFor v h → (n : ℕ) (x : Option Standing)
      → x ≡ option_map (λ m. m.standing) (value_at nat_eq modules n) → option_map (λ s. completed n s.entry) x ≡ block_change (standing_of (in_force h)) (puts.Completed n)
  block_change_by transaction download modules buffers v e h s n x is =
      ap (option_map (λ s. completed n s.entry)) (is ∙ sym (standing-by transaction download modules buffers v e h n s))
