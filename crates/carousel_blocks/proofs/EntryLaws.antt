-- Laws of the modules behind one message more: which stay, which are new, and which one a block makes whole.
use Rattle.std.proofs.Common.{◌≡◌, ◌≢◌, ℕ, zero, suc, ◌==◌, nat_eq, Bool, true, false, not, ◌&&◌, List, [], ◌∷◌, ◌++◌, find, replicate, refl, sym, ap, ap₂, ◌∙◌, arith, eqb-true, if◌then◌else◌, ◌⊎◌, inl, inr}
use Rattle.std.specs.Prelude.{Option, Some, None, is_some, option_map, option_and_then, slice_get, slice_set}
use Rattle.dsmcc_messages.specs.declared.dii.Dii.{Dii}
use Rattle.dsmcc_messages.specs.Ddb.{DataBlock}
use Rattle.carousel_blocks.specs.declared.put.Put.TheVariants as puts
use Rattle.carousel_blocks.specs.declared.standing.SkipCause.{SkipCause}
use Rattle.carousel_blocks.specs.declared.standing.Standing.{Standing}
use Rattle.carousel_blocks.specs.declared.changes.Change.{Change}
use Rattle.carousel_blocks.specs.Message.{Message, Indication, Data}
use Rattle.carousel_blocks.specs.InForce.{later, in_force, standings, standing_of, is_of_module}
use Rattle.carousel_blocks.specs.Held.{Kept, kept_module, is_asked, count_of, joined_bytes, same_standing, unchanged, bytes_by, bytes_kept, bytes_held}
use Rattle.carousel_blocks.specs.Buffers.{is_missing, all_came}
use Rattle.carousel_blocks.specs.Modules.{kept_for, blocks_kept, standing_kept}
use Rattle.carousel_blocks.specs.Changes.{gone, appeared, changed, completed, line_of, change_at}
use Rattle.carousel_blocks.specs.Steps.{is_wanted, with_block, answer_to, whole_to, block_change}
use Rattle.carousel_blocks.specs.Carousel.{entry_in_force, put_after}
use Rattle.carousel_blocks.specs.Staging.{IsSameModule, whole_by, whole_with}
use Rattle.carousel_blocks.proofs.BufferLaws.{is_some-joined, joined_none}
use Rattle.carousel_blocks.proofs.StandingLaws.{same_is_equal, same_standing_yes}
use Rattle.carousel_blocks.proofs.HistoryLaws.{in_force-append, later_data, found_number, kept_module-data, kept_module-same, kept_module-other, answer-put}
use Rattle.carousel_blocks.proofs.ToldLaws.{change_between, change_at-kept, change_at-block, standing_of-kept, missing_one, not_true, kept_module-others, bytes_stay}
use Rattle.carousel_blocks.proofs.StageLaws.{held_is, whole-known}

-- ---- one message more

-- a DII counts as absent, or is in force
later_cases : (f : Option Dii) (dii : Dii) → (later f (Indication dii) ≡ f) ⊎ (later f (Indication dii) ≡ Some dii)
later_cases None dii = inr refl
later_cases (Some g) dii = by (dii.transaction == g.transaction) where
  by : (t : Bool) → (◌≡◌ {A = Option Dii} (Some (if t then g else dii)) (Some g)) ⊎ (◌≡◌ {A = Option Dii} (Some (if t then g else dii)) (Some dii))
  by true = inl refl
  by false = inr refl

came_one : (blocks : List (Option (List ℕ))) (n : ℕ) → all_came blocks ≡ true → is_missing (slice_get blocks n) ≡ false
came_one blocks n h = not_true (is_missing (slice_get blocks n)) (λ m. absurd (let p = sym h ∙ missing_one blocks n m in cc))

all_held : (k : Kept) (bytes : List ℕ) → bytes_kept k ≡ Some bytes → all_came k.blocks ≡ true
all_held k bytes h = by k.standing.skip h where
  by : (skip : Option SkipCause) → bytes_by skip k.blocks ≡ Some bytes → all_came k.blocks ≡ true
  by None e = sym (is_some-joined k.blocks) ∙ ap is_some e
  by (Some cause) e = cc

-- a block more changes nothing of a module that is held
with_block_held : (k : Kept) (block : DataBlock) (bytes : List ℕ) → bytes_kept k ≡ Some bytes → with_block block k ≡ k
with_block_held k block bytes h =
    ap (λ (t : Bool). if is_asked k.standing block && t then (let with : Kept = record { standing = k.standing; blocks = slice_set k.blocks block.number (Some block.block) } in with) else k) (came_one k.blocks block.number (all_held k bytes h))
    ∙ by (is_asked k.standing block) where
      by : (t : Bool) → (if t && false then (let with : Kept = record { standing = k.standing; blocks = slice_set k.blocks block.number (Some block.block) } in with) else k) ≡ k
      by true = refl
      by false = refl

with_block_standing : (block : DataBlock) (k : Kept) → (with_block block k).standing ≡ k.standing
with_block_standing block k = by (is_wanted k block) where
  by : (t : Bool) → (if t then (let with : Kept = record { standing = k.standing; blocks = slice_set k.blocks block.number (Some block.block) } in with) else k).standing ≡ k.standing
  by true = refl
  by false = refl

the_kept : (x y : Option Kept) (k l : Kept) → x ≡ y → x ≡ Some k → y ≡ Some l → l ≡ k
the_kept x y k l e a b = let p = sym b ∙ sym e ∙ a in cc

-- a module that is held stays held with the same bytes, as long as its entry stays the same
bytes_last : (h : List Message) (x : Message) (n : ℕ) (k l : Kept) → kept_module h n ≡ Some k → kept_module (h ++ x ∷ []) n ≡ Some l → same_standing k.standing l.standing ≡ true
    → (bytes : List ℕ) → bytes_kept k ≡ Some bytes → bytes_kept l ≡ Some bytes
bytes_last h (Data block) n k l there now same bytes e =
    let q : l ≡ with_block block k = the_kept (option_map (with_block block) (kept_module h n)) (kept_module (h ++ Data block ∷ []) n) (with_block block k) l (sym (kept_module-data h block n)) (ap (option_map (with_block block)) there) now in
    ap bytes_kept (q ∙ with_block_held k block bytes e) ∙ e
bytes_last h (Indication dii) n k l there now same bytes e = by (later_cases (in_force h) dii) where
  by : (later (in_force h) (Indication dii) ≡ in_force h) ⊎ (later (in_force h) (Indication dii) ≡ Some dii) → bytes_kept l ≡ Some bytes
  by (inl f) = ap bytes_kept (the_kept (kept_module h n) (kept_module (h ++ Indication dii ∷ []) n) k l (sym (kept_module-same h dii n f)) there now) ∙ e
  by (inr f) = bytes_stay (kept_module h) n k l (find (is_of_module n) (standings dii)) there (λ s g. found_number n (standings dii) s g) (sym now ∙ kept_module-other h dii n f) same ∙ e

nothing_joined : (count : ℕ) (bytes : List ℕ) → joined_bytes (replicate count None) ≡ Some bytes → bytes ≡ []
nothing_joined zero bytes h = cc
nothing_joined (suc count) bytes h = cc

nothing_held : (skip : Option SkipCause) (count : ℕ) (bytes : List ℕ) → bytes_by skip (replicate count None) ≡ Some bytes → bytes ≡ []
nothing_held None count bytes h = nothing_joined count bytes h
nothing_held (Some cause) count bytes h = cc

-- a module whose entry is new or another one, and that is held at once, has no bytes
fresh_bytes : (h : List Message) (x : Message) (n : ℕ) (l : Kept) → kept_module (h ++ x ∷ []) n ≡ Some l → unchanged (standing_kept (kept_module h n)) (Some l.standing) ≡ false
    → (bytes : List ℕ) → bytes_kept l ≡ Some bytes → bytes ≡ []
fresh_bytes h (Data block) n l now other bytes e = by (kept_module h n) (kept_module (h ++ Data block ∷ []) n) (kept_module-data h block n) now other where
  by : (x y : Option Kept) → y ≡ option_map (with_block block) x → y ≡ Some l → unchanged (standing_kept x) (Some l.standing) ≡ false → bytes ≡ []
  by None y d now other = cc
  by (Some k) y d now other =
      let q : l ≡ with_block block k = the_kept (Some (with_block block k)) y (with_block block k) l (sym d) refl now in
      let p = sym (same_standing_yes k.standing) ∙ ap (same_standing k.standing) (sym (ap (λ z. z.standing) q ∙ with_block_standing block k)) ∙ other in cc
fresh_bytes h (Indication dii) n l now other bytes e = by (later_cases (in_force h) dii) where
  still : (x : Option Kept) → x ≡ Some l → unchanged (standing_kept x) (Some l.standing) ≡ false → bytes ≡ []
  still x is other = let p = sym (same_standing_yes l.standing) ∙ sym (ap (λ y. unchanged (standing_kept y) (Some l.standing)) is) ∙ other in cc

  replaced : (f : Option Standing) → ((s : Standing) → f ≡ Some s → s.entry.id ≡ n) → option_map (kept_for (kept_module h)) f ≡ Some l → bytes ≡ []
  replaced None number is = cc
  replaced (Some s) number is =
      let q : l ≡ kept_for (kept_module h) s = let p = is in cc in
      let moved : unchanged (standing_kept (kept_module h s.entry.id)) (Some s) ≡ false =
      ap₂ (λ (m : ℕ) (z : Standing). unchanged (standing_kept (kept_module h m)) (Some z)) (number s refl) (sym (ap (λ z. z.standing) q)) ∙ other in
      let blocks : l.blocks ≡ replicate (count_of s) None =
      ap (λ z. z.blocks) q ∙ ap (λ (t : Bool). if t then blocks_kept (kept_module h s.entry.id) else replicate (count_of s) None) moved in
      nothing_held l.standing.skip (count_of s) bytes (sym (ap (bytes_by l.standing.skip) blocks) ∙ e)

  by : (later (in_force h) (Indication dii) ≡ in_force h) ⊎ (later (in_force h) (Indication dii) ≡ Some dii) → bytes ≡ []
  by (inl f) = still (kept_module h n) (sym (kept_module-same h dii n f) ∙ now) other
  by (inr f) = replaced (find (is_of_module n) (standings dii)) (λ s g. found_number n (standings dii) s g) (sym (kept_module-other h dii n f) ∙ now)

-- ---- no change

record Same (x y : Option Kept) : Type 0 where
  standing : standing_kept y ≡ standing_kept x
  bytes : option_and_then bytes_kept y ≡ option_and_then bytes_kept x

same_between : (n : ℕ) (x y : Option Kept) → ((k l : Kept) → x ≡ Some k → y ≡ Some l → same_standing k.standing l.standing ≡ true → (bytes : List ℕ) → bytes_kept k ≡ Some bytes → bytes_kept l ≡ Some bytes)
    → change_between n x y ≡ None → Same x y
same_between n None None last h = record { standing = refl; bytes = refl }
same_between n (Some k) None last h = cc
same_between n None (Some l) last h = cc
same_between n (Some k) (Some l) last h = by (same_standing k.standing l.standing) refl (bytes_kept k) (bytes_kept l) refl refl h where
  by : (t : Bool) → same_standing k.standing l.standing ≡ t → (was now : Option (List ℕ)) → bytes_kept k ≡ was → bytes_kept l ≡ now
      → (if t then (if not (is_some was) && is_some now then Some (completed n l.standing.entry) else None) else Some (changed n (line_of l.standing now))) ≡ None → Same (Some k) (Some l)
  by false f was now p q e = cc
  by true f None None p q e = record { standing = ap (λ s. Some s) (sym (same_is_equal k.standing l.standing f)); bytes = q ∙ sym p }
  by true f None (Some b) p q e = cc
  by true f (Some b) now p q e = record { standing = ap (λ s. Some s) (sym (same_is_equal k.standing l.standing f)); bytes = last k l refl refl f b p ∙ sym p }

pub same_module : (h : List Message) (x : Message) (n : ℕ) → change_at h (h ++ x ∷ []) n ≡ None → IsSameModule h (h ++ x ∷ []) n
same_module h x n none =
    let same = same_between n (kept_module h n) (kept_module (h ++ x ∷ []) n) (λ k l a b s bytes e. bytes_last h x n k l a b s bytes e) (sym (change_at-kept h (h ++ x ∷ []) n) ∙ none) in
    let standing = standing_of-kept (h ++ x ∷ []) n ∙ same.standing ∙ sym (standing_of-kept h n) in
    record {
      info = ap (λ s. option_map (λ entry. entry.info) (option_map (λ (z : Standing). z.entry) s)) standing;
      skip = ap (option_and_then (λ (s : Standing). s.skip)) standing;
      bytes = held_is (h ++ x ∷ []) n ∙ same.bytes ∙ sym (held_is h n);
    }

-- ---- a new entry

fresh_between : (n : ℕ) (x y : Option Kept) (change : Change) → change_between n x y ≡ Some change → is_some change.status ≡ true → (bytes : List ℕ) → option_and_then bytes_kept y ≡ Some bytes
    → ((l : Kept) → y ≡ Some l → unchanged (standing_kept x) (Some l.standing) ≡ false → bytes_kept l ≡ Some bytes → bytes ≡ []) → bytes ≡ []
fresh_between n x None change h status bytes e fresh = cc
fresh_between n None (Some l) change h status bytes e fresh = fresh l refl refl e
fresh_between n (Some k) (Some l) change h status bytes e fresh = by (same_standing k.standing l.standing) refl (not (is_some (bytes_kept k)) && is_some (bytes_kept l)) h where
  by : (t : Bool) → same_standing k.standing l.standing ≡ t → (u : Bool)
      → (if t then (if u then Some (completed n l.standing.entry) else None) else Some (changed n (line_of l.standing (bytes_kept l)))) ≡ Some change → bytes ≡ []
  by true f true g = let q : completed n l.standing.entry ≡ change = cc in let p = ap (λ (z : Change). is_some z.status) q ∙ status in cc
  by true f false g = cc
  by false f u g = fresh l refl f e

pub new_entry : (h : List Message) (x : Message) (n : ℕ) (change : Change) (bytes : List ℕ) → change_at h (h ++ x ∷ []) n ≡ Some change → is_some change.status ≡ true → bytes_held (h ++ x ∷ []) n ≡ Some bytes → bytes ≡ []
new_entry h x n change bytes told status e =
    fresh_between n (kept_module h n) (kept_module (h ++ x ∷ []) n) change (sym (change_at-kept h (h ++ x ∷ []) n) ∙ told) status bytes (sym (held_is (h ++ x ∷ []) n) ∙ e)
    (λ l now other b. fresh_bytes h x n l now other bytes b)

-- ---- the last block

-- an entry that stays, and what is held of its module before and now
pub record Completes (x y : Option Kept) : Type 0 where
  pub old : Kept
  pub new : Kept
  pub there : x ≡ Some old
  pub now : y ≡ Some new
  pub same : same_standing old.standing new.standing ≡ true
  pub lacks : bytes_kept old ≡ None
  pub bytes : List ℕ
  pub whole : bytes_kept new ≡ Some bytes

completes : (n : ℕ) (x y : Option Kept) (change : Change) → change_between n x y ≡ Some change → change.status ≡ None → Completes x y
completes n None None change h status = cc
completes n (Some k) None change h status = let q : gone n ≡ change = cc in absurd (let p = ap (λ (z : Change). z.status) q ∙ status in cc)
completes n None (Some l) change h status = let q : appeared n (line_of l.standing (bytes_kept l)) ≡ change = cc in absurd (let p = ap (λ (z : Change). z.status) q ∙ status in cc)
completes n (Some k) (Some l) change h status = by (same_standing k.standing l.standing) refl (bytes_kept k) (bytes_kept l) refl refl h where
  by : (t : Bool) → same_standing k.standing l.standing ≡ t → (was now : Option (List ℕ)) → bytes_kept k ≡ was → bytes_kept l ≡ now
      → (if t then (if not (is_some was) && is_some now then Some (completed n l.standing.entry) else None) else Some (changed n (line_of l.standing now))) ≡ Some change → Completes (Some k) (Some l)
  by false f was now p q e = let g : changed n (line_of l.standing now) ≡ change = cc in absurd (let r = ap (λ (z : Change). z.status) g ∙ status in cc)
  by true f None None p q e = cc
  by true f (Some b) now p q e = cc
  by true f None (Some b) p q e = record { old = k; new = l; there = refl; now = refl; same = f; lacks = p; bytes = b; whole = q }

pub completes_at : (h : List Message) (x : Message) (n : ℕ) (change : Change) → change_at h (h ++ x ∷ []) n ≡ Some change → change.status ≡ None → Completes (kept_module h n) (kept_module (h ++ x ∷ []) n)
completes_at h x n change told status = completes n (kept_module h n) (kept_module (h ++ x ∷ []) n) change (sym (change_at-kept h (h ++ x ∷ []) n) ∙ told) status

-- the entry is the same
pub completed_info : (h : List Message) (x : Message) (n : ℕ) → Completes (kept_module h n) (kept_module (h ++ x ∷ []) n)
    → option_map (λ entry. entry.info) (entry_in_force (h ++ x ∷ []) n) ≡ option_map (λ entry. entry.info) (entry_in_force h n)
completed_info h x n c =
    ap (λ s. option_map (λ entry. entry.info) (option_map (λ (z : Standing). z.entry) s))
    (standing_of-kept (h ++ x ∷ []) n ∙ ap standing_kept c.now ∙ ap (λ s. Some s) (sym (same_is_equal c.old.standing c.new.standing c.same)) ∙ sym (ap standing_kept c.there) ∙ sym (standing_of-kept h n))

pub completed_before : (h : List Message) (x : Message) (n : ℕ) → Completes (kept_module h n) (kept_module (h ++ x ∷ []) n) → bytes_held h n ≡ None
completed_before h x n c = held_is h n ∙ ap (option_and_then bytes_kept) c.there ∙ c.lacks

pub completed_held : (h : List Message) (x : Message) (n : ℕ) (c : Completes (kept_module h n) (kept_module (h ++ x ∷ []) n)) → bytes_held (h ++ x ∷ []) n ≡ Some c.bytes
completed_held h x n c = held_is (h ++ x ∷ []) n ∙ ap (option_and_then bytes_kept) c.now ∙ c.whole

joined_by : (skip : Option SkipCause) (blocks : List (Option (List ℕ))) (bytes : List ℕ) → bytes_by skip blocks ≡ Some bytes → joined_bytes blocks ≡ Some bytes
joined_by None blocks bytes h = h
joined_by (Some cause) blocks bytes h = cc

-- what is held doesn't come of nothing
not_same : {X : Type 0} (x y : Option Kept) (c : Completes x y) → y ≡ x → X
not_same x y c e = absurd (let q = sym (ap (option_and_then bytes_kept) c.now) ∙ ap (option_and_then bytes_kept) e ∙ ap (option_and_then bytes_kept) c.there in let p = sym c.whole ∙ q ∙ c.lacks in cc)

-- a module is completed by a block of its own
completed_by : (h : List Message) (block : DataBlock) (n : ℕ) → n ≡ block.«module» → (c : Completes (kept_module h n) (kept_module (h ++ Data block ∷ []) n)) → whole_by h block (put_after h block) ≡ Some (n, c.bytes)
completed_by h block n own c =
    sym (whole-known h block) ∙ ap (λ m. whole_to (kept_module h m) block) (sym own) ∙ ap (λ k. whole_to k block) c.there ∙ by (is_wanted c.old block) refl
    ∙ ap (λ m. let w : ℕ × List ℕ = (m, c.bytes) in Some w) (sym own)
  where
    moved : (t : Bool) → is_wanted c.old block ≡ t → c.new ≡ (if t then (let with : Kept = record { standing = c.old.standing; blocks = slice_set c.old.blocks block.number (Some block.block) } in with) else c.old)
    moved t e =
        the_kept (option_map (with_block block) (kept_module h n)) (kept_module (h ++ Data block ∷ []) n) (with_block block c.old) c.new (sym (kept_module-data h block n)) (ap (option_map (with_block block)) c.there) c.now
        ∙ ap (λ (u : Bool). if u then (let with : Kept = record { standing = c.old.standing; blocks = slice_set c.old.blocks block.number (Some block.block) } in with) else c.old) e

    by : (t : Bool) → is_wanted c.old block ≡ t
        → (if t then option_map {U = ℕ × List ℕ} (λ bytes. (block.«module», bytes)) (joined_bytes (slice_set c.old.blocks block.number (Some block.block))) else None) ≡ Some (block.«module», c.bytes)
    by true e =
        ap (option_map {U = ℕ × List ℕ} (λ bytes. (block.«module», bytes)))
        (joined_by c.old.standing.skip (slice_set c.old.blocks block.number (Some block.block)) c.bytes (sym (ap bytes_kept (moved true e)) ∙ c.whole))
    by false e = absurd (let p = sym c.lacks ∙ sym (ap bytes_kept (moved false e)) ∙ c.whole in cc)

pub completed_whole : (h : List Message) (x : Message) (n : ℕ) (c : Completes (kept_module h n) (kept_module (h ++ x ∷ []) n)) → whole_with h (Some x) ≡ Some (n, c.bytes)
completed_whole h (Indication dii) n c = by (later_cases (in_force h) dii) where
  by : (later (in_force h) (Indication dii) ≡ in_force h) ⊎ (later (in_force h) (Indication dii) ≡ Some dii) → ◌≡◌ {A = Option (ℕ × List ℕ)} None (Some (n, c.bytes))
  by (inl f) = not_same (kept_module h n) (kept_module (h ++ Indication dii ∷ []) n) c (kept_module-same h dii n f)
  by (inr f) =
      let stay = bytes_stay (kept_module h) n c.old c.new (find (is_of_module n) (standings dii)) c.there (λ s g. found_number n (standings dii) s g) (sym c.now ∙ kept_module-other h dii n f) c.same in
      absurd (let p = sym c.lacks ∙ sym stay ∙ c.whole in cc)
completed_whole h (Data block) n c = by (nat_eq n block.«module») refl where
  apart : (a b : ℕ) → nat_eq a b ≡ false → a ≢ b
  apart a b f g = grind arith

  by : (t : Bool) → nat_eq n block.«module» ≡ t → whole_by h block (put_after h block) ≡ Some (n, c.bytes)
  by true e = completed_by h block n (eqb-true n block.«module» e) c
  by false e = not_same (kept_module h n) (kept_module (h ++ Data block ∷ []) n) c (kept_module-others h block n (apart n block.«module» e))

-- what a message makes whole is told
pub record Told (change : Option Change) : Type 0 where
  pub value : Change
  pub is : change ≡ Some value
  pub status : value.status ≡ None

told_whole : (h : List Message) (block : DataBlock) (n : ℕ) (bytes : List ℕ) (k : Option Kept) → kept_module h block.«module» ≡ k → whole_to k block ≡ Some (n, bytes) → Told (change_at h (h ++ Data block ∷ []) n)
told_whole h block n bytes None there w = cc
told_whole h block n bytes (Some k) there w = by (is_wanted k block) refl (all_came with) refl w where
  with : List (Option (List ℕ))
  with = slice_set k.blocks block.number (Some block.block)

  number_of : (x : Option (List ℕ)) → option_map {U = ℕ × List ℕ} (λ bytes. (block.«module», bytes)) x ≡ Some (n, bytes) → n ≡ block.«module»
  number_of None e = cc
  number_of (Some b) e = ap (λ (z : Option (ℕ × List ℕ)). number_in z) (sym e) where
    number_in : Option (ℕ × List ℕ) → ℕ
    number_in None = 0
    number_in (Some z) = z.0

  by : (t : Bool) → is_wanted k block ≡ t → (u : Bool) → all_came (slice_set k.blocks block.number (Some block.block)) ≡ u
      → (if t then option_map {U = ℕ × List ℕ} (λ bytes. (block.«module», bytes)) (joined_bytes (slice_set k.blocks block.number (Some block.block))) else None) ≡ Some (n, bytes) → Told (change_at h (h ++ Data block ∷ []) n)
  by false f u g e = cc
  by true f false g e = absurd (let p = ap (option_map {U = ℕ × List ℕ} (λ bytes. (block.«module», bytes))) (joined_none with g) ∙ e in cc)
  by true f true g e =
      record {
        value = completed block.«module» k.standing.entry;
        is = ap (change_at h (h ++ Data block ∷ [])) (number_of (joined_bytes with) e) ∙ change_at-block h block ∙ ap (block_change (standing_of (in_force h))) (sym (answer-put h block) ∙ ap (λ z. answer_to z block) there)
            ∙ ap₂ (λ (t u : Bool). block_change (standing_of (in_force h)) (if t then (if u then puts.Completed block.«module» else puts.Kept) else puts.Ignored)) f g
            ∙ ap (option_map (λ (s : Standing). completed block.«module» s.entry)) (standing_of-kept h block.«module» ∙ ap standing_kept there);
        status = refl;
      }

pub whole_told : (h : List Message) (x : Message) (n : ℕ) (bytes : List ℕ) → whole_with h (Some x) ≡ Some (n, bytes) → Told (change_at h (h ++ x ∷ []) n)
whole_told h (Indication dii) n bytes w = cc
whole_told h (Data block) n bytes w = told_whole h block n bytes (kept_module h block.«module») refl (whole-known h block ∙ w)

-- ---- the DII in force

-- it is the same as long as its transactionId is
pub same_transaction : (h : List Message) (x : Message) → option_map (λ dii. dii.transaction) (in_force (h ++ x ∷ [])) ≡ option_map (λ dii. dii.transaction) (in_force h) → in_force (h ++ x ∷ []) ≡ in_force h
same_transaction h x e = in_force-append h x ∙ by (in_force h) x (sym (ap (option_map (λ (d : Dii). d.transaction)) (in_force-append h x)) ∙ e) where
  apart : (a b : ℕ) → (a == b) ≡ false → a ≡ b → ⊥
  apart a b f g = grind arith

  chosen : (f dii : Dii) (t : Bool) → (dii.transaction == f.transaction) ≡ t → ◌≡◌ {A = Option ℕ} (Some (if t then f else dii).transaction) (Some f.transaction) → ◌≡◌ {A = Option Dii} (Some (if t then f else dii)) (Some f)
  chosen f dii true g e = refl
  chosen f dii false g e = absurd (apart dii.transaction f.transaction g (let p = e in cc))

  by : (f : Option Dii) (x : Message) → option_map (λ (d : Dii). d.transaction) (later f x) ≡ option_map (λ (d : Dii). d.transaction) f → later f x ≡ f
  by f (Data block) e = later_data f block
  by None (Indication dii) e = cc
  by (Some f) (Indication dii) e = chosen f dii (dii.transaction == f.transaction) refl e
