-- Laws of the length of a module that is held.
use Rattle.std.proofs.Common.{◌≡◌, ℕ, zero, suc, ◌+◌, ◌-◌, ◌*◌, ◌<◌, ◌≤◌, ◌==◌, nat_lt, min, Bool, true, false, ◌||◌, List, [], ◌∷◌, ◌++◌, length, length-append, take, find, fold, refl, sym, ap, ◌∙◌, subst, arith, eqb-true, if◌then◌else◌, cond}
use Rattle.std.specs.Prelude.{Contains, Option, Some, None, option_map, option_and_then, slice_get}
use Rattle.std.specs.List.{list_any}
use Rattle.std.proofs.lemmas.List.{take_all}
use Rattle.std.proofs.lemmas.List.Elements.{Contains-append_right}
use Rattle.dsmcc_messages.specs.declared.entry.Entry.{Entry}
use Rattle.dsmcc_messages.specs.declared.dii.Dii.{Dii}
use Rattle.dsmcc_messages.specs.Ddb.{DataBlock}
use Rattle.carousel_blocks.specs.declared.standing.SkipCause.{SkipCause}
use Rattle.carousel_blocks.specs.declared.standing.SkipCause.TheVariants.{Compressed, Large}
use Rattle.carousel_blocks.specs.declared.standing.Standing.{Standing}
use Rattle.carousel_blocks.specs.Message.{Message, Data}
use Rattle.carousel_blocks.specs.InForce.{in_force, block_count, is_large, is_compressed, skip_standing, unskipped_size, is_of_module, with_entry, standings, standing_of}
use Rattle.carousel_blocks.specs.Held.{asked_count, is_asked, is_asked_by, counting_blocks, first_of, blocks_from, joined_bytes, kept_with, bytes_by, bytes_kept, bytes_held}
use Rattle.carousel_blocks.proofs.BufferLaws.{covered}
use Rattle.carousel_blocks.proofs.StandingLaws.{unchanged_equal}
use Rattle.carousel_blocks.proofs.PutLaws.{asks}
use Rattle.carousel_blocks.proofs.PlaceLaws.{counts_from}
use Rattle.carousel_blocks.proofs.StageLaws.{held_is}

-- ---- the blocks that count have their lengths

-- they are asked for by the entry in force
counting_blocks-asked : (h : List Message) (n : ℕ) (block : DataBlock) → Contains (counting_blocks None n h) block → is_asked_by (standing_of (in_force h) n) block ≡ true
counting_blocks-asked h n block c =
    let r = counts_from None h n block c in
    let stays = r.1.stays_on (length h) (within h r.0 r.1.stands) (omega arith) in
    sym (ap (λ s. is_asked_by s block) (unchanged_equal (standing_of (in_force (take r.0 h)) n) (standing_of (in_force (take (length h) h)) n) stays
    ∙ ap (λ l. standing_of (in_force l) n) (take_all (length h) h (omega arith)))) ∙ r.1.asked
  where
    within : (l : List Message) (place : ℕ) → slice_get l place ≡ Some (Data block) → place < length l
    within [] place e = cc
    within (x ∷ l) zero e = omega arith
    within (x ∷ l) (suc place) e = let p = within l place e in omega arith

-- the first block with a number
record First (blocks : List DataBlock) (n : ℕ) (bytes : List ℕ) : Type 0 where
  block : DataBlock
  there : Contains blocks block
  number : block.number ≡ n
  bytes_are : block.block ≡ bytes

first_there : (blocks : List DataBlock) (n : ℕ) (bytes : List ℕ) → first_of blocks n ≡ Some bytes → First blocks n bytes
first_there [] n bytes h = cc
first_there (b ∷ blocks) n bytes h = by (b.number == n) refl (first_there blocks n bytes) h where
  behind : First blocks n bytes → First (b ∷ blocks) n bytes
  behind r = record { block = r.block; there = Contains-append_right (b ∷ []) blocks r.block r.there; number = r.number; bytes_are = r.bytes_are }

  by : (t : Bool) → (b.number == n) ≡ t → (first_of blocks n ≡ Some bytes → First blocks n bytes) → option_map (λ (x : DataBlock). x.block) (cond t (Some b) (find (λ x. x.number == n) blocks)) ≡ Some bytes → First (b ∷ blocks) n bytes
  by true e again f = record { block = b; there = (0, omega arith, refl); number = eqb-true b.number n e; bytes_are = cc }
  by false e again f = behind (again f)

pub first-long : (h : List Message) (n : ℕ) (s : Standing) → standing_of (in_force h) n ≡ Some s → (place : ℕ) (bytes : List ℕ) → first_of (counting_blocks None n h) place ≡ Some bytes
    → length bytes ≡ min s.block_size (s.entry.size - place * s.block_size)
first-long h n s there place bytes f =
    let r = first_there (counting_blocks None n h) place bytes f in
    let asked : is_asked s r.block ≡ true = sym (ap (λ x. is_asked_by x r.block) there) ∙ counting_blocks-asked h n r.block r.there in
    sym (ap length r.bytes_are) ∙ (asks s r.block asked).size ∙ ap (λ k. min s.block_size (s.entry.size - k * s.block_size)) r.number

-- ---- their sum

pub joined_bytes-long : (f : ℕ → Option (List ℕ)) (size total : ℕ) → ((place : ℕ) (block : List ℕ) → f place ≡ Some block → length block ≡ min size (total - place * size)) → (start count : ℕ) (bytes : List ℕ)
    → joined_bytes (blocks_from f start count) ≡ Some bytes → length bytes ≡ min (count * size) (total - start * size)
joined_bytes-long f size total long start zero bytes h = let q : [] ≡ bytes = cc in sym (ap length q) ∙ nothing size (total - start * size) where
  nothing : (a b : ℕ) → 0 ≡ min (0 * a) b
  nothing a b = grind arith
joined_bytes-long f size total long start (suc count) bytes h = by (f start) refl (joined_bytes (blocks_from f (start + 1) count)) refl (λ behind g. joined_bytes-long f size total long (start + 1) count behind g) h where
  one_more : (k : ℕ) → (k + 1) * size ≡ k * size + size
  one_more k = grind arith

  suc_times : (k : ℕ) → suc k * size ≡ size + k * size
  suc_times k = grind arith

  by : (x : Option (List ℕ)) → f start ≡ x → (y : Option (List ℕ)) → joined_bytes (blocks_from f (start + 1) count) ≡ y
      → ((behind : List ℕ) → joined_bytes (blocks_from f (start + 1) count) ≡ Some behind → length behind ≡ min (count * size) (total - (start + 1) * size)) → joined_bytes (x ∷ blocks_from f (start + 1) count) ≡ Some bytes → length bytes ≡ min (suc count * size) (total - start * size)
  by None e y g again k = cc
  by (Some block) e None g again k = let p = sym (ap (option_map (λ behind. block ++ behind)) g) ∙ k in cc
  by (Some block) e (Some behind) g again k =
      let p : block ++ behind ≡ bytes = let r = sym (ap (option_map (λ z. block ++ z)) g) ∙ k in cc in
      let a = long start block e in
      let b = again behind g in
      let c = length-append block behind in
      let d = one_more start in
      let m = suc_times count in
      sym (ap length p) ∙ (let q : length (block ++ behind) ≡ min (suc count * size) (total - start * size) = omega arith in q)

-- ---- an entry that isn't skipped

-- the standing is that of its entry, behind others of some bytes
pub record IsMade (s : Standing) : Type 0 where
  pub before : ℕ
  pub is : s.skip ≡ skip_standing s.block_size before s.entry

AllMade : List Standing → Type 0
AllMade [] = Unit {0}
AllMade (s ∷ l) = IsMade s × AllMade l

made_more : (l : List Standing) (s : Standing) → AllMade l → IsMade s → AllMade (l ++ s ∷ [])
unfolding AllMade
made_more [] s all one = (one, tt)
made_more (x ∷ l) s all one = (all.0, made_more l s all.1 one)

made_all : (dii : Dii) (entries : List Entry) (l : List Standing) → AllMade l → AllMade (fold (with_entry dii) l entries)
made_all dii [] l all = all
made_all dii (entry ∷ entries) l all = made_all dii entries (with_entry dii l entry) (by (list_any (is_of_module entry.id) l)) where
  more : Standing
  more = record { download = dii.download; block_size = dii.block_size; entry = entry; skip = skip_standing dii.block_size (unskipped_size l) entry }

  by : (t : Bool) → AllMade (if t then l else l ++ record { download = dii.download; block_size = dii.block_size; entry = entry; skip = skip_standing dii.block_size (unskipped_size l) entry } ∷ [])
  by true = all
  by false = made_more l more all (record { before = unskipped_size l; is = refl })

made_found : (l : List Standing) (n : ℕ) (s : Standing) → AllMade l → find (is_of_module n) l ≡ Some s → IsMade s
unfolding AllMade
made_found [] n s all h = cc
made_found (x ∷ l) n s all h = by (is_of_module n x) (λ e. made_found l n s all.1 e) h where
  by : (t : Bool) → (find (is_of_module n) l ≡ Some s → IsMade s) → cond t (Some x) (find (is_of_module n) l) ≡ Some s → IsMade s
  by true again e = let q : x ≡ s = cc in subst (λ (z : Standing). IsMade z) q all.0
  by false again e = again e

pub standing_made : (f : Option Dii) (n : ℕ) (s : Standing) → standing_of f n ≡ Some s → IsMade s
unfolding AllMade
standing_made None n s h = cc
standing_made (Some dii) n s h = made_found (standings dii) n s (made_all dii dii.entries [] tt) h

pub record IsSmall (block_size size : ℕ) : Type 0 where
  pub limit : size ≤ 1048576
  pub covers : size ≤ block_count block_size size * block_size

small : (block_size size : ℕ) → is_large block_size size ≡ false → IsSmall block_size size
small zero size h = let e : size ≡ 0 = none size h in record { limit = omega arith; covers = omega arith } where
  none : (n : ℕ) → nat_lt 0 n ≡ false → n ≡ 0
  none n h = grind arith
small (suc n) size h = record { limit = below size (first (nat_lt 1048576 size) (nat_lt 65536 (block_count (suc n) size)) h); covers = covered n size } where
  first : (a b : Bool) → (a || b) ≡ false → a ≡ false
  first true b h = h
  first false b h = refl

  below : (k : ℕ) → nat_lt 1048576 k ≡ false → k ≤ 1048576
  below k h = grind arith

pub unskipped_small : (s : Standing) → IsMade s → s.skip ≡ None → IsSmall s.block_size s.entry.size
unskipped_small s made none = small s.block_size s.entry.size (by (is_compressed s.entry) (is_large s.block_size s.entry.size) (nat_lt 33554432 (made.before + s.entry.size)) (sym made.is ∙ none)) where
  by : (a b c : Bool) → ◌≡◌ {A = Option SkipCause} (if a then Some Compressed else (if b || c then Some Large else None)) None → b ≡ false
  by true b c e = cc
  by false true c e = cc
  by false false c e = refl

-- ---- a module that is held

pub record HasSize (s : Option Standing) (bytes : List ℕ) : Type 0 where
  pub size : option_map (λ entry. entry.size) (option_map (λ s. s.entry) s) ≡ Some (length bytes)
  pub limit : length bytes ≤ 1048576

pub held_size : (h : List Message) (n : ℕ) (bytes : List ℕ) → bytes_held h n ≡ Some bytes → HasSize (standing_of (in_force h) n) bytes
held_size h n bytes e = by (standing_of (in_force h) n) refl (sym (held_is h n) ∙ e) where
  sized : (s : Standing) → standing_of (in_force h) n ≡ Some s → (skip : Option SkipCause) → s.skip ≡ skip → bytes_by skip (blocks_from (first_of (counting_blocks None n h)) 0 (asked_count s skip)) ≡ Some bytes
      → HasSize (Some s) bytes
  sized s there (Some cause) skip k = cc
  sized s there None skip k =
      let made = standing_made (in_force h) n s there in
      let few = unskipped_small s made skip in
      let limit = few.limit in
      let covers = few.covers in
      let long = joined_bytes-long (first_of (counting_blocks None n h)) s.block_size s.entry.size (λ place block f. first-long h n s there place block f) 0 (block_count s.block_size s.entry.size) bytes k in
      let zero_times : s.entry.size - 0 * s.block_size ≡ s.entry.size = omega arith in
      let all : length bytes ≡ s.entry.size = omega arith in
      record { size = ap (λ m. Some m) (sym all); limit = omega arith }

  by : (x : Option Standing) → standing_of (in_force h) n ≡ x → option_and_then bytes_kept (option_map (kept_with (counting_blocks None n h)) x) ≡ Some bytes → HasSize x bytes
  by None there k = cc
  by (Some s) there k = sized s there s.skip refl k
