-- Laws of the blocks that a held module's bytes are cut into.
use Rattle.std.proofs.Common.{◌≡◌, ℕ, zero, suc, ◌+◌, ◌-◌, ◌*◌, ◌<◌, ◌≤◌, min, List, [], ◌∷◌, ◌++◌, length, length-append, length-drop, take, drop, refl, sym, ap, ap₂, ◌∙◌, subst, arith, append-nil, ◌⊎◌, inl, inr}
use Rattle.std.specs.Prelude.{Option, Some, None, option_map, option_and_then}
use Rattle.std.proofs.lemmas.List.{take-append-drop, take_at, drop_at, take_all, drop_all, drop-drop, drop-append-le}
use Rattle.carousel_blocks.specs.declared.standing.SkipCause.{SkipCause}
use Rattle.carousel_blocks.specs.declared.standing.Standing.{Standing}
use Rattle.carousel_blocks.specs.Message.{Message}
use Rattle.carousel_blocks.specs.InForce.{in_force, block_count, standing_of}
use Rattle.carousel_blocks.specs.Held.{asked_count, counting_blocks, first_of, blocks_from, joined_bytes, kept_with, bytes_by, bytes_kept, bytes_held}
use Rattle.carousel_blocks.specs.Places.{IsHeld}
use Rattle.carousel_blocks.proofs.FirstLaws.{first_block, block_first}
use Rattle.carousel_blocks.proofs.StageLaws.{held_is}
use Rattle.carousel_blocks.proofs.SizeLaws.{first-long, joined_bytes-long, standing_made, unskipped_small}

-- a block and what is behind it
record Cut (f : ℕ → Option (List ℕ)) (start count : ℕ) (bytes : List ℕ) : Type 0 where
  block : List ℕ
  behind : List ℕ
  first : f start ≡ Some block
  rest : joined_bytes (blocks_from f (start + 1) count) ≡ Some behind
  whole : block ++ behind ≡ bytes

cut : (f : ℕ → Option (List ℕ)) (start count : ℕ) (bytes : List ℕ) → joined_bytes (blocks_from f start (suc count)) ≡ Some bytes → Cut f start count bytes
cut f start count bytes e = by (f start) refl (joined_bytes (blocks_from f (start + 1) count)) refl e where
  by : (x : Option (List ℕ)) → f start ≡ x → (y : Option (List ℕ)) → joined_bytes (blocks_from f (start + 1) count) ≡ y → joined_bytes (x ∷ blocks_from f (start + 1) count) ≡ Some bytes → Cut f start count bytes
  by None p y q e = cc
  by (Some block) p None q e = let r = sym (ap (option_map (λ z. block ++ z)) q) ∙ e in cc
  by (Some block) p (Some behind) q e = record {
    block = block;
    behind = behind;
    first = p;
    rest = q;
    whole = let r = sym (ap (option_map (λ z. block ++ z)) q) ∙ e in cc;
  }

no_bytes : (bytes : List ℕ) → length bytes ≡ 0 → bytes ≡ []
no_bytes [] e = refl
no_bytes (x ∷ bytes) e = absurd (omega arith)

suc_times : (p n : ℕ) → suc p * n ≡ n + p * n
suc_times p n = grind arith

one_more : (p n : ℕ) → (p + 1) * n ≡ p * n + n
one_more p n = grind arith

-- the first block is as long as the others, or it ends the bytes
Ends : ℕ → List ℕ → List ℕ → Type 0
Ends size block behind = (length block ≡ size) ⊎ ((length block ≤ size) × (behind ≡ []))

ends : (size total start count : ℕ) (block behind : List ℕ) → length block ≡ min size (total - start * size) → length behind ≡ min (count * size) (total - (start + 1) * size) → Ends size block behind
unfolding Ends
ends size total start count block behind a b = by (cases size (total - start * size)) where
  cases : (x y : ℕ) → (x ≤ y) ⊎ (y ≤ x)
  cases x y = grind arith

  by : (size ≤ total - start * size) ⊎ (total - start * size ≤ size) → (length block ≡ size) ⊎ ((length block ≤ size) × (behind ≡ []))
  by (inl l) = inl (omega arith)
  by (inr l) = let m = one_more start size in inr (omega arith, no_bytes behind (omega arith))

-- blocks joined are cut again into the same
cut_again : (f : ℕ → Option (List ℕ)) (size total : ℕ) → ((place : ℕ) (block : List ℕ) → f place ≡ Some block → length block ≡ min size (total - place * size)) → (start count : ℕ) (bytes : List ℕ)
    → joined_bytes (blocks_from f start count) ≡ Some bytes → (k : ℕ) → k < count → f (start + k) ≡ Some (take size (drop (k * size) bytes))
unfolding Ends
cut_again f size total long start zero bytes e k l = absurd (omega arith)
cut_again f size total long start (suc count) bytes e k l = by k l (cut f start count bytes e) (λ behind g j m. cut_again f size total long (start + 1) count behind g j m) where
  by : (k : ℕ) → k < suc count → Cut f start count bytes
      → ((behind : List ℕ) → joined_bytes (blocks_from f (start + 1) count) ≡ Some behind → (j : ℕ) → j < count → f (start + 1 + j) ≡ Some (take size (drop (j * size) behind)))
      → f (start + k) ≡ Some (take size (drop (k * size) bytes))
  by zero l c again =
      let none : 0 * size ≡ 0 = omega arith in
      let here : start + 0 ≡ start = omega arith in
      ap f here ∙ c.first ∙ ap (λ z. Some z) (sym (ap (λ n. take size (drop n bytes)) none ∙ ap (take size) (sym c.whole)
      ∙ one (ends size total start count c.block c.behind (long start c.block c.first) (joined_bytes-long f size total long (start + 1) count c.behind c.rest))))
    where
      one : Ends size c.block c.behind → take size (c.block ++ c.behind) ≡ c.block
      one (inl h) = take_at c.block c.behind size h
      one (inr h) = ap (λ z. take size (c.block ++ z)) h.1 ∙ ap (take size) (append-nil c.block) ∙ take_all size c.block h.0
  by (suc k) l c again =
      let there : start + suc k ≡ start + 1 + k = omega arith in
      ap f there ∙ again c.behind c.rest k (omega arith)
      ∙ ap (λ z. Some (take size z)) (sym (ap (λ n. drop n bytes) (suc_times k size) ∙ ap (drop (size + k * size)) (sym c.whole)
      ∙ rest (ends size total start count c.block c.behind (long start c.block c.first) (joined_bytes-long f size total long (start + 1) count c.behind c.rest))))
    where
      rest : Ends size c.block c.behind → drop (size + k * size) (c.block ++ c.behind) ≡ drop (k * size) c.behind
      rest (inl h) =
          sym (drop-drop (k * size) size (c.block ++ c.behind)) ∙ ap (drop (k * size)) (drop_at c.block c.behind size h)
      rest (inr h) =
          ap (λ z. drop (size + k * size) (c.block ++ z)) h.1 ∙ drop_all (size + k * size) (c.block ++ []) (let e = ap (λ (z : List ℕ). length z) (append-nil c.block) in let b = h.0 in omega arith)
          ∙ sym (ap (drop (k * size)) h.1 ∙ drop_all (k * size) [] (omega arith))

-- and blocks cut from bytes are joined to them
joins : (f : ℕ → Option (List ℕ)) (size start count : ℕ) (bytes : List ℕ) → ((k : ℕ) → k < count → f (start + k) ≡ Some (take size (drop (k * size) bytes))) → length bytes ≤ count * size
    → joined_bytes (blocks_from f start count) ≡ Some bytes
joins f size start zero bytes each few = let e = no_bytes bytes (omega arith) in ap (λ z. Some z) (sym e)
joins f size start (suc count) bytes each few =
    let none : 0 * size ≡ 0 = omega arith in
    let here : start ≡ start + 0 = omega arith in
    let first : f start ≡ Some (take size bytes) = ap f here ∙ each 0 (omega arith) ∙ ap (λ n. Some (take size (drop n bytes))) none in
    let behind = joins f size (start + 1) count (drop size bytes) (λ k l. next k l) (let m = suc_times count size in let d = length-drop size bytes in omega arith) in
    ap₂ (λ (x : Option (List ℕ)) (l : List (Option (List ℕ))). joined_bytes (x ∷ l)) first refl ∙ ap (option_map (λ z. take size bytes ++ z)) behind ∙ ap (λ z. Some z) (take-append-drop size bytes)
  where
    next : (k : ℕ) → k < count → f (start + 1 + k) ≡ Some (take size (drop (k * size) (drop size bytes)))
    next k l =
        let there : start + 1 + k ≡ start + suc k = omega arith in
        ap f there ∙ each (suc k) (omega arith) ∙ ap (λ n. Some (take size (drop n bytes))) (suc_times k size) ∙ ap (λ z. Some (take size z)) (sym (drop-drop (k * size) size bytes))

-- ---- the module

pub held_in_places : (h : List Message) (m : ℕ) (bytes : List ℕ) → bytes_held h m ≡ Some bytes → IsHeld h m bytes
held_in_places h m bytes e = by (standing_of (in_force h) m) refl (sym (held_is h m) ∙ e) where
  skipped : (s : Standing) → standing_of (in_force h) m ≡ Some s → (skip : Option SkipCause) → s.skip ≡ skip → bytes_by skip (blocks_from (first_of (counting_blocks None m h)) 0 (asked_count s skip)) ≡ Some bytes → IsHeld h m bytes
  skipped s there (Some cause) skip k = cc
  skipped s there None skip k =
      let few = unskipped_small s (standing_made (in_force h) m s there) skip in
      let covers = few.covers in
      let long = joined_bytes-long (first_of (counting_blocks None m h)) s.block_size s.entry.size (λ place block f. first-long h m s there place block f) 0 (block_count s.block_size s.entry.size) bytes k in
      let none : s.entry.size - 0 * s.block_size ≡ s.entry.size = omega arith in
      record {
        standing = s;
        standing_is = there;
        unskipped = skip;
        size = omega arith;
        blocks = λ n l.
            let at_zero : n ≡ 0 + n = omega arith in
            first_block h m n (take s.block_size (drop (n * s.block_size) bytes)) (ap (first_of (counting_blocks None m h)) at_zero
            ∙ cut_again (first_of (counting_blocks None m h)) s.block_size s.entry.size (λ place block f. first-long h m s there place block f) 0 (block_count s.block_size s.entry.size) bytes k n l);
      }

  by : (x : Option Standing) → standing_of (in_force h) m ≡ x → option_and_then bytes_kept (option_map (kept_with (counting_blocks None m h)) x) ≡ Some bytes → IsHeld h m bytes
  by None there k = cc
  by (Some s) there k = skipped s there s.skip refl k

pub places_held : (h : List Message) (m : ℕ) (bytes : List ℕ) → IsHeld h m bytes → bytes_held h m ≡ Some bytes
places_held h m bytes r =
    let s = r.standing in
    let few = unskipped_small s (standing_made (in_force h) m s r.standing_is) r.unskipped in
    let covers = few.covers in
    let size = r.size in
    held_is h m ∙ ap (λ x. option_and_then bytes_kept (option_map (kept_with (counting_blocks None m h)) x)) r.standing_is
    ∙ ap (λ skip. bytes_by skip (blocks_from (first_of (counting_blocks None m h)) 0 (asked_count s skip))) r.unskipped
    ∙ joins (first_of (counting_blocks None m h)) s.block_size 0 (block_count s.block_size s.entry.size) bytes (λ k l. each k l) (omega arith)
  where
    each : (k : ℕ) → k < block_count r.standing.block_size r.standing.entry.size → first_of (counting_blocks None m h) (0 + k) ≡ Some (take r.standing.block_size (drop (k * r.standing.block_size) bytes))
    each k l =
        let at_zero : 0 + k ≡ k = omega arith in
        ap (first_of (counting_blocks None m h)) at_zero ∙ block_first h m k (take r.standing.block_size (drop (k * r.standing.block_size) bytes)) (r.blocks k l)
