-- Laws of the number of a module's blocks, and of the limits.
use Rattle.std.proofs.Common.{◌≡◌, ℕ, zero, suc, ◌+◌, ◌*◌, ◌/◌, ◌<◌, ◌≤◌, nat_lt, Bool, true, false, ◌||◌, refl, sym, ap, ◌∙◌, arith, ◌⊎◌, inl, inr}
use Rattle.std.proofs.Math.Nat.{div-lt_iff_lt-mul}
use Rattle.carousel_blocks.specs.InForce.{size_limit, block_limit, block_count, is_large}
use Rattle.carousel_blocks.specs.Entries.{HasManyBlocks}
use Rattle.carousel_blocks.proofs.BufferLaws.{covered}

one_more : (p k : ℕ) → (p + 1) * k ≡ p * k + k
one_more p k = grind arith

-- no fewer blocks make up the module
pub fewest : (block_size size count : ℕ) → size ≤ count * block_size → block_count block_size size ≤ count
fewest zero size count h = omega arith
fewest (suc n) size count h =
    let m = one_more count (suc n) in
    let lower : (size + n) / suc n < count + 1 = (div-lt_iff_lt-mul {k = suc n} {x = size + n} {y = count + 1} (omega arith)).1 (omega arith) in
    omega arith

-- and so many do
pub enough : (block_size size count : ℕ) → 0 < block_size → block_count block_size size ≤ count → size ≤ count * block_size
enough zero size count some h = absurd (omega arith)
enough (suc n) size count some h =
    let c = covered n size in
    let m = grows (block_count (suc n) size) count (suc n) h in
    omega arith
  where
    grows : (a b k : ℕ) → a ≤ b → a * k ≤ b * k
    grows a b k h = grind arith

either : (a b : Bool) → (a || b) ≡ true → (a ≡ true) ⊎ (b ≡ true)
either true b h = inl refl
either false b h = inr h

above : (a b : ℕ) → nat_lt a b ≡ true → a < b
above a b h = grind arith

is_above : (a b : ℕ) → a < b → nat_lt a b ≡ true
is_above a b h = grind arith

left : (a b : Bool) → a ≡ true → (a || b) ≡ true
left true b h = refl
left false b h = cc

right : (a b : Bool) → b ≡ true → (a || b) ≡ true
right true b h = refl
right false b h = h

pub large_alone : (block_size size : ℕ) → is_large block_size size ≡ true → (size_limit < size) ⊎ HasManyBlocks block_size size
large_alone zero size h = inr (λ count few. absurd (let a = above 0 size h in omega arith))
large_alone (suc n) size h = by (either (nat_lt size_limit size) (nat_lt block_limit (block_count (suc n) size)) h) where
  by : (nat_lt size_limit size ≡ true) ⊎ (nat_lt block_limit (block_count (suc n) size) ≡ true) → (size_limit < size) ⊎ HasManyBlocks (suc n) size
  by (inl a) = inl (above size_limit size a)
  by (inr a) = inr (λ count few. let l = fewest (suc n) size count few in let m = above block_limit (block_count (suc n) size) a in omega arith)

pub alone_large : (block_size size : ℕ) → (size_limit < size) ⊎ HasManyBlocks block_size size → is_large block_size size ≡ true
alone_large zero size (inl h) = is_above 0 size (omega arith)
alone_large zero size (inr many) = by (nat_lt 0 size) refl where
  by : (t : Bool) → nat_lt 0 size ≡ t → t ≡ true
  by true e = refl
  by false e = absurd (let m = many 0 (none size e) in omega arith) where
    none : (k : ℕ) → nat_lt 0 k ≡ false → k ≤ 0 * 0
    none k e = grind arith
alone_large (suc n) size (inl h) = left (nat_lt size_limit size) (nat_lt block_limit (block_count (suc n) size)) (is_above size_limit size h)
alone_large (suc n) size (inr many) =
    right (nat_lt size_limit size) (nat_lt block_limit (block_count (suc n) size)) (is_above block_limit (block_count (suc n) size) (many (block_count (suc n) size) (covered n size)))
