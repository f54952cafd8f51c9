-- Laws of the first block with a number.
use Rattle.std.proofs.Common.{◌≡◌, ℕ, zero, suc, ◌+◌, ◌<◌, ◌≤◌, ◌==◌, Bool, true, false, List, [], ◌∷◌, ◌++◌, length, take, find, refl, sym, ap, ap₂, ◌∙◌, subst, arith, eq-eqb, eqb-true, if◌then◌else◌, cond, fold}
use Rattle.std.specs.Prelude.{slice_get, slice_index_or, Contains, Option, Some, None, option_map, option_to_list}
use Rattle.dsmcc_messages.specs.declared.dii.Dii.{Dii}
use Rattle.dsmcc_messages.specs.Ddb.{DataBlock}
use Rattle.carousel_blocks.specs.Message.{Message, Data}
use Rattle.carousel_blocks.specs.InForce.{later, standing_of}
use Rattle.carousel_blocks.specs.Held.{CountsAt, asked_block, unchanged, stays, counting_blocks, first_of}
use Rattle.carousel_blocks.specs.Places.{IsFirstBlock}
use Rattle.carousel_blocks.proofs.PlaceLaws.{CountsFrom, from_here, to_here, from_behind, to_behind, to_counting}

-- the same from a DII in force on
record FirstFrom (f : Option Dii) (h : List Message) (m n : ℕ) (bytes : List ℕ) : Type 0 where
  place : ℕ
  block : DataBlock
  counts : CountsFrom f h m block place
  number_is : block.number ≡ n
  bytes_are : block.block ≡ bytes
  least : (other : ℕ) (another : DataBlock) → CountsFrom f h m another other → another.number ≡ n → place ≤ other

found_first : (f : Option Dii) (h : List Message) (m n : ℕ) (bytes : List ℕ) → first_of (counting_blocks f m h) n ≡ Some bytes → FirstFrom f h m n bytes
found_first f [] m n bytes e = cc
found_first f (y ∷ h) m n bytes e =
    by (stays (standing_of f m) (later f y) m h) (asked_block (standing_of f m) y) refl refl (λ g. found_first (later f y) h m n bytes g) e
  where
    -- no block with the number counts here
    behind : ((b : DataBlock) → CountsFrom f (y ∷ h) m b 0 → b.number ≡ n → ⊥) → FirstFrom (later f y) h m n bytes → FirstFrom f (y ∷ h) m n bytes
    behind none r = record {
      place = suc r.place;
      block = r.block;
      counts = to_behind f y h m r.block r.place r.counts;
      number_is = r.number_is;
      bytes_are = r.bytes_are;
      least = λ other another c g. least other another c g;
    }
      where
        least : (other : ℕ) (another : DataBlock) → CountsFrom f (y ∷ h) m another other → another.number ≡ n → suc r.place ≤ other
        least zero another c g = absurd (none another c g)
        least (suc other) another c g = let l = r.least other another (from_behind f y h m another other c) g in omega arith

    by : (t : Bool) (x : Option DataBlock) → stays (standing_of f m) (later f y) m h ≡ t → asked_block (standing_of f m) y ≡ x
        → (first_of (counting_blocks (later f y) m h) n ≡ Some bytes → FirstFrom (later f y) h m n bytes)
        → first_of ((if t then option_to_list x else []) ++ counting_blocks (later f y) m h) n ≡ Some bytes → FirstFrom f (y ∷ h) m n bytes
    by false x s a again g = behind (λ b c k. let p = sym s ∙ (from_here f y h m b c).0 in cc) (again g)
    by true None s a again g = behind (λ b c k. let p = sym a ∙ (from_here f y h m b c).1 in cc) (again g)
    by true (Some b) s a again g = by_number (b.number == n) refl g
      where
        by_number : (u : Bool) → (b.number == n) ≡ u → option_map (λ (z : DataBlock). z.block) (cond u (Some b) (find (λ z. z.number == n) (counting_blocks (later f y) m h))) ≡ Some bytes → FirstFrom f (y ∷ h) m n bytes
        by_number true k g = record {
          place = 0;
          block = b;
          counts = to_here f y h m b s a;
          number_is = eqb-true b.number n k;
          bytes_are = cc;
          least = λ other another c l. omega arith;
        }
        by_number false k g = behind (λ other c l.
            let p : b ≡ other = let q = sym a ∙ (from_here f y h m other c).1 in cc in
            let r = eq-eqb b.number n (ap (λ z. z.number) p ∙ l) in
            cc) (again g)

-- a block with the number is there
some_there : (blocks : List DataBlock) (n : ℕ) (b : DataBlock) (place : ℕ) → place < length blocks → slice_index_or blocks place b ≡ b → b.number ≡ n → first_of blocks n ≡ None → ⊥
some_there [] n b place l e g h = absurd (omega arith)
some_there (y ∷ blocks) n b zero l e g h = by (y.number == n) (eq-eqb y.number n (ap (λ z. z.number) e ∙ g)) h where
  by : (u : Bool) → u ≡ true → option_map (λ (z : DataBlock). z.block) (cond u (Some y) (find (λ z. z.number == n) blocks)) ≡ None → ⊥
  by true k h = cc
  by false k h = cc
some_there (y ∷ blocks) n b (suc place) l e g h = by (y.number == n) (λ k. some_there blocks n b place (omega arith) e g k) h where
  by : (u : Bool) → (first_of blocks n ≡ None → ⊥) → option_map (λ (z : DataBlock). z.block) (cond u (Some y) (find (λ z. z.number == n) blocks)) ≡ None → ⊥
  by true again h = cc
  by false again h = again h

same_at : (h : List Message) (place : ℕ) (a b : DataBlock) → slice_get h place ≡ Some (Data a) → slice_get h place ≡ Some (Data b) → a ≡ b
same_at h place a b e g = let p = sym e ∙ g in cc

first_found : (f : Option Dii) (h : List Message) (m n : ℕ) (bytes : List ℕ) → FirstFrom f h m n bytes → first_of (counting_blocks f m h) n ≡ Some bytes
first_found f h m n bytes r = by (first_of (counting_blocks f m h) n) refl where
  by : (x : Option (List ℕ)) → first_of (counting_blocks f m h) n ≡ x → x ≡ Some bytes
  by None e = let c = to_counting f h m r.block r.place r.counts in absurd (some_there (counting_blocks f m h) n r.block c.0 c.1 c.2 r.number_is e)
  by (Some other) e =
      let q = found_first f h m n other e in
      let a = q.least r.place r.block r.counts r.number_is in
      let b = r.least q.place q.block q.counts q.number_is in
      let p : q.place ≡ r.place = omega arith in
      let s = same_at h r.place q.block r.block (ap (slice_get h) (sym p) ∙ q.counts.stands) r.counts.stands in
      ap (λ z. Some z) (sym q.bytes_are ∙ ap (λ z. z.block) s ∙ r.bytes_are)

pub first_block : (h : List Message) (m n : ℕ) (bytes : List ℕ) → first_of (counting_blocks None m h) n ≡ Some bytes → IsFirstBlock h m n bytes
first_block h m n bytes e =
    let r = found_first None h m n bytes e in
    record {
      place = r.place;
      block = r.block;
      counts = record { stands = r.counts.stands; asked = r.counts.asked; stays = r.counts.stays_on };
      number_is = r.number_is;
      bytes_are = r.bytes_are;
      least = λ other another c g. r.least other another (record { stands = c.stands; asked = c.asked; stays_on = c.stays }) g;
    }

pub block_first : (h : List Message) (m n : ℕ) (bytes : List ℕ) → IsFirstBlock h m n bytes → first_of (counting_blocks None m h) n ≡ Some bytes
block_first h m n bytes r = first_found None h m n bytes (record {
  place = r.place;
  block = r.block;
  counts = record { stands = r.counts.stands; asked = r.counts.asked; stays_on = r.counts.stays };
  number_is = r.number_is;
  bytes_are = r.bytes_are;
  least = λ other another c g. r.least other another (record { stands = c.stands; asked = c.asked; stays = c.stays_on }) g;
})
