-- Laws of addition modulo 2 on lists of coefficients.
use Rattle.std.proofs.Common.{◌≡◌, ℕ, zero, suc, ◌<◌, ◌≤◌, max, Bool, true, false, List, [], ◌∷◌, ◌++◌, length, replicate, refl, sym, ap, ◌∙◌, arith}
use Rattle.ts_sections.specs.Crc.{bit_sum, add_at_front}

bit_sum_assoc : (x y z : Bool) → bit_sum x (bit_sum y z) ≡ bit_sum (bit_sum x y) z
bit_sum_assoc true true true = refl
bit_sum_assoc true true false = refl
bit_sum_assoc true false z = refl
bit_sum_assoc false y z = refl

bit_sum_comm : (x y : Bool) → bit_sum x y ≡ bit_sum y x
bit_sum_comm true true = refl
bit_sum_comm true false = refl
bit_sum_comm false true = refl
bit_sum_comm false false = refl

pub bit_sum_self : (x : Bool) → bit_sum x x ≡ false
bit_sum_self true = refl
bit_sum_self false = refl

-- the order of four is free
pub bit_sum_four : (w x y z : Bool) → bit_sum (bit_sum w x) (bit_sum y z) ≡ bit_sum (bit_sum w y) (bit_sum x z)
bit_sum_four false x y z = bit_sum_assoc x y z ∙ ap (λ v. bit_sum v z) (bit_sum_comm x y) ∙ sym (bit_sum_assoc y x z)
bit_sum_four true true true true = refl
bit_sum_four true true true false = refl
bit_sum_four true true false true = refl
bit_sum_four true true false false = refl
bit_sum_four true false true true = refl
bit_sum_four true false true false = refl
bit_sum_four true false false true = refl
bit_sum_four true false false false = refl

pub both : {x y : Bool} {a b : List Bool} → x ≡ y → a ≡ b → x ∷ a ≡ y ∷ b
both e f = cc

pub add_assoc : (a b c : List Bool) → add_at_front a (add_at_front b c) ≡ add_at_front (add_at_front a b) c
unfolding add_at_front
add_assoc [] b c = refl
add_assoc (x ∷ a) [] c = refl
add_assoc (x ∷ a) (y ∷ b) [] = refl
add_assoc (x ∷ a) (y ∷ b) (z ∷ c) = both (bit_sum_assoc x y z) (add_assoc a b c)

pub add_comm : (a b : List Bool) → add_at_front a b ≡ add_at_front b a
unfolding add_at_front
add_comm [] [] = refl
add_comm [] (y ∷ b) = refl
add_comm (x ∷ a) [] = refl
add_comm (x ∷ a) (y ∷ b) = both (bit_sum_comm x y) (add_comm a b)

pub add_self : (a : List Bool) → add_at_front a a ≡ replicate (length a) false
unfolding add_at_front
add_self [] = refl
add_self (x ∷ a) = both (bit_sum_self x) (add_self a)

pub add_zeros : (n : ℕ) (a : List Bool) → n ≤ length a → add_at_front (replicate n false) a ≡ a
unfolding add_at_front
add_zeros zero a h = refl
add_zeros (suc n) [] h = absurd (omega (arith, h))
add_zeros (suc n) (x ∷ a) h = both refl (add_zeros n a (omega (arith, h)))

pub length-add : (a b : List Bool) → length (add_at_front a b) ≡ max (length a) (length b)
unfolding add_at_front
length-add [] b = omega arith
length-add (x ∷ a) [] = omega arith
length-add (x ∷ a) (y ∷ b) = omega (arith, length-add a b)

-- two sums laid end to end
pub add-append : (a b y z : List Bool) → length a ≡ length b → add_at_front (a ++ y) (b ++ z) ≡ add_at_front a b ++ add_at_front y z
unfolding add_at_front
add-append [] [] y z h = refl
add-append [] (v ∷ b) y z h = absurd (omega (arith, h))
add-append (u ∷ a) [] y z h = absurd (omega (arith, h))
add-append (u ∷ a) (v ∷ b) y z h = both refl (add-append a b y z (omega (arith, h)))

-- a zero more at the end of the shorter one
pub add_one_zero : (a b : List Bool) → length a < length b → add_at_front (a ++ false ∷ []) b ≡ add_at_front a b
unfolding add_at_front
add_one_zero [] [] h = absurd (omega (arith, h))
add_one_zero [] (y ∷ b) h = refl
add_one_zero (x ∷ a) [] h = absurd (omega (arith, h))
add_one_zero (x ∷ a) (y ∷ b) h = both refl (add_one_zero a b (omega (arith, h)))

pub append_zeros : (a : List Bool) (k : ℕ) → (a ++ replicate k false) ++ false ∷ [] ≡ a ++ replicate (suc k) false
append_zeros [] zero = refl
append_zeros [] (suc k) = both refl (append_zeros [] k)
append_zeros (x ∷ a) k = both refl (append_zeros a k)
