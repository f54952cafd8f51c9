-- What is left of a number in 32 bits.
use Rattle.std.proofs.Common.{◌≡◌, ℕ, zero, suc, ◌-◌, ◌/◌, ◌%◌, ◌^◌, ◌<◌, ◌≤◌, ℤ, pos, negsuc, neg_ℤ, arith, ap, sym, refl}
use Rattle.std.specs.Prelude.{unsigned_abs, int_div}
use Rattle.std.specs.Int.{w32, int_wrap, cast_signed, cast_unsigned}
use Rattle.std.specs.Int.RustNames.{FitsSigned}
use Rattle.std.proofs.Math.Nat.{mod-eq_of_lt, mod-mod, div-le_self}

pub int_wrap-pos : (n : ℕ) → n < 2 ^ 32 → int_wrap w32 (pos n) ≡ cast_signed w32 n
unfolding int_wrap
int_wrap-pos n h = ap (cast_signed w32) (mod-eq_of_lt {n = n} {m = 2 ^ 32} h)

pub int_wrap-pos_mod : (n : ℕ) → int_wrap w32 (pos (n % 2 ^ 32)) ≡ int_wrap w32 (pos n)
unfolding int_wrap
int_wrap-pos_mod n = ap (cast_signed w32) (mod-mod n (2 ^ 32))

wrap-negsuc : (n : ℕ) → n < 2 ^ 32 → cast_signed w32 (2 ^ 32 - suc n) ≡ int_wrap w32 (negsuc n)
unfolding int_wrap
wrap-negsuc n h =
    let e : 2 ^ 32 - suc n ≡ 2 ^ 32 - 1 - n % 2 ^ 32 = omega (arith, mod-eq_of_lt {n = n} {m = 2 ^ 32} h) in
    ap (cast_signed w32) e

pub int_wrap-cast : (z : ℤ) → unsigned_abs z < 2 ^ 32 → cast_signed w32 (cast_unsigned w32 z) ≡ int_wrap w32 z
int_wrap-cast (pos n) h = sym (int_wrap-pos n h)
int_wrap-cast (negsuc n) h = let small : n < 2 ^ 32 = omega arith in wrap-negsuc n small

abs-neg : (n : ℕ) → unsigned_abs (neg_ℤ (pos n)) ≡ n
abs-neg zero = refl
abs-neg (suc n) = refl

abs-quotient : (a b : ℤ) → unsigned_abs (int_div a b) ≤ unsigned_abs a
abs-quotient (pos a) (pos b) = div-le_self a b
abs-quotient (pos a) (negsuc b) = rw (abs-neg (a / suc b)) (div-le_self a (suc b))
abs-quotient (negsuc a) (pos b) = rw (abs-neg (suc a / b)) (div-le_self (suc a) b)
abs-quotient (negsuc a) (negsuc b) = div-le_self (suc a) (suc b)

abs-fits : (z : ℤ) → FitsSigned w32 z → unsigned_abs z ≤ 2 ^ 31
abs-fits (pos n) h = let f : n < 2 ^ 31 = h.sfits in omega arith
abs-fits (negsuc n) h = let f : n < 2 ^ 31 = h.sfits in omega arith

pub int_wrap-quotient : (a b : ℤ) → FitsSigned w32 a → cast_signed w32 (cast_unsigned w32 (int_div a b)) ≡ int_wrap w32 (int_div a b)
int_wrap-quotient a b h =
    let bound : unsigned_abs (int_div a b) < 2 ^ 32 = omega (arith, abs-quotient a b, abs-fits a h) in
    int_wrap-cast (int_div a b) bound
