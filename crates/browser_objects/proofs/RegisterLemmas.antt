-- The names of registers.
use Rattle.std.proofs.Common.{◌≡◌, ℕ, ◌<◌, nat_lt, Bool, true, false, cond, List, Option, Some, None, refl, subst, arith}
use Rattle.std.specs.Prelude.{option_and_then}
use Rattle.std.proofs.lemmas.Bool.{ltb-true, lt-ltb}
use Rattle.std.proofs.lemmas.Option.{same_Some}
use Rattle.bml_bytes.specs.Numerals.{decimal_digits}
use Rattle.es_values.specs.Heaps.{index_of}
use Rattle.browser_objects.specs.Registers.{register_number, register_of}

number-is : (index number : ℕ) (test : Bool) → cond test (Some index) None ≡ Some number → (test ≡ true) × (index ≡ number)
number-is index number true e = (refl, same_Some index number e)
number-is index number false e = absurd cc

pub named : ((name : List ℕ) (index : ℕ) → index_of name ≡ Some index → (name ≡ decimal_digits index) × (index < 2147483647))
    → (name : List ℕ) (number : ℕ) → register_of name ≡ Some number → (number < 64) × (name ≡ decimal_digits number)
named text name number e = step (index_of name) refl e
  where
    step : (found : Option ℕ) → index_of name ≡ found → option_and_then register_number found ≡ Some number
        → (number < 64) × (name ≡ decimal_digits number)
    step None is g = absurd cc
    step (Some index) is g =
        let n = number-is index number (nat_lt index 64) g in
        (subst (λ (k : ℕ). k < 64) n.1 (ltb-true index 64 n.0), subst (λ (k : ℕ). name ≡ decimal_digits k) n.1 (text name index is).0)

pub read : ((index : ℕ) → index < 2147483647 → index_of (decimal_digits index) ≡ Some index)
    → (name : List ℕ) (number : ℕ) → (number < 64) × (name ≡ decimal_digits number) → register_of name ≡ Some number
read digits name number (low, is) =
    let index : index_of (decimal_digits number) ≡ Some number = digits number (omega arith) in
    rw (is, index, lt-ltb number 64 low) refl
