-- An array that costs many steps to convert has a long text.
use Rattle.std.proofs.Common.{◌≡◌, ℕ, zero, suc, ◌+◌, ◌≤◌, nat_le, not, Bool, true, false, List, ◌++◌, length, Option, Some, None, sym, arith, length-append}
use Rattle.std.specs.Prelude.{codes}
use Rattle.std.specs.Option.{option_map_or}
use Rattle.std.proofs.lemmas.Bool.Decides.{nat_tests}
use Rattle.es_values.specs.declared.values.Value.{Value}
use Rattle.es_values.specs.declared.values.Value.TheVariants.{Undefined, Null, Bool as Boolean, Number, Str, Object, Function, Host}
use Rattle.es_values.specs.Charges.{begun_sixteens, conversion_charge, join_charge}
use Rattle.es_values.specs.Conversions.{joined, object_text, text_at, text_of}
use Rattle.es_values.specs.Heaps.{object_at}
use Rattle.es_values.specs.Objects.{ObjectState}
use Rattle.browser_objects.specs.ArrayCalls.{field_of_text}

-- a comma stands between each two elements
joined-long : (properties : List (List ℕ × Value)) (count : ℕ) → count ≤ length (joined properties (codes ",") count) + 1
unfolding joined
joined-long properties zero = omega arith
joined-long properties (suc zero) = omega arith
joined-long properties (suc (suc place)) =
    let less = joined-long properties (suc place) in
    let size = length-append (joined properties (codes ",") (suc place)) (codes "," ++ text_at properties (suc place)) in
    let part = length-append (codes ",") (text_at properties (suc place)) in
    omega arith

long-none : (text : List ℕ) → 256 ≤ length text → field_of_text text ≡ None
long-none text h = grind (arith, nat_tests)

charged : (count size : ℕ) → nat_le (begun_sixteens (count + size)) 32 ≡ false → count ≤ size + 1 → 256 ≤ size
charged count size h less = grind (arith, nat_tests)

long-text : (heap : List ObjectState) (value : Value) → nat_le (conversion_charge heap value) 32 ≡ false
    → field_of_text (text_of heap value) ≡ None
long-text heap Undefined h = absurd cc
long-text heap Null h = absurd cc
long-text heap (Boolean b) h = absurd cc
long-text heap (Number number) h = absurd cc
long-text heap (Str text) h = absurd cc
long-text heap (Function number) h = absurd cc
long-text heap (Host reference) h = absurd cc
long-text heap (Object object) h = by (object_at heap object) h
  where
    by : (object : ObjectState) → nat_le (join_charge object (codes ",")) 32 ≡ false → field_of_text (object_text object) ≡ None
    by object h = of_length object.array_length object.properties h
      where
        of_length : (found : Option ℕ) (properties : List (List ℕ × Value))
            → nat_le (option_map_or (λ count. begun_sixteens (count + length (joined properties (codes ",") count))) found 0) 32 ≡ false
            → field_of_text (option_map_or (λ count. joined properties (codes ",") count) found (codes "[object Object]")) ≡ None
        of_length None properties h = absurd cc
        of_length (Some count) properties h =
            let text = joined properties (codes ",") count in
            long-none text (charged count (length text) h (joined-long properties count))

-- an array whose steps were refused
pub refused-long : (heap : List ObjectState) (value : Value) (taken : Bool) → taken ≡ nat_le (conversion_charge heap value) 32
    → not taken ≡ true → field_of_text (text_of heap value) ≡ None
refused-long heap value true e h = absurd cc
refused-long heap value false e h = long-text heap value (sym e)
