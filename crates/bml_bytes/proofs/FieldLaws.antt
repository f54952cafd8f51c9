-- Fields: what is read is what stands there, and what was written is read again.
use Rattle.std.proofs.Common.{◌≡◌, ℕ, ◌^◌, ◌<◌, ◌≤◌, Bool, true, false, cond, nat_le, nat_lt, List, [], ◌∷◌, ◌++◌, length, take, drop, Option, Some, None, refl, sym, ap, subst, ◌∙◌, arith}
use Rattle.std.specs.Prelude.{◌&&◌}
use Rattle.std.specs.List.{list_all}
use Rattle.std.proofs.lemmas.Bool.Decides.{nat_tests}
use Rattle.std.proofs.lemmas.Bool.{and_parts}
use Rattle.std.proofs.lemmas.Option.{same_Some}
use Rattle.std.proofs.lemmas.List.{take_at, drop_at, take-append-drop, length-append, length-take}
use Rattle.std.proofs.lemmas.List.Elements.{All-head, All-tail, All-cons, All-nil}
use Rattle.bml_bytes.specs.Codes.{AreBytes}
use Rattle.bml_bytes.specs.Fields.{byte_at, number_at, bytes_at}
use Rattle.bml_bytes.specs.Numbers.{digits_in, number_in}
use Rattle.bml_bytes.proofs.NumberLaws.{digits_in-below, digits_in-reads_back, length-digits_in, number_in-fits, number_in-reads_back}

-- the test of bytes

test_of : (bytes : List ℕ) → AreBytes bytes → list_all (λ byte. nat_lt byte 256) bytes ≡ true
test_of [] h = refl
test_of (byte ∷ bytes) h = rw (below byte (All-head (λ b. b < 256) byte bytes h), test_of bytes (All-tail (λ b. b < 256) byte bytes h)) refl
  where
    below : (byte : ℕ) → byte < 256 → nat_lt byte 256 ≡ true
    below byte h = grind (arith, nat_tests)

bytes_of_test : (bytes : List ℕ) → list_all (λ byte. nat_lt byte 256) bytes ≡ true → AreBytes bytes
bytes_of_test [] h = All-nil (λ b. b < 256)
bytes_of_test (byte ∷ bytes) h =
    let parts = and_parts (nat_lt byte 256) (list_all (λ byte. nat_lt byte 256) bytes) h in
    All-cons (λ b. b < 256) byte bytes (below byte parts.0) (bytes_of_test bytes parts.1)
  where
    below : (byte : ℕ) → nat_lt byte 256 ≡ true → byte < 256
    below byte h = grind (arith, nat_tests)

at_most : (a b : ℕ) → a ≤ b → nat_le a b ≡ true
at_most a b h = grind (arith, nat_tests)

most_at : (a b : ℕ) → nat_le a b ≡ true → a ≤ b
most_at a b h = grind (arith, nat_tests)

above : (a b : ℕ) → b < a → nat_le a b ≡ false
above a b h = grind (arith, nat_tests)

abbrev found : {A : Type 0} → A → Option A
found x = Some x

guard_some : {A : Type 0} (test : Bool) (x y : A) → cond test (Some x) None ≡ found y → (test ≡ true) × (x ≡ y)
guard_some true x y e = (refl, cc)
guard_some false x y e = absurd cc

-- a number

pub number_at-some : (width number : ℕ) (part left bytes : List ℕ) → AreBytes part → width ≤ length bytes → part ≡ take width bytes → number ≡ number_in 256 (take width bytes) → left ≡ drop width bytes → Some (number, left) ≡ number_at width bytes
unfolding number_at
number_at-some width number part left bytes fit enough front is behind =
    rw (is, behind, at_most width (length bytes) enough, test_of (take width bytes) (subst AreBytes front fit)) refl

pub number_at-none : (width : ℕ) (bytes : List ℕ) → length bytes < width → number_at width bytes ≡ None
unfolding number_at
number_at-none width bytes few = rw (above width (length bytes) few) refl

pub number_at-parts : (width : ℕ) (bytes : List ℕ) (x : ℕ × List ℕ) → number_at width bytes ≡ Some x → (bytes ≡ digits_in 256 width x.0 ++ x.1) × (x.0 < 256 ^ width)
unfolding number_at
number_at-parts width bytes x e =
    let made : ℕ × List ℕ = (number_in 256 (take width bytes), drop width bytes) in
    let g = guard_some (nat_le width (length bytes) && list_all (λ byte. nat_lt byte 256) (take width bytes)) made x e in
    let tests = and_parts (nat_le width (length bytes)) (list_all (λ byte. nat_lt byte 256) (take width bytes)) g.0 in
    let long : length (take width bytes) ≡ width = let l = length-take width bytes in let enough = most_at width (length bytes) tests.0 in omega arith in
    let fit : AreBytes (take width bytes) = bytes_of_test (take width bytes) tests.1 in
    let front : digits_in 256 width (number_in 256 (take width bytes)) ≡ take width bytes = digits_in-reads_back 256 width (take width bytes) fit long in
    let below : number_in 256 (take width bytes) < 256 ^ width = subst (λ (n : ℕ). number_in 256 (take width bytes) < 256 ^ n) long (number_in-fits 256 (take width bytes) fit) in
    subst (λ (y : ℕ × List ℕ). (bytes ≡ digits_in 256 width y.0 ++ y.1) × (y.0 < 256 ^ width)) g.1
    (sym (ap (λ (text : List ℕ). text ++ drop width bytes) front ∙ take-append-drop width bytes), below)

pub number_at-again : (width number : ℕ) (rest : List ℕ) → number < 256 ^ width → number_at width (digits_in 256 width number ++ rest) ≡ Some (number, rest)
unfolding number_at
number_at-again width number rest fits =
    let text : List ℕ = digits_in 256 width number in
    let long : length text ≡ width = length-digits_in 256 width number in
    let enough : width ≤ length (text ++ rest) = let l = length-append text rest in omega arith in
    let front : take width (text ++ rest) ≡ text = take_at text rest width long in
    let behind : drop width (text ++ rest) ≡ rest = drop_at text rest width long in
    let back : number_in 256 text ≡ number = number_in-reads_back 256 width number (omega arith) fits in
    rw (at_most width (length (text ++ rest)) enough, front, behind, test_of text (digits_in-below 256 width number (omega arith)), back) refl

-- a number of bytes

pub bytes_at-some : (count : ℕ) (part left bytes : List ℕ) → count ≤ length bytes → part ≡ take count bytes → left ≡ drop count bytes → Some (part, left) ≡ bytes_at count bytes
unfolding bytes_at
bytes_at-some count part left bytes enough front behind = rw (front, behind, at_most count (length bytes) enough) refl

pub bytes_at-none : (count : ℕ) (bytes : List ℕ) → length bytes < count → bytes_at count bytes ≡ None
unfolding bytes_at
bytes_at-none count bytes few = rw (above count (length bytes) few) refl

pub bytes_at-parts : (count : ℕ) (bytes : List ℕ) (x : List ℕ × List ℕ) → bytes_at count bytes ≡ Some x → (bytes ≡ x.0 ++ x.1) × (length x.0 ≡ count)
unfolding bytes_at
bytes_at-parts count bytes x e =
    let made : List ℕ × List ℕ = (take count bytes, drop count bytes) in
    let g = guard_some (nat_le count (length bytes)) made x e in
    let enough : count ≤ length bytes = most_at count (length bytes) g.0 in
    subst (λ (y : List ℕ × List ℕ). (bytes ≡ y.0 ++ y.1) × (length y.0 ≡ count)) g.1
    (sym (take-append-drop count bytes), omega (arith, length-take count bytes))

pub bytes_at-again : (text rest : List ℕ) → bytes_at (length text) (text ++ rest) ≡ Some (text, rest)
unfolding bytes_at
bytes_at-again text rest =
    let enough : length text ≤ length (text ++ rest) = let l = length-append text rest in omega arith in
    rw (at_most (length text) (length (text ++ rest)) enough, take_at text rest (length text) refl, drop_at text rest (length text) refl) refl

-- a byte

pub byte_at-parts : (bytes : List ℕ) (read : ℕ × List ℕ) → byte_at bytes ≡ Some read → bytes ≡ read.0 ∷ read.1
byte_at-parts [] read e = absurd cc
byte_at-parts (byte ∷ bytes) read e = ap (λ (y : ℕ × List ℕ). y.0 ∷ y.1) (same_Some (byte, bytes) read e)
