-- A number and its digits in a base.
use Rattle.std.proofs.Common.{◌≡◌, ℕ, zero, suc, ◌+◌, ◌*◌, ◌/◌, ◌%◌, ◌^◌, ◌<◌, ◌≤◌, List, [], ◌∷◌, ◌++◌, length, take, drop, refl, sym, ap, ◌∙◌, subst, arith}
use Rattle.std.proofs.Math.Arith.{mod-mul}
use Rattle.std.proofs.Math.Nat.{one-le-pow, pow-zero, pow-suc, pow-succ', mod-eq_of_lt, mod-lt, add-mul-div_right, add-mul-mod_self_right}
use Rattle.std.proofs.lemmas.Nat.{div-mul-add, mul-add-lt}
use Rattle.std.proofs.lemmas.List.Elements.{All-cons, All-head, All-tail, All-take}
use Rattle.std.proofs.Math.Seq.{take-length}
use Rattle.std.specs.Int.{to_be_bytes, w16, w32}
use Rattle.std.specs.List.{All}
use Rattle.byteorder.specs.Endian.{big_from}
use Rattle.byteorder.specs.Numbers.{big_from-cons}
use Rattle.bml_bytes.specs.Numbers.{number_in, digits_in}
use Rattle.bml_bytes.proofs.Elements.{take-front, length-take-le}

-- a power of a base
pub pow-positive : (base count : ℕ) → 0 < base → 0 < base ^ count
pow-positive base count h = let e = one-le-pow count base h in omega arith

-- there are as many digits as were asked for
pub length-digits_in : (base count number : ℕ) → length (digits_in base count number) ≡ count
unfolding digits_in
length-digits_in base zero number = refl
length-digits_in base (suc count) number = let e = length-digits_in base count number in omega arith

-- each digit is below the base
pub digits_in-below : (base count number : ℕ) → 0 < base → All (λ digit. digit < base) (digits_in base count number)
unfolding digits_in
digits_in-below base zero number h = λ k d below. absurd (omega arith)
digits_in-below base (suc count) number h =
    All-cons (λ d. d < base) (number / base ^ count % base) (digits_in base count number) (mod-lt (number / base ^ count) h) (digits_in-below base count number h)

-- the number of the last digits
pub number_in-digits_in : (base count number : ℕ) → 0 < base → number_in base (digits_in base count number) ≡ number % base ^ count
unfolding digits_in number_in
number_in-digits_in base zero number h = rw (pow-zero base) (omega arith)
number_in-digits_in base (suc count) number h =
    rw (length-digits_in base count number, number_in-digits_in base count number h, pow-succ' base count, mod-mul number {m = base} {c = base ^ count} h (pow-positive base count h)) refl

-- the number of all digits
pub number_in-reads_back : (base count number : ℕ) → 0 < base → number < base ^ count → number_in base (digits_in base count number) ≡ number
number_in-reads_back base count number h fits = number_in-digits_in base count number h ∙ mod-eq_of_lt fits

-- the number of some digits is below that with one more
pub number_in-fits : (base : ℕ) (digits : List ℕ) → All (λ digit. digit < base) digits → number_in base digits < base ^ length digits
unfolding number_in
number_in-fits base [] h = rw (pow-zero base) (omega arith)
number_in-fits base (digit ∷ digits) h =
    let first = All-head (λ d. d < base) digit digits h in
    let rest = number_in-fits base digits (All-tail (λ d. d < base) digit digits h) in
    rw (pow-suc base (length digits)) (mul-add-lt digit (base ^ length digits) (number_in base digits) base first rest)

-- what stands above the last digits
pub digits_in-above : (base count high low : ℕ) → 0 < base → digits_in base count (high * base ^ count + low) ≡ digits_in base count low
unfolding digits_in
digits_in-above base zero high low h = refl
digits_in-above base (suc count) high low h =
    let moved : high * base ^ suc count + low ≡ low + high * base * base ^ count = rw (pow-suc base count) (omega arith) in
    let turned : low + high * base * base ^ count ≡ high * base * base ^ count + low = omega arith in
    let place : (high * base ^ suc count + low) / base ^ count ≡ low / base ^ count + high * base =
    ap (λ (n : ℕ). n / base ^ count) moved ∙ add-mul-div_right low (high * base) (pow-positive base count h) in
    let first : (high * base ^ suc count + low) / base ^ count % base ≡ low / base ^ count % base =
    ap (λ (n : ℕ). n % base) place ∙ add-mul-mod_self_right (low / base ^ count) high base in
    let rest : digits_in base count (high * base ^ suc count + low) ≡ digits_in base count low =
    ap (digits_in base count) (moved ∙ turned) ∙ digits_in-above base count (high * base) low h in
    cc

-- the digits of the number that some digits are
pub digits_in-number_in : (base : ℕ) (digits : List ℕ) → All (λ digit. digit < base) digits → digits_in base (length digits) (number_in base digits) ≡ digits
unfolding digits_in number_in
digits_in-number_in base [] h = refl
digits_in-number_in base (digit ∷ digits) h =
    let first = All-head (λ d. d < base) digit digits h in
    let below = All-tail (λ d. d < base) digit digits h in
    let fits = number_in-fits base digits below in
    let place : (digit * base ^ length digits + number_in base digits) / base ^ length digits % base ≡ digit =
    ap (λ (n : ℕ). n % base) (div-mul-add digit (base ^ length digits) (number_in base digits) fits) ∙ mod-eq_of_lt first in
    let rest : digits_in base (length digits) (digit * base ^ length digits + number_in base digits) ≡ digits =
    digits_in-above base (length digits) digit (number_in base digits) (omega arith) ∙ digits_in-number_in base digits below in
    cc

-- the same where their number is told
pub digits_in-reads_back : (base count : ℕ) (digits : List ℕ) → All (λ digit. digit < base) digits → length digits ≡ count → digits_in base count (number_in base digits) ≡ digits
digits_in-reads_back base count digits h e = subst (λ (n : ℕ). digits_in base n (number_in base digits) ≡ digits) e (digits_in-number_in base digits h)

-- the first digits, and the last ones behind them
pub drop-digits_in : (base more count number : ℕ) → drop more (digits_in base (more + count) number) ≡ digits_in base count number
unfolding digits_in
drop-digits_in base zero count number = rw (zero_plus count) refl
  where
    zero_plus : (n : ℕ) → 0 + n ≡ n
    zero_plus n = omega arith
drop-digits_in base (suc more) count number = let e : suc more + count ≡ suc (more + count) = omega arith in rw e (drop-digits_in base more count number)

-- the number in front of other digits
pub number_in-front : (base count number : ℕ) (rest : List ℕ) → 0 < base → number < base ^ count → number_in base (take count (digits_in base count number ++ rest)) ≡ number
number_in-front base count number rest h fits =
    rw (take-front count (digits_in base count number) rest (length-digits_in base count number)) (number_in-reads_back base count number h fits)

-- what stands in front of other digits
pub digits_in-front : (base count : ℕ) (digits : List ℕ) → All (λ digit. digit < base) digits → count ≤ length digits → digits_in base count (number_in base (take count digits)) ≡ take count digits
digits_in-front base count digits h enough = digits_in-reads_back base count (take count digits) (All-take (λ d. d < base) count digits h) (length-take-le count digits enough)

-- the number that `byteorder` reads
pub big_from-number_in : (count : ℕ) (bytes : List ℕ) → count ≤ length bytes → big_from 0 count bytes ≡ number_in 256 (take count bytes)
unfolding number_in
big_from-number_in zero bytes h = refl
big_from-number_in (suc count) [] h = absurd (omega arith)
big_from-number_in (suc count) (byte ∷ bytes) h =
    let enough : count ≤ length bytes = omega arith in
    rw (big_from-cons 0 count byte bytes, big_from-number_in count bytes enough, length-take-le count bytes enough) refl

-- the number that `byteorder` reads in the first part of some bytes
pub big_from-part : (count : ℕ) (part bytes : List ℕ) → count ≤ length bytes → part ≡ take count bytes → big_from 0 count part ≡ number_in 256 (take count bytes)
big_from-part count part bytes enough e =
    let whole : length part ≡ count = ap (length {A = ℕ}) e ∙ length-take-le count bytes enough in
    let same : take count part ≡ part = subst (λ (n : ℕ). take n part ≡ part) whole (take-length part) in
    big_from-number_in count part (omega arith) ∙ ap (number_in 256) (same ∙ e)

-- the bytes that a number was read from
pub read_field : (count number : ℕ) (part bytes behind : List ℕ) → All (λ byte. byte < 256) part → count ≤ length bytes → part ≡ take count bytes → number ≡ number_in 256 (take count bytes) → bytes ≡ part ++ behind → bytes ≡ digits_in 256 count number ++ behind
read_field count number part bytes behind h enough e is split =
    let whole : length part ≡ count = ap (length {A = ℕ}) e ∙ length-take-le count bytes enough in
    let back : digits_in 256 count number ≡ part = ap (digits_in 256 count) (is ∙ ap (number_in 256) (sym e)) ∙ digits_in-reads_back 256 count part h whole in
    split ∙ ap (λ (front : List ℕ). front ++ behind) (sym back)

-- what a number that was read is below
pub read_fits : (count number : ℕ) (part bytes : List ℕ) → All (λ byte. byte < 256) part → count ≤ length bytes → part ≡ take count bytes → number ≡ number_in 256 (take count bytes) → number < 256 ^ count
read_fits count number part bytes h enough e is =
    let whole : length part ≡ count = ap (length {A = ℕ}) e ∙ length-take-le count bytes enough in
    let same : number ≡ number_in 256 part = is ∙ ap (number_in 256) (sym e) in
    let fits = number_in-fits 256 part h in
    rw (same, ← whole) fits

-- a byte is a number of one byte
pub digits_in-one : (base digit : ℕ) → digit < base → digits_in base 1 digit ≡ digit ∷ []
unfolding digits_in
digits_in-one base digit h =
    let whole : digit / 1 ≡ digit = omega arith in
    rw (pow-zero base, whole, mod-eq_of_lt h) refl

-- the bytes in which Rust writes a number
pub two-bytes : (number : ℕ) → to_be_bytes w16 number ≡ digits_in 256 2 number
unfolding digits_in
two-bytes number = let e : number / 1 % 256 ≡ number % 256 = omega arith in rw e refl

pub four-bytes : (number : ℕ) → to_be_bytes w32 number ≡ digits_in 256 4 number
unfolding digits_in
four-bytes number = let e : number / 1 % 256 ≡ number % 256 = omega arith in rw e refl
