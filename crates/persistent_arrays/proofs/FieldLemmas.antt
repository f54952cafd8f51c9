-- The bytes of a field.
use Rattle.std.proofs.Common.{◌≡◌, ℕ, zero, suc, ◌+◌, ◌-◌, ◌*◌, ◌/◌, ◌%◌, ◌^◌, ◌<◌, ◌≤◌, nat_le, List, [], ◌∷◌, ◌++◌, length, take, drop, replicate, Some, inl, inr, refl, sym, ap, ◌∙◌, arith}
use Rattle.std.specs.Int.{w32, to_be_bytes}
use Rattle.std.proofs.Math.Nat.{pow-le-pow_right}
use Rattle.std.proofs.lemmas.Bool.{leb-true}
use Rattle.std.proofs.lemmas.Grind.{pow_more}
use Rattle.std.proofs.lemmas.List.{length-replicate, length-take-le}
use Rattle.std.proofs.lemmas.Option.{cond_some}
use Rattle.bml_bytes.specs.Fields.{bytes_at}
use Rattle.bml_bytes.specs.Numbers.{big_bytes, big_number, digits_in, number_in}
use Rattle.persistent_arrays.specs.declared.kinds.FieldKind.{FieldKind}
use Rattle.persistent_arrays.specs.declared.kinds.FieldKind.TheVariants.{Bit, Unsigned, Signed, Fixed, Varying}
use Rattle.persistent_arrays.specs.Fields.{in_front, without_last_zeros}
use Rattle.persistent_arrays.specs.Reading.{field_at}
use Rattle.persistent_arrays.specs.Structures.{IsKind}
use Rattle.persistent_arrays.specs.devices.Unpackers.{HasSize}

-- the low bytes of a number are the last of its four
one-low : (number : ℕ) → drop 3 (to_be_bytes w32 number) ≡ big_bytes 1 (number % 256 ^ 1)
unfolding digits_in
one-low number = let e : number % 256 ≡ number % 256 ^ 1 / 1 % 256 = omega arith in ap (λ (n : ℕ). n ∷ []) e

two-low : (number : ℕ) → drop 2 (to_be_bytes w32 number) ≡ big_bytes 2 (number % 256 ^ 2)
unfolding digits_in
two-low number =
    let high : number / 256 % 256 ≡ number % 65536 / 256 % 256 = omega arith in
    let low : number % 256 ≡ number % 65536 / 1 % 256 = omega arith in
    ap (λ (n : ℕ). n ∷ number % 256 ∷ []) high ∙ ap (λ (n : ℕ). number % 65536 / 256 % 256 ∷ n ∷ []) low

four-low : (number : ℕ) → number < 2 ^ 32 → to_be_bytes w32 number ≡ big_bytes 4 (number % 256 ^ 4)
unfolding digits_in
four-low number h =
    let whole : number % 4294967296 ≡ number = omega arith in
    let low : number % 256 ≡ number / 1 % 256 = omega arith in
    ap (λ (n : ℕ). number / 16777216 % 256 ∷ number / 65536 % 256 ∷ number / 256 % 256 ∷ n ∷ []) low ∙ ap (big_bytes 4) (sym whole)

count-one : (number : ℕ) → length (big_bytes 1 number) ≡ 1
unfolding digits_in
count-one number = refl

count-two : (number : ℕ) → length (big_bytes 2 number) ≡ 2
unfolding digits_in
count-two number = refl

count-four : (number : ℕ) → length (big_bytes 4 number) ≡ 4
unfolding digits_in
count-four number = refl

pub low-bytes : (size number : ℕ) → IsKind (Unsigned size) → number < 2 ^ 32 → drop (4 - size) (to_be_bytes w32 number) ≡ big_bytes size (number % 256 ^ size)
low-bytes size number (inl e) h = rw e (one-low number)
low-bytes size number (inr (inl e)) h = rw e (two-low number)
low-bytes size number (inr (inr e)) h = rw e (four-low number h)

pub low-count : (size number : ℕ) → IsKind (Unsigned size) → length (big_bytes size (number % 256 ^ size)) ≡ size
low-count size number (inl e) = rw e (count-one (number % 256 ^ 1))
low-count size number (inr (inl e)) = rw e (count-two (number % 256 ^ 2))
low-count size number (inr (inr e)) = rw e (count-four (number % 256 ^ 4))

pub small-size : (size : ℕ) → IsKind (Unsigned size) → size ≤ 4
small-size size (inl e) = omega arith
small-size size (inr (inl e)) = omega arith
small-size size (inr (inr e)) = omega arith

-- a text that is filled up
pub zeros-count : (count : ℕ) → length (replicate {A = ℕ} count 0) ≡ count
zeros-count count = length-replicate count 0

-- zeros at the end
zeros-end : (count : ℕ) → without_last_zeros (replicate count 0) ≡ []
zeros-end zero = refl
zeros-end (suc count) = ap (in_front 0) (zeros-end count)

pub filled-end : (bytes : List ℕ) (count : ℕ) → without_last_zeros (bytes ++ replicate count 0) ≡ without_last_zeros bytes
filled-end [] count = zeros-end count
filled-end (byte ∷ bytes) count = ap (in_front byte) (filled-end bytes count)

in_front-some : (byte next : ℕ) (bytes : List ℕ) → in_front byte (next ∷ bytes) ≡ byte ∷ next ∷ bytes
in_front-some zero next bytes = refl
in_front-some (suc byte) next bytes = refl

last-kept : (front : List ℕ) (last : ℕ) → without_last_zeros (front ++ suc last ∷ []) ≡ front ++ suc last ∷ []
last-kept [] last = refl
last-kept (byte ∷ []) last = in_front-some byte (suc last) []
last-kept (byte ∷ next ∷ front) last = ap (in_front byte) (last-kept (next ∷ front) last) ∙ in_front-some byte next (front ++ suc last ∷ [])

pub zero-left : (front : List ℕ) (last : ℕ) (bytes : List ℕ) → bytes ≡ front ++ last ∷ [] → last ≡ 0 → without_last_zeros front ≡ without_last_zeros bytes
zero-left front last bytes e z = sym (filled-end front 1) ∙ ap (λ (n : ℕ). without_last_zeros (front ++ n ∷ [])) (sym z) ∙ ap without_last_zeros (sym e)

pub other-left : (front : List ℕ) (last : ℕ) (bytes : List ℕ) → bytes ≡ front ++ last ∷ [] → (last ≡ 0 → ⊥) → without_last_zeros bytes ≡ bytes
other-left front zero bytes e h = absurd (h refl)
other-left front (suc last) bytes e h = ap without_last_zeros e ∙ last-kept front last ∙ sym e

-- the bytes of a field are as many as its kind says
count-read : (size : ℕ) (bytes part left : List ℕ) → bytes_at size bytes ≡ Some (part, left) → length part ≡ size
unfolding bytes_at
count-read size bytes part left e =
    let g = cond_some (nat_le size (length bytes)) (take size bytes, drop size bytes) (part, left) e in
    let fits = leb-true size (length bytes) g.0 in
    let same : take size bytes ≡ part = ap (λ (r : List ℕ × List ℕ). r.0) g.1 in
    sym (ap length same) ∙ length-take-le size bytes fits

pub field-size : (kind : FieldKind) (bytes part left : List ℕ) → IsKind kind → field_at kind bytes ≡ Some (part, left) → HasSize kind part
field-size Bit bytes part left h e = tt
field-size (Unsigned size) bytes part left h e = (h, count-read size bytes part left e)
field-size (Signed size) bytes part left h e = (h, count-read size bytes part left e)
field-size (Fixed size) bytes part left h e = tt
field-size Varying bytes part left h e = tt

-- a number of up to four bytes
pub power-four : (count : ℕ) → count ≤ 4 → 256 ^ count ≤ 4294967296
power-four count h = pow-le-pow_right (omega arith) h

pub power-three : (count : ℕ) → count ≤ 3 → 256 ^ count ≤ 16777216
power-three count h = pow-le-pow_right (omega arith) h

pub next-small : (count number byte : ℕ) → number < 256 ^ count → byte < 256 → number * 256 + byte < 256 ^ (count + 1)
next-small count number byte h b = let p = pow_more 256 count in omega arith

pub nothing-read : big_number [] ≡ 0
unfolding number_in
nothing-read = refl
