-- The fields of a table or a message, read from the front of its bytes: a value, and the bytes behind it. There is no
-- field where the bytes end before, and no number where an element is no byte. (This project's own words for
-- "uimsbf" and the bytes of ISO/IEC 13818-1, 2.2.6.)
use Rattle.std.specs.Prelude.{◌≡◌, ◌<◌, ◌^◌, ℕ, nat_le, nat_lt, ◌&&◌, if◌then◌else◌, List, [], ◌∷◌, ◌++◌, length, take, drop, Option, Some, None, option_map}
use Rattle.std.specs.List.{list_all}
use Rattle.bml_bytes.specs.Numbers.{big_bytes, big_number}

-- a step, and what is read behind it
infixl 10 ◌>>=◌
abbrev pub ◌>>=◌ : {A B : Type 0} → Option A → (A → Option B) → Option B
None >>= f = None
(Some x) >>= f = f x

-- one byte
abbrev pub byte_at : List ℕ → Option (ℕ × List ℕ)
byte_at [] = None
byte_at (byte ∷ bytes) = Some (byte, bytes)

-- a big-endian number of so many bytes
unfoldable pub number_at : ℕ → List ℕ → Option (ℕ × List ℕ)
number_at width bytes =
    if nat_le width (length bytes) && list_all (λ byte. nat_lt byte 256) (take width bytes)
    then Some (big_number (take width bytes), drop width bytes) else None

-- so many bytes
unfoldable pub bytes_at : ℕ → List ℕ → Option (List ℕ × List ℕ)
bytes_at count bytes = if nat_le count (length bytes) then Some (take count bytes, drop count bytes) else None

-- a value that was read, seen by view, and the bytes that are left
abbrev pub with_left : {X Y : Type 0} → (X → Y) → Option X → List ℕ → Option (Y × List ℕ)
with_left view result left = option_map (λ x. (view x, left)) result

-- What holds of fields (`law_of_fields` says that it does): what is read stands in front of the bytes behind it, and what
-- was written there is read again.
pub record FieldLaws : Type 0 where
  pub byte : (bytes : List ℕ) (read : ℕ × List ℕ) → byte_at bytes ≡ Some read → bytes ≡ read.0 ∷ read.1
  pub number : (width : ℕ) (bytes : List ℕ) (read : ℕ × List ℕ) → number_at width bytes ≡ Some read →
      (bytes ≡ big_bytes width read.0 ++ read.1) × (read.0 < 256 ^ width)
  pub number_again : (width number : ℕ) (rest : List ℕ) → number < 256 ^ width →
      number_at width (big_bytes width number ++ rest) ≡ Some (number, rest)
  pub number_bytes : (width number : ℕ) → length (big_bytes width number) ≡ width
  pub bytes : (count : ℕ) (bytes : List ℕ) (read : List ℕ × List ℕ) → bytes_at count bytes ≡ Some read →
      (bytes ≡ read.0 ++ read.1) × (length read.0 ≡ count)
  pub bytes_again : (text rest : List ℕ) → bytes_at (length text) (text ++ rest) ≡ Some (text, rest)
