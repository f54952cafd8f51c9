-- Numbers as lists of digits in a base, the highest digit first, and the big-endian numbers of the
-- standards, whose digits are bytes ("uimsbf" of ISO/IEC 13818-1, 2.2.6).
use Rattle.std.specs.Prelude.{ℕ, zero, suc, ◌+◌, ◌*◌, ◌/◌, ◌%◌, ◌^◌, List, [], ◌∷◌, length}

-- the number that the digits are
unfoldable pub number_in : ℕ → List ℕ → ℕ
number_in base [] = 0
number_in base (digit ∷ digits) = digit * base ^ length digits + number_in base digits

-- the last `count` digits of a number, with zeros in front where it has fewer
unfoldable pub digits_in : ℕ → ℕ → ℕ → List ℕ
digits_in base zero number = []
digits_in base (suc count) number = number / base ^ count % base ∷ digits_in base count number

-- the number that some bytes are, the highest byte first
abbrev pub big_number : List ℕ → ℕ
big_number bytes = number_in 256 bytes

-- a number in `count` bytes, the highest first; a number has them all where it is below 256 ^ count
abbrev pub big_bytes : ℕ → ℕ → List ℕ
big_bytes count number = digits_in 256 count number
