-- The CRC_32 of a section (ISO/IEC 13818-1, annex A): the remainder of a long division of
-- polynomials over GF(2). A polynomial is the list of its coefficients, the highest power first.
use Rattle.std.specs.Prelude.{ℕ, zero, suc, ◌+◌, ◌*◌, ◌==◌, if◌then◌else◌, Bool, true, false, not, List, [], ◌∷◌, ◌++◌, length, replicate, fold, flat_map}
use Rattle.std.specs.Int.{bit_at}

-- the low `count` bits of a number, the most significant first
unfoldable pub bits_of_number : ℕ → ℕ → List Bool
bits_of_number zero n = []
bits_of_number (suc count) n = (bit_at n count == 1) ∷ bits_of_number count n

-- the bits of bytes in the order in which they are sent: of each byte the most significant first
unfoldable pub bits_of : List ℕ → List Bool
bits_of bytes = flat_map (bits_of_number 8) bytes

-- the number that has these bits, the most significant first
unfoldable pub number_of : List Bool → ℕ
number_of bits = fold (λ n bit. 2 * n + (if bit then 1 else 0)) 0 bits

-- two coefficients added modulo 2
abbrev pub bit_sum : Bool → Bool → Bool
bit_sum true b = not b
bit_sum false b = b

-- two polynomials added modulo 2, the shorter one times the power of x that makes both begin with the
-- same power: written one below the other from the front on, each coefficient to the one above it
unfoldable pub add_at_front : List Bool → List Bool → List Bool
add_at_front [] b = b
add_at_front (x ∷ a) [] = x ∷ a
add_at_front (x ∷ a) (y ∷ b) = bit_sum x y ∷ add_at_front a b

-- the generator x^32 + x^26 + x^23 + x^22 + x^16 + x^12 + x^11 + x^10 + x^8 + x^7 + x^5 + x^4 + x^2
-- + x + 1 without its leading coefficient
unfoldable pub generator : List Bool
generator = bits_of_number 32 0x04C11DB7

-- Long division by the generator: in each step the leading bit goes, and where it was 1, the
-- generator is taken away from what it led, which modulo 2 is to add it.
unfoldable pub remainder : ℕ → List Bool → List Bool
remainder zero dividend = dividend
remainder (suc steps) [] = []
remainder (suc steps) (lead ∷ rest) =
    remainder steps (if lead then add_at_front generator rest else rest)

-- the message with 32 zeros behind it, and the first 32 bits of the whole inverted, which is the
-- start with all ones
unfoldable pub dividend_of : List Bool → List Bool
dividend_of message = add_at_front (replicate 32 true) (message ++ replicate 32 false)

-- The remainder of bytes: one step for each bit of the message leaves 32 bits, read as a number. It
-- is the CRC_32 of the bytes; a section with its own CRC_32 leaves 0
unfoldable pub remainder_of : List ℕ → ℕ
remainder_of bytes =
    let message = bits_of bytes in number_of (remainder (length message) (dividend_of message))

-- The decoder of annex A, a shift register of 32 bits: a bit comes in, is added to the leading one,
-- and where the sum is 1, the generator is added to what was shifted.
unfoldable pub shifted : List Bool → Bool → List Bool
shifted [] bit = []
shifted (lead ∷ register) bit =
    let moved = register ++ false ∷ [] in
    if bit_sum lead bit then add_at_front generator moved else moved

-- the register when the bits of a message came in
unfoldable pub register_behind : List Bool → List Bool → List Bool
register_behind register [] = register
register_behind register (bit ∷ message) = register_behind (shifted register bit) message
