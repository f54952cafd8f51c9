-- A device of the code: the hash that a text keeps of its codes. All that anybody asks of it is that
-- equal texts have equal ones. (This project's own.)
use Rattle.std.specs.Prelude.{ℕ, ◌+◌, ◌*◌, ◌%◌, ◌^◌, List, [], ◌∷◌}

-- a hash with one word more
abbrev pub mixed : ℕ → ℕ → ℕ
mixed hash word = ((hash + word) % 2 ^ 64 * 0x9E3779B97F4A7C15) % 2 ^ 64

-- codes as one word, the first the lowest
abbrev pub word_of : List ℕ → ℕ
word_of [] = 0
word_of (code ∷ more) = code + 65536 * word_of more

-- a hash with codes more, four of them as one word
unfoldable pub with_codes : ℕ → List ℕ → ℕ
with_codes hash [] = hash
with_codes hash (a ∷ []) = mixed hash a
with_codes hash (a ∷ b ∷ []) = mixed (mixed hash a) b
with_codes hash (a ∷ b ∷ c ∷ []) = mixed (mixed (mixed hash a) b) c
with_codes hash (a ∷ b ∷ c ∷ d ∷ rest) = with_codes (mixed hash (word_of (a ∷ b ∷ c ∷ d ∷ []))) rest

-- the hash of a text
abbrev pub text_hash : List ℕ → ℕ
text_hash codes = with_codes 0 codes
