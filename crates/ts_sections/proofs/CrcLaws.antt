-- The laws of the CRC: the register holds the remainder, a message with its own CRC leaves nothing, and the
-- register takes in some bytes and then the rest.
use Rattle.std.proofs.Common.{◌≡◌, ℕ, ◌+◌, ◌/◌, ◌^◌, ◌<◌, ◌≤◌, ◌-◌, Bool, true, false, List, [], ◌∷◌, ◌++◌, length, get_or, take, drop, replicate, refl, sym, ap, ◌∙◌, arith, add-one, append-nil, drop-cons}
use Rattle.std.specs.Int.{w32, w64, to_be_bytes}
use Rattle.std.proofs.lemmas.List.{drop_all, take-append-drop}
use Rattle.std.proofs.lemmas.List.Concat.{flat_map-append}
use Rattle.ts_sections.specs.Crc.{add_at_front, bits_of_number, bits_of, number_of, dividend_of, remainder_of, register_behind}
use Rattle.ts_sections.proofs.Adding.{add_comm, add_zeros, length-add}
use Rattle.ts_sections.proofs.Register.{division, length-behind, behind-append, cancelled, behind-linear, added_twice, none_behind}
use Rattle.ts_sections.proofs.Digits.{length-bits, bits-mod, bits-append, bits-zero, number-bits, bits-number}

-- the register when the bits of bytes came in
abbrev pub register_of : List ℕ → List Bool
register_of bytes = register_behind (replicate 32 true) (bits_of bytes)

pub length-register_of : (bytes : List ℕ) → length (register_of bytes) ≡ 32
length-register_of bytes = length-behind (bits_of bytes) (replicate 32 true) refl

pub remainder_is_register : (bytes : List ℕ) → remainder_of bytes ≡ number_of (register_of bytes)
unfolding remainder_of dividend_of
remainder_is_register bytes = ap number_of (division (bits_of bytes) (replicate 32 true) refl)

-- the bits of the remainder are those of the register
pub bits-remainder : (bytes : List ℕ) → bits_of_number 32 (remainder_of bytes) ≡ register_of bytes
bits-remainder bytes =
    ap (bits_of_number 32) (remainder_is_register bytes)
    ∙ ap (λ n. bits_of_number n (number_of (register_of bytes))) (sym (length-register_of bytes))
    ∙ bits-number (register_of bytes)

-- ---- a message with its own CRC
pub bits_of-append : (a b : List ℕ) → bits_of (a ++ b) ≡ bits_of a ++ bits_of b
unfolding bits_of
bits_of-append a b = flat_map-append (bits_of_number 8) a b

pub bits_of-push : (byte : ℕ) (bytes : List ℕ) → bits_of (byte ∷ bytes) ≡ bits_of_number 8 byte ++ bits_of bytes
unfolding bits_of
bits_of-push byte bytes = refl

four : {a b c d a' b' c' d' : List Bool} → a ≡ a' → b ≡ b' → c ≡ c' → d ≡ d' → a ++ (b ++ (c ++ (d ++ []))) ≡ a' ++ (b' ++ (c' ++ d'))
four {d = d} p q r t = cc (append-nil d)

-- 32 bits are those of four bytes
bits_of-four : (n : ℕ) → bits_of (to_be_bytes w32 n) ≡ bits_of_number 32 n
unfolding bits_of
bits_of-four n =
    four (bits-mod 8 (n / 2 ^ 24)) (bits-mod 8 (n / 2 ^ 16)) (bits-mod 8 (n / 2 ^ 8)) (bits-mod 8 n)
    ∙ sym (bits-append 8 24 n
    ∙ ap (λ v. bits_of_number 8 (n / 2 ^ 24) ++ v) (bits-append 8 16 n
    ∙ ap (λ v. bits_of_number 8 (n / 2 ^ 16) ++ v) (bits-append 8 8 n)))

eight : {a b c d e f g h a' b' c' d' e' f' g' h' : List Bool} → a ≡ a' → b ≡ b' → c ≡ c' → d ≡ d' → e ≡ e' → f ≡ f' → g ≡ g' → h ≡ h' → a ++ (b ++ (c ++ (d ++ (e ++ (f ++ (g ++ (h ++ []))))))) ≡ a' ++ (b' ++ (c' ++ (d' ++ (e' ++ (f' ++ (g' ++ h'))))))
eight {h = h} p q r t u v w x = cc (append-nil h)

-- 64 bits are those of eight bytes
pub bits_of-eight : (n : ℕ) → bits_of (to_be_bytes w64 n) ≡ bits_of_number 64 n
unfolding bits_of
bits_of-eight n =
    eight (bits-mod 8 (n / 2 ^ 56)) (bits-mod 8 (n / 2 ^ 48)) (bits-mod 8 (n / 2 ^ 40)) (bits-mod 8 (n / 2 ^ 32)) (bits-mod 8 (n / 2 ^ 24)) (bits-mod 8 (n / 2 ^ 16)) (bits-mod 8 (n / 2 ^ 8)) (bits-mod 8 n)
    ∙ sym (bits-append 8 56 n
    ∙ ap (λ v. bits_of_number 8 (n / 2 ^ 56) ++ v) (bits-append 8 48 n
    ∙ ap (λ v. bits_of_number 8 (n / 2 ^ 48) ++ v) (bits-append 8 40 n
    ∙ ap (λ v. bits_of_number 8 (n / 2 ^ 40) ++ v) (bits-append 8 32 n
    ∙ ap (λ v. bits_of_number 8 (n / 2 ^ 32) ++ v) (bits-append 8 24 n
    ∙ ap (λ v. bits_of_number 8 (n / 2 ^ 24) ++ v) (bits-append 8 16 n
    ∙ ap (λ v. bits_of_number 8 (n / 2 ^ 16) ++ v) (bits-append 8 8 n)))))))

no_value : number_of (replicate 32 false) ≡ 0
unfolding number_of
no_value = refl

pub own_crc : (bytes : List ℕ) → remainder_of (bytes ++ to_be_bytes w32 (remainder_of bytes)) ≡ 0
own_crc bytes =
    let register = register_of bytes in
    let crc = to_be_bytes w32 (remainder_of bytes) in
    let start : List Bool = replicate 32 true in
    remainder_is_register (bytes ++ crc)
    ∙ ap number_of (ap (register_behind start) (bits_of-append bytes crc)
    ∙ behind-append (bits_of bytes) (bits_of crc) start
    ∙ ap (register_behind register) (bits_of-four (remainder_of bytes) ∙ bits-remainder bytes)
    ∙ ap (λ v. register_behind v register) (sym (append-nil register))
    ∙ cancelled register []
    ∙ ap (λ n. replicate n false) (length-register_of bytes))
    ∙ no_value

-- what a message and 32 bits more leave is what the sum of the register and these bits leads to
pub behind_sum : (r c : List Bool) → length r ≡ 32 → length c ≡ 32 → register_behind r c ≡ register_behind (add_at_front r c) (replicate 32 false)
behind_sum r c h k =
    let sum = add_at_front r c in
    let none : List Bool = replicate 32 false in
    let own : register_behind c c ≡ none =
    ap (λ v. register_behind v c) (sym (append-nil c)) ∙ cancelled c [] ∙ ap (λ n. replicate n false) k in
    ap (λ v. register_behind v c) (sym (added_twice r c (omega (arith, h, k))))
    ∙ ap (register_behind (add_at_front sum c)) (sym (add_zeros 32 c (omega (arith, k))))
    ∙ behind-linear none c sum c (sym k) (omega (arith, h, k, length-add r c)) k
    ∙ ap (add_at_front (register_behind sum none)) own
    ∙ add_comm (register_behind sum none) none
    ∙ add_zeros 32 (register_behind sum none) (omega (arith, length-behind none sum (omega (arith, h, k, length-add r c))))

same_from_sum : (r c : List Bool) → length r ≡ 32 → length c ≡ 32 → add_at_front r c ≡ replicate 32 false → c ≡ r
same_from_sum r c h k e =
    sym (add_zeros 32 c (omega (arith, k))) ∙ ap (λ v. add_at_front v c) (sym e) ∙ added_twice r c (omega (arith, h, k))

pub only_own_crc : (bytes : List ℕ) (crc : ℕ) → crc < 2 ^ 32 → remainder_of (bytes ++ to_be_bytes w32 crc) ≡ 0 → crc ≡ remainder_of bytes
only_own_crc bytes crc fits e =
    let register = register_of bytes in
    let bits = bits_of_number 32 crc in
    let whole = bytes ++ to_be_bytes w32 crc in
    let start : List Bool = replicate 32 true in
    let none : register_of whole ≡ replicate 32 false = sym (bits-remainder whole) ∙ ap (bits_of_number 32) e ∙ bits-zero 32 in
    let parts : register_of whole ≡ register_behind register bits =
    ap (register_behind start) (bits_of-append bytes (to_be_bytes w32 crc))
    ∙ behind-append (bits_of bytes) (bits_of (to_be_bytes w32 crc)) start
    ∙ ap (register_behind register) (bits_of-four crc) in
    let sum : add_at_front register bits ≡ replicate 32 false =
    none_behind 32 (add_at_front register bits) (omega (arith, length-add register bits, length-register_of bytes, length-bits 32 crc))
    (sym (behind_sum register bits (length-register_of bytes) (length-bits 32 crc)) ∙ sym parts ∙ none) in
    sym (number-bits 32 crc fits) ∙ ap number_of (same_from_sum register bits (length-register_of bytes) (length-bits 32 crc) sum) ∙ sym (remainder_is_register bytes)

-- ---- the loops over bytes
pub all_ones : bits_of_number 32 (2 ^ 32 - 1) ≡ replicate 32 true
unfolding bits_of_number
all_ones = refl

-- one byte more
pub behind_more : (bytes : List ℕ) (i register after : ℕ) → i < length bytes → bits_of_number 32 after ≡ register_behind (bits_of_number 32 register) (bits_of_number 8 (get_or bytes i 0)) → register_behind (bits_of_number 32 after) (bits_of (drop (i + 1) bytes)) ≡ register_behind (bits_of_number 32 register) (bits_of (drop i bytes))
behind_more bytes i register after h e =
    let next : drop i bytes ≡ get_or bytes i 0 ∷ drop (i + 1) bytes = rw (add-one, drop-cons bytes i 0) in
    ap (λ v. register_behind v (bits_of (drop (i + 1) bytes))) e
    ∙ sym (behind-append (bits_of_number 8 (get_or bytes i 0)) (bits_of (drop (i + 1) bytes)) (bits_of_number 32 register))
    ∙ ap (register_behind (bits_of_number 32 register)) (sym (bits_of-push (get_or bytes i 0) (drop (i + 1) bytes)) ∙ ap bits_of (sym next))

pub behind_nothing : (r : List Bool) → register_behind r (bits_of []) ≡ r
unfolding register_behind bits_of
behind_nothing r = refl

-- all bytes came in
pub behind_all : (bytes : List ℕ) (i : ℕ) (r : List Bool) → length bytes ≤ i → register_behind r (bits_of (drop i bytes)) ≡ r
behind_all bytes i r h = ap (λ v. register_behind r (bits_of v)) (drop_all i bytes h) ∙ behind_nothing r

-- some bytes came in, and then the rest
pub behind_both : (bytes first rest : List ℕ) (count register after : ℕ) → first ≡ take count bytes → rest ≡ drop count bytes → bits_of_number 32 after ≡ register_behind (bits_of_number 32 register) (bits_of first) → register_behind (bits_of_number 32 after) (bits_of rest) ≡ register_behind (bits_of_number 32 register) (bits_of bytes)
behind_both bytes first rest count register after p q e =
    let own = bits_of_number 32 register in
    let whole : first ++ rest ≡ bytes =
    ap (λ v. v ++ rest) p ∙ ap (λ v. take count bytes ++ v) q ∙ take-append-drop count bytes in
    ap (λ v. register_behind v (bits_of rest)) e
    ∙ sym (behind-append (bits_of first) (bits_of rest) own)
    ∙ ap (register_behind own) (sym (bits_of-append first rest) ∙ ap bits_of whole)

-- the register is the remainder when all bytes came in
pub register_is_remainder : (bytes : List ℕ) (register : ℕ) → register < 2 ^ 32 → bits_of_number 32 register ≡ register_of bytes → register ≡ remainder_of bytes
register_is_remainder bytes register fits e =
    sym (number-bits 32 register fits) ∙ ap number_of e ∙ sym (remainder_is_register bytes)
