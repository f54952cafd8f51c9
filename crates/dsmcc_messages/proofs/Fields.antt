-- Fields of a message: a field that is read is what stands there, and what was written is read again.
use Rattle.std.proofs.Common.{◌≡◌, ℕ, ◌^◌, ◌<◌, List, [], ◌∷◌, ◌++◌, length, Option, Some, None, refl, sym, ap, ◌∙◌, append_assoc, arith}
use Rattle.bml_bytes.specs.Fields.{◌>>=◌, FieldLaws, byte_at, number_at, bytes_at}
use Rattle.bml_bytes.specs.Numbers.{big_bytes}
use Rattle.dsmcc_messages.specs.Reading.{short_bytes_at, long_bytes_at}

-- one text behind the other
pub one_text : (a x b y c : List ℕ) → a ≡ x ++ b → b ≡ y ++ c → a ≡ (x ++ y) ++ c
one_text a x b y c p q = p ∙ ap (λ (t : List ℕ). x ++ t) q ∙ sym (append_assoc x y c)

-- a step that is read goes on with what it read
pub bind_some : {A B : Type 0} (o : Option A) (f : A → Option B) (y : B) → (o >>= f) ≡ Some y → (x : A) × (o ≡ Some x) × (f x ≡ Some y)
bind_some None f y e = absurd cc
bind_some (Some x) f y e = (x, refl, e)

-- the same, with names for what was read
pub bind_with : {A B P : Type 0} (o : Option A) (f : A → Option B) (y : B) → (o >>= f) ≡ Some y → ((x : A) → o ≡ Some x → f x ≡ Some y → P) → P
bind_with None f y e go = absurd cc
bind_with (Some x) f y e go = go x refl e

-- a number of bytes that is told
pub bytes_told : (laws : FieldLaws) (count : ℕ) (text rest : List ℕ) → length text ≡ count → bytes_at count (text ++ rest) ≡ Some (text, rest)
bytes_told laws count text rest e = ap (λ (n : ℕ). bytes_at n (text ++ rest)) (sym e) ∙ laws.bytes_again text rest

-- bytes behind their length

pub short_bytes_parts : (laws : FieldLaws) (bytes : List ℕ) (x : List ℕ × List ℕ) → short_bytes_at bytes ≡ Some x → bytes ≡ length x.0 ∷ (x.0 ++ x.1)
unfolding short_bytes_at
short_bytes_parts laws bytes x e =
    let n = bind_some (byte_at bytes) (λ n. bytes_at n.0 n.1) x e in
    let second = laws.bytes n.0.0 n.0.1 x n.2 in
    rw second.1 (laws.byte bytes n.0 n.1 ∙ ap (λ (rest : List ℕ). n.0.0 ∷ rest) second.0)

pub short_bytes_again : (laws : FieldLaws) (text rest : List ℕ) → short_bytes_at (length text ∷ text ++ rest) ≡ Some (text, rest)
unfolding short_bytes_at
short_bytes_again laws text rest = laws.bytes_again text rest

pub long_bytes_take : (laws : FieldLaws) (bytes : List ℕ) (x : List ℕ × List ℕ) → long_bytes_at bytes ≡ Some x → (bytes ≡ (big_bytes 2 (length x.0) ++ x.0) ++ x.1) × (length x.0 < 2 ^ 16)
unfolding long_bytes_at
long_bytes_take laws bytes x e =
    let n = bind_some (number_at 2 bytes) (λ n. bytes_at n.0 n.1) x e in
    let first = laws.number 2 bytes n.0 n.1 in
    let second = laws.bytes n.0.0 n.0.1 x n.2 in
    (rw second.1 (one_text bytes (big_bytes 2 n.0.0) n.0.1 x.0 x.1 first.0 second.0), omega (arith, first.1, second.1))

pub long_bytes_again : (laws : FieldLaws) (text rest : List ℕ) → length text < 2 ^ 16 → long_bytes_at (big_bytes 2 (length text) ++ (text ++ rest)) ≡ Some (text, rest)
unfolding long_bytes_at
long_bytes_again laws text rest lt =
    rw (laws.number_again 2 (length text) (text ++ rest) lt) (laws.bytes_again text rest)
