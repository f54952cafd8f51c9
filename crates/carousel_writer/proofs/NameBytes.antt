-- The bytes of texts that are the codes of their own bytes.
use Rattle.std.proofs.Common.{◌≡◌, ℕ, ◌/◌, ◌%◌, ◌≤◌, ◌<◌, inl, inr, Bool, true, false, cond, List, [], ◌∷◌, refl, arith}
use Rattle.std.specs.Prelude.{nat_lt}
use Rattle.std.specs.List.{All}
use Rattle.std.proofs.lemmas.Bool.Decides.{nat_tests}
use Rattle.std.proofs.lemmas.List.Elements.{All-cons, All-head, All-tail, All-nil, All-append}
use Rattle.bml_bytes.specs.Codes.{IsByteOrPair, bytes_of, code_bytes, codes, is_pair}
use Rattle.carousel_writer.specs.devices.LawsBelow.{EntityLaws}

-- the bytes of a pair are high
pair-first : (a b : ℕ) → is_pair a b ≡ true → 142 ≤ a
pair-first a b e = grind (arith, nat_tests)

pair-second : (a b : ℕ) → is_pair a b ≡ true → 142 ≤ b
pair-second a b e = grind (arith, nat_tests)

above : (c : ℕ) → nat_lt 255 c ≡ true → 255 < c
above c e = grind (arith, nat_tests)

two-high : (c : ℕ) → IsByteOrPair c → 255 < c → (142 ≤ c / 256) × (142 ≤ c % 256)
two-high c (inl h) k = absurd (omega (arith, h, k))
two-high c (inr e) k = (pair-first (c / 256) (c % 256) e, pair-second (c / 256) (c % 256) e)

one-by : (P : ℕ → Type 0) (c : ℕ) (t : Bool) → nat_lt 255 c ≡ t → ((b : ℕ) → 142 ≤ b → P b) → IsByteOrPair c → P c → All P (cond t (c / 256 ∷ c % 256 ∷ []) (c ∷ []))
one-by P c true e f g h =
    let k = two-high c g (above c e) in
    All-cons P (c / 256) (c % 256 ∷ []) (f (c / 256) k.0) (All-cons P (c % 256) [] (f (c % 256) k.1) (All-nil P))
one-by P c false e f g h = All-cons P c [] h (All-nil P)

bytes-all : (P : ℕ → Type 0) → ((b : ℕ) → 142 ≤ b → P b) → (cs : List ℕ) → All IsByteOrPair cs → All P cs → All P (bytes_of cs)
bytes-all P f [] g h = All-nil P
bytes-all P f (c ∷ cs) g h =
    All-append P (code_bytes c) (bytes_of cs) (one-by P c (nat_lt 255 c) refl f (All-head IsByteOrPair c cs g) (All-head P c cs h))
    (bytes-all P f cs (All-tail IsByteOrPair c cs g) (All-tail P c cs h))

-- what holds of the codes and of all high bytes holds of the bytes
pub own-all : EntityLaws → (P : ℕ → Type 0) → ((b : ℕ) → 142 ≤ b → P b) → (cs : List ℕ) → codes (bytes_of cs) ≡ cs → All P cs → All P (bytes_of cs)
own-all laws P f cs e a = bytes-all P f cs (laws.own cs e) a
