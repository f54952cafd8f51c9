-- The header of a message: what is read is what stands there, and what was written is read again.
use Rattle.std.proofs.Common.{◌≡◌, ℕ, zero, suc, ◌<◌, true, eqb, List, [], ◌∷◌, ◌++◌, length, get_or, Option, Some, refl, sym, ap, subst, ◌∙◌, append_assoc, arith}
use Rattle.std.proofs.lemmas.Bool.{eqb-true, eq-eqb, and_parts, and_from}
use Rattle.std.proofs.lemmas.Option.{same_Some}
use Rattle.bml_bytes.specs.Fields.{FieldLaws, ◌>>=◌, byte_at, number_at, bytes_at}
use Rattle.bml_bytes.specs.Numbers.{big_bytes}
use Rattle.dsmcc_messages.specs.declared.message.MessageKind.{MessageKind}
use Rattle.table_fields.specs.Sections.{body}
use Rattle.dsmcc_messages.specs.Message.{kind_bytes, Agree, IsOfKind, Carries}
use Rattle.dsmcc_messages.specs.Reading.{agree, is_of_kind, message_at}
use Rattle.dsmcc_messages.proofs.Fields.{bind_with, bytes_told}

-- the test of a kind

agree_from : (xs ys : List ℕ) → Agree xs ys → agree xs ys ≡ true
agree_from [] ys h = refl
agree_from (x ∷ xs) [] h = refl
agree_from (x ∷ xs) (y ∷ ys) h =
    and_from _ _ (eq-eqb x y (h 0 (omega arith) (omega arith))) (agree_from xs ys (λ place l r. h (suc place) (omega arith) (omega arith)))

agree_at : (xs ys : List ℕ) → agree xs ys ≡ true → (place : ℕ) → place < length xs → place < length ys → get_or xs place 0 ≡ get_or ys place 0
agree_at [] ys h place l r = absurd (omega arith)
agree_at (x ∷ xs) [] h place l r = absurd (omega arith)
agree_at (x ∷ xs) (y ∷ ys) h zero l r = eqb-true x y (and_parts _ _ h).0
agree_at (x ∷ xs) (y ∷ ys) h (suc place) l r = agree_at xs ys (and_parts _ _ h).1 place (omega arith) (omega arith)

-- a list that agrees with a front of its length is that front
agree_same : (xs ys more : List ℕ) → length xs ≡ length ys → agree xs (ys ++ more) ≡ true → xs ≡ ys
agree_same [] [] more len h = refl
agree_same [] (y ∷ ys) more len h = absurd (omega arith)
agree_same (x ∷ xs) [] more len h = absurd (omega arith)
agree_same (x ∷ xs) (y ∷ ys) more len h =
    let parts = and_parts (eqb x y) (agree xs (ys ++ more)) h in
    let first = eqb-true x y parts.0 in
    let rest = agree_same xs ys more (omega arith) parts.1 in
    rw (first, rest) refl

agree_front : (xs more : List ℕ) → agree xs (xs ++ more) ≡ true
agree_front [] more = refl
agree_front (x ∷ xs) more = and_from _ _ (eq-eqb x x refl) (agree_front xs more)

pub kind_from : (kind : MessageKind) (section : List ℕ) → IsOfKind kind section → is_of_kind kind section ≡ true
kind_from kind section is = and_from _ _ (eq-eqb _ _ is.table) (agree_from (kind_bytes kind) (body section) is.header)

pub kind_is : (kind : MessageKind) (section : List ℕ) → is_of_kind kind section ≡ true → IsOfKind kind section
kind_is kind section h =
    let parts = and_parts _ _ h in
    record { table = eqb-true _ _ parts.0; header = agree_at (kind_bytes kind) (body section) parts.1 }

-- the header

abbrev behind_message : ℕ → ℕ → List ℕ × List ℕ → Option (ℕ × List ℕ)
behind_message identifier count message = bytes_at count message.0 >>= λ adaptation. Some (identifier, adaptation.1)

abbrev behind_length : ℕ → ℕ → ℕ × List ℕ → Option (ℕ × List ℕ)
behind_length identifier count len = bytes_at len.0 len.1 >>= behind_message identifier count

abbrev behind_adaptation : ℕ → ℕ × List ℕ → Option (ℕ × List ℕ)
behind_adaptation identifier count = number_at 2 count.1 >>= behind_length identifier count.0

abbrev behind_reserved : ℕ → ℕ × List ℕ → Option (ℕ × List ℕ)
behind_reserved identifier reserved = byte_at reserved.1 >>= behind_adaptation identifier

abbrev behind_identifier : ℕ × List ℕ → Option (ℕ × List ℕ)
behind_identifier identifier = byte_at identifier.1 >>= behind_reserved identifier.0

abbrev behind_kind : List ℕ × List ℕ → Option (ℕ × List ℕ)
behind_kind kind = number_at 4 kind.1 >>= behind_identifier

-- a header's bytes, and those behind it, laid end to end
abbrev pub header_text : MessageKind → ℕ → ℕ → List ℕ → List ℕ → List ℕ → List ℕ
header_text kind identifier reserved adaptation payload behind =
    kind_bytes kind ++ big_bytes 4 identifier ++ reserved ∷ length adaptation ∷ [] ++ big_bytes 2 (length (adaptation ++ payload)) ++ adaptation ++ payload ++ behind

header_from : (kind : MessageKind) (identifier reserved count len : ℕ) (bytes front r0 r1 r2 r3 r4 message behind adaptation payload : List ℕ) → bytes ≡ front ++ r0 → r0 ≡ big_bytes 4 identifier ++ r1 → r1 ≡ reserved ∷ r2 → r2 ≡ count ∷ r3 → r3 ≡ big_bytes 2 len ++ r4
    → r4 ≡ message ++ behind → message ≡ adaptation ++ payload → kind_bytes kind ≡ front → length adaptation ≡ count → length message ≡ len → bytes ≡ header_text kind identifier reserved adaptation payload behind
header_from kind identifier reserved count len bytes front r0 r1 r2 r3 r4 message behind adaptation payload e0 e1 e2 e3 e4 e5 e6 k a l =
    let parts : bytes ≡ front ++ (big_bytes 4 identifier ++ (reserved ∷ count ∷ (big_bytes 2 len ++ (message ++ behind)))) = rw (e0, e1, e2, e3, e4, e5) refl in
    let read : List ℕ = big_bytes 4 identifier ++ (reserved ∷ count ∷ (big_bytes 2 len ++ (message ++ behind))) in
    let named : read ≡ big_bytes 4 identifier ++ (reserved ∷ length adaptation ∷ (big_bytes 2 (length (adaptation ++ payload)) ++ ((adaptation ++ payload) ++ behind))) = rw (a, ← e6, l) refl in
    parts ∙ ap (λ (start : List ℕ). start ++ read) (sym k) ∙ ap (λ (rest : List ℕ). kind_bytes kind ++ rest) named ∙ simp append_assoc

pub carries : (laws : FieldLaws) (kind : MessageKind) (section : List ℕ) (x : ℕ × List ℕ) → is_of_kind kind section ≡ true → message_at (body section) ≡ Some x
    → Carries kind section x.0 x.1
unfolding message_at
carries laws kind section x of_kind e =
    let is = kind_is kind section of_kind in
    let parts = and_parts _ _ of_kind in
    bind_with (bytes_at 4 (body section)) behind_kind x e (λ front front-is e0.
    bind_with (number_at 4 front.1) behind_identifier x e0 (λ identifier identifier-is e1.
    bind_with (byte_at identifier.1) (behind_reserved identifier.0) x e1 (λ reserved reserved-is e2.
    bind_with (byte_at reserved.1) (behind_adaptation identifier.0) x e2 (λ count count-is e3.
    bind_with (number_at 2 count.1) (behind_length identifier.0 count.0) x e3 (λ len len-is e4.
    bind_with (bytes_at len.0 len.1) (behind_message identifier.0 count.0) x e4 (λ message message-is e5.
    bind_with (bytes_at count.0 message.0) (λ (adaptation : List ℕ × List ℕ). Some (identifier.0, adaptation.1)) x e5 (λ adaptation adaptation-is e6.
    let t0 = laws.bytes 4 (body section) front front-is in
    let t1 = laws.number 4 front.1 identifier identifier-is in
    let t4 = laws.number 2 count.1 len len-is in
    let t5 = laws.bytes len.0 len.1 message message-is in
    let t6 = laws.bytes count.0 message.0 adaptation adaptation-is in
    let same : kind_bytes kind ≡ front.0 = agree_same (kind_bytes kind) front.0 front.1 (omega (arith, laws.number_bytes 2 kind.message_id, t0.1)) (subst (λ (bytes : List ℕ). agree (kind_bytes kind) bytes ≡ true) t0.0 parts.1) in
    let made : ℕ × List ℕ = (identifier.0, adaptation.1) in
    subst (λ (y : ℕ × List ℕ). Carries kind section y.0 y.1) (same_Some made x e6)
    (record {
      reserved = reserved.0;
      adaptation = adaptation.0;
      behind = message.1;
      identifier_fits = omega (arith, t1.1);
      message_fits = omega (arith, t4.1, t5.1, ap (length {A = ℕ}) t6.0);
      table = is.table;
      written = header_from kind identifier.0 reserved.0 count.0 len.0 (body section) front.0 front.1 identifier.1 reserved.1 count.1 len.1 message.0 message.1 adaptation.0 adaptation.1
          t0.0 t1.0 (laws.byte identifier.1 reserved reserved-is) (laws.byte reserved.1 count count-is) t4.0 t5.0 t6.0 same t6.1 t5.1;
    }))))))))

-- what a header says is read from it
pub carries_again : (laws : FieldLaws) (kind : MessageKind) (section : List ℕ) (identifier : ℕ) (payload : List ℕ) → Carries kind section identifier payload
    → (is_of_kind kind section ≡ true) × (message_at (body section) ≡ Some (identifier, payload))
unfolding message_at
carries_again laws kind section identifier payload is =
    let message : List ℕ = is.adaptation ++ payload in
    let r4 : List ℕ = message ++ is.behind in
    let r3 : List ℕ = big_bytes 2 (length message) ++ r4 in
    let r1 : List ℕ = is.reserved ∷ length is.adaptation ∷ r3 in
    let r0 : List ℕ = big_bytes 4 identifier ++ r1 in
    let regrouped : header_text kind identifier is.reserved is.adaptation payload is.behind ≡ kind_bytes kind ++ r0 = simp append_assoc in
    let whole : body section ≡ kind_bytes kind ++ r0 = is.written ∙ regrouped in
    let agrees : agree (kind_bytes kind) (body section) ≡ true = ap (agree (kind_bytes kind)) whole ∙ agree_front (kind_bytes kind) r0 in
    let four : length (kind_bytes kind) ≡ 4 = omega (arith, laws.number_bytes 2 kind.message_id) in (
      and_from _ _ (eq-eqb _ _ is.table) agrees,
      ap message_at whole
          ∙ rw (bytes_told laws 4 (kind_bytes kind) r0 four, laws.number_again 4 identifier r1 (omega (arith, is.identifier_fits)), laws.number_again 2 (length message) r4 (omega (arith, is.message_fits)), laws.bytes_again message is.behind, laws.bytes_again is.adaptation payload) refl,
    )
