-- The test of a section's kind.
use Rattle.std.proofs.Common.{◌≡◌, ℕ, ◌/◌, ◌%◌, Bool, true, eqb, List, [], ◌∷◌, get_or, refl, sym, ap, ◌∙◌}
use Rattle.std.proofs.lemmas.Bool.{eq-eqb}
use Rattle.std.proofs.Math.Nat.{div-one}
use Rattle.bml_bytes.specs.Numbers.{digits_in, big_bytes}
use Rattle.dsmcc_messages.specs.declared.message.MessageKind.{MessageKind}
use Rattle.table_fields.specs.Sections.{body}
use Rattle.dsmcc_messages.specs.Message.{kind_bytes}
use Rattle.dsmcc_messages.specs.Reading.{agree, is_of_kind}

-- a number in two bytes
two_bytes : (n : ℕ) → big_bytes 2 n ≡ n / 256 % 256 ∷ n % 256 ∷ []
unfolding digits_in
two_bytes n = rw (div-one n) refl

-- the table_id is right, so the header decides
pub by_header : (kind : MessageKind) (section bytes pair : List ℕ) (result : Bool) → get_or section 0 0 ≡ kind.table_id → pair ≡ kind.message_id / 256 % 256 ∷ kind.message_id % 256 ∷ [] → bytes ≡ body section
    → result ≡ agree (0x11 ∷ 0x03 ∷ get_or pair 0 0 ∷ get_or pair 1 0 ∷ []) bytes → result ≡ is_of_kind kind section
by_header kind section bytes pair result table is same h =
    let passes : eqb (get_or section 0 0) kind.table_id ≡ true = eq-eqb _ _ table in
    let header : 0x11 ∷ 0x03 ∷ get_or pair 0 0 ∷ get_or pair 1 0 ∷ [] ≡ kind_bytes kind = rw is (ap (λ (bytes : List ℕ). 0x11 ∷ 0x03 ∷ bytes) (sym (two_bytes kind.message_id))) in
    h ∙ ap (λ (header : List ℕ). agree header bytes) header ∙ ap (agree (kind_bytes kind)) same ∙ rw passes refl
