-- The names of events, and what is printed of a value of a style or of a component, are ASCII.
use Rattle.std.proofs.Common.{◌≡◌, ℕ, zero, suc, ◌<◌, ◌/◌, ◌%◌, ◌^◌, Bool, true, false, List, ℤ, pos, negsuc, refl, arith}
use Rattle.std.specs.Prelude.{All, codes, nat_lt, ◌++◌}
use Rattle.std.specs.List.{AllPass, join_with_byte, list_all}
use Rattle.std.proofs.lemmas.Bool.Decides.{nat_tests}
use Rattle.std.proofs.lemmas.List.Elements.{All-append, All-cons, All-nil, All-weaker}
use Rattle.std.proofs.lemmas.List.Sums.{AllPass-from_list_all}
use Rattle.std.proofs.lemmas.Nat.{mod_below}
use Rattle.bml_bytes.specs.Numbers.{digits_in}
use Rattle.bml_bytes.specs.Numerals.{decimal_digits, digit_character, hex_digits, is_decimal_digit, signed_decimal_digits}
use Rattle.style_reader.specs.Properties.{Values, values_of}
use Rattle.style_reader.specs.Properties.Values.{Pixels, Numbers, NumbersOrNone, VisibleOrHidden, KeyGroups}
use Rattle.style_reader.specs.Values.{group_words, has_group, printed, unit_behind, word_if}
use Rattle.style_reader.specs.declared.properties.Property.{Property}
use Rattle.style_reader.specs.declared.properties.StyleValue.{StyleValue}
use Rattle.style_reader.specs.declared.properties.StyleValue.TheVariants.{Whole, NoValue, Visible, Hidden, Keys}
use Rattle.event_queue.specs.Events.{name_of}
use Rattle.event_queue.specs.declared.events.Event.{Event}
use Rattle.event_queue.specs.declared.events.Event.TheVariants as events
use Rattle.dom_objects.specs.Reads.{component_text}

abbrev is_ascii : ℕ → Bool
is_ascii byte = nat_lt byte 128

abbrev AreAscii : List ℕ → Type 0
AreAscii bytes = All (λ byte. byte < 128) bytes

below : (byte : ℕ) → is_ascii byte ≡ true → byte < 128
below byte h = grind (arith, nat_tests)

ascii-tested : (bytes : List ℕ) → list_all is_ascii bytes ≡ true → AreAscii bytes
ascii-tested bytes h =
    All-weaker (λ (byte : ℕ). is_ascii byte ≡ true) (λ (byte : ℕ). byte < 128) below bytes
    (AllPass-from_list_all is_ascii bytes h)

-- digits, with or without a minus sign

below-digit : (byte : ℕ) → is_decimal_digit byte ≡ true → byte < 128
below-digit byte h = grind (arith, nat_tests)

ascii-digits : (digits : List ℕ) → AllPass is_decimal_digit digits → AreAscii digits
ascii-digits digits h =
    All-weaker (λ (byte : ℕ). is_decimal_digit byte ≡ true) (λ (byte : ℕ). byte < 128) below-digit digits h

ascii-number : ((number : ℕ) → AllPass is_decimal_digit (decimal_digits number)) → (number : ℤ) → AreAscii (signed_decimal_digits number)
ascii-number digits (pos number) = ascii-digits (decimal_digits number) (digits number)
ascii-number digits (negsuc number) =
    All-cons (λ (byte : ℕ). byte < 128) 45 (decimal_digits (suc number)) (omega arith) (ascii-digits (decimal_digits (suc number)) (digits (suc number)))

-- digits in base sixteen

below-character : (digit : ℕ) → digit < 16 → digit_character digit < 128
below-character digit h = grind (arith, nat_tests)

ascii-hex : (count number : ℕ) → AreAscii (hex_digits count number)
unfolding digits_in
ascii-hex zero number = All-nil (λ (byte : ℕ). byte < 128)
ascii-hex (suc count) number =
    let digit : ℕ = number / 16 ^ count % 16 in
    All-cons (λ (byte : ℕ). byte < 128) (digit_character digit) (hex_digits count number) (below-character digit (mod_below (number / 16 ^ count) 16 (omega arith))) (ascii-hex count number)

pub ascii-component : (component : ℕ) → All (λ byte. byte < 128) (component_text component)
ascii-component component = All-cons (λ (byte : ℕ). byte < 128) 47 (hex_digits 2 component) (omega arith) (ascii-hex 2 component)

-- names of events

tested-name : (event : Event) → list_all is_ascii (name_of event) ≡ true
tested-name events.Load = refl
tested-name events.Unload = refl
tested-name (events.Focus node) = refl
tested-name (events.Blur node) = refl
tested-name (events.Click node) = refl
tested-name (events.KeyDown key) = refl
tested-name (events.KeyUp key) = refl
tested-name (events.Default key) = refl
tested-name (events.Timer number) = refl
tested-name (events.Fired item component message) = refl
tested-name (events.Updated item status) = refl
tested-name (events.Locked item status) = refl
tested-name (events.Button item) = refl
tested-name (events.DataEvent item) = refl

pub ascii-name : (event : Event) → All (λ byte. byte < 128) (name_of event)
ascii-name event = ascii-tested (name_of event) (tested-name event)

-- words

ascii-unit : (values : Values) → list_all is_ascii (unit_behind values) ≡ true
ascii-unit (Pixels least most) = refl
ascii-unit (Numbers least most) = refl
ascii-unit (NumbersOrNone least most) = refl
ascii-unit VisibleOrHidden = refl
ascii-unit KeyGroups = refl

ascii-groups : (basic data_button numeric : Bool) → list_all is_ascii (join_with_byte 32 (word_if basic (codes "basic") ++ (word_if data_button (codes "data-button") ++ word_if numeric (codes "numeric-tuning")))) ≡ true
ascii-groups true true true = refl
ascii-groups true true false = refl
ascii-groups true false true = refl
ascii-groups true false false = refl
ascii-groups false true true = refl
ascii-groups false true false = refl
ascii-groups false false true = refl
ascii-groups false false false = refl

pub ascii-printed : ((number : ℕ) → AllPass is_decimal_digit (decimal_digits number)) → (property : Property) (value : StyleValue) → All (λ byte. byte < 128) (printed property value)
unfolding printed
ascii-printed digits property (Whole number) =
    All-append (λ (byte : ℕ). byte < 128) (signed_decimal_digits number) (unit_behind (values_of property)) (ascii-number digits number)
    (ascii-tested (unit_behind (values_of property)) (ascii-unit (values_of property)))
ascii-printed digits property NoValue = ascii-tested (codes "none") refl
ascii-printed digits property Visible = ascii-tested (codes "visible") refl
ascii-printed digits property Hidden = ascii-tested (codes "hidden") refl
ascii-printed digits property (Keys groups) =
    ascii-tested (join_with_byte 32 (group_words groups))
    (ascii-groups (has_group groups 1) (has_group groups 2) (has_group groups 4))
