-- A device of the proofs: what the values that the code keeps stand for, and steps of the code.
use Rattle.std.specs.Prelude.{◌≡◌, ℕ, ◌==◌, min, nat_lt, Bool, true, ◌&&◌, if◌then◌else◌, List, [], ◌∷◌, length, take, Option, Some, None, codes as ascii}
use Rattle.std.specs.Borrow.{Bor}
use Rattle.std.specs.List.{after_first, before_first, list_all, list_any, slice_split}
use Rattle.bml_bytes.specs.Numerals.{decimal_number, is_decimal_digit}
use Rattle.style_reader.specs.Characters.{is_word}
use Rattle.style_reader.specs.Properties.{Values}
use Rattle.style_reader.specs.Properties.Values.{Pixels, Numbers, NumbersOrNone, VisibleOrHidden, KeyGroups}
use Rattle.style_reader.specs.Values.{numeral, pixel_count, unit_of, without_unit}
use Rattle.style_reader.specs.Readings.{Asked, Found, Parted, parted, rules_by}
use Rattle.style_reader.specs.Readings.Found.{Nothing, FoundRule, FoundOpenRule, FoundAtRule, FoundOpenAtRule}
use Rattle.style_reader.specs.declared.rules.Rule.{Rule as StyleRule}
use Rattle.style_reader.specs.declared.sheets.Part.{Part}
use Rattle.style_reader.specs.declared.sheets.Part.TheVariants as parts
use Rattle.style_reader.specs.declared.selectors.Asked.{Asked as AskedInCode}
use Rattle.style_reader.specs.declared.selectors.PseudoClass.{PseudoClass}
use Rattle.style_reader.specs.declared.numbers.Unit.{Unit as UnitInCode}
use Rattle.style_reader.specs.declared.numbers.Unit.TheVariants as units
use Rattle.style_reader.specs.declared.numbers.Unit.TheVariants.{Plain}
use Rattle.style_reader.specs.declared.properties.Values.{Values as ValuesInCode}
use Rattle.style_reader.specs.declared.properties.Values.TheVariants as values

-- ---- values of properties

abbrev pub seen_values : ValuesInCode → Values
seen_values (values.Pixels least most) = Pixels least most
seen_values (values.Numbers least most) = Numbers least most
seen_values (values.NumbersOrNone least most) = NumbersOrNone least most
seen_values values.VisibleOrHidden = VisibleOrHidden
seen_values values.KeyGroups = KeyGroups

-- ---- numbers

-- the number of some digits, and none where another code stands among them
abbrev pub digits_number : List ℕ → Option ℕ
digits_number digits =
    if list_all is_decimal_digit digits then Some (decimal_number digits) else None

-- what stands before `px`
abbrev pub before_unit : List ℕ → Option (List ℕ)
before_unit text = if is_word (ascii "px") (unit_of text) then Some (without_unit text) else None

-- a number, or one past every range
abbrev pub capped : ℕ → ℕ
capped number = min number 4294967296

-- a number that is not past every range
abbrev pub in_reach : ℕ → Option ℕ
in_reach number = if nat_lt number 4294967296 then Some number else None

-- the number of a text without a sign
abbrev pub count_in : UnitInCode → List ℕ → Option ℕ
count_in Plain text = numeral text
count_in units.Pixels text = pixel_count text

-- ---- pieces

abbrev pub is_code : ℕ → ℕ → Bool
is_code sought code = code == sought

-- before the first code that passes the test, and behind it
pub record IsParted (test : ℕ → Bool) (text before behind : List ℕ) : Type 0 where
  pub has_one : list_any test text ≡ true
  pub before_is : before ≡ before_first test text
  pub behind_is : behind ≡ after_first test text

-- the first piece, and those behind it
abbrev pub pieces_from : (ℕ → Bool) → List ℕ → Option (List ℕ) → List (List ℕ)
pieces_from test piece None = piece ∷ []
pieces_from test piece (Some more) = piece ∷ slice_split test more

-- ---- selectors

abbrev pub seen_before : Bor (List ℕ) × Option PseudoClass → Parted
seen_before (subject, pseudo_class) = parted subject.now pseudo_class

abbrev pub seen_asked : AskedInCode → Asked
seen_asked asked = record { tag = asked.tag; mark = asked.mark }

-- ---- sheets

-- the rules that a part of a sheet gives
abbrev pub rules_by_part : Part → List StyleRule
rules_by_part (parts.Rule selectors block) = rules_by selectors.now block.now
rules_by_part parts.AtRule = []

-- the rules that stand at the front of a sheet, and what stands behind them
pub record FirstPart : Type 0 where
  pub rules : List StyleRule
  pub rest : List ℕ

abbrev pub first_part : List StyleRule → List ℕ → FirstPart
first_part rules rest = record { rules = rules; rest = rest }

abbrev pub part_of : Found → Option FirstPart
part_of Nothing = None
part_of (FoundRule selectors block rest) = Some (first_part (rules_by selectors block) rest)
part_of (FoundOpenRule selectors block) = Some (first_part (rules_by selectors block) [])
part_of (FoundAtRule rest) = Some (first_part [] rest)
part_of FoundOpenAtRule = None

abbrev pub seen_part : Part × Bor (List ℕ) → FirstPart
seen_part (part, rest) = first_part (rules_by_part part) rest.now

-- ---- comments

-- what stands behind two codes, where they stand first
abbrev pub behind_pair : ℕ → ℕ → List ℕ → Option (List ℕ)
behind_pair first second [] = None
behind_pair first second (a ∷ []) = None
behind_pair first second (a ∷ b ∷ rest) = if (a == first) && (b == second) then Some rest else None

-- ---- rules

-- the rules that were there still stand in front
abbrev pub KeepsFront : List StyleRule → List StyleRule → Type 0
KeepsFront old new = take (length old) new ≡ old
