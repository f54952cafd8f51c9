-- What the text of a style reads as, computed from it front to back. It isn't what comments,
-- selectors, sheets and their rules are (`Comments`, `Selectors`, `Sheets`, `Rules`): that it
-- agrees with these is a law. (This project's own.)
use Rattle.std.specs.Prelude.{ℕ, zero, suc, ◌==◌, Bool, true, false, ◌&&◌, ◌||◌, if◌then◌else◌, List, [], ◌∷◌, ◌++◌, length, drop, Option, Some, None, option_map, option_and_then, codes as ascii}
use Rattle.std.specs.Option.{option_to_list}
use Rattle.std.specs.List.{after_first, before_first, list_any, position_or_len, slice_split}
use Rattle.std.specs.Str.{byte}
use Rattle.bml_bytes.specs.Words.{is_same}
use Rattle.style_reader.specs.Characters.{is_name, is_word, trimmed, without_white_front}
use Rattle.style_reader.specs.Declarations.{declarations_in, is_colon, is_semicolon}
use Rattle.style_reader.specs.Rules.{any_element, is_comma}
use Rattle.style_reader.specs.declared.rules.Rule.{Rule as StyleRule}
use Rattle.style_reader.specs.Sheets.{Sheet, is_at, is_open, is_close}
use Rattle.style_reader.specs.Sheets.Sheet.{Rest, Rule, OpenRule, AtRule, OpenAtRule}
use Rattle.style_reader.specs.declared.declarations.Declaration.{Declaration}
use Rattle.style_reader.specs.declared.selectors.Selector.{Selector}
use Rattle.style_reader.specs.declared.selectors.Mark.{Mark}
use Rattle.style_reader.specs.declared.selectors.Mark.TheVariants.{Class, Id}
use Rattle.style_reader.specs.declared.selectors.PseudoClass.{PseudoClass}
use Rattle.style_reader.specs.declared.selectors.PseudoClass.TheVariants.{Focus, Active}

-- ---- comments

abbrev pub opens_comment : ℕ → ℕ → Bool
opens_comment first second = (first == byte "/") && (second == byte "*")

abbrev pub closes_comment : ℕ → ℕ → Bool
closes_comment first second = (first == byte "*") && (second == byte "/")

-- the text with each comment as one space, from inside a comment on (true) or from outside
unfoldable pub plain_from : Bool → List ℕ → List ℕ
plain_from inside [] = []
plain_from true (first ∷ []) = []
plain_from true (first ∷ second ∷ rest) =
    if closes_comment first second then plain_from false rest else plain_from true (second ∷ rest)
plain_from false (first ∷ []) = first ∷ []
plain_from false (first ∷ second ∷ rest) =
    if opens_comment first second then 32 ∷ plain_from true rest
    else first ∷ plain_from false (second ∷ rest)

abbrev pub plain_text : List ℕ → List ℕ
plain_text text = plain_from false text

-- ---- selectors

-- the pseudo-class behind a colon
abbrev pub pseudo_class_of : List ℕ → Option PseudoClass
pseudo_class_of word =
    if is_word (ascii "focus") word then Some Focus
    else if is_word (ascii "active") word then Some Active
    else None

-- what stands before the first colon, or all of a text without one, and the pseudo-class behind it
pub record Parted : Type 0 where
  pub subject : List ℕ
  pub pseudo_class : Option PseudoClass

abbrev pub parted : List ℕ → Option PseudoClass → Parted
parted subject pseudo_class = record { subject = subject; pseudo_class = pseudo_class }

unfoldable pub before_pseudo_class : List ℕ → Option Parted
before_pseudo_class text =
    if list_any is_colon text
    then option_map (λ pseudo_class. parted (before_first is_colon text) (Some pseudo_class))
    (pseudo_class_of (after_first is_colon text))
    else Some (parted text None)

abbrev pub begins_mark : ℕ → Bool
begins_mark code = (code == byte ".") || (code == byte "#")

abbrev pub mark_of : List ℕ → Option Mark
mark_of [] = None
mark_of (first ∷ name) =
    if is_name name
    then (
    if first == byte "." then Some (Class name)
    else if first == byte "#" then Some (Id name)
    else None
    )
    else None

-- what a selector asks of an element itself: the tag and the mark, of which one may be left out, or
-- `*`
pub record Asked : Type 0 where
  pub tag : Option (List ℕ)
  pub mark : Option Mark

abbrev pub tag_of : List ℕ → Option (Option (List ℕ))
tag_of [] = Some None
tag_of (first ∷ more) = if is_name (first ∷ more) then Some (Some (first ∷ more)) else None

-- the tag before the first `.` or `#`, and the mark from there on
abbrev pub asked_both : Option (List ℕ) → Mark → Asked
asked_both tag mark = record { tag = tag; mark = Some mark }

abbrev pub marked : List ℕ → List ℕ → Option Asked
marked tag mark =
    option_and_then (λ tag. option_map (asked_both tag) (mark_of mark)) (tag_of tag)

abbrev pub asked_tag : List ℕ → Option Asked
asked_tag text = if is_name text then Some (record { tag = Some text; mark = None }) else None

unfoldable pub asked_of : List ℕ → Option Asked
asked_of text =
    if is_same text (ascii "*") then Some (record { tag = None; mark = None })
    else if list_any begins_mark text
    then marked (before_first begins_mark text) (drop (position_or_len begins_mark text) text)
    else asked_tag text

-- the selector that a text is, where it is one
abbrev pub selector_with : Option PseudoClass → Asked → Selector
selector_with pseudo_class asked =
    record { tag = asked.tag; mark = asked.mark; pseudo_class = pseudo_class }

unfoldable pub selector_of : List ℕ → Option Selector
selector_of text =
    option_and_then
    (λ parted. option_map (selector_with parted.pseudo_class) (asked_of parted.subject))
    (before_pseudo_class text)

-- the selectors that texts are, where each is one
abbrev pub all_selectors : List (List ℕ) → Option (List Selector)
all_selectors [] = Some []
all_selectors (text ∷ texts) =
    option_and_then
    (λ selector. option_map (λ selectors. selector ∷ selectors) (all_selectors texts))
    (selector_of (trimmed text))

unfoldable pub selectors_of : List ℕ → Option (List Selector)
selectors_of text = all_selectors (slice_split is_comma text)

-- ---- at-rules

-- what stands behind the `}` that closes a block, from inside so many further blocks on
unfoldable pub behind_block : ℕ → List ℕ → Option (List ℕ)
behind_block depth [] = None
behind_block zero (code ∷ rest) =
    if is_open code then behind_block 1 rest
    else if is_close code then Some rest
    else behind_block zero rest
behind_block (suc depth) (code ∷ rest) =
    if is_open code then behind_block (suc (suc depth)) rest
    else if is_close code then behind_block depth rest
    else behind_block (suc depth) rest

-- what stands behind an at-rule, from behind its `@` on
unfoldable pub behind_at_rule : List ℕ → Option (List ℕ)
behind_at_rule [] = None
behind_at_rule (code ∷ rest) =
    if is_semicolon code then Some rest
    else if is_open code then behind_block 0 rest
    else behind_at_rule rest

-- ---- sheets

-- what stands at the front, past white: a part of a sheet, and what stands behind it
pub data Found : Type 0 where
  Nothing : Found
  FoundRule : (selectors block rest : List ℕ) → Found
  FoundOpenRule : (selectors block : List ℕ) → Found
  FoundAtRule : (rest : List ℕ) → Found
  FoundOpenAtRule : Found

abbrev pub at_rule_found : Option (List ℕ) → Found
at_rule_found None = FoundOpenAtRule
at_rule_found (Some rest) = FoundAtRule rest

abbrev pub block_found : List ℕ → List ℕ → Found
block_found selectors text =
    if list_any is_close text
    then FoundRule selectors (before_first is_close text) (after_first is_close text)
    else FoundOpenRule selectors text

abbrev pub rule_found : List ℕ → Found
rule_found text =
    if list_any is_open text
    then block_found (before_first is_open text) (after_first is_open text) else Nothing

abbrev pub found_behind_white : List ℕ → Found
found_behind_white [] = Nothing
found_behind_white (code ∷ rest) =
    if is_at code then at_rule_found (behind_at_rule rest) else rule_found (code ∷ rest)

unfoldable pub found_at : List ℕ → Found
found_at text = found_behind_white (without_white_front text)

-- the sheet that a text is, of at most so many parts
unfoldable pub sheet_within : ℕ → List ℕ → Sheet
sheet_within zero text = Rest
sheet_within (suc most) text =
    elim (found_at text) [
      | Nothing ↦ Rest
      | FoundRule selectors block rest ↦ Rule selectors block (sheet_within most rest)
      | FoundOpenRule selectors block ↦ OpenRule selectors block
      | FoundAtRule rest ↦ AtRule (sheet_within most rest)
      | FoundOpenAtRule ↦ OpenAtRule
    ]

-- each part has a code, so that there are never more parts than codes
unfoldable pub sheet_of : List ℕ → Sheet
sheet_of text = sheet_within (suc (length text)) text

-- ---- rules

abbrev pub rule_with : List Declaration → List Selector → StyleRule
rule_with declarations selectors = record { selectors = selectors; declarations = declarations }

abbrev pub rules_by : List ℕ → List ℕ → List StyleRule
rules_by selectors block =
    option_to_list (option_map (rule_with (declarations_in block)) (selectors_of selectors))

abbrev pub rules_in : Sheet → List StyleRule
rules_in Rest = []
rules_in (Rule selectors block following) = rules_by selectors block ++ rules_in following
rules_in (OpenRule selectors block) = rules_by selectors block
rules_in (AtRule following) = rules_in following
rules_in OpenAtRule = []

-- the rules that the text of a sheet reads as
unfoldable pub rules_of : List ℕ → List StyleRule
rules_of text = rules_in (sheet_of (plain_text text))

-- and those that an inline text does
abbrev pub inline_rules_by : List ℕ → List StyleRule
inline_rules_by text = rule_with (declarations_in text) (any_element ∷ []) ∷ []

unfoldable pub inline_rules_of : List ℕ → List StyleRule
inline_rules_of text = inline_rules_by (plain_text text)
