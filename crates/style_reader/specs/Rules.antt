-- The rules of a sheet and of an inline text, in order (CSS level 1, 1.1, 1.2 and 3.2, in this
-- project's own profile).
use Rattle.std.specs.Prelude.{◌≡◌, ℕ, ◌+◌, ◌==◌, Bool, true, List, [], ◌∷◌, ◌++◌, length, map, None}
use Rattle.std.specs.List.{list_all, slice_split}
use Rattle.std.specs.Str.{byte}
use Rattle.style_reader.specs.Characters.{trimmed}
use Rattle.style_reader.specs.Comments.{Commented, SpellsComments, uncommented}
use Rattle.style_reader.specs.Declarations.{declarations_in}
use Rattle.style_reader.specs.Selectors.{IsSelector}
use Rattle.style_reader.specs.Sheets.{Sheet, Spells}
use Rattle.style_reader.specs.Sheets.Sheet.{Rest, Rule, OpenRule, AtRule, OpenAtRule}
use Rattle.style_reader.specs.Values.{fits}
use Rattle.style_reader.specs.declared.declarations.Declaration.{Declaration}
use Rattle.style_reader.specs.declared.properties.Property.{Property}
use Rattle.style_reader.specs.declared.properties.StyleValue.{StyleValue}
use Rattle.style_reader.specs.declared.rules.Rule.{Rule as StyleRule}
use Rattle.style_reader.specs.declared.selectors.Selector.{Selector}

-- ---- the rules of a sheet

abbrev pub is_comma : ℕ → Bool
is_comma code = code == byte ","

-- each text is a selector, without the white round it
abbrev pub AreSelectorTexts : List Selector → List (List ℕ) → Type 0
AreSelectorTexts [] texts = texts ≡ []
AreSelectorTexts (selector ∷ selectors) texts =
    (text : List ℕ) × (more : List (List ℕ)) × (texts ≡ text ∷ more)
    × IsSelector selector (trimmed text) × AreSelectorTexts selectors more

-- What a rule gives: itself where what stands between its commas are selectors, and nothing where
-- one of them is none.
pub data GivesRule (selectors block : List ℕ) : List StyleRule → Type 0 where
  Good : (good : List Selector) → AreSelectorTexts good (slice_split is_comma selectors)
      → GivesRule selectors block
      (record { selectors = good; declarations = declarations_in block } ∷ [])
  Bad : ((good : List Selector) → ¬ AreSelectorTexts good (slice_split is_comma selectors))
      → GivesRule selectors block []

-- the rules that a sheet gives, in order
abbrev pub GivesRules : Sheet → List StyleRule → Type 0
GivesRules Rest rules = rules ≡ []
GivesRules (Rule selectors block following) rules =
    (first more : List StyleRule) × (rules ≡ first ++ more) × GivesRule selectors block first
    × GivesRules following more
GivesRules (OpenRule selectors block) rules = GivesRule selectors block rules
GivesRules (AtRule following) rules = GivesRules following rules
GivesRules OpenAtRule rules = rules ≡ []

-- the text of a sheet stands for these rules
pub record IsSheetOf (text : List ℕ) (rules : List StyleRule) : Type 0 where
  pub commented : Commented
  pub comments_spelled : SpellsComments commented text
  pub sheet : Sheet
  pub spelled : Spells sheet (uncommented commented)
  pub given : GivesRules sheet rules

-- ---- inline texts: declarations alone, which are given as a rule with the selector `*` is

abbrev pub any_element : Selector
any_element = record { tag = None; mark = None; pseudo_class = None }

pub record IsInlineOf (text : List ℕ) (rules : List StyleRule) : Type 0 where
  pub commented : Commented
  pub comments_spelled : SpellsComments commented text
  pub given : rules ≡ record {
    selectors = any_element ∷ [];
    declarations = declarations_in (uncommented commented);
  } ∷ []

-- ---- each value that is declared fits its property

abbrev pub is_fitting : Declaration → Bool
is_fitting declaration = fits declaration.property declaration.value

abbrev pub AreFitting : List StyleRule → Type 0
AreFitting rules =
    list_all (λ (rule : StyleRule). list_all is_fitting rule.declarations) rules ≡ true

-- ---- rules as declarations, one by one

-- Those of a rule stand for each of its selectors. Their order counts declarations, over all texts,
-- and not selectors, so that what the selectors of one rule are given has one place in it.
pub record Given : Type 0 where
  pub selector : Selector
  pub property : Property
  pub value : StyleValue
  pub order : ℕ

abbrev pub given_to_each : List Selector → ℕ → Declaration → List Given
given_to_each selectors order declaration =
    map (λ selector. record {
      selector = selector;
      property = declaration.property;
      value = declaration.value;
      order = order;
    }) selectors

abbrev pub given_by_rule : ℕ → List Selector → List Declaration → List Given
given_by_rule order selectors [] = []
given_by_rule order selectors (declaration ∷ declarations) =
    given_to_each selectors order declaration ++ given_by_rule (order + 1) selectors declarations

-- where so many declarations stand before
abbrev pub given_from : ℕ → List StyleRule → List Given
given_from order [] = []
given_from order (rule ∷ rules) =
    given_by_rule order rule.selectors rule.declarations
    ++ given_from (order + length rule.declarations) rules

unfoldable pub given_by : List StyleRule → List Given
given_by rules = given_from 0 rules

abbrev pub declaration_count : List StyleRule → ℕ
declaration_count [] = 0
declaration_count (rule ∷ rules) = length rule.declarations + declaration_count rules
