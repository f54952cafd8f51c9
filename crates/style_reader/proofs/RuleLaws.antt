-- The rules that a text gives, and those that are read.
use Rattle.std.proofs.Common.{◌≡◌, ℕ, List, [], ◌∷◌, Option, Some, None, refl, sym, ◌∙◌, ap, subst}
use Rattle.std.specs.Prelude.{option_and_then, option_map}
use Rattle.std.specs.Option.{option_to_list}
use Rattle.std.specs.List.{slice_split}
use Rattle.style_reader.specs.Characters.{trimmed}
use Rattle.style_reader.specs.Comments.{uncommented}
use Rattle.style_reader.specs.Declarations.{declarations_in}
use Rattle.style_reader.specs.Readings.{all_selectors, inline_rules_by, inline_rules_of, plain_text, rule_with, rules_by, rules_in, rules_of, selector_of, selectors_of, sheet_of}
use Rattle.style_reader.specs.Rules.{AreSelectorTexts, GivesRule, GivesRules, IsInlineOf, IsSheetOf, is_comma}
use Rattle.style_reader.specs.Rules.GivesRule.{Good, Bad}
use Rattle.style_reader.specs.Sheets.{Sheet}
use Rattle.style_reader.specs.Sheets.Sheet.{Rest, Rule, OpenRule, AtRule, OpenAtRule}
use Rattle.style_reader.specs.declared.rules.Rule.{Rule as StyleRule}
use Rattle.style_reader.specs.declared.selectors.Selector.{Selector}
use Rattle.style_reader.proofs.CommentLaws.{spelling-of, uncommented-is}
use Rattle.style_reader.proofs.SelectorLaws.{selector-read, selector-spelled}
use Rattle.style_reader.proofs.SheetLaws.{sheet_of-spelled, sheet_of-spells}

-- ---- selectors

selectors-spelled : (selectors : List Selector) (texts : List (List ℕ)) → AreSelectorTexts selectors texts → all_selectors texts ≡ Some selectors
selectors-spelled [] texts are = ap all_selectors are
selectors-spelled (selector ∷ selectors) texts are =
    let first = selector-spelled selector (trimmed are.0) are.3 in
    let more = selectors-spelled selectors are.1 are.4 in
    ap all_selectors are.2 ∙ rw (first, more) refl

selectors-read : (texts : List (List ℕ)) (selectors : List Selector) → all_selectors texts ≡ Some selectors → AreSelectorTexts selectors texts
selectors-read [] selectors e = let same : [] ≡ selectors = cc in subst (λ (s : List Selector). AreSelectorTexts s []) same refl
selectors-read (text ∷ texts) selectors e = by (selector_of (trimmed text)) (all_selectors texts) refl refl (λ more h. selectors-read texts more h) e
  where
    by : (s : Option Selector) (a : Option (List Selector)) → selector_of (trimmed text) ≡ s → all_selectors texts ≡ a → ((more : List Selector) → all_selectors texts ≡ Some more → AreSelectorTexts more texts) → option_and_then (λ (selector : Selector). option_map (λ (more : List Selector). selector ∷ more) a) s ≡ Some selectors → AreSelectorTexts selectors (text ∷ texts)
    by None a is all rest h = absurd (cc h)
    by (Some selector) None is all rest h = absurd (cc h)
    by (Some selector) (Some more) is all rest h =
        let same : selector ∷ more ≡ selectors = cc in
        subst (λ (s : List Selector). AreSelectorTexts s (text ∷ texts)) same (text, texts, refl, selector-read selector (trimmed text) is, rest more all)

-- ---- one rule

rule-given : (selectors block : List ℕ) → GivesRule selectors block (rules_by selectors block)
unfolding selectors_of
rule-given selectors block = by (all_selectors (slice_split is_comma selectors)) refl
  where
    other : (good : List Selector) → all_selectors (slice_split is_comma selectors) ≡ None → all_selectors (slice_split is_comma selectors) ≡ Some good → ⊥
    other good e f = cc

    by : (found : Option (List Selector)) → all_selectors (slice_split is_comma selectors) ≡ found → GivesRule selectors block (option_to_list (option_map (rule_with (declarations_in block)) found))
    by None e = Bad (λ good are. other good e (selectors-spelled good (slice_split is_comma selectors) are))
    by (Some good) e = Good good (selectors-read (slice_split is_comma selectors) good e)

rule-one : (selectors block : List ℕ) (rules : List StyleRule) → GivesRule selectors block rules → rules ≡ rules_by selectors block
unfolding selectors_of
rule-one selectors block _ (Good good are) = rw (selectors-spelled good (slice_split is_comma selectors) are) refl
rule-one selectors block _ (Bad none) = by (all_selectors (slice_split is_comma selectors)) refl
  where
    by : (found : Option (List Selector)) → all_selectors (slice_split is_comma selectors) ≡ found → [] ≡ option_to_list (option_map (rule_with (declarations_in block)) found)
    by None e = refl
    by (Some good) e = absurd (none good (selectors-read (slice_split is_comma selectors) good e))

-- ---- the rules of a sheet

rules-given : (sheet : Sheet) → GivesRules sheet (rules_in sheet)
rules-given Rest = refl
rules-given (Rule selectors block following) = (rules_by selectors block, rules_in following, refl, rule-given selectors block, rules-given following)
rules-given (OpenRule selectors block) = rule-given selectors block
rules-given (AtRule following) = rules-given following
rules-given OpenAtRule = refl

rules-one : (sheet : Sheet) (rules : List StyleRule) → GivesRules sheet rules → rules ≡ rules_in sheet
rules-one Rest rules given = given
rules-one (Rule selectors block following) rules given =
    let first = rule-one selectors block given.0 given.3 in
    let more = rules-one following given.1 given.4 in
    given.2 ∙ rw (first, more) refl
rules-one (OpenRule selectors block) rules given = rule-one selectors block rules given
rules-one (AtRule following) rules given = rules-one following rules given
rules-one OpenAtRule rules given = given

-- ---- texts

pub sheet-read : (text : List ℕ) → IsSheetOf text (rules_of text)
unfolding rules_of
sheet-read text =
    let spelling = spelling-of text in
    let plain = uncommented-is spelling.0 text spelling.1 in
    record {
      commented = spelling.0;
      comments_spelled = spelling.1;
      sheet = sheet_of (plain_text text);
      spelled = rw plain (sheet_of-spells (plain_text text));
      given = rules-given (sheet_of (plain_text text));
    }

pub sheet-one : (text : List ℕ) (rules : List StyleRule) → IsSheetOf text rules → rules ≡ rules_of text
unfolding rules_of
sheet-one text rules is =
    rules-one is.sheet rules is.given
    ∙ ap rules_in (sheet_of-spelled is.sheet (uncommented is.commented) is.spelled ∙ ap sheet_of (uncommented-is is.commented text is.comments_spelled))

pub inline-read : (text : List ℕ) → IsInlineOf text (inline_rules_of text)
unfolding inline_rules_of
inline-read text =
    let spelling = spelling-of text in
    let plain = uncommented-is spelling.0 text spelling.1 in
    record { commented = spelling.0; comments_spelled = spelling.1; given = ap inline_rules_by (sym plain) }

pub inline-one : (text : List ℕ) (rules : List StyleRule) → IsInlineOf text rules → rules ≡ inline_rules_of text
unfolding inline_rules_of
inline-one text rules is = is.given ∙ ap inline_rules_by (uncommented-is is.commented text is.comments_spelled)
