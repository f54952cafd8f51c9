-- Each value that is declared fits its property.
use Rattle.std.proofs.Common.{◌≡◌, ℕ, Bool, true, List, [], ◌∷◌, ◌++◌, Option, Some, None, refl, ◌∙◌}
use Rattle.std.proofs.lemmas.List.Folds.{list_all-append}
use Rattle.std.specs.Prelude.{◌&&◌, option_map}
use Rattle.std.specs.Option.{option_to_list}
use Rattle.std.specs.List.{cons_option, filter_map, list_all, slice_split}
use Rattle.style_reader.specs.Declarations.{declaration_of, declarations_in, is_semicolon}
use Rattle.style_reader.specs.Readings.{inline_rules_by, rule_with, rules_by, rules_in, selectors_of}
use Rattle.style_reader.specs.Rules.{AreFitting, is_fitting}
use Rattle.style_reader.specs.Sheets.{Sheet}
use Rattle.style_reader.specs.Sheets.Sheet.{Rest, Rule, OpenRule, AtRule, OpenAtRule}
use Rattle.style_reader.specs.declared.declarations.Declaration.{Declaration}
use Rattle.style_reader.specs.declared.rules.Rule.{Rule as StyleRule}
use Rattle.style_reader.specs.declared.selectors.Selector.{Selector}
use Rattle.style_reader.proofs.DeclarationLaws.{declaration-read}
use Rattle.style_reader.proofs.ValueLaws.{fits-read}

both : (a b : Bool) → a ≡ true → b ≡ true → (a && b) ≡ true
both a b e f = rw (e, f) refl

one-fits : (text : List ℕ) (declaration : Declaration) → declaration_of text ≡ Some declaration → is_fitting declaration ≡ true
one-fits text declaration e = let is = declaration-read declaration text e in fits-read declaration.property is.value declaration.value is.value_is

some-fit : (pieces : List (List ℕ)) → list_all is_fitting (filter_map declaration_of pieces) ≡ true
some-fit [] = refl
some-fit (piece ∷ pieces) = by (declaration_of piece) refl (some-fit pieces)
  where
    by : (found : Option Declaration) → declaration_of piece ≡ found → list_all is_fitting (filter_map declaration_of pieces) ≡ true → list_all is_fitting (cons_option found (filter_map declaration_of pieces)) ≡ true
    by None e more = more
    by (Some declaration) e more = both (is_fitting declaration) (list_all is_fitting (filter_map declaration_of pieces)) (one-fits piece declaration e) more

block-fits : (block : List ℕ) → list_all is_fitting (declarations_in block) ≡ true
unfolding declarations_in
block-fits block = some-fit (slice_split is_semicolon block)

pub inline-fits : (text : List ℕ) → AreFitting (inline_rules_by text)
inline-fits text = both (list_all is_fitting (declarations_in text)) true (block-fits text) refl

rule-fits : (selectors block : List ℕ) → AreFitting (rules_by selectors block)
rule-fits selectors block = by (selectors_of selectors)
  where
    by : (found : Option (List Selector)) → AreFitting (option_to_list (option_map (rule_with (declarations_in block)) found))
    by None = refl
    by (Some good) = both (list_all is_fitting (declarations_in block)) true (block-fits block) refl

pub fitting-append : (front back : List StyleRule) → AreFitting front → AreFitting back → AreFitting (front ++ back)
fitting-append front back f b =
    list_all-append (λ (rule : StyleRule). list_all is_fitting rule.declarations) front back
    ∙ both (list_all (λ (rule : StyleRule). list_all is_fitting rule.declarations) front) (list_all (λ (rule : StyleRule). list_all is_fitting rule.declarations) back) f b

pub sheet-fits : (sheet : Sheet) → AreFitting (rules_in sheet)
sheet-fits Rest = refl
sheet-fits (Rule selectors block following) = fitting-append (rules_by selectors block) (rules_in following) (rule-fits selectors block) (sheet-fits following)
sheet-fits (OpenRule selectors block) = rule-fits selectors block
sheet-fits (AtRule following) = sheet-fits following
sheet-fits OpenAtRule = refl
