-- The parts of a sheet, one by one.
use Rattle.std.proofs.Common.{◌≡◌, ℕ, zero, suc, ◌+◌, ◌<◌, ◌≤◌, Bool, true, false, cond, List, [], ◌∷◌, ◌++◌, length, Option, Some, None, refl, sym, ◌∙◌, ap, append-nil, append_assoc, arith}
use Rattle.std.proofs.lemmas.Bool.Decides.{nat_tests}
use Rattle.std.proofs.lemmas.List.{length-drop}
use Rattle.std.specs.List.{after_first, before_first, list_any, position_or_len, prefix_len}
use Rattle.style_reader.specs.Characters.{is_white, without_white_front}
use Rattle.style_reader.specs.Readings.{Found, at_rule_found, behind_at_rule, behind_block, block_found, found_at, found_behind_white, rule_found, rules_by, rules_in, sheet_of, sheet_within}
use Rattle.style_reader.specs.Readings.Found.{Nothing, FoundRule, FoundOpenRule, FoundAtRule, FoundOpenAtRule}
use Rattle.style_reader.specs.declared.rules.Rule.{Rule as StyleRule}
use Rattle.style_reader.specs.Declarations.{is_semicolon}
use Rattle.style_reader.specs.Sheets.{Sheet, is_at, is_close, is_open}
use Rattle.style_reader.specs.Sheets.Sheet.{Rest, Rule, OpenRule, AtRule, OpenAtRule}
use Rattle.style_reader.specs.devices.Views.{FirstPart, first_part, part_of}
use Rattle.style_reader.proofs.PieceLemmas.{list_any-is}

-- ---- what is found is shorter

-- what a part leaves has fewer codes than this
abbrev pub LeavesLess : ℕ → Found → Type 0
LeavesLess count Nothing = Unit {0}
LeavesLess count (FoundRule selectors block rest) = length rest < count
LeavesLess count (FoundOpenRule selectors block) = Unit {0}
LeavesLess count (FoundAtRule rest) = length rest < count
LeavesLess count FoundOpenAtRule = Unit {0}

-- the sheet that begins with a part
abbrev pub sheet_with : Found → (List ℕ → Sheet) → Sheet
sheet_with Nothing more = Rest
sheet_with (FoundRule selectors block rest) more = Rule selectors block (more rest)
sheet_with (FoundOpenRule selectors block) more = OpenRule selectors block
sheet_with (FoundAtRule rest) more = AtRule (more rest)
sheet_with FoundOpenAtRule more = OpenAtRule

pub sheet_within-step : (most : ℕ) (text : List ℕ) → sheet_within (suc most) text ≡ sheet_with (found_at text) (sheet_within most)
unfolding sheet_within
sheet_within-step most text = by (found_at text)
  where
    by : (found : Found) → (elim found as (λ _. Sheet) [ Nothing ↦ Rest | FoundRule selectors block rest ↦ Rule selectors block (sheet_within most rest) | FoundOpenRule selectors block ↦ OpenRule selectors block | FoundAtRule rest ↦ AtRule (sheet_within most rest) | FoundOpenAtRule ↦ OpenAtRule ]) ≡ sheet_with found (sheet_within most)
    by Nothing = refl
    by (FoundRule selectors block rest) = refl
    by (FoundOpenRule selectors block) = refl
    by (FoundAtRule rest) = refl
    by FoundOpenAtRule = refl

-- a part of a text that is cut off behind its first codes
after_first-less : (test : ℕ → Bool) (text : List ℕ) → list_any test text ≡ true → length (after_first test text) < length text
after_first-less test text e =
    let place = rw (list_any-is test text) at e in
    let within : position_or_len test text < length text = grind (arith, nat_tests) in
    omega (arith, length-drop (position_or_len test text + 1) text)

block_found-less : (count : ℕ) (selectors text : List ℕ) → length text < count → LeavesLess count (block_found selectors text)
block_found-less count selectors text h = by (list_any is_close text) refl
  where
    by : (b : Bool) → list_any is_close text ≡ b → LeavesLess count (cond b (FoundRule selectors (before_first is_close text) (after_first is_close text)) (FoundOpenRule selectors text))
    by true e = let less = after_first-less is_close text e in omega arith
    by false e = tt

rule_found-less : (text : List ℕ) → LeavesLess (length text) (rule_found text)
rule_found-less text = by (list_any is_open text) refl
  where
    by : (b : Bool) → list_any is_open text ≡ b → LeavesLess (length text) (cond b (block_found (before_first is_open text) (after_first is_open text)) Nothing)
    by true e = block_found-less (length text) (before_first is_open text) (after_first is_open text) (after_first-less is_open text e)
    by false e = tt

behind_block-less : (depth : ℕ) (text rest : List ℕ) → behind_block depth text ≡ Some rest → length rest < length text
unfolding behind_block
behind_block-less depth [] rest e = absurd (cc e)
behind_block-less zero (code ∷ text) rest e = by (is_open code) (is_close code) (λ d h. behind_block-less d text rest h) e
  where
    by : (o c : Bool) → ((d : ℕ) → behind_block d text ≡ Some rest → length rest < length text) → cond o (behind_block 1 text) (cond c (Some text) (behind_block zero text)) ≡ Some rest → length rest < suc (length text)
    by true c more h = omega (arith, more 1 h)
    by false true more h = let same : text ≡ rest = cc in let long = ap length same in omega arith
    by false false more h = omega (arith, more 0 h)
behind_block-less (suc depth) (code ∷ text) rest e = by (is_open code) (is_close code) (λ d h. behind_block-less d text rest h) e
  where
    by : (o c : Bool) → ((d : ℕ) → behind_block d text ≡ Some rest → length rest < length text) → cond o (behind_block (suc (suc depth)) text) (cond c (behind_block depth text) (behind_block (suc depth) text)) ≡ Some rest → length rest < suc (length text)
    by true c more h = omega (arith, more (suc (suc depth)) h)
    by false true more h = omega (arith, more depth h)
    by false false more h = omega (arith, more (suc depth) h)

behind_at_rule-less : (text rest : List ℕ) → behind_at_rule text ≡ Some rest → length rest < length text
unfolding behind_at_rule
behind_at_rule-less [] rest e = absurd (cc e)
behind_at_rule-less (code ∷ text) rest e = by (is_semicolon code) (is_open code) (behind_at_rule-less text rest) e
  where
    by : (s o : Bool) → (behind_at_rule text ≡ Some rest → length rest < length text) → cond s (Some text) (cond o (behind_block 0 text) (behind_at_rule text)) ≡ Some rest → length rest < suc (length text)
    by true o more h = let same : text ≡ rest = cc in let long = ap length same in omega arith
    by false true more h = omega (arith, behind_block-less 0 text rest h)
    by false false more h = omega (arith, more h)

at_rule_found-less : (text : List ℕ) → LeavesLess (length text) (at_rule_found (behind_at_rule text))
at_rule_found-less text = by (behind_at_rule text) refl
  where
    by : (found : Option (List ℕ)) → behind_at_rule text ≡ found → LeavesLess (length text) (at_rule_found found)
    by None e = tt
    by (Some rest) e = behind_at_rule-less text rest e

LeavesLess-more : (found : Found) (few many : ℕ) → few ≤ many → LeavesLess few found → LeavesLess many found
LeavesLess-more Nothing few many h less = tt
LeavesLess-more (FoundRule selectors block rest) few many h less = omega arith
LeavesLess-more (FoundOpenRule selectors block) few many h less = tt
LeavesLess-more (FoundAtRule rest) few many h less = omega arith
LeavesLess-more FoundOpenAtRule few many h less = tt

behind_white-less : (text : List ℕ) → LeavesLess (length text) (found_behind_white text)
behind_white-less [] = tt
behind_white-less (code ∷ rest) = by (is_at code) (at_rule_found-less rest) (rule_found-less (code ∷ rest))
  where
    by : (b : Bool) → LeavesLess (length rest) (at_rule_found (behind_at_rule rest)) → LeavesLess (suc (length rest)) (rule_found (code ∷ rest)) → LeavesLess (suc (length rest)) (cond b (at_rule_found (behind_at_rule rest)) (rule_found (code ∷ rest)))
    by true at_rule rule = LeavesLess-more (at_rule_found (behind_at_rule rest)) (length rest) (suc (length rest)) (omega arith) at_rule
    by false at_rule rule = rule

pub found_at-less : (text : List ℕ) → LeavesLess (length text) (found_at text)
unfolding found_at
found_at-less text = LeavesLess-more (found_behind_white (without_white_front text)) (length (without_white_front text)) (length text) (omega (arith, length-drop (prefix_len is_white text) text)) (behind_white-less (without_white_front text))

-- ---- any bound that is large enough gives the same sheet

pub sheet_within-same : (m n : ℕ) (text : List ℕ) → length text < m → length text < n → sheet_within m text ≡ sheet_within n text
sheet_within-same zero n text h k = absurd (omega arith)
sheet_within-same (suc m) zero text h k = absurd (omega arith)
sheet_within-same (suc m) (suc n) text h k =
    sheet_within-step m text ∙ by (found_at text) (found_at-less text) (λ rest l. sheet_within-same m n rest (omega arith) (omega arith)) ∙ sym (sheet_within-step n text)
  where
    by : (found : Found) → LeavesLess (length text) found → ((rest : List ℕ) → length rest < length text → sheet_within m rest ≡ sheet_within n rest) → sheet_with found (sheet_within m) ≡ sheet_with found (sheet_within n)
    by Nothing less same = refl
    by (FoundRule selectors block rest) less same = ap (Rule selectors block) (same rest less)
    by (FoundOpenRule selectors block) less same = refl
    by (FoundAtRule rest) less same = ap AtRule (same rest less)
    by FoundOpenAtRule less same = refl

-- the sheet of a text is its first part and the sheet of what that leaves
pub sheet_of-step : (text : List ℕ) → sheet_of text ≡ sheet_with (found_at text) sheet_of
unfolding sheet_of
sheet_of-step text = sheet_within-step (length text) text ∙ by (found_at text) (found_at-less text)
  where
    by : (found : Found) → LeavesLess (length text) found → sheet_with found (sheet_within (length text)) ≡ sheet_with found sheet_of
    by Nothing less = refl
    by (FoundRule selectors block rest) less = ap (Rule selectors block) (sheet_within-same (length text) (suc (length rest)) rest less (omega arith))
    by (FoundOpenRule selectors block) less = refl
    by (FoundAtRule rest) less = ap AtRule (sheet_within-same (length text) (suc (length rest)) rest less (omega arith))
    by FoundOpenAtRule less = refl

-- ---- rules

pub rules_in-none : (text : List ℕ) → None ≡ part_of (found_at text) → rules_in (sheet_of text) ≡ []
rules_in-none text e = ap rules_in (sheet_of-step text) ∙ by (found_at text) e
  where
    by : (found : Found) → None ≡ part_of found → rules_in (sheet_with found sheet_of) ≡ []
    by Nothing h = refl
    by (FoundRule selectors block rest) h = absurd (cc h)
    by (FoundOpenRule selectors block) h = absurd (cc h)
    by (FoundAtRule rest) h = absurd (cc h)
    by FoundOpenAtRule h = refl

sheet_of-nothing : rules_in (sheet_of []) ≡ []
unfolding sheet_of sheet_within found_at
sheet_of-nothing = refl

pub rules_in-some : (text : List ℕ) (first : FirstPart) → Some first ≡ part_of (found_at text) → rules_in (sheet_of text) ≡ first.rules ++ rules_in (sheet_of first.rest)
rules_in-some text first e = ap rules_in (sheet_of-step text) ∙ by (found_at text) e
  where
    by : (found : Found) → Some first ≡ part_of found → rules_in (sheet_with found sheet_of) ≡ first.rules ++ rules_in (sheet_of first.rest)
    by Nothing h = absurd (cc h)
    by (FoundRule selectors block rest) h = let same : first ≡ first_part (rules_by selectors block) rest = cc in rw same refl
    by (FoundOpenRule selectors block) h =
        let same : first ≡ first_part (rules_by selectors block) [] = cc in
        rw same (sym (append-nil (rules_by selectors block)) ∙ ap (λ (more : List StyleRule). rules_by selectors block ++ more) (sym sheet_of-nothing))
    by (FoundAtRule rest) h = let same : first ≡ first_part [] rest = cc in rw same refl
    by FoundOpenAtRule h = absurd (cc h)

-- one part more
pub rules-more : (read new rules whole : List StyleRule) (rest more : List ℕ) → read ++ rules_in (sheet_of rest) ≡ whole → new ≡ read ++ rules → Some (first_part rules more) ≡ part_of (found_at rest) → new ++ rules_in (sheet_of more) ≡ whole
rules-more read new rules whole rest more so_far pushed part =
    ap (λ (front : List StyleRule). front ++ rules_in (sheet_of more)) pushed
    ∙ append_assoc read rules (rules_in (sheet_of more))
    ∙ ap (λ (behind : List StyleRule). read ++ behind) (sym (rules_in-some rest (first_part rules more) part))
    ∙ so_far

-- no part more
pub rules-all : (read whole : List StyleRule) (rest : List ℕ) → read ++ rules_in (sheet_of rest) ≡ whole → None ≡ part_of (found_at rest) → read ≡ whole
rules-all read whole rest so_far none = sym (append-nil read) ∙ ap (λ (behind : List StyleRule). read ++ behind) (sym (rules_in-none rest none)) ∙ so_far
