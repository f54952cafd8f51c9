-- Sheets as they are spelled, and the sheet that is read.
use Rattle.std.proofs.Common.{◌≡◌, ℕ, zero, suc, ◌<◌, Bool, true, false, cond, List, [], ◌∷◌, ◌++◌, length, Option, Some, None, refl, sym, ◌∙◌, ap, subst, arith}
use Rattle.std.specs.List.{after_first, before_first, list_any}
use Rattle.style_reader.specs.Characters.{is_white, without_white_front}
use Rattle.style_reader.specs.Declarations.{Lacks}
use Rattle.style_reader.specs.Readings.{Found, at_rule_found, behind_at_rule, block_found, found_at, found_behind_white, rule_found, sheet_of, sheet_within}
use Rattle.style_reader.specs.Readings.Found.{Nothing, FoundRule, FoundOpenRule, FoundAtRule, FoundOpenAtRule}
use Rattle.style_reader.specs.Sheets.{AreSelectors, BeginsRule, IsAtRule, IsBehindWhite, IsOpenAtRule, IsOpenRule, IsRest, IsRule, Sheet, Spells, is_at, is_close, is_open}
use Rattle.style_reader.specs.Sheets.Sheet.{Rest, Rule, OpenRule, AtRule, OpenAtRule}
use Rattle.style_reader.specs.devices.Views.{IsParted}
use Rattle.style_reader.proofs.BlockLaws.{at_rule-ended, at_rule-found, the_code}
use Rattle.style_reader.proofs.CutLemmas.{IsBlack, IsWhiteBefore, joined-at, parted-at, white-before, white-cut}
use Rattle.style_reader.proofs.SheetLemmas.{LeavesLess, found_at-less, sheet_of-step, sheet_with, sheet_within-step}

-- what the grammar says of a part that is found
abbrev pub IsFound : Found → List ℕ → Type 0
IsFound Nothing text = IsRest text
IsFound (FoundRule selectors block rest) text = IsRule selectors block text rest
IsFound (FoundOpenRule selectors block) text = IsOpenRule selectors block text
IsFound (FoundAtRule rest) text = IsAtRule text rest
IsFound FoundOpenAtRule text = IsOpenAtRule text

-- ---- what is spelled is found

-- behind white the part is found at once
behind-white : (text more : List ℕ) → IsBehindWhite text more → IsBlack more → found_at text ≡ found_behind_white more
unfolding found_at
behind-white text more placed black = ap found_behind_white (ap without_white_front placed.1 ∙ white-cut placed.0 more placed.2 black)

black-rule : (front more : List ℕ) → BeginsRule front → IsBlack more → IsBlack (front ++ more)
black-rule [] more begins black = black
black-rule (code ∷ front) more begins black = begins.0

-- no `@` is in front
rule-at-once : (code : ℕ) (more : List ℕ) → is_at code ≡ false → found_behind_white (code ∷ more) ≡ rule_found (code ∷ more)
rule-at-once code more e = rw e refl

rule-behind : (front : List ℕ) (code : ℕ) (more : List ℕ) → BeginsRule front → is_at code ≡ false → found_behind_white (front ++ (code ∷ more)) ≡ rule_found (front ++ (code ∷ more))
rule-behind [] code more begins e = rule-at-once code more e
rule-behind (first ∷ front) code more begins e = rule-at-once first (front ++ (code ∷ more)) begins.1

rule-cut : (text selectors behind : List ℕ) → IsParted is_open text selectors behind → rule_found text ≡ block_found selectors behind
rule-cut text selectors behind cut = rw (cut.has_one, cut.before_is, cut.behind_is) refl

block-cut : (selectors text block rest : List ℕ) → IsParted is_close text block rest → block_found selectors text ≡ FoundRule selectors block rest
block-cut selectors text block rest cut = rw (cut.has_one, cut.before_is, cut.behind_is) refl

block-whole : (selectors text : List ℕ) → Lacks is_close text → block_found selectors text ≡ FoundOpenRule selectors text
block-whole selectors text lacks = rw lacks refl

found-block : (text selectors behind : List ℕ) → IsBehindWhite text (selectors ++ (123 ∷ behind)) → AreSelectors selectors → found_at text ≡ block_found selectors behind
unfolding is_white
found-block text selectors behind placed front =
    behind-white text (selectors ++ (123 ∷ behind)) placed (black-rule selectors (123 ∷ behind) front.begins refl)
    ∙ rule-behind selectors 123 behind front.begins refl
    ∙ rule-cut (selectors ++ (123 ∷ behind)) selectors behind (parted-at is_open selectors behind 123 front.opened_first refl)

found-rest : (text more : List ℕ) → IsBehindWhite text more → AreSelectors more → found_at text ≡ Nothing
found-rest text [] placed front = behind-white text [] placed tt
found-rest text (code ∷ more) placed front =
    behind-white text (code ∷ more) placed front.begins.0
    ∙ rule-at-once code more front.begins.1
    ∙ rw front.opened_first refl

found-at : (text more : List ℕ) → IsBehindWhite text (64 ∷ more) → found_at text ≡ at_rule_found (behind_at_rule more)
unfolding is_white
found-at text more placed = behind-white text (64 ∷ more) placed refl

never : (found : Option (List ℕ)) → ((rest : List ℕ) → found ≡ Some rest → ⊥) → found ≡ None
never None h = refl
never (Some rest) h = absurd (h rest refl)

pub found_at-spelled : (found : Found) (text : List ℕ) → IsFound found text → found_at text ≡ found
found_at-spelled Nothing text is = found-rest text is.more is.placed is.left_out
found_at-spelled (FoundRule selectors block rest) text is =
    found-block text selectors (block ++ (125 ∷ rest)) is.placed is.front
    ∙ block-cut selectors (block ++ (125 ∷ rest)) block rest (parted-at is_close block rest 125 is.closed_first refl)
found_at-spelled (FoundOpenRule selectors block) text is = found-block text selectors block is.placed is.front ∙ block-whole selectors block is.never_closed
found_at-spelled (FoundAtRule rest) text is = found-at text is.more is.placed ∙ ap at_rule_found (at_rule-ended is.more rest is.ended)
found_at-spelled FoundOpenAtRule text is =
    found-at text is.more is.placed ∙ ap at_rule_found (never (behind_at_rule is.more) (λ rest e. is.never_ended rest (at_rule-found is.more rest e)))

-- ---- what is found is spelled so

behind_white-is : (text more : List ℕ) → IsWhiteBefore text more → IsBehindWhite text more
behind_white-is text more before = (before.white, before.is, before.whites)

are-selectors : (code : ℕ) (text before behind : List ℕ) → code ∷ text ≡ before ++ (123 ∷ behind) → is_white code ≡ false → is_at code ≡ false → Lacks is_open before → AreSelectors before
are-selectors code text [] behind e black at_not lacks = record { begins = tt; opened_first = refl }
are-selectors code text (first ∷ before) behind e black at_not lacks =
    let same : code ≡ first = cc in
    record { begins = (rw (← same) black, rw (← same) at_not); opened_first = lacks }

block_found-is : (text selectors behind : List ℕ) → IsBehindWhite text (selectors ++ (123 ∷ behind)) → AreSelectors selectors → IsFound (block_found selectors behind) text
block_found-is text selectors behind placed front = by (list_any is_close behind) refl
  where
    by : (b : Bool) → list_any is_close behind ≡ b → IsFound (cond b (FoundRule selectors (before_first is_close behind) (after_first is_close behind)) (FoundOpenRule selectors behind)) text
    by true e =
        let cut = joined-at is_close behind e in
        let block = before_first is_close behind in
        let rest = after_first is_close behind in
        let whole : behind ≡ block ++ (125 ∷ rest) = cut.end_to_end ∙ ap (λ (c : ℕ). block ++ (c ∷ rest)) (the_code cut.code 125 cut.passes) in
        record {
          placed = (placed.0, placed.1 ∙ ap (λ (t : List ℕ). placed.0 ++ (selectors ++ (123 ∷ t))) whole, placed.2);
          front = front;
          closed_first = cut.lacks;
        }
    by false e = record { placed = placed; front = front; never_closed = e }

rule_found-is : (text more : List ℕ) (code : ℕ) → IsBehindWhite text (code ∷ more) → is_white code ≡ false → is_at code ≡ false → IsFound (rule_found (code ∷ more)) text
rule_found-is text more code placed black at_not = by (list_any is_open (code ∷ more)) refl
  where
    by : (b : Bool) → list_any is_open (code ∷ more) ≡ b → IsFound (cond b (block_found (before_first is_open (code ∷ more)) (after_first is_open (code ∷ more))) Nothing) text
    by true e =
        let cut = joined-at is_open (code ∷ more) e in
        let before = before_first is_open (code ∷ more) in
        let behind = after_first is_open (code ∷ more) in
        let whole : code ∷ more ≡ before ++ (123 ∷ behind) = cut.end_to_end ∙ ap (λ (c : ℕ). before ++ (c ∷ behind)) (the_code cut.code 123 cut.passes) in
        block_found-is text before behind (placed.0, placed.1 ∙ ap (λ (t : List ℕ). placed.0 ++ t) whole, placed.2) (are-selectors code more before behind whole black at_not cut.lacks)
    by false e = record { more = code ∷ more; placed = placed; left_out = record { begins = (black, at_not); opened_first = e } }

at_rule_found-is : (text more : List ℕ) → IsBehindWhite text (64 ∷ more) → IsFound (at_rule_found (behind_at_rule more)) text
at_rule_found-is text more placed = by (behind_at_rule more) refl
  where
    other : (rest : List ℕ) → behind_at_rule more ≡ None → behind_at_rule more ≡ Some rest → ⊥
    other rest e f = cc

    by : (found : Option (List ℕ)) → behind_at_rule more ≡ found → IsFound (at_rule_found found) text
    by None e = record { more = more; placed = placed; never_ended = λ rest ended. other rest e (at_rule-ended more rest ended) }
    by (Some rest) e = record { more = more; placed = placed; ended = at_rule-found more rest e }

behind_white-found : (text more : List ℕ) → IsWhiteBefore text more → IsFound (found_behind_white more) text
behind_white-found text [] before = record { more = []; placed = behind_white-is text [] before; left_out = record { begins = tt; opened_first = refl } }
behind_white-found text (code ∷ more) before = by (is_at code) refl
  where
    placed : IsBehindWhite text (code ∷ more)
    placed = behind_white-is text (code ∷ more) before

    by : (b : Bool) → is_at code ≡ b → IsFound (cond b (at_rule_found (behind_at_rule more)) (rule_found (code ∷ more))) text
    by true e = at_rule_found-is text more (subst (λ (c : ℕ). IsBehindWhite text (c ∷ more)) (the_code code 64 e) placed)
    by false e = rule_found-is text more code placed before.black e

pub found_at-is : (text : List ℕ) → IsFound (found_at text) text
unfolding found_at
found_at-is text = behind_white-found text (without_white_front text) (white-before text)

-- ---- sheets

pub sheet_of-spelled : (sheet : Sheet) (text : List ℕ) → Spells sheet text → sheet ≡ sheet_of text
sheet_of-spelled Rest text spelled = sym (sheet_of-step text ∙ ap (λ (found : Found). sheet_with found sheet_of) (found_at-spelled Nothing text spelled))
sheet_of-spelled (Rule selectors block following) text spelled =
    let rest = spelled.0 in
    ap (Rule selectors block) (sheet_of-spelled following rest spelled.2)
    ∙ sym (sheet_of-step text ∙ ap (λ (found : Found). sheet_with found sheet_of) (found_at-spelled (FoundRule selectors block rest) text spelled.1))
sheet_of-spelled (OpenRule selectors block) text spelled = sym (sheet_of-step text ∙ ap (λ (found : Found). sheet_with found sheet_of) (found_at-spelled (FoundOpenRule selectors block) text spelled))
sheet_of-spelled (AtRule following) text spelled =
    let rest = spelled.0 in
    ap AtRule (sheet_of-spelled following rest spelled.2)
    ∙ sym (sheet_of-step text ∙ ap (λ (found : Found). sheet_with found sheet_of) (found_at-spelled (FoundAtRule rest) text spelled.1))
sheet_of-spelled OpenAtRule text spelled = sym (sheet_of-step text ∙ ap (λ (found : Found). sheet_with found sheet_of) (found_at-spelled FoundOpenAtRule text spelled))

sheet_within-spells : (most : ℕ) (text : List ℕ) → length text < most → Spells (sheet_within most text) text
sheet_within-spells zero text h = absurd (omega arith)
sheet_within-spells (suc most) text h =
    subst (λ (sheet : Sheet). Spells sheet text) (sym (sheet_within-step most text)) (by (found_at text) (found_at-is text) (found_at-less text) (λ rest k. sheet_within-spells most rest (omega arith)))
  where
    by : (found : Found) → IsFound found text → LeavesLess (length text) found → ((rest : List ℕ) → length rest < length text → Spells (sheet_within most rest) rest) → Spells (sheet_with found (sheet_within most)) text
    by Nothing is less more = is
    by (FoundRule selectors block rest) is less more = (rest, is, more rest less)
    by (FoundOpenRule selectors block) is less more = is
    by (FoundAtRule rest) is less more = (rest, is, more rest less)
    by FoundOpenAtRule is less more = is

pub sheet_of-spells : (text : List ℕ) → Spells (sheet_of text) text
unfolding sheet_of
sheet_of-spells text = sheet_within-spells (suc (length text)) text (omega arith)
