use Rattle.std.proofs.Common.{◌≡◌, ◌≢◌, ℕ, ◌-◌, List, [], ◌∷◌, ◌++◌, length, subst, Some, None, ◌∙◌, sym, ap, arith}
use Rattle.std.specs.Prelude.{option_map}
use Rattle.es_lexer.specs.Scanning.{Found}
use Rattle.es_lexer.specs.ScannedTokens.{Seen, seen_at}
use Rattle.es_lexer.specs.ElementViews.{element_seen, found_element}
use Rattle.es_lexer.specs.Tokens.{IsBadAt}
use Rattle.es_lexer.specs.declared.token_types.LexRefusal.TheVariants.{Bad}
use Rattle.es_lexer.proofs.TokenLemmas.{token, one-list, one-place, not-both}
use Rattle.es_lexer.proofs.LoopLemmas.{keeps-start, keeps-blank, keeps-break, keeps-token, keeps-within, keeps-end, keeps-bad, seen-shorter, some-rest, no-rest, bad-answer}
use Rattle.es_lexer.proofs.lexer.tokens.Goals as goal

pub elements-init : goal.elements-init
elements-init c = keeps-start c.args.text.now c.codes-rest.result.now c.new-tokens.result.items c.codes-rest.ensures c.new-tokens.ensures.items

-- where nothing stands

bad-here : (c : goal.After-drop-tokens-in-None) → IsBadAt c.args.text.now (c.len.result - length c.elements.rest.now)
bad-here c =
    let text : List ℕ = c.args.text.now in
    let rest : List ℕ = c.elements.rest.now in
    let e : seen_at rest ≡ None = sym (c.in_ok-element_at_front.ensures {u = tt}).seen ∙ ap (option_map found_element) c.in-None.is in
    let some : rest ≢ [] = some-rest rest (c.elements-test.ensures {u = tt}) in
    subst (λ n. IsBadAt text (n - length rest)) (sym c.len.ensures) (keeps-bad text c.elements.tokens.items rest c.elements.after_break c.elements.unclosed c.elements.invariant some e)

pub returns-in-None-clause-bad : goal.returns-in-None-clause-bad
returns-in-None-clause-bad c = λ place e. bad-answer c.args.text.now (c.len.result - length c.elements.rest.now) place (bad-here c) e

pub returns-in-None-clause-only : goal.returns-in-None-clause-only
returns-in-None-clause-only c = λ tokens h. absurd (not-both c.args.text.now tokens (c.len.result - length c.elements.rest.now) h (bad-here c))

pub returns-in-None-clause-bad_only : goal.returns-in-None-clause-bad_only
returns-in-None-clause-bad_only c = λ place h n. ap (λ p. Bad p) (one-place c.args.text.now (c.len.result - length c.elements.rest.now) place (bad-here c) h)

pub overflow_sub-end : goal.overflow_sub-end
overflow_sub-end c =
    let rest : List ℕ = c.elements.rest.now in
    let f : Found Seen = found_element (c.in-Some.element, c.in-Some.behind) in
    let e : seen_at rest ≡ Some f = sym (c.in_ok-element_at_front.ensures {u = tt}).seen ∙ ap (option_map found_element) c.in-Some.is in
    omega (arith, seen-shorter rest f e, keeps-within c.args.text.now c.elements.tokens.items rest c.elements.after_break c.elements.unclosed c.elements.invariant, c.len-in-Token.ensures)

pub elements-smaller-in-Blank : goal.elements-smaller-in-Blank
elements-smaller-in-Blank c =
    let rest : List ℕ = c.elements.rest.now in
    let f : Found Seen = found_element (c.in-Some.element, c.in-Some.behind) in
    let e : seen_at rest ≡ Some f = sym (c.in_ok-element_at_front.ensures {u = tt}).seen ∙ ap (option_map found_element) c.in-Some.is in
    seen-shorter rest f e

pub elements-preserved-in-Blank : goal.elements-preserved-in-Blank
elements-preserved-in-Blank c =
    let rest : List ℕ = c.elements.rest.now in
    let f : Found Seen = found_element (c.in-Some.element, c.in-Some.behind) in
    let e : seen_at rest ≡ Some f = sym (c.in_ok-element_at_front.ensures {u = tt}).seen ∙ ap (option_map found_element) c.in-Some.is in
    let some : rest ≢ [] = some-rest rest (c.elements-test.ensures {u = tt}) in
    keeps-blank c.args.text.now c.elements.tokens.items rest c.elements.after_break c.elements.unclosed f c.element_at_front.new.unclosed c.elements.invariant some e (ap element_seen c.in-Blank.is) c.element_at_front.ensures.left

pub elements-smaller-in-Break : goal.elements-smaller-in-Break
elements-smaller-in-Break c =
    let rest : List ℕ = c.elements.rest.now in
    let f : Found Seen = found_element (c.in-Some.element, c.in-Some.behind) in
    let e : seen_at rest ≡ Some f = sym (c.in_ok-element_at_front.ensures {u = tt}).seen ∙ ap (option_map found_element) c.in-Some.is in
    seen-shorter rest f e

pub elements-preserved-in-Break : goal.elements-preserved-in-Break
elements-preserved-in-Break c =
    let rest : List ℕ = c.elements.rest.now in
    let f : Found Seen = found_element (c.in-Some.element, c.in-Some.behind) in
    let e : seen_at rest ≡ Some f = sym (c.in_ok-element_at_front.ensures {u = tt}).seen ∙ ap (option_map found_element) c.in-Some.is in
    let some : rest ≢ [] = some-rest rest (c.elements-test.ensures {u = tt}) in
    keeps-break c.args.text.now c.elements.tokens.items rest c.elements.after_break c.elements.unclosed f c.element_at_front.new.unclosed c.elements.invariant some e (ap element_seen c.in-Break.is) c.element_at_front.ensures.left

pub elements-smaller : goal.elements-smaller
elements-smaller c =
    let rest : List ℕ = c.elements.rest.now in
    let f : Found Seen = found_element (c.in-Some.element, c.in-Some.behind) in
    let e : seen_at rest ≡ Some f = sym (c.in_ok-element_at_front.ensures {u = tt}).seen ∙ ap (option_map found_element) c.in-Some.is in
    seen-shorter rest f e

pub elements-preserved : goal.elements-preserved
elements-preserved c =
    let rest : List ℕ = c.elements.rest.now in
    let f : Found Seen = found_element (c.in-Some.element, c.in-Some.behind) in
    let e : seen_at rest ≡ Some f = sym (c.in_ok-element_at_front.ensures {u = tt}).seen ∙ ap (option_map found_element) c.in-Some.is in
    let some : rest ≢ [] = some-rest rest (c.elements-test.ensures {u = tt}) in
    let text : List ℕ = c.args.text.now in
    let behind : List ℕ = c.in-Some.behind.now in
    let kind = ap (λ x. (element_seen x).kind) c.in-Token.is in
    let pushed : c.push.new.self.items ≡ c.elements.tokens.items ++ token c.in-Token.kind (length text - length rest) (length text - length behind) c.elements.after_break ∷ [] =
    (c.in_ok-push-in-Token.ensures {u = tt}).items
    ∙ (ap (λ n. c.elements.tokens.items ++ token c.in-Token.kind (n - length rest) (c.len-in-Token.result - length behind) c.elements.after_break ∷ []) c.len.ensures
    ∙ ap (λ n. c.elements.tokens.items ++ token c.in-Token.kind (length text - length rest) (n - length behind) c.elements.after_break ∷ []) c.len-in-Token.ensures) in
    keeps-token c.args.text.now c.elements.tokens.items c.push.new.self.items rest c.elements.after_break c.elements.unclosed f c.in-Token.kind c.element_at_front.new.unclosed c.elements.invariant some e kind pushed c.element_at_front.ensures.left

pub returns-clause-ok : goal.returns-clause-ok
returns-clause-ok c = keeps-end c.args.text.now c.elements.tokens.items c.elements.rest.now c.elements.after_break c.elements.unclosed c.elements.invariant (no-rest c.elements.rest.now (c.elements-test.ensures {u = tt}))

pub returns-clause-only : goal.returns-clause-only
returns-clause-only c = λ tokens h. one-list c.args.text.now c.elements.tokens.items tokens (returns-clause-ok c) h

pub returns-clause-bad_only : goal.returns-clause-bad_only
returns-clause-bad_only c = λ place h. not-both c.args.text.now c.elements.tokens.items place (returns-clause-ok c) h
