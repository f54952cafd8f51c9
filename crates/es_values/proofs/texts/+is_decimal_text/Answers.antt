use Rattle.std.proofs.Common.{ap, sym, ◌∙◌, ◌+◌, ◌%◌, ◌≡◌, List, ℕ}
use Rattle.bml_bytes.specs.Words.{is_same}
use Rattle.bml_bytes.specs.Numerals.{decimal_digits}
use Rattle.es_values.proofs.DigitLemmas.{nothing-left}
use Rattle.es_values.proofs.DecimalLemmas.{is_same-nothing, is_same-last, is_same-one, is_same-more, empty-is}
use Rattle.es_values.proofs.texts.+is_decimal_text.Goals as goal

pub returns-in-None : goal.returns-in-None
returns-in-None t c =
    let e = nothing-left c.args.codes.now c.in-None.ensures.cases in
    sym (ap (λ (text : List ℕ). is_same text (decimal_digits c.args.number)) e ∙ is_same-nothing c.args.number)

pub returns-then-from-number : goal.returns-then-from-number
returns-then-from-number t c =
    let e = c.in-Some.ensures.cases.0 in
    let h : c.in-Some.last.now ≡ 48 + c.args.number % 10 → ⊥ = λ k. c.if-from-number.true (c.from.ensures ∙ k) in
    sym (ap (λ (text : List ℕ). is_same text (decimal_digits c.args.number)) e ∙ is_same-last c.in-Some.front.now c.in-Some.last.now c.args.number h)

pub returns-then-number-lt10 : goal.returns-then-number-lt10
returns-then-number-lt10 t c =
    let e = c.in-Some.ensures.cases.0 in
    let h : c.in-Some.last.now ≡ 48 + c.args.number % 10 = sym c.from.ensures ∙ c.if-from-number.false in
    empty-is c.in-Some.front.now c.is_empty.result c.is_empty.ensures
    ∙ sym (ap (λ (text : List ℕ). is_same text (decimal_digits c.args.number)) e ∙ is_same-one c.in-Some.front.now c.in-Some.last.now c.args.number c.if-number-lt10.true h)

pub returns-else-number-lt10 : goal.returns-else-number-lt10
returns-else-number-lt10 t c =
    let e = c.in-Some.ensures.cases.0 in
    let h : c.in-Some.last.now ≡ 48 + c.args.number % 10 = sym c.from.ensures ∙ c.if-from-number.false in
    c.is_decimal_text.ensures
    ∙ sym (ap (λ (text : List ℕ). is_same text (decimal_digits c.args.number)) e ∙ is_same-more c.in-Some.front.now c.in-Some.last.now c.args.number c.if-number-lt10.false h)
