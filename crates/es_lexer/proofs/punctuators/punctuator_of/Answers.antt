use Rattle.std.proofs.Common.{◌≡◌, ◌≢◌, ℕ, Bool, false, List, [], ◌++◌, Some, None, length, ◌∙◌, sym, ap, append-nil, arith}
use Rattle.std.specs.Prelude.{option_map, ◌==◌}
use Rattle.std.proofs.lemmas.Bool.{eqb-true}
use Rattle.es_lexer.specs.Scanning.{Found, found}
use Rattle.es_lexer.specs.Spellings.{mark_spelling}
use Rattle.es_lexer.specs.Munching.{mark_at}
use Rattle.es_lexer.specs.Views.{found_mark}
use Rattle.es_lexer.specs.declared.punctuators.Punctuator.{Punctuator}
use Rattle.es_lexer.proofs.CodeLemmas.{some-same, nothing-left}
use Rattle.es_lexer.proofs.MarkLemmas.{mark_at-is, mark_at-spelling}
use Rattle.es_lexer.proofs.punctuators.punctuator_of.Goals as goal

pub returns-in-Some : goal.returns-in-Some
returns-in-Some c =
    let spelling : List ℕ = c.args.spelling.now in
    let f : Found Punctuator = found_mark (c.in-Some.mark, c.in-Some.rest) in
    let e : mark_at spelling ≡ Some f = sym c.mark_at_front.ensures ∙ ap (option_map found_mark) c.in-Some.is in
    let none : f.rest ≡ [] = nothing-left f.rest (eqb-true (length f.rest) 0 (sym c.is_empty.ensures ∙ c.if-is_empty.true)) in
    mark_at-is spelling f e ∙ (ap (λ r. mark_spelling f.it ++ r) none ∙ append-nil (mark_spelling f.it))

pub returns-in_default : goal.returns-in_default
returns-in_default c = λ mark s.
    let spelling : List ℕ = c.args.spelling.now in
    let f : Found Punctuator = found_mark (c.in-Some.mark, c.in-Some.rest) in
    let e : mark_at spelling ≡ Some f = sym c.mark_at_front.ensures ∙ ap (option_map found_mark) c.in-Some.is in
    let same : f ≡ found mark [] = some-same f (found mark []) (sym e ∙ (ap mark_at s ∙ mark_at-spelling mark)) in
    let empty : length f.rest ≡ 0 = ap (λ (g : Found Punctuator). length g.rest) same in
    let isnt : (length f.rest == 0) ≡ Rattle.std.proofs.Common.false = sym c.is_empty.ensures ∙ c.if-is_empty.false in
    absurd (cc (ap (λ n. n == 0) empty))

pub returns-in_default-2 : goal.returns-in_default-2
returns-in_default-2 c = λ mark s.
    let none : mark_at c.args.spelling.now ≡ None = sym c.mark_at_front.ensures ∙ ap (option_map found_mark) c.in_default.is in
    absurd (cc (ap mark_at s ∙ mark_at-spelling mark))
