-- The order of declarations.
use Rattle.std.proofs.Common.{◌≡◌, ℕ, ◌+◌, List, [], ◌∷◌, ◌++◌, length, sym, ◌∙◌, ap, append_assoc, arith}
use Rattle.style_reader.specs.Rules.{Given, declaration_count, given_by, given_by_rule, given_from}
use Rattle.style_reader.specs.declared.rules.Rule.{Rule as StyleRule}

given_from-append : (order : ℕ) (front back : List StyleRule) → given_from order (front ++ back) ≡ given_from order front ++ given_from (order + declaration_count front) back
given_from-append order [] back = ap (λ (n : ℕ). given_from n back) (plus_none order)
  where
    plus_none : (n : ℕ) → n ≡ n + 0
    plus_none n = omega arith
given_from-append order (rule ∷ front) back =
    ap (λ (more : List Given). given_by_rule order rule.selectors rule.declarations ++ more) (given_from-append (order + length rule.declarations) front back)
    ∙ sym (append_assoc (given_by_rule order rule.selectors rule.declarations) (given_from (order + length rule.declarations) front) (given_from (order + length rule.declarations + declaration_count front) back))
    ∙ ap (λ (n : ℕ). given_from order (rule ∷ front) ++ given_from n back) (plus_assoc order (length rule.declarations) (declaration_count front))
  where
    plus_assoc : (a b c : ℕ) → a + b + c ≡ a + (b + c)
    plus_assoc a b c = omega arith

pub given_by-append : (front back : List StyleRule) → given_by (front ++ back) ≡ given_by front ++ given_from (declaration_count front) back
unfolding given_by
given_by-append front back = given_from-append 0 front back ∙ ap (λ (n : ℕ). given_from 0 front ++ given_from n back) (none_plus (declaration_count front))
  where
    none_plus : (n : ℕ) → 0 + n ≡ n
    none_plus n = omega arith
