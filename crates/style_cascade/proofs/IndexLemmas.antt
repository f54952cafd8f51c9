-- The best of some rules, in any order, and the search of all.
use Rattle.std.proofs.Common.{◌≡◌, ℕ, zero, suc, ◌+◌, ◌<◌, ◌≤◌, Bool, true, false, List, [], ◌∷◌, Option, Some, None, ◌⊎◌, inl, inr, length, refl, sym, ◌∙◌, ap, subst, arith}
use Rattle.std.proofs.lemmas.Bool.{cases_lt}
use Rattle.std.proofs.lemmas.Option.{slice_get_past}
use Rattle.std.proofs.lemmas.Bool.Decides.{nat_tests}
use Rattle.std.specs.Prelude.{◌==◌, nat_le, nat_lt, ◌&&◌, ◌||◌, if◌then◌else◌, IfSome, IsSomeAnd, option_map, option_and_then, slice_get}
use Rattle.style_reader.specs.declared.properties.StyleValue.{StyleValue}
use Rattle.style_reader.specs.declared.rules.Rule.{Rule}
use Rattle.style_cascade.specs.Candidates.{declared_value, last_value}
use Rattle.style_cascade.specs.devices.Indexing.{Covers, IsNotAbove, IsSound, Question, is_weaker, offer_of, rule_offer, with_offer}
use Rattle.style_cascade.specs.devices.Searching.{best_of_rules, best_with_both, greatest_of, value_in}
use Rattle.style_cascade.specs.declared.rows.Found.{Found}
use Rattle.style_cascade.specs.declared.search.Candidate.{Candidate}
use Rattle.style_cascade.proofs.RuleLemmas.{rule-at_once}
use Rattle.style_cascade.proofs.SearchLemmas.{declared-found}

-- ---- one more rule

better-sound : (asked : Question) (t : Bool) (best : Found) (number : ℕ) (offered : Candidate) → offer_of asked best.rule ≡ Some best.candidate → offer_of asked number ≡ Some offered → IsSound asked (Some (if t then record { rule = number; candidate = offered } else best))
better-sound asked true best number offered old new = new
better-sound asked false best number offered old new = old

with_offer-sound : (asked : Question) (best : Option Found) (number : ℕ) (offered : Option Candidate) → offer_of asked number ≡ offered → IsSound asked best → IsSound asked (with_offer best number offered)
with_offer-sound asked best number None e sound = sound
with_offer-sound asked None number (Some offered) e sound = e
with_offer-sound asked (Some best) number (Some offered) e sound = better-sound asked (is_weaker best number offered) best number offered sound e

pub sound-more : (asked : Question) (best : Option Found) (number : ℕ) → IsSound asked best → IsSound asked (with_offer best number (offer_of asked number))
sound-more asked best number sound = with_offer-sound asked best number (offer_of asked number) refl sound

abbrev NotAbove : ℕ → ℕ → ℕ → ℕ → Type 0
NotAbove number specificity rule best = (specificity < best) ⊎ ((specificity ≡ best) × (number ≤ rule))

weaker-not_above : (s n b r : ℕ) → (nat_lt b s || ((b == s) && nat_le r n)) ≡ true → NotAbove r b n s
weaker-not_above s n b r e = grind (arith, nat_tests)

stronger-not_above : (s n b r : ℕ) → (nat_lt b s || ((b == s) && nat_le r n)) ≡ false → NotAbove n s r b
stronger-not_above s n b r e = grind (arith, nat_tests)

through : (n s m t r b : ℕ) → NotAbove n s m t → NotAbove m t r b → NotAbove n s r b
through n s m t r b (inl h) (inl k) = inl (omega (arith, h, k))
through n s m t r b (inl h) (inr k) = inl (omega (arith, h, k.0))
through n s m t r b (inr h) (inl k) = inl (omega (arith, h.0, k))
through n s m t r b (inr h) (inr k) = inr (omega (arith, h.0, k.0), omega (arith, h.1, k.1))

better-kept : (t : Bool) (best : Found) (number : ℕ) (offered : Candidate) → is_weaker best number offered ≡ t → (other : ℕ) (c : Candidate) → IsNotAbove other c best → IsNotAbove other c (if t then record { rule = number; candidate = offered } else best)
better-kept true best number offered e other c h = through other c.specificity best.rule best.candidate.specificity number offered.specificity h (weaker-not_above offered.specificity number best.candidate.specificity best.rule e)
better-kept false best number offered e other c h = h

better-own : (t : Bool) (best : Found) (number : ℕ) (offered : Candidate) → is_weaker best number offered ≡ t → IsNotAbove number offered (if t then record { rule = number; candidate = offered } else best)
better-own true best number offered e = inr (refl, omega arith)
better-own false best number offered e = stronger-not_above offered.specificity number best.candidate.specificity best.rule e

pub offer-kept : (best : Option Found) (number : ℕ) (offered : Option Candidate) (other : ℕ) (c : Candidate) → IsSomeAnd best (IsNotAbove other c) → IsSomeAnd (with_offer best number offered) (IsNotAbove other c)
offer-kept best number None other c h = h
offer-kept None number (Some offered) other c h = absurd h
offer-kept (Some best) number (Some offered) other c h = better-kept (is_weaker best number offered) best number offered refl other c h

covers-by : (o : Option Candidate) (old new : Option Found) (number : ℕ) → ((c : Candidate) → IsSomeAnd old (IsNotAbove number c) → IsSomeAnd new (IsNotAbove number c)) → IfSome o (λ c. IsSomeAnd old (IsNotAbove number c)) → IfSome o (λ c. IsSomeAnd new (IsNotAbove number c))
covers-by None old new number more h = h
covers-by (Some c) old new number more h = more c h

pub covers-more : (asked : Question) (best : Option Found) (number other : ℕ) → Covers asked best other → Covers asked (with_offer best number (offer_of asked number)) other
unfolding Covers
covers-more asked best number other h = covers-by (offer_of asked other) best (with_offer best number (offer_of asked number)) other (λ c k. offer-kept best number (offer_of asked number) other c k) h

pub own-by : (best : Option Found) (number : ℕ) (offered : Option Candidate) → IfSome offered (λ c. IsSomeAnd (with_offer best number offered) (IsNotAbove number c))
own-by best number None = tt
own-by None number (Some offered) = inr (refl, omega arith)
own-by (Some best) number (Some offered) = better-own (is_weaker best number offered) best number offered refl

pub covers-own : (asked : Question) (best : Option Found) (number : ℕ) → Covers asked (with_offer best number (offer_of asked number)) number
unfolding Covers
covers-own asked best number = own-by best number (offer_of asked number)

-- ---- two that cover all are one

abbrev candidate_in : Option Found → Option Candidate
candidate_in best = option_map (λ (f : Found). f.candidate) best

covered-at : (asked : Question) (best : Option Found) (number : ℕ) (c : Candidate) → offer_of asked number ≡ Some c → Covers asked best number → IsSomeAnd best (IsNotAbove number c)
unfolding Covers
covered-at asked best number c e h = subst (λ (o : Option Candidate). IfSome o (λ d. IsSomeAnd best (IsNotAbove number d))) e h

same-rule : (n s r b : ℕ) → NotAbove n s r b → NotAbove r b n s → n ≡ r
same-rule n s r b (inl h) (inl k) = absurd (omega (arith, h, k))
same-rule n s r b (inl h) (inr k) = absurd (omega (arith, h, k.0))
same-rule n s r b (inr h) (inl k) = absurd (omega (arith, h.0, k))
same-rule n s r b (inr h) (inr k) = omega (arith, h.1, k.1)

pub one-best : (asked : Question) (one other : Option Found) → IsSound asked one → IsSound asked other → ((n : ℕ) → Covers asked one n) → ((n : ℕ) → Covers asked other n) → candidate_in one ≡ candidate_in other
one-best asked None None s t c d = refl
one-best asked None (Some other) s t c d = absurd (covered-at asked None other.rule other.candidate t (c other.rule))
one-best asked (Some one) None s t c d = absurd (covered-at asked None one.rule one.candidate s (d one.rule))
one-best asked (Some one) (Some other) s t c d =
    let rule : one.rule ≡ other.rule = same-rule one.rule one.candidate.specificity other.rule other.candidate.specificity (covered-at asked (Some other) one.rule one.candidate s (d one.rule)) (covered-at asked (Some one) other.rule other.candidate t (c other.rule)) in
    sym s ∙ ap (offer_of asked) rule ∙ t

-- ---- all rules in their order

in_order : Question → Option Found → ℕ → List Rule → Option Found
in_order asked best number [] = best
in_order asked best number (rule ∷ more) = in_order asked (with_offer best number (offer_of asked number)) (number + 1) more

order-sound : (asked : Question) (rules : List Rule) (best : Option Found) (number : ℕ) → IsSound asked best → IsSound asked (in_order asked best number rules)
unfolding in_order
order-sound asked [] best number sound = sound
order-sound asked (rule ∷ more) best number sound = order-sound asked more (with_offer best number (offer_of asked number)) (number + 1) (sound-more asked best number sound)

order-kept : (asked : Question) (rules : List Rule) (best : Option Found) (number other : ℕ) → Covers asked best other → Covers asked (in_order asked best number rules) other
unfolding in_order
order-kept asked [] best number other h = h
order-kept asked (rule ∷ more) best number other h = order-kept asked more (with_offer best number (offer_of asked number)) (number + 1) other (covers-more asked best number other h)

order-covers : (asked : Question) (rules : List Rule) (best : Option Found) (number k : ℕ) → k < length rules → Covers asked (in_order asked best number rules) (number + k)
unfolding in_order
order-covers asked [] best number k h = absurd (omega (arith, h))
order-covers asked (rule ∷ more) best number zero h =
    let same : number ≡ number + 0 = omega arith in
    subst (λ (n : ℕ). Covers asked (in_order asked (with_offer best number (offer_of asked number)) (number + 1) more) n) same (order-kept asked more (with_offer best number (offer_of asked number)) (number + 1) number (covers-own asked best number))
order-covers asked (rule ∷ more) best number (suc k) h =
    let same : number + 1 + k ≡ number + suc k = omega arith in
    subst (λ (n : ℕ). Covers asked (in_order asked (with_offer best number (offer_of asked number)) (number + 1) more) n) same (order-covers asked more (with_offer best number (offer_of asked number)) (number + 1) k (omega (arith, h)))

abbrev Before : ℕ → Option Found → Type 0
Before number None = Unit {0}
Before number (Some best) = best.rule ≤ number

later-weaker : (b s r n : ℕ) → r ≤ n → (nat_lt b s || ((b == s) && nat_le r n)) ≡ nat_le b s
later-weaker b s r n h = grind (arith, nat_tests)

choice-candidate : (t u : Bool) (best : Found) (number : ℕ) (offered : Candidate) → t ≡ u → (if t then record { rule = number; candidate = offered } else best).candidate ≡ (if u then offered else best.candidate)
choice-candidate true u best number offered e = ap (λ (w : Bool). if w then offered else best.candidate) e
choice-candidate false u best number offered e = ap (λ (w : Bool). if w then offered else best.candidate) e

offer-value : (best : Option Found) (number : ℕ) (greatest : Option ℕ) (value : Option StyleValue) → Before number best → candidate_in (with_offer best number (best_with_both None greatest value)) ≡ best_with_both (candidate_in best) greatest value
offer-value best number None value h = refl
offer-value best number (Some s) None h = refl
offer-value None number (Some s) (Some value) h = refl
offer-value (Some best) number (Some s) (Some value) h = ap (λ (c : Candidate). Some c) (choice-candidate (is_weaker best number (record { specificity = s; value = value })) (nat_le best.candidate.specificity s) best number (record { specificity = s; value = value }) (later-weaker best.candidate.specificity s best.rule number h))

choice-before : (t : Bool) (best : Found) (number : ℕ) (offered : Candidate) → best.rule ≤ number → (if t then record { rule = number; candidate = offered } else best).rule ≤ number + 1
choice-before true best number offered h = omega arith
choice-before false best number offered h = omega (arith, h)

before-more : (best : Option Found) (number : ℕ) (offered : Option Candidate) → Before number best → Before (number + 1) (with_offer best number offered)
before-more None number None h = tt
before-more (Some best) number None h = omega (arith, h)
before-more None number (Some offered) h = omega arith
before-more (Some best) number (Some offered) h = choice-before (is_weaker best number offered) best number offered h

order-value : (asked : Question) (rules : List Rule) (best : Option Found) (number : ℕ) → ((k : ℕ) → offer_of asked (number + k) ≡ option_and_then (rule_offer asked.subject asked.state asked.property) (slice_get rules k)) → Before number best → candidate_in (in_order asked best number rules) ≡ best_of_rules asked.subject asked.state asked.property (candidate_in best) rules
unfolding in_order
order-value asked [] best number offers h = refl
order-value asked (rule ∷ more) best number offers h =
    let here : offer_of asked number ≡ rule_offer asked.subject asked.state asked.property rule = ap (offer_of asked) (plus_none number) ∙ offers 0 in
    order-value asked more (with_offer best number (offer_of asked number)) (number + 1) (λ k. ap (offer_of asked) (plus_one number k) ∙ offers (suc k)) (before-more best number (offer_of asked number) h)
    ∙ ap (λ (c : Option Candidate). best_of_rules asked.subject asked.state asked.property c more)
    (ap (λ (o : Option Candidate). candidate_in (with_offer best number o)) here
    ∙ offer-value best number (greatest_of asked.subject asked.state None rule.selectors) (last_value asked.property rule.declarations) h
    ∙ sym (rule-at_once asked.subject asked.state asked.property rule.selectors (candidate_in best) rule.declarations))
  where
    plus_none : (n : ℕ) → n ≡ n + 0
    plus_none n = omega arith

    plus_one : (n k : ℕ) → n + 1 + k ≡ n + suc k
    plus_one n k = omega arith

pub offer-past : (asked : Question) (number : ℕ) → length asked.rules ≤ number → (best : Option Found) → Covers asked best number
unfolding Covers offer_of
offer-past asked number h best = subst (λ (o : Option Rule). IfSome (option_and_then (rule_offer asked.subject asked.state asked.property) o) (λ c. IsSomeAnd best (IsNotAbove number c))) (sym (slice_get_past asked.rules number h)) tt

offers-all : (asked : Question) (k : ℕ) → offer_of asked (0 + k) ≡ option_and_then (rule_offer asked.subject asked.state asked.property) (slice_get asked.rules k)
unfolding offer_of
offers-all asked k = ap (λ (n : ℕ). option_and_then (rule_offer asked.subject asked.state asked.property) (slice_get asked.rules n)) (none_plus k)
  where
    none_plus : (n : ℕ) → 0 + n ≡ n
    none_plus n = omega arith

order-all : (asked : Question) (number : ℕ) → Covers asked (in_order asked None 0 asked.rules) number
order-all asked number = elim (cases_lt number (length asked.rules)) [
  | inl h ↦ let same : 0 + number ≡ number = omega arith in subst (λ (n : ℕ). Covers asked (in_order asked None 0 asked.rules) n) same (order-covers asked asked.rules None 0 number h)
  | inr h ↦ offer-past asked number h (in_order asked None 0 asked.rules)
]

value-in : (best : Option Found) → option_map (λ (f : Found). f.candidate.value) best ≡ value_in (candidate_in best)
value-in None = refl
value-in (Some best) = refl

-- what is best of all is what is declared
pub best-declared : (asked : Question) (best : Option Found) → IsSound asked best → ((n : ℕ) → Covers asked best n) → option_map (λ (f : Found). f.candidate.value) best ≡ declared_value asked.rules asked.subject asked.state asked.property
best-declared asked best sound covers =
    value-in best
    ∙ ap value_in (one-best asked best (in_order asked None 0 asked.rules) sound (order-sound asked asked.rules None 0 tt) covers (order-all asked) ∙ order-value asked asked.rules None 0 (offers-all asked) tt)
    ∙ declared-found asked.rules asked.subject asked.state asked.property
