-- A device of the proofs: the best of some rules, which are offered in any order.
use Rattle.std.specs.Prelude.{◌≡◌, ℕ, ◌<◌, ◌≤◌, ◌⊎◌, ◌==◌, nat_lt, nat_le, Bool, true, ◌&&◌, ◌||◌, List, Option, Some, None, Contains, IfSome, IsSomeAnd, option_and_then, slice_get, if◌then◌else◌}
use Rattle.style_reader.specs.Selectors.{specificity}
use Rattle.style_reader.specs.declared.declarations.Declaration.{Declaration}
use Rattle.style_reader.specs.declared.properties.Property.{Property}
use Rattle.style_reader.specs.declared.properties.StyleValue.{StyleValue}
use Rattle.style_reader.specs.declared.rules.Rule.{Rule}
use Rattle.style_reader.specs.declared.selectors.Selector.{Selector}
use Rattle.style_cascade.specs.Candidates.{last_value}
use Rattle.style_cascade.specs.Matching.{matches}
use Rattle.style_cascade.specs.devices.Chains.{given_value}
use Rattle.style_cascade.specs.devices.Keys.{is_among}
use Rattle.style_cascade.specs.devices.Searching.{best_with_both, greatest_of}
use Rattle.style_cascade.specs.declared.rows.Found.{Found}
use Rattle.style_cascade.specs.declared.search.Candidate.{Candidate}
use Rattle.style_cascade.specs.declared.states.State.{State}
use Rattle.style_cascade.specs.declared.subjects.Subject.{Subject}

-- ---- the best of some rules

-- what is asked
pub record Question : Type 0 where
  pub rules : List Rule
  pub subject : Subject
  pub state : State
  pub property : Property

abbrev pub question : List Rule → Subject → State → Property → Question
question rules subject state property = record { rules = rules; subject = subject; state = state; property = property }

-- what a rule gives
abbrev pub rule_offer : Subject → State → Property → Rule → Option Candidate
rule_offer subject state property rule =
    best_with_both None (greatest_of subject state None rule.selectors)
    (last_value property rule.declarations)

unfoldable pub offer_of : Question → ℕ → Option Candidate
offer_of asked number =
    option_and_then (rule_offer asked.subject asked.state asked.property)
    (slice_get asked.rules number)

-- the best is what its rule gives
abbrev pub IsSound : Question → Option Found → Type 0
IsSound asked best = IfSome best (λ found. offer_of asked found.rule ≡ Some found.candidate)

abbrev pub IsNotAbove : ℕ → Candidate → Found → Type 0
IsNotAbove number offered best =
    (offered.specificity < best.candidate.specificity)
    ⊎ ((offered.specificity ≡ best.candidate.specificity) × (number ≤ best.rule))

-- the best is no weaker than what the rule of this number gives, if it gives something
unfoldable pub Covers : Question → Option Found → ℕ → Type 0
Covers asked best number =
    IfSome (offer_of asked number) (λ offered. IsSomeAnd best (IsNotAbove number offered))

-- the best is weaker than what the rule gives, or no stronger and earlier
abbrev pub is_weaker : Found → ℕ → Candidate → Bool
is_weaker best number offered =
    nat_lt best.candidate.specificity offered.specificity
    || ((best.candidate.specificity == offered.specificity) && nat_le best.rule number)

-- the best once a rule came
abbrev pub better_of : Option Found → ℕ → Candidate → Found
better_of None number offered = record { rule = number; candidate = offered }
better_of (Some best) number offered =
    if is_weaker best number offered
    then record { rule = number; candidate = offered } else best

abbrev pub with_offer : Option Found → ℕ → Option Candidate → Option Found
with_offer best number None = best
with_offer best number (Some offered) = Some (better_of best number offered)

abbrev pub found_value : Option Found → Option StyleValue
found_value None = None
found_value (Some best) = Some best.candidate.value

-- ---- the best of what some selectors are given

-- the best is what its rule gives to one of its selectors that match
pub record IsGiven (asked : Question) (best : Found) : Type 0 where
  pub rule : Rule
  pub found : slice_get asked.rules best.rule ≡ Some rule
  pub selector : Selector
  pub among : Contains rule.selectors selector
  pub matching : matches selector asked.subject asked.state ≡ true
  pub specificity_is : specificity selector ≡ best.candidate.specificity
  pub value_is : last_value asked.property rule.declarations ≡ Some best.candidate.value

-- the best is what one of the rules gives to a selector as specific as this
pub record IsFrom (given : List (List Declaration)) (rules : List ℕ) (specificity : ℕ) (property : Property) (best : Found) : Type 0 where
  pub among : is_among best.rule rules ≡ true
  pub specificity_is : best.candidate.specificity ≡ specificity
  pub value_is : given_value given best.rule property ≡ Some best.candidate.value
