-- A device of the proofs: for each selector the rules that give something which later ones don't.
use Rattle.std.specs.Prelude.{◌≡◌, ℕ, ◌≤◌, ◌⊎◌, true, List, [], Option, Some, None, Contains, is_some, option_and_then, slice_get}
use Rattle.std.specs.HashMap.{HashMap, get}
use Rattle.style_reader.specs.declared.declarations.Declaration.{Declaration}
use Rattle.style_reader.specs.declared.properties.Property.{Property}
use Rattle.style_reader.specs.declared.properties.StyleValue.{StyleValue}
use Rattle.style_reader.specs.declared.rules.Rule.{Rule}
use Rattle.style_reader.specs.declared.selectors.Selector.{Selector}
use Rattle.style_cascade.specs.Candidates.{last_value}
use Rattle.style_cascade.specs.devices.Keys.{HasKey, IsKeyOf, is_among, same_key}
use Rattle.style_cascade.specs.declared.chains.Chain.{Chain}
use Rattle.style_cascade.specs.declared.keys.Key.{Key}

-- ---- what rules give

-- what the rule of this number gives
abbrev pub value_in : List Rule → ℕ → Property → Option StyleValue
value_in rules number property =
    option_and_then (λ rule. last_value property rule.declarations) (slice_get rules number)

abbrev pub given_value : List (List Declaration) → ℕ → Property → Option StyleValue
given_value given number property = option_and_then (last_value property) (slice_get given number)

abbrev pub IsGiving : List (List Declaration) → ℕ → Property → Type 0
IsGiving given number property = is_some (given_value given number property) ≡ true

-- one of the rules gives the property
pub record GivesIn (given : List (List Declaration)) (rules : List ℕ) (property : Property) : Type 0 where
  pub rule : ℕ
  pub among : is_among rule rules ≡ true
  pub gives : IsGiving given rule property

-- one of the rules that isn't before that of this number gives the property
pub record GivesSome (given : List (List Declaration)) (rules : List ℕ) (number : ℕ) (property : Property) : Type 0 where
  pub rule : ℕ
  pub among : is_among rule rules ≡ true
  pub later : number ≤ rule
  pub gives : IsGiving given rule property

-- ---- chains

abbrev pub rules_in : Option Chain → List ℕ
rules_in None = []
rules_in (Some chain) = chain.rules.items

abbrev pub chain_at : {S : Type 0} → HashMap Key Chain S → Key → List ℕ
chain_at chains key = rules_in (get same_key chains key)

-- the chain once the rule came
pub record Notes (given : List (List Declaration)) (rules : List ℕ) (number : ℕ) (more : List ℕ) : Type 0 where
  pub kept : (other : ℕ) → is_among other rules ≡ true → is_among other more ≡ true
  pub only : (other : ℕ) → is_among other more ≡ true → (is_among other rules ≡ true) ⊎ (other ≡ number)
  pub gives : (property : Property) → IsGiving given number property → GivesIn given more property

-- the rule was the last one that was noted for the selector
abbrev pub HasSeen : {S : Type 0} → HashMap Key Chain S → Key → ℕ → Type 0
HasSeen chains key number =
    (chain : Chain) × (get same_key chains key ≡ Some chain) × (chain.seen ≡ number)

-- the rules of the chain are none before that of this number, and what the one that was noted last
-- gives is given by them
pub record IsSeen (given : List (List Declaration)) (number : ℕ) (chain : Chain) : Type 0 where
  pub from : (other : ℕ) → is_among other chain.rules.items ≡ true → number ≤ other
  pub gives : (property : Property) → IsGiving given chain.seen property →
      GivesSome given chain.rules.items chain.seen property

abbrev pub AreSeen : {S : Type 0} → List (List Declaration) → ℕ → HashMap Key Chain S → Type 0
AreSeen given number chains =
    (key : Key) (chain : Chain) → get same_key chains key ≡ Some chain → IsSeen given number chain

abbrev pub KeepsChains : {S T : Type 0} → HashMap Key Chain S → HashMap Key Chain T → Type 0
KeepsChains before after =
    (key : Key) (number : ℕ) → is_among number (chain_at before key) ≡ true
    → is_among number (chain_at after key) ≡ true

-- what the rule of this number gives is given by the chain of its selector
pub record IsNoted {S : Type 0} (names : List (List ℕ)) (given : List (List Declaration)) (number : ℕ) (chains : HashMap Key Chain S) (selector : Selector) : Type 0 where
  pub key : Key
  pub key_is : IsKeyOf names key selector
  pub gives : (property : Property) → IsGiving given number property →
      GivesSome given (chain_at chains key) number property

-- the rule of this number has a selector with this key
pub record HasRule (names : List (List ℕ)) (rules : List Rule) (key : Key) (number : ℕ) : Type 0 where
  pub rule : Rule
  pub found : slice_get rules number ≡ Some rule
  pub has : HasKey names key rule.selectors

-- the chains are those of these rules
pub record AreNoted {S : Type 0} (rules : List Rule) (names : List (List ℕ)) (given : List (List Declaration)) (chains : HashMap Key Chain S) : Type 0 where
  pub values : (number : ℕ) (property : Property) →
      given_value given number property ≡ value_in rules number property
  pub only : (key : Key) (number : ℕ) → is_among number (chain_at chains key) ≡ true →
      HasRule names rules key number
  pub noted : (number : ℕ) (rule : Rule) (selector : Selector) →
      slice_get rules number ≡ Some rule → Contains rule.selectors selector →
      IsNoted names given number chains selector
