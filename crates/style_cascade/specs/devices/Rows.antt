-- A device of the proofs: the best of some rules for each state and property at once.
use Rattle.std.specs.Prelude.{◌≡◌, ℕ, ◌⊎◌, true, List, Option, Some, IfSome, IsSomeAnd, slice_get}
use Rattle.std.specs.HashMap.{HashMap}
use Rattle.std.specs.Option.{option_flatten, option_or}
use Rattle.style_reader.specs.declared.declarations.Declaration.{Declaration}
use Rattle.style_reader.specs.declared.properties.Property.{Property}
use Rattle.style_reader.specs.declared.properties.StyleValue.{StyleValue}
use Rattle.style_reader.specs.declared.rules.Rule.{Rule}
use Rattle.style_cascade.specs.devices.Chains.{chain_at, given_value}
use Rattle.style_cascade.specs.devices.Indexing.{IsFrom, IsGiven, IsNotAbove, found_value, question}
use Rattle.style_cascade.specs.devices.Keys.{is_among, is_for_when, key_specificity, key_with}
use Rattle.style_cascade.specs.devices.Tables.{cell_place}
use Rattle.style_cascade.specs.declared.chains.Chain.{Chain}
use Rattle.style_cascade.specs.declared.keys.Asked.{Asked}
use Rattle.style_cascade.specs.declared.keys.Key.{Key}
use Rattle.style_cascade.specs.declared.keys.When.{When}
use Rattle.style_cascade.specs.declared.rows.Found.{Found}
use Rattle.style_cascade.specs.declared.said.Said.{Said}
use Rattle.style_cascade.specs.declared.search.Candidate.{Candidate}
use Rattle.style_cascade.specs.declared.states.State.{State}
use Rattle.style_cascade.specs.declared.subjects.Subject.{Subject}

-- a row has the places of the first node of a table
unfoldable pub found_in : List (Option Found) → State → Property → Option Found
found_in row state property = option_flatten (slice_get row (cell_place 0 state property))

abbrev pub value_at : List (Option Found) → State → Property → Option StyleValue
value_at row state property = found_value (found_in row state property)

-- what is said by the best of the inline declarations and of the rules
abbrev pub said_in : Said → State → Property → Option StyleValue
said_in said state property =
    option_or (value_at said.inline state property) (value_at said.declared state property)

-- ---- the relations of the best, for each state and property

-- what was no weaker than something is so still
abbrev pub KeepsEach : List (Option Found) → List (Option Found) → Type 0
KeepsEach before after =
    (state : State) (property : Property) (number : ℕ) (offered : Candidate)
    → IsSomeAnd (found_in before state property) (IsNotAbove number offered)
    → IsSomeAnd (found_in after state property) (IsNotAbove number offered)

-- each is what a rule gives to a selector that matches
abbrev pub AreSound : List Rule → Subject → List (Option Found) → Type 0
AreSound rules subject row =
    (state : State) (property : Property)
    → IfSome (found_in row state property) (IsGiven (question rules subject state property))

-- each is as it was, or, in this state, what one of the rules gives
abbrev pub Changes : List (List Declaration) → List ℕ → ℕ → State → List (Option Found) → List (Option Found) → Type 0
Changes given rules specificity state before after =
    (at : State) (property : Property)
    → (found_in after at property ≡ found_in before at property)
    ⊎ ((at ≡ state)
    × IsSomeAnd (found_in after at property) (IsFrom given rules specificity property))

-- none is weaker than what one of the rules gives to a selector as specific as this
abbrev pub CoversRules : List (List Declaration) → List ℕ → ℕ → State → List (Option Found) → Type 0
CoversRules given rules specificity state row =
    (number : ℕ) (property : Property) (value : StyleValue) → is_among number rules ≡ true
    → given_value given number property ≡ Some value
    → IsSomeAnd (found_in row state property)
    (IsNotAbove number (record { specificity = specificity; value = value }))

-- the rules of the selector's chain
abbrev pub CoversKey : {S : Type 0} → List (List Declaration) → HashMap Key Chain S → List (Option Found) → State → Key → Type 0
CoversKey given chains row state key =
    CoversRules given (chain_at chains key) (key_specificity key) state row

-- those of the chains of all selectors that ask so
abbrev pub CoversAsked : {S : Type 0} → List (List Declaration) → HashMap Key Chain S → List (Option Found) → Asked → Type 0
CoversAsked given chains row asked =
    (when : When) (state : State) → is_for_when when state ≡ true
    → CoversKey given chains row state (key_with asked when)
