-- What an inline text gives.
use Rattle.std.proofs.Common.{◌≡◌, ℕ, Bool, true, false, List, [], ◌∷◌, Option, Some, None, refl, sym, ◌∙◌, ap, arith}
use Rattle.std.specs.Prelude.{nat_le, if◌then◌else◌}
use Rattle.std.specs.Option.{option_or}
use Rattle.style_reader.specs.Rules.{any_element}
use Rattle.style_reader.specs.Selectors.{specificity}
use Rattle.style_reader.specs.declared.declarations.Declaration.{Declaration}
use Rattle.style_reader.specs.declared.properties.Property.{Property}
use Rattle.style_reader.specs.declared.properties.StyleValue.{StyleValue}
use Rattle.style_reader.specs.declared.rules.Rule.{Rule}
use Rattle.style_cascade.specs.Candidates.{declared_value, inline_rules, inline_value, is_same_property, last_value}
use Rattle.style_cascade.specs.Matching.{matches}
use Rattle.style_cascade.specs.devices.Searching.{best_of_declarations, best_with, best_with_declaration, candidate, stronger_candidate, value_in}
use Rattle.style_cascade.specs.declared.search.Candidate.{Candidate}
use Rattle.style_cascade.specs.declared.states.State.{State}
use Rattle.style_cascade.specs.declared.subjects.Subject.{Subject}
use Rattle.style_cascade.proofs.SearchLemmas.{declared-found}

-- `*` matches each element, and is the least specific
any-matches : (subject : Subject) (state : State) → matches any_element subject state ≡ true
unfolding matches
any-matches subject state = refl

any-least : specificity any_element ≡ 0
unfolding specificity
any-least = refl

abbrev given_any : StyleValue → Candidate
given_any value = candidate any_element value

-- the best of what is given to `*` alone
abbrev best_any : Option StyleValue → Option Candidate
best_any None = None
best_any (Some value) = Some (given_any value)

value-any : (given : Option StyleValue) → value_in (best_any given) ≡ given
value-any None = refl
value-any (Some value) = refl

le-self : (n : ℕ) → nat_le n n ≡ true
le-self n = grind (arith)

later-any : (given : Option StyleValue) (value : StyleValue) → stronger_candidate (best_any given) (given_any value) ≡ given_any value
later-any None value = refl
later-any (Some before) value = ap (λ (t : Bool). if t then given_any value else given_any before) (le-self (specificity any_element))

with-any : (subject : Subject) (state : State) (given : Option StyleValue) (value : StyleValue) → best_with subject state value (best_any given) any_element ≡ best_any (Some value)
unfolding best_with
with-any subject state given value =
    ap (λ (t : Bool). if t then Some (stronger_candidate (best_any given) (given_any value)) else best_any given) (any-matches subject state)
    ∙ ap (λ (c : Candidate). Some c) (later-any given value)

abbrev given_by_one : Property → Option StyleValue → Declaration → Option StyleValue
given_by_one property given declaration = if is_same_property declaration.property property then Some declaration.value else given

declaration-any : (subject : Subject) (state : State) (property : Property) (given : Option StyleValue) (declaration : Declaration) → best_with_declaration subject state property (any_element ∷ []) (best_any given) declaration ≡ best_any (given_by_one property given declaration)
unfolding best_with_declaration
declaration-any subject state property given declaration = by (is_same_property declaration.property property)
  where
    by : (t : Bool) → (if t then best_with subject state declaration.value (best_any given) any_element else best_any given) ≡ best_any (if t then Some declaration.value else given)
    by true = with-any subject state given declaration.value
    by false = refl

or-through : (last given : Option StyleValue) (t : Bool) (value : StyleValue) → option_or last (if t then Some value else given) ≡ option_or (option_or last (if t then Some value else None)) given
or-through (Some last) given t value = refl
or-through None given true value = refl
or-through None given false value = refl

declarations-any : (subject : Subject) (state : State) (property : Property) (declarations : List Declaration) (given : Option StyleValue) → value_in (best_of_declarations subject state property (any_element ∷ []) (best_any given) declarations) ≡ option_or (last_value property declarations) given
declarations-any subject state property [] given = value-any given
declarations-any subject state property (declaration ∷ more) given =
    ap (λ (b : Option Candidate). value_in (best_of_declarations subject state property (any_element ∷ []) b more)) (declaration-any subject state property given declaration)
    ∙ declarations-any subject state property more (given_by_one property given declaration)
    ∙ or-through (last_value property more) given (is_same_property declaration.property property) declaration.value

or-none : (o : Option StyleValue) → option_or o None ≡ o
or-none None = refl
or-none (Some value) = refl

pub inline-last : (subject : Subject) (state : State) (property : Property) (declarations : List Declaration) → inline_rules subject ≡ record { selectors = any_element ∷ []; declarations = declarations } ∷ [] → inline_value subject state property ≡ last_value property declarations
inline-last subject state property declarations e =
    ap (λ (rules : List Rule). declared_value rules subject state property) e
    ∙ sym (declared-found (record { selectors = any_element ∷ []; declarations = declarations } ∷ []) subject state property)
    ∙ declarations-any subject state property declarations None
    ∙ or-none (last_value property declarations)
