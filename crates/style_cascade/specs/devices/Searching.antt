-- A device of the proofs: the search of all rules, step by step.
use Rattle.std.specs.Prelude.{ℕ, nat_le, List, [], ◌∷◌, Option, Some, None, if◌then◌else◌}
use Rattle.style_reader.specs.Selectors.{specificity}
use Rattle.style_reader.specs.declared.declarations.Declaration.{Declaration}
use Rattle.style_reader.specs.declared.properties.Property.{Property}
use Rattle.style_reader.specs.declared.properties.StyleValue.{StyleValue}
use Rattle.style_reader.specs.declared.rules.Rule.{Rule}
use Rattle.style_reader.specs.declared.selectors.Selector.{Selector}
use Rattle.style_cascade.specs.Candidates.{is_same_property}
use Rattle.style_cascade.specs.Matching.{matches}
use Rattle.style_cascade.specs.declared.search.Candidate.{Candidate}
use Rattle.style_cascade.specs.declared.states.State.{State}
use Rattle.style_cascade.specs.declared.subjects.Subject.{Subject}

abbrev pub candidate : Selector → StyleValue → Candidate
candidate selector value = record { specificity = specificity selector; value = value }

abbrev pub value_in : Option Candidate → Option StyleValue
value_in None = None
value_in (Some best) = Some best.value

abbrev pub stronger_candidate : Option Candidate → Candidate → Candidate
stronger_candidate None later = later
stronger_candidate (Some best) later =
    if nat_le best.specificity later.specificity then later else best

-- the best once a selector is given the value
unfoldable pub best_with : Subject → State → StyleValue → Option Candidate → Selector → Option Candidate
best_with subject state value best selector =
    if matches selector subject state
    then Some (stronger_candidate best (candidate selector value)) else best

abbrev pub best_of_selectors : Subject → State → StyleValue → Option Candidate → List Selector → Option Candidate
best_of_selectors subject state value best [] = best
best_of_selectors subject state value best (selector ∷ more) =
    best_of_selectors subject state value (best_with subject state value best selector) more

-- the best once the selectors are given a declaration
unfoldable pub best_with_declaration : Subject → State → Property → List Selector → Option Candidate → Declaration → Option Candidate
best_with_declaration subject state property selectors best declaration =
    if is_same_property declaration.property property
    then best_of_selectors subject state declaration.value best selectors else best

abbrev pub best_of_declarations : Subject → State → Property → List Selector → Option Candidate → List Declaration → Option Candidate
best_of_declarations subject state property selectors best [] = best
best_of_declarations subject state property selectors best (declaration ∷ more) =
    best_of_declarations subject state property selectors
    (best_with_declaration subject state property selectors best declaration) more

abbrev pub best_of_rules : Subject → State → Property → Option Candidate → List Rule → Option Candidate
best_of_rules subject state property best [] = best
best_of_rules subject state property best (rule ∷ more) =
    best_of_rules subject state property
    (best_of_declarations subject state property rule.selectors best rule.declarations) more

-- ---- a rule at once

abbrev pub greater_of : Option ℕ → ℕ → ℕ
greater_of None later = later
greater_of (Some before) later = if nat_le before later then later else before

-- the greatest specificity once a selector came
unfoldable pub greatest_with : Subject → State → Option ℕ → Selector → Option ℕ
greatest_with subject state before selector =
    if matches selector subject state
    then Some (greater_of before (specificity selector)) else before

-- the greatest specificity of the selectors that match
abbrev pub greatest_of : Subject → State → Option ℕ → List Selector → Option ℕ
greatest_of subject state before [] = before
greatest_of subject state before (selector ∷ more) =
    greatest_of subject state (greatest_with subject state before selector) more

abbrev pub best_with_both : Option Candidate → Option ℕ → Option StyleValue → Option Candidate
best_with_both before None value = before
best_with_both before (Some specificity) None = before
best_with_both before (Some specificity) (Some value) =
    Some (stronger_candidate before (record { specificity = specificity; value = value }))
