-- What the search finds fits its property.
use Rattle.std.proofs.Common.{◌≡◌, Bool, true, false, List, [], ◌∷◌, Option, Some, None, refl, subst}
use Rattle.std.proofs.lemmas.Bool.{and_parts, eqb-true}
use Rattle.std.specs.Prelude.{nat_le, unwrap_or, IfSome, IsTrue, if◌then◌else◌}
use Rattle.std.specs.List.{list_all}
use Rattle.style_reader.specs.Rules.{AreFitting, is_fitting}
use Rattle.style_reader.specs.Properties.{initial_of}
use Rattle.style_reader.specs.Values.{fits}
use Rattle.style_reader.specs.declared.declarations.Declaration.{Declaration}
use Rattle.style_reader.specs.declared.properties.Property.{Property}
use Rattle.style_reader.specs.declared.properties.Property.TheVariants.{Left, Top, Width, Height, Visibility, ZIndex, NavIndex, NavUp, NavDown, NavLeft, NavRight, UsedKeyList, ColorIndex, BackgroundColorIndex, BorderWidth, BorderColorIndex, FontSize}
use Rattle.style_reader.specs.declared.properties.StyleValue.{StyleValue}
use Rattle.style_reader.specs.declared.rules.Rule.{Rule}
use Rattle.style_reader.specs.declared.selectors.Selector.{Selector}
use Rattle.style_cascade.specs.Candidates.{is_same_property, property_place}
use Rattle.style_cascade.specs.Matching.{matches}
use Rattle.style_cascade.specs.devices.Searching.{best_of_declarations, best_of_rules, best_of_selectors, best_with, best_with_declaration, candidate, stronger_candidate, value_in}
use Rattle.style_cascade.specs.declared.search.Candidate.{Candidate}
use Rattle.style_cascade.specs.declared.states.State.{State}
use Rattle.style_cascade.specs.declared.subjects.Subject.{Subject}
use Rattle.style_cascade.proofs.PlaceLemmas.{property_place-one}

abbrev pub Fits : Property → Option Candidate → Type 0
Fits property best = IfSome best (λ c. IsTrue (fits property c.value))

choice-fits : (t : Bool) (property : Property) (best later : Candidate) → IsTrue (fits property best.value) → IsTrue (fits property later.value) → IsTrue (fits property (if t then later else best).value)
choice-fits true property best later h k = k
choice-fits false property best later h k = h

stronger-fits : (property : Property) (best : Option Candidate) (later : Candidate) → Fits property best → IsTrue (fits property later.value) → IsTrue (fits property (stronger_candidate best later).value)
stronger-fits property None later h k = k
stronger-fits property (Some best) later h k = choice-fits (nat_le best.specificity later.specificity) property best later h k

with-fits : (t : Bool) (property : Property) (best : Option Candidate) (later : Candidate) → Fits property best → IsTrue (fits property later.value) → Fits property (if t then Some (stronger_candidate best later) else best)
with-fits true property best later h k = stronger-fits property best later h k
with-fits false property best later h k = h

best_with-fits : (subject : Subject) (state : State) (property : Property) (value : StyleValue) (best : Option Candidate) (selector : Selector) → Fits property best → IsTrue (fits property value) → Fits property (best_with subject state value best selector)
unfolding best_with
best_with-fits subject state property value best selector h k = with-fits (matches selector subject state) property best (candidate selector value) h k

selectors-fit : (subject : Subject) (state : State) (property : Property) (value : StyleValue) (best : Option Candidate) (selectors : List Selector) → Fits property best → IsTrue (fits property value) → Fits property (best_of_selectors subject state value best selectors)
selectors-fit subject state property value best [] h k = h
selectors-fit subject state property value best (selector ∷ more) h k = selectors-fit subject state property value (best_with subject state value best selector) more (best_with-fits subject state property value best selector h k) k

given-fits : (property : Property) (declaration : Declaration) → is_same_property declaration.property property ≡ true → is_fitting declaration ≡ true → IsTrue (fits property declaration.value)
given-fits property declaration same ok = subst (λ (p : Property). IsTrue (fits p declaration.value)) (property_place-one declaration.property property (eqb-true (property_place declaration.property) (property_place property) same)) ok

declaration-fits : (subject : Subject) (state : State) (property : Property) (selectors : List Selector) (best : Option Candidate) (declaration : Declaration) → Fits property best → is_fitting declaration ≡ true → Fits property (best_with_declaration subject state property selectors best declaration)
unfolding best_with_declaration
declaration-fits subject state property selectors best declaration h ok = by (is_same_property declaration.property property) refl
  where
    by : (t : Bool) → is_same_property declaration.property property ≡ t → Fits property (if t then best_of_selectors subject state declaration.value best selectors else best)
    by true e = selectors-fit subject state property declaration.value best selectors h (given-fits property declaration e ok)
    by false e = h

declarations-fit : (subject : Subject) (state : State) (property : Property) (selectors : List Selector) (best : Option Candidate) (declarations : List Declaration) → Fits property best → list_all is_fitting declarations ≡ true → Fits property (best_of_declarations subject state property selectors best declarations)
declarations-fit subject state property selectors best [] h ok = h
declarations-fit subject state property selectors best (declaration ∷ more) h ok =
    let parts = and_parts (is_fitting declaration) (list_all is_fitting more) ok in
    declarations-fit subject state property selectors (best_with_declaration subject state property selectors best declaration) more (declaration-fits subject state property selectors best declaration h parts.0) parts.1

pub rules-fit : (subject : Subject) (state : State) (property : Property) (best : Option Candidate) (rules : List Rule) → Fits property best → AreFitting rules → Fits property (best_of_rules subject state property best rules)
rules-fit subject state property best [] h ok = h
rules-fit subject state property best (rule ∷ more) h ok =
    let parts = and_parts (list_all is_fitting rule.declarations) (list_all (λ (r : Rule). list_all is_fitting r.declarations) more) ok in
    rules-fit subject state property (best_of_declarations subject state property rule.selectors best rule.declarations) more (declarations-fit subject state property rule.selectors best rule.declarations h parts.0) parts.1

pub value-fits : (property : Property) (best : Option Candidate) → Fits property best → IfSome (value_in best) (λ value. IsTrue (fits property value))
value-fits property None h = tt
value-fits property (Some best) h = h

pub unwrap-fits : (property : Property) (found : Option StyleValue) (value : StyleValue) → IfSome found (λ v. IsTrue (fits property v)) → IsTrue (fits property value) → IsTrue (fits property (unwrap_or found value))
unwrap-fits property None value h k = k
unwrap-fits property (Some found) value h k = h

-- the initial values fit
pub initial-fits : (property : Property) → IsTrue (fits property (initial_of property))
unfolding fits
initial-fits Left = refl
initial-fits Top = refl
initial-fits Width = refl
initial-fits Height = refl
initial-fits Visibility = refl
initial-fits ZIndex = refl
initial-fits NavIndex = refl
initial-fits NavUp = refl
initial-fits NavDown = refl
initial-fits NavLeft = refl
initial-fits NavRight = refl
initial-fits UsedKeyList = refl
initial-fits ColorIndex = refl
initial-fits BackgroundColorIndex = refl
initial-fits BorderWidth = refl
initial-fits BorderColorIndex = refl
initial-fits FontSize = refl
