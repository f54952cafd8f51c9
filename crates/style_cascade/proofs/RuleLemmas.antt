-- A rule taken at once: of its declarations of a property the last one counts, given to the most
-- specific of its selectors that match.
use Rattle.std.proofs.Common.{◌≡◌, ℕ, ◌<◌, ◌≤◌, Bool, true, false, List, [], ◌∷◌, Option, Some, None, refl, sym, ◌∙◌, ap, arith}
use Rattle.std.proofs.lemmas.Bool.{le-leb, lt-leb, leb-true, leb-false}
use Rattle.std.specs.Prelude.{nat_le, if◌then◌else◌}
use Rattle.std.specs.Option.{option_or}
use Rattle.style_reader.specs.Selectors.{specificity}
use Rattle.style_reader.specs.declared.declarations.Declaration.{Declaration}
use Rattle.style_reader.specs.declared.properties.Property.{Property}
use Rattle.style_reader.specs.declared.properties.StyleValue.{StyleValue}
use Rattle.style_reader.specs.declared.selectors.Selector.{Selector}
use Rattle.style_cascade.specs.Candidates.{is_same_property, last_value}
use Rattle.style_cascade.specs.Matching.{matches}
use Rattle.style_cascade.specs.devices.Searching.{best_of_declarations, best_of_selectors, best_with, best_with_both, best_with_declaration, candidate, greater_of, greatest_of, greatest_with, stronger_candidate}
use Rattle.style_cascade.specs.declared.search.Candidate.{Candidate}
use Rattle.style_cascade.specs.declared.states.State.{State}
use Rattle.style_cascade.specs.declared.subjects.Subject.{Subject}

abbrev given : ℕ → StyleValue → Candidate
given specificity value = record { specificity = specificity; value = value }

abbrev stronger : Option Candidate → ℕ → StyleValue → Candidate
stronger best specificity value = stronger_candidate best (given specificity value)

le-self : (n : ℕ) → nat_le n n ≡ true
le-self n = le-leb n n (omega arith)

-- ---- twice at once

twice-none : (t : Bool) (b n : ℕ) (v : StyleValue) → nat_le b n ≡ t → (if t then given n v else given b v) ≡ given (if t then n else b) v
twice-none true b n v e = refl
twice-none false b n v e = refl

-- the better of a best and of two of one value is that of the best and of the greater of them
twice-some : (c : Candidate) (b n : ℕ) (v : StyleValue) (s t u : Bool) → nat_le c.specificity b ≡ s → nat_le b n ≡ t → nat_le c.specificity n ≡ u → (if nat_le (if s then given b v else c).specificity n then given n v else (if s then given b v else c)) ≡ (if nat_le c.specificity (if t then n else b) then given (if t then n else b) v else c)
twice-some c b n v true true u es et eu =
    let le : c.specificity ≤ n = omega (arith, leb-true c.specificity b es, leb-true b n et) in
    ap (λ (w : Bool). if w then given n v else given b v) et ∙ sym (ap (λ (w : Bool). if w then given n v else c) (le-leb c.specificity n le))
twice-some c b n v true false u es et eu =
    ap (λ (w : Bool). if w then given n v else given b v) et ∙ sym (ap (λ (w : Bool). if w then given b v else c) es)
twice-some c b n v false true u es et eu = refl
twice-some c b n v false false u es et eu =
    let above : n < c.specificity = omega (arith, leb-false c.specificity b es, leb-false b n et) in
    ap (λ (w : Bool). if w then given n v else c) (lt-leb c.specificity n above) ∙ sym (ap (λ (w : Bool). if w then given b v else c) es)

twice : (best : Option Candidate) (b n : ℕ) (v : StyleValue) → stronger (Some (stronger best b v)) n v ≡ stronger best (greater_of (Some b) n) v
twice None b n v = twice-none (nat_le b n) b n v refl
twice (Some c) b n v = twice-some c b n v (nat_le c.specificity b) (nat_le b n) (nat_le c.specificity n) refl refl refl

-- ---- the selectors

with-selector : (subject : Subject) (state : State) (value : StyleValue) (best : Option Candidate) (greatest : Option ℕ) (selector : Selector) → best_with subject state value (best_with_both best greatest (Some value)) selector ≡ best_with_both best (greatest_with subject state greatest selector) (Some value)
unfolding best_with greatest_with
with-selector subject state value best greatest selector = by (matches selector subject state) greatest
  where
    by : (t : Bool) (g : Option ℕ) → (if t then Some (stronger_candidate (best_with_both best g (Some value)) (candidate selector value)) else best_with_both best g (Some value)) ≡ best_with_both best (if t then Some (greater_of g (specificity selector)) else g) (Some value)
    by false g = refl
    by true None = refl
    by true (Some b) = ap (λ (c : Candidate). Some c) (twice best b (specificity selector) value)

selectors-at_once : (subject : Subject) (state : State) (value : StyleValue) (selectors : List Selector) (best : Option Candidate) (greatest : Option ℕ) → best_of_selectors subject state value (best_with_both best greatest (Some value)) selectors ≡ best_with_both best (greatest_of subject state greatest selectors) (Some value)
selectors-at_once subject state value [] best greatest = refl
selectors-at_once subject state value (selector ∷ more) best greatest =
    ap (λ (b : Option Candidate). best_of_selectors subject state value b more) (with-selector subject state value best greatest selector)
    ∙ selectors-at_once subject state value more best (greatest_with subject state greatest selector)

-- ---- the declarations

again-some : (c : Candidate) (m : ℕ) (v w : StyleValue) (t : Bool) → nat_le c.specificity m ≡ t → (if nat_le (if t then given m v else c).specificity m then given m w else (if t then given m v else c)) ≡ (if t then given m w else c)
again-some c m v w true e = ap (λ (t : Bool). if t then given m w else given m v) (le-self m)
again-some c m v w false e = ap (λ (t : Bool). if t then given m w else c) e

again : (best : Option Candidate) (m : ℕ) (v w : StyleValue) → stronger (Some (stronger best m v)) m w ≡ stronger best m w
again None m v w = ap (λ (t : Bool). if t then given m w else given m v) (le-self m)
again (Some c) m v w = again-some c m v w (nat_le c.specificity m) refl

later-counts : (best : Option Candidate) (greatest : Option ℕ) (before : Option StyleValue) (value : StyleValue) → best_with_both (best_with_both best greatest before) greatest (Some value) ≡ best_with_both best greatest (Some value)
later-counts best None before value = refl
later-counts best (Some m) None value = refl
later-counts best (Some m) (Some before) value = ap (λ (c : Candidate). Some c) (again best m before value)

abbrev last_with : Property → Option StyleValue → Declaration → Option StyleValue
last_with property before declaration = if is_same_property declaration.property property then Some declaration.value else before

with-declaration : (subject : Subject) (state : State) (property : Property) (selectors : List Selector) (best : Option Candidate) (before : Option StyleValue) (declaration : Declaration) → best_with_declaration subject state property selectors (best_with_both best (greatest_of subject state None selectors) before) declaration ≡ best_with_both best (greatest_of subject state None selectors) (last_with property before declaration)
unfolding best_with_declaration
with-declaration subject state property selectors best before declaration = by (is_same_property declaration.property property)
  where
    by : (t : Bool) → (if t then best_of_selectors subject state declaration.value (best_with_both best (greatest_of subject state None selectors) before) selectors else best_with_both best (greatest_of subject state None selectors) before) ≡ best_with_both best (greatest_of subject state None selectors) (if t then Some declaration.value else before)
    by false = refl
    by true = selectors-at_once subject state declaration.value selectors (best_with_both best (greatest_of subject state None selectors) before) None ∙ later-counts best (greatest_of subject state None selectors) before declaration.value

or-through : (last before : Option StyleValue) (t : Bool) (value : StyleValue) → option_or last (if t then Some value else before) ≡ option_or (option_or last (if t then Some value else None)) before
or-through (Some last) before t value = refl
or-through None before true value = refl
or-through None before false value = refl

declarations-at_once : (subject : Subject) (state : State) (property : Property) (selectors : List Selector) (best : Option Candidate) (declarations : List Declaration) (before : Option StyleValue) → best_of_declarations subject state property selectors (best_with_both best (greatest_of subject state None selectors) before) declarations ≡ best_with_both best (greatest_of subject state None selectors) (option_or (last_value property declarations) before)
declarations-at_once subject state property selectors best [] before = refl
declarations-at_once subject state property selectors best (declaration ∷ more) before =
    ap (λ (b : Option Candidate). best_of_declarations subject state property selectors b more) (with-declaration subject state property selectors best before declaration)
    ∙ declarations-at_once subject state property selectors best more (last_with property before declaration)
    ∙ ap (best_with_both best (greatest_of subject state None selectors)) (or-through (last_value property more) before (is_same_property declaration.property property) declaration.value)

with-none : (best : Option Candidate) (greatest : Option ℕ) → best_with_both best greatest None ≡ best
with-none best None = refl
with-none best (Some m) = refl

or-none : (o : Option StyleValue) → option_or o None ≡ o
or-none None = refl
or-none (Some value) = refl

pub rule-at_once : (subject : Subject) (state : State) (property : Property) (selectors : List Selector) (best : Option Candidate) (declarations : List Declaration) → best_of_declarations subject state property selectors best declarations ≡ best_with_both best (greatest_of subject state None selectors) (last_value property declarations)
rule-at_once subject state property selectors best declarations =
    ap (λ (b : Option Candidate). best_of_declarations subject state property selectors b declarations) (sym (with-none best (greatest_of subject state None selectors)))
    ∙ declarations-at_once subject state property selectors best declarations None
    ∙ ap (best_with_both best (greatest_of subject state None selectors)) (or-none (last_value property declarations))
