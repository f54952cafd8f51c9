-- The search of the rules finds the strongest declaration.
use Rattle.std.proofs.Common.{◌≡◌, ℕ, ◌+◌, ◌≤◌, Bool, true, false, List, [], ◌∷◌, ◌++◌, Option, Some, None, inl, inr, length, refl, sym, ◌∙◌, ap, subst, arith}
use Rattle.std.proofs.lemmas.Bool.{cases_Bool, and_from}
use Rattle.std.proofs.lemmas.Bool.Decides.{nat_tests}
use Rattle.std.proofs.lemmas.List.Elements.{filter-append}
use Rattle.std.specs.Prelude.{◌==◌, nat_le, nat_lt, ◌&&◌, ◌||◌, filter, option_map, if◌then◌else◌}
use Rattle.style_reader.specs.Rules.{Given, given_by, given_by_rule, given_from, given_to_each}
use Rattle.style_reader.specs.Selectors.{specificity}
use Rattle.style_reader.specs.declared.declarations.Declaration.{Declaration}
use Rattle.style_reader.specs.declared.properties.Property.{Property}
use Rattle.style_reader.specs.declared.properties.StyleValue.{StyleValue}
use Rattle.style_reader.specs.declared.rules.Rule.{Rule}
use Rattle.style_reader.specs.declared.selectors.Selector.{Selector}
use Rattle.style_cascade.specs.Candidates.{candidates, declared_value, is_at_least, is_candidate, is_same_property, strongest, strongest_from, stronger}
use Rattle.style_cascade.specs.Matching.{matches}
use Rattle.style_cascade.specs.devices.Searching.{best_of_declarations, best_of_rules, best_of_selectors, best_with, best_with_declaration, candidate, stronger_candidate, value_in}
use Rattle.style_cascade.specs.declared.search.Candidate.{Candidate}
use Rattle.style_cascade.specs.declared.states.State.{State}
use Rattle.style_cascade.specs.declared.subjects.Subject.{Subject}

abbrev candidate_of : Given → Candidate
candidate_of given = candidate given.selector given.value

abbrev AtMost : ℕ → Option Given → Type 0
AtMost order None = Unit {0}
AtMost order (Some given) = given.order ≤ order

-- the code's best so far is that of the declarations so far, none of which has a greater order
record Follows (order : ℕ) (given : Option Given) (best : Option Candidate) : Type 0 where
  same : option_map candidate_of given ≡ best
  at_most : AtMost order given

AtMost-later : (order later : ℕ) (given : Option Given) → order ≤ later → AtMost order given → AtMost later given
AtMost-later order later None h at_most = tt
AtMost-later order later (Some given) h at_most = omega (arith, h, at_most)

Follows-later : (order later : ℕ) (given : Option Given) (best : Option Candidate) → order ≤ later → Follows order given best → Follows later given best
Follows-later order later given best h follows = record { same = follows.same; at_most = AtMost-later order later given h follows.at_most }

by_specificity : (one other place at : ℕ) → at ≤ place → (nat_lt other one || ((one == other) && nat_le at place)) ≡ nat_le other one
by_specificity one other place at h = grind (arith, nat_tests)

seen-choice : (t u : Bool) (best given : Given) → t ≡ u → candidate_of (if t then given else best) ≡ (if u then candidate_of given else candidate_of best)
seen-choice true u best given e = ap (λ (b : Bool). if b then candidate_of given else candidate_of best) e
seen-choice false u best given e = ap (λ (b : Bool). if b then candidate_of given else candidate_of best) e

seen-stronger : (order : ℕ) (best : Option Given) (given : Given) → AtMost order best → given.order ≡ order → candidate_of (stronger best given) ≡ stronger_candidate (option_map candidate_of best) (candidate_of given)
seen-stronger order None given h e = refl
seen-stronger order (Some best) given h e = seen-choice (is_at_least given best) (nat_le (specificity best.selector) (specificity given.selector)) best given (by_specificity (specificity given.selector) (specificity best.selector) given.order best.order (omega (arith, h, e)))

AtMost-choice : (t : Bool) (order : ℕ) (best given : Given) → best.order ≤ order → given.order ≡ order → AtMost order (Some (if t then given else best))
AtMost-choice true order best given h e = omega (arith, e)
AtMost-choice false order best given h e = h

AtMost-stronger : (order : ℕ) (best : Option Given) (given : Given) → AtMost order best → given.order ≡ order → AtMost order (Some (stronger best given))
AtMost-stronger order None given h e = omega (arith, e)
AtMost-stronger order (Some best) given h e = AtMost-choice (is_at_least given best) order best given h e

Follows-stronger : (order : ℕ) (before : Option Given) (best : Option Candidate) (given : Given) → given.order ≡ order → Follows order before best → Follows order (Some (stronger before given)) (Some (stronger_candidate best (candidate_of given)))
Follows-stronger order before best given e follows =
    record {
      same = ap (λ (c : Candidate). Some c) (seen-stronger order before given follows.at_most e ∙ ap (λ (b : Option Candidate). stronger_candidate b (candidate_of given)) follows.same);
      at_most = AtMost-stronger order before given follows.at_most e;
    }

filter-yes : (test : Given → Bool) (given : Given) (more : List Given) → test given ≡ true → filter test (given ∷ more) ≡ given ∷ filter test more
filter-yes test given more e = ap (λ (b : Bool). if b then given ∷ filter test more else filter test more) e

filter-no : (test : Given → Bool) (given : Given) (more : List Given) → test given ≡ false → filter test (given ∷ more) ≡ filter test more
filter-no test given more e = ap (λ (b : Bool). if b then given ∷ filter test more else filter test more) e

strongest_from-append : (best : Option Given) (front back : List Given) → strongest_from best (front ++ back) ≡ strongest_from (strongest_from best front) back
strongest_from-append best [] back = refl
strongest_from-append best (given ∷ front) back = strongest_from-append (Some (stronger best given)) front back

abbrev given_one : Selector → ℕ → Declaration → Given
given_one selector order declaration = record { selector = selector; property = declaration.property; value = declaration.value; order = order }

best_with-yes : (subject : Subject) (state : State) (value : StyleValue) (best : Option Candidate) (selector : Selector) → matches selector subject state ≡ true → best_with subject state value best selector ≡ Some (stronger_candidate best (candidate selector value))
unfolding best_with
best_with-yes subject state value best selector e = ap (λ (b : Bool). if b then Some (stronger_candidate best (candidate selector value)) else best) e

best_with-no : (subject : Subject) (state : State) (value : StyleValue) (best : Option Candidate) (selector : Selector) → matches selector subject state ≡ false → best_with subject state value best selector ≡ best
unfolding best_with
best_with-no subject state value best selector e = ap (λ (b : Bool). if b then Some (stronger_candidate best (candidate selector value)) else best) e

both_true : (a b : Bool) → a ≡ true → b ≡ true → (a && b) ≡ true
both_true a b e f = and_from a b e f

second_false : (a b : Bool) → a ≡ true → b ≡ false → (a && b) ≡ false
second_false a b e f = rw (e, f) refl

first_false : (a b : Bool) → a ≡ false → (a && b) ≡ false
first_false a b e = rw e refl

-- ---- a declaration for some selectors

selectors-follow : (subject : Subject) (state : State) (property : Property) (order : ℕ) (declaration : Declaration) → is_same_property declaration.property property ≡ true → (selectors : List Selector) (given : Option Given) (best : Option Candidate) → Follows order given best → Follows order (strongest_from given (filter (is_candidate subject state property) (given_to_each selectors order declaration))) (best_of_selectors subject state declaration.value best selectors)
selectors-follow subject state property order declaration same [] given best follows = follows
selectors-follow subject state property order declaration same (selector ∷ more) given best follows =
    let test : Given → Bool = is_candidate subject state property in
    let one : Given = given_one selector order declaration in
    let rest : List Given = given_to_each more order declaration in
    let value : StyleValue = declaration.value in
    elim (cases_Bool (matches selector subject state)) [
      | inl e ↦
          subst (λ (l : List Given). Follows order (strongest_from given l) (best_of_selectors subject state value best (selector ∷ more))) (sym (filter-yes test one rest (both_true (is_same_property declaration.property property) (matches selector subject state) same e)))
          (subst (λ (b : Option Candidate). Follows order (strongest_from (Some (stronger given one)) (filter test rest)) (best_of_selectors subject state value b more)) (sym (best_with-yes subject state value best selector e))
          (selectors-follow subject state property order declaration same more (Some (stronger given one)) (Some (stronger_candidate best (candidate selector value))) (Follows-stronger order given best one refl follows)))
      | inr e ↦
          subst (λ (l : List Given). Follows order (strongest_from given l) (best_of_selectors subject state value best (selector ∷ more))) (sym (filter-no test one rest (second_false (is_same_property declaration.property property) (matches selector subject state) same e)))
          (subst (λ (b : Option Candidate). Follows order (strongest_from given (filter test rest)) (best_of_selectors subject state value b more)) (sym (best_with-no subject state value best selector e))
          (selectors-follow subject state property order declaration same more given best follows))
    ]

filter-other : (subject : Subject) (state : State) (property : Property) (order : ℕ) (declaration : Declaration) → is_same_property declaration.property property ≡ false → (selectors : List Selector) → filter (is_candidate subject state property) (given_to_each selectors order declaration) ≡ []
filter-other subject state property order declaration other [] = refl
filter-other subject state property order declaration other (selector ∷ more) =
    filter-no (is_candidate subject state property) (given_one selector order declaration) (given_to_each more order declaration) (first_false (is_same_property declaration.property property) (matches selector subject state) other)
    ∙ filter-other subject state property order declaration other more

best_with_declaration-yes : (subject : Subject) (state : State) (property : Property) (selectors : List Selector) (best : Option Candidate) (declaration : Declaration) → is_same_property declaration.property property ≡ true → best_with_declaration subject state property selectors best declaration ≡ best_of_selectors subject state declaration.value best selectors
unfolding best_with_declaration
best_with_declaration-yes subject state property selectors best declaration e = ap (λ (b : Bool). if b then best_of_selectors subject state declaration.value best selectors else best) e

best_with_declaration-no : (subject : Subject) (state : State) (property : Property) (selectors : List Selector) (best : Option Candidate) (declaration : Declaration) → is_same_property declaration.property property ≡ false → best_with_declaration subject state property selectors best declaration ≡ best
unfolding best_with_declaration
best_with_declaration-no subject state property selectors best declaration e = ap (λ (b : Bool). if b then best_of_selectors subject state declaration.value best selectors else best) e

declaration-follows : (subject : Subject) (state : State) (property : Property) (order : ℕ) (selectors : List Selector) (declaration : Declaration) (given : Option Given) (best : Option Candidate) → Follows order given best → Follows order (strongest_from given (filter (is_candidate subject state property) (given_to_each selectors order declaration))) (best_with_declaration subject state property selectors best declaration)
declaration-follows subject state property order selectors declaration given best follows =
    elim (cases_Bool (is_same_property declaration.property property)) [
      | inl e ↦
          subst (λ (b : Option Candidate). Follows order (strongest_from given (filter (is_candidate subject state property) (given_to_each selectors order declaration))) b) (sym (best_with_declaration-yes subject state property selectors best declaration e)) (selectors-follow subject state property order declaration e selectors given best follows)
      | inr e ↦
          subst (λ (b : Option Candidate). Follows order (strongest_from given (filter (is_candidate subject state property) (given_to_each selectors order declaration))) b) (sym (best_with_declaration-no subject state property selectors best declaration e))
          (subst (λ (l : List Given). Follows order (strongest_from given l) best) (sym (filter-other subject state property order declaration e selectors)) follows)
    ]

-- ---- a rule

declarations-follow : (subject : Subject) (state : State) (property : Property) (selectors : List Selector) (declarations : List Declaration) (order : ℕ) (given : Option Given) (best : Option Candidate) → Follows order given best → Follows (order + length declarations) (strongest_from given (filter (is_candidate subject state property) (given_by_rule order selectors declarations))) (best_of_declarations subject state property selectors best declarations)
declarations-follow subject state property selectors [] order given best follows = Follows-later order (order + 0) given best (omega arith) follows
declarations-follow subject state property selectors (declaration ∷ more) order given best follows =
    let test : Given → Bool = is_candidate subject state property in
    let first : List Given = given_to_each selectors order declaration in
    let rest : List Given = given_by_rule (order + 1) selectors more in
    let next : Option Candidate = best_with_declaration subject state property selectors best declaration in
    let parted : strongest_from given (filter test (first ++ rest)) ≡ strongest_from (strongest_from given (filter test first)) (filter test rest) =
    ap (strongest_from given) (filter-append test first rest) ∙ strongest_from-append given (filter test first) (filter test rest) in
    let one : Follows order (strongest_from given (filter test first)) next = declaration-follows subject state property order selectors declaration given best follows in
    let later : Follows (order + 1) (strongest_from given (filter test first)) next = Follows-later order (order + 1) (strongest_from given (filter test first)) next (omega arith) one in
    let all : Follows (order + 1 + length more) (strongest_from (strongest_from given (filter test first)) (filter test rest)) (best_of_declarations subject state property selectors next more) =
    declarations-follow subject state property selectors more (order + 1) (strongest_from given (filter test first)) next later in
    let at : order + 1 + length more ≤ order + length (declaration ∷ more) = omega arith in
    subst (λ (g : Option Given). Follows (order + length (declaration ∷ more)) g (best_of_declarations subject state property selectors next more)) (sym parted) (Follows-later (order + 1 + length more) (order + length (declaration ∷ more)) (strongest_from (strongest_from given (filter test first)) (filter test rest)) (best_of_declarations subject state property selectors next more) at all)

-- ---- all rules

rules-follow : (subject : Subject) (state : State) (property : Property) (rules : List Rule) (order : ℕ) (given : Option Given) (best : Option Candidate) → Follows order given best → option_map candidate_of (strongest_from given (filter (is_candidate subject state property) (given_from order rules))) ≡ best_of_rules subject state property best rules
rules-follow subject state property [] order given best follows = follows.same
rules-follow subject state property (rule ∷ more) order given best follows =
    let test : Given → Bool = is_candidate subject state property in
    let first : List Given = given_by_rule order rule.selectors rule.declarations in
    let rest : List Given = given_from (order + length rule.declarations) more in
    ap (λ (l : List Given). option_map candidate_of (strongest_from given l)) (filter-append test first rest)
    ∙ ap (option_map candidate_of) (strongest_from-append given (filter test first) (filter test rest))
    ∙ rules-follow subject state property more (order + length rule.declarations) (strongest_from given (filter test first)) (best_of_declarations subject state property rule.selectors best rule.declarations) (declarations-follow subject state property rule.selectors rule.declarations order given best follows)

value-seen : (given : Option Given) → option_map (λ (g : Given). g.value) given ≡ value_in (option_map candidate_of given)
value-seen None = refl
value-seen (Some given) = refl

-- what is declared is what the search finds
pub declared-found : (rules : List Rule) (subject : Subject) (state : State) (property : Property) → value_in (best_of_rules subject state property None rules) ≡ declared_value rules subject state property
unfolding declared_value strongest given_by
declared-found rules subject state property =
    sym (value-seen (strongest_from None (candidates rules subject state property))
    ∙ ap value_in (rules-follow subject state property rules 0 None None (record { same = refl; at_most = tt })))
