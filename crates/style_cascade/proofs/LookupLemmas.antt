-- The search of chains finds the best of what rules give.
use Rattle.std.proofs.Common.{◌≡◌, ◌≢◌, ℕ, zero, suc, ◌<◌, ◌≤◌, Bool, true, false, ◌||◌, nat_eq, List, [], ◌∷◌, Option, Some, None, ◌⊎◌, inl, inr, length, refl, sym, ◌∙◌, ap, subst, arith}
use Rattle.std.proofs.lemmas.Bool.{and_parts, cases_Bool, eqb-true, or_cases, or_left}
use Rattle.std.proofs.lemmas.Bool.Decides.{nat_tests}
use Rattle.std.specs.Prelude.{Contains, if◌then◌else◌, ◌&&◌, nat_le, IfSome, IsSomeAnd, IsTrue, is_some, option_and_then, option_map, slice_get, slice_index_or}
use Rattle.std.specs.Option.{option_map_or}
use Rattle.std.specs.Cmp.Lexicographic.{bytes_decides}
use Rattle.std.specs.HashMap.{HashMap, get}
use Rattle.bml_bytes.specs.Words.{is_same}
use Rattle.style_reader.specs.Rules.{AreFitting}
use Rattle.style_reader.specs.Selectors.{specificity}
use Rattle.style_reader.specs.Values.{fits}
use Rattle.style_reader.specs.declared.declarations.Declaration.{Declaration}
use Rattle.style_reader.specs.declared.properties.Property.{Property}
use Rattle.style_reader.specs.declared.properties.StyleValue.{StyleValue}
use Rattle.style_reader.specs.declared.rules.Rule.{Rule}
use Rattle.style_reader.specs.declared.selectors.Mark.{Mark}
use Rattle.style_reader.specs.declared.selectors.Mark.TheVariants.{Class, Id}
use Rattle.style_reader.specs.declared.selectors.Selector.{Selector}
use Rattle.style_cascade.specs.Candidates.{declared_value, last_value}
use Rattle.style_cascade.specs.Matching.{has_mark, has_tag, is_for_state, matches}
use Rattle.style_cascade.specs.devices.Chains.{AreNoted, GivesSome, HasRule, IsGiving, IsNoted, chain_at, given_value}
use Rattle.style_cascade.specs.devices.Indexing.{Covers, IsFrom, IsGiven, IsNotAbove, IsSound, Question, found_value, is_weaker, offer_of, question, rule_offer, with_offer}
use Rattle.style_cascade.specs.devices.Keys.{AreClasses, IsFor, IsForTag, IsKeyOf, asked_with, class_in, id_in, is_among, is_for_when, key_specificity, key_with, number_in, number_of}
use Rattle.style_cascade.specs.devices.Rows.{AreSound, Changes, CoversAsked, CoversKey, CoversRules, KeepsEach, found_in, value_at}
use Rattle.style_cascade.specs.devices.Searching.{best_of_rules, best_with_both, greater_of, greatest_of, greatest_with}
use Rattle.style_cascade.specs.declared.chains.Chain.{Chain}
use Rattle.style_cascade.specs.declared.keys.Asked.{Asked}
use Rattle.style_cascade.specs.declared.keys.Key.{Key}
use Rattle.style_cascade.specs.declared.rows.Found.{Found}
use Rattle.style_cascade.specs.declared.search.Candidate.{Candidate}
use Rattle.style_cascade.specs.declared.states.State.{State}
use Rattle.style_cascade.specs.declared.states.State.TheVariants as states
use Rattle.style_cascade.specs.declared.subjects.Subject.{Subject}
use Rattle.style_cascade.proofs.FittingLemmas.{rules-fit, value-fits}
use Rattle.style_cascade.proofs.IndexLemmas.{best-declared, offer-kept, own-by}
use Rattle.style_cascade.proofs.KeyLemmas.{for-class, for-id, for-tag, key-matching, key-specific, key-state}
use Rattle.style_cascade.proofs.SearchLemmas.{declared-found}

-- ---- along the rules of a chain

abbrev candidate_with : ℕ → StyleValue → Candidate
candidate_with specificity value = record { specificity = specificity; value = value }

same-state : (at state : State) → (at ≡ state) ⊎ (at ≢ state)
same-state states.Normal states.Normal = inl refl
same-state states.Normal states.Focus = inr (λ e. cc e)
same-state states.Normal states.Active = inr (λ e. cc e)
same-state states.Focus states.Normal = inr (λ e. cc e)
same-state states.Focus states.Focus = inl refl
same-state states.Focus states.Active = inr (λ e. cc e)
same-state states.Active states.Normal = inr (λ e. cc e)
same-state states.Active states.Focus = inr (λ e. cc e)
same-state states.Active states.Active = inl refl

-- what a rule gives is offered in a state, and nothing else
pub record IsOfferedIn (given : List (List Declaration)) (number specificity : ℕ) (state : State) (before after : List (Option Found)) : Type 0 where
  pub here : (property : Property) → found_in after state property ≡ with_offer (found_in before state property) number (best_with_both None (Some specificity) (given_value given number property))
  pub others : (at : State) (property : Property) → at ≢ state → found_in after at property ≡ found_in before at property

pub offered-by : (given : List (List Declaration)) (number specificity : ℕ) (state : State) (before after : List (Option Found)) (declarations : List Declaration) → ((property : Property) → last_value property declarations ≡ given_value given number property) → ((property : Property) → found_in after state property ≡ with_offer (found_in before state property) number (best_with_both None (Some specificity) (last_value property declarations))) → ((at : State) (property : Property) → at ≢ state → found_in after at property ≡ found_in before at property) → IsOfferedIn given number specificity state before after
offered-by given number specificity state before after declarations is here others = record {
  here = λ property. here property ∙ ap (λ (o : Option StyleValue). with_offer (found_in before state property) number (best_with_both None (Some specificity) o)) (is property);
  others = others;
}

offered-keeps : (given : List (List Declaration)) (number specificity : ℕ) (state : State) (before after : List (Option Found)) → IsOfferedIn given number specificity state before after → KeepsEach before after
offered-keeps given number specificity state before after offered at property other c h = elim (same-state at state) [
  | inl e ↦
      subst (λ (s : State). IsSomeAnd (found_in after s property) (IsNotAbove other c)) (sym e)
      (subst (λ (o : Option Found). IsSomeAnd o (IsNotAbove other c)) (sym (offered.here property))
      (offer-kept (found_in before state property) number (best_with_both None (Some specificity) (given_value given number property)) other c
      (subst (λ (s : State). IsSomeAnd (found_in before s property) (IsNotAbove other c)) e h)))
  | inr ne ↦ subst (λ (o : Option Found). IsSomeAnd o (IsNotAbove other c)) (sym (offered.others at property ne)) h
]

abbrev Chosen : List (List Declaration) → ℕ → ℕ → Property → Option Found → Option Found → Type 0
Chosen given number specificity property before after = (after ≡ before) ⊎ IsSomeAnd after (λ found. (found.rule ≡ number) × (found.candidate.specificity ≡ specificity) × (given_value given number property ≡ Some found.candidate.value))

chosen-by : (given : List (List Declaration)) (number specificity : ℕ) (property : Property) (t : Bool) (best : Found) (value : StyleValue) → given_value given number property ≡ Some value → Chosen given number specificity property (Some best) (Some (if t then record { rule = number; candidate = candidate_with specificity value } else best))
chosen-by given number specificity property true best value e = inr (refl, refl, e)
chosen-by given number specificity property false best value e = inl refl

chosen-offer : (given : List (List Declaration)) (number specificity : ℕ) (property : Property) (best : Option Found) (value : Option StyleValue) → given_value given number property ≡ value → Chosen given number specificity property best (with_offer best number (best_with_both None (Some specificity) value))
chosen-offer given number specificity property best None e = inl refl
chosen-offer given number specificity property None (Some value) e = inr (refl, refl, e)
chosen-offer given number specificity property (Some best) (Some value) e = chosen-by given number specificity property (is_weaker best number (candidate_with specificity value)) best value e

from-chosen : (given : List (List Declaration)) (numbers : List ℕ) (number specificity : ℕ) (property : Property) (found : Option Found) → is_among number numbers ≡ true → IsSomeAnd found (λ f. (f.rule ≡ number) × (f.candidate.specificity ≡ specificity) × (given_value given number property ≡ Some f.candidate.value)) → IsSomeAnd found (IsFrom given numbers specificity property)
from-chosen given numbers number specificity property None among h = absurd h
from-chosen given numbers number specificity property (Some found) among h = record {
  among = ap (λ (n : ℕ). is_among n numbers) h.0 ∙ among;
  specificity_is = h.1;
  value_is = ap (λ (n : ℕ). given_value given n property) h.0 ∙ h.2;
}

-- what is done after some of the rules
pub record IsWalked (given : List (List Declaration)) (numbers rest : List ℕ) (specificity : ℕ) (state : State) (before row : List (Option Found)) : Type 0 where
  pub keeps : KeepsEach before row
  pub changes : Changes given numbers specificity state before row
  pub covers : (number : ℕ) (property : Property) (value : StyleValue) → is_among number numbers ≡ true → given_value given number property ≡ Some value → IsSomeAnd (found_in row state property) (IsNotAbove number (record { specificity = specificity; value = value })) ⊎ (is_among number rest ≡ true)
  pub within : (number : ℕ) → is_among number rest ≡ true → is_among number numbers ≡ true

pub walk-start : (given : List (List Declaration)) (numbers : List ℕ) (specificity : ℕ) (state : State) (row : List (Option Found)) → IsWalked given numbers numbers specificity state row row
walk-start given numbers specificity state row = record {
  keeps = λ at property number c h. h;
  changes = λ at property. inl refl;
  covers = λ number property value h e. inr h;
  within = λ number h. h;
}

own-offer : (given : List (List Declaration)) (number specificity : ℕ) (property : Property) (best : Option Found) (value : StyleValue) → given_value given number property ≡ Some value → IsSomeAnd (with_offer best number (best_with_both None (Some specificity) (given_value given number property))) (IsNotAbove number (candidate_with specificity value))
own-offer given number specificity property best value e =
    subst (λ (o : Option StyleValue). IsSomeAnd (with_offer best number (best_with_both None (Some specificity) o)) (IsNotAbove number (candidate_with specificity value))) (sym e)
    (own-by best number (Some (candidate_with specificity value)))

or_right : (x y : Bool) → y ≡ true → (x || y) ≡ true
or_right true y e = refl
or_right false y e = e

pub walk-more : (given : List (List Declaration)) (numbers rest more : List ℕ) (first specificity : ℕ) (state : State) (before row after : List (Option Found)) → rest ≡ first ∷ more → IsOfferedIn given first specificity state row after → IsWalked given numbers rest specificity state before row → IsWalked given numbers more specificity state before after
walk-more given numbers rest more first specificity state before row after is offered walk = record {
  keeps = λ at property number c h. kept at property number c (walk.keeps at property number c h);
  changes = λ at property. change at property (same-state at state);
  covers = λ number property value h e. cover number property value e (walk.covers number property value h e);
  within = λ number h. walk.within number (subst (λ (l : List ℕ). is_among number l ≡ true) (sym is) (or_right (nat_eq number first) (is_among number more) h));
}
  where
    kept : KeepsEach row after
    kept = offered-keeps given first specificity state row after offered

    among : is_among first numbers ≡ true
    among = walk.within first (subst (λ (l : List ℕ). is_among first l ≡ true) (sym is) (or_left (nat_eq first first) (is_among first more) (search (arith))))

    changed : (at : State) (property : Property) → at ≡ state → Chosen given first specificity property (found_in row at property) (found_in after at property) → (found_in after at property ≡ found_in before at property) ⊎ ((at ≡ state) × IsSomeAnd (found_in after at property) (IsFrom given numbers specificity property))
    changed at property e (inl same) = elim (walk.changes at property) [
      | inl old ↦ inl (same ∙ old)
      | inr new ↦ inr (new.0, subst (λ (o : Option Found). IsSomeAnd o (IsFrom given numbers specificity property)) (sym same) new.1)
    ]
    changed at property e (inr chosen) = inr (e, from-chosen given numbers first specificity property (found_in after at property) among chosen)

    chosen-here : (property : Property) → Chosen given first specificity property (found_in row state property) (found_in after state property)
    chosen-here property = subst (λ (o : Option Found). Chosen given first specificity property (found_in row state property) o) (sym (offered.here property)) (chosen-offer given first specificity property (found_in row state property) (given_value given first property) refl)

    change : (at : State) (property : Property) → (at ≡ state) ⊎ (at ≢ state) → (found_in after at property ≡ found_in before at property) ⊎ ((at ≡ state) × IsSomeAnd (found_in after at property) (IsFrom given numbers specificity property))
    change at property (inl e) = changed at property e (subst (λ (s : State). Chosen given first specificity property (found_in row s property) (found_in after s property)) (sym e) (chosen-here property))
    change at property (inr ne) = elim (walk.changes at property) [
      | inl old ↦ inl (offered.others at property ne ∙ old)
      | inr new ↦ absurd (ne new.0)
    ]

    own : (number : ℕ) (property : Property) (value : StyleValue) → given_value given number property ≡ Some value → (nat_eq number first ≡ true) ⊎ (is_among number more ≡ true) → IsSomeAnd (found_in after state property) (IsNotAbove number (candidate_with specificity value)) ⊎ (is_among number more ≡ true)
    own number property value e (inl same) =
        let at : number ≡ first = eqb-true number first same in
        inl (subst (λ (n : ℕ). IsSomeAnd (found_in after state property) (IsNotAbove n (candidate_with specificity value))) (sym at)
        (subst (λ (o : Option Found). IsSomeAnd o (IsNotAbove first (candidate_with specificity value))) (sym (offered.here property))
        (own-offer given first specificity property (found_in row state property) value (subst (λ (n : ℕ). given_value given n property ≡ Some value) at e))))
    own number property value e (inr h) = inr h

    cover : (number : ℕ) (property : Property) (value : StyleValue) → given_value given number property ≡ Some value → IsSomeAnd (found_in row state property) (IsNotAbove number (candidate_with specificity value)) ⊎ (is_among number rest ≡ true) → IsSomeAnd (found_in after state property) (IsNotAbove number (candidate_with specificity value)) ⊎ (is_among number more ≡ true)
    cover number property value e (inl h) = inl (kept state property number (candidate_with specificity value) h)
    cover number property value e (inr h) =
        let parted : is_among number (first ∷ more) ≡ true = subst (λ (l : List ℕ). is_among number l ≡ true) is h in
        own number property value e (or_cases (nat_eq number first) (is_among number more) parted)

pub walk-end : (given : List (List Declaration)) (numbers rest : List ℕ) (specificity : ℕ) (state : State) (before row : List (Option Found)) → IsWalked given numbers rest specificity state before row → rest ≡ [] → CoversRules given numbers specificity state row
walk-end given numbers rest specificity state before row walk is number property value h e = elim (walk.covers number property value h e) [
  | inl covers ↦ covers
  | inr h ↦ let none : is_among number [] ≡ true = subst (λ (l : List ℕ). is_among number l ≡ true) is h in absurd (cc none)
]

-- ---- the chain of a selector

given-from : {S : Type 0} (rules : List Rule) (names : List (List ℕ)) (given : List (List Declaration)) (chains : HashMap Key Chain S) (subject : Subject) (key : Key) (state : State) (property : Property) (found : Option Found) → AreNoted rules names given chains → IsFor names subject key.asked → is_for_when key.when state ≡ true → IsSomeAnd found (IsFrom given (chain_at chains key) (key_specificity key) property) → IfSome found (IsGiven (question rules subject state property))
given-from rules names given chains subject key state property None noted fits when h = tt
given-from rules names given chains subject key state property (Some found) noted fits when h =
    let has : HasRule names rules key found.rule = noted.only key found.rule h.among in
    record {
      rule = has.rule;
      found = has.found;
      selector = has.has.selector;
      among = has.has.among;
      matching = key-matching names key has.has.selector subject state has.has.key_is fits when;
      specificity_is = sym (key-specific names key has.has.selector has.has.key_is) ∙ sym h.specificity_is;
      value_is = sym (ap (option_and_then (λ (r : Rule). last_value property r.declarations)) has.found) ∙ sym (noted.values found.rule property) ∙ h.value_is;
    }

pub key-sound : {S : Type 0} (rules : List Rule) (names : List (List ℕ)) (given : List (List Declaration)) (chains : HashMap Key Chain S) (subject : Subject) (key : Key) (state : State) (before after : List (Option Found)) → AreNoted rules names given chains → IsFor names subject key.asked → is_for_when key.when state ≡ true → Changes given (chain_at chains key) (key_specificity key) state before after → AreSound rules subject before → AreSound rules subject after
key-sound rules names given chains subject key state before after noted fits when changes sound at property = elim (changes at property) [
  | inl e ↦ subst (λ (o : Option Found). IfSome o (IsGiven (question rules subject at property))) (sym e) (sound at property)
  | inr h ↦ given-from rules names given chains subject key at property (found_in after at property) noted fits (subst (λ (s : State). is_for_when key.when s ≡ true) (sym h.0) when) h.1
]

pub covers-kept : {S : Type 0} (given : List (List Declaration)) (chains : HashMap Key Chain S) (before after : List (Option Found)) (state : State) (key : Key) → KeepsEach before after → CoversKey given chains before state key → CoversKey given chains after state key
covers-kept given chains before after state key keeps covers number property value h e = keeps state property number (candidate_with (key_specificity key) value) (covers number property value h e)

pub asked-kept : {S : Type 0} (given : List (List Declaration)) (chains : HashMap Key Chain S) (before after : List (Option Found)) (asked : Asked) → KeepsEach before after → CoversAsked given chains before asked → CoversAsked given chains after asked
asked-kept given chains before after asked keeps covers when state h = covers-kept given chains before after state (key_with asked when) keeps (covers when state h)

pub keeps-then : (before middle after : List (Option Found)) → KeepsEach before middle → KeepsEach middle after → KeepsEach before after
keeps-then before middle after one two state property number c h = two state property number c (one state property number c h)

-- ---- along the classes

pub record IsListed {S : Type 0} (names : List (List ℕ)) (given : List (List Declaration)) (chains : HashMap Key Chain S) (tag : Option ℕ) (classes rest : List ℕ) (before row : List (Option Found)) : Type 0 where
  pub keeps : KeepsEach before row
  pub sound : (rules : List Rule) (subject : Subject) → AreNoted rules names given chains → IsForTag names subject tag → AreClasses names subject.classes classes → AreSound rules subject before → AreSound rules subject row
  pub covers : (number : ℕ) → is_among number classes ≡ true → CoversAsked given chains row (asked_with tag (Some number) None) ⊎ (is_among number rest ≡ true)
  pub within : (number : ℕ) → is_among number rest ≡ true → is_among number classes ≡ true

pub list-start : {S : Type 0} (names : List (List ℕ)) (given : List (List Declaration)) (chains : HashMap Key Chain S) (tag : Option ℕ) (classes : List ℕ) (row : List (Option Found)) → IsListed names given chains tag classes classes row row
list-start names given chains tag classes row = record {
  keeps = λ state property number c h. h;
  sound = λ rules subject noted fits are h. h;
  covers = λ number h. inr h;
  within = λ number h. h;
}

-- a class is searched
pub record IsSearched {S : Type 0} (names : List (List ℕ)) (given : List (List Declaration)) (chains : HashMap Key Chain S) (asked : Asked) (before after : List (Option Found)) : Type 0 where
  pub keeps : KeepsEach before after
  pub sound : (rules : List Rule) (subject : Subject) → AreNoted rules names given chains → IsFor names subject asked → AreSound rules subject before → AreSound rules subject after
  pub covers : CoversAsked given chains after asked

pub list-more : {S : Type 0} (names : List (List ℕ)) (given : List (List Declaration)) (chains : HashMap Key Chain S) (tag : Option ℕ) (classes rest more : List ℕ) (first : ℕ) (before row after : List (Option Found)) → rest ≡ first ∷ more → IsSearched names given chains (asked_with tag (Some first) None) row after → IsListed names given chains tag classes rest before row → IsListed names given chains tag classes more before after
list-more names given chains tag classes rest more first before row after is searched list = record {
  keeps = keeps-then before row after list.keeps searched.keeps;
  sound = λ rules subject noted fits are h. searched.sound rules subject noted (for-class names subject tag classes first fits are among) (list.sound rules subject noted fits are h);
  covers = λ number h. cover number (list.covers number h);
  within = λ number h. list.within number (subst (λ (l : List ℕ). is_among number l ≡ true) (sym is) (or_right (nat_eq number first) (is_among number more) h));
}
  where
    among : is_among first classes ≡ true
    among = list.within first (subst (λ (l : List ℕ). is_among first l ≡ true) (sym is) (or_left (nat_eq first first) (is_among first more) (search (arith))))

    own : (number : ℕ) → (nat_eq number first ≡ true) ⊎ (is_among number more ≡ true) → CoversAsked given chains after (asked_with tag (Some number) None) ⊎ (is_among number more ≡ true)
    own number (inl same) = inl (subst (λ (n : ℕ). CoversAsked given chains after (asked_with tag (Some n) None)) (sym (eqb-true number first same)) searched.covers)
    own number (inr h) = inr h

    cover : (number : ℕ) → CoversAsked given chains row (asked_with tag (Some number) None) ⊎ (is_among number rest ≡ true) → CoversAsked given chains after (asked_with tag (Some number) None) ⊎ (is_among number more ≡ true)
    cover number (inl h) = inl (asked-kept given chains row after (asked_with tag (Some number) None) searched.keeps h)
    cover number (inr h) =
        let parted : is_among number (first ∷ more) ≡ true = subst (λ (l : List ℕ). is_among number l ≡ true) is h in
        own number (or_cases (nat_eq number first) (is_among number more) parted)

pub list-end : {S : Type 0} (names : List (List ℕ)) (given : List (List Declaration)) (chains : HashMap Key Chain S) (tag : Option ℕ) (classes rest : List ℕ) (before row : List (Option Found)) → IsListed names given chains tag classes rest before row → rest ≡ [] → (number : ℕ) → is_among number classes ≡ true → CoversAsked given chains row (asked_with tag (Some number) None)
list-end names given chains tag classes rest before row list is number h = elim (list.covers number h) [
  | inl covers ↦ covers
  | inr h ↦ let none : is_among number [] ≡ true = subst (λ (l : List ℕ). is_among number l ≡ true) is h in absurd (cc none)
]

-- ---- all that is asked of an element

-- the chains of what asks for this tag are covered
pub record CoversTag {S : Type 0} (names : List (List ℕ)) (given : List (List Declaration)) (chains : HashMap Key Chain S) (subject : Subject) (tag : Option ℕ) (classes : List ℕ) (row : List (Option Found)) : Type 0 where
  pub plain : CoversAsked given chains row (asked_with tag None None)
  pub id : (name : List ℕ) (number : ℕ) → subject.id ≡ Some name → number_of names name ≡ Some number → CoversAsked given chains row (asked_with tag None (Some number))
  pub classed : (number : ℕ) → is_among number classes ≡ true → CoversAsked given chains row (asked_with tag (Some number) None)

numbered-one : (names : List (List ℕ)) (name : List ℕ) (number : Option ℕ) → number_in names (Some name) ≡ Some number → (n : ℕ) × (number_of names name ≡ Some n) × (number ≡ Some n)
numbered-one names name number e = by (number_of names name) refl e
  where
    by : (o : Option ℕ) → number_of names name ≡ o → option_map (λ (n : ℕ). Some n) o ≡ Some number → (n : ℕ) × (number_of names name ≡ Some n) × (number ≡ Some n)
    by None f g = absurd (cc g)
    by (Some n) f g = let same : Some n ≡ number = cc g in (n, f, sym same)

plain-number : (names : List (List ℕ)) (number : Option ℕ) → number_in names None ≡ Some number → number ≡ None
plain-number names number e = let same : None ≡ number = cc e in sym same

-- what is asked by the number of the id
pub for-id_number : (names : List (List ℕ)) (subject : Subject) (tag id : Option ℕ) (name : List ℕ) → IsForTag names subject tag → subject.id ≡ Some name → number_in names (Some name) ≡ Some id → IsFor names subject (asked_with tag None id)
for-id_number names subject tag id name fits is e =
    let one = numbered-one names name id e in
    subst (λ (o : Option ℕ). IsFor names subject (asked_with tag None o)) (sym one.2) (for-id names subject tag name one.0 fits is one.1)

pub for-tag_number : (names : List (List ℕ)) (subject : Subject) (tag : Option ℕ) → number_in names (Some subject.tag) ≡ Some tag → IsForTag names subject tag
for-tag_number names subject tag e =
    let one = numbered-one names subject.tag tag e in
    subst (λ (o : Option ℕ). IsForTag names subject o) (sym one.2) (for-tag names subject one.0 one.1)

asked-is : (asked : Asked) (tag class id : Option ℕ) → asked.tag ≡ tag → asked.class ≡ class → asked.id ≡ id → asked ≡ asked_with tag class id
asked-is asked tag class id e f g = λ j. record { tag = e j; class = f j; id = g j }

id-is : (subject : Subject) (name : List ℕ) (id : Option (List ℕ)) → subject.id ≡ id → option_map_or (is_same name) id false ≡ true → subject.id ≡ Some name
id-is subject name None e h = absurd (cc h)
id-is subject name (Some id) e h = e ∙ ap (λ (t : List ℕ). Some t) (sym ((bytes_decides name id).0 h))

covers-mark : {S : Type 0} (names : List (List ℕ)) (given : List (List Declaration)) (chains : HashMap Key Chain S) (subject : Subject) (tag : Option ℕ) (classes : List ℕ) (row : List (Option Found)) → AreClasses names subject.classes classes → CoversTag names given chains subject tag classes row → (mark : Option Mark) (asked : Asked) → asked.tag ≡ tag → number_in names (class_in mark) ≡ Some asked.class → number_in names (id_in mark) ≡ Some asked.id → has_mark mark subject ≡ true → CoversAsked given chains row asked
covers-mark names given chains subject tag classes row are covers None asked e f g h =
    subst (λ (a : Asked). CoversAsked given chains row a) (sym (asked-is asked tag None None e (plain-number names asked.class f) (plain-number names asked.id g))) covers.plain
covers-mark names given chains subject tag classes row are covers (Some (Class name)) asked e f g h =
    let one = numbered-one names name asked.class f in
    subst (λ (a : Asked). CoversAsked given chains row a) (sym (asked-is asked tag (Some one.0) None e one.2 (plain-number names asked.id g))) (covers.classed one.0 (are.all name one.0 h one.1))
covers-mark names given chains subject tag classes row are covers (Some (Id name)) asked e f g h =
    let one = numbered-one names name asked.id g in
    subst (λ (a : Asked). CoversAsked given chains row a) (sym (asked-is asked tag None (Some one.0) e (plain-number names asked.class f) one.2)) (covers.id name one.0 (id-is subject name subject.id refl h) one.1)

pub tag-covered : {S : Type 0} (names : List (List ℕ)) (given : List (List Declaration)) (chains : HashMap Key Chain S) (subject : Subject) (tag : Option ℕ) (classes : List ℕ) (row : List (Option Found)) → AreClasses names subject.classes classes → CoversTag names given chains subject tag classes row → (selector : Selector) (key : Key) (state : State) → IsKeyOf names key selector → key.asked.tag ≡ tag → has_mark selector.mark subject ≡ true → is_for_when key.when state ≡ true → CoversKey given chains row state key
tag-covered names given chains subject tag classes row are covers selector key state is e h when =
    covers-mark names given chains subject tag classes row are covers selector.mark key.asked e is.asked.class is.asked.id h key.when state when

-- what matches asks for no tag, or for the element's
tag-parted : (names : List (List ℕ)) (subject : Subject) (tag : Option (List ℕ)) (number : Option ℕ) → number_in names tag ≡ Some number → has_tag tag subject ≡ true → (number ≡ None) ⊎ (number_in names (Some subject.tag) ≡ Some number)
tag-parted names subject None number e h = inl (plain-number names number e)
tag-parted names subject (Some tag) number e h = inr (ap (λ (t : List ℕ). number_in names (Some t)) ((bytes_decides subject.tag tag).0 h) ∙ e)

-- the chains of what asks for no tag, and those of what asks for the element's tag
pub record CoversBoth {S : Type 0} (names : List (List ℕ)) (given : List (List Declaration)) (chains : HashMap Key Chain S) (subject : Subject) (row : List (Option Found)) : Type 0 where
  pub untagged : (selector : Selector) (key : Key) (state : State) → IsKeyOf names key selector → key.asked.tag ≡ None → has_mark selector.mark subject ≡ true → is_for_when key.when state ≡ true → CoversKey given chains row state key
  pub tagged : (number : Option ℕ) → number_in names (Some subject.tag) ≡ Some number → (selector : Selector) (key : Key) (state : State) → IsKeyOf names key selector → key.asked.tag ≡ number → has_mark selector.mark subject ≡ true → is_for_when key.when state ≡ true → CoversKey given chains row state key

pub both-covered : {S : Type 0} (names : List (List ℕ)) (given : List (List Declaration)) (chains : HashMap Key Chain S) (subject : Subject) (row : List (Option Found)) → CoversBoth names given chains subject row → (selector : Selector) (key : Key) (state : State) → IsKeyOf names key selector → matches selector subject state ≡ true → CoversKey given chains row state key
unfolding matches
both-covered names given chains subject row covers selector key state is h =
    let first = and_parts (has_tag selector.tag subject) (has_mark selector.mark subject && is_for_state selector.pseudo_class state) h in
    let second = and_parts (has_mark selector.mark subject) (is_for_state selector.pseudo_class state) first.1 in
    let when : is_for_when key.when state ≡ true = key-state names key selector state is ∙ second.1 in
    elim (tag-parted names subject selector.tag key.asked.tag is.asked.tag first.0) [
      | inl e ↦ covers.untagged selector key state is e second.0 when
      | inr e ↦ covers.tagged key.asked.tag e selector key state is refl second.0 when
    ]

-- ---- the greatest of the selectors that match

greatest_with-no : (subject : Subject) (state : State) (before : Option ℕ) (selector : Selector) → matches selector subject state ≡ false → greatest_with subject state before selector ≡ before
unfolding greatest_with
greatest_with-no subject state before selector e = ap (λ (t : Bool). if t then Some (greater_of before (specificity selector)) else before) e

greatest_with-yes : (subject : Subject) (state : State) (before : Option ℕ) (selector : Selector) → matches selector subject state ≡ true → greatest_with subject state before selector ≡ Some (greater_of before (specificity selector))
unfolding greatest_with
greatest_with-yes subject state before selector e = ap (λ (t : Bool). if t then Some (greater_of before (specificity selector)) else before) e

-- a selector that matches is as specific as this
record HasSpecific (subject : Subject) (state : State) (selectors : List Selector) (greatest : ℕ) : Type 0 where
  selector : Selector
  among : Contains selectors selector
  matching : matches selector subject state ≡ true
  specific : specificity selector ≡ greatest

specific-more : (subject : Subject) (state : State) (first : Selector) (more : List Selector) (greatest : ℕ) → HasSpecific subject state more greatest → HasSpecific subject state (first ∷ more) greatest
specific-more subject state first more greatest has = record {
  selector = has.selector;
  among = (suc has.among.0, omega (arith, has.among.1), has.among.2);
  matching = has.matching;
  specific = has.specific;
}

greater-parted : (before : Option ℕ) (later greatest : ℕ) → Some (greater_of before later) ≡ Some greatest → (before ≡ Some greatest) ⊎ (later ≡ greatest)
greater-parted None later greatest e = let same : later ≡ greatest = cc e in inr same
greater-parted (Some before) later greatest e = by (nat_le before later) e
  where
    by : (t : Bool) → Some (if t then later else before) ≡ Some greatest → (Some before ≡ Some greatest) ⊎ (later ≡ greatest)
    by true f = let same : later ≡ greatest = cc f in inr same
    by false f = inl f

attained : (subject : Subject) (state : State) (selectors : List Selector) (before : Option ℕ) (greatest : ℕ) → greatest_of subject state before selectors ≡ Some greatest → (before ≡ Some greatest) ⊎ HasSpecific subject state selectors greatest
attained subject state [] before greatest e = inl e
attained subject state (selector ∷ more) before greatest e = elim (attained subject state more (greatest_with subject state before selector) greatest e) [
  | inr has ↦ inr (specific-more subject state selector more greatest has)
  | inl is ↦ elim (cases_Bool (matches selector subject state)) [
    | inr lacks ↦ inl (sym (greatest_with-no subject state before selector lacks) ∙ is)
    | inl does ↦ elim (greater-parted before (specificity selector) greatest (sym (greatest_with-yes subject state before selector does) ∙ is)) [
      | inl old ↦ inl old
      | inr own ↦ inr (record { selector = selector; among = (0, omega arith, refl); matching = does; specific = own })
    ]
  ]
]

abbrev AtLeast : ℕ → Option ℕ → Type 0
AtLeast specificity found = IsSomeAnd found (λ greatest. specificity ≤ greatest)

greater-least : (least : ℕ) (before : Option ℕ) (later : ℕ) → (AtLeast least before ⊎ (least ≤ later)) → AtLeast least (Some (greater_of before later))
greater-least least None later (inl h) = absurd h
greater-least least None later (inr h) = h
greater-least least (Some before) later h = by (nat_le before later) refl h
  where
    by : (t : Bool) → nat_le before later ≡ t → (AtLeast least (Some before) ⊎ (least ≤ later)) → least ≤ (if t then later else before)
    by true e (inl k) = search (arith, nat_tests, e, k)
    by true e (inr k) = k
    by false e (inl k) = k
    by false e (inr k) = search (arith, nat_tests, e, k)

with-least : (subject : Subject) (state : State) (least : ℕ) (before : Option ℕ) (selector : Selector) → AtLeast least before → AtLeast least (greatest_with subject state before selector)
with-least subject state least before selector h = elim (cases_Bool (matches selector subject state)) [
  | inl does ↦ subst (λ (o : Option ℕ). AtLeast least o) (sym (greatest_with-yes subject state before selector does)) (greater-least least before (specificity selector) (inl h))
  | inr lacks ↦ subst (λ (o : Option ℕ). AtLeast least o) (sym (greatest_with-no subject state before selector lacks)) h
]

all-least : (subject : Subject) (state : State) (least : ℕ) (selectors : List Selector) (before : Option ℕ) → AtLeast least before → AtLeast least (greatest_of subject state before selectors)
all-least subject state least [] before h = h
all-least subject state least (selector ∷ more) before h = all-least subject state least more (greatest_with subject state before selector) (with-least subject state least before selector h)

at-least : (subject : Subject) (state : State) (selectors : List Selector) (before : Option ℕ) (selector : Selector) (place : ℕ) → matches selector subject state ≡ true → place < length selectors → slice_index_or selectors place selector ≡ selector → AtLeast (specificity selector) (greatest_of subject state before selectors)
at-least subject state [] before selector place does h e = absurd (omega (arith, h))
at-least subject state (first ∷ more) before selector zero does h e =
    all-least subject state (specificity selector) more (greatest_with subject state before first)
    (subst (λ (s : Selector). AtLeast (specificity selector) (greatest_with subject state before s)) (sym e)
    (subst (λ (o : Option ℕ). AtLeast (specificity selector) o) (sym (greatest_with-yes subject state before selector does)) (greater-least (specificity selector) before (specificity selector) (inr (omega arith)))))
at-least subject state (first ∷ more) before selector (suc place) does h e = at-least subject state more (greatest_with subject state before first) selector place does (omega (arith, h)) e

-- ---- all rules are covered

-- the rule that gives something, and the most specific of its selectors that match
record IsGiving-all (asked : Question) (number : ℕ) (offered : Candidate) : Type 0 where
  rule : Rule
  found : slice_get asked.rules number ≡ Some rule
  has : HasSpecific asked.subject asked.state rule.selectors offered.specificity
  value : last_value asked.property rule.declarations ≡ Some offered.value

none-specific : (subject : Subject) (state : State) (selectors : List Selector) (greatest : ℕ) → greatest_of subject state None selectors ≡ Some greatest → HasSpecific subject state selectors greatest
none-specific subject state selectors greatest e = elim (attained subject state selectors None greatest e) [
  | inl is ↦ absurd (cc is)
  | inr has ↦ has
]

giving-rule : (asked : Question) (number : ℕ) (rule : Rule) (offered : Candidate) (greatest : Option ℕ) (value : Option StyleValue) → slice_get asked.rules number ≡ Some rule → greatest_of asked.subject asked.state None rule.selectors ≡ greatest → last_value asked.property rule.declarations ≡ value → best_with_both None greatest value ≡ Some offered → IsGiving-all asked number offered
giving-rule asked number rule offered None value get g v e = absurd (cc e)
giving-rule asked number rule offered (Some greatest) None get g v e = absurd (cc e)
giving-rule asked number rule offered (Some greatest) (Some value) get g v e =
    let same : candidate_with greatest value ≡ offered = cc e in
    record {
      rule = rule;
      found = get;
      has = subst (λ (n : ℕ). HasSpecific asked.subject asked.state rule.selectors n) (ap (λ (c : Candidate). c.specificity) same) (none-specific asked.subject asked.state rule.selectors greatest g);
      value = v ∙ ap (λ (c : Candidate). Some c.value) same;
    }

giving-by : (asked : Question) (number : ℕ) (rule : Option Rule) (offered : Candidate) → slice_get asked.rules number ≡ rule → option_and_then (rule_offer asked.subject asked.state asked.property) rule ≡ Some offered → IsGiving-all asked number offered
giving-by asked number None offered get e = absurd (cc e)
giving-by asked number (Some rule) offered get e = giving-rule asked number rule offered (greatest_of asked.subject asked.state None rule.selectors) (last_value asked.property rule.declarations) get refl refl e

giving : (asked : Question) (number : ℕ) (offered : Candidate) → offer_of asked number ≡ Some offered → IsGiving-all asked number offered
unfolding offer_of
giving asked number offered e = giving-by asked number (slice_get asked.rules number) offered refl e

covers-none : (asked : Question) (best : Option Found) (number : ℕ) → offer_of asked number ≡ None → Covers asked best number
unfolding Covers
covers-none asked best number e = subst (λ (o : Option Candidate). IfSome o (λ c. IsSomeAnd best (IsNotAbove number c))) (sym e) tt

covers-some : (asked : Question) (best : Option Found) (number : ℕ) (offered : Candidate) → offer_of asked number ≡ Some offered → IsSomeAnd best (IsNotAbove number offered) → Covers asked best number
unfolding Covers
covers-some asked best number offered e h = subst (λ (o : Option Candidate). IfSome o (λ c. IsSomeAnd best (IsNotAbove number c))) (sym e) h

covered-some : (asked : Question) (best : Option Found) (number : ℕ) (offered : Candidate) → offer_of asked number ≡ Some offered → Covers asked best number → IsSomeAnd best (IsNotAbove number offered)
unfolding Covers
covered-some asked best number offered e h = subst (λ (o : Option Candidate). IfSome o (λ c. IsSomeAnd best (IsNotAbove number c))) e h

-- what is no weaker than what a later rule gives is no weaker than what this one does
earlier-above : (number later specificity : ℕ) (value : StyleValue) (offered : Candidate) (best : Found) → number ≤ later → specificity ≡ offered.specificity → IsNotAbove later (candidate_with specificity value) best → IsNotAbove number offered best
earlier-above number later specificity value offered best le e (inl h) = inl (omega (arith, e, h))
earlier-above number later specificity value offered best le e (inr h) = inr (omega (arith, e, h.0), omega (arith, le, h.1))

earlier-some : (number later specificity : ℕ) (value : StyleValue) (offered : Candidate) (best : Option Found) → number ≤ later → specificity ≡ offered.specificity → IsSomeAnd best (IsNotAbove later (candidate_with specificity value)) → IsSomeAnd best (IsNotAbove number offered)
earlier-some number later specificity value offered None le e h = absurd h
earlier-some number later specificity value offered (Some best) le e h = earlier-above number later specificity value offered best le e h

gives-value : (given : List (List Declaration)) (number : ℕ) (property : Property) → IsGiving given number property → (value : StyleValue) × (given_value given number property ≡ Some value)
gives-value given number property h = by (given_value given number property) refl h
  where
    by : (o : Option StyleValue) → given_value given number property ≡ o → is_some o ≡ true → (value : StyleValue) × (given_value given number property ≡ Some value)
    by None e f = absurd (cc f)
    by (Some value) e f = (value, e)

all-covered : {S : Type 0} (names : List (List ℕ)) (given : List (List Declaration)) (chains : HashMap Key Chain S) (asked : Question) (row : List (Option Found)) → AreNoted asked.rules names given chains → ((selector : Selector) (key : Key) (state : State) → IsKeyOf names key selector → matches selector asked.subject state ≡ true → CoversKey given chains row state key) → (number : ℕ) → Covers asked (found_in row asked.state asked.property) number
all-covered names given chains asked row noted covers number = by (offer_of asked number) refl
  where
    given-one : (rule : Rule) (offered : Candidate) → slice_get asked.rules number ≡ Some rule → last_value asked.property rule.declarations ≡ Some offered.value → IsGiving given number asked.property
    given-one rule offered get value = ap is_some (noted.values number asked.property ∙ ap (option_and_then (λ (r : Rule). last_value asked.property r.declarations)) get ∙ value)

    by : (o : Option Candidate) → offer_of asked number ≡ o → Covers asked (found_in row asked.state asked.property) number
    by None e = covers-none asked (found_in row asked.state asked.property) number e
    by (Some offered) e =
        let all : IsGiving-all asked number offered = giving asked number offered e in
        let one : IsNoted names given number chains all.has.selector = noted.noted number all.rule all.has.selector all.found all.has.among in
        let some : GivesSome given (chain_at chains one.key) number asked.property = one.gives asked.property (given-one all.rule offered all.found all.value) in
        let valued = gives-value given some.rule asked.property some.gives in
        covers-some asked (found_in row asked.state asked.property) number offered e
        (earlier-some number some.rule (key_specificity one.key) valued.0 offered (found_in row asked.state asked.property) some.later (key-specific names one.key all.has.selector one.key_is ∙ all.has.specific)
        (covers all.has.selector one.key asked.state one.key_is all.has.matching some.rule asked.property valued.0 some.among valued.1))

-- ---- what is given and covers all is the best

not-below : (number : ℕ) (offered : Candidate) (best : Found) → best.candidate.specificity ≤ offered.specificity → IsNotAbove number offered best → offered.specificity ≡ best.candidate.specificity
not-below number offered best le (inl h) = absurd (omega (arith, le, h))
not-below number offered best le (inr h) = h.0

offer-found-at : (asked : Question) (number : ℕ) (rule : Rule) → slice_get asked.rules number ≡ Some rule → offer_of asked number ≡ rule_offer asked.subject asked.state asked.property rule
unfolding offer_of
offer-found-at asked number rule e = ap (option_and_then (rule_offer asked.subject asked.state asked.property)) e

sound-by : (asked : Question) (best : Found) (greatest : Option ℕ) → AtLeast best.candidate.specificity greatest → offer_of asked best.rule ≡ best_with_both None greatest (Some best.candidate.value) → Covers asked (Some best) best.rule → offer_of asked best.rule ≡ Some best.candidate
sound-by asked best None h e covers = absurd h
sound-by asked best (Some greatest) h e covers =
    let same : greatest ≡ best.candidate.specificity = not-below best.rule (candidate_with greatest best.candidate.value) best h (covered-some asked (Some best) best.rule (candidate_with greatest best.candidate.value) e covers) in
    e ∙ ap (λ (n : ℕ). Some (candidate_with n best.candidate.value)) same

given-sound : (asked : Question) (best : Found) → IsGiven asked best → Covers asked (Some best) best.rule → offer_of asked best.rule ≡ Some best.candidate
given-sound asked best given covers =
    sound-by asked best (greatest_of asked.subject asked.state None given.rule.selectors)
    (subst (λ (n : ℕ). AtLeast n (greatest_of asked.subject asked.state None given.rule.selectors)) given.specificity_is (at-least asked.subject asked.state given.rule.selectors None given.selector given.among.0 given.matching given.among.1 given.among.2))
    (offer-found-at asked best.rule given.rule given.found ∙ ap (best_with_both None (greatest_of asked.subject asked.state None given.rule.selectors)) given.value_is)
    covers

given-best : (asked : Question) (best : Option Found) → IfSome best (IsGiven asked) → ((n : ℕ) → Covers asked best n) → IsSound asked best
given-best asked None given covers = tt
given-best asked (Some best) given covers = given-sound asked best given (covers best.rule)

given-empty : (asked : Question) (best : Option Found) → best ≡ None → IfSome best (IsGiven asked)
given-empty asked best e = subst (λ (o : Option Found). IfSome o (IsGiven asked)) (sym e) tt

-- ---- what a rule gives

pub offer-found : (asked : Question) (number : ℕ) (rule : Rule) → slice_get asked.rules number ≡ Some rule → offer_of asked number ≡ rule_offer asked.subject asked.state asked.property rule
offer-found asked number rule e = offer-found-at asked number rule e

pub offer-none : (asked : Question) (number : ℕ) → slice_get asked.rules number ≡ None → None ≡ offer_of asked number
unfolding offer_of
offer-none asked number e = sym (ap (option_and_then (rule_offer asked.subject asked.state asked.property)) e)

-- ---- the value

found-value : (best : Option Found) → found_value best ≡ option_map (λ (f : Found). f.candidate.value) best
found-value None = refl
found-value (Some best) = refl

pub best-value : (asked : Question) (best : Option Found) → IsSound asked best → ((n : ℕ) → Covers asked best n) → found_value best ≡ declared_value asked.rules asked.subject asked.state asked.property
best-value asked best sound covers = found-value best ∙ best-declared asked best sound covers

-- a search from an empty row finds what is declared
pub search-value : {S : Type 0} (rules : List Rule) (names : List (List ℕ)) (given : List (List Declaration)) (chains : HashMap Key Chain S) (subject : Subject) (empty row : List (Option Found)) → AreNoted rules names given chains → ((state : State) (property : Property) → found_in empty state property ≡ None) → (AreSound rules subject empty → AreSound rules subject row) → ((selector : Selector) (key : Key) (state : State) → IsKeyOf names key selector → matches selector subject state ≡ true → CoversKey given chains row state key) → (state : State) (property : Property) → value_at row state property ≡ declared_value rules subject state property
search-value rules names given chains subject empty row noted none sound covers state property =
    let asked : Question = question rules subject state property in
    let all : (n : ℕ) → Covers asked (found_in row state property) n = all-covered names given chains asked row noted covers in
    best-value asked (found_in row state property) (given-best asked (found_in row state property) (sound (λ at of. given-empty (question rules subject at of) (found_in empty at of) (none at of)) state property) all) all

-- what is declared fits
pub declared-fits : (rules : List Rule) (subject : Subject) (state : State) (property : Property) → AreFitting rules → IfSome (declared_value rules subject state property) (λ value. IsTrue (fits property value))
declared-fits rules subject state property fitting = subst (λ (o : Option StyleValue). IfSome o (λ value. IsTrue (fits property value))) (declared-found rules subject state property) (value-fits property (best_of_rules subject state property None rules) (rules-fit subject state property None rules tt fitting))
