-- Rows of what was found.
use Rattle.std.proofs.Common.{◌≡◌, ◌≢◌, ℕ, zero, suc, ◌+◌, ◌<◌, ◌≤◌, Bool, true, false, List, [], ◌∷◌, length, get_or, Option, Some, None, inl, inr, refl, sym, ◌∙◌, ap, subst, arith}
use Rattle.std.proofs.lemmas.Bool.{eqb-true}
use Rattle.std.proofs.lemmas.Option.{slice_get_past, slice_get_read}
use Rattle.std.proofs.lemmas.Bool.Decides.{nat_tests}
use Rattle.std.specs.Prelude.{◌==◌, nat_le, nat_lt, ◌&&◌, ◌||◌, if◌then◌else◌, replicate, slice_get, slice_set}
use Rattle.std.specs.Option.{option_flatten, option_or}
use Rattle.style_reader.specs.declared.declarations.Declaration.{Declaration}
use Rattle.style_reader.specs.declared.properties.Property.{Property}
use Rattle.style_reader.specs.declared.properties.StyleValue.{StyleValue}
use Rattle.style_reader.specs.declared.rules.Rule.{Rule}
use Rattle.style_cascade.specs.Candidates.{is_same_property, last_value, property_place}
use Rattle.style_cascade.specs.devices.Indexing.{Covers, IsSound, Question, better_of, is_weaker, offer_of, rule_offer, with_offer}
use Rattle.style_cascade.specs.devices.Rows.{found_in}
use Rattle.style_cascade.specs.devices.Searching.{best_with_both}
use Rattle.style_cascade.specs.devices.Tables.{cell_place}
use Rattle.style_cascade.specs.declared.rows.Found.{Found}
use Rattle.style_cascade.specs.declared.search.Candidate.{Candidate}
use Rattle.style_cascade.specs.declared.states.State.{State}
use Rattle.style_cascade.specs.declared.states.State.TheVariants as states
use Rattle.style_cascade.specs.declared.subjects.Subject.{Subject}
use Rattle.style_cascade.proofs.ChainLemmas.{below-or_at}
use Rattle.style_cascade.proofs.IndexLemmas.{covers-more, covers-own, sound-more}
use Rattle.style_cascade.proofs.PlaceLemmas.{cell_place-one, cell_place-within, get-set, get-set_other, property_place-one}

-- ---- cells

pub found_in-put : (row : List (Option Found)) (state : State) (property : Property) (found : Option Found) → length row ≡ 51 → found_in (slice_set row (cell_place 0 state property) found) state property ≡ found
unfolding found_in
found_in-put row state property found long = ap option_flatten (get-set row (cell_place 0 state property) found (omega (arith, long, cell_place-within 0 state property)))

pub found_in-others : (row : List (Option Found)) (state at : State) (property of : Property) (found : Option Found) → ((at ≡ state) × (of ≡ property) → ⊥) → found_in (slice_set row (cell_place 0 state property) found) at of ≡ found_in row at of
unfolding found_in
found_in-others row state at property of found ne = ap option_flatten (get-set_other row (cell_place 0 state property) (cell_place 0 at of) found (λ e. let same = cell_place-one 0 0 at state of property e in ne (same.1, same.2)))

abbrev pub no_found : Option Found
no_found = None

pub found_in-empty : (n : ℕ) (row : List (Option Found)) → row ≡ replicate n None → (state : State) (property : Property) → found_in row state property ≡ None
unfolding found_in
found_in-empty n row e state property = subst (λ (c : List (Option Found)). option_flatten (slice_get c (cell_place 0 state property)) ≡ None) (sym e) (none_at n (cell_place 0 state property))
  where
    none_at : (n i : ℕ) → option_flatten (slice_get (replicate n no_found) i) ≡ None
    none_at zero i = refl
    none_at (suc n) zero = refl
    none_at (suc n) (suc i) = none_at n i

pub found_in-some : (read row : List (Option Found)) (place : ℕ) (state : State) (property : Property) (found : Option Found) → read ≡ row → place ≡ cell_place 0 state property → place < length read → found ≡ get_or read place found → found ≡ found_in row state property
unfolding found_in
found_in-some read row place state property found same at h is =
    sym (ap (λ (c : List (Option Found)). option_flatten (slice_get c (cell_place 0 state property))) (sym same) ∙ ap (λ (k : ℕ). option_flatten (slice_get read k)) (sym at) ∙ ap option_flatten (slice_get_read read (length read) place found refl h is))

pub found_in-past : (read row : List (Option Found)) (place : ℕ) (state : State) (property : Property) → read ≡ row → place ≡ cell_place 0 state property → length read ≤ place → no_found ≡ found_in row state property
unfolding found_in
found_in-past read row place state property same at h =
    sym (ap (λ (c : List (Option Found)). option_flatten (slice_get c (cell_place 0 state property))) (sym same) ∙ ap (λ (k : ℕ). option_flatten (slice_get read k)) (sym at) ∙ ap option_flatten (slice_get_past read place h))

-- ---- declarations of one rule, one by one

abbrev pub given_at : ℕ → StyleValue → Candidate
given_at specificity value = record { specificity = specificity; value = value }

abbrev found_at : ℕ → Candidate → Found
found_at number candidate = record { rule = number; candidate = candidate }

no-weaker : (n s : ℕ) → (nat_lt s s || ((s == s) && nat_le n n)) ≡ true
no-weaker n s = grind (arith, nat_tests)

twice-better : (t : Bool) (best : Found) (number s : ℕ) (v w : StyleValue) → is_weaker best number (given_at s v) ≡ t → better_of (Some best) number (given_at s w) ≡ better_of (Some (if t then found_at number (given_at s v) else best)) number (given_at s w)
twice-better true best number s v w e =
    ap (λ (b : Bool). if b then found_at number (given_at s w) else best) e
    ∙ sym (ap (λ (b : Bool). if b then found_at number (given_at s w) else found_at number (given_at s v)) (no-weaker number s))
twice-better false best number s v w e = refl

twice-offered : (best : Option Found) (number s : ℕ) (v w : StyleValue) → with_offer best number (Some (given_at s w)) ≡ with_offer (with_offer best number (Some (given_at s v))) number (Some (given_at s w))
twice-offered None number s v w = ap (λ (b : Bool). Some (if b then found_at number (given_at s w) else found_at number (given_at s v))) (sym (no-weaker number s))
twice-offered (Some best) number s v w = ap (λ (f : Found). Some f) (twice-better (is_weaker best number (given_at s v)) best number s v w refl)

-- what the first of some declarations gives, and then the others
pub offer-first : (best next : Option Found) (number s : ℕ) (property : Property) (declaration : Declaration) (more : Option StyleValue) (t : Bool) → is_same_property declaration.property property ≡ t → (t ≡ true → next ≡ with_offer best number (Some (given_at s declaration.value))) → (t ≡ false → next ≡ best) → with_offer best number (best_with_both None (Some s) (option_or more (if t then Some declaration.value else None))) ≡ with_offer next number (best_with_both None (Some s) more)
offer-first best next number s property declaration None true e put kept = sym (put refl)
offer-first best next number s property declaration (Some value) true e put kept = twice-offered best number s declaration.value value ∙ sym (ap (λ (b : Option Found). with_offer b number (Some (given_at s value))) (put refl))
offer-first best next number s property declaration None false e put kept = sym (kept refl)
offer-first best next number s property declaration (Some value) false e put kept = sym (ap (λ (b : Option Found). with_offer b number (Some (given_at s value))) (kept refl))

offer-next : (best next : Option Found) (number s : ℕ) (property : Property) (declaration : Declaration) (more : List Declaration) → (property ≡ declaration.property → next ≡ with_offer best number (Some (given_at s declaration.value))) → ((property ≡ declaration.property → ⊥) → next ≡ best) → with_offer next number (best_with_both None (Some s) (last_value property more)) ≡ with_offer best number (best_with_both None (Some s) (last_value property (declaration ∷ more)))
offer-next best next number s property declaration more put kept =
    sym (offer-first best next number s property declaration (last_value property more) (is_same_property declaration.property property) refl
    (λ e. put (sym (property_place-one declaration.property property (eqb-true (property_place declaration.property) (property_place property) e))))
    (λ e. kept (λ same. differ same e)))
  where
    equal : (n : ℕ) → (n == n) ≡ true
    equal n = grind (arith, nat_tests)

    differ : property ≡ declaration.property → is_same_property declaration.property property ≡ false → ⊥
    differ same e =
        let is : is_same_property declaration.property property ≡ true = subst (λ (p : Property). is_same_property declaration.property p ≡ true) (sym same) (equal (property_place declaration.property)) in
        let both : true ≡ false = sym is ∙ e in
        cc both

-- some declarations were offered, and the others give the rest
pub record AreOffered (state : State) (number s : ℕ) (declarations rest : List Declaration) (before row : List (Option Found)) : Type 0 where
  pub here : (property : Property) → with_offer (found_in row state property) number (best_with_both None (Some s) (last_value property rest)) ≡ with_offer (found_in before state property) number (best_with_both None (Some s) (last_value property declarations))
  pub others : (at : State) (property : Property) → at ≢ state → found_in row at property ≡ found_in before at property

pub offered-start : (state : State) (number s : ℕ) (declarations rest : List Declaration) (before : List (Option Found)) → rest ≡ declarations → AreOffered state number s declarations rest before before
offered-start state number s declarations rest before e =
    record {
      here = λ property. ap (λ (l : List Declaration). with_offer (found_in before state property) number (best_with_both None (Some s) (last_value property l))) e;
      others = λ at property ne. refl;
    }

pub offered-more : (state : State) (number s : ℕ) (declarations rest more : List Declaration) (before row next : List (Option Found)) (declaration : Declaration) → rest ≡ declaration ∷ more → found_in next state declaration.property ≡ with_offer (found_in row state declaration.property) number (Some (given_at s declaration.value)) → ((at : State) (of : Property) → ((at ≡ state) × (of ≡ declaration.property) → ⊥) → found_in next at of ≡ found_in row at of) → AreOffered state number s declarations rest before row → AreOffered state number s declarations more before next
offered-more state number s declarations rest more before row next declaration is put kept so_far =
    record {
      here = λ property.
          offer-next (found_in row state property) (found_in next state property) number s property declaration more
          (λ same. subst (λ (p : Property). found_in next state p ≡ with_offer (found_in row state p) number (Some (given_at s declaration.value))) (sym same) put)
          (λ ne. kept state property (λ same. ne same.1))
          ∙ ap (λ (l : List Declaration). with_offer (found_in row state property) number (best_with_both None (Some s) (last_value property l))) (sym is)
          ∙ so_far.here property;
      others = λ at property ne. kept at property (λ same. ne same.0) ∙ so_far.others at property ne;
    }

pub offered-end : (state : State) (number s : ℕ) (declarations rest : List Declaration) (before row : List (Option Found)) → AreOffered state number s declarations rest before row → rest ≡ [] → (property : Property) → found_in row state property ≡ with_offer (found_in before state property) number (best_with_both None (Some s) (last_value property declarations))
offered-end state number s declarations rest before row so_far e property = sym (ap (λ (l : List Declaration). with_offer (found_in row state property) number (best_with_both None (Some s) (last_value property l))) e) ∙ so_far.here property

-- ---- a rule

pub offer-nothing : (best : Option Found) (number : ℕ) (greatest : Option ℕ) (value : Option StyleValue) → greatest ≡ None → best ≡ with_offer best number (best_with_both None greatest value)
offer-nothing best number greatest value e = sym (ap (λ (g : Option ℕ). with_offer best number (best_with_both None g value)) e)

-- what a rule gives in a state is offered, and nothing else
pub record IsOffered (subject : Subject) (rule : Rule) (number : ℕ) (state : State) (before after : List (Option Found)) : Type 0 where
  pub here : (property : Property) → found_in after state property ≡ with_offer (found_in before state property) number (rule_offer subject state property rule)
  pub others : (at : State) (property : Property) → at ≢ state → found_in after at property ≡ found_in before at property

pub offered-each : (subject : Subject) (rule : Rule) (number : ℕ) (before one two after : List (Option Found)) → IsOffered subject rule number states.Normal before one → IsOffered subject rule number states.Focus one two → IsOffered subject rule number states.Active two after → (state : State) (property : Property) → found_in after state property ≡ with_offer (found_in before state property) number (rule_offer subject state property rule)
offered-each subject rule number before one two after normal focus active states.Normal property = active.others states.Normal property (λ e. cc e) ∙ focus.others states.Normal property (λ e. cc e) ∙ normal.here property
offered-each subject rule number before one two after normal focus active states.Focus property = active.others states.Focus property (λ e. cc e) ∙ focus.here property ∙ ap (λ (f : Option Found). with_offer f number (rule_offer subject states.Focus property rule)) (normal.others states.Focus property (λ e. cc e))
offered-each subject rule number before one two after normal focus active states.Active property = active.here property ∙ ap (λ (f : Option Found). with_offer f number (rule_offer subject states.Active property rule)) (focus.others states.Active property (λ e. cc e) ∙ normal.others states.Active property (λ e. cc e))

-- ---- all rules in their order

pub sound-next : (asked : Question) (best next : Option Found) (number : ℕ) → next ≡ with_offer best number (offer_of asked number) → IsSound asked best → IsSound asked next
sound-next asked best next number e sound = subst (λ (o : Option Found). IsSound asked o) (sym e) (sound-more asked best number sound)

pub covers-next : (asked : Question) (best next : Option Found) (number k : ℕ) → next ≡ with_offer best number (offer_of asked number) → k < number + 1 → (k < number → Covers asked best k) → Covers asked next k
covers-next asked best next number k e h before =
    subst (λ (o : Option Found). Covers asked o k) (sym e)
    (elim (below-or_at k number h) [
      | inl lt ↦ covers-more asked best number k (before lt)
      | inr at ↦ subst (λ (n : ℕ). Covers asked (with_offer best number (offer_of asked number)) n) (sym at) (covers-own asked best number)
    ])

pub sound-empty : (asked : Question) (best : Option Found) → best ≡ None → IsSound asked best
sound-empty asked best e = subst (λ (o : Option Found). IsSound asked o) (sym e) tt
