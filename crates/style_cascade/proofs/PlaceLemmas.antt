-- The places of properties, states and cells.
use Rattle.std.proofs.Common.{◌≡◌, ◌≢◌, ℕ, zero, suc, ◌+◌, ◌*◌, ◌<◌, ◌≤◌, List, [], ◌∷◌, length, get_or, Option, Some, None, refl, sym, ◌∙◌, ap, subst, arith, ◌⊎◌, inl, inr}
use Rattle.std.specs.Prelude.{slice_get, slice_set, replicate, IfSome, IsTrue}
use Rattle.std.specs.Option.{option_flatten}
use Rattle.std.proofs.lemmas.Bool.{cases_eq}
use Rattle.std.proofs.lemmas.Option.{slice_get_read, slice_get_past}
use denote.Enum.Declared.{tag_of}
use Rattle.style_reader.specs.contracts.properties.Property.{the_type as property_type}
use Rattle.style_reader.specs.Properties.{all_properties}
use Rattle.style_reader.specs.Values.{fits}
use Rattle.style_reader.specs.declared.properties.Property.{Property}
use Rattle.style_reader.specs.declared.properties.Property.TheVariants.{Left, Top, Width, Height, Visibility, ZIndex, NavIndex, NavUp, NavDown, NavLeft, NavRight, UsedKeyList, ColorIndex, BackgroundColorIndex, BorderWidth, BorderColorIndex, FontSize}
use Rattle.style_reader.specs.declared.properties.StyleValue.{StyleValue}
use Rattle.style_cascade.specs.Candidates.{property_place}
use Rattle.style_cascade.specs.Writes.{state_place}
use Rattle.style_cascade.specs.devices.Tables.{AreFitting, cell_of, cell_place}
use Rattle.style_cascade.specs.contracts.states.State.{the_type as state_type}
use Rattle.style_cascade.specs.declared.states.State.{State}
use Rattle.style_cascade.specs.declared.states.State.TheVariants as states

pub property_place-is : (property : Property) → tag_of property_type property ≡ property_place property
unfolding property_place
property_place-is Left = refl
property_place-is Top = refl
property_place-is Width = refl
property_place-is Height = refl
property_place-is Visibility = refl
property_place-is ZIndex = refl
property_place-is NavIndex = refl
property_place-is NavUp = refl
property_place-is NavDown = refl
property_place-is NavLeft = refl
property_place-is NavRight = refl
property_place-is UsedKeyList = refl
property_place-is ColorIndex = refl
property_place-is BackgroundColorIndex = refl
property_place-is BorderWidth = refl
property_place-is BorderColorIndex = refl
property_place-is FontSize = refl

pub state_place-is : (state : State) → tag_of state_type state ≡ state_place state
unfolding state_place
state_place-is states.Normal = refl
state_place-is states.Focus = refl
state_place-is states.Active = refl

abbrev pub property_at : ℕ → Property
property_at place = get_or all_properties place Left

pub property_at-place : (property : Property) → property_at (property_place property) ≡ property
unfolding property_place
property_at-place Left = refl
property_at-place Top = refl
property_at-place Width = refl
property_at-place Height = refl
property_at-place Visibility = refl
property_at-place ZIndex = refl
property_at-place NavIndex = refl
property_at-place NavUp = refl
property_at-place NavDown = refl
property_at-place NavLeft = refl
property_at-place NavRight = refl
property_at-place UsedKeyList = refl
property_at-place ColorIndex = refl
property_at-place BackgroundColorIndex = refl
property_at-place BorderWidth = refl
property_at-place BorderColorIndex = refl
property_at-place FontSize = refl

-- two properties in one place are one
pub property_place-one : (one other : Property) → property_place one ≡ property_place other → one ≡ other
property_place-one one other e = sym (property_at-place one) ∙ ap property_at e ∙ property_at-place other

pub property_place-small : (property : Property) → property_place property < 17
unfolding property_place
property_place-small Left = omega arith
property_place-small Top = omega arith
property_place-small Width = omega arith
property_place-small Height = omega arith
property_place-small Visibility = omega arith
property_place-small ZIndex = omega arith
property_place-small NavIndex = omega arith
property_place-small NavUp = omega arith
property_place-small NavDown = omega arith
property_place-small NavLeft = omega arith
property_place-small NavRight = omega arith
property_place-small UsedKeyList = omega arith
property_place-small ColorIndex = omega arith
property_place-small BackgroundColorIndex = omega arith
property_place-small BorderWidth = omega arith
property_place-small BorderColorIndex = omega arith
property_place-small FontSize = omega arith

abbrev state_at : ℕ → State
state_at place = get_or (states.Normal ∷ states.Focus ∷ states.Active ∷ []) place states.Normal

state_at-place : (state : State) → state_at (state_place state) ≡ state
unfolding state_place
state_at-place states.Normal = refl
state_at-place states.Focus = refl
state_at-place states.Active = refl

pub state_place-one : (one other : State) → state_place one ≡ state_place other → one ≡ other
state_place-one one other e = sym (state_at-place one) ∙ ap state_at e ∙ state_at-place other

pub state_place-small : (state : State) → state_place state < 3
unfolding state_place
state_place-small states.Normal = omega arith
state_place-small states.Focus = omega arith
state_place-small states.Active = omega arith

-- ---- cells

parts : (n m s t p q : ℕ) → s < 3 → t < 3 → p < 17 → q < 17 → 51 * n + (17 * s + p) ≡ 51 * m + (17 * t + q) → (n ≡ m) × (s ≡ t) × (p ≡ q)
parts n m s t p q hs ht hp hq e =
    let nodes : n ≡ m = omega arith in
    let rest : 17 * s + p ≡ 17 * t + q = omega arith in
    let state : s ≡ t = omega arith in
    (nodes, state, omega arith)

-- one cell is that of one node, state and property
pub cell_place-one : (node other : ℕ) (state at : State) (property of : Property) → cell_place node state property ≡ cell_place other at of → (node ≡ other) × (state ≡ at) × (property ≡ of)
unfolding cell_place
cell_place-one node other state at property of e =
    let found = parts node other (state_place state) (state_place at) (property_place property) (property_place of) (state_place-small state) (state_place-small at) (property_place-small property) (property_place-small of) e in
    (found.0, state_place-one state at found.1, property_place-one property of found.2)

pub cell_place-within : (node : ℕ) (state : State) (property : Property) → cell_place node state property < 51 * node + 51
unfolding cell_place
cell_place-within node state property = omega (arith, state_place-small state, property_place-small property)

pub get-set : {A : Type 0} (cells : List A) (i : ℕ) (v : A) → i < length cells → slice_get (slice_set cells i v) i ≡ Some v
get-set [] i v h = absurd (omega (arith, h))
get-set (cell ∷ cells) zero v h = refl
get-set (cell ∷ cells) (suc i) v h = get-set cells i v (omega (arith, h))

pub get-set_other : {A : Type 0} (cells : List A) (i k : ℕ) (v : A) → k ≢ i → slice_get (slice_set cells i v) k ≡ slice_get cells k
get-set_other [] i k v ne = refl
get-set_other (cell ∷ cells) zero zero v ne = absurd (ne refl)
get-set_other (cell ∷ cells) zero (suc k) v ne = refl
get-set_other (cell ∷ cells) (suc i) zero v ne = refl
get-set_other (cell ∷ cells) (suc i) (suc k) v ne = get-set_other cells i k v (λ e. ne (ap (λ n. suc n) e))

pub cell_of-put : (cells : List (Option StyleValue)) (node : ℕ) (state : State) (property : Property) (value : Option StyleValue) → 51 * node + 51 ≤ length cells → cell_of (slice_set cells (cell_place node state property) value) node state property ≡ value
unfolding cell_of
cell_of-put cells node state property value h = ap option_flatten (get-set cells (cell_place node state property) value (omega (arith, h, cell_place-within node state property)))

pub cell_of-others : (cells : List (Option StyleValue)) (node other : ℕ) (state at : State) (property of : Property) (value : Option StyleValue) → ((other ≡ node) × (at ≡ state) × (of ≡ property) → ⊥) → cell_of (slice_set cells (cell_place node state property) value) other at of ≡ cell_of cells other at of
unfolding cell_of
cell_of-others cells node other state at property of value ne = ap option_flatten (get-set_other cells (cell_place node state property) (cell_place other at of) value (λ e. ne (cell_place-one other node at state of property e)))

-- a table still fits once a fitting value is put into it
pub AreFitting-put : (cells : List (Option StyleValue)) (node : ℕ) (state : State) (property : Property) (value : Option StyleValue) → 51 * node + 51 ≤ length cells → IfSome value (λ v. IsTrue (fits property v)) → AreFitting cells → AreFitting (slice_set cells (cell_place node state property) value)
AreFitting-put cells node state property value h ok fitting = record { each = λ other at of found is. by other at of found is (cases_eq (cell_place other at of) (cell_place node state property)) }
  where
    by : (other : ℕ) (at : State) (of : Property) (found : StyleValue) → cell_of (slice_set cells (cell_place node state property) value) other at of ≡ Some found → (cell_place other at of ≡ cell_place node state property) ⊎ (cell_place other at of ≢ cell_place node state property) → IsTrue (fits of found)
    by other at of found is (inl e) =
        let same = cell_place-one other node at state of property e in
        let put : cell_of (slice_set cells (cell_place node state property) value) other at of ≡ value =
        subst (λ (n : ℕ). cell_of (slice_set cells (cell_place node state property) value) n at of ≡ value) (sym same.0)
        (subst (λ (s : State). cell_of (slice_set cells (cell_place node state property) value) node s of ≡ value) (sym same.1)
        (subst (λ (p : Property). cell_of (slice_set cells (cell_place node state property) value) node state p ≡ value) (sym same.2) (cell_of-put cells node state property value h))) in
        let fitting_value : IfSome (Some found) (λ v. IsTrue (fits property v)) = subst (λ (o : Option StyleValue). IfSome o (λ v. IsTrue (fits property v))) (sym put ∙ is) ok in
        subst (λ (p : Property). IsTrue (fits p found)) (sym same.2) fitting_value
    by other at of found is (inr ne) =
        let old : cell_of cells other at of ≡ Some found = sym (cell_of-others cells node other state at property of value (λ same. ne (ap (λ (n : ℕ). cell_place n at of) same.0 ∙ ap (λ (s : State). cell_place node s of) same.1 ∙ ap (λ (p : Property). cell_place node state p) same.2))) ∙ is in
        fitting.each other at of found old

abbrev pub no_value : Option StyleValue
no_value = None

-- a table of empty cells
pub cell_of-empty : (n : ℕ) (cells : List (Option StyleValue)) → cells ≡ replicate n None → (node : ℕ) (state : State) (property : Property) → cell_of cells node state property ≡ None
unfolding cell_of
cell_of-empty n cells e node state property = subst (λ (c : List (Option StyleValue)). option_flatten (slice_get c (cell_place node state property)) ≡ None) (sym e) (none_at n (cell_place node state property))
  where
    none_at : (n i : ℕ) → option_flatten (slice_get (replicate n no_value) i) ≡ None
    none_at zero i = refl
    none_at (suc n) zero = refl
    none_at (suc n) (suc i) = none_at n i

pub AreFitting-empty : (n : ℕ) (cells : List (Option StyleValue)) → cells ≡ replicate n None → AreFitting cells
AreFitting-empty n cells e = record { each = λ node state property value is. let both : None ≡ Some value = sym (cell_of-empty n cells e node state property) ∙ is in absurd (cc) }

-- a cell as it is read
pub cell_of-some : (read cells : List (Option StyleValue)) (place node : ℕ) (state : State) (property : Property) (value : Option StyleValue) → read ≡ cells → place ≡ cell_place node state property → place < length read → value ≡ get_or read place value → value ≡ cell_of cells node state property
unfolding cell_of
cell_of-some read cells place node state property value same at h is =
    sym (ap (λ (c : List (Option StyleValue)). option_flatten (slice_get c (cell_place node state property))) (sym same) ∙ ap (λ (k : ℕ). option_flatten (slice_get read k)) (sym at) ∙ ap option_flatten (slice_get_read read (length read) place value refl h is))

pub cell_of-past : (read cells : List (Option StyleValue)) (place node : ℕ) (state : State) (property : Property) → read ≡ cells → place ≡ cell_place node state property → length read ≤ place → no_value ≡ cell_of cells node state property
unfolding cell_of
cell_of-past read cells place node state property same at h =
    sym (ap (λ (c : List (Option StyleValue)). option_flatten (slice_get c (cell_place node state property))) (sym same) ∙ ap (λ (k : ℕ). option_flatten (slice_get read k)) (sym at) ∙ ap option_flatten (slice_get_past read place h))

pub fitting-some : (cells : List (Option StyleValue)) → AreFitting cells → (node : ℕ) (state : State) (property : Property) (value : Option StyleValue) → value ≡ cell_of cells node state property → IfSome value (λ v. IsTrue (fits property v))
fitting-some cells fitting node state property None e = tt
fitting-some cells fitting node state property (Some value) e = fitting.each node state property value (sym e)
