-- A device of the proofs: selectors with a number in place of each name. The number of a name is its
-- place among the names of all rules.
use Rattle.std.specs.Prelude.{◌≡◌, ℕ, ◌+◌, ◌*◌, nat_eq, Bool, true, false, ◌&&◌, List, Option, Some, None, ◌⊎◌, option_map, position, Contains}
use Rattle.std.specs.List.{list_any}
use Rattle.std.specs.Option.{option_eq}
use denote.Enum.Bare.{sameb}
use Rattle.bml_bytes.specs.Words.{is_same}
use Rattle.style_reader.specs.Selectors.{one_if_some}
use Rattle.style_reader.specs.declared.selectors.Mark.{Mark}
use Rattle.style_reader.specs.declared.selectors.Mark.TheVariants.{Class, Id}
use Rattle.style_reader.specs.declared.selectors.PseudoClass.{PseudoClass}
use Rattle.style_reader.specs.declared.selectors.PseudoClass.TheVariants as pseudo_classes
use Rattle.style_reader.specs.declared.selectors.Selector.{Selector}
use Rattle.style_cascade.specs.Matching.{has_mark, has_tag}
use Rattle.style_cascade.specs.contracts.keys.When.{the_type as the_whens}
use Rattle.style_cascade.specs.declared.keys.Asked.{Asked}
use Rattle.style_cascade.specs.declared.keys.Key.{Key}
use Rattle.style_cascade.specs.declared.keys.When.{When}
use Rattle.style_cascade.specs.declared.keys.When.TheVariants as whens
use Rattle.style_cascade.specs.declared.states.State.{State}
use Rattle.style_cascade.specs.declared.states.State.TheVariants as states
use Rattle.style_cascade.specs.declared.subjects.Subject.{Subject}

-- ---- numbers

abbrev pub is_known : List (List ℕ) → List ℕ → Bool
is_known names name = list_any (is_same name) names

-- what was known is known still
abbrev pub KnowsMore : List (List ℕ) → List (List ℕ) → Type 0
KnowsMore before after = (name : List ℕ) → is_known before name ≡ true → is_known after name ≡ true

abbrev pub number_of : List (List ℕ) → List ℕ → Option ℕ
number_of names name = position (is_same name) names

-- none where the name isn't known
abbrev pub number_in : List (List ℕ) → Option (List ℕ) → Option (Option ℕ)
number_in names None = Some None
number_in names (Some name) = option_map (λ number. Some number) (number_of names name)

-- nothing is asked for, or a name that is known
abbrev pub IsKnown : List (List ℕ) → Option (List ℕ) → Type 0
IsKnown names None = Unit {0}
IsKnown names (Some name) = is_known names name ≡ true

-- ---- selectors

abbrev pub class_in : Option Mark → Option (List ℕ)
class_in None = None
class_in (Some (Class name)) = Some name
class_in (Some (Id name)) = None

abbrev pub id_in : Option Mark → Option (List ℕ)
id_in None = None
id_in (Some (Class name)) = None
id_in (Some (Id name)) = Some name

abbrev pub when_of : Option PseudoClass → When
when_of None = whens.Always
when_of (Some pseudo_classes.Focus) = whens.Focused
when_of (Some pseudo_classes.Active) = whens.Active

abbrev pub is_for_when : When → State → Bool
is_for_when whens.Always state = true
is_for_when whens.Focused states.Normal = false
is_for_when whens.Focused states.Focus = true
is_for_when whens.Focused states.Active = false
is_for_when whens.Active states.Normal = false
is_for_when whens.Active states.Focus = false
is_for_when whens.Active states.Active = true

-- the names that the selector asks for are known
pub record AreKnown (names : List (List ℕ)) (selector : Selector) : Type 0 where
  pub tag : IsKnown names selector.tag
  pub class : IsKnown names (class_in selector.mark)
  pub id : IsKnown names (id_in selector.mark)

-- these are the numbers of the names that the selector asks for
pub record IsAsked (names : List (List ℕ)) (asked : Asked) (selector : Selector) : Type 0 where
  pub tag : number_in names selector.tag ≡ Some asked.tag
  pub class : number_in names (class_in selector.mark) ≡ Some asked.class
  pub id : number_in names (id_in selector.mark) ≡ Some asked.id

pub record IsKeyOf (names : List (List ℕ)) (key : Key) (selector : Selector) : Type 0 where
  pub asked : IsAsked names key.asked selector
  pub when : key.when ≡ when_of selector.pseudo_class

-- one of the selectors has this key
pub record HasKey (names : List (List ℕ)) (key : Key) (selectors : List Selector) : Type 0 where
  pub selector : Selector
  pub among : Contains selectors selector
  pub key_is : IsKeyOf names key selector

-- ---- keys

abbrev pub same_key : Key → Key → Bool
same_key one other =
    (option_eq nat_eq one.asked.tag other.asked.tag
    && (option_eq nat_eq one.asked.class other.asked.class
    && option_eq nat_eq one.asked.id other.asked.id))
    && sameb the_whens one.when other.when

abbrev pub when_weight : When → ℕ
when_weight whens.Always = 0
when_weight whens.Focused = 10
when_weight whens.Active = 10

unfoldable pub key_specificity : Key → ℕ
key_specificity key =
    100 * one_if_some key.asked.id + 10 * one_if_some key.asked.class + when_weight key.when
    + one_if_some key.asked.tag

abbrev pub asked_with : Option ℕ → Option ℕ → Option ℕ → Asked
asked_with tag class id = record { tag = tag; class = class; id = id }

abbrev pub key_with : Asked → When → Key
key_with asked when = record { asked = asked; when = when }

-- ---- elements

-- what asks so is asked of this element
abbrev pub IsFor : List (List ℕ) → Subject → Asked → Type 0
IsFor names subject asked =
    (selector : Selector) → IsAsked names asked selector
    → (has_tag selector.tag subject ≡ true) × (has_mark selector.mark subject ≡ true)

abbrev pub IsForTag : List (List ℕ) → Subject → Option ℕ → Type 0
IsForTag names subject tag =
    (asked : Option (List ℕ)) → number_in names asked ≡ Some tag → has_tag asked subject ≡ true

abbrev pub is_among : ℕ → List ℕ → Bool
is_among number numbers = list_any (nat_eq number) numbers

-- they are the numbers of those of the classes that are known
pub record AreClasses (names classes : List (List ℕ)) (numbers : List ℕ) : Type 0 where
  pub all : (name : List ℕ) (number : ℕ) → list_any (is_same name) classes ≡ true →
      number_of names name ≡ Some number → is_among number numbers ≡ true
  pub only : (name : List ℕ) (number : ℕ) → is_among number numbers ≡ true →
      number_of names name ≡ Some number → list_any (is_same name) classes ≡ true

-- the numbers once that of one more class came, if it has one
pub record IsCounted (names : List (List ℕ)) (class numbers more : List ℕ) : Type 0 where
  pub kept : (number : ℕ) → is_among number numbers ≡ true → is_among number more ≡ true
  pub own : (number : ℕ) → number_of names class ≡ Some number → is_among number more ≡ true
  pub only : (number : ℕ) → is_among number more ≡ true →
      (is_among number numbers ≡ true) ⊎ (number_of names class ≡ Some number)
