-- Which of the declarations for an element gives it a property (CSS level 1, 3.2, cascading order).
use Rattle.std.specs.Prelude.{ℕ, ◌==◌, nat_le, nat_lt, Bool, ◌&&◌, ◌||◌, List, [], ◌∷◌, Option, Some, None, filter, option_map, if◌then◌else◌}
use Rattle.std.specs.Option.{option_map_or, option_or}
use Rattle.style_reader.specs.Readings.{inline_rules_of}
use Rattle.style_reader.specs.Rules.{Given, given_by}
use Rattle.style_reader.specs.Selectors.{specificity}
use Rattle.style_reader.specs.declared.declarations.Declaration.{Declaration}
use Rattle.style_reader.specs.declared.properties.Property.{Property}
use Rattle.style_reader.specs.declared.properties.Property.TheVariants.{Left, Top, Width, Height, Visibility, ZIndex, NavIndex, NavUp, NavDown, NavLeft, NavRight, UsedKeyList, ColorIndex, BackgroundColorIndex, BorderWidth, BorderColorIndex, FontSize}
use Rattle.style_reader.specs.declared.properties.StyleValue.{StyleValue}
use Rattle.style_reader.specs.declared.rules.Rule.{Rule}
use Rattle.style_cascade.specs.Matching.{matches}
use Rattle.style_cascade.specs.declared.states.State.{State}
use Rattle.style_cascade.specs.declared.subjects.Subject.{Subject}

-- the place of a property in the table of all
unfoldable pub property_place : Property → ℕ
property_place Left = 0
property_place Top = 1
property_place Width = 2
property_place Height = 3
property_place Visibility = 4
property_place ZIndex = 5
property_place NavIndex = 6
property_place NavUp = 7
property_place NavDown = 8
property_place NavLeft = 9
property_place NavRight = 10
property_place UsedKeyList = 11
property_place ColorIndex = 12
property_place BackgroundColorIndex = 13
property_place BorderWidth = 14
property_place BorderColorIndex = 15
property_place FontSize = 16

abbrev pub is_same_property : Property → Property → Bool
is_same_property one other = property_place one == property_place other

-- what is given to the element in the state for the property
abbrev pub is_candidate : Subject → State → Property → Given → Bool
is_candidate subject state property given =
    is_same_property given.property property && matches given.selector subject state

abbrev pub candidates : List Rule → Subject → State → Property → List Given
candidates rules subject state property =
    filter (is_candidate subject state property) (given_by rules)

-- The more specific selector counts, and of equally specific ones the later declaration.
abbrev pub is_at_least : Given → Given → Bool
is_at_least one other =
    nat_lt (specificity other.selector) (specificity one.selector)
    || ((specificity one.selector == specificity other.selector)
    && nat_le other.order one.order)

abbrev pub stronger : Option Given → Given → Given
stronger None given = given
stronger (Some best) given = if is_at_least given best then given else best

abbrev pub strongest_from : Option Given → List Given → Option Given
strongest_from best [] = best
strongest_from best (given ∷ more) = strongest_from (Some (stronger best given)) more

-- the strongest of them (that it is, is a law)
unfoldable pub strongest : List Given → Option Given
strongest given = strongest_from None given

-- what rules give an element in a state for a property
unfoldable pub declared_value : List Rule → Subject → State → Property → Option StyleValue
declared_value rules subject state property =
    option_map (λ given. given.value) (strongest (candidates rules subject state property))

-- the rules of the attribute `style`; their selectors are `*`
abbrev pub inline_rules : Subject → List Rule
inline_rules subject = option_map_or inline_rules_of subject.style []

-- what the attribute `style` gives the element
abbrev pub inline_value : Subject → State → Property → Option StyleValue
inline_value subject state property =
    declared_value (inline_rules subject) subject state property

-- the last declaration of the property (that an inline text gives this is a law)
abbrev pub last_value : Property → List Declaration → Option StyleValue
last_value property [] = None
last_value property (declaration ∷ more) =
    option_or (last_value property more)
    (if is_same_property declaration.property property then Some declaration.value else None)
