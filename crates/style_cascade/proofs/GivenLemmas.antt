-- The last declarations of each property.
use Rattle.std.proofs.Common.{◌≡◌, ℕ, nat_eq, Bool, true, false, List, [], ◌∷◌, ◌++◌, Option, Some, None, ◌⊎◌, inl, inr, refl, sym, ◌∙◌, ap, subst}
use Rattle.std.proofs.lemmas.Bool.{cases_Bool, eqb-true}
use Rattle.std.specs.Prelude.{is_some, if◌then◌else◌}
use Rattle.std.specs.Option.{option_or}
use Rattle.style_reader.specs.declared.declarations.Declaration.{Declaration}
use Rattle.style_reader.specs.declared.properties.Property.{Property}
use Rattle.style_reader.specs.declared.properties.StyleValue.{StyleValue}
use Rattle.style_cascade.specs.Candidates.{is_same_property, last_value, property_place}
use denote.Enum.Bare.{sameb}
use denote.Enum.Declared.{tag_of}
use Rattle.style_reader.specs.contracts.properties.Property.{the_type as property_type}
use Rattle.style_cascade.proofs.PlaceLemmas.{property_place-is, property_place-one}

abbrev own_value : Property → Declaration → Option StyleValue
own_value property declaration = if is_same_property declaration.property property then Some declaration.value else None

or-or : (a b c : Option StyleValue) → option_or (option_or a b) c ≡ option_or a (option_or b c)
or-or None b c = refl
or-or (Some a) b c = refl

or-none : (a : Option StyleValue) → option_or a None ≡ a
or-none None = refl
or-none (Some a) = refl

last-append : (property : Property) (declarations : List Declaration) (last : Declaration) → last_value property (declarations ++ last ∷ []) ≡ option_or (own_value property last) (last_value property declarations)
last-append property [] last = sym (or-none (own_value property last))
last-append property (declaration ∷ more) last =
    ap (λ (o : Option StyleValue). option_or o (own_value property declaration)) (last-append property more last)
    ∙ or-or (own_value property last) (last_value property more) (own_value property declaration)

own-other : (property : Property) (declaration : Declaration) → is_same_property declaration.property property ≡ false → own_value property declaration ≡ None
own-other property declaration e = ap (λ (t : Bool). if t then Some declaration.value else None) e

own-same : (property : Property) (declaration : Declaration) → is_same_property declaration.property property ≡ true → own_value property declaration ≡ Some declaration.value
own-same property declaration e = ap (λ (t : Bool). if t then Some declaration.value else None) e

same-property : (one other : Property) → is_same_property one other ≡ true → one ≡ other
same-property one other e = property_place-one one other (eqb-true (property_place one) (property_place other) e)

given-over : (found : Option StyleValue) (own front : Option StyleValue) → is_some found ≡ true → option_or found front ≡ option_or found (option_or own front)
given-over None own front e = absurd (cc e)
given-over (Some value) own front e = refl

-- what is given already isn't given again
pub last-kept : (property : Property) (found front rest : List Declaration) (last : Declaration) → rest ≡ front ++ last ∷ [] → is_some (last_value last.property found) ≡ true → option_or (last_value property found) (last_value property front) ≡ option_or (last_value property found) (last_value property rest)
last-kept property found front rest last is given =
    elim (cases_Bool (is_same_property last.property property)) [
      | inl e ↦ given-over (last_value property found) (own_value property last) (last_value property front) (subst (λ (p : Property). is_some (last_value p found) ≡ true) (same-property last.property property e) given)
      | inr e ↦ sym (ap (λ (o : Option StyleValue). option_or (last_value property found) (option_or o (last_value property front))) (own-other property last e))
    ]
    ∙ ap (option_or (last_value property found)) (sym (last-append property front last))
    ∙ ap (λ (l : List Declaration). option_or (last_value property found) (last_value property l)) (sym is)

swapped : (found own front : Option StyleValue) → (is_some found ≡ false) ⊎ (own ≡ None) → option_or (option_or own found) front ≡ option_or found (option_or own front)
swapped None None front h = refl
swapped None (Some value) front h = refl
swapped (Some value) None front h = refl
swapped (Some value) (Some other) front (inl e) = absurd (cc e)
swapped (Some value) (Some other) front (inr e) = absurd (cc e)

-- what isn't is given now
pub last-pushed : (property : Property) (found front rest : List Declaration) (last : Declaration) → rest ≡ front ++ last ∷ [] → is_some (last_value last.property found) ≡ false → option_or (last_value property (found ++ last ∷ [])) (last_value property front) ≡ option_or (last_value property found) (last_value property rest)
last-pushed property found front rest last is given =
    ap (λ (o : Option StyleValue). option_or o (last_value property front)) (last-append property found last)
    ∙ swapped (last_value property found) (own_value property last) (last_value property front) (parted (cases_Bool (is_same_property last.property property)))
    ∙ ap (option_or (last_value property found)) (sym (last-append property front last))
    ∙ ap (λ (l : List Declaration). option_or (last_value property found) (last_value property l)) (sym is)
  where
    parted : (is_same_property last.property property ≡ true) ⊎ (is_same_property last.property property ≡ false) → (is_some (last_value property found) ≡ false) ⊎ (own_value property last ≡ None)
    parted (inl e) = inl (subst (λ (p : Property). is_some (last_value p found) ≡ false) (same-property last.property property e) given)
    parted (inr e) = inr (own-other property last e)

-- whether one of the declarations is of the property
pub last-none : (property : Property) (declaration : Declaration) (more : List Declaration) → is_same_property declaration.property property ≡ false → is_some (last_value property (declaration ∷ more)) ≡ is_some (last_value property more)
last-none property declaration more e = ap is_some (ap (option_or (last_value property more)) (own-other property declaration e) ∙ or-none (last_value property more))

some-or : (a : Option StyleValue) (value : StyleValue) → is_some (option_or a (Some value)) ≡ true
some-or None value = refl
some-or (Some a) value = refl

pub last-some : (property : Property) (declaration : Declaration) (more : List Declaration) → is_same_property declaration.property property ≡ true → is_some (last_value property (declaration ∷ more)) ≡ true
last-some property declaration more e = ap (λ (o : Option StyleValue). is_some (option_or (last_value property more) o)) (own-same property declaration e) ∙ some-or (last_value property more) declaration.value

pub last-parted : (property : Property) (declaration : Declaration) (more : List Declaration) → is_some (last_value property (declaration ∷ more)) ≡ true → (declaration.property ≡ property) ⊎ (is_some (last_value property more) ≡ true)
last-parted property declaration more h = elim (cases_Bool (is_same_property declaration.property property)) [
  | inl e ↦ inl (same-property declaration.property property e)
  | inr e ↦ inr (sym (last-none property declaration more e) ∙ h)
]

-- `==` of properties
pub same-tested : (one other : Property) → is_same_property one other ≡ sameb property_type one other
same-tested one other = sym (ap (λ (n : ℕ). nat_eq n (tag_of property_type other)) (property_place-is one) ∙ ap (nat_eq (property_place one)) (property_place-is other))
