-- Declarations: `name: value`, parted by `;` (CSS level 1, 1 and 7.1). That a piece of another
-- form, with an unknown name or with a text that is no value is left out alone is CSS's rule too;
-- `!important` isn't known here, and so makes no value.
use Rattle.std.specs.Prelude.{◌≡◌, ℕ, ◌==◌, Bool, true, false, List, ◌∷◌, ◌++◌, Option, Some, None, find, option_map, option_and_then, if◌then◌else◌}
use Rattle.std.specs.List.{after_first, before_first, filter_map, list_any, slice_split}
use Rattle.std.specs.Str.{byte}
use Rattle.style_reader.specs.Characters.{is_word, trimmed}
use Rattle.style_reader.specs.Properties.{all_properties, name_of}
use Rattle.style_reader.specs.Values.{value_of}
use Rattle.style_reader.specs.declared.properties.Property.{Property}
use Rattle.style_reader.specs.declared.declarations.Declaration.{Declaration}

abbrev pub is_colon : ℕ → Bool
is_colon code = code == byte ":"

abbrev pub is_semicolon : ℕ → Bool
is_semicolon code = code == byte ";"

-- no code of the text passes the test
abbrev pub Lacks : (ℕ → Bool) → List ℕ → Type 0
Lacks test text = list_any test text ≡ false

-- The text is the declaration. The name goes up to the first colon and is the property's without
-- ASCII case; white may stand round it and round the value.
pub record IsDeclaration (declaration : Declaration) (text : List ℕ) : Type 0 where
  pub name : List ℕ
  pub value : List ℕ
  pub end_to_end : text ≡ name ++ (58 ∷ value)
  pub first_colon : Lacks is_colon name
  pub name_is : is_word (name_of declaration.property) (trimmed name) ≡ true
  pub value_is : value_of declaration.property value ≡ Some declaration.value

-- the property of that name
abbrev pub property_of : List ℕ → Option Property
property_of name = find (λ property. is_word (name_of property) name) all_properties

-- what the property is given
abbrev pub declaration_with : List ℕ → Property → Option Declaration
declaration_with value property =
    option_map (λ value. record { property = property; value = value }) (value_of property value)

-- the declaration that a text is, and none where it is of another form (that these are the
-- declarations above is a law)
unfoldable pub declaration_of : List ℕ → Option Declaration
declaration_of text =
    if list_any is_colon text
    then option_and_then (declaration_with (after_first is_colon text))
    (property_of (trimmed (before_first is_colon text))) else None

-- the declarations of a block or of an inline text are those of its pieces between semicolons that
-- are declarations, in order
unfoldable pub declarations_in : List ℕ → List Declaration
declarations_in text = filter_map declaration_of (slice_split is_semicolon text)
